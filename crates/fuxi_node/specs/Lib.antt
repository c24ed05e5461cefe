pub mod NodeRuns
pub mod Visits
pub mod NodeEnds
pub mod NodeProgress
pub mod NodeStarts
pub mod MasterEnds
pub mod NodeInputs
