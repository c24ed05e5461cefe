pub mod Contents
pub mod LineProgress
pub mod LineRuns
pub mod OpenedRuns
pub mod Openings
pub mod InputStatuses
pub mod Wholes
pub mod RunEnds
