pub mod Leases
pub mod Histories
pub mod Files
pub mod LeaseLines
pub mod LeaseTexts
pub mod LeaseRuns
pub mod LeaseEnds
pub mod LeaseProgress
