pub mod Allotted
pub mod PlacingReads
pub mod SettlingRuns
