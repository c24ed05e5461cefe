pub mod Reported
pub mod KeptReports
