pub mod Decimals
pub mod ValidJobs
