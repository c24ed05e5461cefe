pub mod JobFaults
pub mod NumberWords
pub mod Units
