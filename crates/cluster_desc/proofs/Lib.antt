pub mod ReadClusters
pub mod Steps
pub mod Values
