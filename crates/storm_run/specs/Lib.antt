pub mod Clusters
pub mod Generators
pub mod Choices
pub mod Storms
pub mod Summaries
pub mod StormRuns
pub mod StormEnds
