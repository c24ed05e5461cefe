pub mod Layouts
pub mod Paths
pub mod Trees
pub mod PlaceSets
