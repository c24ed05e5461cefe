pub mod Shown
pub mod Projections
pub mod AllShown
pub mod OfNumbers
pub mod TouchedNumbers
pub mod OneJob
