pub mod Reached
pub mod CalmStates
pub mod CalmRounds
