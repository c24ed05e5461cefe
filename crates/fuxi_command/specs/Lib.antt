pub mod CommandWords
pub mod CommandReports
pub mod RunStates
pub mod StormTexts
pub mod Outcomes
