pub mod DeskLines
pub mod Saying
pub mod Preparing
pub mod DeskTexts
pub mod DeskRuns
pub mod DeskProgress
pub mod DeskReports
pub mod DeskWords
