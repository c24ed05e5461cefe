pub mod Everyone
pub mod OneEntryMore
pub mod Totals
