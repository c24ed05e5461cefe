pub mod Untouched
pub mod ReplaysLemmas
pub mod RunStatesLemmas
pub mod StormTextsLemmas
pub mod LeaseWritesItsText
pub mod WorkWritesItsText
pub mod OutcomesLemmas
