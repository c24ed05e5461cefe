pub mod OneOrder
pub mod MarkedLemmas
