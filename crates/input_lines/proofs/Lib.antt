pub mod Known
pub mod LineProgressLemmas
pub mod LineRunsLemmas
pub mod OpenedRunsLemmas
pub mod OpeningsLemmas
pub mod Returns
pub mod WholesLemmas
pub mod RunEndsLemmas
