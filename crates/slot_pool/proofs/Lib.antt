pub mod PoolLayoutLemmas
pub mod PoolsLemmas
