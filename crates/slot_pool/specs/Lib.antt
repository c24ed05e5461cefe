pub mod PoolLayout
pub mod Lends
pub mod Pools
