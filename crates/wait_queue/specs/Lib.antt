pub mod Neighbours
pub mod Queues
