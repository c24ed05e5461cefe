pub mod BandEndsLemmas
pub mod InsertionStands
pub mod NeighboursLemmas
pub mod QueuesLemmas
pub mod RemovalStands
pub mod WalksLemmas
