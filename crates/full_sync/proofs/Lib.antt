pub mod TurnsLemmas
