pub mod CoreSidesLemmas
pub mod HeardAlike
pub mod TurnMarks
pub mod TurnsAlikeLemmas
