pub mod Places
pub mod CellsLemmas
pub mod ValidJobs
pub mod CellsMatchTable
pub mod Rooms
pub mod WaitingLinesLemmas
pub mod PlacersLemmas
pub mod FirstIsGrantable
pub mod Turns
pub mod IdleKept
mod BoundsLemmas
mod BoundsAfterChange
mod NumberedLemmas
mod FlagsTellWhoWaits
mod FirstKeysWait
mod KeptInOrder
mod CandidatesLemmas
mod PackedRanksLemmas
mod NotedMarksLemmas
mod SearchCountsLemmas
mod KeptLemmas
mod FirstOfLine
mod FirstByTurn
mod FirstStays
mod PlacerTreesLemmas
mod StandsAfterChange
mod LinedLemmas
mod StillLemmas
mod AskedLemmas
mod DemandScopesLemmas
mod SlotsLemmas
mod MarksAtChanges
mod StandsAtChanges
mod PathLemmas
mod DemandWalksLemmas
mod AskedTheSame
mod NextOfKind
mod PlainLemmas
mod ScenesLemmas
mod PassedMachines
