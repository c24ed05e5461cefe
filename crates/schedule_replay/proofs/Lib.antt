pub mod FrameBytes
pub mod FrameEndsLemmas
pub mod FramesReadBack
pub mod PacketPoolsLemmas
pub mod FullPiecesLemmas
mod Walks
mod Loops
mod Found
mod Whole
mod Lists
mod Peers
pub mod EmptyFile
pub mod StopLeaves
pub mod CommandSteps
pub mod MasterCommandsLemmas
pub mod LineEvents
pub mod OrdersAreEvents
pub mod RestStands
pub mod MovesLemmas
pub mod ActsByOneStep
pub mod MastersActInWorld
pub mod PeersActInWorld
pub mod HeardInWorld
pub mod ReplayTextsLemmas
pub mod SentIsKept
pub mod TurnSendsOrStops
pub mod StepAfterStep
pub mod StoredIsDelivered
pub mod RangeIsDeliveries
pub mod JudgementIsBans
pub mod WorldStepsLemmas
pub mod EmptyWorldStands
pub mod HaltsInWorldLemmas
pub mod CoresStandFor
pub mod EndsFollow
pub mod HeldOnce
pub mod ViewsFollow
pub mod QuietPartiesAgree
pub mod NothingIsPlaceable
pub mod GivenLemmas
pub mod ScheduleProgressLemmas
pub mod ScheduleRunsLemmas
pub mod ToldLemmas
