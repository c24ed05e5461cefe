pub mod Roles
pub mod HeardPackets
pub mod FrameReaders
pub mod Rounds
pub mod NodeLines
pub mod PartyEvents
pub mod NodeTexts
pub mod NodeHalts
