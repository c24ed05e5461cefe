pub mod PartyAnswers
pub mod Slots
pub mod Peers
pub mod RunningMasters
pub mod SlotPlaces
