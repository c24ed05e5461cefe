pub mod Parcels
pub mod CoreSides
pub mod Testing
pub mod Sending
pub mod Bodies
pub mod Telling
pub mod Replies
