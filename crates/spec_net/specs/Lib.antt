pub mod Net
pub mod Sound
pub mod Ledgers
pub mod Channels
pub mod Sides
