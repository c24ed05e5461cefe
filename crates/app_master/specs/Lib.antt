pub mod Usable
pub mod AppCores
pub mod Asking
pub mod AppCommands
pub mod AppPackets
pub mod AppSeen
