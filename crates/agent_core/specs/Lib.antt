pub mod AgentCores
pub mod Answering
pub mod AgentSeen
