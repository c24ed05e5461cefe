pub mod AgentParties
pub mod AppParties
pub mod MasterParties
pub mod OpenedMasters
pub mod NodeCommands
