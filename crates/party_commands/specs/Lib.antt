pub mod PartyCommands
pub mod CommandedParties
pub mod CarriedCommands
