pub mod SeenWorlds
pub mod PartyJoins
pub mod Leading
pub mod States
pub mod SeenParties
