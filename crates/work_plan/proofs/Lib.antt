pub mod CrewsLemmas
pub mod PlanKeysLemmas
pub mod RunAfterLemmas
pub mod WorkStatesLemmas
pub mod GivenLines
pub mod NamesLemmas
pub mod EndsLemmas
mod HistoriesGrow
mod NamesThatChange
mod Texts
mod Peers
mod Agents
mod SettlesLemmas
mod AgentHearsApps
mod Events
mod Told
mod PacketDelivered
mod RangesDelivered
mod StateLines
mod PacketsStandBehind
mod StartsAndPlans
pub mod WorkProgressLemmas
pub mod WorkRunStatesLemmas
