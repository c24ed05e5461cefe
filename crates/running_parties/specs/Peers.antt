-- The agents and the applications that run, in their slots, and what an application is asked.
use Rattle.std.specs.Prelude.{◌≡◌, ◌<◌, ℕ, List, [], Option, Some, None}
use Rattle.std.specs.Ordering.{nat_cmp}
use Rattle.std.specs.FinMap.Entries.{find}
use Rattle.fuxi_terms.specs.Cluster.{ClusterRecord}
use Rattle.fuxi_terms.specs.Jobs.{unit_count}
use Rattle.spec_net.specs.Channels.{agent_id, app_id}
use Rattle.spec_roles.specs.Apps.{AppCommand}
use Rattle.spec_world.specs.World.{World, Agent, App}
use Rattle.spec_world.specs.Good.{Good}
use Rattle.spec_world.specs.Events.{asks, agent_started, app_started}
use Rattle.spec_refinement.specs.SeenWorlds.{agent_seen, app_seen, has_of}
use Rattle.agent_core.specs.AgentCores.{AgentCore, StandsFor as StandsForAgent}
use Rattle.app_master.specs.AppCores.{AppCore, StandsFor as StandsForApp}
use Rattle.schedule_text.specs.Printing.{as_refusal}
use Rattle.schedule_text.specs.declared.refusal.Refusal.{Refusal}
use Rattle.spec_refinement.specs.SeenParties.{Role, OfMaster, OfAgent, OfApp, Agents, Apps, Acts, agent_starting, app_starting}
use Rattle.running_parties.specs.Slots.{SlotsRecord, AreOf, StepIn, NoneIn, RefusedIn}

abbrev pub AgentStands : AgentCore → Role → Type 0
AgentStands a (OfMaster r) = ⊥
AgentStands a (OfAgent r) = StandsForAgent a r
AgentStands a (OfApp r) = ⊥

abbrev pub AppStands : AppCore → Role → Type 0
AppStands a (OfMaster r) = ⊥
AppStands a (OfAgent r) = ⊥
AppStands a (OfApp r) = StandsForApp a r

abbrev pub agent_steps : AgentCore → ℕ
agent_steps a = a.steps

abbrev pub app_steps : AppCore → ℕ
app_steps a = a.steps

abbrev pub AreAgentsOf : World → SlotsRecord AgentCore → Type 0
AreAgentsOf w x = AreOf AgentStands Agents w x

abbrev pub AreAppsOf : World → SlotsRecord AppCore → Type 0
AreAppsOf w x = AreOf AppStands Apps w x

-- who runs in the world, for whom a core stands
pub record AgentRunsAs (w : World) (m : ℕ) (a : AgentCore) : Type 0 where
  pub agent : Agent
  pub runs : find nat_cmp m w.agents ≡ Some agent
  pub stands : StandsForAgent a (agent_seen w m agent)

pub record AppRunsAs (w : World) (n : ℕ) (a : AppCore) : Type 0 where
  pub app : App
  pub runs : find nat_cmp n w.apps ≡ Some app
  pub stands : StandsForApp a (app_seen w n app)

abbrev pub AgentAt : World → ℕ → Option AgentCore → Type 0
AgentAt w m None = find nat_cmp m w.agents ≡ None
AgentAt w m (Some a) = AgentRunsAs w m a

abbrev pub AppAt : World → ℕ → Option AppCore → Type 0
AppAt w n None = find nat_cmp n w.apps ≡ None
AppAt w n (Some a) = AppRunsAs w n a

-- Starts, on a machine that has so much, and of a job that has so many units
pub record AgentStartsIn (w : World) (m b : ℕ) (new : SlotsRecord AgentCore) : Type 0 where
  pub stand : AreAgentsOf (agent_started w m b) new
  pub acts : Acts w (agent_started w m b) Agents m (agent_starting w m b) []

abbrev pub AgentStartInWorld : ℕ → List ℕ → ℕ → SlotsRecord AgentCore → SlotsRecord AgentCore → Type 0
AgentStartInWorld m has b old new = (w : World) → Good w → AreAgentsOf w old → has ≡ has_of w m → w.boots (agent_id m) < b → AgentStartsIn w m b new

pub record AppStartsIn (w : World) (a b : ℕ) (new : SlotsRecord AppCore) : Type 0 where
  pub stand : AreAppsOf (app_started w a b) new
  pub acts : Acts w (app_started w a b) Apps a (app_starting w a b) []

abbrev pub AppStartInWorld : ℕ → ℕ → ClusterRecord → ℕ → SlotsRecord AppCore → SlotsRecord AppCore → Type 0
AppStartInWorld a units c b old new = (w : World) → Good w → AreAppsOf w old → c ≡ w.cluster → units ≡ unit_count w.hard.jobs a → w.boots (app_id a) < b → AppStartsIn w a b new

-- Asking: done as the world does it, which prints nothing, or refused as the world refuses it
abbrev pub AsksOneIn : World → ℕ → AppCommand → SlotsRecord AppCore → Option (Option Refusal) → Type 0
AsksOneIn w a x after None = NoneIn AppStands Apps w after (asks w a x)
AsksOneIn w a x after (Some None) = StepIn AppStands Apps w a after [] (asks w a x) []
AsksOneIn w a x after (Some (Some why)) = RefusedIn AppStands Apps w after (asks w a x) (as_refusal why)

abbrev pub AskInWorld : ℕ → AppCommand → SlotsRecord AppCore → SlotsRecord AppCore → Option (Option Refusal) → Type 0
AskInWorld a x old new answer = (w : World) → Good w → AreAppsOf w old → AsksOneIn w a x new answer
