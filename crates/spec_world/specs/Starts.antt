-- What starts and stops of parties make of a run.
use Rattle.std.specs.Prelude.{◌≡◌, ℕ, ◌<◌, List, [], ◌∷◌, ◌++◌, Some, None}
use Rattle.std.specs.Ordering.{nat_cmp}
use Rattle.std.specs.FinMap.Entries.{find}
use Rattle.fuxi_terms.specs.Cluster.{ClusterRecord}
use Rattle.spec_net.specs.Channels.{agent_id, app_id, party}
use Rattle.spec_world.specs.World.{World, Agent, App}
use Rattle.spec_world.specs.Events.{Event, StopMaster, StartAgent, StartApp, world_step}
use Rattle.spec_world.specs.Parties.{agent_table, app_held}
use Rattle.spec_world.specs.Runs.{run}
use Rattle.spec_world.specs.EventSteps.{IsDone}

-- A stopped master stays so: behind a stop that is not refused no master of its epoch ever runs; and what runs of a machine or a job behind a start that is not
-- refused has a greater boot than what it replaced
pub record StaysStopped (c : ClusterRecord) (before after : List Event) : Type 0 where
  pub masters : (e : ℕ) → IsDone (run c before) (StopMaster e) → find nat_cmp e (run c (before ++ StopMaster e ∷ after)).masters ≡ None
  pub agents : (m b : ℕ) (g h : Agent) → find nat_cmp m (run c before).agents ≡ Some g → IsDone (run c before) (StartAgent m b) → find nat_cmp m (run c (before ++ StartAgent m b ∷ after)).agents ≡ Some h → g.boot < h.boot
  pub apps : (a b : ℕ) (g h : App) → find nat_cmp a (run c before).apps ≡ Some g → IsDone (run c before) (StartApp a b) → find nat_cmp a (run c (before ++ StartApp a b ∷ after)).apps ≡ Some h → g.boot < h.boot

-- an agent that enforces nothing
pub record IsNewAgent (w : World) (m b : ℕ) : Type 0 where
  pub agent : Agent
  pub runs : find nat_cmp m w.agents ≡ Some agent
  pub boot : agent.boot ≡ b
  pub table : agent_table w.net (party (agent_id m) b) ≡ []

-- an application that holds and carries nothing
pub record IsNewApp (w : World) (a b : ℕ) : Type 0 where
  pub app : App
  pub runs : find nat_cmp a w.apps ≡ Some app
  pub boot : app.boot ≡ b
  pub carried : app.carried ≡ []
  pub held : (u m : ℕ) → app_held w.net (party (app_id a) b) app u m ≡ 0

-- Starts with nothing: right behind its start an agent enforces nothing, and an application holds and carries nothing
pub record StartsWithNothing (w : World) : Type 0 where
  pub agents : (m b : ℕ) → IsDone w (StartAgent m b) → IsNewAgent (world_step w (StartAgent m b)).world m b
  pub apps : (a b : ℕ) → IsDone w (StartApp a b) → IsNewApp (world_step w (StartApp a b)).world a b
