-- What holds in every state beside Good, and progress rests on it.
use Rattle.std.specs.Prelude.{◌≡◌, ℕ, ◌<◌, ◌≤◌, true, Some}
use Rattle.std.specs.Ordering.{nat_cmp}
use Rattle.std.specs.FinMap.Entries.{find}
use Rattle.fuxi_terms.specs.Cluster.{ClusterRecord}
use Rattle.fuxi_terms.specs.Numbers.{has_number}
use Rattle.spec_net.specs.Net.{Net, Party, Id, unknown}
use Rattle.spec_net.specs.Ledgers.{Ledger}
use Rattle.spec_net.specs.Channels.{agent_id}
use Rattle.spec_roles.specs.Masters.{Master}
use Rattle.spec_roles.specs.MasterSteps.{master_party, ready}
use Rattle.spec_world.specs.World.{World, Agent, App, top}
use Rattle.spec_progress.specs.Reached.{AreReached}

-- a running master: it counts from 1, it has nothing left to do, and it has as reported each machine of whose agent it took a report
pub record IsDone (c : ClusterRecord) (net : Net Ledger) (M : Master) : Type 0 where
  pub counted : 1 ≤ M.epoch
  pub done : ready c M ≡ M
  pub reports : (m : ℕ) → 1 ≤ (net.links (master_party M) (agent_id m)).seq → has_number m M.reported ≡ true

-- what is acknowledged is reached; whoever never ran knows nobody; and what runs counts from 1
pub record CanProgress (w : World) : Type 0 where
  pub reached : AreReached w.net
  pub unstarted : (p : Party) (q : Id) → top w p.id < p.inc → w.net.links p q ≡ unknown
  pub masters : (e : ℕ) (M : Master) → find nat_cmp e w.masters ≡ Some M → IsDone w.cluster w.net M
  pub agents : (m : ℕ) (g : Agent) → find nat_cmp m w.agents ≡ Some g → 1 ≤ g.boot
  pub apps : (a : ℕ) (g : App) → find nat_cmp a w.apps ≡ Some g → 1 ≤ g.boot
