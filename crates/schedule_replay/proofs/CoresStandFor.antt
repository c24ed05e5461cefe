-- For whom a core stands, and the tables of agents.
use Rattle.std.proofs.Common.{◌≡◌, ℕ, cond, nat_eq, Some, sym, ap, subst}
use Rattle.delta_channel.specs.declared.receiver.Place.{Place}
use Rattle.fuxi_terms.specs.Cluster.{ClusterRecord}
use Rattle.spec_net.specs.Net.{Net}
use Rattle.spec_net.specs.Ledgers.{Ledger}
use Rattle.spec_net.specs.Channels.{master_id, agent_id, party}
use Rattle.spec_world.specs.World.{World}
use Rattle.spec_world.specs.Parties.{agent_table}
use Rattle.spec_world.specs.Safe.{Safe, RowsFit}
use Rattle.spec_refinement.specs.SeenWorlds.{side_of}
use Rattle.agent_core.specs.AgentCores.{AgentCore, Up, IsUp, table_in}
use Rattle.app_master.specs.AppCores.{AppCore}
use Rattle.fuxi_master.specs.Cores.{MasterRecord}
use Rattle.running_parties.specs.Slots.{SlotsRecord, slot_at}
use Rattle.running_parties.specs.RunningMasters.{AreMastersOf, MasterAt, MasterRunsAs}
use Rattle.running_parties.specs.Peers.{AreAgentsOf, AreAppsOf, AgentAt, AppAt, AgentRunsAs, AppRunsAs}
use Rattle.schedule_replay.specs.Worlds.{WorldRecord, StandsFor}
use Rattle.schedule_replay.specs.Promises.{TablesFit}

-- who runs
-- by the law of those who run, as it is called for
pub record PartiesRun : Type 0 where
  pub agents : (w : World) (x : SlotsRecord AgentCore) → AreAgentsOf w x → (m : ℕ) → AgentAt w m (slot_at x m)
  pub apps : (w : World) (x : SlotsRecord AppCore) → AreAppsOf w x → (n : ℕ) → AppAt w n (slot_at x n)
  pub masters : (w : World) (x : SlotsRecord MasterRecord) → AreMastersOf w x → (e : ℕ) → MasterAt w e (slot_at x e)

pub agent_runs : PartiesRun → (r : WorldRecord) (w : World) (m : ℕ) (a : AgentCore) → StandsFor r w → slot_at r.agents m ≡ Some a → AgentRunsAs w m a
agent_runs run r w m a s is = subst (AgentAt w m) is (run.agents w r.agents s.agents m)

pub app_runs : PartiesRun → (r : WorldRecord) (w : World) (n : ℕ) (a : AppCore) → StandsFor r w → slot_at r.apps n ≡ Some a → AppRunsAs w n a
app_runs run r w n a s is = subst (AppAt w n) is (run.apps w r.apps s.apps n)

pub master_runs : PartiesRun → (r : WorldRecord) (w : World) (e : ℕ) (m : MasterRecord) → StandsFor r w → slot_at r.masters e ≡ Some m → MasterRunsAs w e m.core
master_runs run r w e m s is = subst (MasterAt w e) is (run.masters w r.masters s.masters e)

-- the table of a core is that of its agent
pub table_is : (net : Net Ledger) (m boot : ℕ) (d : Up) → IsUp d boot (side_of net (party (agent_id m) boot) master_id) → agent_table net (party (agent_id m) boot) ≡ table_in d
table_is net m boot d is =
    let seq = ap (λ (p : Place). p.seq) (sym is.place) in
    let own = ap (λ (l : Ledger). l.rows) is.shown in
    let got = ap (λ (l : Ledger). l.rows) is.got in
    λ i. cond (nat_eq (seq i) 0) (own i) (got i)

pub tables_fit : PartiesRun → (r : WorldRecord) (w : World) → StandsFor r w → Safe w → TablesFit r
tables_fit run r w s safe m a is =
    let g = agent_runs run r w m a s is in
    subst (λ (c : ClusterRecord). RowsFit c m (table_in a.up)) (sym s.cluster)
    (subst (RowsFit w.cluster m) (table_is w.net m g.agent.boot a.up g.stands.up) (safe.capacity m g.agent g.runs))
