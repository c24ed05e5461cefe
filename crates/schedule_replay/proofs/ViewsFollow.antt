-- The ends of masters, agents and applications that run.
use Rattle.std.proofs.Common.{ℕ, List, sym, ap, subst}
use Rattle.fuxi_terms.specs.Keys.{RowKey}
use Rattle.fuxi_terms.specs.Tallies.{TallyRecord}
use Rattle.party_ledgers.specs.Joins.{JoinRecord}
use Rattle.ledger_updates.specs.AllShown.{Down, App as Grants}
use Rattle.spec_net.specs.Net.{Net}
use Rattle.spec_net.specs.Ledgers.{Ledger}
use Rattle.spec_net.specs.Channels.{master_id, agent_id, app_id, party}
use Rattle.spec_world.specs.World.{World}
use Rattle.spec_world.specs.Safe.{Views, Safe}
use Rattle.spec_refinement.specs.SeenWorlds.{side_of}
use Rattle.agent_core.specs.AgentCores.{Up as AgentUp, IsUp as IsAgentUp}
use Rattle.app_master.specs.AppCores.{Up as AppUp, IsUp as IsAppUp}
use Rattle.fuxi_master.specs.Cores.{IsDown, IsApp}
use Rattle.schedule_replay.specs.Worlds.{WorldRecord, StandsFor}
use Rattle.schedule_replay.specs.Promises.{FollowEachOther, AllFollow}
use Rattle.schedule_replay.proofs.CoresStandFor.{PartiesRun, agent_runs, app_runs, master_runs}
use Rattle.schedule_replay.proofs.EndsFollow.{follows}

-- what each kind of core reads of a ledger
abbrev rows_in : Ledger → List (RowKey × ℕ)
rows_in l = l.rows

abbrev join_in : Ledger → JoinRecord
join_in l = record { epoch = l.head; table = l.rows }

abbrev tally_in : Ledger → TallyRecord
tally_in l = record { head = l.head; entries = l.entries }

-- a master of this epoch and an agent
agent_follows : (net : Net Ledger) (m e boot : ℕ) (d : Down) (up : AgentUp) → Views net → IsDown d e (side_of net (party master_id e) (agent_id m)) → IsAgentUp up boot (side_of net (party (agent_id m) boot) master_id)
    → FollowEachOther d up
agent_follows net m e boot d up views down is = record {
  forth = follows net (party (agent_id m) boot) (party master_id e) rows_in up.incoming d.outgoing views is.place down.own down.last (ap rows_in is.got) (ap rows_in down.shown);
  back = follows net (party master_id e) (party (agent_id m) boot) join_in d.incoming up.outgoing views down.place is.own is.last (ap join_in down.got) (ap join_in is.shown);
}

-- and an application
app_follows : (net : Net Ledger) (n e boot : ℕ) (d : Grants) (up : AppUp) → Views net → IsApp d e (side_of net (party master_id e) (app_id n)) → IsAppUp up boot (side_of net (party (app_id n) boot) master_id)
    → FollowEachOther d up
app_follows net n e boot d up views down is = record {
  forth = follows net (party (app_id n) boot) (party master_id e) tally_in up.incoming d.outgoing views is.place down.own down.last (ap tally_in is.got) (ap tally_in down.shown);
  back = follows net (party master_id e) (party (app_id n) boot) tally_in d.incoming up.outgoing views down.place is.own is.last (ap tally_in down.got) (ap tally_in is.shown);
}

pub all_follow : PartiesRun → (r : WorldRecord) (w : World) → StandsFor r w → Safe w → AllFollow r
all_follow run r w s safe = record {
  agents = λ e m M d a runs there is.
      let x = master_runs run r w e M s runs in
      let g = agent_runs run r w m a s is in
      agent_follows w.net m x.master.epoch g.agent.boot d a.up safe.views
      (subst (λ k. IsDown d k (side_of w.net (party master_id x.master.epoch) (agent_id m))) (sym x.stands.stands.epoch) (x.stands.stands.agents m d there))
      g.stands.up;
  apps = λ e n M d a runs there is.
      let x = master_runs run r w e M s runs in
      let g = app_runs run r w n a s is in
      app_follows w.net n x.master.epoch g.app.boot d a.up safe.views
      (subst (λ k. IsApp d k (side_of w.net (party master_id x.master.epoch) (app_id n))) (sym x.stands.stands.epoch) (x.stands.stands.apps n d there))
      g.stands.up;
}
