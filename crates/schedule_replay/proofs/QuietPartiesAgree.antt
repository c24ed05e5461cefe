-- Quiet parties have the same numbers.
use Rattle.std.proofs.Common.{◌≡◌, true, sym, ◌∙◌, ap, subst}
use Rattle.fuxi_terms.specs.Cluster.{ClusterRecord, has_machine}
use Rattle.fuxi_terms.specs.Jobs.{is_known}
use Rattle.fuxi_terms.specs.Tables.{held_on}
use Rattle.spec_world.specs.World.{World}
use Rattle.spec_world.specs.Safe.{Safe, row_count}
use Rattle.spec_refinement.specs.SeenWorlds.{app_seen}
use Rattle.schedule_replay.specs.Worlds.{WorldRecord, IsWorld, StandsFor}
use Rattle.schedule_replay.specs.Promises.{AllAgree}
use Rattle.schedule_replay.proofs.CoresStandFor.{PartiesRun, agent_runs, app_runs, master_runs, table_is}
use Rattle.schedule_replay.proofs.HeldOnce.{held_is, machine_there}

pub all_agree : PartiesRun → (r : WorldRecord) (w : World) → IsWorld w → StandsFor r w → Safe w → AllAgree r
all_agree run r w is_world s safe e M runs quiet =
    let x = master_runs run r w e M s runs in
    let agree = safe.agreement e x.master x.runs (quiet w is_world s) in
    let entries = x.stands.stands.allots.placing.entries in
    record {
      agents = λ m a is n u.
          let g = agent_runs run r w m a s is in
          ap (λ rows. row_count rows n u) (sym (table_is w.net m g.agent.boot a.up g.stands.up))
          ∙ agree.agents m g.agent g.runs n u
          ∙ ap (λ t. held_on t n u m) (sym entries);
      apps = λ n a is known u m lu there.
          let g = app_runs run r w n a s is in
          let lm = machine_there a w n g.app r.cluster m g.stands s.cluster there in
          held_is a (app_seen w n g.app) u m g.stands lu lm
          ∙ agree.apps n g.app g.runs (subst (λ jobs. is_known jobs n ≡ true) (sym x.stands.stands.jobs) known) u m (subst (λ (c : ClusterRecord). has_machine c m ≡ true) s.cluster there)
          ∙ ap (λ t. held_on t n u m) (sym entries);
    }
