use Rattle.std.proofs.Common.{◌≡◌, ◌<◌, ℕ, length, refl, sym, ◌∙◌, ap, subst, arith}
use Rattle.std.specs.List.{AllByRecursion}
use Rattle.fuxi_terms.specs.Cluster.{ClusterRecord}
use Rattle.spec_roles.specs.HardState.{with_job}
use Rattle.grant_table.specs.GrantTables.{TableRecord, IsSound}
use Rattle.hard_state.specs.Knowledge.{Knowledge}
use Rattle.ledger_updates.specs.declared.grants.StepChanges.{StepChanges}
use Rattle.std.specs.Prelude.{List, ◌+◌, Option, Some, None, set}
use Rattle.ledger_updates.specs.AllShown.{App}
use Rattle.fuxi_master.specs.Commands.{changed_by, admitting}
use Rattle.fuxi_master.specs.Heard.{Changes}
use Rattle.fuxi_master.specs.Seen.{core_of}
use Rattle.fuxi_master.proofs.JobAdmitted.{job_admitted, admitted_at, slots_wide}
use Rattle.fuxi_master.proofs.Machines.{kept_below}
use Rattle.fuxi_master.proofs.state.Core.admit.Goals as goal

pub index_mut-requires : goal.index_mut-requires
index_mut-requires c =
    let wide = slots_wide (c.app-app.result.0 + 1) c.args.self.apps.items in
    let now = ap (λ (os : List (Option App)). length os) c.in_ok-make_slots.ensures in
    omega (arith, wide, now)

pub returns-clause-changes : goal.returns-clause-changes
returns-clause-changes c =
    let x = core_of c.args.self in
    let j = c.args.job.now in
    let kept = c.requires.core.near.kept in
    let z = c.in_ok-allotment.allotment in
    let e = c.in_ok-allotment.ensures in
    let d = c.in_ok-start.field-0 in
    let news : StepChanges = record { reported = None; admitted = Some c.app-app.result; machines = c.in_ok-machines_in.field-0; job = None; credited = c.new.result } in
    let n : c.machines-machines.result ≡ length x.allotment.table.cluster.machines = c.machines-machines.ensures.number ∙ ap (λ (k : ClusterRecord). length k.machines) (c.cluster.ensures.cluster ∙ ap (λ (t : TableRecord). t.cluster) c.table.ensures) in
    subst (λ (os : List (Option App)). Changes news (changed_by (admitting j)) x (record x { known = c.admit.new.self; allotment = z; apps = set os c.app-app.result.0 (Some d) })) (sym c.in_ok-make_slots.ensures)
    (subst (λ (k : Knowledge). Changes news (changed_by (admitting j)) x (record (admitted_at x c.app-app.result.0 z d) { known = k })) (sym c.in_ok-admit.ensures.ok)
    (subst (λ (a : ℕ). Changes news (changed_by (admitting j)) x (record (admitted_at x a z d) { known = record x.known { jobs = with_job j x.known.jobs } })) (sym c.app-app.ensures.number)
    (job_admitted x c.requires.core (subst IsSound c.table.ensures c.cluster.ensures.sound) j c.requires.unknown z e.stands e.table e.touched e.turns d c.in_ok-start.ensures.value c.in_ok-start.ensures.stands news
    (record {
      reported_is = refl;
      admitted_is = λ i. Some (record { 0 = c.app-app.ensures.number i });
      job_is = refl;
      credited_is = c.new.ensures.items;
      machines_are = c.in_ok-machines_in.ensures ∙ kept_below c.machines-machines.result x.reported.numbers kept.rising (subst (λ k. AllByRecursion (λ m. m < k) x.reported.numbers) (sym n) kept.below);
    }))))
