use Rattle.std.proofs.Common.{◌≡◌, nat_eq, nat_lt, List, length, ap, subst, arith}
use Rattle.std.specs.Prelude.{◌&&◌}
use Rattle.fuxi_terms.specs.Cluster.{ClusterRecord, JobRecord}
use Rattle.fuxi_terms.specs.Jobs.{unit_count}
use Rattle.grant_table.specs.GrantTables.{TableRecord, IsSound, as_known}
use Rattle.allotment.specs.Allotted.{AllotmentRecord, Clears}
use Rattle.allotment.proofs.ClearsLemmas.{cleared_as, cleared_both, cleared_none}
use Rattle.allotment.proofs.Cleared.{LeftWithout, is_admitted, machine_more, none_on, job_left}
use Rattle.allotment.proofs.allotment_of.Allotment.clear_job.Goals as goal
use Rattle.allotment.proofs.allotment_of.Allotment.clear_job.Goals.{After-is_sound}

pub loop-number-preserved : goal.loop-number-preserved
loop-number-preserved c =
    let x = c.args.self.now in
    let n = c.loop-number.number in
    let a = c.args.app.0 in
    let one = subst (λ (js : List JobRecord). Clears (λ s. nat_eq s.job a && (nat_lt s.unit (unit_count (as_known js) a) && nat_eq s.machine n)) c.loop-number.self c.clear_units.new.self) (ap (λ (t : TableRecord). t.jobs) c.loop-number.invariant.table) c.in_ok-clear_units.ensures in
    cleared_as _ _ _ _ (machine_more x.table a n) (cleared_both _ _ _ _ _ c.loop-number.invariant one)

left : (c : After-is_sound) → LeftWithout (λ s. nat_eq s.job c.args.app.0) c.args.self.now c.loop-number.self
left c =
    let x = c.args.self.now in
    let a = c.args.app.0 in
    let same = ap (λ (k : ClusterRecord). length k.machines) c.cluster.ensures.cluster in
    let here = ap (λ (r : AllotmentRecord). length r.table.cluster.machines) c.self.view_is in
    let end : c.loop-number.number ≡ length x.table.cluster.machines = let p = c.loop-number-test.false in let q = c.loop-number.auto.number-end in let r = c.machines-machines.ensures.number in omega (arith, p, q, r, same, here) in
    let all = subst (λ n. Clears (λ s. nat_eq s.job a && (is_admitted x.table a s.unit && nat_lt s.machine n)) x c.loop-number.self) end c.loop-number.invariant in
    job_left a x c.loop-number.self (subst (λ (r : AllotmentRecord). IsSound r.table) c.self.view_is c.cluster.ensures.sound) (subst (λ (r : AllotmentRecord). IsSound r.table) c.self-2.view_is c.is_sound.ensures) all

pub returns-clause-stands : goal.returns-clause-stands
returns-clause-stands c = (left c).stands

pub returns-clause-table : goal.returns-clause-table
returns-clause-table c = (left c).table

pub loop-number-init : goal.loop-number-init
loop-number-init c = cleared_as _ _ _ _ (λ s. none_on s _ _) (cleared_none c.args.self.now c.requires)
