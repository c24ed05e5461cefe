use Rattle.std.proofs.Common.{◌<◌, ℕ, nat_eq, nat_lt, List, ap, subst, arith}
use Rattle.std.specs.Prelude.{◌&&◌}
use Rattle.fuxi_terms.specs.Cluster.{JobRecord}
use Rattle.fuxi_terms.specs.Jobs.{unit_count}
use Rattle.grant_table.specs.GrantTables.{TableRecord, IsSound, as_known}
use Rattle.allotment.specs.Allotted.{AllotmentRecord, Clears}
use Rattle.allotment.proofs.ClearsLemmas.{cleared_as, cleared_both}
use Rattle.allotment.proofs.Cleared.{LeftWithout, job_more, machine_left}
use Rattle.allotment.proofs.allotment_of.Allotment.clear_machine.Goals as goal
use Rattle.allotment.proofs.allotment_of.Allotment.clear_machine.Goals.{After-is_sound-2}

pub loop-number-preserved : goal.loop-number-preserved
loop-number-preserved c =
    let x = c.args.self.now in
    let n = c.loop-number.number in
    let m = c.args.machine.0 in
    let one = subst (λ (js : List JobRecord). Clears (λ s. nat_eq s.job n && (nat_lt s.unit (unit_count (as_known js) n) && nat_eq s.machine m)) c.loop-number.self c.clear_units.new.self) (ap (λ (t : TableRecord). t.jobs) c.loop-number.invariant.table) c.in_ok-clear_units.ensures in
    cleared_as _ _ _ _ (job_more x.table n m) (cleared_both _ _ _ _ _ c.loop-number.invariant one)

left : (c : After-is_sound-2) → LeftWithout (λ s. nat_eq s.machine c.args.machine.0) c.args.self.now c.loop-number.self
left c =
    let x = c.args.self.now in
    let m = c.args.machine.0 in
    let n = c.loop-number.number in
    let low : (a : ℕ) → 0 < unit_count (as_known x.table.jobs) a → a < n = λ a some. let below = c.numbers-number-end.ensures a some in let end = c.loop-number-test.false in omega (arith, below, end) in
    machine_left n m x c.loop-number.self (subst (λ (r : AllotmentRecord). IsSound r.table) c.self.view_is c.is_sound.ensures) (subst (λ (r : AllotmentRecord). IsSound r.table) c.self-2.view_is c.is_sound-2.ensures) low c.loop-number.invariant

pub returns-clause-stands : goal.returns-clause-stands
returns-clause-stands c = (left c).stands

pub returns-clause-table : goal.returns-clause-table
returns-clause-table c = (left c).table
