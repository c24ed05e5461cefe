use Rattle.std.proofs.Common.{◌≡◌, nat_eq, nat_lt, ap, subst, arith}
use Rattle.std.specs.Prelude.{◌&&◌}
use Rattle.fuxi_terms.specs.Jobs.{unit_count}
use Rattle.grant_table.specs.GrantTables.{as_known}
use Rattle.allotment.specs.Allotted.{AllotmentRecord, Clears}
use Rattle.allotment.proofs.ClearsLemmas.{cleared_as, cleared_both, unit_more, table_units_few}
use Rattle.allotment.proofs.allotment_of.Allotment.clear_units.Goals as goal

pub loop-number-preserved : goal.loop-number-preserved
loop-number-preserved c = cleared_as _ _ _ _ (unit_more c.args.app.0 c.loop-number.number c.args.machine.0) (cleared_both _ _ _ _ _ c.loop-number.invariant c.in_ok-clear.ensures)

pub returns : goal.returns
returns c =
    let same = ap (λ (x : AllotmentRecord). unit_count (as_known x.table.jobs) c.args.app.0) c.self.view_is in
    let few = table_units_few c.self.inside.table.jobs c.self.invariant.sound.in_order c.args.app.0 in
    let all : c.loop-number.number ≡ unit_count (as_known c.args.self.now.table.jobs) c.args.app.0 = omega (arith, same, few, c.units-units.ensures.number, c.min-number-end.ensures, c.loop-number-test.false, c.loop-number.auto.number-end) in
    subst (λ n. Clears (λ s. nat_eq s.job c.args.app.0 && (nat_lt s.unit n && nat_eq s.machine c.args.machine.0)) c.args.self.now c.loop-number.self) all c.loop-number.invariant
