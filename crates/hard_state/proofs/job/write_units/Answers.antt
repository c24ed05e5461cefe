use Rattle.std.proofs.Common.{◌≡◌, ◌++◌, sym, ap, ◌∙◌, arith, get_or}
use Rattle.std.proofs.lemmas.Option.{unwrap_or-slice_get}
use Rattle.std.specs.Option.{unwrap_or}
use Rattle.fuxi_terms.specs.Cluster.{UnitRecord}
use Rattle.fuxi_terms.proofs.Lists.{written_more}
use Rattle.schedule_unit.specs.Units.{unit_record}
use Rattle.hard_state.specs.RecordBodies.{unit_bytes}
use Rattle.hard_state.proofs.job.write_units.Goals as goal

pub loop-number-preserved : goal.loop-number-preserved
loop-number-preserved c =
    let units = c.args.job.now.units in
    let i = c.loop-number.number in
    let u : UnitRecord = unit_record c.unit.result.now in
    let here : get_or units i u ≡ u = sym (unwrap_or-slice_get units i u) ∙ ap (λ o. unwrap_or o u) c.unit.ensures.found in
    written_more unit_bytes units i u c.loop-number.out.items c.write_unit.new.out.items _ (omega (arith, c.loop-number-test.true, c.units-number-end.ensures.number))
    (c.in_ok-write_unit.ensures ∙ ap (λ v. c.loop-number.out.items ++ unit_bytes v) (sym here)) c.loop-number.invariant
