use Rattle.std.proofs.Common.{arith}
use Rattle.work_plan.proofs.SettlesLemmas.{settled_one_more}
use Rattle.work_plan.proofs.settle.settle_units.Goals as goal

pub loop-unit-preserved : goal.loop-unit-preserved
loop-unit-preserved c =
    settled_one_more c.args.app.0 c.args.plan.now c.args.counts.now c.args.first c.loop-unit.unit c.args.workers.now c.loop-unit.workers c.settle_unit.new.workers c.loop-unit.numbers.items c.settle_unit.new.numbers.items
    c.loop-unit.auto.unit (omega (arith, c.loop-unit-test.true, c.requires.units)) c.loop-unit.invariant c.in_ok-settle_unit.ensures
