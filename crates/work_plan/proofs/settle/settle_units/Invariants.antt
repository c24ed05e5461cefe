use Rattle.work_plan.specs.Settles.{SettlesUnits}
use Rattle.work_plan.proofs.settle.settle_units.Given as goal

abbrev pub invariant-loop-unit : goal.invariant-loop-unit
invariant-loop-unit l = SettlesUnits l.app.0 l.plan l.counts l.first l.unit l.fn.workers l.workers l.numbers.items
