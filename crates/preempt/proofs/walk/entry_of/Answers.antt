use Rattle.std.proofs.Common.{refl}
use Rattle.preempt.proofs.UnitSteps.{entry_found}
use Rattle.schedule_unit.specs.Units.{unit_record}
use Rattle.preempt.proofs.walk.entry_of.Goals as goal

pub returns-clause-entry : goal.returns-clause-entry
returns-clause-entry c = λ t i s at. entry_found t s i c.args.job.now at c.args.unit.0 (unit_record c.unit-asked.result.now) c.unit-asked.ensures.found c.requires _ c.app.ensures.number refl c.group.ensures.number refl refl
