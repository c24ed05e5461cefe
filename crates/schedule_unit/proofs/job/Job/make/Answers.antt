use Rattle.std.proofs.Common.{sym, ◌∙◌, arith}
use Rattle.schedule_unit.proofs.ValidJobs.{valid_made}
use Rattle.schedule_unit.proofs.job.Job.make.Goals as goal

pub invariant_of-result : goal.invariant_of-result
invariant_of-result c =
    valid_made c.args.app.0 c.args.group.0 c.args.resources c.args.units.now _ (omega arith) (omega arith) (omega arith) (sym c.is_empty.ensures ∙ c.if-is_empty.false) (omega arith) c.in_ok-units.ensures.no_fault c.in_ok-units.ensures.units

pub returns-clause-valid : goal.returns-clause-valid
returns-clause-valid c =
    valid_made c.args.app.0 c.args.group.0 c.args.resources c.args.units.now _ (omega arith) (omega arith) (omega arith) (sym c.is_empty.ensures ∙ c.if-is_empty.false) (omega arith) c.in_ok-units.ensures.no_fault c.in_ok-units.ensures.units
