use Rattle.std.proofs.Common.{cond, nat_eq, ◌∙◌, ap}
use Rattle.place_pass.specs.Bounds.{MarkRecord, mark_at}
use Rattle.place_pass.proofs.marks.told.reset_one.Goals as goal

pub returns-clause-marks : goal.returns-clause-marks
returns-clause-marks c m = c.put.ensures.marks m ∙ ap (λ (k : MarkRecord). cond (nat_eq c.args.machine.0 m) k (mark_at c.args.marks.now m)) c.new.ensures
