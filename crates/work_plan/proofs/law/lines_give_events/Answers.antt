use Rattle.work_plan.proofs.GivenLines.{line_given}
use Rattle.work_plan.proofs.law.lines_give_events.Goals as goal

pub returns : goal.returns
returns c = line_given
