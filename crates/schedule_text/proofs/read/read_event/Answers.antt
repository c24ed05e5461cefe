use Rattle.std.proofs.lemmas.Result.{IfOk-weaker}
use Rattle.schedule_text.specs.Halting.{anywhere}
use Rattle.schedule_text.proofs.Anywhere.{line_anywhere}
use Rattle.schedule_text.proofs.Given.{given}
use Rattle.schedule_text.proofs.read.read_event.Goals as goal

pub returns-clause-line : goal.returns-clause-line
returns-clause-line c = IfOk-weaker c.event_of.result _ _ (λ event is. line_anywhere event (given c.args.line.now (anywhere event) is)) c.event_of.ensures.ok
