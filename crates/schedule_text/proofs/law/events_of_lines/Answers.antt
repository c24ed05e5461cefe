use Rattle.schedule_text.proofs.Given.{given}
use Rattle.schedule_text.proofs.law.events_of_lines.Goals as goal

pub returns : goal.returns
returns c = given
