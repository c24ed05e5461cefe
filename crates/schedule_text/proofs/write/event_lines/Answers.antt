use Rattle.schedule_text.proofs.RoundTrip.{event_back}
use Rattle.schedule_text.proofs.write.event_lines.Goals as goal

pub returns : goal.returns
returns c = event_back c.numbers.ensures.written
