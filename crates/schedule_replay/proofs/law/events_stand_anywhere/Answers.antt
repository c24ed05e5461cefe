use Rattle.schedule_replay.proofs.LineEvents.{as_anywhere}
use Rattle.schedule_replay.proofs.law.events_stand_anywhere.Goals as goal

pub returns : goal.returns
returns c = as_anywhere
