use Rattle.schedule_replay.proofs.HeldOnce.{held_is}
use Rattle.schedule_replay.proofs.law.held_is_answered.Goals as goal

pub returns : goal.returns
returns c = held_is
