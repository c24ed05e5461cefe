use Rattle.schedule_replay.proofs.FramesReadBack.{read_back, read_at, front_at}
use Rattle.schedule_replay.proofs.law.stored_is_read.Goals as goal

pub returns-clause-frame : goal.returns-clause-frame
returns-clause-frame c = read_back c.one_reading.ensures.one

pub returns-clause-place : goal.returns-clause-place
returns-clause-place c = read_at c.one_reading.ensures.one

pub returns-clause-front : goal.returns-clause-front
returns-clause-front c = front_at c.one_header.ensures
