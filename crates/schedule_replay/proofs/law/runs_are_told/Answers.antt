use Rattle.schedule_replay.proofs.ToldLemmas.{whole_told, bad_told, front_told}
use Rattle.schedule_replay.proofs.law.runs_are_told.Goals as goal

pub returns-clause-whole : goal.returns-clause-whole
returns-clause-whole c = whole_told

pub returns-clause-bad : goal.returns-clause-bad
returns-clause-bad c = bad_told

pub returns-clause-front : goal.returns-clause-front
returns-clause-front c = front_told
