use Rattle.schedule_replay.proofs.RestStands.{agents_part}
use Rattle.schedule_replay.proofs.law.agents_act.Goals as goal

pub returns : goal.returns
returns c = agents_part c.others_stay.ensures c.others_stay-2.ensures
