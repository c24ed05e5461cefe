use Rattle.schedule_replay.proofs.RestStands.{apps_part}
use Rattle.schedule_replay.proofs.law.apps_act.Goals as goal

pub returns : goal.returns
returns c = apps_part c.others_stay.ensures c.others_stay-2.ensures
