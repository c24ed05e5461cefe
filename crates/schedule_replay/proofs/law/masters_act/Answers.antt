use Rattle.schedule_replay.proofs.RestStands.{masters_part, orders_leave}
use Rattle.schedule_replay.proofs.law.masters_act.Goals as goal

pub returns-clause-acts : goal.returns-clause-acts
returns-clause-acts c = masters_part c.others_stay.ensures c.others_stay-2.ensures

pub returns-clause-orders : goal.returns-clause-orders
returns-clause-orders c = orders_leave c.others_stay.ensures c.others_stay-2.ensures
