use Rattle.spec_world.proofs.OrdersKept.{kept_in_order}
use Rattle.spec_world.proofs.law.worlds_in_order.Goals as goal

pub returns-clause-start : goal.returns-clause-start
returns-clause-start c = λ c. record { masters = tt; agents = tt; apps = tt; bans = tt; banned = tt }

pub returns-clause-kept : goal.returns-clause-kept
returns-clause-kept c = kept_in_order
