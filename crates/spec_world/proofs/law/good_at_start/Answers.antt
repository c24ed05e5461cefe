use Rattle.spec_world.proofs.GoodKept.{good_at_start}
use Rattle.spec_world.proofs.law.good_at_start.Goals as goal

pub returns : goal.returns
returns c = λ cluster. good_at_start cluster
