use Rattle.spec_world.proofs.InvariantKept.{always_credited}
use Rattle.spec_world.proofs.law.credited_is_given_back.Goals as goal

pub returns : goal.returns
returns c = always_credited
