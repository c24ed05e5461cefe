use Rattle.spec_net.specs.Sound.{Bounded}
use Rattle.spec_net.proofs.BoundedLemmas.{move_bounded, silent_bounded}
use Rattle.spec_world.proofs.MovesWalk.{run_keeps}
use Rattle.spec_world.proofs.law.nothing_is_past_its_end.Goals as goal

pub returns : goal.returns
returns c = λ cluster events. run_keeps Bounded move_bounded cluster events silent_bounded
