use Rattle.spec_world.specs.Runs.{run}
use Rattle.spec_net.specs.Sound.{Bounded}
use Rattle.spec_world.proofs.SettledKept.{nothing_placeable}
use Rattle.spec_world.proofs.InvariantKept.{always_agree, always_counts, always_fit}
use Rattle.spec_net.proofs.BoundedLemmas.{move_bounded, silent_bounded}
use Rattle.spec_world.proofs.MovesWalk.{run_keeps}
use Rattle.spec_world.proofs.ViewsLemmas.{views_of}
use Rattle.spec_world.proofs.law.always_safe.Goals as goal

pub returns : goal.returns
returns c = λ cluster events. record {
  capacity = always_fit cluster events;
  once = λ a g found m. always_counts cluster events a g found m;
  views = views_of (run cluster events).net (run_keeps Bounded move_bounded cluster events silent_bounded);
  agreement = always_agree cluster events;
  settled = λ e M found a u m. nothing_placeable cluster events e M found a u m;
}
