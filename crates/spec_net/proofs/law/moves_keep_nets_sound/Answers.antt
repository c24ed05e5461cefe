use Rattle.std.proofs.Common.{refl}
use Rattle.spec_net.specs.Channels.{shape}
use Rattle.spec_net.proofs.BoundedLemmas.{move_bounded}
use Rattle.spec_net.proofs.SoundLemmas.{move_sound}
use Rattle.spec_net.proofs.law.moves_keep_nets_sound.Goals as goal

pub returns : goal.returns
returns c = record {
  bounded = λ net m b. move_bounded net m b;
  sound = λ net m allowed sound. move_sound shape net m refl allowed sound;
}
