use Rattle.spec_world.proofs.InvariantKept.{always_sound, always_shown}
use Rattle.spec_world.proofs.law.channels_hold.Goals as goal

pub returns-clause-sound : goal.returns-clause-sound
returns-clause-sound c = always_sound

pub returns-clause-shown : goal.returns-clause-shown
returns-clause-shown c = always_shown
