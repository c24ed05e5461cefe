use Rattle.spec_progress.proofs.TurnsLemmas.{turns_bring_forward}
use Rattle.spec_progress.proofs.law.a_turn_brings_forward.Goals as goal

pub returns : goal.returns
returns c = turns_bring_forward
