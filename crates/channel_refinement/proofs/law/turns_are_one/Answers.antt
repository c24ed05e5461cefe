use Rattle.channel_refinement.proofs.AlikeLemmas.{turn_marked}
use Rattle.channel_refinement.proofs.law.turns_are_one.Goals as goal

pub returns : goal.returns
returns c = λ p q last l. turn_marked p q last l
