use Rattle.spec_world.proofs.SentTurnsLemmas.{all_turn}
use Rattle.spec_world.proofs.law.turns_go_as_changes.Goals as goal

pub returns : goal.returns
returns c = λ cluster events. all_turn cluster events
