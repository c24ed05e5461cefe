use Rattle.hard_state.proofs.BansLemmas.{none_marked}
use Rattle.hard_state.proofs.bans.NumberSet.none.Goals as goal

pub returns : goal.returns
returns c = none_marked 0 256
