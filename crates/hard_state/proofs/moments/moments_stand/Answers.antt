use Rattle.hard_state.proofs.MomentsLemmas.{stand_in_turn}
use Rattle.hard_state.proofs.moments.moments_stand.Goals as goal

pub returns : goal.returns
returns c = stand_in_turn c.written_is_read.ensures.read c.written_is_read.ensures.short
