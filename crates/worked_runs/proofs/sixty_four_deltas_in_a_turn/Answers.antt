use Rattle.std.proofs.Common.{refl}
use Rattle.worked_runs.proofs.sixty_four_deltas_in_a_turn.Goals as goal

pub returns : goal.returns
returns c = refl
