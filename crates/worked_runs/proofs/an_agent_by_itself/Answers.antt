use Rattle.std.proofs.Common.{refl}
use Rattle.worked_runs.proofs.an_agent_by_itself.Goals as goal

pub returns : goal.returns
returns c = record { first = (refl, refl); second = refl; too_much = refl; below = refl; stays = refl; joins = (refl, refl, refl); turn = refl }
