use Rattle.hard_state.proofs.OpensAsTheFile.{begins_where}
use Rattle.hard_state.proofs.opening.begin.Goals as goal

pub returns-clause-told : goal.returns-clause-told
returns-clause-told g c = begins_where _ _ c.write_through.result c.write_through.ensures.told
