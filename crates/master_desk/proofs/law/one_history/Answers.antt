use Rattle.master_desk.proofs.DesksLemmas.{one_history}
use Rattle.master_desk.proofs.law.one_history.Goals as goal

pub returns : goal.returns
returns c = one_history c.one_call.ensures
