use Rattle.place_pass.proofs.CandidatesLemmas.{first_decides}
use Rattle.place_pass.proofs.search.order.comes_first.Goals as goal

pub returns : goal.returns
returns c r s e = first_decides c.args.a c.args.b c.args.rest r s e
