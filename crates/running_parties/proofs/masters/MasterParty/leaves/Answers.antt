use Rattle.running_parties.proofs.MastersLemmas.{left_role}
use Rattle.running_parties.proofs.masters.MasterParty.leaves.Goals as goal

pub returns : goal.returns
returns c = left_role c.args.header.now c.args.self.now c.leaves.result c.leaves.ensures
