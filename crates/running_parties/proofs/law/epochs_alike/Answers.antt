use Rattle.running_parties.proofs.MastersLemmas.{epochs_same}
use Rattle.running_parties.proofs.law.epochs_alike.Goals as goal

pub returns : goal.returns
returns c = epochs_same
