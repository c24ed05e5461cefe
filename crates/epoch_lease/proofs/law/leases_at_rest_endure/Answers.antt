use Rattle.epoch_lease.proofs.FilesLemmas.{rest_endures}
use Rattle.epoch_lease.proofs.law.leases_at_rest_endure.Goals as goal

pub returns : goal.returns
returns c = rest_endures
