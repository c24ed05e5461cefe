use Rattle.wait_queue.proofs.QueuesLemmas.{has_place}
use Rattle.wait_queue.proofs.law.places.Goals as goal

pub returns : goal.returns
returns c = has_place
