use Rattle.spec_roles.specs.Preemption.{tried}
use Rattle.spec_roles.proofs.LossesLemmas.{plan_loss, loss_room}
use Rattle.spec_roles.proofs.LossesNeeded.{plan_needed}
use Rattle.spec_roles.proofs.LossesSpared.{plan_spared}
use Rattle.spec_roles.proofs.law.preempting.Goals as goal

pub returns : goal.returns
returns c = record {
  grants = λ c M p sorted planned. plan_loss (tried c M) c M p sorted planned;
  room = λ c M p sorted planned. loss_room c M p.served p.losers (plan_loss (tried c M) c M p sorted planned);
  needed = λ c M p planned. plan_needed (tried c M) c M p planned;
  spared = λ c M p planned. plan_spared (tried c M) c M p planned;
}
