use Rattle.spec_roles.proofs.StepEnds.{ends_at}
use Rattle.spec_roles.proofs.law.step_ends.Goals as goal

pub returns : goal.returns
returns c = λ c sides M even_if_equal q. ends_at c sides M even_if_equal q
