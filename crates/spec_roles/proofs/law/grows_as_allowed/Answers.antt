use Rattle.spec_roles.proofs.GrowsAllowed.{changes_grow, hearing_grows}
use Rattle.spec_roles.proofs.law.grows_as_allowed.Goals as goal

pub returns : goal.returns
returns c = record {
  changes = λ cluster M x d h e. changes_grow cluster M x d h e;
  hearing = λ cluster M fresh taken from l h. hearing_grows cluster M fresh taken from l h;
}
