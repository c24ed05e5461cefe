use Rattle.spec_roles.specs.MasterSteps.{said, new_master}
use Rattle.spec_roles.proofs.BareMachines.{ready_bare, new_bare, changes_bare, hearing_bare}
use Rattle.spec_roles.proofs.law.banned_machines_are_bare.Goals as goal

pub returns : goal.returns
returns c = record {
  starts = λ cluster h e. ready_bare cluster (new_master h e) (new_bare h e);
  changes = λ cluster M x d h e. changes_bare cluster M x d h e;
  hearing = λ cluster M fresh taken from l h. hearing_bare cluster M fresh taken from (said cluster M from l) h;
}
