use Rattle.spec_roles.specs.MasterSteps.{said}
use Rattle.spec_roles.proofs.ServesWhenTold.{changes_serve, hearing_serves, hearing_reports}
use Rattle.spec_roles.proofs.law.serves_when_told_of_all.Goals as goal

pub returns : goal.returns
returns c = record {
  changes = λ cluster M x d e before behind. changes_serve cluster M x d e before behind;
  hearing = λ cluster M fresh taken from l before behind. hearing_serves cluster M fresh taken from (said cluster M from l) before behind;
  stays = λ cluster M fresh taken from l m h. hearing_reports cluster M fresh taken from (said cluster M from l) m h;
}
