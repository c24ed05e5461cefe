use Rattle.spec_roles.proofs.LosesCredited.{changes_lose, hearing_loses}
use Rattle.spec_roles.proofs.law.loses_only_what_is_credited.Goals as goal

pub returns : goal.returns
returns c = record {
  changes = λ cluster M x d e a u m falls. changes_lose cluster M x d e a u m falls;
  hearing = λ cluster M fresh taken from l h k t. hearing_loses cluster M fresh taken from l h k t;
}
