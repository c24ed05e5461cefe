use Rattle.spec_world.proofs.AdoptsLemmas.{all_adopt}
use Rattle.spec_world.proofs.KeepsGrantsLemmas.{all_report, all_stay}
use Rattle.spec_world.proofs.law.a_failover_keeps_grants.Goals as goal

pub returns : goal.returns
returns c = record {
  adopts = λ cluster events. all_adopt cluster events;
  reports = λ cluster events. all_report cluster events;
  stays = λ cluster events. all_stay cluster events;
}
