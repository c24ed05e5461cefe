use Rattle.spec_refinement.proofs.LeadsLemmas.{rows_lead, grants_lead, demands_lead, reports_lead}
use Rattle.spec_refinement.proofs.law.histories_lead.Goals as goal

pub returns : goal.returns
returns c = record {
  rows = λ has m h r. rows_lead has m h r;
  grants = λ a h t. grants_lead a h t;
  demands = λ a excess h t r. demands_lead a excess h t r;
  reports = λ m excess h r. reports_lead m excess h r;
}
