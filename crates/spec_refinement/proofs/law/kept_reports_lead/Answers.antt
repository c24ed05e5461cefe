use Rattle.spec_refinement.proofs.KeptReports.{kept_lead}
use Rattle.spec_refinement.proofs.law.kept_reports_lead.Goals as goal

pub returns : goal.returns
returns p = λ c M from to h l. kept_lead c M from to h l
