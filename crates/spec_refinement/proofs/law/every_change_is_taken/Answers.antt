use Rattle.spec_refinement.proofs.EntriesLead.{good_leads, every_lead}
use Rattle.spec_refinement.proofs.law.every_change_is_taken.Goals as goal

pub returns-clause-good : goal.returns-clause-good
returns-clause-good p = λ w valid g. good_leads w valid g

pub returns-clause-always : goal.returns-clause-always
returns-clause-always p = λ c es i. every_lead c es i
