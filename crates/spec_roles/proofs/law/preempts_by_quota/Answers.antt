use Rattle.spec_roles.specs.Preemption.{tried}
use Rattle.spec_roles.proofs.TakenByQuotaLemmas.{plan_by_quota}
use Rattle.spec_roles.proofs.law.preempts_by_quota.Goals as goal

pub returns : goal.returns
returns c = λ cluster M p e. plan_by_quota (tried cluster M) cluster M p e
