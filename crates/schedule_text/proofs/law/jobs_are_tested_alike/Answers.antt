use Rattle.schedule_text.proofs.JobTests.{tested_alike}
use Rattle.schedule_text.proofs.law.jobs_are_tested_alike.Goals as goal

pub returns : goal.returns
returns c = tested_alike
