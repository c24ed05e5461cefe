use Rattle.spec_progress.proofs.ProgressKept.{always_progresses}
use Rattle.spec_progress.proofs.law.every_run_can_progress.Goals as goal

pub returns : goal.returns
returns c = λ cluster events. (always_progresses cluster events).can
