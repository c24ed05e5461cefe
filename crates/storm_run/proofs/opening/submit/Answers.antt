use Rattle.std.proofs.Common.{subst}
use Rattle.storm_run.specs.Storms.{taken}
use Rattle.storm_run.specs.StormRuns.{Runs, outcome}
use Rattle.storm_run.proofs.opening.submit.Goals as goal

pub returns-in-Ok-clause-runs : goal.returns-in-Ok-clause-runs
returns-in-Ok-clause-runs c = subst (λ e. Runs (λ w. taken w e) c.args.run.now (outcome c.take.new.self c.take.result)) c.in-Ok.ensures.event c.take.ensures.runs
