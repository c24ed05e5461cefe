use Rattle.std.proofs.Common.{ap}
use Rattle.storm_run.specs.Storms.{all_taken}
use Rattle.storm_run.specs.StormRuns.{listed}
use Rattle.storm_run.proofs.run.Run.take_if.Goals as goal

pub returns-in-None-clause-runs : goal.returns-in-None-clause-runs
returns-in-None-clause-runs c = λ w good stands. record { world = w; is = ap (λ o. all_taken (listed o) w) c.in-None.is; good = good; stands = stands }
