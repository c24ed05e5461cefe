use Rattle.std.proofs.Common.{[], ◌∷◌, Err}
use Rattle.fuxi_terms.specs.Counts.{then_do}
use Rattle.spec_world.specs.Events.{Submit}
use Rattle.storm_run.specs.Storms.{taken, job}
use Rattle.storm_run.specs.StormRuns.{outcome}
use Rattle.storm_run.proofs.StormsLemmas.{Part, then_ran, then_stopped}
use Rattle.storm_run.proofs.opening.submit_all.Goals as goal

first : Part
first w = taken w (Submit 1 (job 0 0 5 (100 ∷ 400 ∷ [])))

second : Part
second w = taken w (Submit 1 (job 1 0 3 (200 ∷ 300 ∷ [])))

third : Part
third w = taken w (Submit 1 (job 2 1 4 (50 ∷ 700 ∷ [])))

pub returns-in-Err-submit-clause-runs : goal.returns-in-Err-submit-clause-runs
unfolding first second third
returns-in-Err-submit-clause-runs c =
    then_ran first (λ w v. then_do (second v) third) c.args.run.now c.submit.new.run (Err c.in-Err-submit.stop) c.in-Ok.ensures.runs (λ w good stands. then_stopped second (λ v. third) c.submit.new.run c.in-Err-submit.stop c.in-Err-submit.ensures.runs)

pub returns-clause-runs : goal.returns-clause-runs
unfolding first second third
returns-clause-runs c =
    then_ran first (λ w v. then_do (second v) third) c.args.run.now c.submit.new.run (outcome c.submit-3.new.run c.submit-3.result) c.in-Ok.ensures.runs
    (λ w good stands. then_ran second (λ v. third) c.submit.new.run c.submit-2.new.run (outcome c.submit-3.new.run c.submit-3.result) c.in-Ok-submit.ensures.runs (λ v good stands. c.submit-3.ensures.runs))
