use Rattle.std.proofs.Common.{◌++◌, Err, sym}
use Rattle.fuxi_terms.specs.Counts.{then_do}
use Rattle.storm_run.specs.Storms.{all_taken}
use Rattle.storm_run.specs.StormRuns.{listed, outcome}
use Rattle.storm_run.proofs.StormsLemmas.{taken_then, then_ran, then_stopped, ran_same}
use Rattle.storm_run.proofs.run.Run.take_choice.Goals as goal

pub returns-in-Ok-clause-runs : goal.returns-in-Ok-clause-runs
returns-in-Ok-clause-runs c =
    let xs = listed c.args.choice.now.before in
    let ys = listed c.args.choice.now.event in
    ran_same (λ w. then_do (all_taken xs w) (all_taken ys)) (all_taken (xs ++ ys)) c.args.self.now (outcome c.take_if-in-Ok.new.self c.take_if-in-Ok.result) (λ w good stands. sym (taken_then xs ys w))
    (then_ran (all_taken xs) (λ w. all_taken ys) c.args.self.now c.take_if.new.self (outcome c.take_if-in-Ok.new.self c.take_if-in-Ok.result) c.in-Ok.ensures.runs (λ w good stands. c.take_if-in-Ok.ensures.runs))

pub returns-in-Err-clause-runs : goal.returns-in-Err-clause-runs
returns-in-Err-clause-runs c =
    let xs = listed c.args.choice.now.before in
    let ys = listed c.args.choice.now.event in
    ran_same (λ w. then_do (all_taken xs w) (all_taken ys)) (all_taken (xs ++ ys)) c.args.self.now (Err c.in-Err.stop) (λ w good stands. sym (taken_then xs ys w))
    (then_stopped (all_taken xs) (λ w. all_taken ys) c.args.self.now c.in-Err.stop c.in-Err.ensures.runs)
