use Rattle.storm_run.specs.Storms.{rounds, with_delivery, master_turned, closed}
use Rattle.storm_run.specs.StormRuns.{outcome}
use Rattle.storm_run.proofs.StormsLemmas.{then_ran, then_stopped}
use Rattle.storm_run.proofs.closing.close.Goals as goal

pub returns-in-Ok-clause-runs : goal.returns-in-Ok-clause-runs
unfolding closed
returns-in-Ok-clause-runs c = then_ran (rounds 8) (λ w. with_delivery master_turned) c.args.run.now c.close_rounds.new.run (outcome c.tell_peers.new.run c.tell_peers.result) c.in-Ok.ensures.runs (λ w good stands. c.tell_peers.ensures.runs)

pub returns-in-Err-clause-runs : goal.returns-in-Err-clause-runs
unfolding closed
returns-in-Err-clause-runs c = then_stopped (rounds 8) (λ w. with_delivery master_turned) c.args.run.now c.in-Err.stop c.in-Err.ensures.runs
