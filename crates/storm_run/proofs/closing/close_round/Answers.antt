use Rattle.storm_run.specs.Storms.{with_delivery, master_turned, peers_turned}
use Rattle.storm_run.specs.StormRuns.{outcome}
use Rattle.storm_run.proofs.StormsLemmas.{then_ran, then_stopped}
use Rattle.storm_run.proofs.closing.close_round.Goals as goal

pub returns-in-Ok-clause-runs : goal.returns-in-Ok-clause-runs
returns-in-Ok-clause-runs c = then_ran (with_delivery master_turned) (λ w. with_delivery peers_turned) c.args.run.now c.tell_peers.new.run (outcome c.tell_master.new.run c.tell_master.result) c.in-Ok.ensures.runs (λ w good stands. c.tell_master.ensures.runs)

pub returns-in-Err-clause-runs : goal.returns-in-Err-clause-runs
returns-in-Err-clause-runs c = then_stopped (with_delivery master_turned) (λ w. with_delivery peers_turned) c.args.run.now c.in-Err.stop c.in-Err.ensures.runs
