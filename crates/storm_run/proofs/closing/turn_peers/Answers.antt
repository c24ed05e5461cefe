use Rattle.storm_run.specs.Storms.{each, taken, peers_turned}
use Rattle.spec_world.specs.Events.{TurnAgent, TurnApp}
use Rattle.storm_run.specs.StormRuns.{outcome}
use Rattle.storm_run.proofs.StormsLemmas.{then_ran, then_stopped}
use Rattle.storm_run.proofs.closing.turn_peers.Goals as goal

pub returns-in-Ok-clause-runs : goal.returns-in-Ok-clause-runs
unfolding peers_turned
returns-in-Ok-clause-runs c =
    then_ran (each 8 (λ m w. taken w (TurnAgent m))) (λ w. each 3 (λ a w. taken w (TurnApp a))) c.args.run.now c.tell_each.new.self (outcome c.tell_each-in-Ok.new.self c.tell_each-in-Ok.result) c.in-Ok.ensures.runs (λ w good stands. c.tell_each-in-Ok.ensures.runs)

pub returns-in-Err-clause-runs : goal.returns-in-Err-clause-runs
unfolding peers_turned
returns-in-Err-clause-runs c = then_stopped (each 8 (λ m w. taken w (TurnAgent m))) (λ w. each 3 (λ a w. taken w (TurnApp a))) c.args.run.now c.in-Err.stop c.in-Err.ensures.runs
