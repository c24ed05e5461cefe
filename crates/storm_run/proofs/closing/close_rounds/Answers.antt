use Rattle.std.proofs.Common.{◌≡◌, Ok, subst, arith, rules}
use Rattle.storm_run.specs.Storms.{round, rounds}
use Rattle.storm_run.specs.StormRuns.{Runs}
use Rattle.storm_run.proofs.StormsLemmas.{ran_more, ran_short}
use Rattle.storm_run.proofs.closing.close_rounds.Goals as goal

pub returns-in-Err-clause-runs : goal.returns-in-Err-clause-runs
returns-in-Err-clause-runs c =
    ran_short c.loop-turn.turn c.args.count (λ n. round) c.args.run.now c.loop-turn.run c.in-Err.stop c.loop-turn-test.true c.loop-turn.invariant.runs c.in-Err.ensures.runs

pub loop-turn-preserved : goal.loop-turn-preserved
loop-turn-preserved c = record {
  runs = ran_more c.loop-turn.turn (λ n. round) c.args.run.now c.loop-turn.run c.close_round.new.run c.loop-turn.invariant.runs c.in-Ok.ensures.runs;
  reached = c.in-Ok.ensures.reached;
  events = omega (arith, c.loop-turn.invariant.events, c.in-Ok.ensures.events);
}

pub returns-clause-runs : goal.returns-clause-runs
returns-clause-runs c =
    let all : c.loop-turn.turn ≡ c.args.count = search rules in
    subst (λ n. Runs (rounds n) c.args.run.now (Ok c.loop-turn.run)) all c.loop-turn.invariant.runs
