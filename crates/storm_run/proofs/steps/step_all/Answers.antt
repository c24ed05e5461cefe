use Rattle.std.proofs.Common.{◌≡◌, Ok, subst, arith, rules}
use Rattle.storm_run.specs.Storms.{all_stepped, storm_at}
use Rattle.storm_run.specs.StormRuns.{Steps}
use Rattle.storm_run.proofs.StormsLemmas.{steps_more, steps_short}
use Rattle.storm_run.proofs.steps.step_all.Goals as goal

pub returns-in-Err-clause-steps : goal.returns-in-Err-clause-steps
returns-in-Err-clause-steps c =
    steps_short c.loop-turn.turn c.args.steps c.args.generator.now c.loop-turn.generator c.step.new.generator c.args.run.now c.loop-turn.run c.in-Err.stop c.loop-turn-test.true c.loop-turn.invariant.steps c.in-Err.ensures.steps

pub loop-turn-preserved : goal.loop-turn-preserved
loop-turn-preserved c = record {
  steps = steps_more c.loop-turn.turn c.args.generator.now c.loop-turn.generator c.step.new.generator c.args.run.now c.loop-turn.run c.step.new.run c.loop-turn.invariant.steps c.in-Ok.ensures.steps;
  reached = c.in-Ok.ensures.reached;
  events = omega (arith, c.loop-turn.invariant.events, c.in-Ok.ensures.events);
}

pub returns-clause-steps : goal.returns-clause-steps
returns-clause-steps c =
    let all : c.loop-turn.turn ≡ c.args.steps = search rules in
    subst (λ n. Steps (λ w. all_stepped n (storm_at w c.args.generator.now)) c.args.run.now (Ok c.loop-turn.run) c.loop-turn.generator) all c.loop-turn.invariant.steps
