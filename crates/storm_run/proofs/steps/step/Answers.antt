use Rattle.std.proofs.Common.{sym, subst}
use Rattle.schedule_replay.specs.Worlds.{StandsFor}
use Rattle.storm_run.specs.StormRuns.{outcome}
use Rattle.storm_run.proofs.StormsLemmas.{stepped_as}
use Rattle.storm_run.proofs.steps.step.Goals as goal

pub returns-clause-steps : goal.returns-clause-steps
returns-clause-steps c =
    stepped_as c.args.generator.now c.choose-choice.new.generator c.choose-choice.result c.args.run.now (outcome c.take_choice.new.self c.take_choice.result)
    (λ w good stands. c.choose-choice.ensures.chooses w good (subst (λ r. StandsFor r w) (sym c.running.ensures) stands)) c.take_choice.ensures.runs
