use Rattle.std.proofs.Common.{Ok, Err, subst}
use Rattle.schedule_replay.specs.Worlds.{IsWorld, StandsFor}
use Rattle.spec_world.specs.World.{empty_world}
use Rattle.storm_run.specs.Storms.{all_stepped, storm_at}
use Rattle.storm_run.specs.StormRuns.{Steps}
use Rattle.storm_run.proofs.StormsLemmas.{played, stopped_early, stopped_late}
use Rattle.storm_run.proofs.storm.play.Goals as goal

pub returns-in-Err-clause-ends : goal.returns-in-Err-clause-ends
returns-in-Err-clause-ends c = stopped_early c.args.steps c.args.seed c.in-Ok-start.run' c.in-Err.stop
    (subst (λ k. IsWorld (empty_world k)) c.in-Ok.ensures c.start.ensures.world) (subst (λ k. StandsFor c.in-Ok-start.run' (empty_world k)) c.in-Ok.ensures c.in-Ok-start.ensures.stands) c.in-Err.ensures.runs

pub returns-in-Err-step_all-clause-ends : goal.returns-in-Err-step_all-clause-ends
returns-in-Err-step_all-clause-ends c = stopped_late c.args.steps c.args.seed c.step_all.new.generator c.in-Ok-start.run' c.open.new.run c.in-Err-step_all.stop
    (subst (λ k. IsWorld (empty_world k)) c.in-Ok.ensures c.start.ensures.world) (subst (λ k. StandsFor c.in-Ok-start.run' (empty_world k)) c.in-Ok.ensures c.in-Ok-start.ensures.stands) c.in-Ok-open.ensures.runs
    (subst (λ x. Steps (λ w. all_stepped c.args.steps (storm_at w x)) c.open.new.run (Err c.in-Err-step_all.stop) c.step_all.new.generator) c.from_seed-generator.ensures c.in-Err-step_all.ensures.steps)

pub returns-in-Ok-close-clause-ends : goal.returns-in-Ok-close-clause-ends
returns-in-Ok-close-clause-ends c = played c.args.steps c.args.seed c.step_all.new.generator c.in-Ok-start.run' c.open.new.run c.step_all.new.run (Ok c.close.new.run)
    (subst (λ k. IsWorld (empty_world k)) c.in-Ok.ensures c.start.ensures.world) (subst (λ k. StandsFor c.in-Ok-start.run' (empty_world k)) c.in-Ok.ensures c.in-Ok-start.ensures.stands) c.in-Ok-open.ensures.runs
    (subst (λ x. Steps (λ w. all_stepped c.args.steps (storm_at w x)) c.open.new.run (Ok c.step_all.new.run) c.step_all.new.generator) c.from_seed-generator.ensures c.in-Ok-step_all.ensures.steps)
    c.in-Ok-close.ensures.runs

pub returns-in-Err-close-clause-ends : goal.returns-in-Err-close-clause-ends
returns-in-Err-close-clause-ends c = played c.args.steps c.args.seed c.step_all.new.generator c.in-Ok-start.run' c.open.new.run c.step_all.new.run (Err c.in-Err-close.stop)
    (subst (λ k. IsWorld (empty_world k)) c.in-Ok.ensures c.start.ensures.world) (subst (λ k. StandsFor c.in-Ok-start.run' (empty_world k)) c.in-Ok.ensures c.in-Ok-start.ensures.stands) c.in-Ok-open.ensures.runs
    (subst (λ x. Steps (λ w. all_stepped c.args.steps (storm_at w x)) c.open.new.run (Ok c.step_all.new.run) c.step_all.new.generator) c.from_seed-generator.ensures c.in-Ok-step_all.ensures.steps)
    c.in-Err-close.ensures.runs
