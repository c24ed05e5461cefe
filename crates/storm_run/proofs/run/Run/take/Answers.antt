use Rattle.std.proofs.Common.{subst}
use Rattle.schedule_replay.specs.LineEvents.{event_as}
use Rattle.storm_run.specs.Storms.{taken}
use Rattle.storm_run.specs.StormRuns.{Runs, outcome}
use Rattle.storm_run.proofs.StormsLemmas.{stepped_by}
use Rattle.storm_run.proofs.run.Run.take.Goals as goal

pub returns-clause-runs : goal.returns-clause-runs
returns-clause-runs c =
    let e = event_as c.args.event.now in
    subst (λ r. Runs (λ w. taken w e) r (outcome c.step.new.self c.step.result)) c.self.view_is
    (stepped_by e c.self.inside.running c.step.new.self c.step.new.out.items c.step.result c.step.ensures.takes c.step.ensures.stops)
