use Rattle.std.proofs.Common.{sym, subst}
use Rattle.schedule_replay.specs.Worlds.{StandsFor}
use Rattle.storm_run.specs.Storms.{master_turned}
use Rattle.storm_run.specs.StormRuns.{outcome}
use Rattle.storm_run.proofs.ChoicesLemmas.{delivering}
use Rattle.storm_run.proofs.closing.tell_peers.Goals as goal

pub returns-in-Ok-clause-runs : goal.returns-in-Ok-clause-runs
returns-in-Ok-clause-runs c =
    delivering master_turned c.args.run.now c.turn_master.new.run (outcome c.deliver_since.new.run c.deliver_since.result) c.packets-before.result
    (λ w stands. c.packets-before.ensures w (subst (λ r. StandsFor r w) (sym c.running.ensures) stands)) c.in-Ok.ensures.runs c.deliver_since.ensures.runs
