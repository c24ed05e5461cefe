use Rattle.schedule_replay.proofs.TurnSendsOrStops.{resyncs_as}
use Rattle.schedule_replay.proofs.turns.resync.Goals as goal

pub returns-in_default : goal.returns-in_default
returns-in_default g c = λ pool k of put r part same held w is s. tt

pub returns : goal.returns
returns g c = λ pool. resyncs_as c.args.number c.args.parties.now c.resync.new.self c.in-Ok.ran pool c.args.out.now.items c.write_whether.new.out.items c.write_whether.result
    c.in-Ok.ensures.world c.resync.ensures.within c.write_whether.ensures.ok c.write_whether.ensures.err
