use Rattle.schedule_replay.proofs.TurnSendsOrStops.{stops_for}
use Rattle.schedule_replay.proofs.turns.send.Goals as goal

-- the packets are kept, and only memory can lack for their lines
pub returns-clause-stops : goal.returns-clause-stops
returns-clause-stops c = stops_for c.args.pool.now c.args.packets.now c.write_all_sent.result c.in-Ok.ensures.within c.write_all_sent.ensures.err
