use Rattle.std.proofs.Common.{length, refl}
use Rattle.std.proofs.lemmas.Option.{slice_get_read}
use Rattle.schedule_replay.proofs.TurnSendsOrStops.{sent_next}
use Rattle.schedule_replay.proofs.text.write_all_sent.Goals as goal

-- one packet more
pub loop-place-preserved : goal.loop-place-preserved
loop-place-preserved c = record {
  text = λ net xs same. sent_next net c.args.first c.loop-place.place c.args.packets.now c.index-packets-place.result xs c.args.out.now.items c.loop-place.out.items c.write_sent.new.out.items same
      (slice_get_read c.args.packets.now (length c.args.packets.now) c.loop-place.place c.index-packets-place.result refl c.loop-place-test.true c.index-packets-place.is)
      (c.loop-place.invariant.text net xs same) c.in-Ok.ensures.ok;
}
