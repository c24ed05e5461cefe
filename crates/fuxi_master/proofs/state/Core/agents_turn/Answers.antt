use Rattle.std.proofs.Common.{length, refl, arith}
use Rattle.std.proofs.lemmas.Option.{slice_get_read}
use Rattle.fuxi_master.specs.Seen.{core_of}
use Rattle.fuxi_master.proofs.TurnPackets.{agent_next}
use Rattle.fuxi_master.proofs.state.Core.agents_turn.Goals as goal

pub loop-number-preserved : goal.loop-number-preserved
loop-number-preserved c =
    let x = core_of c.args.self.now in
    let lt = c.loop-number-test.true in
    let wide = c.len-number-end.ensures in
    let there = slice_get_read x.agents (length x.agents) c.loop-number.number c.index.result.now refl (omega (arith, lt, wide)) c.index.ensures in
    record {
      within = omega (arith, lt, wide);
      sends = λ r h. agent_next x r h c.loop-number.number c.args.packets.now c.loop-number.packets c.turn.new.packets c.index.result.now there c.in_ok-turn.ensures.turns (c.loop-number.invariant.sends r h);
      formed = λ before. c.in_ok-turn.ensures.formed (c.loop-number.invariant.formed before);
    }
