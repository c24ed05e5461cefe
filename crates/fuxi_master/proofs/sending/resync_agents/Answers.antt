use Rattle.std.proofs.Common.{◌∙◌, ap, set, arith}
use Rattle.std.proofs.lemmas.List.Edits.{map_over_more}
use Rattle.ledger_updates.specs.AllShown.{Down}
use Rattle.fuxi_master.specs.Resyncs.{agent_forgotten}
use Rattle.fuxi_master.proofs.sending.resync_agents.Goals as goal

pub loop-number-preserved : goal.loop-number-preserved
loop-number-preserved c =
    let lt = c.loop-number-test.true in
    let wide = c.len-number-end.ensures in
    let i = c.loop-number.number in
    let now = c.loop-number.agents.items in
    record {
      within = omega (arith, lt, wide);
      now = ap (λ (d : Down). set now i d) c.resync.ensures.after ∙ map_over_more agent_forgotten c.args.agents.now.items now i c.index_mut.result.now (omega (arith, lt, wide)) c.loop-number.invariant.now c.index_mut.ensures.value;
    }
