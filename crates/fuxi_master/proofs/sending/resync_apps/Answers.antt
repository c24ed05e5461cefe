use Rattle.std.proofs.Common.{Option, ◌∙◌, ap, set, arith}
use Rattle.std.proofs.lemmas.List.Edits.{map_over_more}
use Rattle.std.specs.Option.{option_map}
use Rattle.ledger_updates.specs.AllShown.{App}
use Rattle.fuxi_master.specs.Resyncs.{app_forgotten}
use Rattle.fuxi_master.proofs.sending.resync_apps.Goals as goal

pub loop-number-preserved : goal.loop-number-preserved
loop-number-preserved c =
    let lt = c.loop-number-test.true in
    let wide = c.len-number-end.ensures in
    let i = c.loop-number.number in
    let now = c.loop-number.apps.items in
    record {
      within = omega (arith, lt, wide);
      now = ap (λ (o : Option App). set now i o) c.resync_slot.ensures ∙ map_over_more (option_map app_forgotten) c.args.apps.now.items now i c.index_mut.result.now (omega (arith, lt, wide)) c.loop-number.invariant.now c.index_mut.ensures.value;
    }
