use Rattle.std.proofs.Common.{◌≡◌, ◌+◌, ◌<◌, ◌^◌, sym, ◌∙◌, ap, subst}
use Rattle.std.specs.List.{All}
use Rattle.fuxi_terms.specs.Vectors.{plus, times}
use Rattle.party_ledgers.proofs.Totals.{IsTotalTo, total_more, total_end, total_room}
use Rattle.party_ledgers.proofs.row_ledger.total_of.Goals as goal

pub add-total-requires : goal.add-total-requires
add-total-requires c =
    let item = c.loop-key-item.result in
    let is : c.times.result.q ≡ times c.loop-key-item.result.1 c.loop-key-item.result.0.size = c.times.ensures ∙ ap (λ k. times c.loop-key-item.result.1 k.size) c.key.view_is in
    subst (λ q. All (λ n. n < 2 ^ 128) (plus c.loop-key.total.q q)) (sym is) (total_room c.args.entries.now c.loop-key.key-index item c.loop-key.total.q c.loop-key-item.is c.loop-key-test.true c.requires c.loop-key.invariant)

pub loop-key-preserved : goal.loop-key-preserved
loop-key-preserved c =
    let item = c.loop-key-item.result in
    let is : c.times.result.q ≡ times c.loop-key-item.result.1 c.loop-key-item.result.0.size = c.times.ensures ∙ ap (λ k. times c.loop-key-item.result.1 k.size) c.key.view_is in
    let sum : c.add-total.result.q ≡ plus c.loop-key.total.q (times c.loop-key-item.result.1 c.loop-key-item.result.0.size) = c.add-total.ensures ∙ ap (plus c.loop-key.total.q) is in
    subst (λ q. IsTotalTo c.args.entries.now (c.loop-key.key-index + 1) q) (sym sum) (total_more c.args.entries.now c.loop-key.key-index item c.loop-key.total.q c.loop-key-item.is c.loop-key-test.true c.requires c.loop-key.invariant)

pub returns : goal.returns
returns c = total_end c.args.entries.now c.loop-key.key-index c.loop-key.total.q c.loop-key-test.false c.loop-key.invariant
