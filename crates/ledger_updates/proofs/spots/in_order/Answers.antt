use Rattle.std.proofs.Common.{◌≡◌, map, ◌∙◌, sym, ap, subst, rules}
use Rattle.std.proofs.lemmas.Cmp.{on_total}
use Rattle.std.proofs.lemmas.Fn.{always_returns_same}
use Rattle.std.proofs.lemmas.List.Filters.{dedup_is}
use Rattle.std.proofs.lemmas.List.Kept.{IsStrictlySortedBy-dedup}
use Rattle.fuxi_terms.proofs.KeyOrders.{spot_total}
use Rattle.ledger_updates.specs.AllShown.{spot_of, has_spot, AreInOrder}
use Rattle.ledger_updates.proofs.InPlaces.{place_of, picks_sorted, picks_tied, in_order, same_spots}
use Rattle.ledger_updates.proofs.spots.in_order.Goals as goal

pub returns-clause-order : goal.returns-clause-order
returns-clause-order c =
    let sorted = c.sort_unstable_by_key.ensures.sorted place_of (always_returns_same _ (λ a r. r ≡ place_of a.0.now) _ (λ a r q k. search rules)) in
    subst (λ ps. AreInOrder (map spot_of ps)) (sym (dedup_is _ _ _ c.dedup.ensures.filtered)) (in_order _ (IsStrictlySortedBy-dedup (on_total spot_of spot_total) picks_tied _ (picks_sorted _ sorted)))

pub returns-clause-same : goal.returns-clause-same
returns-clause-same c s =
    ap (λ ps. has_spot s (map spot_of ps)) (dedup_is _ _ _ c.dedup.ensures.filtered)
    ∙ same_spots _ picks_tied s _ _ c.sort_unstable_by_key.ensures.permutation
    ∙ ap (λ ps. has_spot s (map spot_of ps)) c.in_ok-ordered.ensures.items
