-- The entries that stay under a head.
use Rattle.std.proofs.Common.{◌≡◌, ℕ, ◌≤◌, ◌<◌, ◌^◌, Bool, true, false, cond, not, nat_eq, List, sym, ◌∙◌, ap, arith}
use Rattle.std.proofs.lemmas.Bool.Decides.{nat_tests}
use Rattle.fuxi_terms.specs.declared.Key.{Key}
use Rattle.fuxi_terms.specs.Keys.{key_cmp}
use Rattle.fuxi_terms.specs.Counts.{count, AreCounts}
use Rattle.fuxi_terms.proofs.KeyOrders.{key_total, same_key}
use Rattle.ledger_law.specs.Shapes.{kept_under}
use Rattle.fuxi_terms.proofs.CountsLemmas.{counts-where_key, count_le, count_where}

pub kept_counts : (greatest : Key → ℕ) (same : Bool) (dropped : ℕ) (es : List (Key × ℕ)) → AreCounts key_cmp greatest es → AreCounts key_cmp greatest (kept_under same dropped es)
kept_counts greatest true dropped es h = h
kept_counts greatest false dropped es h = counts-where_key key_total greatest _ es h

pub kept_bound : (greatest : Key → ℕ) → ((k : Key) → greatest k ≤ 1000000000000) → (same : Bool) (dropped : ℕ) (es : List (Key × ℕ)) (k : Key) → AreCounts key_cmp greatest es → count key_cmp (kept_under same dropped es) k < 2 ^ 62
kept_bound greatest bounded same dropped es k h = omega (arith, count_le key_total same_key greatest (kept_under same dropped es) k (kept_counts greatest same dropped es h).within, bounded k)

-- a key of the dropped kind has no number under another head
pub gone : (same : Bool) (dropped : ℕ) (es : List (Key × ℕ)) (k : Key) → same ≡ false → k.what ≡ dropped → 0 ≡ count key_cmp (kept_under same dropped es) k
gone same dropped es k other is =
    let t : nat_eq k.what dropped ≡ true = grind (arith, nat_tests) in
    sym (ap (λ b. count key_cmp (kept_under b dropped es) k) other ∙ count_where key_cmp same_key (λ x. not (nat_eq x.what dropped)) es k ∙ ap (λ b. cond (not b) (count key_cmp es k) 0) t)

-- and any other keeps its number
pub stays : (dropped : ℕ) (es : List (Key × ℕ)) (k : Key) → (nat_eq k.what dropped ≡ false) → count key_cmp es k ≡ count key_cmp (kept_under false dropped es) k
stays dropped es k t = sym (count_where key_cmp same_key (λ x. not (nat_eq x.what dropped)) es k ∙ ap (λ b. cond (not b) (count key_cmp es k) 0) t)
