-- Grants are only taken, and where none is taken nothing changes.
use Rattle.std.proofs.Common.{◌≡◌, ℕ, ◌-◌, ◌<◌, ◌≤◌, true, false, cond, refl, sym, ◌∙◌, ap, subst, arith}
use Rattle.std.specs.Ordering.{eq_by_cmp, is_eq}
use Rattle.std.specs.Cmp.{tied_itself}
use Rattle.fuxi_terms.specs.Counts.{count, set_count, AreCounts}
use Rattle.fuxi_terms.specs.Keys.{Spot, spot_cmp}
use Rattle.fuxi_terms.specs.Limits.{greatest_count}
use Rattle.fuxi_terms.proofs.CountsLemmas.{tied, count_le, count-set_count, counts-set_count, same_counts}
use Rattle.fuxi_terms.proofs.KeyOrders.{spot_total, same_spot}
use Rattle.fuxi_terms.specs.Tables.{Table}
use Rattle.grant_table.specs.GrantTables.{TableRecord, without_count}
use Rattle.allotment.specs.Allotted.{AllotmentRecord, OnlyTakes}

pub takes_none : (x : AllotmentRecord) → OnlyTakes x x
takes_none x = record { fewer = λ s. omega arith; same = λ h. refl }

pub takes_again : (x y z : AllotmentRecord) → OnlyTakes x y → OnlyTakes y z → OnlyTakes x z
takes_again x y z a b = record {
  fewer = λ s. let p = a.fewer s in let q = b.fewer s in omega (arith, p, q);
  same = λ h.
      b.same (λ s. let p = a.fewer s in let q = b.fewer s in let e = h s in omega (arith, p, q, e))
      ∙ a.same (λ s. let p = a.fewer s in let q = b.fewer s in let e = h s in omega (arith, p, q, e));
}

-- the number at the spot itself, and at any
at_spot : (es : Table) (s : Spot) (n : ℕ) → count spot_cmp (set_count spot_cmp es s n) s ≡ n
at_spot es s n = count-set_count spot_total es s n s ∙ ap (λ b. cond b n (count spot_cmp es s)) (ap is_eq (tied_itself spot_total s))

set_at_most : (es : Table) (s : Spot) (n : ℕ) → n ≤ count spot_cmp es s → (q : Spot) → count spot_cmp (set_count spot_cmp es s n) q ≤ count spot_cmp es q
set_at_most es s n le q = subst (λ k. k ≤ count spot_cmp es q) (sym (count-set_count spot_total es s n q)) (elim (eq_by_cmp spot_cmp q s) as (λ b. eq_by_cmp spot_cmp q s ≡ b → cond b n (count spot_cmp es q) ≤ count spot_cmp es q) [
  | true ↦ λ e. subst (λ k. n ≤ count spot_cmp es k) (sym (same_spot q s (tied _ e))) le
  | false ↦ λ _. omega arith
] refl)

-- some grants are taken
pub takes_some : (x y : AllotmentRecord) (s : Spot) (k : ℕ) → 0 < k → k ≤ count spot_cmp x.table.entries s → y.table ≡ record x.table { entries = without_count x.table.entries s k } → OnlyTakes x y
takes_some x y s k some held table = record {
  fewer = λ q. subst (λ es. count spot_cmp es q ≤ count spot_cmp x.table.entries q) (sym entries) (set_at_most x.table.entries s (count spot_cmp x.table.entries s - k) (omega arith) q);
  same = λ h. let e = sym (h s) ∙ ap (λ es. count spot_cmp es s) entries ∙ at_spot x.table.entries s (count spot_cmp x.table.entries s - k) in absurd (omega (arith, e, some, held));
}
  where
    entries : y.table.entries ≡ without_count x.table.entries s k
    entries = ap (λ (t : TableRecord). t.entries) table

-- no grants are taken
pub none_fewer : (es : Table) (s : Spot) (k : ℕ) → AreCounts spot_cmp (λ s. greatest_count) es → k ≡ 0 → without_count es s k ≡ es
none_fewer es s k counts none =
    let n : ℕ = count spot_cmp es s - k in
    let is : n ≡ count spot_cmp es s = omega (arith, none) in
    let most = count_le spot_total same_spot (λ s. greatest_count) es s counts.within in
    same_counts spot_total same_spot (λ s. greatest_count) (set_count spot_cmp es s n) es (counts-set_count spot_total (λ s. greatest_count) same_spot es s n (omega (arith, is, most)) counts) counts
    (λ q. count-set_count spot_total es s n q ∙ elim (eq_by_cmp spot_cmp q s) as (λ b. eq_by_cmp spot_cmp q s ≡ b → cond b n (count spot_cmp es q) ≡ count spot_cmp es q) [
      | true ↦ λ e. is ∙ ap (count spot_cmp es) (sym (same_spot q s (tied _ e)))
      | false ↦ λ _. refl
    ] refl)
