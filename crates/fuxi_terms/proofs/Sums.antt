-- Sums over maps of counts, after one count is put in, raised or set.
use Rattle.std.proofs.Common.{◌≡◌, ℕ, ◌+◌, ◌<◌, ◌≤◌, Bool, true, false, cond, not, nat_eq, List, [], ◌∷◌, Some, refl, sym, ◌∙◌, ap, subst, arith}
use Rattle.std.specs.Prelude.{◌&&◌, T}
use Rattle.std.specs.Option.{unwrap_or}
use Rattle.std.specs.List.{sum_by}
use Rattle.std.specs.Ordering.{eq_by_cmp, is_eq}
use Rattle.std.specs.Cmp.{IsTotalOrder}
use Rattle.std.specs.declared.cmp.Ordering.{Ordering}
use Rattle.std.specs.declared.cmp.Ordering.TheVariants.{Less, Equal, Greater}
use Rattle.std.specs.FinMap.Entries.{by_order, below_all, is_sorted, put, where_key, find}
use Rattle.std.proofs.lemmas.List.Sums.{sum_by-cons}
use Rattle.std.proofs.lemmas.Bool.Decides.{nat_tests}
use Rattle.fuxi_terms.specs.Keys.{Spot, spot_cmp}
use Rattle.fuxi_terms.specs.Counts.{count, set_count}
use Rattle.fuxi_terms.specs.Tables.{held, Table}
use Rattle.fuxi_terms.proofs.CountsLemmas.{both_true as both, find_below_head, tied, below_none}
use Rattle.fuxi_terms.proofs.Booleans.{number_is}
use Rattle.fuxi_terms.proofs.KeyOrders.{spot_total, same_spot}

-- what the counts of some keys add up to, after one count is raised
module _ {K : Type 0} {R : K → K → Ordering} (same : (x y : K) → R x y ≡ Equal → x ≡ y) (test : K → Bool) where
  abbrev weigh : K × ℕ → ℕ
  weigh e = cond (test e.0) e.1 0

  heavier : (b : Bool) (m n : ℕ) → m ≤ n → cond b m 0 ≤ cond b n 0
  heavier true m n h = h
  heavier false m n h = omega arith

  pub sum_put : (k : K) (v : ℕ) (es : List (K × ℕ)) → unwrap_or (find R k es) 0 ≤ v → sum_by weigh es ≤ sum_by weigh (put R k v es)
  sum_put k v [] h = omega arith
  sum_put k v (e ∷ es) h = elim (R k e.0) as (λ r. R k e.0 ≡ r → unwrap_or (cond (is_eq r) (Some e.1) (find R k es)) 0 ≤ v → sum_by weigh (e ∷ es) ≤ sum_by weigh (by_order r ((k, v) ∷ e ∷ es) ((e.0, v) ∷ es) (e ∷ put R k v es))) [
    | Less ↦ λ _ h. rw (sum_by-cons weigh (k, v) (e ∷ es)) (omega arith)
    | Equal ↦ λ _ h. let w = heavier (test e.0) e.1 v h in rw (sum_by-cons weigh (e.0, v) es, sum_by-cons weigh e es) (omega (arith, w))
    | Greater ↦ λ _ h. let r = sum_put k v es h in rw (sum_by-cons weigh e (put R k v es), sum_by-cons weigh e es) (omega (arith, r))
  ] refl h

  pub sum_put_more : (k : K) (v : ℕ) (es : List (K × ℕ)) → test k ≡ true → unwrap_or (find R k es) 0 < v → sum_by weigh es < sum_by weigh (put R k v es)
  sum_put_more k v [] t h = let w : cond (test k) v 0 ≡ v = ap (λ b. cond b v 0) t in omega (arith, w, h)
  sum_put_more k v (e ∷ es) t h = elim (R k e.0) as (λ r. R k e.0 ≡ r → unwrap_or (cond (is_eq r) (Some e.1) (find R k es)) 0 < v → sum_by weigh (e ∷ es) < sum_by weigh (by_order r ((k, v) ∷ e ∷ es) ((e.0, v) ∷ es) (e ∷ put R k v es))) [
    | Less ↦ λ _ h. let w : cond (test k) v 0 ≡ v = ap (λ b. cond b v 0) t in rw (sum_by-cons weigh (k, v) (e ∷ es)) (omega (arith, w, h))
    | Equal ↦ λ is h.
        let te : test e.0 ≡ true = subst (λ x. test x ≡ true) (same k e.0 is) t in
        let w : cond (test e.0) v 0 ≡ v = ap (λ b. cond b v 0) te in
        let u : cond (test e.0) e.1 0 ≡ e.1 = ap (λ b. cond b e.1 0) te in
        rw (sum_by-cons weigh (e.0, v) es, sum_by-cons weigh e es) (omega (arith, w, u, h))
    | Greater ↦ λ _ h. let r = sum_put_more k v es t h in rw (sum_by-cons weigh e (put R k v es), sum_by-cons weigh e es) (omega (arith, r))
  ] refl h

-- a sum that weighs each count by its key, exactly
module _ {K : Type 0} {R : K → K → Ordering} (o : IsTotalOrder R) (same : (x y : K) → R x y ≡ Equal → x ≡ y) (g : K → ℕ → ℕ) (nothing : (k : K) → g k 0 ≡ 0) where
  abbrev w : K × ℕ → ℕ
  w e = g e.0 e.1

  pub sum_put_exact : (k : K) (v : ℕ) (es : List (K × ℕ)) → T (is_sorted R es) → sum_by w (put R k v es) + g k (unwrap_or (find R k es) 0) ≡ sum_by w es + g k v
  sum_put_exact k v [] s = let z = nothing k in omega (arith, z)
  sum_put_exact k v (e ∷ es) s = elim (R k e.0) as (λ r. R k e.0 ≡ r → sum_by w (by_order r ((k, v) ∷ e ∷ es) ((e.0, v) ∷ es) (e ∷ put R k v es)) + g k (unwrap_or (cond (is_eq r) (Some e.1) (find R k es)) 0) ≡ sum_by w (e ∷ es) + g k v) [
    | Less ↦ λ is.
        let z : g k (unwrap_or (find R k es) 0) ≡ 0 = ap (λ r. g k (unwrap_or r 0)) (find_below_head o k e es is (both (below_all R e.0 es) _ s).0) ∙ nothing k in
        rw (sum_by-cons w (k, v) (e ∷ es)) (omega (arith, z))
    | Equal ↦ λ is.
        let a : g e.0 v ≡ g k v = ap (λ x. g x v) (sym (same k e.0 is)) in
        let b : g k e.1 ≡ g e.0 e.1 = ap (λ x. g x e.1) (same k e.0 is) in
        rw (sum_by-cons w (e.0, v) es, sum_by-cons w e es) (omega (arith, a, b))
    | Greater ↦ λ is.
        let r = sum_put_exact k v es (both (below_all R e.0 es) _ s).1 in
        rw (sum_by-cons w e (put R k v es), sum_by-cons w e es) (omega (arith, r))
  ] refl

module _ (g : Spot → ℕ → ℕ) (nothing : (s : Spot) → g s 0 ≡ 0) where
  abbrev weighed : Spot × ℕ → ℕ
  weighed e = g e.0 e.1

  without : (s : Spot) (es : Table) → T (is_sorted spot_cmp es) → sum_by weighed (where_key spot_cmp (λ x. not (eq_by_cmp spot_cmp s x)) es) + g s (count spot_cmp es s) ≡ sum_by weighed es
  without s [] k = let z = nothing s in omega (arith, z)
  without s (e ∷ es) k =
      let parts = both (below_all spot_cmp e.0 es) (is_sorted spot_cmp es) k in
      let rest = without s es parts.1 in
      elim (eq_by_cmp spot_cmp s e.0) as (λ b. eq_by_cmp spot_cmp s e.0 ≡ b → sum_by weighed (cond (not b) (e ∷ where_key spot_cmp (λ x. not (eq_by_cmp spot_cmp s x)) es) (where_key spot_cmp (λ x. not (eq_by_cmp spot_cmp s x)) es)) + g s (unwrap_or (cond b (Some e.1) (find spot_cmp s es)) 0) ≡ sum_by weighed (e ∷ es)) [
        | true ↦ λ t.
            let same : s ≡ e.0 = same_spot s e.0 (tied _ t) in
            let gone : count spot_cmp es s ≡ 0 = ap (λ q. count spot_cmp es q) same ∙ ap (λ o. unwrap_or o 0) (below_none spot_cmp e.0 es parts.0) in
            let z : g s (count spot_cmp es s) ≡ 0 = ap (g s) gone ∙ nothing s in
            let here : g s e.1 ≡ g e.0 e.1 = ap (λ q. g q e.1) same in
            rw (sum_by-cons weighed e es) (omega (arith, rest, z, here))
        | false ↦ λ t. rw (sum_by-cons weighed e (where_key spot_cmp (λ x. not (eq_by_cmp spot_cmp s x)) es), sum_by-cons weighed e es) (omega (arith, rest))
      ] refl

  -- every sum that weighs each count by its spot
  pub sum_set : (s : Spot) (n : ℕ) (es : Table) → T (is_sorted spot_cmp es) → sum_by weighed (set_count spot_cmp es s n) + g s (count spot_cmp es s) ≡ sum_by weighed es + g s n
  sum_set s n es k = elim (nat_eq n 0) as (λ b. nat_eq n 0 ≡ b → sum_by weighed (cond b (where_key spot_cmp (λ x. not (eq_by_cmp spot_cmp s x)) es) (put spot_cmp s n es)) + g s (count spot_cmp es s) ≡ sum_by weighed es + g s n) [
    | true ↦ λ t. let z : g s n ≡ 0 = ap (g s) (number_is n 0 t) ∙ nothing s in let e = without s es k in omega (arith, z, e)
    | false ↦ λ _. sum_put_exact spot_total same_spot g nothing s n es k
  ] refl

-- one grant more at a spot
pub one_count : (t : Table) (s : Spot) → set_count spot_cmp t s (count spot_cmp t s + 1) ≡ put spot_cmp s (count spot_cmp t s + 1) t
one_count t s = let e : nat_eq (count spot_cmp t s + 1) 0 ≡ false = grind (arith, nat_tests) in ap (λ b. cond b (where_key spot_cmp (λ x. not (eq_by_cmp spot_cmp s x)) t) (put spot_cmp s (count spot_cmp t s + 1) t)) e

pub held_more : (t : Table) (s : Spot) (a u : ℕ) → held t a u ≤ held (set_count spot_cmp t s (count spot_cmp t s + 1)) a u
held_more t s a u = subst (λ t'. held t a u ≤ held t' a u) (sym (one_count t s)) (sum_put same_spot (λ k. nat_eq k.job a && nat_eq k.unit u) s (count spot_cmp t s + 1) t (omega arith))

pub held_one : (t : Table) (s : Spot) → held t s.job s.unit < held (set_count spot_cmp t s (count spot_cmp t s + 1)) s.job s.unit
held_one t s = subst (λ t'. held t s.job s.unit < held t' s.job s.unit) (sym (one_count t s))
    (sum_put_more same_spot (λ k. nat_eq k.job s.job && nat_eq k.unit s.unit) s (count spot_cmp t s + 1) t (itself s.job s.unit) (omega arith))
  where
    itself : (a u : ℕ) → (nat_eq a a && nat_eq u u) ≡ true
    itself a u = let x : nat_eq a a ≡ true = grind (arith, nat_tests) in let y : nat_eq u u ≡ true = grind (arith, nat_tests) in rw (x, y)
