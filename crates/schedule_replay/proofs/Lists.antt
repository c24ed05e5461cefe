-- A test of all numbers below one, and of all entries by rising numbers.
use Rattle.std.proofs.Common.{◌≡◌, ℕ, zero, suc, ◌+◌, ◌<◌, Bool, true, false, cond, ◌&&◌, nat_eq, List, [], ◌∷◌, ◌++◌, Some, refl, sym, ◌∙◌, ap, subst, arith}
use Rattle.std.specs.Prelude.{T}
use Rattle.std.specs.List.{list_all}
use Rattle.std.specs.Ordering.{nat_cmp, eq_by_cmp, is_eq}
use Rattle.std.specs.Cmp.{nat_cmp_total, tied_itself, unsigned_tied}
use Rattle.std.specs.FinMap.Entries.{find, is_sorted, below_all}
use Rattle.std.proofs.lemmas.Bool.Decides.{nat_tests}
use Rattle.fuxi_terms.specs.Lists.{below}
use Rattle.fuxi_terms.proofs.Booleans.{and_true, false_and, false_right, number_is}
use Rattle.fuxi_terms.proofs.CountsLemmas.{both_true, below_none}
use Rattle.spec_roles.specs.Refusals.{with_found}

all_append : (p : ℕ → Bool) (xs : List ℕ) (y : ℕ) → list_all p (xs ++ y ∷ []) ≡ (list_all p xs && p y)
all_append p [] y = by (p y)
  where
    by : (b : Bool) → (b && true) ≡ b
    by true = refl
    by false = refl
all_append p (x ∷ xs) y = ap (λ b. p x && b) (all_append p xs y) ∙ by (p x) (list_all p xs) (p y)
  where
    by : (a b c : Bool) → (a && (b && c)) ≡ ((a && b) && c)
    by true b c = refl
    by false b c = refl

-- each number passes
pub all_below : (p : ℕ → Bool) (n : ℕ) → ((m : ℕ) → m < n → p m ≡ true) → list_all p (below n) ≡ true
all_below p zero h = refl
all_below p (suc n) h = all_append p (below n) n ∙ and_true (list_all p (below n)) (p n) (all_below p n (λ m lt. h m (omega (arith, lt)))) (h n (omega arith))

-- one does not
pub not_below : (p : ℕ → Bool) (n m : ℕ) → m < n → p m ≡ false → list_all p (below n) ≡ false
not_below p zero m lt h = absurd (omega (arith, lt))
not_below p (suc n) m lt h = all_append p (below n) n ∙ by (nat_eq m n) refl (λ lt. not_below p n m lt h)
  where
    by : (b : Bool) → nat_eq m n ≡ b → (m < n → list_all p (below n) ≡ false) → (list_all p (below n) && p n) ≡ false
    by true t before = false_right (list_all p (below n)) (p n) (subst (λ k. p k ≡ false) (number_is m n t) h)
    by false t before = false_and (list_all p (below n)) (p n) (before (grind (arith, nat_tests, lt, t)))

-- one number more
pub below_next : (P : ℕ → Type 0) (i : ℕ) → ((m : ℕ) → m < i → P m) → P i → (m : ℕ) → m < i + 1 → P m
below_next P i h here m lt = elim (nat_eq m i) as (λ b. nat_eq m i ≡ b → P m) [
  | true ↦ λ t. subst P (sym (number_is m i t)) here
  | false ↦ λ t. h m (grind (arith, nat_tests, lt, t))
] refl

-- A test of what is found at each number is one of each entry, as the numbers rise
pub all_entries : {A : Type 0} (q : ℕ → A → Bool) (es : List (ℕ × A)) → T (is_sorted nat_cmp es) → ((k : ℕ) → with_found (find nat_cmp k es) true (q k) ≡ true)
    → list_all (λ (g : ℕ × A). q g.0 g.1) es ≡ true
all_entries q [] s h = refl
all_entries {A} q (e ∷ es) s h =
    and_true (q e.0 e.1) (list_all (λ (g : ℕ × A). q g.0 g.1) es)
    (ap (λ r. with_found (cond (is_eq r) (Some e.1) (find nat_cmp e.0 es)) true (q e.0)) (sym (tied_itself nat_cmp_total e.0)) ∙ h e.0)
    (all_entries q es (both_true (below_all nat_cmp e.0 es) (is_sorted nat_cmp es) s).1 (λ k. behind k (eq_by_cmp nat_cmp k e.0) refl))
  where
    behind : (k : ℕ) (b : Bool) → eq_by_cmp nat_cmp k e.0 ≡ b → with_found (find nat_cmp k es) true (q k) ≡ true
    behind k true t =
        let same : k ≡ e.0 = number_is k e.0 (sym (unsigned_tied k e.0) ∙ t) in
        let below = (both_true (below_all nat_cmp e.0 es) (is_sorted nat_cmp es) s).0 in
        ap (λ o. with_found o true (q k)) (below_none nat_cmp k es (subst (λ n. T (below_all nat_cmp n es)) (sym same) below))
    behind k false t = ap (λ b. with_found (cond b (Some e.1) (find nat_cmp k es)) true (q k)) (sym t) ∙ h k

pub one_entry : {A : Type 0} (q : ℕ → A → Bool) (es : List (ℕ × A)) (k : ℕ) → with_found (find nat_cmp k es) true (q k) ≡ false → list_all (λ (g : ℕ × A). q g.0 g.1) es ≡ false
one_entry q [] k h = absurd cc
one_entry {A} q (e ∷ es) k h = by (eq_by_cmp nat_cmp k e.0) refl h (one_entry q es k)
  where
    by : (b : Bool) → eq_by_cmp nat_cmp k e.0 ≡ b → with_found (cond b (Some e.1) (find nat_cmp k es)) true (q k) ≡ false
        → (with_found (find nat_cmp k es) true (q k) ≡ false → list_all (λ (g : ℕ × A). q g.0 g.1) es ≡ false) → (q e.0 e.1 && list_all (λ (g : ℕ × A). q g.0 g.1) es) ≡ false
    by true t h behind = false_and (q e.0 e.1) _ (subst (λ n. q n e.1 ≡ false) (number_is k e.0 (sym (unsigned_tied k e.0) ∙ t)) h)
    by false t h behind = false_right (q e.0 e.1) _ (behind h)
