-- Runs of equal grants: a walk over them is one step.
use Rattle.std.proofs.Common.{◌≡◌, ℕ, zero, suc, Bool, true, false, cond, not, List, [], ◌∷◌, ◌++◌, refl, sym, ◌∙◌, ap, subst, arith, append_assoc, ◌<◌, ◌≤◌}
use Rattle.std.specs.Prelude.{◌&&◌}
use Rattle.std.proofs.lemmas.List.{append-nil}
use Rattle.fuxi_terms.specs.Keys.{Spot}
use Rattle.fuxi_terms.specs.Tables.{Table}
use Rattle.spec_roles.specs.Placing.{Board}
use Rattle.spec_roles.specs.Preemption.{so_many, is_enough_in, may_take_in, taken_in}

-- the walk of a set that is not enough takes the next grant
abbrev pub is_open : Board → Table → Spot → List Spot → Spot → Bool
is_open B table t set s = not (is_enough_in B table t set) && may_take_in B table t set s

-- of k equal grants n are taken
pub record IsTake (B : Board) (table : Table) (t : Spot) (set : List Spot) (s : Spot) (k n : ℕ) : Type 0 where
  pub most : n ≤ k
  pub takes : (j : ℕ) → j < n → is_open B table t (set ++ so_many j s) s ≡ true
  pub stops : n < k → is_open B table t (set ++ so_many n s) s ≡ false

-- Taking. What is enough stays, and what may not be taken is passed by
module _ (B : Board) (table : Table) (t : Spot) where
  pub taken_enough : (ss set : List Spot) → is_enough_in B table t set ≡ true → taken_in ss B table t set ≡ set
  taken_enough [] set e = refl
  taken_enough (s ∷ ss) set e = ap (λ b. elim b as (λ _. List Spot) [ true ↦ set | false ↦ taken_in ss B table t (cond (may_take_in B table t set s) (set ++ s ∷ []) set) ]) e

  passed : (s : Spot) (k : ℕ) (ss set : List Spot) → is_open B table t set s ≡ false → taken_in (so_many k s ++ ss) B table t set ≡ taken_in ss B table t set
  passed s zero ss set h = refl
  passed s (suc k) ss set h = by (passed s k ss set h) (is_enough_in B table t set) refl (may_take_in B table t set s) refl
    where
      by : taken_in (so_many k s ++ ss) B table t set ≡ taken_in ss B table t set → (b : Bool) → is_enough_in B table t set ≡ b → (d : Bool) → may_take_in B table t set s ≡ d → taken_in (s ∷ (so_many k s ++ ss)) B table t set ≡ taken_in ss B table t set
      by rest true e d f = taken_enough (s ∷ (so_many k s ++ ss)) set e ∙ sym (taken_enough ss set e)
      by rest false e true f = let yes : is_open B table t set s ≡ true = (λ i. not (e i) && f i) in cc
      by rest false e false f =
          ap (λ b. elim b as (λ _. List Spot) [ true ↦ set | false ↦ taken_in (so_many k s ++ ss) B table t (cond (may_take_in B table t set s) (set ++ s ∷ []) set) ]) e
          ∙ (ap (λ d. taken_in (so_many k s ++ ss) B table t (cond d (set ++ s ∷ []) set)) f ∙ rest)

  opened : (s : Spot) (ss set : List Spot) → is_open B table t set s ≡ true → taken_in (s ∷ ss) B table t set ≡ taken_in ss B table t (set ++ s ∷ [])
  opened s ss set h = by (is_enough_in B table t set) refl (may_take_in B table t set s) refl
    where
      by : (b : Bool) → is_enough_in B table t set ≡ b → (d : Bool) → may_take_in B table t set s ≡ d → taken_in (s ∷ ss) B table t set ≡ taken_in ss B table t (set ++ s ∷ [])
      by true e d f = let no : is_open B table t set s ≡ false = (λ i. not (e i) && may_take_in B table t set s) in cc
      by false e false f = let no : is_open B table t set s ≡ false = (λ i. not (e i) && f i) in cc
      by false e true f =
          ap (λ b. elim b as (λ _. List Spot) [ true ↦ set | false ↦ taken_in ss B table t (cond (may_take_in B table t set s) (set ++ s ∷ []) set) ]) e
          ∙ ap (λ d. taken_in ss B table t (cond d (set ++ s ∷ []) set)) f

  -- so k equal grants are one step
  pub run_taken : (s : Spot) (n k : ℕ) (ss set : List Spot) → IsTake B table t set s k n → taken_in (so_many k s ++ ss) B table t set ≡ taken_in ss B table t (set ++ so_many n s)
  run_taken s zero zero ss set h = ap (λ x. taken_in ss B table t x) (sym (append-nil set))
  run_taken s zero (suc k) ss set h =
      let no : is_open B table t set s ≡ false = subst (λ x. is_open B table t x s ≡ false) (append-nil set) (h.stops (omega arith)) in
      passed s (suc k) ss set no ∙ ap (λ x. taken_in ss B table t x) (sym (append-nil set))
  run_taken s (suc n) zero ss set h = let m = h.most in absurd (omega (arith, m))
  run_taken s (suc n) (suc k) ss set h =
      let yes : is_open B table t set s ≡ true = subst (λ x. is_open B table t x s ≡ true) (append-nil set) (h.takes 0 (omega arith)) in
      let rest : IsTake B table t (set ++ s ∷ []) s k n = record {
        most = let m = h.most in omega (arith, m);
        takes = λ j lt. subst (λ x. is_open B table t x s ≡ true) (sym (append_assoc set (s ∷ []) (so_many j s))) (h.takes (suc j) (omega (arith, lt)));
        stops = λ lt. subst (λ x. is_open B table t x s ≡ false) (sym (append_assoc set (s ∷ []) (so_many n s))) (h.stops (omega (arith, lt)));
      } in
      opened s (so_many k s ++ ss) set yes ∙ (run_taken s n k ss (set ++ s ∷ []) rest ∙ ap (λ x. taken_in ss B table t x) (append_assoc set (s ∷ []) (so_many n s)))
