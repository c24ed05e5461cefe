-- Leaving out: a run of equal grants is one step.
use Rattle.std.proofs.Common.{◌≡◌, ℕ, zero, suc, ◌+◌, ◌-◌, ◌<◌, ◌≤◌, Bool, true, false, cond, nat_eq, List, [], ◌∷◌, ◌++◌, refl, ◌∙◌, ap, arith}
use Rattle.std.specs.Prelude.{◌&&◌}
use Rattle.std.specs.List.{AllByRecursion}
use Rattle.std.proofs.lemmas.Bool.Decides.{nat_tests}
use Rattle.fuxi_terms.specs.Keys.{Spot}
use Rattle.fuxi_terms.specs.Tables.{Table}
use Rattle.spec_roles.specs.Placing.{Board}
use Rattle.spec_roles.specs.Preemption.{so_many, is_enough_in, without_one, needed_in}

abbrev pub is_same_unit : Spot → Spot → Bool
is_same_unit s x = nat_eq s.job x.job && nat_eq s.unit x.unit

pub same_itself : (s : Spot) → is_same_unit s s ≡ true
same_itself s = λ i. yes s.job i && yes s.unit i
  where
    yes : (n : ℕ) → nat_eq n n ≡ true
    yes n = grind (arith, nat_tests)

-- of n equal grants that were taken l are kept: the rest is enough with l and more of them, and not with fewer
pub record IsKeep (B : Board) (table : Table) (t : Spot) (before after : List Spot) (s : Spot) (n l : ℕ) : Type 0 where
  pub most : l ≤ n
  pub rest : (j : ℕ) → l ≤ j → j < n → is_enough_in B table t (before ++ (so_many j s ++ after)) ≡ true
  pub stops : (j : ℕ) → l ≡ suc j → is_enough_in B table t (before ++ (so_many j s ++ after)) ≡ false

-- no grant of the unit of s is in the set
abbrev pub IsApart : Spot → List Spot → Type 0
IsApart s set = AllByRecursion (λ x. is_same_unit s x ≡ false) set

-- the first grant of a run goes
pub without_run : (s : Spot) (before after : List Spot) (j : ℕ) → IsApart s before → without_one s (before ++ (so_many (suc j) s ++ after)) ≡ before ++ (so_many j s ++ after)
without_run s [] after j h = ap (λ b. cond b (so_many j s ++ after) (s ∷ without_one s (so_many j s ++ after))) (same_itself s)
without_run s (x ∷ xs) after j h =
    ap (λ b. cond b (xs ++ (so_many (suc j) s ++ after)) (x ∷ without_one s (xs ++ (so_many (suc j) s ++ after)))) h.0
    ∙ ap (λ ys. x ∷ ys) (without_run s xs after j h.1)

module _ (B : Board) (table : Table) (t : Spot) where
  stuck : (s : Spot) (k : ℕ) (ss set : List Spot) → is_enough_in B table t (without_one s set) ≡ false → needed_in (so_many k s ++ ss) B table t set ≡ needed_in ss B table t set
  stuck s zero ss set h = refl
  stuck s (suc k) ss set h = ap (λ b. needed_in (so_many k s ++ ss) B table t (cond b (without_one s set) set)) h ∙ stuck s k ss set h

  -- what is left of n tries: d of them leave one out, and then none does
  tries : (s : Spot) (d l : ℕ) (ss before after : List Spot) → IsApart s before
      → ((j : ℕ) → l ≤ j → j < l + d → is_enough_in B table t (before ++ (so_many j s ++ after)) ≡ true)
      → ((j : ℕ) → l ≡ suc j → is_enough_in B table t (before ++ (so_many j s ++ after)) ≡ false)
      → (n : ℕ) → n ≡ l + d
      → needed_in (so_many n s ++ ss) B table t (before ++ (so_many n s ++ after)) ≡ needed_in ss B table t (before ++ (so_many l s ++ after))
  tries s zero zero ss before after apart out in_it n e = ap (λ k. needed_in (so_many k s ++ ss) B table t (before ++ (so_many k s ++ after))) e
  tries s zero (suc l) ss before after apart out in_it n e =
      let same : n ≡ suc l = omega (arith, e) in
      ap (λ k. needed_in (so_many k s ++ ss) B table t (before ++ (so_many k s ++ after))) same
      ∙ stuck s (suc l) ss (before ++ (so_many (suc l) s ++ after)) (ap (λ x. is_enough_in B table t x) (without_run s before after l apart) ∙ in_it l refl)
  tries s (suc d) l ss before after apart out in_it n e =
      let same : n ≡ suc (l + d) = omega (arith, e) in
      let w = without_run s before after (l + d) apart in
      let good : is_enough_in B table t (without_one s (before ++ (so_many (suc (l + d)) s ++ after))) ≡ true = ap (λ x. is_enough_in B table t x) w ∙ out (l + d) (omega arith) (omega arith) in
      ap (λ k. needed_in (so_many k s ++ ss) B table t (before ++ (so_many k s ++ after))) same
      ∙ (ap (λ b. needed_in (so_many (l + d) s ++ ss) B table t (cond b (without_one s (before ++ (so_many (suc (l + d)) s ++ after))) (before ++ (so_many (suc (l + d)) s ++ after)))) good
      ∙ (ap (λ x. needed_in (so_many (l + d) s ++ ss) B table t x) w
      ∙ tries s d l ss before after apart (λ j le lt. out j le (omega (arith, lt))) in_it (l + d) refl))

  pub run_left : (s : Spot) (n l : ℕ) (ss before after : List Spot) → IsApart s before → IsKeep B table t before after s n l
      → needed_in (so_many n s ++ ss) B table t (before ++ (so_many n s ++ after)) ≡ needed_in ss B table t (before ++ (so_many l s ++ after))
  run_left s n l ss before after apart h =
      let m = h.most in
      tries s (n - l) l ss before after apart (λ j le lt. h.rest j le (omega (arith, lt, m))) h.stops n (omega (arith, m))
