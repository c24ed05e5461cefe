-- What holds of the victims of a pair: they are enough, and those of the group that is served have a lower priority.
use Rattle.std.proofs.Common.{◌≡◌, ℕ, zero, suc, ◌<◌, Bool, true, false, cond, nat_eq, nat_lt, List, [], ◌∷◌, ◌++◌, Some, None, refl, sym, ◌∙◌, ap, subst, arith}
use Rattle.std.specs.Prelude.{◌&&◌, Option}
use Rattle.std.specs.List.{AllByRecursion}
use Rattle.std.proofs.lemmas.Bool.Decides.{nat_tests}
use Rattle.fuxi_terms.specs.Keys.{Spot}
use Rattle.fuxi_terms.proofs.Alls.{all_append, all_front, all_back}
use Rattle.fuxi_terms.proofs.Booleans.{both_true, either, either_case}
use Rattle.fuxi_terms.specs.Tables.{spot, Table}
use Rattle.spec_roles.specs.Placing.{Board}
use Rattle.spec_roles.specs.Preemption.{so_many, victims_in, is_enough_in, is_spared_in, is_guaranteed_in, is_some_set, may_take_in, taken_in, needed_in, without_one, walk_in}
use Rattle.preempt.specs.declared.plan.Victim.{Victim}
use Rattle.preempt.specs.Plans.{losers_of, is_unit}

module _ (B : Board) (table : Table) (t : Spot) where
  -- one of the group that is served has a lower priority
  pub record IsLower (s : Spot) : Type 0 where
    pub lower : B.groups s.job ≡ B.groups t.job → B.priorities s.job s.unit < B.priorities t.job t.unit

  taken_lower : (set : List Spot) (s : Spot) → may_take_in B table t set s ≡ true → IsLower s
  taken_lower set s h = record {
    lower = λ same.
        let e : nat_eq (B.groups s.job) (B.groups t.job) ≡ true = grind (arith, nat_tests, same) in
        let k : nat_lt (B.priorities s.job s.unit) (B.priorities t.job t.unit) ≡ true = sym (ap (λ b. cond b (nat_lt (B.priorities s.job s.unit) (B.priorities t.job t.unit)) (is_spared_in B table set s && is_guaranteed_in B table t)) e) ∙ h in
        grind (arith, nat_tests, k);
  }

  all_taken : (ss set : List Spot) → AllByRecursion IsLower set → AllByRecursion IsLower (taken_in ss B table t set)
  all_taken [] set h = h
  all_taken (s ∷ ss) set h = either_case (AllByRecursion IsLower) (is_enough_in B table t set) set (taken_in ss B table t (cond (may_take_in B table t set s) (set ++ s ∷ []) set)) (λ _. h)
      (λ _. all_taken ss (cond (may_take_in B table t set s) (set ++ s ∷ []) set) (either (AllByRecursion IsLower) (may_take_in B table t set s) (set ++ s ∷ []) set (λ e. all_append IsLower set (s ∷ []) h (taken_lower set s e, tt)) (λ _. h)))

  all_without : (s : Spot) (set : List Spot) → AllByRecursion IsLower set → AllByRecursion IsLower (without_one s set)
  all_without s [] h = tt
  all_without s (x ∷ xs) h = either (AllByRecursion IsLower) (nat_eq s.job x.job && nat_eq s.unit x.unit) xs (x ∷ without_one s xs) (λ _. h.1) (λ _. (h.0, all_without s xs h.1))

  all_needed : (ss set : List Spot) → AllByRecursion IsLower set → AllByRecursion IsLower (needed_in ss B table t set)
  all_needed [] set h = h
  all_needed (s ∷ ss) set h = all_needed ss (cond (is_enough_in B table t (without_one s set)) (without_one s set) set) (either (AllByRecursion IsLower) (is_enough_in B table t (without_one s set)) (without_one s set) set (λ _. all_without s set h) (λ _. h))

  needed_enough : (ss set : List Spot) → is_enough_in B table t set ≡ true → is_enough_in B table t (needed_in ss B table t set) ≡ true
  needed_enough [] set h = h
  needed_enough (s ∷ ss) set h = needed_enough ss (cond (is_enough_in B table t (without_one s set)) (without_one s set) set) (either (λ x. is_enough_in B table t x ≡ true) (is_enough_in B table t (without_one s set)) (without_one s set) set (λ e. e) (λ _. h))

  -- of the victims of a pair
  pub record ArePromised (vs : List Spot) : Type 0 where
    pub enough : is_enough_in B table t vs ≡ true
    pub lower : AllByRecursion IsLower vs

  pub promised : (vs : List Spot) → victims_in B table t ≡ Some vs → ArePromised vs
  promised vs h = by (is_enough_in B table t set && is_some_set set) refl h
    where
      set : List Spot
      set = taken_in (walk_in B.priorities table t.machine) B table t []

      by : (b : Bool) → (is_enough_in B table t set && is_some_set set) ≡ b → elim b as (λ _. Option (List Spot)) [ true ↦ Some (needed_in set B table t set) | false ↦ None ] ≡ Some vs → ArePromised vs
      by true e k =
          let same : needed_in set B table t set ≡ vs = cc in
          subst ArePromised same (record {
            enough = needed_enough set set (both_true (is_enough_in B table t set) (is_some_set set) e).0;
            lower = all_needed set set (all_taken (walk_in B.priorities table t.machine) [] tt);
          })
      by false e k = cc

-- so none of them is of the unit that is served
pub other_units : (B : Board) (table : Table) (a u m : ℕ) (vs : List Victim) → AllByRecursion (IsLower B table (spot a u m)) (losers_of m vs) → AllByRecursion (λ (v : Victim). 0 < v.count) vs → AllByRecursion (λ v. is_unit a u v ≡ false) vs
other_units B table a u m [] h k = tt
other_units B table a u m (v ∷ vs) h k = (here v.count k.0 (all_front (IsLower B table (spot a u m)) (so_many v.count (spot v.app.0 v.unit.0 m)) (losers_of m vs) h), other_units B table a u m vs (all_back (IsLower B table (spot a u m)) (so_many v.count (spot v.app.0 v.unit.0 m)) (losers_of m vs) h) k.1)
  where
    here : (n : ℕ) → 0 < n → AllByRecursion (IsLower B table (spot a u m)) (so_many n (spot v.app.0 v.unit.0 m)) → is_unit a u v ≡ false
    here zero lt x = absurd (omega (arith, lt))
    here (suc n) lt x = by (is_unit a u v) refl
      where
        by : (b : Bool) → is_unit a u v ≡ b → is_unit a u v ≡ false
        by false e = e
        by true e =
            let p = both_true (nat_eq v.app.0 a) (nat_eq v.unit.0 u) e in
            let j : v.app.0 ≡ a = let q = p.0 in grind (arith, nat_tests, q) in
            let k : v.unit.0 ≡ u = let q = p.1 in grind (arith, nat_tests, q) in
            let lt = x.0.lower (ap B.groups j) in
            let same : B.priorities v.app.0 v.unit.0 ≡ B.priorities a u = λ i. B.priorities (j i) (k i) in
            absurd (omega (arith, lt, same))
