-- The search through pairs: those without victims are passed by.
use Rattle.std.proofs.Common.{◌≡◌, ℕ, zero, suc, ◌+◌, Bool, true, false, cond, List, [], ◌∷◌, ◌++◌, map, filter, Some, None, refl, sym, ◌∙◌, ap, subst, arith, add-one, append_assoc}
use Rattle.std.specs.Prelude.{◌&&◌, Option}
use Rattle.std.specs.List.{AllByRecursion}
use Rattle.std.proofs.lemmas.List.{append-nil}
use Rattle.fuxi_terms.specs.Cluster.{is_narrow}
use Rattle.fuxi_terms.specs.Keys.{Spot, Pair}
use Rattle.fuxi_terms.specs.Lists.{below}
use Rattle.fuxi_terms.specs.Tables.{spot, Table}
use Rattle.spec_roles.specs.Placing.{Board}
use Rattle.spec_roles.specs.Preemption.{victims_in, is_enough_in, is_some_set, taken_in, needed_in, walk_in, first_plan_in}
use Rattle.spec_roles.specs.Preemption.{Plan as WrittenPlan}
use Rattle.preempt.specs.Plans.{IsFirstPlan}
use Rattle.preempt.specs.Search.{pairs_to}
use Rattle.preempt.proofs.Sums.{narrow_enough}

-- ---- the first of some pairs, and of others behind them
abbrev or_else : {A : Type 0} → Option A → Option A → Option A
or_else None p = p
or_else (Some q) p = Some q

module _ (B : Board) (table : Table) where
  plan_by : Spot → List Spot → Option (List Spot) → Option WrittenPlan
  plan_by s ss o = elim o as (λ _. Option WrittenPlan) [ None ↦ first_plan_in ss B table | Some vs ↦ Some (record { served = s; losers = vs }) ]

  first_append : (xs ys : List Spot) → first_plan_in (xs ++ ys) B table ≡ or_else (first_plan_in xs B table) (first_plan_in ys B table)
  first_append [] ys = refl
  first_append (x ∷ xs) ys = by (victims_in B table x) (first_append xs ys)
    where
      by : (o : Option (List Spot)) → first_plan_in (xs ++ ys) B table ≡ or_else (first_plan_in xs B table) (first_plan_in ys B table)
          → elim o as (λ _. Option WrittenPlan) [ None ↦ first_plan_in (xs ++ ys) B table | Some vs ↦ Some (record { served = x; losers = vs }) ]
          ≡ or_else (elim o as (λ _. Option WrittenPlan) [ None ↦ first_plan_in xs B table | Some vs ↦ Some (record { served = x; losers = vs }) ]) (first_plan_in ys B table)
      by None r = r
      by (Some vs) r = refl

  pub first_behind : (xs ys : List Spot) → first_plan_in xs B table ≡ None → first_plan_in (xs ++ ys) B table ≡ first_plan_in ys B table
  first_behind xs ys h = first_append xs ys ∙ ap (λ o. or_else o (first_plan_in ys B table)) h

  pub first_before : (xs ys : List Spot) (p : WrittenPlan) → first_plan_in xs B table ≡ Some p → first_plan_in (xs ++ ys) B table ≡ Some p
  first_before xs ys p h = first_append xs ys ∙ ap (λ o. or_else o (first_plan_in ys B table)) h

  pub one_without : (s : Spot) → victims_in B table s ≡ None → first_plan_in (s ∷ []) B table ≡ None
  one_without s h = ap (λ o. elim o as (λ _. Option WrittenPlan) [ None ↦ None | Some vs ↦ Some (record { served = s; losers = vs }) ]) h

  pub one_with : (s : Spot) (vs : List Spot) → victims_in B table s ≡ Some vs → first_plan_in (s ∷ []) B table ≡ Some (record { served = s; losers = vs })
  one_with s vs h = ap (λ o. elim o as (λ _. Option WrittenPlan) [ None ↦ None | Some vs ↦ Some (record { served = s; losers = vs }) ]) h

  pub none_before : (ss : List Spot) → first_plan_in ss B table ≡ None → AllByRecursion (λ s. victims_in B table s ≡ None) ss
  none_before [] e = tt
  none_before (s ∷ ss) e = by (victims_in B table s) refl e (none_before ss)
    where
      by : (o : Option (List Spot)) → victims_in B table s ≡ o → elim o as (λ _. Option WrittenPlan) [ None ↦ first_plan_in ss B table | Some vs ↦ Some (record { served = s; losers = vs }) ] ≡ None
          → (first_plan_in ss B table ≡ None → AllByRecursion (λ s. victims_in B table s ≡ None) ss) → (victims_in B table s ≡ None) × AllByRecursion (λ s. victims_in B table s ≡ None) ss
      by None v e rest = (v, rest e)
      by (Some vs) v e rest = cc

  pub none_from : (ss : List Spot) → AllByRecursion (λ s. victims_in B table s ≡ None) ss → first_plan_in ss B table ≡ None
  none_from [] h = refl
  none_from (s ∷ ss) h = ap (λ o. elim o as (λ _. Option WrittenPlan) [ None ↦ first_plan_in ss B table | Some vs ↦ Some (record { served = s; losers = vs }) ]) h.0 ∙ none_from ss h.1

  pub first_found : (ss : List Spot) (p : WrittenPlan) → first_plan_in ss B table ≡ Some p → IsFirstPlan B table ss p
  first_found [] p e = cc
  first_found (s ∷ ss) p e = by (victims_in B table s) refl e (first_found ss p)
    where
      plan : List Spot → WrittenPlan
      plan vs = record { served = s; losers = vs }

      by : (o : Option (List Spot)) → victims_in B table s ≡ o → elim o as (λ _. Option WrittenPlan) [ None ↦ first_plan_in ss B table | Some vs ↦ Some (record { served = s; losers = vs }) ] ≡ Some p
          → (first_plan_in ss B table ≡ Some p → IsFirstPlan B table ss p) → IsFirstPlan B table (s ∷ ss) p
      by None v e rest = let r = rest e in record { before = s ∷ r.before; after = r.after; split = ap (λ xs. s ∷ xs) r.split; none = (v, r.none); has = r.has }
      by (Some vs) v e rest =
          let same : plan vs ≡ p = cc in
          subst (IsFirstPlan B table (s ∷ ss)) same (record { before = []; after = ss; split = refl; none = tt; has = v })

  -- a size that needs a resource that is not there has no victims anywhere
  pub wide_none : (s : Spot) → is_narrow B.cluster (B.sizes s.job s.unit) ≡ false → victims_in B table s ≡ None
  wide_none s f = by (is_enough_in B table s set) refl
    where
      set : List Spot
      set = taken_in (walk_in B.priorities table s.machine) B table s []

      by : (b : Bool) → is_enough_in B table s set ≡ b → elim (is_enough_in B table s set && is_some_set set) as (λ _. Option (List Spot)) [ true ↦ Some (needed_in set B table s set) | false ↦ None ] ≡ None
      by true e = let t = narrow_enough B table s set e in absurd (let x : ⊥ = cc in x)
      by false e = ap (λ b. elim (b && is_some_set set) as (λ _. Option (List Spot)) [ true ↦ Some (needed_in set B table s set) | false ↦ None ]) e

-- ---- one machine more
filter_last : (q : ℕ → Bool) (f : ℕ → Spot) (xs : List ℕ) (x : ℕ) → map f (filter q (xs ++ x ∷ [])) ≡ map f (filter q xs) ++ cond (q x) (f x ∷ []) []
filter_last q f [] x = elim (q x) as (λ b. map f (cond b (x ∷ []) []) ≡ cond b (f x ∷ []) []) [ true ↦ refl | false ↦ refl ]
filter_last q f (y ∷ ys) x = elim (q y) as (λ b. map f (cond b (y ∷ filter q (ys ++ x ∷ [])) (filter q (ys ++ x ∷ []))) ≡ map f (cond b (y ∷ filter q ys) (filter q ys)) ++ cond (q x) (f x ∷ []) []) [
  | true ↦ ap (λ zs. f y ∷ zs) (filter_last q f ys x)
  | false ↦ filter_last q f ys x
]

pub pairs_more : (accepts : ℕ → ℕ → ℕ → Bool) (n : ℕ) (p : Pair) → pairs_to accepts (n + 1) p ≡ pairs_to accepts n p ++ cond (accepts p.0 p.1 n) (spot p.0 p.1 n ∷ []) []
pairs_more accepts n p = ap (λ k. pairs_to accepts k p) (add-one n) ∙ filter_last (accepts p.0 p.1) (spot p.0 p.1) (below n) n

-- a list is the beginning of another
pub record Begins (xs ys : List Spot) : Type 0 where
  pub rest : List Spot
  pub is : ys ≡ xs ++ rest

-- the pairs of the first machines are the beginning of those of all
pub pairs_begin : (accepts : ℕ → ℕ → ℕ → Bool) (p : Pair) (k d : ℕ) → Begins (pairs_to accepts k p) (pairs_to accepts (k + d) p)
pairs_begin accepts p k zero = let e : k ≡ k + 0 = omega arith in subst (λ n. Begins (pairs_to accepts k p) (pairs_to accepts n p)) e (record { rest = []; is = sym (append-nil (pairs_to accepts k p)) })
pairs_begin accepts p k (suc d) =
    let r = pairs_begin accepts p k d in
    let e : k + suc d ≡ (k + d) + 1 = omega arith in
    record {
      rest = r.rest ++ cond (accepts p.0 p.1 (k + d)) (spot p.0 p.1 (k + d) ∷ []) [];
      is = ap (λ n. pairs_to accepts n p) e ∙ pairs_more accepts (k + d) p ∙ ap (λ xs. xs ++ cond (accepts p.0 p.1 (k + d)) (spot p.0 p.1 (k + d) ∷ []) []) r.is ∙ append_assoc (pairs_to accepts k p) r.rest (cond (accepts p.0 p.1 (k + d)) (spot p.0 p.1 (k + d) ∷ []) []);
    }
