-- What is taken is the beginning of all that may be taken: where all of that is not enough, there are no victims.
use Rattle.std.proofs.Common.{◌≡◌, ℕ, zero, suc, ◌+◌, ◌*◌, Bool, true, false, cond, not, nat_eq, nat_lt, List, [], ◌∷◌, ◌++◌, Option, Some, None, refl, sym, ◌∙◌, ap, subst, arith, append_assoc}
use Rattle.std.specs.Prelude.{◌&&◌}
use Rattle.std.specs.List.{sum_by}
use Rattle.std.proofs.lemmas.List.{append-nil}
use Rattle.std.proofs.lemmas.List.Sums.{sum_by-append, sum_by-cons}
use Rattle.fuxi_terms.specs.Keys.{Spot}
use Rattle.fuxi_terms.specs.Cluster.{quota_at}
use Rattle.fuxi_terms.specs.Tables.{usage_by, Table}
use Rattle.fuxi_terms.proofs.Booleans.{either, either_case, number_is}
use Rattle.spec_roles.specs.Placing.{Board}
use Rattle.spec_roles.specs.Preemption.{so_many, set_by, part_by, is_enough_in, is_guaranteed_in, may_take_in, taken_in, needed_in, walk_in, is_some_set, victims_in}
use Rattle.preempt.specs.Counted.{singles, own_size, times_within, least_of, spared_at, may_times, all_spared}
use Rattle.preempt.proofs.Sums.{sum_many, by_enough, enough_by, narrow_enough}
use Rattle.preempt.proofs.CountedAsWritten.{least_same}
use Rattle.preempt.proofs.Computed.{IsMay, may_is}
use Rattle.preempt.proofs.Whole.{singles_more}
use Rattle.preempt.proofs.SearchLemmas.{Begins}

-- the walk that never stops
abbrev pub most_in : List Spot → Board → Table → Spot → List Spot → List Spot
most_in [] B table t set = set
most_in (s ∷ ss) B table t set = most_in ss B table t (cond (may_take_in B table t set s) (set ++ s ∷ []) set)

-- and by counts
abbrev pub counted_most : Table → Board → Table → Spot → Table → Table
counted_most [] B table t set = set
counted_most (e ∷ es) B table t set = counted_most es B table t (set ++ (e.0, may_times B table t (singles set) e.0 e.1) ∷ [])

begins_before : (set : List Spot) (s : Spot) (ys : List Spot) → Begins (set ++ s ∷ []) ys → Begins set ys
begins_before set s ys b = record { rest = s ∷ b.rest; is = b.is ∙ append_assoc set (s ∷ []) b.rest }

module _ (B : Board) (table : Table) (t : Spot) where
  most_begins : (ss set : List Spot) → Begins set (most_in ss B table t set)
  most_begins [] set = record { rest = []; is = sym (append-nil set) }
  most_begins (s ∷ ss) set = either (λ x. Begins set (most_in ss B table t x)) (may_take_in B table t set s) (set ++ s ∷ []) set
      (λ _. begins_before set s (most_in ss B table t (set ++ s ∷ [])) (most_begins ss (set ++ s ∷ [])))
      (λ _. most_begins ss set)

  taken_begins : (ss set : List Spot) → Begins (taken_in ss B table t set) (most_in ss B table t set)
  taken_begins [] set = record { rest = []; is = sym (append-nil set) }
  taken_begins (s ∷ ss) set = either_case (λ x. Begins x (most_in (s ∷ ss) B table t set)) (is_enough_in B table t set) set (taken_in ss B table t (cond (may_take_in B table t set s) (set ++ s ∷ []) set))
      (λ _. most_begins (s ∷ ss) set)
      (λ _. taken_begins ss (cond (may_take_in B table t set s) (set ++ s ∷ []) set))

  -- what is enough is enough with more
  more_enough : (xs rest : List Spot) → is_enough_in B table t xs ≡ true → is_enough_in B table t (xs ++ rest) ≡ true
  more_enough xs rest e =
      let enough = by_enough B table t xs e in
      enough_by B table t (xs ++ rest) (narrow_enough B table t xs e) (record {
        fits = λ i lt. let f = enough.fits i lt in let a = sum_by-append (λ (s : Spot). B.sizes s.job s.unit i) xs rest in omega (arith, f, a);
        allowed = λ i lt. let f = enough.allowed i lt in let a = sum_by-append (λ (s : Spot). cond (nat_eq (B.groups s.job) (B.groups t.job)) (B.sizes s.job s.unit i) 0) xs rest in omega (arith, f, a);
      })

  pub none_of_most : is_enough_in B table t (most_in (walk_in B.priorities table t.machine) B table t []) ≡ false → victims_in B table t ≡ None
  none_of_most f = by (is_enough_in B table t set) refl
    where
      set : List Spot
      set = taken_in (walk_in B.priorities table t.machine) B table t []

      begins : Begins set (most_in (walk_in B.priorities table t.machine) B table t [])
      begins = taken_begins (walk_in B.priorities table t.machine) []

      by : (b : Bool) → is_enough_in B table t set ≡ b → victims_in B table t ≡ None
      by true e =
          let yes : is_enough_in B table t (most_in (walk_in B.priorities table t.machine) B table t []) ≡ true = ap (λ x. is_enough_in B table t x) begins.is ∙ more_enough set begins.rest e in
          absurd (let x : ⊥ = cc in x)
      by false e = ap (λ b. elim (b && is_some_set set) as (λ _. Option (List Spot)) [ true ↦ Some (needed_in set B table t set) | false ↦ None ]) e

  -- by counts
  not_taken : (s : Spot) (k : ℕ) (ss set : List Spot) → may_take_in B table t set s ≡ false → most_in (so_many k s ++ ss) B table t set ≡ most_in ss B table t set
  not_taken s zero ss set h = refl
  not_taken s (suc k) ss set h = ap (λ b. most_in (so_many k s ++ ss) B table t (cond b (set ++ s ∷ []) set)) h ∙ not_taken s k ss set h

  run_most : (s : Spot) (n k : ℕ) (ss set : List Spot) → IsMay B table t set s k n → most_in (so_many k s ++ ss) B table t set ≡ most_in ss B table t (set ++ so_many n s)
  run_most s zero zero ss set h = ap (λ x. most_in ss B table t x) (sym (append-nil set))
  run_most s zero (suc k) ss set h =
      let no : may_take_in B table t set s ≡ false = subst (λ x. may_take_in B table t x s ≡ false) (append-nil set) (h.stops (omega arith)) in
      not_taken s (suc k) ss set no ∙ ap (λ x. most_in ss B table t x) (sym (append-nil set))
  run_most s (suc n) zero ss set h = let m = h.most in absurd (omega (arith, m))
  run_most s (suc n) (suc k) ss set h =
      let yes : may_take_in B table t set s ≡ true = subst (λ x. may_take_in B table t x s ≡ true) (append-nil set) (h.below 0 (omega arith)) in
      let rest : IsMay B table t (set ++ s ∷ []) s k n = record {
        most = let m = h.most in omega (arith, m);
        below = λ j lt. subst (λ x. may_take_in B table t x s ≡ true) (sym (append_assoc set (s ∷ []) (so_many j s))) (h.below (suc j) (omega (arith, lt)));
        stops = λ lt. subst (λ x. may_take_in B table t x s ≡ false) (sym (append_assoc set (s ∷ []) (so_many n s))) (h.stops (omega (arith, lt)));
      } in
      ap (λ b. most_in (so_many k s ++ ss) B table t (cond b (set ++ s ∷ []) set)) yes
      ∙ (run_most s n k ss (set ++ s ∷ []) rest ∙ ap (λ x. most_in ss B table t x) (append_assoc set (s ∷ []) (so_many n s)))

  pub most_whole : (es set : Table) → most_in (singles es) B table t (singles set) ≡ singles (counted_most es B table t set)
  most_whole [] set = refl
  most_whole (e ∷ es) set =
      let n = may_times B table t (singles set) e.0 e.1 in
      run_most e.0 n e.1 (singles es) (singles set) (may_is B table t (singles set) e.0 e.1)
      ∙ (ap (λ x. most_in (singles es) B table t x) (sym (singles_more set e.0 n))
      ∙ most_whole es (set ++ (e.0, n) ∷ []))

  -- ---- what all of that takes: of the served group by priority alone, of the others what they spare
  abbrev pub lower_weight : ℕ → Spot × ℕ → ℕ
  lower_weight i e = cond (nat_eq (B.groups e.0.job) (B.groups t.job) && nat_lt (B.priorities e.0.job e.0.unit) (B.priorities t.job t.unit)) e.1 0 * B.sizes e.0.job e.0.unit i

  abbrev pub spared_weight : ℕ → Spot × ℕ → ℕ
  spared_weight i e = cond (is_guaranteed_in B table t && not (nat_eq (B.groups e.0.job) (B.groups t.job))) e.1 0 * B.sizes e.0.job e.0.unit i

  -- of the groups that are not served two sets take the same, where the served one has quota left
  pub record SameParts (ss ms : Table) : Type 0 where
    pub same : is_guaranteed_in B table t ≡ true → (g i : ℕ) → nat_eq g (B.groups t.job) ≡ false → part_by B.groups B.sizes g i (singles ms) ≡ part_by B.groups B.sizes g i (singles ss)

  -- so many are spared beside a set, and so many of those may be taken
  abbrev spare : Table → Spot × ℕ → ℕ
  spare ss e = least_of e.1 B.cluster.resources (spared_at B table (singles ss) e.0 e.1)

  abbrev chosen : Table → Spot × ℕ → ℕ
  chosen ss e = cond (nat_eq (B.groups e.0.job) (B.groups t.job)) (cond (nat_lt (B.priorities e.0.job e.0.unit) (B.priorities t.job t.unit)) e.1 0) (cond (is_guaranteed_in B table t) (spare ss e) 0)

  may_chosen : (ss ms : Table) (e : Spot × ℕ) → SameParts ss ms → may_times B table t (singles ms) e.0 e.1 ≡ chosen ss e
  may_chosen ss ms e h = by (nat_eq (B.groups e.0.job) (B.groups t.job)) refl (is_guaranteed_in B table t) refl
    where
      lower : ℕ
      lower = cond (nat_lt (B.priorities e.0.job e.0.unit) (B.priorities t.job t.unit)) e.1 0

      by : (a : Bool) → nat_eq (B.groups e.0.job) (B.groups t.job) ≡ a → (d : Bool) → is_guaranteed_in B table t ≡ d → may_times B table t (singles ms) e.0 e.1 ≡ chosen ss e
      by true x d y = (λ j. cond (x j) lower (cond (is_guaranteed_in B table t) (spare ms e) 0)) ∙ (λ j. cond (sym x j) lower (cond (is_guaranteed_in B table t) (spare ss e) 0))
      by false x false y = (λ j. cond (x j) lower (cond (y j) (spare ms e) 0)) ∙ (λ j. cond (sym x j) lower (cond (sym y j) (spare ss e) 0))
      by false x true y =
          let same : spare ms e ≡ spare ss e = least_same e.1 B.cluster.resources (spared_at B table (singles ms) e.0 e.1) (spared_at B table (singles ss) e.0 e.1)
          (λ i lt. let p = h.same y (B.groups e.0.job) i x in
          λ j. times_within (quota_at B.cluster (B.groups e.0.job) i + p j) (usage_by B.groups B.sizes (B.groups e.0.job) i table) (B.sizes e.0.job e.0.unit i) e.1) in
          (λ j. cond (x j) lower (cond (y j) (same j) 0)) ∙ (λ j. cond (sym x j) lower (cond (sym y j) (spare ss e) 0))

  set_grown : (i : ℕ) (xs : Table) (s : Spot) (n : ℕ) → set_by B.sizes i (singles (xs ++ (s, n) ∷ [])) ≡ set_by B.sizes i (singles xs) + n * B.sizes s.job s.unit i
  set_grown i xs s n =
      let w : Spot → ℕ = λ s. B.sizes s.job s.unit i in
      let a = ap (λ ys. sum_by w ys) (singles_more xs s n) in
      let b = sum_by-append w (singles xs) (so_many n s) in
      let m = sum_many w n s in
      omega (arith, a, b, m)

  part_grown : (g i : ℕ) (xs : Table) (s : Spot) (n : ℕ) → part_by B.groups B.sizes g i (singles (xs ++ (s, n) ∷ [])) ≡ part_by B.groups B.sizes g i (singles xs) + n * own_size B g s i
  part_grown g i xs s n =
      let w : Spot → ℕ = λ s. own_size B g s i in
      let a = ap (λ ys. sum_by w ys) (singles_more xs s n) in
      let b = sum_by-append w (singles xs) (so_many n s) in
      let m = sum_many w n s in
      omega (arith, a, b, m)

  parts_grown : (ss ms : Table) (e : Spot × ℕ) → SameParts ss ms → SameParts (ss ++ (e.0, spare ss e) ∷ []) (ms ++ (e.0, chosen ss e) ∷ [])
  parts_grown ss ms e h = record {
    same = λ y g i other.
        let p = h.same y g i other in
        let a = part_grown g i ms e.0 (chosen ss e) in
        let b = part_grown g i ss e.0 (spare ss e) in
        let c = alike y g i other (nat_eq (B.groups e.0.job) g) refl in
        omega (arith, p, a, b, c);
  }
    where
      alike : is_guaranteed_in B table t ≡ true → (g i : ℕ) → nat_eq g (B.groups t.job) ≡ false → (c : Bool) → nat_eq (B.groups e.0.job) g ≡ c → chosen ss e * own_size B g e.0 i ≡ spare ss e * own_size B g e.0 i
      alike y g i other false f =
          let none : own_size B g e.0 i ≡ 0 = ap (λ b. cond b (B.sizes e.0.job e.0.unit i) 0) f in
          ap (λ k. chosen ss e * k) none ∙ nothing (chosen ss e) (spare ss e) ∙ ap (λ k. spare ss e * k) (sym none)
        where
          nothing : (x z : ℕ) → x * 0 ≡ z * 0
          nothing x z = omega arith
      alike y g i other true f =
          let no : nat_eq (B.groups e.0.job) (B.groups t.job) ≡ false = ap (λ k. nat_eq k (B.groups t.job)) (number_is (B.groups e.0.job) g f) ∙ other in
          let same : chosen ss e ≡ spare ss e = λ j. cond (no j) (cond (nat_lt (B.priorities e.0.job e.0.unit) (B.priorities t.job t.unit)) e.1 0) (cond (y j) (spare ss e) 0) in
          ap (λ k. k * own_size B g e.0 i) same

  -- by cases: of the served group or not, of lower priority or not, guaranteed or not
  whole_split : (a b d : Bool) (k n z : ℕ) → cond a (cond b k 0) (cond d n 0) * z ≡ cond (a && b) k 0 * z + cond (d && not a) n 0 * z
  whole_split true true true k n z = omega arith
  whole_split true true false k n z = omega arith
  whole_split true false true k n z = omega arith
  whole_split true false false k n z = omega arith
  whole_split false b true k n z = omega arith
  whole_split false b false k n z = omega arith

  own_split : (a b d : Bool) (k n z : ℕ) → cond a (cond b k 0) (cond d n 0) * cond a z 0 ≡ cond (a && b) k 0 * z
  own_split true true d k n z = refl
  own_split true false d k n z = refl
  own_split false b true k n z = omega arith
  own_split false b false k n z = omega arith

  pub record AreMostSums (i : ℕ) (es ss ms : Table) : Type 0 where
    pub whole : set_by B.sizes i (singles (counted_most es B table t ms)) ≡ set_by B.sizes i (singles ms) + (sum_by (lower_weight i) es + sum_by (spared_weight i) (all_spared es B table ss))
    pub own : part_by B.groups B.sizes (B.groups t.job) i (singles (counted_most es B table t ms)) ≡ part_by B.groups B.sizes (B.groups t.job) i (singles ms) + sum_by (lower_weight i) es

  pub most_sums : (i : ℕ) (es ss ms : Table) → SameParts ss ms → AreMostSums i es ss ms
  most_sums i [] ss ms h = record {
    whole = let z : sum_by (lower_weight i) [] ≡ 0 = refl in let w : sum_by (spared_weight i) [] ≡ 0 = refl in omega (arith, z, w);
    own = let z : sum_by (lower_weight i) [] ≡ 0 = refl in omega (arith, z);
  }
  most_sums i (e ∷ es) ss ms h =
      let q = may_times B table t (singles ms) e.0 e.1 in
      let is = may_chosen ss ms e h in
      let a = nat_eq (B.groups e.0.job) (B.groups t.job) in
      let b = nat_lt (B.priorities e.0.job e.0.unit) (B.priorities t.job t.unit) in
      let d = is_guaranteed_in B table t in
      let z = B.sizes e.0.job e.0.unit i in
      let new : Table = ss ++ (e.0, spare ss e) ∷ [] in
      let next = subst (λ n. SameParts new (ms ++ (e.0, n) ∷ [])) (sym is) (parts_grown ss ms e h) in
      let rest = most_sums i es new (ms ++ (e.0, q) ∷ []) next in
      let rest_whole = rest.whole in
      let rest_own = rest.own in
      let lower = sum_by-cons (lower_weight i) e es in
      let spared = sum_by-cons (spared_weight i) (e.0, spare ss e) (all_spared es B table new) in
      let set = set_grown i ms e.0 q in
      let part = part_grown (B.groups t.job) i ms e.0 q in
      let split : q * z ≡ lower_weight i e + spared_weight i (e.0, spare ss e) = ap (λ n. n * z) is ∙ whole_split a b d e.1 (spare ss e) z in
      let own : q * own_size B (B.groups t.job) e.0 i ≡ lower_weight i e = ap (λ n. n * own_size B (B.groups t.job) e.0 i) is ∙ own_split a b d e.1 (spare ss e) z in
      record {
        whole = omega (arith, rest_whole, lower, spared, set, split);
        own = omega (arith, rest_own, lower, part, own);
      }
