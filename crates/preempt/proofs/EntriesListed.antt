-- The entries of a table on a machine are those of its admitted units, in the order of job and unit.
use Rattle.std.proofs.Common.{◌≡◌, inl, inr, ℕ, ◌<◌, ◌≤◌, Bool, true, false, cond, nat_eq, nat_lt, List, [], ◌∷◌, ◌++◌, filter, refl, sym, ◌∙◌, ap, subst, arith}
use Rattle.std.specs.Prelude.{◌&&◌, ◌||◌, T, Some, None}
use Rattle.std.specs.Option.{unwrap_or}
use Rattle.std.specs.List.{AllByRecursion, flat_map}
use Rattle.std.specs.Ordering.{nat_cmp, ordering_then, eq_by_cmp, is_eq, is_lt}
use Rattle.std.specs.Cmp.{nat_cmp_is, tied_itself}
use Rattle.std.specs.declared.cmp.Ordering.TheVariants.{Less, Equal}
use Rattle.std.specs.FinMap.Entries.{below_all, is_sorted, find, where_key, find-where_key}
use Rattle.std.proofs.lemmas.Bool.Decides.{nat_tests}
use Rattle.fuxi_terms.specs.Counts.{count, AreCounts}
use Rattle.fuxi_terms.specs.Keys.{Spot, spot_cmp, Pair}
use Rattle.fuxi_terms.specs.Limits.{greatest_count}
use Rattle.fuxi_terms.specs.Tables.{spot, held_on, Table}
use Rattle.fuxi_terms.proofs.Alls.{all_more}
use Rattle.fuxi_terms.proofs.Booleans.{both_true, and_true, number_is, nat_itself}
use Rattle.fuxi_terms.proofs.OneChangeMore.{both}
use Rattle.fuxi_terms.proofs.CountsLemmas.{tied, same_counts, counts-where_key, count_le}
use Rattle.fuxi_terms.proofs.KeyOrders.{spot_total, same_spot}
use Rattle.spec_roles.specs.Placing.{has_pair}
use Rattle.preempt.specs.Walks.{entry_on}
use Rattle.preempt.proofs.Buckets.{IsAfter, IsRising}

-- ---- spots of one machine in the order of their units
spot_less : (m : ℕ) (p q : Pair) → IsAfter p q → spot_cmp (spot p.0 p.1 m) (spot q.0 q.1 m) ≡ Less
spot_less m p q (inl lt) = ap (λ r. ordering_then r (ordering_then (nat_cmp p.1 q.1) (nat_cmp m m))) (sym (nat_cmp_is p.0 q.0 Less lt))
spot_less m p q (inr s) =
    ap (λ r. ordering_then r (ordering_then (nat_cmp p.1 q.1) (nat_cmp m m))) (sym (nat_cmp_is p.0 q.0 Equal s.0))
    ∙ ap (λ r. ordering_then r (nat_cmp m m)) (sym (nat_cmp_is p.1 q.1 Less s.1))

module _ (es : Table) (m : ℕ) where
  below_listed : (p : Pair) (qs : List Pair) → AllByRecursion (IsAfter p) qs → T (below_all spot_cmp (spot p.0 p.1 m) (flat_map (entry_on es m) qs))
  below_listed p [] h = tt
  below_listed p (q ∷ qs) h = elim (nat_lt 0 (held_on es q.0 q.1 m)) as (λ b. T (below_all spot_cmp (spot p.0 p.1 m) (cond b ((spot q.0 q.1 m, held_on es q.0 q.1 m) ∷ []) [] ++ flat_map (entry_on es m) qs))) [
    | true ↦ both _ _ (subst (λ r. T (is_lt r)) (sym (spot_less m p q h.0)) tt) (below_listed p qs h.1)
    | false ↦ below_listed p qs h.1
  ]

  listed_sorted : (ps : List Pair) → IsRising ps → T (is_sorted spot_cmp (flat_map (entry_on es m) ps))
  listed_sorted [] h = tt
  listed_sorted (p ∷ ps) h = elim (nat_lt 0 (held_on es p.0 p.1 m)) as (λ b. T (is_sorted spot_cmp (cond b ((spot p.0 p.1 m, held_on es p.0 p.1 m) ∷ []) [] ++ flat_map (entry_on es m) ps))) [
    | true ↦ both _ _ (below_listed p ps h.0) (listed_sorted ps h.1)
    | false ↦ listed_sorted ps h.1
  ]

  -- each is the entry of its unit
  pub record IsHeld (x : Spot × ℕ) : Type 0 where
    pub some : 0 < x.1
    pub is : x.1 ≡ count spot_cmp es x.0
    pub on : x.0.machine ≡ m

  pub listed_held : (ps : List Pair) → AllByRecursion IsHeld (flat_map (entry_on es m) ps)
  listed_held [] = tt
  listed_held (p ∷ ps) = elim (nat_lt 0 (held_on es p.0 p.1 m)) as (λ b. nat_lt 0 (held_on es p.0 p.1 m) ≡ b → AllByRecursion IsHeld (cond b ((spot p.0 p.1 m, held_on es p.0 p.1 m) ∷ []) [] ++ flat_map (entry_on es m) ps)) [
    | true ↦ λ t. (record { some = grind (arith, nat_tests, t); is = refl; on = refl }, listed_held ps)
    | false ↦ λ _. listed_held ps
  ] refl

  listed_counts : AreCounts spot_cmp (λ s. greatest_count) es → (ps : List Pair) → IsRising ps → AreCounts spot_cmp (λ s. greatest_count) (flat_map (entry_on es m) ps)
  listed_counts h ps r = record {
    sorted = listed_sorted ps r;
    positive = all_more IsHeld (λ x. 0 < x.1) (λ x k. k.some) (flat_map (entry_on es m) ps) (listed_held ps);
    within = all_more IsHeld (λ x. x.1 ≤ greatest_count) (λ x k. let le = count_le spot_total same_spot (λ s. greatest_count) es x.0 h.within in let e = k.is in omega (arith, le, e)) (flat_map (entry_on es m) ps) (listed_held ps);
  }

  -- a spot of the machine, at one of these units
  is_on : List Pair → Spot → Bool
  is_on ps s = nat_eq s.machine m && has_pair (s.job, s.unit) ps

  same_as : (s : Spot) (p : Pair) → nat_eq s.machine m ≡ true → (nat_eq s.job p.0 && nat_eq s.unit p.1) ≡ true → s ≡ spot p.0 p.1 m
  same_as s p t u =
      let b = both_true (nat_eq s.job p.0) (nat_eq s.unit p.1) u in
      let x = number_is s.job p.0 b.0 in let y = number_is s.unit p.1 b.1 in let z = number_is s.machine m t in
      λ i. record { job = x i; unit = y i; machine = z i }

  listed_at : (ps : List Pair) (s : Spot) → count spot_cmp (flat_map (entry_on es m) ps) s ≡ cond (is_on ps s) (count spot_cmp es s) 0
  unfolding is_on
  listed_at [] s = elim (nat_eq s.machine m) as (λ b. ◌≡◌ {A = ℕ} 0 (cond (b && false) (count spot_cmp es s) 0)) [ true ↦ refl | false ↦ refl ]
  listed_at (p ∷ ps) s = by (nat_eq s.machine m) refl (nat_eq s.job p.0 && nat_eq s.unit p.1) refl (nat_lt 0 (held_on es p.0 p.1 m)) refl (listed_at ps s)
    where
      here : Spot
      here = spot p.0 p.1 m

      n : ℕ
      n = held_on es p.0 p.1 m

      rest : Table
      rest = flat_map (entry_on es m) ps

      with_entry : Bool → Table
      with_entry b = cond b ((here, n) ∷ []) [] ++ rest

      differs : (eq_by_cmp spot_cmp s here ≡ true → ⊥) → eq_by_cmp spot_cmp s here ≡ false
      differs never = go (eq_by_cmp spot_cmp s here) refl
        where
          go : (b : Bool) → eq_by_cmp spot_cmp s here ≡ b → eq_by_cmp spot_cmp s here ≡ false
          go true e = absurd (never e)
          go false e = e

      passed : (b : Bool) → eq_by_cmp spot_cmp s here ≡ false → count spot_cmp (with_entry b) s ≡ count spot_cmp rest s
      passed true f = ap (λ t. unwrap_or (cond t (Some n) (find spot_cmp s rest)) 0) f
      passed false f = refl

      job_no : (c : Bool) → (nat_eq s.job p.0 && nat_eq s.unit p.1) ≡ c → c ≡ false → eq_by_cmp spot_cmp s here ≡ true → ⊥
      job_no c e f t =
          let same : s ≡ here = same_spot s here (tied _ t) in
          let a : nat_eq s.job p.0 ≡ true = ap (λ (x : Spot). nat_eq x.job p.0) same ∙ nat_itself p.0 in
          let b : nat_eq s.unit p.1 ≡ true = ap (λ (x : Spot). nat_eq x.unit p.1) same ∙ nat_itself p.1 in
          let u : (nat_eq s.job p.0 && nat_eq s.unit p.1) ≡ true = and_true _ _ a b in
          cc

      machine_no : nat_eq s.machine m ≡ false → eq_by_cmp spot_cmp s here ≡ true → ⊥
      machine_no f t =
          let same : s ≡ here = same_spot s here (tied _ t) in
          let a : nat_eq s.machine m ≡ true = ap (λ (x : Spot). nat_eq x.machine m) same ∙ nat_itself m in
          cc

      by : (b : Bool) → nat_eq s.machine m ≡ b → (c : Bool) → (nat_eq s.job p.0 && nat_eq s.unit p.1) ≡ c → (d : Bool) → nat_lt 0 n ≡ d
          → count spot_cmp rest s ≡ cond (nat_eq s.machine m && has_pair (s.job, s.unit) ps) (count spot_cmp es s) 0
          → count spot_cmp (with_entry (nat_lt 0 n)) s ≡ cond (nat_eq s.machine m && ((nat_eq s.job p.0 && nat_eq s.unit p.1) || has_pair (s.job, s.unit) ps)) (count spot_cmp es s) 0
      by false e c f d g r = passed (nat_lt 0 n) (differs (machine_no e)) ∙ r ∙ (λ i. cond (e i && has_pair (s.job, s.unit) ps) (count spot_cmp es s) 0) ∙ (λ i. cond (sym e i && ((nat_eq s.job p.0 && nat_eq s.unit p.1) || has_pair (s.job, s.unit) ps)) (count spot_cmp es s) 0)
      by true e false f d g r = passed (nat_lt 0 n) (differs (job_no false f refl)) ∙ r ∙ (λ i. cond (nat_eq s.machine m && (sym f i || has_pair (s.job, s.unit) ps)) (count spot_cmp es s) 0)
      by true e true f true g r =
          let same = same_as s p e f in
          let t : eq_by_cmp spot_cmp s here ≡ true = ap (λ x. eq_by_cmp spot_cmp x here) same ∙ ap is_eq (tied_itself spot_total here) in
          (λ i. count spot_cmp (with_entry (g i)) s) ∙ ap (λ b. unwrap_or (cond b (Some n) (find spot_cmp s rest)) 0) t ∙ ap (count spot_cmp es) (sym same)
          ∙ (λ i. cond (sym e i && (sym f i || has_pair (s.job, s.unit) ps)) (count spot_cmp es s) 0)
      by true e true f false g r =
          let same = same_as s p e f in
          let none : n ≡ 0 = grind (arith, nat_tests, g) in
          let zero_here : count spot_cmp es s ≡ 0 = ap (count spot_cmp es) same ∙ none in
          (λ i. count spot_cmp (with_entry (g i)) s) ∙ r ∙ either_none (nat_eq s.machine m && has_pair (s.job, s.unit) ps) zero_here
          ∙ sym (either_none (nat_eq s.machine m && ((nat_eq s.job p.0 && nat_eq s.unit p.1) || has_pair (s.job, s.unit) ps)) zero_here)
        where
          either_none : (b : Bool) → count spot_cmp es s ≡ 0 → cond b (count spot_cmp es s) 0 ≡ 0
          either_none true z = z
          either_none false z = refl

  -- those of a table on a machine
  filter_where : (xs : Table) → filter (λ e. nat_eq e.0.machine m) xs ≡ where_key spot_cmp (λ s. nat_eq s.machine m) xs
  filter_where [] = refl
  filter_where (x ∷ xs) = elim (nat_eq x.0.machine m) as (λ b. cond b (x ∷ filter (λ e. nat_eq e.0.machine m) xs) (filter (λ e. nat_eq e.0.machine m) xs) ≡ cond b (x ∷ where_key spot_cmp (λ s. nat_eq s.machine m) xs) (where_key spot_cmp (λ s. nat_eq s.machine m) xs)) [
    | true ↦ ap (λ ys. x ∷ ys) (filter_where xs)
    | false ↦ filter_where xs
  ]

  where_at : (s : Spot) → count spot_cmp (where_key spot_cmp (λ s. nat_eq s.machine m) es) s ≡ cond (nat_eq s.machine m) (count spot_cmp es s) 0
  where_at s = ap (λ o. unwrap_or o 0) (find-where_key spot_cmp (λ x. nat_eq x.machine m) s (λ x t. ap (λ (y : Spot). nat_eq y.machine m) (sym (same_spot s x t))) es) ∙ turned (nat_eq s.machine m)
    where
      turned : (b : Bool) → unwrap_or (cond b (find spot_cmp s es) None) 0 ≡ cond b (count spot_cmp es s) 0
      turned true = refl
      turned false = refl

  pub listed_all : AreCounts spot_cmp (λ s. greatest_count) es → (ps : List Pair) → IsRising ps → ((s : Spot) → 0 < count spot_cmp es s → has_pair (s.job, s.unit) ps ≡ true) → filter (λ e. nat_eq e.0.machine m) es ≡ flat_map (entry_on es m) ps
  unfolding is_on
  listed_all h ps r all = filter_where es ∙ same_counts spot_total same_spot (λ s. greatest_count) (where_key spot_cmp (λ s. nat_eq s.machine m) es) (flat_map (entry_on es m) ps) (counts-where_key spot_total (λ s. greatest_count) (λ s. nat_eq s.machine m) es h) (listed_counts h ps r)
      (λ s. where_at s ∙ there s (nat_lt 0 (count spot_cmp es s)) refl ∙ sym (listed_at ps s))
    where
      there : (s : Spot) (b : Bool) → nat_lt 0 (count spot_cmp es s) ≡ b → cond (nat_eq s.machine m) (count spot_cmp es s) 0 ≡ cond (nat_eq s.machine m && has_pair (s.job, s.unit) ps) (count spot_cmp es s) 0
      there s true t = let p = all s (grind (arith, nat_tests, t)) in (λ i. cond (second (nat_eq s.machine m) i) (count spot_cmp es s) 0) ∙ (λ i. cond (nat_eq s.machine m && sym p i) (count spot_cmp es s) 0)
        where
          second : (b : Bool) → b ≡ (b && true)
          second true = refl
          second false = refl
      there s false f =
          let z : count spot_cmp es s ≡ 0 = grind (arith, nat_tests, f) in
          none (nat_eq s.machine m) z ∙ sym (none (nat_eq s.machine m && has_pair (s.job, s.unit) ps) z)
        where
          none : (b : Bool) → count spot_cmp es s ≡ 0 → cond b (count spot_cmp es s) 0 ≡ 0
          none true z = z
          none false z = refl
