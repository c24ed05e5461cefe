-- The numbers of a machine at the spots that were touched: what they are, and what they make of the row of an earlier map.
use Rattle.std.proofs.Common.{◌≡◌, ℕ, ◌<◌, ◌≤◌, Bool, true, false, cond, nat_eq, nat_lt, List, [], ◌∷◌, length, map, filter, Some, None, refl, sym, ◌∙◌, ap, subst, arith, inl, inr}
use Rattle.std.specs.Prelude.{T, IsTrue, ◌&&◌, ◌||◌, Option}
use Rattle.std.specs.Option.{is_some, unwrap_or}
use Rattle.std.specs.List.{AllByRecursion}
use Rattle.std.specs.Ordering.{eq_by_cmp, is_eq}
use Rattle.std.specs.Cmp.{tied_itself}
use Rattle.std.specs.FinMap.Entries.{find, is_sorted}
use Rattle.std.proofs.lemmas.Bool.{cases_lt}
use Rattle.std.proofs.lemmas.Bool.Decides.{nat_tests}
use Rattle.fuxi_terms.specs.Counts.{count, joined, AreCounts}
use Rattle.fuxi_terms.specs.Jobs.{KnownJob, unit_count}
use Rattle.fuxi_terms.specs.Keys.{RowKey, row_cmp, Spot, spot_cmp}
use Rattle.fuxi_terms.specs.Limits.{greatest_count, most_entries}
use Rattle.fuxi_terms.specs.Rows.{is_row_key, greatest_row, row_below, row_too_great}
use Rattle.fuxi_terms.proofs.Alls.{all_more, all_mapped, all_filter, all_passed}
use Rattle.fuxi_terms.proofs.Booleans.{both_true, number_is, nat_itself, and_false}
use Rattle.fuxi_terms.proofs.CountsLemmas.{tied, count_le, joined_sorted}
use Rattle.fuxi_terms.proofs.KeyOrders.{spot_total, same_spot, row_key_total, same_row_key}
use Rattle.fuxi_terms.proofs.Spots.{each_found}
use Rattle.spec_roles.specs.MasterSteps.{spot_row_key}
use Rattle.grant_table.specs.GrantTables.{TableRecord, as_known, IsSound}
use Rattle.ledger_updates.specs.Projections.{row_of, spot_of, RowFollows}
use Rattle.fuxi_terms.specs.NumbersSet.{numbers_set, AreNumbers}
use Rattle.fuxi_terms.specs.Tables.{Table}
use Rattle.ledger_updates.specs.AllShown.{has_spot, AreInOrder, IsBefore}
use Rattle.ledger_updates.specs.OfNumbers.{of_number}
use Rattle.ledger_updates.specs.TouchedNumbers.{has_place, is_touched, number_at, touched_in, touched_on, MayBeSet}
use Rattle.ledger_updates.proofs.OfNumbersLemmas.{of_mapped}
use Rattle.ledger_updates.proofs.RisingKeys.{one_spot, sorted_keys}
use Rattle.ledger_updates.proofs.UnitKeys.{IsUnitKey, key_is, few_keys, all_joined}

pairs_same : (es : Table) → map (λ (e : Spot × ℕ). (e.0, e.1)) es ≡ es
pairs_same [] = refl
pairs_same (e ∷ es) = ap (λ fs. e ∷ fs) (pairs_same es)

-- the law by which the row of a table follows from that of an earlier one
abbrev pub RowsFollow : Type 0
RowsFollow = (jobs : List KnownJob) (m : ℕ) (old new : Table) (ns : List (RowKey × ℕ)) → AreCounts row_cmp greatest_row (row_of jobs m old) → AreCounts row_cmp greatest_row (row_of jobs m new) → AreNumbers row_cmp greatest_row ns
    → RowFollows jobs m old new ns → numbers_set row_cmp (row_of jobs m old) ns ≡ row_of jobs m new

module _ (t : TableRecord) (sound : IsSound t) (m : ℕ) where
  abbrev jobs : List KnownJob
  jobs = as_known t.jobs

  abbrev key : Spot → RowKey
  key s = spot_row_key jobs s

  -- a number of an admitted unit is within its greatest
  within : (k : RowKey) (n : ℕ) → IsUnitKey t.jobs k → n ≤ greatest_count → n ≤ greatest_row k
  within k n is le = subst (λ b. n ≤ cond b greatest_count 0) (sym (key_is t.jobs sound.in_order k is)) le

  -- ---- the row of a map of admitted units
  module _ (es : Table) (counts : AreCounts spot_cmp (λ s. greatest_count) es) (admitted : AllByRecursion (λ e. (e.0.unit < unit_count jobs e.0.job) × (e.0.machine < length t.cluster.machines)) es) where
    pub row_units : AllByRecursion (λ e. IsUnitKey t.jobs e.0) (row_of jobs m es)
    row_units = all_mapped (λ (e : RowKey × ℕ). IsUnitKey t.jobs e.0) (λ (e : Spot × ℕ). (key e.0, e.1)) (filter (λ (e : Spot × ℕ). nat_eq e.0.machine m) es)
        (all_filter (λ (e : Spot × ℕ). IsUnitKey t.jobs (key e.0)) (λ (e : Spot × ℕ). nat_eq e.0.machine m) es
        (all_more (λ (e : Spot × ℕ). (e.0.unit < unit_count jobs e.0.job) × (e.0.machine < length t.cluster.machines)) (λ (e : Spot × ℕ). IsUnitKey t.jobs (key e.0)) (λ e h. record { unit = h.0; size = refl }) es admitted))

    row_sorted : T (is_sorted row_cmp (row_of jobs m es))
    row_sorted = sorted_keys jobs m {A = Spot × ℕ} (λ e. e.0) (λ e. e.1) (λ e. e.1) (λ e. nat_eq e.0.machine m) (λ e h. number_is e.0.machine m h) es (subst (λ fs. T (is_sorted spot_cmp fs)) (sym (pairs_same es)) counts.sorted)

    row_within : AllByRecursion (λ e. e.1 ≤ greatest_row e.0) (row_of jobs m es)
    row_within = both (row_of jobs m es) row_units
        (all_mapped (λ (e : RowKey × ℕ). e.1 ≤ greatest_count) (λ (e : Spot × ℕ). (key e.0, e.1)) _ (all_filter (λ (e : Spot × ℕ). e.1 ≤ greatest_count) (λ (e : Spot × ℕ). nat_eq e.0.machine m) es counts.within))
      where
        both : (fs : List (RowKey × ℕ)) → AllByRecursion (λ e. IsUnitKey t.jobs e.0) fs → AllByRecursion (λ e. e.1 ≤ greatest_count) fs → AllByRecursion (λ e. e.1 ≤ greatest_row e.0) fs
        both [] h k = tt
        both (e ∷ fs) h k = (within e.0 e.1 h.0 k.0, both fs h.1 k.1)

    pub row_counts : AreCounts row_cmp greatest_row (row_of jobs m es)
    row_counts = record {
      sorted = row_sorted;
      positive = all_mapped (λ (e : RowKey × ℕ). 0 < e.1) (λ (e : Spot × ℕ). (key e.0, e.1)) _ (all_filter (λ (e : Spot × ℕ). 0 < e.1) (λ (e : Spot × ℕ). nat_eq e.0.machine m) es counts.positive);
      within = row_within;
    }

  -- ---- the numbers at spots
  module _ (ss : List Spot) (order : AreInOrder ss) where
    touched_is : (s : Spot) → is_touched t m s ≡ true → (s.machine ≡ m) × (s.unit < unit_count jobs s.job)
    touched_is s h =
        let b = both_true (nat_eq s.machine m) _ h in
        (number_is s.machine m b.0, let lt : nat_lt s.unit (unit_count jobs s.job) ≡ true = b.1 in grind (arith, nat_tests, lt))

    pub touched_units : AllByRecursion (λ n. IsUnitKey t.jobs n.0) (touched_on t m ss)
    touched_units = all_mapped (λ (n : RowKey × ℕ). IsUnitKey t.jobs n.0) (number_at t) (filter (is_touched t m) ss) (all_passed (λ (s : Spot). IsUnitKey t.jobs (key s)) (is_touched t m) ss (λ s h. record { unit = (touched_is s h).1; size = refl }))

    pub touched_keys : AllByRecursion (λ n. IsTrue (is_row_key n.0)) (touched_on t m ss)
    touched_keys = all_more (λ (n : RowKey × ℕ). IsUnitKey t.jobs n.0) (λ (n : RowKey × ℕ). IsTrue (is_row_key n.0)) (λ n h. key_is t.jobs sound.in_order n.0 h) (touched_on t m ss) touched_units

    pub touched_numbers : AreNumbers row_cmp greatest_row (touched_on t m ss)
    touched_numbers = record {
      sorted = sorted_keys jobs m {A = Spot} (λ s. s) (λ _. 0) (λ s. count spot_cmp t.entries s) (is_touched t m) (λ s h. (touched_is s h).0) ss order;
      within = all_mapped (λ (n : RowKey × ℕ). n.1 ≤ greatest_row n.0) (number_at t) (filter (is_touched t m) ss) (all_passed (λ (s : Spot). count spot_cmp t.entries s ≤ greatest_row (key s)) (is_touched t m) ss
          (λ s h. within (key s) (count spot_cmp t.entries s) (record { unit = (touched_is s h).1; size = refl }) (count_le spot_total same_spot (λ s. greatest_count) t.entries s sound.counts.within)));
    }

    pub touched_few : length (touched_on t m ss) ≤ most_entries
    touched_few = few_keys t.jobs sound.in_order (touched_on t m ss) touched_numbers.sorted touched_units

    -- with those of a row of admitted units
    pub touched_together : (es : List (RowKey × ℕ)) → AllByRecursion (λ e. IsUnitKey t.jobs e.0) es → length (joined row_cmp es (touched_on t m ss)) ≤ most_entries
    touched_together es units =
        let none : AreCounts row_cmp greatest_row [] = record { sorted = tt; positive = tt; within = tt } in
        few_keys t.jobs sound.in_order (joined row_cmp es (touched_on t m ss)) (joined_sorted row_key_total same_row_key greatest_row row_below row_too_great [] [] none es (touched_on t m ss) touched_numbers.sorted) (all_joined (IsUnitKey t.jobs) es (touched_on t m ss) units touched_units)

  -- ---- what they make of the row of an earlier map
  found_key : (P : RowKey → Type 0) (q : RowKey) (es : List (RowKey × ℕ)) → AllByRecursion (λ e. P e.0) es → is_some (find row_cmp q es) ≡ true → P q
  found_key P q [] h there = cc
  found_key P q (e ∷ es) h there = elim (eq_by_cmp row_cmp q e.0) as (λ b. eq_by_cmp row_cmp q e.0 ≡ b → is_some (cond b (Some e.1) (find row_cmp q es)) ≡ true → P q) [
    | true ↦ λ e _. subst P (sym (same_row_key q _ (tied _ e))) h.0
    | false ↦ λ _ there. found_key P q es h.1 there
  ] refl there

  touched_key : (ss : List Spot) (q : RowKey) → is_some (find row_cmp q (touched_on t m ss)) ≡ true → q ≡ key (spot_of q m)
  touched_key ss q there = found_key (λ k. k ≡ key (spot_of k m)) q (touched_on t m ss) (all_mapped (λ (n : RowKey × ℕ). n.0 ≡ key (spot_of n.0 m)) (number_at t) (filter (is_touched t m) ss) (every (filter (is_touched t m) ss))) there
    where
      every : (xs : List Spot) → AllByRecursion (λ s. key s ≡ key (spot_of (key s) m)) xs
      every [] = tt
      every (x ∷ xs) = (refl, every xs)

  abbrev is_admitted : Spot → Bool
  is_admitted s = nat_lt s.unit (unit_count jobs s.job)

  touched_find : (s : Spot) → s.machine ≡ m → (ss : List Spot) → find row_cmp (key s) (touched_on t m ss) ≡ cond (has_spot s ss && is_admitted s) (Some (count spot_cmp t.entries s)) None
  touched_find s sm [] = refl
  touched_find s sm (x ∷ ss) = by (eq_by_cmp spot_cmp s x) refl (touched_find s sm ss)
    where
      found : Bool → Option ℕ
      found b = find row_cmp (key s) (map (number_at t) (cond b (x ∷ filter (is_touched t m) ss) (filter (is_touched t m) ss)))

      here : x ≡ s → (b : Bool) → is_admitted s ≡ b → find row_cmp (key s) (touched_on t m ss) ≡ cond (has_spot s ss && b) (Some (count spot_cmp t.entries s)) None → found (nat_eq m m && b) ≡ cond b (Some (count spot_cmp t.entries s)) None
      here e true a rest =
          let first : eq_by_cmp row_cmp (key s) (key x) ≡ true = one_spot jobs m s x sm (ap (λ (y : Spot). y.machine) e ∙ sm) ∙ ap (eq_by_cmp spot_cmp s) e ∙ ap is_eq (tied_itself spot_total s) in
          ap (λ b. found (b && true)) (nat_itself m) ∙ (λ i. cond (first i) (Some (count spot_cmp t.entries (e i))) (find row_cmp (key s) (touched_on t m ss)))
      here e false a rest = ap found (and_false (nat_eq m m)) ∙ rest ∙ ap (λ b. cond b (Some (count spot_cmp t.entries s)) None) (and_false (has_spot s ss))

      other : eq_by_cmp spot_cmp s x ≡ false → (b : Bool) → is_touched t m x ≡ b → found b ≡ find row_cmp (key s) (touched_on t m ss)
      other differs true a = ap (λ b. cond b (Some (count spot_cmp t.entries x)) (find row_cmp (key s) (touched_on t m ss))) (one_spot jobs m s x sm (number_is x.machine m (both_true (nat_eq x.machine m) _ a).0) ∙ differs)
      other differs false a = refl

      by : (b : Bool) → eq_by_cmp spot_cmp s x ≡ b → find row_cmp (key s) (touched_on t m ss) ≡ cond (has_spot s ss && is_admitted s) (Some (count spot_cmp t.entries s)) None → found (is_touched t m x) ≡ cond ((b || has_spot s ss) && is_admitted s) (Some (count spot_cmp t.entries s)) None
      by true e rest =
          let same : x ≡ s = sym (same_spot s x (tied _ e)) in
          ap (λ (y : Spot). found (is_touched t m y)) same ∙ ap (λ n. found (nat_eq n m && is_admitted s)) sm ∙ here same (is_admitted s) refl rest
      by false e rest = other e (is_touched t m x) refl ∙ rest

  -- a unit that is not admitted has nothing
  none_there : (s : Spot) (es : Table) → AllByRecursion (λ e. (e.0.unit < unit_count jobs e.0.job) × (e.0.machine < length t.cluster.machines)) es → is_admitted s ≡ false → count spot_cmp es s ≡ 0
  none_there s es admitted not_admitted = elim (cases_lt 0 (count spot_cmp es s)) [
    | inl some ↦
        let lt : s.unit < unit_count jobs s.job = (each_found (λ s. (s.unit < unit_count jobs s.job) × (s.machine < length t.cluster.machines)) s es some admitted).0 in
        absurd (grind (arith, nat_tests, lt, not_admitted))
    | inr le ↦ omega (arith, le)
  ]

  pub touched_row : RowsFollow → (ss : List Spot) → AreInOrder ss → (before : Table) → IsBefore t ss before → numbers_set row_cmp (row_of jobs m before) (touched_on t m ss) ≡ row_of jobs m t.entries
  touched_row follow ss order before is = follow jobs m before t.entries (touched_on t m ss) (row_counts before is.counts is.admitted) (row_counts t.entries sound.counts sound.admitted) (touched_numbers ss order)
      (record { keys = touched_key ss; counts = λ s sm. subst (λ o. count spot_cmp t.entries s ≡ cond (is_some o) (unwrap_or o 0) (count spot_cmp before s)) (sym (touched_find s sm ss)) (by s (has_spot s ss) (is_admitted s) refl refl) })
    where
      by : (s : Spot) (h a : Bool) → has_spot s ss ≡ h → is_admitted s ≡ a → count spot_cmp t.entries s ≡ cond (is_some (cond (h && a) (Some (count spot_cmp t.entries s)) None)) (unwrap_or (cond (h && a) (Some (count spot_cmp t.entries s)) None) 0) (count spot_cmp before s)
      by s true true h a = refl
      by s true false h a = none_there s t.entries sound.admitted a ∙ sym (none_there s before is.admitted a)
      by s false a h _ = is.others s h

  pub may_be_set : (ss : List Spot) → AreInOrder ss → (before : Table) → IsBefore t ss before → MayBeSet (row_of jobs m before) (touched_on t m ss)
  may_be_set ss order before is = record {
    numbers_are = touched_numbers ss order;
    keys = touched_keys ss order;
    together = touched_together ss order (row_of jobs m before) (row_units before is.counts is.admitted);
    few = touched_few ss order;
  }

-- of the numbers of all machines, those of one
pub touched_of : (t : TableRecord) (m : ℕ) (ss : List Spot) → m < length t.cluster.machines → of_number m (touched_in t ss) ≡ touched_on t m ss
touched_of t m ss lt = of_mapped m (λ (s : Spot). s.machine) (number_at t) (filter (has_place t) ss) ∙ ap (map (number_at t)) (places ss)
  where
    there : (s : Spot) → nat_eq s.machine m ≡ true → nat_lt s.machine (length t.cluster.machines) ≡ true
    there s e = let is = number_is s.machine m e in grind (arith, nat_tests, is, lt)

    places : (ss : List Spot) → filter (λ s. nat_eq s.machine m) (filter (has_place t) ss) ≡ filter (is_touched t m) ss
    places [] = refl
    places (s ∷ ss) = by (nat_eq s.machine m) (nat_lt s.unit (unit_count (as_known t.jobs) s.job)) (nat_lt s.machine (length t.cluster.machines)) refl refl (places ss)
      where
        by : (e u l : Bool) → nat_eq s.machine m ≡ e → nat_lt s.machine (length t.cluster.machines) ≡ l → filter (λ s. nat_eq s.machine m) (filter (has_place t) ss) ≡ filter (is_touched t m) ss
            → filter (λ s. nat_eq s.machine m) (cond (u && l) (s ∷ filter (has_place t) ss) (filter (has_place t) ss)) ≡ cond (e && u) (s ∷ filter (is_touched t m) ss) (filter (is_touched t m) ss)
        by true true true is on rest = ap (λ b. cond b (s ∷ filter (λ s. nat_eq s.machine m) (filter (has_place t) ss)) (filter (λ s. nat_eq s.machine m) (filter (has_place t) ss))) is ∙ ap (λ xs. s ∷ xs) rest
        by true true false is on rest = let f : false ≡ true = sym on ∙ there s is in cc
        by false true true is on rest = ap (λ b. cond b (s ∷ filter (λ s. nat_eq s.machine m) (filter (has_place t) ss)) (filter (λ s. nat_eq s.machine m) (filter (has_place t) ss))) is ∙ rest
        by false true false is on rest = rest
        by true false l is on rest = rest
        by false false l is on rest = rest
