-- A map that has the numbers that are set, and else what another one has, is that one with the numbers set.
use Rattle.std.proofs.Common.{◌≡◌, ℕ, Bool, true, false, cond, nat_eq, List, [], ◌∷◌, map, filter, Some, None, refl, sym, ◌∙◌, ap}
use Rattle.std.specs.Prelude.{T}
use Rattle.std.specs.Option.{is_some, unwrap_or}
use Rattle.std.specs.Ordering.{eq_by_cmp, is_eq}
use Rattle.std.specs.Cmp.{IsTotalOrder, tied_itself}
use Rattle.std.specs.declared.cmp.Ordering.{Ordering}
use Rattle.std.specs.declared.cmp.Ordering.TheVariants.{Equal}
use Rattle.std.specs.FinMap.Entries.{below_all, find, is_sorted}
use Rattle.fuxi_terms.specs.Counts.{count, set_count, AreCounts}
use Rattle.fuxi_terms.specs.Jobs.{KnownJob}
use Rattle.fuxi_terms.specs.Keys.{RowKey, row_cmp, Spot, spot_cmp}
use Rattle.fuxi_terms.specs.Rows.{greatest_row}
use Rattle.fuxi_terms.proofs.Booleans.{same_tests, number_is, nat_itself}
use Rattle.fuxi_terms.proofs.CountsLemmas.{both_true, tied, below_none, same_counts, count-set_count}
use Rattle.fuxi_terms.proofs.KeyOrders.{row_key_total, same_row_key, spot_total, same_spot}
use Rattle.spec_roles.specs.MasterSteps.{spot_row_key}
use Rattle.fuxi_terms.specs.NumbersSet.{numbers_set, AreNumbers, IsSetTo}
use Rattle.ledger_updates.specs.Projections.{row_of, spot_of, RowFollows}
use Rattle.fuxi_terms.proofs.NumbersSetLemmas.{set_counts}
use Rattle.fuxi_terms.specs.Tables.{Table}

module _ {K : Type 0} {R : K → K → Ordering} (o : IsTotalOrder R) (same : (x y : K) → R x y ≡ Equal → x ≡ y) (greatest : K → ℕ) where
  pub set_count_is : (es ns : List (K × ℕ)) → T (is_sorted R ns) → (q : K) → count R (numbers_set R es ns) q ≡ cond (is_some (find R q ns)) (count R ns q) (count R es q)
  set_count_is es [] s q = refl
  set_count_is es (n ∷ ns) s q =
      let parts = both_true (below_all R n.0 ns) (is_sorted R ns) s in
      set_count_is (set_count R es n.0 n.1) ns parts.1 q ∙ ap (λ c. cond (is_some (find R q ns)) (count R ns q) c) (count-set_count o es n.0 n.1 q) ∙ by (eq_by_cmp R q n.0) refl parts.0
    where
      by : (b : Bool) → eq_by_cmp R q n.0 ≡ b → T (below_all R n.0 ns) → cond (is_some (find R q ns)) (count R ns q) (cond b n.1 (count R es q)) ≡ cond (is_some (cond b (Some n.1) (find R q ns))) (unwrap_or (cond b (Some n.1) (find R q ns)) 0) (count R es q)
      by true t below = let none : is_some (find R q ns) ≡ false = ap (λ k. is_some (find R k ns)) (same q n.0 (tied _ t)) ∙ ap is_some (below_none R n.0 ns below) in ap (λ b. cond b (count R ns q) n.1) none
      by false t below = refl

  pub numbers_are : (es ns fs : List (K × ℕ)) → AreCounts R greatest es → AreCounts R greatest fs → AreNumbers R greatest ns → IsSetTo R es ns fs → numbers_set R es ns ≡ fs
  numbers_are es ns fs h k numbers is = same_counts o same greatest (numbers_set R es ns) fs (set_counts o same greatest es ns h numbers.within) k (λ q. set_count_is es ns numbers.sorted q ∙ sym (is q))

module _ (jobs : List KnownJob) (m : ℕ) where
  abbrev key : Spot → RowKey
  key s = spot_row_key jobs s

  -- spots of one machine with one key are one
  one_spot : (s e : Spot) → s.machine ≡ m → e.machine ≡ m → eq_by_cmp row_cmp (key s) (key e) ≡ eq_by_cmp spot_cmp s e
  one_spot s e sm em = same_tests (eq_by_cmp row_cmp (key s) (key e)) (eq_by_cmp spot_cmp s e)
      (λ t. let k = same_row_key (key s) (key e) (tied _ t) in
      let is : s ≡ e = λ i. record { job = ap (λ (x : RowKey). x.job) k i; unit = ap (λ (x : RowKey). x.unit) k i; machine = (sm ∙ sym em) i } in
      ap (eq_by_cmp spot_cmp s) (sym is) ∙ ap is_eq (tied_itself spot_total s))
      (λ t. let is = same_spot s e (tied _ t) in ap (λ x. eq_by_cmp row_cmp (key s) (key x)) (sym is) ∙ ap is_eq (tied_itself row_key_total (key s)))

  count_at : (t : Table) (s : Spot) → s.machine ≡ m → find row_cmp (key s) (row_of jobs m t) ≡ find spot_cmp s t
  count_at [] s sm = refl
  count_at (e ∷ t) s sm = by (nat_eq e.0.machine m) refl (count_at t s sm)
    where
      by : (b : Bool) → nat_eq e.0.machine m ≡ b → find row_cmp (key s) (row_of jobs m t) ≡ find spot_cmp s t → find row_cmp (key s) (map (λ e. (spot_row_key jobs e.0, e.1)) (cond b (e ∷ filter (λ e. nat_eq e.0.machine m) t) (filter (λ e. nat_eq e.0.machine m) t))) ≡ cond (eq_by_cmp spot_cmp s e.0) (Some e.1) (find spot_cmp s t)
      by true is rest = λ i. cond (one_spot s e.0 sm (number_is e.0.machine m is) i) (Some e.1) (rest i)
      by false is rest = rest ∙ ap (λ b. cond b (Some e.1) (find spot_cmp s t)) (sym (other (eq_by_cmp spot_cmp s e.0) refl))
        where
          other : (b : Bool) → eq_by_cmp spot_cmp s e.0 ≡ b → b ≡ false
          other true t = let there : nat_eq e.0.machine m ≡ true = ap (λ n. nat_eq n m) (sym (ap (λ (x : Spot). x.machine) (same_spot s e.0 (tied _ t))) ∙ sm) ∙ nat_itself m in let f : true ≡ false = sym there ∙ is in cc
          other false t = refl

  none_at : (t : Table) (q : RowKey) → (q ≡ key (spot_of q m) → ⊥) → find row_cmp q (row_of jobs m t) ≡ None
  none_at [] q differs = refl
  none_at (e ∷ t) q differs = by (nat_eq e.0.machine m) refl (none_at t q differs)
    where
      other : (b : Bool) → e.0.machine ≡ m → eq_by_cmp row_cmp q (key e.0) ≡ b → b ≡ false
      other true em t =
          let k = same_row_key q (key e.0) (tied _ t) in
          let s : spot_of q m ≡ e.0 = λ i. record { job = ap (λ (x : RowKey). x.job) k i; unit = ap (λ (x : RowKey). x.unit) k i; machine = sym em i } in
          absurd (differs (k ∙ ap key (sym s)))
      other false em t = refl

      by : (b : Bool) → nat_eq e.0.machine m ≡ b → find row_cmp q (row_of jobs m t) ≡ None → find row_cmp q (map (λ e. (spot_row_key jobs e.0, e.1)) (cond b (e ∷ filter (λ e. nat_eq e.0.machine m) t) (filter (λ e. nat_eq e.0.machine m) t))) ≡ None
      by true is rest = ap (λ b. cond b (Some e.1) (find row_cmp q (row_of jobs m t))) (other (eq_by_cmp row_cmp q (key e.0)) (number_is e.0.machine m is) refl) ∙ rest
      by false is rest = rest

  -- where the counts of spots follow, so does the row
  pub row_follows : (old new : Table) (ns : List (RowKey × ℕ)) → AreCounts row_cmp greatest_row (row_of jobs m old) → AreCounts row_cmp greatest_row (row_of jobs m new) → AreNumbers row_cmp greatest_row ns → RowFollows jobs m old new ns
      → numbers_set row_cmp (row_of jobs m old) ns ≡ row_of jobs m new
  row_follows old new ns h k numbers f = numbers_are row_key_total same_row_key greatest_row (row_of jobs m old) ns (row_of jobs m new) h k numbers (λ q. by q (eq_by_cmp row_cmp q (key (spot_of q m))) refl)
    where
      by : (q : RowKey) (b : Bool) → eq_by_cmp row_cmp q (key (spot_of q m)) ≡ b → count row_cmp (row_of jobs m new) q ≡ cond (is_some (find row_cmp q ns)) (count row_cmp ns q) (count row_cmp (row_of jobs m old) q)
      by q true t =
          let s = spot_of q m in
          let is : q ≡ key s = same_row_key q (key s) (tied _ t) in
          let after : count row_cmp (row_of jobs m new) q ≡ count spot_cmp new s = ap (count row_cmp (row_of jobs m new)) is ∙ ap (λ r. unwrap_or r 0) (count_at new s refl) in
          let before : count row_cmp (row_of jobs m old) q ≡ count spot_cmp old s = ap (count row_cmp (row_of jobs m old)) is ∙ ap (λ r. unwrap_or r 0) (count_at old s refl) in
          after ∙ f.counts s refl ∙ (λ i. cond (is_some (find row_cmp (sym is i) ns)) (count row_cmp ns (sym is i)) (sym before i))
      by q false t =
          let differs : q ≡ key (spot_of q m) → ⊥ = λ e. let itself : eq_by_cmp row_cmp q (key (spot_of q m)) ≡ true = ap (eq_by_cmp row_cmp q) (sym e) ∙ ap is_eq (tied_itself row_key_total q) in let f : true ≡ false = sym itself ∙ t in cc in
          let none : is_some (find row_cmp q ns) ≡ false = absent (is_some (find row_cmp q ns)) refl differs in
          ap (λ r. unwrap_or r 0) (none_at new q differs) ∙ sym (ap (λ b. cond b (count row_cmp ns q) (count row_cmp (row_of jobs m old) q)) none ∙ ap (λ r. unwrap_or r 0) (none_at old q differs))
        where
          absent : (b : Bool) → is_some (find row_cmp q ns) ≡ b → (q ≡ key (spot_of q m) → ⊥) → b ≡ false
          absent true h differs = absurd (differs (f.keys q h))
          absent false h differs = refl
