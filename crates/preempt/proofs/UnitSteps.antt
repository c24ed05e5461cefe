-- One step of each loop that lists units.
use Rattle.std.proofs.Common.{◌≡◌, ℕ, zero, suc, ◌+◌, ◌-◌, ◌<◌, ◌≤◌, Bool, true, false, cond, nat_eq, nat_lt, List, [], ◌∷◌, ◌++◌, length, map, filter, get_or, take, Some, refl, sym, ◌∙◌, ap, subst, arith, append_assoc, add-one}
use Rattle.std.specs.Prelude.{◌&&◌, slice_get, Option}
use Rattle.std.specs.Option.{unwrap_or, option_map}
use Rattle.std.specs.List.{AllByRecursion, flat_map}
use Rattle.std.specs.Ordering.{eq_by_cmp}
use Rattle.std.specs.FinMap.Entries.{find}
use Rattle.std.proofs.lemmas.Bool.Decides.{nat_tests}
use Rattle.std.proofs.lemmas.List.Elements.{filter-append}
use Rattle.std.proofs.lemmas.List.Sums.{sum_by-cons}
use Rattle.std.proofs.lemmas.Grind.{flat_map-append}
use Rattle.std.proofs.lemmas.List.{append-nil, map-append, length-map}
use Rattle.fuxi_terms.specs.Cluster.{JobRecord, UnitRecord}
use Rattle.fuxi_terms.specs.Jobs.{KnownJob, unit_count, unit_of, priority_of, group_of, no_unit}
use Rattle.fuxi_terms.specs.Keys.{Spot, spot_cmp, Pair}
use Rattle.fuxi_terms.specs.Lists.{below}
use Rattle.fuxi_terms.specs.Tables.{spot, held, held_on, Table}
use Rattle.fuxi_terms.proofs.Alls.{all_append, all_map, all_passed}
use Rattle.fuxi_terms.proofs.Booleans.{nat_itself}
use Rattle.fuxi_terms.proofs.CountsLemmas.{tied}
use Rattle.fuxi_terms.proofs.KeyOrders.{same_spot}
use Rattle.grant_table.specs.GrantTables.{TableRecord, IsSound, as_known}
use Rattle.preempt.specs.declared.entry.Entry.{Entry}
use Rattle.preempt.specs.Given.{IsEntry, pair_of}
use Rattle.preempt.specs.Shelves.{AreHolders, HoldsSome}
use Rattle.preempt.specs.Walks.{units_in, all_units, backward, of_priority, entries_by_priority, pairs_by_priority, holds_some, entry_on}
use Rattle.preempt.proofs.Admitted.{job_found, valid_at, few_units, ordered_length, walk_is}
use Rattle.fuxi_terms.proofs.ValidJobs.{group_valid}
use Rattle.fuxi_terms.proofs.Lists.{take_last}

-- the job at a place has its units
pub units_counted : (t : TableRecord) → IsSound t → (i : ℕ) (j : JobRecord) → slice_get t.jobs i ≡ Some j → unit_count (as_known t.jobs) j.number ≡ length j.units
units_counted t s i j at = ap (λ (o : Option KnownJob). length (unwrap_or (option_map (λ (k : KnownJob). k.job.units) o) [])) (job_found t.jobs s.in_order i j at)

-- a unit of the job at a place is an entry
pub entry_found : (t : TableRecord) → IsSound t → (i : ℕ) (j : JobRecord) → slice_get t.jobs i ≡ Some j → (u : ℕ) (x : UnitRecord) → slice_get j.units u ≡ Some x → u < length j.units
    → (e : Entry) → e.app.0 ≡ j.number → e.unit.0 ≡ u → e.group ≡ j.group → e.priority ≡ x.priority → e.size.now.q ≡ x.size → IsEntry t e
entry_found t s i j at u x is lt e app unit group priority size =
    let f = job_found t.jobs s.in_order i j at in
    let g = group_valid j (valid_at t.jobs s.in_order i j at) in
    let count : unit_count (as_known t.jobs) e.app.0 ≡ length j.units = ap (unit_count (as_known t.jobs)) app ∙ units_counted t s i j at in
    let found : unit_of (as_known t.jobs) e.app.0 e.unit.0 ≡ x =
    (λ k. unit_of (as_known t.jobs) (app k) (unit k))
    ∙ ap (λ (o : Option KnownJob). unwrap_or (slice_get (unwrap_or (option_map (λ (k : KnownJob). k.job.units) o) []) u) no_unit) f
    ∙ ap (λ o. unwrap_or o no_unit) is in
    record {
      unit = omega (arith, lt, unit, count);
      group = group ∙ sym (ap (λ (o : Option KnownJob). unwrap_or (option_map (λ (k : KnownJob). k.job.group) o) 0) f) ∙ ap (group_of (as_known t.jobs)) (sym app);
      small = omega (arith, g, group);
      priority = priority ∙ ap (λ (y : UnitRecord). y.priority) (sym found);
      size = size ∙ ap (λ (y : UnitRecord). y.size) (sym found);
    }

units_more : (js : List JobRecord) (i : ℕ) (j : JobRecord) → slice_get js i ≡ Some j → all_units (take (i + 1) js) ≡ all_units (take i js) ++ units_in j (length j.units)
units_more js i j e = ap all_units (take_last js i j e) ∙ flat_map-append (λ (j : JobRecord). units_in j (length j.units)) (take i js) (j ∷ []) ∙ ap (λ xs. all_units (take i js) ++ xs) (append-nil (units_in j (length j.units)))

-- from the last to the first
module _ {A : Type 0} (test : A → Bool) where
  backward_last : (xs : List A) (x : A) → backward test (xs ++ x ∷ []) ≡ cond (test x) (x ∷ []) [] ++ backward test xs
  backward_last [] x = sym (append-nil (cond (test x) (x ∷ []) []))
  backward_last (y ∷ ys) x = ap (λ zs. zs ++ cond (test y) (y ∷ []) []) (backward_last ys x) ∙ append_assoc (cond (test x) (x ∷ []) []) (backward test ys) (cond (test y) (y ∷ []) [])

  pub got : (xs : List A) (i : ℕ) (d : A) → i < length xs → slice_get xs i ≡ Some (get_or xs i d)
  got [] i d lt = absurd (omega (arith, lt))
  got (x ∷ xs) zero d lt = refl
  got (x ∷ xs) (suc i) d lt = got xs i d (omega (arith, lt))

  pub backward_step : (xs : List A) (back : ℕ) (d : A) → back < length xs
      → backward test (take (length xs - back) xs) ≡ cond (test (get_or xs (length xs - 1 - back) d)) (get_or xs (length xs - 1 - back) d ∷ []) [] ++ backward test (take (length xs - (back + 1)) xs)
  backward_step xs back d lt =
      let n = length xs - 1 - back in
      let m : length xs - back ≡ n + 1 = omega (arith, lt) in
      let k : length xs - (back + 1) ≡ n = omega arith in
      ap (λ j. backward test (take j xs)) m ∙ ap (backward test) (take_last xs n (get_or xs n d) (got xs n d (omega (arith, lt)))) ∙ backward_last (take n xs) (get_or xs n d)
      ∙ ap (λ j. cond (test (get_or xs n d)) (get_or xs n d ∷ []) [] ++ backward test (take j xs)) (sym k)

  pub backward_all : (P : A → Type 0) (xs : List A) → AllByRecursion P xs → AllByRecursion P (backward test xs)
  backward_all P [] h = tt
  backward_all P (x ∷ xs) h = all_append P (backward test xs) (cond (test x) (x ∷ []) []) (backward_all P xs h.1)
      (elim (test x) as (λ b. AllByRecursion P (cond b (x ∷ []) [])) [ true ↦ (h.0, tt) | false ↦ tt ])

-- entries by priority are their pairs by priority
pairs_backward : (t : TableRecord) (n : ℕ) (es : List Entry) → AllByRecursion (IsEntry t) es → map pair_of (backward (of_priority n) es) ≡ backward (λ (p : Pair). nat_eq (priority_of (as_known t.jobs) p.0 p.1) n) (map pair_of es)
pairs_backward t n [] h = refl
pairs_backward t n (e ∷ es) h =
    let r = pairs_backward t n es h.1 in
    let p = h.0.priority in
    map-append pair_of (backward (of_priority n) es) (cond (nat_eq e.priority n) (e ∷ []) []) ∙ (λ i. r i ++ one (nat_eq e.priority n) i)
    ∙ ap (λ k. backward (λ (p : Pair). nat_eq (priority_of (as_known t.jobs) p.0 p.1) n) (map pair_of es) ++ cond (nat_eq k n) (pair_of e ∷ []) []) p
  where
    one : (b : Bool) → map pair_of (cond b (e ∷ []) []) ≡ cond b (pair_of e ∷ []) []
    one true = refl
    one false = refl

pairs_ordered : (t : TableRecord) (es : List Entry) → AllByRecursion (IsEntry t) es → (n : ℕ) → map pair_of (entries_by_priority es n) ≡ pairs_by_priority (priority_of (as_known t.jobs)) (map pair_of es) n
pairs_ordered t es h n = over (below n)
  where
    over : (ks : List ℕ) → map pair_of (flat_map (λ p. backward (of_priority p) es) ks) ≡ flat_map (λ k. backward (λ (p : Pair). nat_eq (priority_of (as_known t.jobs) p.0 p.1) k) (map pair_of es)) ks
    over [] = refl
    over (k ∷ ks) = let a = pairs_backward t k es h in let r = over ks in map-append pair_of (backward (of_priority k) es) (flat_map (λ p. backward (of_priority p) es) ks) ∙ (λ i. a i ++ r i)

pub all_ordered : (P : Entry → Type 0) (es : List Entry) → AllByRecursion P es → (n : ℕ) → AllByRecursion P (entries_by_priority es n)
all_ordered P es h n = over (below n)
  where
    over : (ks : List ℕ) → AllByRecursion P (flat_map (λ p. backward (of_priority p) es) ks)
    over [] = tt
    over (k ∷ ks) = all_append P (backward (of_priority k) es) (flat_map (λ p. backward (of_priority p) es) ks) (backward_all (of_priority k) P es h) (over ks)

-- ---- those that have grants
-- a unit has on a machine no more than in all
pub held_least : (es : Table) (a u m : ℕ) → held_on es a u m ≤ held es a u
held_least [] a u m = omega arith
held_least (x ∷ xs) a u m = by (eq_by_cmp spot_cmp s x.0) refl (held_least xs a u m)
  where
    s : Spot
    s = spot a u m

    here : Bool
    here = nat_eq x.0.job a && nat_eq x.0.unit u

    more : held (x ∷ xs) a u ≡ cond here x.1 0 + held xs a u
    more = sum_by-cons (λ (e : Spot × ℕ). cond (nat_eq e.0.job a && nat_eq e.0.unit u) e.1 0) x xs

    by : (b : Bool) → eq_by_cmp spot_cmp s x.0 ≡ b → held_on xs a u m ≤ held xs a u → unwrap_or (cond (eq_by_cmp spot_cmp s x.0) (Some x.1) (find spot_cmp s xs)) 0 ≤ held (x ∷ xs) a u
    by true e le =
        let same : s ≡ x.0 = same_spot s x.0 (tied _ e) in
        let j : nat_eq x.0.job a ≡ true = ap (λ (y : Spot). nat_eq y.job a) (sym same) ∙ nat_itself a in
        let k : nat_eq x.0.unit u ≡ true = ap (λ (y : Spot). nat_eq y.unit u) (sym same) ∙ nat_itself u in
        let whole : cond here x.1 0 ≡ x.1 = λ i. cond (j i && k i) x.1 0 in
        let found : unwrap_or (cond (eq_by_cmp spot_cmp s x.0) (Some x.1) (find spot_cmp s xs)) 0 ≡ x.1 = ap (λ b. unwrap_or (cond b (Some x.1) (find spot_cmp s xs)) 0) e in
        omega (arith, more, whole, found)
    by false e le =
        let found : unwrap_or (cond (eq_by_cmp spot_cmp s x.0) (Some x.1) (find spot_cmp s xs)) 0 ≡ held_on xs a u m = ap (λ b. unwrap_or (cond b (Some x.1) (find spot_cmp s xs)) 0) e in
        omega (arith, more, found, le)

nothing_on : (es : Table) (m : ℕ) (p : Pair) → holds_some es p ≡ false → entry_on es m p ≡ []
nothing_on es m p f =
    let n = held_on es p.0 p.1 m in
    let le = held_least es p.0 p.1 m in
    let none : nat_lt 0 n ≡ false = grind (arith, nat_tests, f, le) in
    ap (λ b. cond b ((spot p.0 p.1 m, n) ∷ []) []) none

holders_listed : (es : Table) (m : ℕ) (ps : List Pair) → flat_map (entry_on es m) (filter (holds_some es) ps) ≡ flat_map (entry_on es m) ps
holders_listed es m [] = refl
holders_listed es m (p ∷ ps) =
    let rest = holders_listed es m ps in
    elim (holds_some es p) as (λ b. holds_some es p ≡ b → flat_map (entry_on es m) (cond b (p ∷ filter (holds_some es) ps) (filter (holds_some es) ps)) ≡ entry_on es m p ++ flat_map (entry_on es m) ps) [
      | true ↦ λ _. ap (λ xs. entry_on es m p ++ xs) rest
      | false ↦ λ f. rest ∙ ap (λ xs. xs ++ flat_map (entry_on es m) ps) (sym (nothing_on es m p f))
    ] refl

filter_few : (test : Pair → Bool) (ps : List Pair) → length (filter test ps) ≤ length ps
filter_few test [] = omega arith
filter_few test (p ∷ ps) = let r = filter_few test ps in elim (test p) as (λ b. length (cond b (p ∷ filter test ps) (filter test ps)) ≤ length (p ∷ ps)) [ true ↦ omega (arith, r) | false ↦ omega (arith, r) ]

-- one job more
-- of the units of a job up to the next one those are taken that were taken before, and it
pub holds_more : (test : Pair → Bool) (j : JobRecord) (n : ℕ) → test (j.number, n) ≡ true → filter test (units_in j (n + 1)) ≡ filter test (units_in j n) ++ (j.number, n) ∷ []
holds_more test j n e =
    ap (λ k. filter test (units_in j k)) (add-one n)
    ∙ ap (filter test) (map-append (λ u. (j.number, u)) (below n) (n ∷ []))
    ∙ filter-append test (units_in j n) ((j.number, n) ∷ [])
    ∙ ap (λ b. filter test (units_in j n) ++ cond b ((j.number, n) ∷ []) []) e

pub passed_units : (test : Pair → Bool) (js : List JobRecord) (i : ℕ) (j : JobRecord) → slice_get js i ≡ Some j → filter test (all_units (take (i + 1) js)) ≡ filter test (all_units (take i js)) ++ filter test (units_in j (length j.units))
passed_units test js i j e = ap (filter test) (units_more js i j e) ∙ filter-append test (all_units (take i js)) (units_in j (length j.units))

-- ---- the order of those that pass a test
module _ (test : Pair → Bool) where
  backward_passed : (of : Pair → Bool) (ps : List Pair) → backward of (filter test ps) ≡ filter test (backward of ps)
  backward_passed of [] = refl
  backward_passed of (p ∷ ps) = by (test p) refl (backward_passed of ps) ∙ sym (filter-append test (backward of ps) (cond (of p) (p ∷ []) []))
    where
      one : (b d : Bool) → test p ≡ b → filter test (cond d (p ∷ []) []) ≡ cond b (cond d (p ∷ []) []) []
      one true false is = refl
      one false false is = refl
      one true true is = ap (λ b. cond b (p ∷ []) []) is
      one false true is = ap (λ b. cond b (p ∷ []) []) is

      by : (b : Bool) → test p ≡ b → backward of (filter test ps) ≡ filter test (backward of ps)
          → backward of (filter test (p ∷ ps)) ≡ filter test (backward of ps) ++ filter test (cond (of p) (p ∷ []) [])
      by true is rest =
          ap (λ b. backward of (cond b (p ∷ filter test ps) (filter test ps))) is
          ∙ ap (λ xs. xs ++ cond (of p) (p ∷ []) []) rest
          ∙ ap (λ xs. filter test (backward of ps) ++ xs) (sym (one true (of p) is))
      by false is rest =
          ap (λ b. backward of (cond b (p ∷ filter test ps) (filter test ps))) is
          ∙ rest ∙ sym (append-nil (filter test (backward of ps)))
          ∙ ap (λ xs. filter test (backward of ps) ++ xs) (sym (one false (of p) is))

  order_passed : (priorities : ℕ → ℕ → ℕ) (ps : List Pair) (n : ℕ) → pairs_by_priority priorities (filter test ps) n ≡ filter test (pairs_by_priority priorities ps n)
  order_passed priorities ps n = over (below n)
    where
      over : (ks : List ℕ) → flat_map (λ k. backward (λ (p : Pair). nat_eq (priorities p.0 p.1) k) (filter test ps)) ks ≡ filter test (flat_map (λ k. backward (λ (p : Pair). nat_eq (priorities p.0 p.1) k) ps) ks)
      over [] = refl
      over (k ∷ ks) =
          let of = λ (p : Pair). nat_eq (priorities p.0 p.1) k in
          let a = backward_passed of ps in
          let r = over ks in
          (λ i. a i ++ r i) ∙ sym (filter-append test (backward of ps) (flat_map (λ k. backward (λ (p : Pair). nat_eq (priorities p.0 p.1) k) ps) ks))

-- units that pass the test have grants
pub holders_some : (t : TableRecord) (units : List Entry) (ps : List Pair) → map pair_of units ≡ filter (holds_some t.entries) ps → AllByRecursion (HoldsSome t) units
holders_some t units ps is =
    all_map (λ p. holds_some t.entries p ≡ true) pair_of units (subst (AllByRecursion (λ p. holds_some t.entries p ≡ true)) (sym is) (all_passed (λ p. holds_some t.entries p ≡ true) (holds_some t.entries) ps (λ p h. h)))

pub holders_ordered : (t : TableRecord) → IsSound t → (units : List Entry) → map pair_of units ≡ filter (holds_some t.entries) (all_units t.jobs) → AllByRecursion (IsEntry t) units → AreHolders t (entries_by_priority units 10)
holders_ordered t s units is each =
    let priorities = priority_of (as_known t.jobs) in
    let test = holds_some t.entries in
    let ordered = entries_by_priority units 10 in
    let all = pairs_by_priority priorities (all_units t.jobs) 10 in
    let pairs : map pair_of ordered ≡ filter test all = pairs_ordered t units each 10 ∙ ap (λ ps. pairs_by_priority priorities ps 10) is ∙ order_passed test priorities (all_units t.jobs) 10 in
    record {
      each = all_ordered (IsEntry t) units each 10;
      some = all_ordered (HoldsSome t) units (holders_some t units (all_units t.jobs) is) 10;
      few =
          let a : length (map pair_of ordered) ≡ length ordered = length-map ordered pair_of in
          let b = ap length pairs in
          let c = filter_few test all in
          let l = ordered_length priorities (all_units t.jobs) 10 in
          let f = few_units t.jobs s.in_order in
          omega (arith, a, b, c, l, f);
      lists = λ m. ap (flat_map (entry_on t.entries m)) pairs ∙ holders_listed t.entries m all ∙ sym (walk_is t s m);
    }
