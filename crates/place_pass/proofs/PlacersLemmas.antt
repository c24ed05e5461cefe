-- What a placer was told after a job, a demand or a change was told.
use Rattle.std.proofs.Common.{◌≡◌, ℕ, ◌+◌, ◌<◌, ◌≤◌, Bool, true, false, cond, not, nat_eq, nat_lt, List, [], ◌∷◌, length, map, filter, get_or, set, refl, sym, ◌∙◌, ap, subst, arith, inl, inr, Option, Some, None}
use Rattle.std.specs.Prelude.{◌&&◌, ◌||◌, is_some}
use Rattle.std.specs.Option.{option_map}
use Rattle.std.proofs.lemmas.Bool.{cases_lt}
use Rattle.std.proofs.lemmas.Bool.Decides.{nat_tests}
use Rattle.std.proofs.lemmas.List.{get_or-map, length-map}
use Rattle.std.proofs.Math.ListN.{get_or-eq_default}
use Rattle.fuxi_terms.specs.Cluster.{ClusterRecord, JobRecord, UnitRecord, has_rack}
use Rattle.fuxi_terms.specs.declared.Key.{Key}
use Rattle.fuxi_terms.specs.Keys.{Spot, key_cmp, spot_cmp, Pair}
use Rattle.fuxi_terms.specs.Counts.{count, AreCounts}
use Rattle.fuxi_terms.specs.TallyKeys.{greatest_demand, key, rack_key}
use Rattle.fuxi_terms.specs.Jobs.{KnownJob, job_of, is_known, unit_count, no_unit}
use Rattle.fuxi_terms.specs.Lists.{below}
use Rattle.fuxi_terms.specs.Numbers.{has_number}
use Rattle.fuxi_terms.specs.Tables.{spot, held}
use Rattle.fuxi_terms.proofs.Alls.{all_more}
use Rattle.fuxi_terms.proofs.Booleans.{number_is, nat_itself, both_true, eq_turned, and_false, and_with_true, zero_either}
use Rattle.fuxi_terms.proofs.CountsLemmas.{count_le}
use Rattle.fuxi_terms.proofs.KeyOrders.{key_total, same_key}
use Rattle.fuxi_terms.proofs.Sums.{sum_set}
use Rattle.spec_roles.specs.Masters.{out_of}
use Rattle.spec_roles.specs.Placing.{has_pair, lined, waiting_in}
use Rattle.grant_table.specs.GrantTables.{TableRecord, as_known, with_admitted}
use Rattle.place_pass.specs.Cells.{Cell, no_cell, asks_at, asks_in, job_in, job_at, fresh_cell, fresh_cells, taken, taken_all}
use Rattle.place_pass.specs.Best.{AreAdmitted}
use Rattle.place_pass.specs.WaitingLines.{AllMayWait, AreIn, same_pair}
use Rattle.place_pass.specs.Placers.{AreLevel, is_there, IsSetFrom}
use Rattle.place_pass.proofs.Places.{counted_at, counted_past}
use Rattle.place_pass.proofs.CellsLemmas.{length-taken_all, get_or-taken_all}
use Rattle.place_pass.proofs.CellsMatchTable.{count_is}
use Rattle.place_pass.proofs.WaitingLinesLemmas.{any_append, has_filter, has_flat, known_number, filter_same}
use Rattle.fuxi_terms.proofs.IndexedLists.{one_set, repeated_at}

-- ---- admitted pairs stay admitted
pub admitted_more : (cells : List (List Cell)) (pairs : List Pair) (a : ℕ) (xs : List Cell) → a < length cells → length (get_or cells a []) ≤ length xs → AreAdmitted cells pairs → AreAdmitted (set cells a xs) pairs
admitted_more cells pairs a xs lt le = all_more (λ (p : Pair). p.1 < length (get_or cells p.0 [])) (λ (p : Pair). p.1 < length (get_or (set cells a xs) p.0 [])) (λ p l. subst (λ ys. p.1 < length ys) (sym (one_set cells a p.0 xs [] lt)) (elim (nat_eq a p.0) as (λ t. nat_eq a p.0 ≡ t → p.1 < length (cond t xs (get_or cells p.0 []))) [
  | true ↦ λ t. let m : length (get_or cells p.0 []) ≤ length xs = subst (λ x. length (get_or cells x []) ≤ length xs) (number_is a p.0 t) le in omega (arith, m, l)
  | false ↦ λ _. l
] refl)) pairs

-- and each unit of an admitted job may wait, where those of one more job may
pub all_may_wait : (cells : List (List Cell)) (a : ℕ) (xs : List Cell) (old new : List Pair) → a < length cells → AllMayWait cells old → ((p : Pair) → has_pair p old ≡ true → has_pair p new ≡ true) → AreIn a (length xs) new → AllMayWait (set cells a xs) new
all_may_wait cells a xs old new lt h kept here b u l = elim (nat_eq a b) as (λ t. nat_eq a b ≡ t → u < length (cond t xs (get_or cells b [])) → has_pair (b, u) new ≡ true) [
  | true ↦ λ t few. subst (λ x. has_pair (x, u) new ≡ true) (number_is a b t) (here u few)
  | false ↦ λ _ few. kept (b, u) (h b u few)
] refl (subst (λ ys. u < length ys) (one_set cells a b xs [] lt) l)

-- ---- a job is admitted
none_there : (a : ℕ) (xs : List Cell) → job_in a xs ≡ None → xs ≡ []
none_there a [] e = refl
none_there a (x ∷ xs) e = cc

pub empty_slot : (cells : List (List Cell)) (a : ℕ) → job_at cells a ≡ None → get_or cells a [] ≡ []
empty_slot cells a e = none_there a (get_or cells a []) e

fresh_job : (j : JobRecord) (m : ℕ) → 1 ≤ length j.units → job_in j.number (fresh_cells j.group m j.units) ≡ Some j
fresh_job j m some = by j.units some refl
  where
    units_back : (us : List UnitRecord) → map (λ (x : Cell). x.unit) (map (fresh_cell j.group m) us) ≡ us
    units_back [] = refl
    units_back (x ∷ xs) = ap (λ ys. x ∷ ys) (units_back xs)

    by : (us : List UnitRecord) → 1 ≤ length us → j.units ≡ us → job_in j.number (fresh_cells j.group m us) ≡ Some j
    by [] le e = absurd (omega (arith, le))
    by (x ∷ xs) le e = λ i. Some (record { number = j.number; group = j.group; units = (units_back (x ∷ xs) ∙ sym e) i })

pub job_admitted : (cells : List (List Cell)) (j : JobRecord) (m : ℕ) → j.number < length cells → 1 ≤ length j.units → (b : ℕ) → job_at (set cells j.number (fresh_cells j.group m j.units)) b ≡ cond (nat_eq j.number b) (Some j) (job_at cells b)
job_admitted cells j m lt some b = ap (job_in b) (one_set cells j.number b (fresh_cells j.group m j.units) [] lt)
    ∙ elim (nat_eq j.number b) as (λ t. nat_eq j.number b ≡ t → job_in b (cond t (fresh_cells j.group m j.units) (get_or cells b [])) ≡ cond t (Some j) (job_at cells b)) [
      | true ↦ λ t. subst (λ x. job_in x (fresh_cells j.group m j.units) ≡ Some j) (number_is j.number b t) (fresh_job j m some)
      | false ↦ λ _. refl
    ] refl

asks_zero : (x : Cell) (k : Key) → x.want ≡ 0 → ((i : ℕ) → get_or x.near i 0 ≡ 0) → ((i : ℕ) → get_or x.racks i 0 ≡ 0) → ((i : ℕ) → get_or x.avoided i 0 ≡ 0) → asks_at x k ≡ 0
asks_zero x k w n r a = by (nat_eq k.what 1) (nat_eq k.number 0) (nat_eq k.what 2) (nat_eq k.what 3) (nat_eq k.what 4)
  where
    by : (p q s t u : Bool) → cond p (cond q x.want 0) (cond s (get_or x.near k.number 0) (cond t (get_or x.racks k.number 0) (cond u (get_or x.avoided k.number 0) 0))) ≡ 0
    by true true s t u = w
    by true false s t u = refl
    by false q true t u = n k.number
    by false q false true u = r k.number
    by false q false false true = a k.number
    by false q false false false = refl

no_asks : (k : Key) → asks_at no_cell k ≡ 0
no_asks k = asks_zero no_cell k refl (λ i. refl) (λ i. refl) (λ i. refl)

pub asks_admitted : (cells : List (List Cell)) (n g m : ℕ) (us : List UnitRecord) → n < length cells → get_or cells n [] ≡ [] → (b : ℕ) (k : Key) → asks_in (set cells n (fresh_cells g m us)) b k ≡ asks_in cells b k
asks_admitted cells n g m us lt empty b k = ap (λ xs. asks_at (get_or xs k.unit no_cell) k) (one_set cells n b (fresh_cells g m us) [] lt)
    ∙ elim (nat_eq n b) as (λ t. nat_eq n b ≡ t → asks_at (get_or (cond t (fresh_cells g m us) (get_or cells b [])) k.unit no_cell) k ≡ asks_in cells b k) [
      | true ↦ λ t. fresh k.unit ∙ sym (ap (λ xs. asks_at (get_or xs k.unit no_cell) k) (ap (λ x. get_or cells x []) (sym (number_is n b t)) ∙ empty) ∙ no_asks k)
      | false ↦ λ _. refl
    ] refl
  where
    fresh : (u : ℕ) → asks_at (get_or (fresh_cells g m us) u no_cell) k ≡ 0
    fresh u = elim (cases_lt u (length us)) [
      | inl l ↦ ap (λ x. asks_at x k) (get_or-map (fresh_cell g m) us u no_unit no_cell l) ∙ asks_zero (fresh_cell g m (get_or us u no_unit)) k refl (repeated_at {A = ℕ} 0 m) (repeated_at {A = ℕ} 0 64) (repeated_at {A = ℕ} 0 m)
      | inr ge ↦ ap (λ x. asks_at x k) (get_or-eq_default (fresh_cells g m us) no_cell (let n = length-map us (fresh_cell g m) in omega (arith, n, ge))) ∙ no_asks k
    ]

-- the table's job is found among those of the placer
pub unknown_there : (c : ClusterRecord) (job : ℕ → Option JobRecord) (t : TableRecord) (a : ℕ) → AreLevel c job t → job a ≡ None → is_known (as_known t.jobs) a ≡ false
unknown_there c job t a l e = by (job_of (as_known t.jobs) a) (sym (l.jobs_are a) ∙ e)
  where
    by : (o : Option KnownJob) → option_map (λ (k : KnownJob). k.job) o ≡ None → is_some o ≡ false
    by None h = refl
    by (Some k) h = cc

pub level_admitted : (c : ClusterRecord) (old new : ℕ → Option JobRecord) (t : TableRecord) (j : JobRecord) → AreLevel c old t
    → ((a : ℕ) → new a ≡ cond (nat_eq j.number a) (Some j) (old a)) → ((a : ℕ) → job_of (as_known (with_admitted j t.jobs)) a ≡ cond (nat_eq j.number a) (Some (record { job = j; ended = false })) (job_of (as_known t.jobs) a))
    → AreLevel c new (record t { jobs = with_admitted j t.jobs })
level_admitted c old new t j l is found = record {
  cluster_is = l.cluster_is;
  jobs_are = λ a. is a ∙ elim (nat_eq j.number a) as (λ b. cond b (Some j) (old a) ≡ option_map (λ (k : KnownJob). k.job) (cond b (Some (record { job = j; ended = false })) (job_of (as_known t.jobs) a))) [
    | true ↦ refl
    | false ↦ l.jobs_are a
  ] ∙ sym (ap (option_map (λ (k : KnownJob). k.job)) (found a));
}

-- ---- a demand is taken over
taken_job : (c : ClusterRecord) (es : List (Key × ℕ)) (a : ℕ) (xs : List Cell) → job_in a (taken_all c es 0 xs) ≡ job_in a xs
taken_job c es a [] = refl
taken_job c es a (x ∷ xs) = λ i. Some (record { number = a; group = x.group; units = x.unit ∷ units_back 1 xs i })
  where
    units_back : (n : ℕ) (ys : List Cell) → map (λ (x : Cell). x.unit) (taken_all c es n ys) ≡ map (λ (x : Cell). x.unit) ys
    units_back n [] = refl
    units_back n (y ∷ ys) = ap (λ us. y.unit ∷ us) (units_back (n + 1) ys)

pub job_taken : (c : ClusterRecord) (es : List (Key × ℕ)) (cells : List (List Cell)) (a : ℕ) → a < length cells → (b : ℕ) → job_at (set cells a (taken_all c es 0 (get_or cells a []))) b ≡ job_at cells b
job_taken c es cells a lt b = ap (job_in b) (one_set cells a b (taken_all c es 0 (get_or cells a [])) [] lt)
    ∙ elim (nat_eq a b) as (λ t. nat_eq a b ≡ t → job_in b (cond t (taken_all c es 0 (get_or cells a [])) (get_or cells b [])) ≡ job_at cells b) [
      | true ↦ λ t. taken_job c es b (get_or cells a []) ∙ ap (λ x. job_in b (get_or cells x [])) (number_is a b t)
      | false ↦ λ _. refl
    ] refl

abbrev kind_there : ClusterRecord → Key → Bool
kind_there c k = cond (nat_eq k.what 1) (nat_eq k.number 0) (cond (nat_eq k.what 2) (nat_lt k.number (length c.machines)) (cond (nat_eq k.what 3) (has_rack c k.number) (nat_eq k.what 4 && nat_lt k.number (length c.machines))))

-- the number at a place of a row that is counted up, and 0 past its end
row_at : (es : List (Key × ℕ)) (k : Key) (n : ℕ) (what : ℕ) → k.what ≡ what → get_or (map (λ m. count key_cmp es (key what k.unit m)) (below n)) k.number 0 ≡ cond (nat_lt k.number n) (count key_cmp es k) 0
row_at es k n what e = elim (cases_lt k.number n) [
  | inl lt ↦ counted_at (λ m. count key_cmp es (key what k.unit m)) n k.number lt ∙ ap (λ w. count key_cmp es (key w k.unit k.number)) (sym e) ∙ ap (λ b. cond b (count key_cmp es k) 0) (sym (below_true lt))
  | inr ge ↦ counted_past (λ m. count key_cmp es (key what k.unit m)) n k.number ge ∙ ap (λ b. cond b (count key_cmp es k) 0) (sym (below_false ge))
]
  where
    below_true : k.number < n → nat_lt k.number n ≡ true
    below_true lt = grind (arith, nat_tests, lt)

    below_false : n ≤ k.number → nat_lt k.number n ≡ false
    below_false ge = grind (arith, nat_tests, ge)

rack_at : (c : ClusterRecord) (es : List (Key × ℕ)) (k : Key) → AreCounts key_cmp greatest_demand es → k.what ≡ 3 → get_or (map (λ r. cond (has_rack c r) (count key_cmp es (rack_key k.unit r)) 0) (below 64)) k.number 0 ≡ cond (has_rack c k.number) (count key_cmp es k) 0
rack_at c es k h e = elim (cases_lt k.number 64) [
  | inl lt ↦ counted_at (λ r. cond (has_rack c r) (count key_cmp es (rack_key k.unit r)) 0) 64 k.number lt ∙ ap (λ w. cond (has_rack c k.number) (count key_cmp es (key w k.unit k.number)) 0) (sym e)
  | inr ge ↦ counted_past (λ r. cond (has_rack c r) (count key_cmp es (rack_key k.unit r)) 0) 64 k.number ge ∙ sym (ap (λ n. cond (has_rack c k.number) n 0) (none ge) ∙ zero_either (has_rack c k.number))
]
  where
    none : 64 ≤ k.number → count key_cmp es k ≡ 0
    none ge =
        let le = count_le key_total same_key greatest_demand es k h.within in
        let z : greatest_demand k ≡ 0 = grind (arith, nat_tests, ge, e) in
        omega (arith, le, z)

taken_at : (c : ClusterRecord) (es : List (Key × ℕ)) (x : Cell) (k : Key) → AreCounts key_cmp greatest_demand es → asks_at (taken c es k.unit x) k ≡ cond (kind_there c k) (count key_cmp es k) 0
taken_at c es x k h = elim (nat_eq k.what 1) as (λ p. nat_eq k.what 1 ≡ p → cond p (cond (nat_eq k.number 0) (count key_cmp es (key 1 k.unit 0)) 0) others ≡ cond (cond p (nat_eq k.number 0) tests) (count key_cmp es k) 0) [
  | true ↦ λ p. elim (nat_eq k.number 0) as (λ q. nat_eq k.number 0 ≡ q → cond q (count key_cmp es (key 1 k.unit 0)) 0 ≡ cond q (count key_cmp es k) 0) [
    | true ↦ λ q. λ i. count key_cmp es (record { what = sym (number_is k.what 1 p) i; unit = k.unit; number = sym (number_is k.number 0 q) i })
    | false ↦ λ _. refl
  ] refl
  | false ↦ λ _. elim (nat_eq k.what 2) as (λ p. nat_eq k.what 2 ≡ p → cond p near (cond (nat_eq k.what 3) rack (cond (nat_eq k.what 4) avoid 0)) ≡ cond (cond p (nat_lt k.number (length c.machines)) (cond (nat_eq k.what 3) (has_rack c k.number) (nat_eq k.what 4 && nat_lt k.number (length c.machines)))) (count key_cmp es k) 0) [
    | true ↦ λ p. row_at es k (length c.machines) 2 (number_is k.what 2 p)
    | false ↦ λ _. elim (nat_eq k.what 3) as (λ p. nat_eq k.what 3 ≡ p → cond p rack (cond (nat_eq k.what 4) avoid 0) ≡ cond (cond p (has_rack c k.number) (nat_eq k.what 4 && nat_lt k.number (length c.machines))) (count key_cmp es k) 0) [
      | true ↦ λ p. rack_at c es k h (number_is k.what 3 p)
      | false ↦ λ _. elim (nat_eq k.what 4) as (λ p. nat_eq k.what 4 ≡ p → cond p avoid 0 ≡ cond (p && nat_lt k.number (length c.machines)) (count key_cmp es k) 0) [
        | true ↦ λ p. row_at es k (length c.machines) 4 (number_is k.what 4 p)
        | false ↦ λ _. refl
      ] refl
    ] refl
  ] refl
] refl
  where
    near : ℕ
    near = get_or (map (λ m. count key_cmp es (key 2 k.unit m)) (below (length c.machines))) k.number 0

    rack : ℕ
    rack = get_or (map (λ r. cond (has_rack c r) (count key_cmp es (rack_key k.unit r)) 0) (below 64)) k.number 0

    avoid : ℕ
    avoid = get_or (map (λ m. count key_cmp es (key 4 k.unit m)) (below (length c.machines))) k.number 0

    others : ℕ
    others = cond (nat_eq k.what 2) near (cond (nat_eq k.what 3) rack (cond (nat_eq k.what 4) avoid 0))

    tests : Bool
    tests = cond (nat_eq k.what 2) (nat_lt k.number (length c.machines)) (cond (nat_eq k.what 3) (has_rack c k.number) (nat_eq k.what 4 && nat_lt k.number (length c.machines)))

pub asks_taken : (c : ClusterRecord) (es : List (Key × ℕ)) (cells : List (List Cell)) (a : ℕ) → AreCounts key_cmp greatest_demand es → a < length cells → (b : ℕ) (k : Key)
    → asks_in (set cells a (taken_all c es 0 (get_or cells a []))) b k ≡ cond (nat_eq a b) (cond (is_there c (length (get_or cells a [])) k) (count key_cmp es k) 0) (asks_in cells b k)
asks_taken c es cells a h lt b k =
    let xs = get_or cells a [] in
    ap (λ ys. asks_at (get_or ys k.unit no_cell) k) (one_set cells a b (taken_all c es 0 xs) [] lt)
    ∙ elim (nat_eq a b) as (λ t. asks_at (get_or (cond t (taken_all c es 0 (get_or cells a [])) (get_or cells b [])) k.unit no_cell) k ≡ cond t (cond (is_there c (length (get_or cells a [])) k) (count key_cmp es k) 0) (asks_in cells b k)) [
      | true ↦ here (get_or cells a [])
      | false ↦ refl
    ]
  where
    here : (xs : List Cell) → asks_at (get_or (taken_all c es 0 xs) k.unit no_cell) k ≡ cond (is_there c (length xs) k) (count key_cmp es k) 0
    here xs = elim (cases_lt k.unit (length xs)) [
      | inl l ↦ ap (λ x. asks_at x k) (get_or-taken_all c es 0 k.unit k.unit xs (omega arith) l) ∙ taken_at c es (get_or xs k.unit no_cell) k h ∙ ap (λ t. cond (t && kind_there c k) (count key_cmp es k) 0) (sym (within l))
      | inr ge ↦ ap (λ x. asks_at x k) (get_or-eq_default (taken_all c es 0 xs) no_cell (let n = length-taken_all c es 0 xs in omega (arith, n, ge))) ∙ no_asks k ∙ ap (λ t. cond (t && kind_there c k) (count key_cmp es k) 0) (sym (past ge))
    ]
      where
        within : k.unit < length xs → nat_lt k.unit (length xs) ≡ true
        within l = grind (arith, nat_tests, l)

        past : length xs ≤ k.unit → nat_lt k.unit (length xs) ≡ false
        past ge = grind (arith, nat_tests, ge)

pub level_same : (c : ClusterRecord) (old new : ℕ → Option JobRecord) (t : TableRecord) → ((a : ℕ) → new a ≡ old a) → AreLevel c old t → AreLevel c new t
level_same c old new t e l = record { cluster_is = l.cluster_is; jobs_are = λ a. e a ∙ l.jobs_are a }

-- ---- the line is brought up to date
module _ (c : ClusterRecord) (cells : List (List Cell)) (t : TableRecord) (l : AreLevel c (job_at cells) t) (numbers : List ℕ) (is : numbers ≡ map (λ (j : JobRecord). j.number) t.jobs) where
  abbrev waits : ℕ → ℕ → Bool
  waits a u = nat_lt 0 (out_of (asks_in cells) t.entries a u)

  abbrev pairs : List Pair
  pairs = waiting_in numbers (unit_count (as_known t.jobs)) (asks_in cells) t.entries

  -- a pair waits where it is admitted and has something out
  pub waits_is : (a u : ℕ) → has_pair (a, u) pairs ≡ (nat_lt u (unit_count (as_known t.jobs) a) && waits a u)
  waits_is a u = has_flat (unit_count (as_known t.jobs)) waits a u numbers ∙ ap (λ ns. has_number a ns && (nat_lt u (unit_count (as_known t.jobs) a) && waits a u)) is
      ∙ elim (nat_lt u (unit_count (as_known t.jobs) a)) as (λ b. nat_lt u (unit_count (as_known t.jobs) a) ≡ b → (has_number a (map (λ (j : JobRecord). j.number) t.jobs) && (b && waits a u)) ≡ (b && waits a u)) [
        | true ↦ λ b. ap (λ k. k && waits a u) (known_number t.jobs a (some b))
        | false ↦ λ _. and_false (has_number a (map (λ (j : JobRecord). j.number) t.jobs))
      ] refl
    where
      some : nat_lt u (unit_count (as_known t.jobs) a) ≡ true → 0 < unit_count (as_known t.jobs) a
      some b = grind (arith, nat_tests, b)

  pub kept_is : (line : List Pair) → AreAdmitted cells line → filter (λ p. waits p.0 p.1) line ≡ filter (λ p. has_pair p pairs) line
  kept_is line h = filter_same (λ p. waits p.0 p.1) (λ p. has_pair p pairs) line (all_more (λ (p : Pair). p.1 < length (get_or cells p.0 [])) (λ (p : Pair). waits p.0 p.1 ≡ has_pair p pairs) (λ p lt. sym (waits_is p.0 p.1 ∙ ap (λ b. b && waits p.0 p.1) (there p lt))) line h)
    where
      there : (p : Pair) → p.1 < length (get_or cells p.0 []) → nat_lt p.1 (unit_count (as_known t.jobs) p.0) ≡ true
      there p lt = let n = count_is c cells t l p.0 in grind (arith, nat_tests, lt, n)

  pub lined_has : (line : List Pair) (a u : ℕ) → has_pair (a, u) (lined line pairs) ≡ (nat_lt u (unit_count (as_known t.jobs) a) && waits a u)
  lined_has line a u =
      any_append (same_pair (a, u)) (filter (λ p. has_pair p pairs) line) (filter (λ p. not (has_pair p line)) pairs)
      ∙ (λ i. has_filter (λ p. has_pair p pairs) (a, u) line i || has_filter (λ p. not (has_pair p line)) (a, u) pairs i)
      ∙ both (has_pair (a, u) line) (has_pair (a, u) pairs) ∙ waits_is a u
    where
      both : (x y : Bool) → ((x && y) || (y && not x)) ≡ y
      both true true = refl
      both true false = refl
      both false true = refl
      both false false = refl

-- ---- a change is told
pub level_set : (c : ClusterRecord) (job : ℕ → Option JobRecord) (before after : TableRecord) (s : Spot) → IsSetFrom before after s → AreLevel c job before → AreLevel c job after
level_set c job before after s is l = subst (AreLevel c job) (sym is.is) (record { cluster_is = l.cluster_is; jobs_are = l.jobs_are })

module _ (asks : ℕ → Key → ℕ) (before after : TableRecord) (a u m : ℕ) (is : IsSetFrom before after (spot a u m)) (more : count spot_cmp before.entries (spot a u m) ≤ is.number) (line : List Pair)
    (up : (b v : ℕ) → has_pair (b, v) line ≡ (nat_lt v (unit_count (as_known before.jobs) b) && nat_lt 0 (out_of asks before.entries b v))) where
  held_then : (b v : ℕ) → held after.entries b v + cond (nat_eq a b && nat_eq u v) (count spot_cmp before.entries (spot a u m)) 0 ≡ held before.entries b v + cond (nat_eq a b && nat_eq u v) is.number 0
  held_then b v = subst (λ (t : TableRecord). held t.entries b v + cond (nat_eq a b && nat_eq u v) (count spot_cmp before.entries (spot a u m)) 0 ≡ held before.entries b v + cond (nat_eq a b && nat_eq u v) is.number 0) (sym is.is)
      (sum_set (λ s n. cond (nat_eq s.job b && nat_eq s.unit v) n 0) (λ s. zero_either (nat_eq s.job b && nat_eq s.unit v)) (spot a u m) is.number before.entries is.sound.counts.sorted)

  units_then : (b : ℕ) → unit_count (as_known after.jobs) b ≡ unit_count (as_known before.jobs) b
  units_then b = ap (λ (t : TableRecord). unit_count (as_known t.jobs) b) is.is

  -- another unit waits as before
  other_out : (b v : ℕ) → (nat_eq a b && nat_eq u v) ≡ false → out_of asks after.entries b v ≡ out_of asks before.entries b v
  other_out b v f = let h : held after.entries b v + 0 ≡ held before.entries b v + 0 = subst (λ t. held after.entries b v + cond t (count spot_cmp before.entries (spot a u m)) 0 ≡ held before.entries b v + cond t is.number 0) f (held_then b v) in omega (arith, h)

  turned : (b v : ℕ) → (nat_eq b a && nat_eq v u) ≡ (nat_eq a b && nat_eq u v)
  turned b v = λ i. eq_turned b a i && eq_turned v u i

  -- the unit itself waits only where it waited
  itself : (nat_eq a a && nat_eq u u) ≡ true
  itself = ap (λ t. t && nat_eq u u) (nat_itself a) ∙ nat_itself u

  waited : nat_lt 0 (out_of asks after.entries a u) ≡ true → nat_lt 0 (out_of asks before.entries a u) ≡ true
  waited w =
      let h : held after.entries a u + count spot_cmp before.entries (spot a u m) ≡ held before.entries a u + is.number = subst (λ t. held after.entries a u + cond t (count spot_cmp before.entries (spot a u m)) 0 ≡ held before.entries a u + cond t is.number 0) itself (held_then a u) in
      let k = more in
      let le : out_of asks after.entries a u ≤ out_of asks before.entries a u = omega (arith, h, k) in
      grind (arith, nat_tests, w, le)

  pub told_up : (b v : ℕ) → has_pair (b, v) (cond (nat_lt 0 (out_of asks after.entries a u)) line (filter (λ p. not (nat_eq p.0 a && nat_eq p.1 u)) line)) ≡ (nat_lt v (unit_count (as_known after.jobs) b) && nat_lt 0 (out_of asks after.entries b v))
  told_up b v = elim (nat_lt 0 (out_of asks after.entries a u)) as (λ w. nat_lt 0 (out_of asks after.entries a u) ≡ w → has_pair (b, v) (cond w line (filter (λ p. not (nat_eq p.0 a && nat_eq p.1 u)) line)) ≡ (nat_lt v (unit_count (as_known after.jobs) b) && nat_lt 0 (out_of asks after.entries b v))) [
    | true ↦ λ w. up b v ∙ elim (nat_eq a b && nat_eq u v) as (λ s. (nat_eq a b && nat_eq u v) ≡ s → (nat_lt v (unit_count (as_known before.jobs) b) && nat_lt 0 (out_of asks before.entries b v)) ≡ (nat_lt v (unit_count (as_known after.jobs) b) && nat_lt 0 (out_of asks after.entries b v))) [
      | true ↦ λ s.
          let e = both_true (nat_eq a b) (nat_eq u v) s in
          let eb = number_is a b e.0 in let ev = number_is u v e.1 in
          ap (λ n. nat_lt v n && nat_lt 0 (out_of asks before.entries b v)) (sym (units_then b))
          ∙ ap (λ t. nat_lt v (unit_count (as_known after.jobs) b) && t) (subst (λ x. nat_lt 0 (out_of asks before.entries x v) ≡ nat_lt 0 (out_of asks after.entries x v)) eb (subst (λ x. nat_lt 0 (out_of asks before.entries a x) ≡ nat_lt 0 (out_of asks after.entries a x)) ev (waited w ∙ sym w)))
      | false ↦ λ f. (λ i. nat_lt v (sym (units_then b) i) && nat_lt 0 (sym (other_out b v f) i))
    ] refl
    | false ↦ λ w. has_filter (λ p. not (nat_eq p.0 a && nat_eq p.1 u)) (b, v) line ∙ ap (λ t. has_pair (b, v) line && not t) (turned b v)
        ∙ elim (nat_eq a b && nat_eq u v) as (λ s. (nat_eq a b && nat_eq u v) ≡ s → (has_pair (b, v) line && not s) ≡ (nat_lt v (unit_count (as_known after.jobs) b) && nat_lt 0 (out_of asks after.entries b v))) [
          | true ↦ λ s.
              let e = both_true (nat_eq a b) (nat_eq u v) s in
              let eb = number_is a b e.0 in let ev = number_is u v e.1 in
              and_false (has_pair (b, v) line) ∙ sym (ap (λ t. nat_lt v (unit_count (as_known after.jobs) b) && t) (subst (λ x. nat_lt 0 (out_of asks after.entries x v) ≡ false) eb (subst (λ x. nat_lt 0 (out_of asks after.entries a x) ≡ false) ev w)) ∙ and_false (nat_lt v (unit_count (as_known after.jobs) b)))
          | false ↦ λ f. and_with_true (has_pair (b, v) line) ∙ up b v ∙ (λ i. nat_lt v (sym (units_then b) i) && nat_lt 0 (sym (other_out b v f) i))
        ] refl
  ] refl
