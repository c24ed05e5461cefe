-- Any number that is set at a spot keeps the running totals, where those of its machine, unit, rack and group go along.
use Rattle.std.proofs.Common.{◌≡◌, ℕ, ◌+◌, ◌*◌, ◌<◌, ◌≤◌, Bool, true, false, cond, nat_eq, List, [], length, get_or, set, refl, sym, ◌∙◌, ap, subst, arith, inl, inr, length-set}
use Rattle.std.specs.Prelude.{◌&&◌, T}
use Rattle.std.specs.FinMap.Entries.{is_sorted}
use Rattle.std.proofs.lemmas.Bool.{cases_lt}
use Rattle.std.proofs.lemmas.List.Sums.{sum_by-set}
use Rattle.std.proofs.Math.ListN.{get_or-eq_default}
use Rattle.fuxi_terms.specs.Cluster.{ClusterRecord, JobRecord, has_at, rack_of}
use Rattle.fuxi_terms.specs.Limits.{greatest_count}
use Rattle.fuxi_terms.specs.Keys.{Spot, spot_cmp}
use Rattle.fuxi_terms.specs.Counts.{count, set_count, AreCounts}
use Rattle.fuxi_terms.specs.Jobs.{unit_count, size_at, group_of}
use Rattle.fuxi_terms.specs.Tables.{spot, held, held_in, total_at, usage_at, Table}
use Rattle.grant_table.specs.Nested.{count_at}
use Rattle.grant_table.specs.GrantTables.{Cell, cell_at, with_cell, with_numbers, no_cell, rows_of, entries_in, as_known, IsUnit, IsLevel}
use Rattle.fuxi_terms.proofs.Booleans.{number_is, nat_itself, both_true}
use Rattle.grant_table.proofs.NestedLemmas.{limit, count_is, entries_set, are_counts}
use Rattle.grant_table.proofs.Totals.{held_set, held_in_set, total_set, usage_set}
use Rattle.grant_table.proofs.Cells.{two_set, lengths_set, count_of_cell}
use Rattle.fuxi_terms.proofs.IndexedLists.{one_set, slot_within}

module _ (c : ClusterRecord) (jobs : List JobRecord) (cells : List (List Cell)) (loads spent : List (List ℕ)) (l : IsLevel c jobs cells loads spent) where
  -- a unit that is not there has an empty cell
  pub cell_past : (a u : ℕ) → unit_count (as_known jobs) a ≤ u → cell_at cells a u ≡ no_cell
  cell_past a u le = get_or-eq_default (get_or cells a []) no_cell (let n = l.units a in omega (arith, n, le))

  pub within_all : (a u m : ℕ) → count_at (rows_of cells) a u m ≤ greatest_count
  within_all a u m = subst (λ n. n ≤ greatest_count) (sym (count_of_cell cells a u m)) (elim (cases_lt u (unit_count (as_known jobs) a)) [
    | inl lt ↦ (l.unit a u lt).within m
    | inr le ↦ subst (λ (x : Cell). get_or x.counts m 0 ≤ greatest_count) (sym (cell_past a u le)) (omega arith)
  ])

  pub counts_all : AreCounts spot_cmp limit (entries_in cells)
  counts_all = are_counts (rows_of cells) within_all

  pub count_in : (a u m : ℕ) → count spot_cmp (entries_in cells) (spot a u m) ≡ get_or (cell_at cells a u).counts m 0
  count_in a u m = count_is (rows_of cells) a u m ∙ count_of_cell cells a u m

-- a number n that may be set at a spot: q is then the load of the machine and p what the group has
pub record MaySet (c : ClusterRecord) (jobs : List JobRecord) (cells : List (List Cell)) (loads spent : List (List ℕ)) (a u m n held_then in_rack_then : ℕ) (q p : List ℕ) : Type 0 where
  pub unit : u < unit_count (as_known jobs) a
  pub machine : m < length c.machines
  pub rack : rack_of c m < 64
  pub few : n ≤ greatest_count
  pub held : held_then + get_or (cell_at cells a u).counts m 0 ≡ (cell_at cells a u).held + n
  pub in_rack : in_rack_then + get_or (cell_at cells a u).counts m 0 ≡ get_or (cell_at cells a u).racks (rack_of c m) 0 + n
  pub load : (i : ℕ) → get_or q i 0 + get_or (cell_at cells a u).counts m 0 * size_at (as_known jobs) a u i ≡ get_or (get_or loads m []) i 0 + n * size_at (as_known jobs) a u i
  pub room : (i : ℕ) → get_or q i 0 ≤ has_at c m i
  pub usage : (i : ℕ) → get_or p i 0 + get_or (cell_at cells a u).counts m 0 * size_at (as_known jobs) a u i ≡ get_or (get_or spent (group_of (as_known jobs) a) []) i 0 + n * size_at (as_known jobs) a u i

module _ (c : ClusterRecord) (jobs : List JobRecord) (cells : List (List Cell)) (loads spent : List (List ℕ)) (a u m n held_then in_rack_then : ℕ) (q p : List ℕ) (l : IsLevel c jobs cells loads spent) (may : MaySet c jobs cells loads spent a u m n held_then in_rack_then q p) where
  abbrev old : Cell
  old = cell_at cells a u

  abbrev new : Cell
  new = with_numbers old m (rack_of c m) n held_then in_rack_then

  abbrev more : List (List Cell)
  more = with_cell cells a u new

  abbrev es : Table
  es = entries_in cells

  abbrev us : IsUnit c jobs es a u old
  us = l.unit a u may.unit

  unit_in : u < length (get_or cells a [])
  unit_in = subst (λ n. u < n) (sym (l.units a)) may.unit

  job_in : a < length cells
  job_in = slot_within cells a u unit_in

  machine_in : m < length old.counts
  machine_in = subst (λ n. m < n) (sym us.wide) may.machine

  rack_in : rack_of c m < length old.racks
  rack_in = subst (λ n. rack_of c m < n) (sym us.racks) may.rack

  -- each cell then
  cell_then : (b v : ℕ) → cell_at more b v ≡ cond (nat_eq a b && nat_eq u v) new (cell_at cells b v)
  cell_then b v = two_set cells a u b v new no_cell job_in unit_in

  count_then : (b v k : ℕ) → count_at (rows_of more) b v k ≡ get_or (cond (nat_eq a b && nat_eq u v) new (cell_at cells b v)).counts k 0
  count_then b v k = count_of_cell more b v k ∙ ap (λ (x : Cell). get_or x.counts k 0) (cell_then b v)

  within_new : (k : ℕ) → get_or new.counts k 0 ≤ greatest_count
  within_new k = subst (λ x. x ≤ greatest_count) (sym (one_set old.counts m k n 0 machine_in)) (by (nat_eq m k) (us.within k))
    where
      by : (t : Bool) → get_or old.counts k 0 ≤ greatest_count → cond t n (get_or old.counts k 0) ≤ greatest_count
      by true w = may.few
      by false w = w

  within_more : (b v k : ℕ) → count_at (rows_of more) b v k ≤ greatest_count
  within_more b v k = subst (λ x. x ≤ greatest_count) (sym (count_then b v k)) (by (nat_eq a b && nat_eq u v) (subst (λ x. x ≤ greatest_count) (count_of_cell cells b v k) (within_all c jobs cells loads spent l b v k)))
    where
      by : (t : Bool) → get_or (cell_at cells b v).counts k 0 ≤ greatest_count → get_or (cond t new (cell_at cells b v)).counts k 0 ≤ greatest_count
      by true w = within_new k
      by false w = w

  here : count_at (rows_of more) a u m ≡ n
  here = count_then a u m ∙ ap (λ t. get_or (cond t new old).counts m 0) (ap (λ t. t && nat_eq u u) (nat_itself a) ∙ nat_itself u) ∙ one_set old.counts m m n 0 machine_in ∙ ap (λ t. cond t n (get_or old.counts m 0)) (nat_itself m)

  there : (s : Spot) → (s ≡ spot a u m → ⊥) → count_at (rows_of more) s.job s.unit s.machine ≡ count_at (rows_of cells) s.job s.unit s.machine
  there s ne = count_then s.job s.unit s.machine ∙ elim (nat_eq a s.job && nat_eq u s.unit) as (λ t. (nat_eq a s.job && nat_eq u s.unit) ≡ t → get_or (cond t new (cell_at cells s.job s.unit)).counts s.machine 0 ≡ get_or (cell_at cells s.job s.unit).counts s.machine 0) [
    | false ↦ λ f. refl
    | true ↦ λ t.
        let b = both_true (nat_eq a s.job) (nat_eq u s.unit) t in
        let j : a ≡ s.job = number_is a s.job b.0 in
        let v : u ≡ s.unit = number_is u s.unit b.1 in
        one_set old.counts m s.machine n 0 machine_in ∙ elim (nat_eq m s.machine) as (λ t. nat_eq m s.machine ≡ t → cond t n (get_or old.counts s.machine 0) ≡ get_or (cell_at cells s.job s.unit).counts s.machine 0) [
          | true ↦ λ e. let k : m ≡ s.machine = number_is m s.machine e in absurd (ne (λ i. record { job = sym j i; unit = sym v i; machine = sym k i }))
          | false ↦ λ _. λ i. get_or (cell_at cells (j i) (v i)).counts s.machine 0
        ] refl
  ] refl ∙ sym (count_of_cell cells s.job s.unit s.machine)

  -- the number is set in the map
  pub set_entries : entries_in more ≡ set_count spot_cmp es (spot a u m) n
  set_entries = entries_set (rows_of cells) (rows_of more) (spot a u m) n may.few (within_all c jobs cells loads spent l) within_more here there

  sorted : T (is_sorted spot_cmp es)
  sorted = (counts_all c jobs cells loads spent l).sorted

  before : count spot_cmp es (spot a u m) ≡ get_or old.counts m 0
  before = count_in c jobs cells loads spent l a u m

  -- the sums then
  held_more : (b v : ℕ) → held (entries_in more) b v + cond (nat_eq a b && nat_eq u v) (get_or old.counts m 0) 0 ≡ held es b v + cond (nat_eq a b && nat_eq u v) n 0
  held_more b v = subst (λ x. held (entries_in more) b v + cond (nat_eq a b && nat_eq u v) x 0 ≡ held es b v + cond (nat_eq a b && nat_eq u v) n 0) before
      (subst (λ x. held x b v + cond (nat_eq a b && nat_eq u v) (count spot_cmp es (spot a u m)) 0 ≡ held es b v + cond (nat_eq a b && nat_eq u v) n 0) (sym set_entries) (held_set (spot a u m) n es sorted b v))

  in_rack_more : (b v r : ℕ) → held_in c (entries_in more) b v r + cond (nat_eq a b && (nat_eq u v && nat_eq (rack_of c m) r)) (get_or old.counts m 0) 0 ≡ held_in c es b v r + cond (nat_eq a b && (nat_eq u v && nat_eq (rack_of c m) r)) n 0
  in_rack_more b v r = subst (λ x. held_in c (entries_in more) b v r + cond (nat_eq a b && (nat_eq u v && nat_eq (rack_of c m) r)) x 0 ≡ held_in c es b v r + cond (nat_eq a b && (nat_eq u v && nat_eq (rack_of c m) r)) n 0) before
      (subst (λ x. held_in c x b v r + cond (nat_eq a b && (nat_eq u v && nat_eq (rack_of c m) r)) (count spot_cmp es (spot a u m)) 0 ≡ held_in c es b v r + cond (nat_eq a b && (nat_eq u v && nat_eq (rack_of c m) r)) n 0) (sym set_entries) (held_in_set (spot a u m) n es sorted c b v r))

  total_more : (k i : ℕ) → total_at (as_known jobs) k i (entries_in more) + cond (nat_eq m k) (get_or old.counts m 0 * size_at (as_known jobs) a u i) 0 ≡ total_at (as_known jobs) k i es + cond (nat_eq m k) (n * size_at (as_known jobs) a u i) 0
  total_more k i = subst (λ x. total_at (as_known jobs) k i (entries_in more) + cond (nat_eq m k) (x * size_at (as_known jobs) a u i) 0 ≡ total_at (as_known jobs) k i es + cond (nat_eq m k) (n * size_at (as_known jobs) a u i) 0) before
      (subst (λ x. total_at (as_known jobs) k i x + cond (nat_eq m k) (count spot_cmp es (spot a u m) * size_at (as_known jobs) a u i) 0 ≡ total_at (as_known jobs) k i es + cond (nat_eq m k) (n * size_at (as_known jobs) a u i) 0) (sym set_entries) (total_set (spot a u m) n es sorted (as_known jobs) k i))

  usage_more : (g i : ℕ) → usage_at (as_known jobs) g i (entries_in more) + cond (nat_eq (group_of (as_known jobs) a) g) (get_or old.counts m 0 * size_at (as_known jobs) a u i) 0 ≡ usage_at (as_known jobs) g i es + cond (nat_eq (group_of (as_known jobs) a) g) (n * size_at (as_known jobs) a u i) 0
  usage_more g i = subst (λ x. usage_at (as_known jobs) g i (entries_in more) + cond (nat_eq (group_of (as_known jobs) a) g) (x * size_at (as_known jobs) a u i) 0 ≡ usage_at (as_known jobs) g i es + cond (nat_eq (group_of (as_known jobs) a) g) (n * size_at (as_known jobs) a u i) 0) before
      (subst (λ x. usage_at (as_known jobs) g i x + cond (nat_eq (group_of (as_known jobs) a) g) (count spot_cmp es (spot a u m) * size_at (as_known jobs) a u i) 0 ≡ usage_at (as_known jobs) g i es + cond (nat_eq (group_of (as_known jobs) a) g) (n * size_at (as_known jobs) a u i) 0) (sym set_entries) (usage_set (spot a u m) n es sorted (as_known jobs) g i))

  -- the unit itself
  itself : (nat_eq a a && nat_eq u u) ≡ true
  itself = ap (λ t. t && nat_eq u u) (nat_itself a) ∙ nat_itself u

  unit_self : IsUnit c jobs (entries_in more) a u new
  unit_self = record {
    sized = us.sized;
    grouped = us.grouped;
    group = us.group;
    bounded = us.bounded;
    wide = length-set old.counts m n ∙ us.wide;
    within = within_new;
    summed = let s = sum_by-set (λ (n : ℕ). n) old.counts m n 0 machine_in in let h = may.held in let o = us.summed in omega (arith, s, h, o);
    held = let s : held (entries_in more) a u + get_or old.counts m 0 ≡ held es a u + n = subst (λ t. held (entries_in more) a u + cond t (get_or old.counts m 0) 0 ≡ held es a u + cond t n 0) itself (held_more a u) in let h = may.held in let o = us.held in omega (arith, s, h, o);
    racks = length-set old.racks (rack_of c m) in_rack_then ∙ us.racks;
    in_rack = λ r lt. one_set old.racks (rack_of c m) r in_rack_then 0 rack_in ∙ elim (nat_eq (rack_of c m) r) as (λ t. nat_eq (rack_of c m) r ≡ t → held_in c (entries_in more) a u r + cond t (get_or old.counts m 0) 0 ≡ held_in c es a u r + cond t n 0 → cond t in_rack_then (get_or old.racks r 0) ≡ held_in c (entries_in more) a u r) [
      | true ↦ λ t e.
          let h = may.in_rack in
          let o : get_or old.racks (rack_of c m) 0 ≡ held_in c es a u r = subst (λ z. get_or old.racks z 0 ≡ held_in c es a u r) (sym (number_is (rack_of c m) r t)) (us.in_rack r lt) in
          omega (arith, e, h, o)
      | false ↦ λ f e. let o = us.in_rack r lt in omega (arith, e, o)
    ] refl (subst (λ t. held_in c (entries_in more) a u r + cond t (get_or old.counts m 0) 0 ≡ held_in c es a u r + cond t n 0) (ap (λ t. t && (nat_eq u u && nat_eq (rack_of c m) r)) (nat_itself a) ∙ ap (λ t. t && nat_eq (rack_of c m) r) (nat_itself u)) (in_rack_more a u r));
  }

  -- another unit
  unit_other : (b v : ℕ) → (nat_eq a b && nat_eq u v) ≡ false → IsUnit c jobs es b v (cell_at cells b v) → IsUnit c jobs (entries_in more) b v (cell_at cells b v)
  unit_other b v f x = record {
    sized = x.sized;
    grouped = x.grouped;
    group = x.group;
    bounded = x.bounded;
    wide = x.wide;
    within = x.within;
    summed = x.summed;
    racks = x.racks;
    held = let s : held (entries_in more) b v + 0 ≡ held es b v + 0 = subst (λ t. held (entries_in more) b v + cond t (get_or old.counts m 0) 0 ≡ held es b v + cond t n 0) f (held_more b v) in let o = x.held in omega (arith, s, o);
    in_rack = λ r lt.
        let none : (nat_eq a b && (nat_eq u v && nat_eq (rack_of c m) r)) ≡ false = apart (nat_eq a b) (nat_eq u v) (nat_eq (rack_of c m) r) f in
        let s : held_in c (entries_in more) b v r + 0 ≡ held_in c es b v r + 0 = subst (λ t. held_in c (entries_in more) b v r + cond t (get_or old.counts m 0) 0 ≡ held_in c es b v r + cond t n 0) none (in_rack_more b v r) in
        let o = x.in_rack r lt in omega (arith, s, o);
  }
    where
      apart : (x y z : Bool) → (x && y) ≡ false → (x && (y && z)) ≡ false
      apart true true z e = cc
      apart true false z e = refl
      apart false y z e = refl

  unit_then : (b v : ℕ) → v < unit_count (as_known jobs) b → IsUnit c jobs (entries_in more) b v (cell_at more b v)
  unit_then b v lt = subst (IsUnit c jobs (entries_in more) b v) (sym (cell_then b v)) (elim (nat_eq a b && nat_eq u v) as (λ t. (nat_eq a b && nat_eq u v) ≡ t → IsUnit c jobs (entries_in more) b v (cond t new (cell_at cells b v))) [
    | true ↦ λ t. let e = both_true (nat_eq a b) (nat_eq u v) t in subst (λ x. IsUnit c jobs (entries_in more) x v new) (number_is a b e.0) (subst (λ x. IsUnit c jobs (entries_in more) a x new) (number_is u v e.1) unit_self)
    | false ↦ λ f. unit_other b v f (l.unit b v lt)
  ] refl)

  load_then : (k i : ℕ) → get_or (get_or (set loads m q) k []) i 0 ≡ get_or (cond (nat_eq m k) q (get_or loads k [])) i 0
  load_then k i = ap (λ xs. get_or xs i 0) (one_set loads m k q [] (let x = l.machines in let y = may.machine in omega (arith, x, y)))

  totals_then : (k i : ℕ) → k < length c.machines → get_or (get_or (set loads m q) k []) i 0 ≡ total_at (as_known jobs) k i (entries_in more)
  totals_then k i lt = load_then k i ∙ elim (nat_eq m k) as (λ t. nat_eq m k ≡ t → total_at (as_known jobs) k i (entries_in more) + cond t (get_or old.counts m 0 * size_at (as_known jobs) a u i) 0 ≡ total_at (as_known jobs) k i es + cond t (n * size_at (as_known jobs) a u i) 0 → get_or (cond t q (get_or loads k [])) i 0 ≡ total_at (as_known jobs) k i (entries_in more)) [
    | true ↦ λ t e.
        let o = l.totals k i lt in
        let step : get_or q i 0 + get_or old.counts m 0 * size_at (as_known jobs) a u i ≡ get_or (get_or loads k []) i 0 + n * size_at (as_known jobs) a u i = subst (λ z. get_or q i 0 + get_or old.counts m 0 * size_at (as_known jobs) a u i ≡ get_or (get_or loads z []) i 0 + n * size_at (as_known jobs) a u i) (number_is m k t) (may.load i) in
        omega (arith, e, o, step)
    | false ↦ λ f e. let o = l.totals k i lt in omega (arith, e, o)
  ] refl (total_more k i)

  fits_then : (k i : ℕ) → k < length c.machines → total_at (as_known jobs) k i (entries_in more) ≤ has_at c k i
  fits_then k i lt = subst (λ x. x ≤ has_at c k i) (totals_then k i lt) (subst (λ x. x ≤ has_at c k i) (sym (load_then k i)) (elim (nat_eq m k) as (λ t. nat_eq m k ≡ t → get_or (cond t q (get_or loads k [])) i 0 ≤ has_at c k i) [
    | true ↦ λ t. subst (λ z. get_or q i 0 ≤ has_at c z i) (number_is m k t) (may.room i)
    | false ↦ λ f. let o = l.totals k i lt in let r = l.fits k i lt in omega (arith, o, r)
  ] refl))

  usages_then : (g i : ℕ) → g < 32 → get_or (get_or (set spent (group_of (as_known jobs) a) p) g []) i 0 ≡ usage_at (as_known jobs) g i (entries_in more)
  usages_then g i lt =
      let small : group_of (as_known jobs) a < length spent = let x = us.group in let y = us.grouped in let z = l.groups in omega (arith, x, y, z) in
      ap (λ xs. get_or xs i 0) (one_set spent (group_of (as_known jobs) a) g p [] small)
      ∙ elim (nat_eq (group_of (as_known jobs) a) g) as (λ t. nat_eq (group_of (as_known jobs) a) g ≡ t → usage_at (as_known jobs) g i (entries_in more) + cond t (get_or old.counts m 0 * size_at (as_known jobs) a u i) 0 ≡ usage_at (as_known jobs) g i es + cond t (n * size_at (as_known jobs) a u i) 0 → get_or (cond t p (get_or spent g [])) i 0 ≡ usage_at (as_known jobs) g i (entries_in more)) [
        | true ↦ λ t e.
            let o = l.usages g i lt in
            let step : get_or p i 0 + get_or old.counts m 0 * size_at (as_known jobs) a u i ≡ get_or (get_or spent g []) i 0 + n * size_at (as_known jobs) a u i = subst (λ z. get_or p i 0 + get_or old.counts m 0 * size_at (as_known jobs) a u i ≡ get_or (get_or spent z []) i 0 + n * size_at (as_known jobs) a u i) (number_is (group_of (as_known jobs) a) g t) (may.usage i) in
            omega (arith, e, o, step)
        | false ↦ λ f e. let o = l.usages g i lt in omega (arith, e, o)
      ] refl (usage_more g i)

  pub set_level : IsLevel c jobs more (set loads m q) (set spent (group_of (as_known jobs) a) p)
  set_level = record {
    valid = l.valid;
    in_order = l.in_order;
    units = λ b. lengths_set cells a u b new job_in ∙ l.units b;
    unit = unit_then;
    machines = length-set loads m q ∙ l.machines;
    totals = totals_then;
    fits = fits_then;
    groups = length-set spent _ p ∙ l.groups;
    usages = usages_then;
  }
