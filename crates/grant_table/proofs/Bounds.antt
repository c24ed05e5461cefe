-- How great the running totals can be, and what every table keeps.
use Rattle.std.proofs.Common.{◌≡◌, ℕ, zero, suc, ◌+◌, ◌*◌, ◌<◌, ◌≤◌, Bool, true, false, cond, not, nat_eq, nat_lt, List, [], ◌∷◌, length, get_or, sym, ◌∙◌, ap, arith, inl, inr}
use Rattle.std.specs.Prelude.{◌&&◌, IsTrue, slice_get, is_some, Some}
use Rattle.std.specs.Option.{unwrap_or, option_map}
use Rattle.std.specs.List.{AllByRecursion, list_all}
use Rattle.std.proofs.lemmas.Bool.{cases_lt}
use Rattle.std.proofs.lemmas.Bool.Decides.{nat_tests}
use Rattle.std.proofs.lemmas.List.Elements.{All-from_get_or}
use Rattle.std.proofs.lemmas.List.Sums.{sum_by-le}
use Rattle.std.proofs.Math.ListN.{get_or-eq_default}
use Rattle.fuxi_terms.specs.Cluster.{ClusterRecord, MachineRecord, JobRecord, is_at_most, is_valid_cluster, is_valid_machine, is_valid_group, is_vector_of, are_quantities, is_between, machine_of, no_machine, rack_of, has_at}
use Rattle.fuxi_terms.specs.Limits.{greatest_count, greatest_quantity}
use Rattle.fuxi_terms.specs.Vectors.{at_place}
use Rattle.fuxi_terms.specs.Keys.{Spot}
use Rattle.fuxi_terms.proofs.ByPlace.{at_place-get_or}
use Rattle.fuxi_terms.specs.Jobs.{KnownJob, job_of, is_known, unit_count}
use Rattle.fuxi_terms.specs.Tables.{usage_at, Table}
use Rattle.grant_table.specs.Nested.{count_at}
use Rattle.grant_table.specs.GrantTables.{Cell, cell_at, rows_of, entries_in, as_known, AreJobs, IsUnit, IsLevel, IsSound}
use Rattle.fuxi_terms.proofs.Booleans.{number_is, both_true}
use Rattle.fuxi_terms.proofs.Spots.{Each}
use Rattle.fuxi_terms.proofs.Alls.{all_more}
use Rattle.grant_table.proofs.Entries.{entries_each}
use Rattle.grant_table.proofs.Cells.{count_of_cell}
use Rattle.grant_table.proofs.SetTotals.{cell_past, counts_all}
use Rattle.grant_table.proofs.Totals.{usage_bound}

-- ---- what a valid cluster says of its machines
all_at : (p : MachineRecord → Bool) (ms : List MachineRecord) (m : ℕ) → list_all p ms ≡ true → m < length ms → p (unwrap_or (slice_get ms m) no_machine) ≡ true
all_at p [] m h lt = absurd (omega (arith, lt))
all_at p (x ∷ xs) zero h lt = (both_true (p x) (list_all p xs) h).0
all_at p (x ∷ xs) (suc m) h lt = all_at p xs m (both_true (p x) (list_all p xs) h).1 (omega (arith, lt))

module _ (c : ClusterRecord) (valid : IsTrue (is_valid_cluster c)) where
  rest : (is_between 1 256 (length c.machines) && (list_all (is_valid_machine c.resources) c.machines && (is_between 1 32 (length c.groups) && list_all (is_valid_group c.resources) c.groups))) ≡ true
  rest = (both_true (is_between 1 8 c.resources) _ valid).1

  pub few_machines : length c.machines ≤ 256
  few_machines =
      let b : is_between 1 256 (length c.machines) ≡ true = (both_true (is_between 1 256 (length c.machines)) _ rest).0 in
      let most : not (nat_lt 256 (length c.machines)) ≡ true = (both_true (not (nat_lt (length c.machines) 1)) _ b).1 in
      grind (arith, nat_tests, most)

  machine_valid : (m : ℕ) → m < length c.machines → is_valid_machine c.resources (machine_of c m) ≡ true
  machine_valid m lt = all_at (is_valid_machine c.resources) c.machines m (both_true (list_all (is_valid_machine c.resources) c.machines) _ (both_true (is_between 1 256 (length c.machines)) _ rest).1).0 lt

  pub rack_small : (m : ℕ) → m < length c.machines → rack_of c m < 64
  rack_small m lt = let t : nat_lt (rack_of c m) 64 ≡ true = (both_true (nat_lt (rack_of c m) 64) _ (machine_valid m lt)).0 in grind (arith, nat_tests, t)

  pub has_small : (m i : ℕ) → m < length c.machines → has_at c m i ≤ greatest_quantity
  has_small m i lt =
      let v : is_vector_of c.resources (machine_of c m).has ≡ true = (both_true (nat_lt (rack_of c m) 64) _ (machine_valid m lt)).1 in
      place_small (machine_of c m).has i (both_true (nat_eq (length (machine_of c m).has) c.resources) _ v).1
    where
      place_small : (qs : List ℕ) (i : ℕ) → are_quantities qs ≡ true → at_place qs i ≤ greatest_quantity
      place_small [] i h = omega arith
      place_small (q ∷ qs) zero h = let t : not (nat_lt greatest_quantity q) ≡ true = (both_true (is_at_most greatest_quantity q) (are_quantities qs) h).0 in grind (arith, nat_tests, t)
      place_small (q ∷ qs) (suc i) h = place_small qs i (both_true (is_at_most greatest_quantity q) (are_quantities qs) h).1

  -- and nothing past its resources
  pub has_past : (m i : ℕ) → m < length c.machines → c.resources ≤ i → has_at c m i ≡ 0
  has_past m i lt le =
      let v : is_vector_of c.resources (machine_of c m).has ≡ true = (both_true (nat_lt (rack_of c m) 64) _ (machine_valid m lt)).1 in
      let t : nat_eq (length (machine_of c m).has) c.resources ≡ true = (both_true (nat_eq (length (machine_of c m).has) c.resources) _ v).0 in
      let n : length (machine_of c m).has ≡ c.resources = number_is _ _ t in
      at_place-get_or (machine_of c m).has i ∙ get_or-eq_default (machine_of c m).has 0 (omega (arith, n, le))

-- ---- what a unit holds
pub held_small : (c : ClusterRecord) (jobs : List JobRecord) (es : Table) (a u : ℕ) (x : Cell) → length c.machines ≤ 256 → IsUnit c jobs es a u x → x.held ≤ 25600000
held_small c jobs es a u x few us =
    let b = sum_by-le (λ (n : ℕ). n) greatest_count x.counts (All-from_get_or (λ n. n ≤ greatest_count) x.counts 0 (λ i _. us.within i)) in
    let w = us.wide in
    let s = us.summed in
    let r : length x.counts * greatest_count ≤ 256 * greatest_count = more (length x.counts) 256 greatest_count (omega (arith, w, few)) in
    omega (arith, b, s, r)
  where
    more : (n k q : ℕ) → n ≤ k → n * q ≤ k * q
    more n k q le = grind arith

module _ (c : ClusterRecord) (jobs : List JobRecord) (cells : List (List Cell)) (loads spent : List (List ℕ)) (l : IsLevel c jobs cells loads spent) where
  -- where a count is, there is an admitted unit and a machine
  pub count_there : (a u m : ℕ) → nat_eq (count_at (rows_of cells) a u m) 0 ≡ false → (u < unit_count (as_known jobs) a) × (m < length c.machines)
  count_there a u m some = elim (cases_lt u (unit_count (as_known jobs) a)) [
    | inr le ↦ let z : count_at (rows_of cells) a u m ≡ 0 = count_of_cell cells a u m ∙ ap (λ (x : Cell). get_or x.counts m 0) (cell_past c jobs cells loads spent l a u le) in absurd (grind (arith, nat_tests, z, some))
    | inl lt ↦ elim (cases_lt m (length c.machines)) [
      | inl k ↦ (lt, k)
      | inr le ↦
          let w = (l.unit a u lt).wide in
          let z : count_at (rows_of cells) a u m ≡ 0 = count_of_cell cells a u m ∙ get_or-eq_default (cell_at cells a u).counts 0 (omega (arith, w, le)) in absurd (grind (arith, nat_tests, z, some))
    ]
  ]

  pub admitted_all : Each (λ s. (s.unit < unit_count (as_known jobs) s.job) × (s.machine < length c.machines)) (entries_in cells)
  admitted_all = entries_each (λ s. (s.unit < unit_count (as_known jobs) s.job) × (s.machine < length c.machines)) (rows_of cells) count_there

  pub usage_small : (g i : ℕ) → usage_at (as_known jobs) g i (entries_in cells) ≤ 256000000000000
  usage_small g i =
      let few = few_machines c l.valid in
      let b = usage_bound (as_known jobs) g i (length c.machines) greatest_quantity (entries_in cells)
      (all_more (λ (e : Spot × ℕ). (e.0.unit < unit_count (as_known jobs) e.0.job) × (e.0.machine < length c.machines)) (λ (e : Spot × ℕ). e.0.machine < length c.machines) (λ x h. h.1) (entries_in cells) admitted_all)
      (λ m lt. let f = l.fits m i lt in let h = has_small c l.valid m i lt in omega (arith, f, h)) in
      omega (arith, b, few)

  -- a resource that the cluster does not have is used by nobody
  pub usage_past : (g i : ℕ) → c.resources ≤ i → usage_at (as_known jobs) g i (entries_in cells) ≡ 0
  usage_past g i le =
      let b = usage_bound (as_known jobs) g i (length c.machines) 0 (entries_in cells)
      (all_more (λ (e : Spot × ℕ). (e.0.unit < unit_count (as_known jobs) e.0.job) × (e.0.machine < length c.machines)) (λ (e : Spot × ℕ). e.0.machine < length c.machines) (λ x h. h.1) (entries_in cells) admitted_all)
      (λ m lt. let f = l.fits m i lt in let h = has_past c l.valid m i lt le in omega (arith, f, h)) in
      let z : length c.machines * 0 ≡ 0 = grind arith in
      omega (arith, b, z)

  pub sound : IsSound (record { cluster = c; jobs = jobs; entries = entries_in cells })
  sound = record {
    valid = l.valid;
    in_order = l.in_order;
    counts = counts_all c jobs cells loads spent l;
    admitted = admitted_all;
    fits = l.fits;
  }

-- ---- jobs
pub few_jobs : (js : List JobRecord) (low : ℕ) → low ≤ 256 → AllByRecursion (λ (k : JobRecord). low ≤ k.number) js → AreJobs js → low + length js ≤ 256
few_jobs [] low le h k = omega (arith, le)
few_jobs (j ∷ js) low le h k =
    let t : nat_lt j.number 256 ≡ true = (both_true (nat_lt j.number 256) _ k.0).0 in
    let small : j.number < 256 = grind (arith, nat_tests, t) in
    let r = few_jobs js (j.number + 1) (omega (arith, small)) (all_more (λ (x : JobRecord). j.number < x.number) (λ (x : JobRecord). j.number + 1 ≤ x.number) (λ x h. omega (arith, h)) js k.1.0) k.1.1 in
    let first = h.0 in
    omega (arith, r, first)

pub jobs_few : (js : List JobRecord) → AreJobs js → length js ≤ 256
jobs_few js h = let f = few_jobs js 0 (omega arith) (from_zero js) h in omega (arith, f)
  where
    from_zero : (js : List JobRecord) → AllByRecursion (λ (k : JobRecord). 0 ≤ k.number) js
    from_zero [] = tt
    from_zero (j ∷ js) = (omega arith, from_zero js)

-- a job is known exactly where it has a unit
pub known_is : (js : List JobRecord) → AreJobs js → (a : ℕ) → is_known (as_known js) a ≡ nat_lt 0 (unit_count (as_known js) a)
known_is [] h a = sym none
  where
    none : nat_lt 0 0 ≡ false
    none = grind (arith, nat_tests)
known_is (j ∷ js) h a = by (nat_eq j.number a) (known_is js h.1.1 a)
  where
    some : nat_lt 0 (length j.units) ≡ true
    some =
        let b : is_between 1 8 (length j.units) ≡ true = (both_true (is_between 1 8 (length j.units)) _ (both_true (nat_lt j.group 32) _ (both_true (nat_lt j.number 256) _ h.0).1).1).0 in
        let t : not (nat_lt (length j.units) 1) ≡ true = (both_true (not (nat_lt (length j.units) 1)) _ b).0 in
        grind (arith, nat_tests, t)

    by : (b : Bool) → is_known (as_known js) a ≡ nat_lt 0 (unit_count (as_known js) a) → is_some (cond b (Some (record { job = j; ended = false })) (job_of (as_known js) a)) ≡ nat_lt 0 (length (unwrap_or (option_map (λ (k : KnownJob). k.job.units) (cond b (Some (record { job = j; ended = false })) (job_of (as_known js) a))) []))
    by true r = sym some
    by false r = r
