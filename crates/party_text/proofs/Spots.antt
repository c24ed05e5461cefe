-- A table of grants, walked by job, unit and machine.
use Rattle.std.proofs.Common.{◌≡◌, ℕ, zero, suc, ◌<◌, ◌≤◌, Bool, true, false, cond, not, nat_eq, nat_lt, List, [], ◌∷◌, ◌++◌, map, length, Some, None, refl, sym, ◌∙◌, ap, subst, arith, append-nil}
use Rattle.std.specs.Prelude.{T, ◌||◌}
use Rattle.std.specs.List.{AllByRecursion, flat_map}
use Rattle.std.specs.Option.{unwrap_or, option_map}
use Rattle.std.specs.Ordering.{nat_cmp, eq_by_cmp, is_eq, ordering_then}
use Rattle.std.specs.Cmp.{tied_itself}
use Rattle.std.specs.declared.cmp.Ordering.{Ordering}
use Rattle.std.specs.declared.cmp.Ordering.TheVariants.{Less}
use Rattle.std.specs.FinMap.Entries.{find, is_sorted}
use Rattle.std.proofs.lemmas.Bool.Decides.{nat_tests}
use Rattle.std.proofs.lemmas.List.Concat.{flat_map-append, flat_map_single}
use Rattle.std.proofs.lemmas.List.Folds.{list_any-append}
use Rattle.fuxi_terms.specs.Cluster.{JobRecord, is_valid_job, is_between}
use Rattle.fuxi_terms.specs.Counts.{count}
use Rattle.fuxi_terms.specs.Jobs.{KnownJob, job_of, unit_count}
use Rattle.fuxi_terms.specs.Keys.{Spot, spot_cmp}
use Rattle.fuxi_terms.specs.Limits.{most_jobs, most_groups, most_units}
use Rattle.fuxi_terms.specs.Lists.{below}
use Rattle.fuxi_terms.specs.Tables.{spot, Table}
use Rattle.fuxi_terms.proofs.Alls.{all_append, all_flat}
use Rattle.fuxi_terms.proofs.Booleans.{both_true, or_left, or_right}
use Rattle.fuxi_terms.proofs.KeyOrders.{spot_total, same_spot}
use Rattle.spec_roles.specs.Refusals.{with_found}
use Rattle.spec_world.specs.Outputs.{Line}
use Rattle.grant_table.specs.GrantTables.{TableRecord, as_known, AreJobs, IsSound}
use Rattle.party_text.specs.MasterLines.{grant_line, grant_lines}
use Rattle.party_text.proofs.Walks.{Rising, is_among, rising_append, found_at, each_once}
use Rattle.fuxi_terms.proofs.NumberOrders.{compared_itself, compared_less}

-- Keys by number
module _ {K : Type 0} (R : K → K → Ordering) (f : ℕ → List K) where
  -- the walk over one number more
  pub flat_next : (n : ℕ) → flat_map f (below (suc n)) ≡ flat_map f (below n) ++ f n
  flat_next n = flat_map-append f (below n) (n ∷ []) ∙ ap (λ l. flat_map f (below n) ++ l) (append-nil (f n))

  before : ((i j : ℕ) → i < j → AllByRecursion (λ a. AllByRecursion (λ b. R a b ≡ Less) (f j)) (f i)) → (m n : ℕ) → m ≤ n → AllByRecursion (λ a. AllByRecursion (λ b. R a b ≡ Less) (f n)) (flat_map f (below m))
  before less zero n le = tt
  before less (suc m) n le = subst (AllByRecursion (λ a. AllByRecursion (λ b. R a b ≡ Less) (f n))) (sym (flat_next m))
      (all_append (λ a. AllByRecursion (λ b. R a b ≡ Less) (f n)) (flat_map f (below m)) (f m) (before less m n (omega (arith, le))) (less m n (omega (arith, le))))

  rising_over : ((i : ℕ) → Rising R (f i)) → ((i j : ℕ) → i < j → AllByRecursion (λ a. AllByRecursion (λ b. R a b ≡ Less) (f j)) (f i)) → (n : ℕ) → Rising R (flat_map f (below n))
  rising_over each less zero = tt
  rising_over each less (suc n) = subst (Rising R) (sym (flat_next n)) (rising_append R (flat_map f (below n)) (f n) (rising_over each less n) (each n) (before less n n (omega arith)))

  among_over : (n k : ℕ) (s : K) → k < n → is_among R (f k) s ≡ true → is_among R (flat_map f (below n)) s ≡ true
  among_over zero k s lt is = absurd (omega (arith, lt))
  among_over (suc n) k s lt is =
      ap (λ l. is_among R l s) (flat_next n) ∙ list_any-append (eq_by_cmp R s) (flat_map f (below n)) (f n) ∙ by (nat_eq k n) refl (λ less. among_over n k s less is)
    where
      by : (b : Bool) → nat_eq k n ≡ b → (k < n → is_among R (flat_map f (below n)) s ≡ true) → (is_among R (flat_map f (below n)) s || is_among R (f n) s) ≡ true
      by true e rest = let same : k ≡ n = grind (arith, nat_tests, e) in or_right (is_among R (flat_map f (below n)) s) (is_among R (f n) s) (ap (λ i. is_among R (f i) s) (sym same) ∙ is)
      by false e rest = or_left (is_among R (flat_map f (below n)) s) (is_among R (f n) s) (rest (grind (arith, nat_tests, lt, e)))

-- Spots in the order of job, unit and machine
abbrev on_machines : ℕ → ℕ → ℕ → List Spot
on_machines machines a u = flat_map (λ m. spot a u m ∷ []) (below machines)

abbrev of_units : ℕ → (ℕ → ℕ) → ℕ → List Spot
of_units machines units a = flat_map (on_machines machines a) (below (units a))

abbrev spots : ℕ → (ℕ → ℕ) → ℕ → List Spot
spots machines units jobs = flat_map (of_units machines units) (below jobs)

less_machine : (a u i j : ℕ) → i < j → spot_cmp (spot a u i) (spot a u j) ≡ Less
less_machine a u i j lt = let x = compared_itself a in let y = compared_itself u in let z = compared_less i j lt in λ t. ordering_then (x t) (ordering_then (y t) (z t))

less_unit : (a i j m n : ℕ) → i < j → spot_cmp (spot a i m) (spot a j n) ≡ Less
less_unit a i j m n lt = let x = compared_itself a in let y = compared_less i j lt in λ t. ordering_then (x t) (ordering_then (y t) (nat_cmp m n))

less_job : (i j u v m n : ℕ) → i < j → spot_cmp (spot i u m) (spot j v n) ≡ Less
less_job i j u v m n lt = let x = compared_less i j lt in λ t. ordering_then (x t) (ordering_then (nat_cmp u v) (nat_cmp m n))

spots_rise : (machines : ℕ) (units : ℕ → ℕ) (jobs : ℕ) → Rising spot_cmp (spots machines units jobs)
spots_rise machines units jobs =
    rising_over spot_cmp (of_units machines units)
    (λ a. rising_over spot_cmp (on_machines machines a)
    (λ u. rising_over spot_cmp (λ m. spot a u m ∷ []) (λ m. (tt, tt)) (λ i j lt. ((less_machine a u i j lt, tt), tt)) machines)
    (λ i j lt. all_flat _ (λ m. spot a i m ∷ []) (below machines) (λ m. (all_flat _ (λ n. spot a j n ∷ []) (below machines) (λ n. (less_unit a i j m n lt, tt)), tt)))
    (units a))
    (λ i j lt. all_flat _ (on_machines machines i) (below (units i)) (λ u. all_flat _ (λ m. spot i u m ∷ []) (below machines) (λ m.
    (all_flat _ (on_machines machines j) (below (units j)) (λ v. all_flat _ (λ n. spot j v n ∷ []) (below machines) (λ n. (less_job i j u v m n lt, tt))), tt))))
    jobs

-- a spot within them is among them
spot_among : (machines : ℕ) (units : ℕ → ℕ) (jobs : ℕ) (s : Spot) → s.job < jobs → s.unit < units s.job → s.machine < machines → is_among spot_cmp (spots machines units jobs) s ≡ true
spot_among machines units jobs s job unit machine =
    among_over spot_cmp (of_units machines units) jobs s.job s job
    (among_over spot_cmp (on_machines machines s.job) (units s.job) s.unit s unit
    (among_over spot_cmp (λ m. spot s.job s.unit m ∷ []) machines s.machine s machine (or_left (eq_by_cmp spot_cmp s s) false (ap is_eq (tied_itself spot_total s)))))

-- a number that is found is not 0
found : (es : Table) (s : Spot) → AllByRecursion (λ e. 0 < e.1) es → find spot_cmp s es ≡ cond (nat_eq (count spot_cmp es s) 0) None (Some (count spot_cmp es s))
found [] s h = refl
found (e ∷ es) s h = elim (eq_by_cmp spot_cmp s e.0) as (λ b. cond b (Some e.1) (find spot_cmp s es) ≡ cond (nat_eq (unwrap_or (cond b (Some e.1) (find spot_cmp s es)) 0) 0) None (Some (unwrap_or (cond b (Some e.1) (find spot_cmp s es)) 0))) [
  | true ↦ let t : nat_eq e.1 0 ≡ false = grind (arith, nat_tests, h.0) in rw t
  | false ↦ found es s h.1
]

-- The lines of a table
module _ (epoch : ℕ) (es : Table) where
  abbrev lines_found : Spot → List Line
  lines_found s = found_at spot_total same_spot (λ s n. grant_line epoch (s, n) ∷ []) es s

  here : AllByRecursion (λ e. 0 < e.1) es → (a u m : ℕ) → grant_lines epoch es a u m ≡ lines_found (spot a u m)
  here positive a u m = let s = spot a u m in
      by (nat_eq (count spot_cmp es s) 0) (count spot_cmp es s) ∙ ap (λ o. with_found o [] (λ n. grant_line epoch (s, n) ∷ [])) (sym (found es s positive))
    where
      by : (b : Bool) (n : ℕ) → cond b [] (grant_line epoch (spot a u m, n) ∷ []) ≡ with_found (cond b None (Some n)) [] (λ n. grant_line epoch (spot a u m, n) ∷ [])
      by true n = refl
      by false n = refl

  -- walks that are the same at each number
  alike : {A : Type 0} (f : A → List Line) (g : A → List Spot) (ks : List A) → ((k : A) → f k ≡ flat_map lines_found (g k)) → flat_map f ks ≡ flat_map lines_found (flat_map g ks)
  alike f g [] h = refl
  alike f g (k ∷ ks) h = let x = h k in let rest = alike f g ks h in (λ i. x i ++ rest i) ∙ sym (flat_map-append lines_found (g k) (flat_map g ks))

  pub grants_walked : (machines : ℕ) (units : ℕ → ℕ) (jobs : ℕ) → T (is_sorted spot_cmp es) → AllByRecursion (λ e. 0 < e.1) es
      → AllByRecursion (λ e. (e.0.job < jobs) × ((e.0.unit < units e.0.job) × (e.0.machine < machines))) es
      → flat_map (λ a. flat_map (λ u. flat_map (grant_lines epoch es a u) (below machines)) (below (units a))) (below jobs) ≡ map (grant_line epoch) es
  grants_walked machines units jobs sorted positive within =
      alike (λ a. flat_map (λ u. flat_map (grant_lines epoch es a u) (below machines)) (below (units a))) (of_units machines units) (below jobs)
      (λ a. alike (λ u. flat_map (grant_lines epoch es a u) (below machines)) (on_machines machines a) (below (units a))
      (λ u. alike (grant_lines epoch es a u) (λ m. spot a u m ∷ []) (below machines) (λ m. here positive a u m ∙ sym (append-nil (lines_found (spot a u m))))))
      ∙ each_once spot_total same_spot (λ s n. grant_line epoch (s, n) ∷ []) (spots machines units jobs) es (spots_rise machines units jobs) sorted (all_among es within)
      ∙ flat_map_single (grant_line epoch) es
    where
      all_among : (fs : Table) → AllByRecursion (λ e. (e.0.job < jobs) × ((e.0.unit < units e.0.job) × (e.0.machine < machines))) fs → AllByRecursion (λ e. is_among spot_cmp (spots machines units jobs) e.0 ≡ true) fs
      all_among [] h = tt
      all_among (f ∷ fs) h = (spot_among machines units jobs f.0 h.0.0 h.0.1.0 h.0.1.1, all_among fs h.1)

-- Admitted jobs have few units and numbers within their limit
valid_job : (j : JobRecord) → is_valid_job 8 j ≡ true → (j.number < most_jobs) × (length j.units ≤ most_units)
valid_job j valid =
    let a = both_true (nat_lt j.number most_jobs) _ valid in
    let b = both_true (nat_lt j.group most_groups) _ a.1 in
    let c = both_true (is_between 1 most_units (length j.units)) _ b.1 in
    let d = both_true (not (nat_lt (length j.units) 1)) _ c.0 in
    let number = a.0 in
    let few = d.1 in
    (grind (arith, nat_tests, number), grind (arith, nat_tests, few))

pub few_units : (jobs : List JobRecord) (a : ℕ) → AreJobs jobs → unit_count (as_known jobs) a ≤ most_units
few_units [] a h = omega arith
few_units (j ∷ js) a h = elim (nat_eq j.number a) as (λ b. length (unwrap_or (option_map (λ (k : KnownJob). k.job.units) (cond b (Some (record { job = j; ended = false })) (job_of (as_known js) a))) []) ≤ most_units) [
  | true ↦ (valid_job j h.0).1
  | false ↦ few_units js a h.1.1
]

pub low_number : (jobs : List JobRecord) (a u : ℕ) → AreJobs jobs → u < unit_count (as_known jobs) a → a < most_jobs
low_number [] a u h lt = absurd (omega (arith, lt))
low_number (j ∷ js) a u h lt = elim (nat_eq j.number a) as (λ b. nat_eq j.number a ≡ b → u < length (unwrap_or (option_map (λ (k : KnownJob). k.job.units) (cond b (Some (record { job = j; ended = false })) (job_of (as_known js) a))) []) → a < most_jobs) [
  | true ↦ λ e _. let n = (valid_job j h.0).0 in grind (arith, nat_tests, e, n)
  | false ↦ λ _ lt. low_number js a u h.1.1 lt
] refl lt

-- the entries of a table are within it
pub entries_within : (t : TableRecord) → IsSound t → AllByRecursion (λ e. (e.0.job < most_jobs) × ((e.0.unit < unit_count (as_known t.jobs) e.0.job) × (e.0.machine < length t.cluster.machines))) t.entries
entries_within t sound = all t.entries sound.admitted
  where
    all : (es : Table) → AllByRecursion (λ e. (e.0.unit < unit_count (as_known t.jobs) e.0.job) × (e.0.machine < length t.cluster.machines)) es
        → AllByRecursion (λ e. (e.0.job < most_jobs) × ((e.0.unit < unit_count (as_known t.jobs) e.0.job) × (e.0.machine < length t.cluster.machines))) es
    all [] h = tt
    all (e ∷ es) h = ((low_number t.jobs e.0.job e.0.unit sound.in_order h.0.0, (h.0.0, h.0.1)), all es h.1)
