-- What is known of all entries gives that each leads to the next.
use Rattle.std.proofs.Common.{◌≡◌, ℕ, zero, suc, ◌+◌, ◌*◌, ◌<◌, ◌≤◌, Bool, true, false, cond, not, nat_eq, nat_lt, slice_get, List, [], ◌∷◌, length, map, Option, Some, None, refl, sym, ◌∙◌, ap, subst, arith}
use Rattle.std.specs.Prelude.{◌&&◌, ◌||◌, T, is_some}
use Rattle.std.specs.Option.{option_map, unwrap_or}
use Rattle.std.specs.List.{AllByRecursion, list_all, list_any}
use Rattle.std.specs.Ordering.{nat_cmp, ordering_then, is_lt}
use Rattle.std.specs.Cmp.{nat_cmp_total, tied_itself}
use Rattle.std.specs.Cmp.Lexicographic.{slice_cmp, lists_total}
use Rattle.std.specs.declared.cmp.Ordering.{Ordering}
use Rattle.std.specs.declared.cmp.Ordering.TheVariants.{Less, Equal, Greater}
use Rattle.std.specs.FinMap.Entries.{by_order, below_all, is_sorted, is_sorted-put, put}
use Rattle.std.proofs.lemmas.Bool.Decides.{nat_tests}
use Rattle.std.proofs.lemmas.List.Sums.{sum_by-cons}
use Rattle.fuxi_terms.specs.declared.Key.{Key}
use Rattle.fuxi_terms.specs.Limits.{most_resources, most_jobs, most_units, most_machines, most_racks, most_groups, most_entries, greatest_count, greatest_back}
use Rattle.fuxi_terms.specs.Keys.{key_cmp, RowKey, row_cmp}
use Rattle.fuxi_terms.specs.Counts.{joined}
use Rattle.fuxi_terms.specs.Padded.{padded}
use Rattle.fuxi_terms.specs.Vectors.{fits, at_place, times}
use Rattle.fuxi_terms.specs.Totals.{total_of}
use Rattle.fuxi_terms.specs.Rows.{IsRow, greatest_row, row_total}
use Rattle.fuxi_terms.specs.Cluster.{ClusterRecord, MachineRecord, JobRecord, UnitRecord, is_valid_cluster, is_valid_machine, is_valid_job, is_valid_unit, is_size, is_priority, is_between, has_rack, has_machine, machine_of}
use Rattle.fuxi_terms.specs.Jobs.{KnownJob, job_of, is_known, units_of, unit_of, unit_count, no_unit}
use Rattle.fuxi_terms.specs.TallyKeys.{greatest_grant, greatest_demand, where_holds}
use Rattle.spec_net.specs.Net.{at_index}
use Rattle.spec_net.specs.Ledgers.{nothing}
use Rattle.spec_net.specs.Channels.{master_id, agent_id, app_id, party}
use Rattle.spec_roles.specs.MasterSteps.{is_there}
use Rattle.spec_world.specs.World.{World}
use Rattle.spec_world.specs.Events.{Event}
use Rattle.spec_world.specs.EventRanges.{IsInput}
use Rattle.spec_world.specs.Runs.{run}
use Rattle.spec_world.specs.Safe.{RowsFit, row_total_at}
use Rattle.spec_world.specs.Good.{Good, IsOfJob, NamesJobs, IsNarrow, IsJob, AreJobs, greatest_in_demand, greatest_in_grants}
use Rattle.fuxi_terms.proofs.Alls.{all_more}
use Rattle.fuxi_terms.proofs.Lists.{all_at}
use Rattle.fuxi_terms.proofs.Booleans.{both_true, and_true, number_is}
use Rattle.fuxi_terms.proofs.CountsLemmas.{both_true as both, lesser}
use Rattle.fuxi_terms.proofs.KeyOrders.{row_key_total}
use Rattle.fuxi_terms.proofs.VectorLaws.{fits_places, fits-padded, at_place-plus, at_place-times}
use Rattle.spec_world.proofs.CountsLemmas.{counts_wider}
use Rattle.spec_world.proofs.TablesBounded.{greatest_asked, asked_counts}
use Rattle.spec_world.proofs.GoodKept.{always_good}
use Rattle.spec_world.proofs.JobsKept.{run_cluster}
use Rattle.spec_refinement.specs.Leading.{AllLead, report_excess}
use Rattle.spec_refinement.proofs.LeadsLemmas.{rows_lead, grants_lead, demands_lead, reports_lead}

-- Known jobs are valid
listed : {A : Type 0} (p : A → Bool) (xs : List A) → list_all p xs ≡ true → AllByRecursion (λ x. p x ≡ true) xs
listed p [] e = tt
listed p (x ∷ xs) e = let b = both_true (p x) (list_all p xs) e in (b.0, listed p xs b.1)

found_job : (c : ClusterRecord) (jobs : List KnownJob) (a : ℕ) (k : KnownJob) → AreJobs c jobs → job_of jobs a ≡ Some k → IsJob c k.job × (k.job.number ≡ a)
found_job c [] a k h e = cc
found_job c (j ∷ js) a k h e = elim (nat_eq j.job.number a) as (λ b. nat_eq j.job.number a ≡ b → cond b (Some j) (job_of js a) ≡ Some k → IsJob c k.job × (k.job.number ≡ a)) [
  | true ↦ λ t e. let same : j ≡ k = cc in subst (λ (x : KnownJob). IsJob c x.job × (x.job.number ≡ a)) same (h.0, number_is j.job.number a t)
  | false ↦ λ _ e. found_job c js a k h.1 e
] refl e

-- what a valid job says
record IsValid (j : JobRecord) : Type 0 where
  number : nat_lt j.number most_jobs ≡ true
  few : length j.units ≤ most_units
  units : AllByRecursion (λ u. is_valid_unit most_resources u ≡ true) j.units

valid_parts : (j : JobRecord) → is_valid_job most_resources j ≡ true → IsValid j
valid_parts j e =
    let a = both_true (nat_lt j.number most_jobs) _ e in
    let b = both_true (nat_lt j.group most_groups) _ a.1 in
    let d = both_true (is_between 1 most_units (length j.units)) (list_all (is_valid_unit most_resources) j.units) b.1 in
    let n = (both_true (not (nat_lt (length j.units) 1)) (not (nat_lt most_units (length j.units))) d.0).1 in
    record { number = a.0; few = grind (arith, nat_tests, n); units = listed (is_valid_unit most_resources) j.units d.1 }

units_few : (c : ClusterRecord) (jobs : List KnownJob) (a : ℕ) → AreJobs c jobs → unit_count jobs a ≤ most_units
units_few c jobs a h = by (job_of jobs a) refl
  where
    by : (o : Option KnownJob) → job_of jobs a ≡ o → unit_count jobs a ≤ most_units
    by None e = let z : unit_count jobs a ≡ 0 = ap (λ o. length (unwrap_or (option_map (λ (j : KnownJob). j.job.units) o) [])) e in omega (arith, z)
    by (Some k) e =
        let f = found_job c jobs a k h e in
        let z : unit_count jobs a ≡ length k.job.units = ap (λ o. length (unwrap_or (option_map (λ (j : KnownJob). j.job.units) o) [])) e in
        let few = (valid_parts k.job f.0.valid).few in
        omega (arith, z, few)

got : {A : Type 0} (xs : List A) (i : ℕ) (d : A) → i < length xs → slice_get xs i ≡ Some (unwrap_or (slice_get xs i) d)
got [] i d lt = absurd (omega (arith, lt))
got (x ∷ xs) zero d lt = refl
got (x ∷ xs) (suc i) d lt = got xs i d (omega (arith, lt))

-- a key of a row that names a unit of a known job
record IsNamed (c : ClusterRecord) (jobs : List KnownJob) (k : RowKey) : Type 0 where
  job : nat_lt k.job most_jobs ≡ true
  unit : nat_lt k.unit most_units ≡ true
  size : is_size most_resources k.size ≡ true
  zeros : (i : ℕ) → c.resources ≤ i → at_place k.size i ≡ 0
  same : k.size ≡ (unit_of jobs k.job k.unit).size

named : (c : ClusterRecord) (jobs : List KnownJob) (k : RowKey) → AreJobs c jobs → IsOfJob jobs k → IsNamed c jobs k
named c jobs k h n = by (job_of jobs k.job) refl
  where
    by : (o : Option KnownJob) → job_of jobs k.job ≡ o → IsNamed c jobs k
    by None e = let unknown : is_known jobs k.job ≡ false = ap is_some e in let yes = n.0 in absurd (let f : ⊥ = cc in f)
    by (Some j) e =
        let f = found_job c jobs k.job j h e in
        let v = valid_parts j.job f.0.valid in
        let us : units_of jobs k.job ≡ j.job.units = ap (λ o. unwrap_or (option_map (λ (j : KnownJob). j.job.units) o) []) e in
        let few = units_few c jobs k.job h in
        let lt = n.1 in
        let within : k.unit < length j.job.units = (let long : unit_count jobs k.job ≡ length j.job.units = ap length us in omega (arith, lt, long)) in
        let there : slice_get j.job.units k.unit ≡ Some (unit_of jobs k.job k.unit) = got j.job.units k.unit no_unit within ∙ ap (λ (xs : List UnitRecord). Some (unwrap_or (slice_get xs k.unit) no_unit)) (sym us) in
        let u = all_at (λ u. is_valid_unit most_resources u ≡ true) j.job.units k.unit (unit_of jobs k.job k.unit) v.units there in
        let z = all_at (IsNarrow c) j.job.units k.unit (unit_of jobs k.job k.unit) f.0.narrow there in
        record {
          job = subst (λ a. nat_lt a most_jobs ≡ true) f.1 v.number;
          unit = grind (arith, nat_tests, lt, few);
          size = subst (λ s. is_size most_resources s ≡ true) (sym n.2) (both_true (is_size most_resources (unit_of jobs k.job k.unit).size) _ (both_true (is_priority (unit_of jobs k.job k.unit).priority) _ u).1).0;
          zeros = λ i le. ap (λ s. at_place s i) n.2 ∙ z.zeros i le;
          same = n.2;
        }

-- Rows are short: a number of job and unit rises along them
abbrev rank : RowKey → ℕ
rank k = k.job * 8 + k.unit

cmp_less : (a b : ℕ) → nat_cmp a b ≡ Less → a < b
cmp_less a b e = grind (arith, nat_tests, e)

cmp_equal : (a b : ℕ) → nat_cmp a b ≡ Equal → a ≡ b
cmp_equal a b e = grind (arith, nat_tests, e)

rank_rises : (c : ClusterRecord) (jobs : List KnownJob) (a b : RowKey) → IsNamed c jobs a → IsNamed c jobs b → row_cmp a b ≡ Less → rank a < rank b
rank_rises c jobs a b x y e = by (nat_cmp a.job b.job) refl (nat_cmp a.unit b.unit) refl e
  where
    by : (r : Ordering) → nat_cmp a.job b.job ≡ r → (s : Ordering) → nat_cmp a.unit b.unit ≡ s → ordering_then r (ordering_then s (slice_cmp nat_cmp a.size b.size)) ≡ Less → rank a < rank b
    by Less p s q e = let j = cmp_less a.job b.job p in let t = x.unit in let u : a.unit < 8 = grind (arith, nat_tests, t) in omega (arith, j, u)
    by Equal p Less q e = let j = cmp_equal a.job b.job p in let u = cmp_less a.unit b.unit q in omega (arith, j, u)
    by Equal p Equal q e =
        let j = cmp_equal a.job b.job p in
        let u = cmp_equal a.unit b.unit q in
        let sizes : a.size ≡ b.size = x.same ∙ (λ i. (unit_of jobs (j i) (u i)).size) ∙ sym y.same in
        let tie : slice_cmp nat_cmp a.size b.size ≡ Equal = ap (slice_cmp nat_cmp a.size) (sym sizes) ∙ tied_itself (lists_total nat_cmp_total) a.size in
        absurd (let f : ⊥ = cc in f)
    by Equal p Greater q e = absurd (let f : ⊥ = cc in f)
    by Greater p s q e = absurd (let f : ⊥ = cc in f)

rank_bound : (c : ClusterRecord) (jobs : List KnownJob) (a : RowKey) → IsNamed c jobs a → rank a < 2048
rank_bound c jobs a x = let j = x.job in let u = x.unit in let p : a.job < 256 = grind (arith, nat_tests, j) in let q : a.unit < 8 = grind (arith, nat_tests, u) in omega (arith, p, q)

above : (c : ClusterRecord) (jobs : List KnownJob) (k : RowKey) (es : List (RowKey × ℕ)) → IsNamed c jobs k → AllByRecursion (λ e. IsNamed c jobs e.0) es → T (below_all row_cmp k es) → AllByRecursion (λ e. rank k + 1 ≤ rank e.0) es
above c jobs k [] x h b = tt
above c jobs k (e ∷ es) x h b =
    let p = both (is_lt (row_cmp k e.0)) (below_all row_cmp k es) b in
    let up = rank_rises c jobs k e.0 x h.0 (lesser _ p.0) in
    (omega (arith, up), above c jobs k es x h.1 p.1)

short : (c : ClusterRecord) (jobs : List KnownJob) (es : List (RowKey × ℕ)) (low : ℕ) → low ≤ 2048 → AllByRecursion (λ e. IsNamed c jobs e.0) es → T (is_sorted row_cmp es) → AllByRecursion (λ e. low ≤ rank e.0) es → length es + low ≤ 2048
short c jobs [] low le h s l = omega (arith, le)
short c jobs (e ∷ es) low le h s l =
    let p = both (below_all row_cmp e.0 es) (is_sorted row_cmp es) s in
    let top = rank_bound c jobs e.0 h.0 in
    let here = l.0 in
    let rest = short c jobs es (rank e.0 + 1) (omega (arith, top)) h.1 p.1 (above c jobs e.0 es h.0 h.1 p.0) in
    omega (arith, here, rest)

all_zero : (es : List (RowKey × ℕ)) → AllByRecursion (λ e. 0 ≤ rank e.0) es
all_zero [] = tt
all_zero (e ∷ es) = (omega arith, all_zero es)

-- the keys of two rows together
put_named : (c : ClusterRecord) (jobs : List KnownJob) (k : RowKey) (n : ℕ) (es : List (RowKey × ℕ)) → IsNamed c jobs k → AllByRecursion (λ e. IsNamed c jobs e.0) es → AllByRecursion (λ e. IsNamed c jobs e.0) (put row_cmp k n es)
put_named c jobs k n [] x h = (x, tt)
put_named c jobs k n (e ∷ es) x h = elim (row_cmp k e.0) as (λ r. AllByRecursion (λ e. IsNamed c jobs e.0) (by_order r ((k, n) ∷ e ∷ es) ((e.0, n) ∷ es) (e ∷ put row_cmp k n es))) [
  | Less ↦ (x, (h.0, h.1))
  | Equal ↦ (h.0, h.1)
  | Greater ↦ (h.0, put_named c jobs k n es x h.1)
]

record IsJoined (c : ClusterRecord) (jobs : List KnownJob) (es : List (RowKey × ℕ)) : Type 0 where
  named : AllByRecursion (λ e. IsNamed c jobs e.0) es
  sorted : T (is_sorted row_cmp es)

both_named : (c : ClusterRecord) (jobs : List KnownJob) (es fs : List (RowKey × ℕ)) → AllByRecursion (λ e. IsNamed c jobs e.0) es → IsJoined c jobs fs → IsJoined c jobs (joined row_cmp es fs)
both_named c jobs [] fs h j = j
both_named c jobs (e ∷ es) fs h j =
    let rest = both_named c jobs es fs h.1 j in
    record { named = put_named c jobs e.0 e.1 (joined row_cmp es fs) h.0 rest.named; sorted = is_sorted-put row_cmp row_key_total e.0 e.1 (joined row_cmp es fs) rest.sorted }

-- Rows of known jobs
all_named : (c : ClusterRecord) (jobs : List KnownJob) (rows : List (RowKey × ℕ)) → AreJobs c jobs → NamesJobs jobs rows → AllByRecursion (λ e. IsNamed c jobs e.0) rows
all_named c jobs rows h n = all_more (λ (r : RowKey × ℕ). IsOfJob jobs r.0) (λ r. IsNamed c jobs r.0) (λ r k. named c jobs r.0 h k) rows n.named

is_row : (c : ClusterRecord) (jobs : List KnownJob) (rows : List (RowKey × ℕ)) → AreJobs c jobs → NamesJobs jobs rows → IsRow rows
is_row c jobs rows h n =
    let all = all_named c jobs rows h n in
    let len = short c jobs rows 0 (omega arith) all n.counts.sorted (all_zero rows) in
    record { counts = record { sorted = n.counts.sorted; positive = n.counts.positive; within = within rows all n.counts.within }; few = omega (arith, len) }
  where
    within : (es : List (RowKey × ℕ)) → AllByRecursion (λ e. IsNamed c jobs e.0) es → AllByRecursion (λ e. e.1 ≤ greatest_count) es → AllByRecursion (λ e. e.1 ≤ greatest_row e.0) es
    within [] a w = tt
    within (e ∷ es) a w = (subst (λ b. e.1 ≤ cond b greatest_count 0) (sym (and_true (nat_lt e.0.job most_jobs) _ a.0.job (and_true (nat_lt e.0.unit most_units) _ a.0.unit a.0.size))) w.0, within es a.1 w.1)

few_keys : (c : ClusterRecord) (jobs : List KnownJob) (old new : List (RowKey × ℕ)) → AreJobs c jobs → NamesJobs jobs old → NamesJobs jobs new → length (joined row_cmp old new) ≤ most_entries
few_keys c jobs old new h m n =
    let j = both_named c jobs old new (all_named c jobs old h m) (record { named = all_named c jobs new h n; sorted = n.counts.sorted }) in
    let len = short c jobs (joined row_cmp old new) 0 (omega arith) j.named j.sorted (all_zero (joined row_cmp old new)) in
    omega (arith, len)

-- the total of a row, place by place
pub total_place : (rows : List (RowKey × ℕ)) (i : ℕ) → at_place (total_of (map (λ e. (e.1, e.0.size)) rows)) i ≡ row_total_at i rows
total_place [] i = refl
total_place (e ∷ es) i =
    at_place-plus (times e.1 e.0.size) (total_of (map (λ e. (e.1, e.0.size)) es)) i ∙ (let a = at_place-times e.1 e.0.size i in let r = total_place es i in let s = sum_by-cons (λ (e : RowKey × ℕ). e.1 * at_place e.0.size i) e es in omega (arith, a, r, s))

no_total : (c : ClusterRecord) (jobs : List KnownJob) (i : ℕ) (rows : List (RowKey × ℕ)) → c.resources ≤ i → AllByRecursion (λ e. IsNamed c jobs e.0) rows → row_total_at i rows ≡ 0
no_total c jobs i [] le h = refl
no_total c jobs i (e ∷ es) le h =
    let s = sum_by-cons (λ (e : RowKey × ℕ). e.1 * at_place e.0.size i) e es in
    let z : e.1 * at_place e.0.size i ≡ 0 = ap (λ n. e.1 * n) (h.0.zeros i le) ∙ times_zero e.1 in
    let r = no_total c jobs i es le h.1 in
    omega (arith, s, z, r)
  where
    times_zero : (n : ℕ) → n * 0 ≡ 0
    times_zero n = omega arith

row_within : (c : ClusterRecord) (jobs : List KnownJob) (m : ℕ) (rows : List (RowKey × ℕ)) → AreJobs c jobs → NamesJobs jobs rows → RowsFit c m rows → fits (row_total rows) (padded (machine_of c m).has) ≡ true
row_within c jobs m rows h n f = fits-padded total (machine_of c m).has ∙ (fits_places total (machine_of c m).has).1 (λ i. at i (nat_lt i c.resources) refl)
  where
    total : List ℕ
    total = total_of (map (λ e. (e.1, e.0.size)) rows)

    at : (i : ℕ) (b : Bool) → nat_lt i c.resources ≡ b → at_place (total_of (map (λ e. (e.1, e.0.size)) rows)) i ≤ at_place (machine_of c m).has i
    at i true t = let lt : i < c.resources = grind (arith, nat_tests, t) in let p = total_place rows i in let l = f i lt in omega (arith, p, l)
    at i false t = let le : c.resources ≤ i = grind (arith, nat_tests, t) in let p = total_place rows i in let z = no_total c jobs i rows le (all_named c jobs rows h n) in omega (arith, p, z)

-- Grants and demands. A valid cluster has at most 256 machines, and its racks are below 64
few_machines : (c : ClusterRecord) → is_valid_cluster c ≡ true → length c.machines ≤ most_machines
few_machines c e =
    let a = both_true (is_between 1 most_resources c.resources) _ e in
    let b = (both_true (is_between 1 most_machines (length c.machines)) _ a.1) in
    let t = (both_true (not (nat_lt (length c.machines) 1)) (not (nat_lt most_machines (length c.machines))) b.0).1 in
    grind (arith, nat_tests, t)

rack_in : (n r : ℕ) (ms : List MachineRecord) → list_all (is_valid_machine n) ms ≡ true → list_any (λ (m : MachineRecord). nat_eq m.rack r) ms ≡ true → r < most_racks
rack_in n r [] e t = cc
rack_in n r (m ∷ ms) e t =
    let b = both_true (is_valid_machine n m) (list_all (is_valid_machine n) ms) e in
    elim (nat_eq m.rack r) as (λ x. nat_eq m.rack r ≡ x → (x || list_any (λ (m : MachineRecord). nat_eq m.rack r) ms) ≡ true → r < most_racks) [
      | true ↦ λ q _. let lt = (both_true (nat_lt m.rack most_racks) _ b.0).0 in let same = number_is m.rack r q in grind (arith, nat_tests, lt, same)
      | false ↦ λ _ t. rack_in n r ms b.1 t
    ] refl t

few_racks : (c : ClusterRecord) (r : ℕ) → is_valid_cluster c ≡ true → has_rack c r ≡ true → r < most_racks
few_racks c r e t =
    let a = both_true (is_between 1 most_resources c.resources) _ e in
    let b = both_true (is_between 1 most_machines (length c.machines)) _ a.1 in
    rack_in c.resources r c.machines (both_true (list_all (is_valid_machine c.resources) c.machines) _ b.1).0 t

held_test : (b : Bool) (n v : ℕ) → 0 < v → v ≤ where_holds b n → (b ≡ true) × (v ≤ n)
held_test true n v some le = (refl, le)
held_test false n v some le = absurd (omega (arith, some, le))

place_is : (u n : ℕ) → u < most_units → n < most_machines → (nat_lt u most_units && nat_lt n most_machines) ≡ true
place_is u n p q = let x : nat_lt u most_units ≡ true = grind (arith, nat_tests, p) in let y : nat_lt n most_machines ≡ true = grind (arith, nat_tests, q) in and_true (nat_lt u most_units) (nat_lt n most_machines) x y

grant_within : (c : ClusterRecord) (units : ℕ) (k : Key) (v : ℕ) → units ≤ most_units → length c.machines ≤ most_machines → 0 < v → v ≤ greatest_in_grants c units k → v ≤ greatest_grant k
grant_within c units k v few machines some le = by (nat_eq k.what 1) le
  where
    number : has_machine c k.number ≡ true → k.number < most_machines
    number t = grind (arith, nat_tests, t, machines)

    by : (b : Bool) → v ≤ cond b (where_holds (nat_eq k.unit 0 && has_machine c k.number) 1) (where_holds (nat_lt k.unit units && has_machine c k.number) (cond (nat_eq k.what 2) greatest_count (where_holds (nat_eq k.what 3) greatest_back)))
        → v ≤ where_holds (nat_lt k.unit most_units && nat_lt k.number most_machines) (cond b (where_holds (nat_eq k.unit 0) 1) (cond (nat_eq k.what 2) greatest_count (where_holds (nat_eq k.what 3) greatest_back)))
    by true le =
        let h = held_test (nat_eq k.unit 0 && has_machine c k.number) 1 v some le in
        let p = both_true (nat_eq k.unit 0) (has_machine c k.number) h.0 in
        let first = number_is k.unit 0 p.0 in
        subst (λ b. v ≤ where_holds b (where_holds (nat_eq k.unit 0) 1)) (sym (place_is k.unit k.number (omega (arith, first)) (number p.1))) (subst (λ b. v ≤ where_holds b 1) (sym p.0) h.1)
    by false le =
        let h = held_test (nat_lt k.unit units && has_machine c k.number) _ v some le in
        let p = both_true (nat_lt k.unit units) (has_machine c k.number) h.0 in
        let t = p.0 in
        let unit : k.unit < most_units = grind (arith, nat_tests, t, few) in
        subst (λ b. v ≤ where_holds b (cond (nat_eq k.what 2) greatest_count (where_holds (nat_eq k.what 3) greatest_back))) (sym (place_is k.unit k.number unit (number p.1))) h.1

asked_within : (c : ClusterRecord) (units : ℕ) (k : Key) (v : ℕ) → is_valid_cluster c ≡ true → units ≤ most_units → length c.machines ≤ most_machines → 0 < v → v ≤ greatest_asked c units k → v ≤ greatest_demand k
asked_within c units k v valid few machines some le =
    let h = held_test (is_there c units k) (greatest_in_demand k) v some le in
    let p = both_true (nat_lt k.unit units) _ h.0 in
    let t = p.0 in
    by (grind (arith, nat_tests, t, few)) (nat_eq k.what 1) (nat_eq k.what 3) p.1 h.1
  where
    by : k.unit < most_units → (a d : Bool) → (a || cond d (has_rack c k.number) (has_machine c k.number)) ≡ true
        → v ≤ cond a (where_holds (nat_eq k.number 0) greatest_count) (cond (nat_eq k.what 2) greatest_count (cond d greatest_count (cond (nat_eq k.what 4) 1 (where_holds (nat_eq k.what 5) greatest_back))))
        → v ≤ where_holds (nat_lt k.unit most_units && nat_lt k.number most_machines)
        (cond a (where_holds (nat_eq k.number 0) greatest_count) (cond (nat_eq k.what 2) greatest_count (cond d (where_holds (nat_lt k.number most_racks) greatest_count) (cond (nat_eq k.what 4) 1 (where_holds (nat_eq k.what 5) greatest_back)))))
    by unit true d t le =
        let h = held_test (nat_eq k.number 0) greatest_count v some le in
        let first = number_is k.number 0 h.0 in
        subst (λ b. v ≤ where_holds b (where_holds (nat_eq k.number 0) greatest_count)) (sym (place_is k.unit k.number unit (omega (arith, first)))) le
    by unit false true t le =
        let r = few_racks c k.number valid t in
        let test : nat_lt k.number most_racks ≡ true = grind (arith, nat_tests, r) in
        subst (λ b. v ≤ where_holds b (cond (nat_eq k.what 2) greatest_count (where_holds (nat_lt k.number most_racks) greatest_count))) (sym (place_is k.unit k.number unit (omega (arith, r))))
        (subst (λ b. v ≤ cond (nat_eq k.what 2) greatest_count (where_holds b greatest_count)) (sym test) le)
    by unit false false t le =
        let m : k.number < most_machines = grind (arith, nat_tests, t, machines) in
        subst (λ b. v ≤ where_holds b (cond (nat_eq k.what 2) greatest_count (cond (nat_eq k.what 4) 1 (where_holds (nat_eq k.what 5) greatest_back)))) (sym (place_is k.unit k.number unit m)) le

-- in every good world
pub good_leads : (w : World) → is_valid_cluster w.cluster ≡ true → Good w → AllLead w
good_leads w valid g =
    let h = g.stands in
    let jobs = g.hard.jobs in
    let machines = few_machines w.cluster valid in
    record {
      rows = λ e m.
          let hs = w.net.histories (party master_id e) (agent_id m) in
          rows_lead _ m hs (record {
            rows = λ n _. is_row w.cluster w.hard.jobs (at_index nothing hs n).rows jobs ((h.entries e (agent_id m) n).named refl);
            few = λ n k _ _. few_keys w.cluster w.hard.jobs (at_index nothing hs n).rows (at_index nothing hs k).rows jobs ((h.entries e (agent_id m) n).named refl) ((h.entries e (agent_id m) k).named refl);
            fit = λ n _. row_within w.cluster w.hard.jobs m (at_index nothing hs n).rows jobs ((h.entries e (agent_id m) n).named refl) ((h.entries e (agent_id m) n).rows refl);
          });
      grants = λ e a.
          let hs = w.net.histories (party master_id e) (app_id a) in
          grants_lead a hs (record {
            counts = λ n _. counts_wider key_cmp (greatest_in_grants w.cluster (unit_count w.hard.jobs a)) greatest_grant
                (λ k v some le. grant_within w.cluster (unit_count w.hard.jobs a) k v (units_few w.cluster w.hard.jobs a jobs) machines some le) (at_index nothing hs n).entries ((h.entries e (app_id a) n).tally refl);
          });
      demands = λ a b.
          let hs = w.net.histories (party (app_id a) b) master_id in
          demands_lead a (report_excess w.cluster (app_id a)) hs (record {
            counts = λ n _. counts_wider key_cmp (greatest_asked w.cluster (unit_count w.hard.jobs a)) greatest_demand
                (λ k v some le. asked_within w.cluster (unit_count w.hard.jobs a) k v valid (units_few w.cluster w.hard.jobs a jobs) machines some le) (at_index nothing hs n).entries
                (asked_counts w.cluster (unit_count w.hard.jobs a) (at_index nothing hs n) ((h.written a b).tidy n) ((h.written a b).ranged n));
          }) (record { fit = λ n _. refl });
      reports = λ m b.
          let hs = w.net.histories (party (agent_id m) b) master_id in
          reports_lead m (report_excess w.cluster (agent_id m)) hs (record {
            fit = λ n _. ap (λ t. cond t None (Some (record { q = row_total (at_index nothing hs n).rows }, record { q = padded (machine_of w.cluster m).has }))) (row_within w.cluster w.hard.jobs m (at_index nothing hs n).rows jobs (h.reports m b n).named (h.reports m b n).fits);
          });
    }

-- in every state
pub every_lead : (c : ClusterRecord) (es : List Event) → IsInput c es → AllLead (run c es)
every_lead c es i =
    good_leads (run c es) (subst (λ d. is_valid_cluster d ≡ true) (sym (run_cluster c es i)) i.cluster) (always_good c es i)
