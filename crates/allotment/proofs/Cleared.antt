-- All grants of a machine, or of a job, are gone.
use Rattle.std.proofs.Common.{◌≡◌, ℕ, ◌+◌, ◌<◌, Bool, true, false, cond, not, nat_eq, nat_lt, List, [], ◌∷◌, length, refl, sym, ◌∙◌, ap, subst, arith}
use Rattle.std.specs.Prelude.{◌≤◌, ◌&&◌, ◌||◌, Some, None, slice_get, zero, suc}
use Rattle.std.specs.Option.{unwrap_or, option_map}
use Rattle.std.specs.declared.cmp.Ordering.TheVariants.{Equal}
use Rattle.std.specs.FinMap.Entries.{where_key, find, find-where_key}
use Rattle.std.proofs.lemmas.Bool.Decides.{nat_tests}
use Rattle.fuxi_terms.specs.Cluster.{ClusterRecord, JobRecord}
use Rattle.fuxi_terms.specs.Counts.{count}
use Rattle.fuxi_terms.specs.Jobs.{KnownJob, job_of, unit_count}
use Rattle.fuxi_terms.specs.Keys.{Spot, spot_cmp}
use Rattle.fuxi_terms.specs.Limits.{greatest_count}
use Rattle.fuxi_terms.proofs.Booleans.{number_is}
use Rattle.fuxi_terms.proofs.CountsLemmas.{same_counts, counts-where_key}
use Rattle.fuxi_terms.proofs.KeyOrders.{spot_total, same_spot}
use Rattle.fuxi_terms.proofs.Lists.{all_at}
use Rattle.fuxi_terms.proofs.Spots.{each_found}
use Rattle.spec_roles.specs.Masters.{Master}
use Rattle.grant_table.specs.GrantTables.{TableRecord, IsSound, AreJobs, as_known}
use Rattle.allotment.specs.Allotted.{AllotmentRecord, Allots, Clears}

-- a unit that is admitted
abbrev pub is_admitted : TableRecord → ℕ → ℕ → Bool
is_admitted t a u = nat_lt u (unit_count (as_known t.jobs) a)

-- one job more, on a machine; and one machine more, of a job
pub job_more : (t : TableRecord) (n m : ℕ) (s : Spot) → ((nat_lt s.job n && (is_admitted t s.job s.unit && nat_eq s.machine m)) || (nat_eq s.job n && (is_admitted t n s.unit && nat_eq s.machine m))) ≡ (nat_lt s.job (n + 1) && (is_admitted t s.job s.unit && nat_eq s.machine m))
job_more t n m s = by (nat_eq s.job n) refl
  where
    below : (nat_lt s.job n || nat_eq s.job n) ≡ nat_lt s.job (n + 1)
    below = grind (arith, nat_tests)

    joined : (l x e : Bool) → ((l && x) || (e && x)) ≡ ((l || e) && x)
    joined true true e = refl
    joined true false true = refl
    joined true false false = refl
    joined false x e = refl

    by : (b : Bool) → nat_eq s.job n ≡ b → ((nat_lt s.job n && (is_admitted t s.job s.unit && nat_eq s.machine m)) || (nat_eq s.job n && (is_admitted t n s.unit && nat_eq s.machine m))) ≡ (nat_lt s.job (n + 1) && (is_admitted t s.job s.unit && nat_eq s.machine m))
    by true e =
        let same = number_is s.job n e in
        (λ i. (nat_lt s.job n && (is_admitted t s.job s.unit && nat_eq s.machine m)) || (nat_eq s.job n && (is_admitted t (sym same i) s.unit && nat_eq s.machine m)))
        ∙ joined (nat_lt s.job n) (is_admitted t s.job s.unit && nat_eq s.machine m) (nat_eq s.job n) ∙ ap (λ b. b && (is_admitted t s.job s.unit && nat_eq s.machine m)) below
    by false e =
        (λ i. (nat_lt s.job n && (is_admitted t s.job s.unit && nat_eq s.machine m)) || (e i && (is_admitted t n s.unit && nat_eq s.machine m)))
        ∙ (λ i. (nat_lt s.job n && (is_admitted t s.job s.unit && nat_eq s.machine m)) || (sym e i && (is_admitted t s.job s.unit && nat_eq s.machine m)))
        ∙ joined (nat_lt s.job n) (is_admitted t s.job s.unit && nat_eq s.machine m) (nat_eq s.job n) ∙ ap (λ b. b && (is_admitted t s.job s.unit && nat_eq s.machine m)) below

pub machine_more : (t : TableRecord) (a n : ℕ) (s : Spot) → ((nat_eq s.job a && (is_admitted t a s.unit && nat_lt s.machine n)) || (nat_eq s.job a && (is_admitted t a s.unit && nat_eq s.machine n))) ≡ (nat_eq s.job a && (is_admitted t a s.unit && nat_lt s.machine (n + 1)))
machine_more t a n s = joined (nat_eq s.job a) (is_admitted t a s.unit) (nat_lt s.machine n) (nat_eq s.machine n) ∙ ap (λ b. nat_eq s.job a && (is_admitted t a s.unit && b)) below
  where
    below : (nat_lt s.machine n || nat_eq s.machine n) ≡ nat_lt s.machine (n + 1)
    below = grind (arith, nat_tests)

    joined : (j u l e : Bool) → ((j && (u && l)) || (j && (u && e))) ≡ (j && (u && (l || e)))
    joined true true l e = refl
    joined true false l e = refl
    joined false u l e = refl

pub none_below : (s : Spot) (x : Bool) → false ≡ (nat_lt s.job 0 && x)
none_below s x = let f : nat_lt s.job 0 ≡ false = grind (arith, nat_tests) in sym (ap (λ b. b && x) f)

pub none_on : (s : Spot) (j u : Bool) → false ≡ (j && (u && nat_lt s.machine 0))
none_on s j u = let f : nat_lt s.machine 0 ≡ false = grind (arith, nat_tests) in sym (ap (λ b. j && (u && b)) f ∙ none j u)
  where
    none : (j u : Bool) → (j && (u && false)) ≡ false
    none true true = refl
    none true false = refl
    none false u = refl

-- ---- the last job has the greatest number
one_more : (k : JobRecord) (js : List JobRecord) (a most : ℕ) → k.number ≤ most → (0 < unit_count (as_known js) a → a ≤ most) → 0 < unit_count (as_known (k ∷ js)) a → a ≤ most
one_more k js a most below rest some = by (nat_eq k.number a) refl some
  where
    by : (b : Bool) → nat_eq k.number a ≡ b → 0 < length (unwrap_or (option_map (λ (x : KnownJob). x.job.units) (cond b (Some (record { job = k; ended = false })) (job_of (as_known js) a))) []) → a ≤ most
    by true e s = subst (λ x. x ≤ most) (number_is k.number a e) below
    by false e s = rest s

pub job_below : (js : List JobRecord) → AreJobs js → (n : ℕ) (j : JobRecord) → slice_get js n ≡ Some j → length js ≤ n + 1 → (a : ℕ) → 0 < unit_count (as_known js) a → a ≤ j.number
job_below [] h n j at last a some = absurd (omega (arith, some))
job_below (k ∷ []) h zero j at last a some = one_more k [] a j.number (let e : k ≡ j = cc in subst (λ (x : JobRecord). k.number ≤ x.number) e (omega arith)) (λ s. absurd (omega (arith, s))) some
job_below (k ∷ []) h (suc n) j at last a some = cc
job_below (k ∷ l ∷ js) h zero j at last a some = absurd (omega (arith, last))
job_below (k ∷ l ∷ js) h (suc n) j at last a some =
    let less : k.number < j.number = all_at (λ (x : JobRecord). k.number < x.number) (l ∷ js) n j h.1.0 at in
    one_more k (l ∷ js) a j.number (omega (arith, less)) (λ s. job_below (l ∷ js) h.1.1 n j at (omega (arith, last)) a s) some

-- ---- without jobs there is no unit
pub no_job : (js : List JobRecord) → length js < 1 → (a : ℕ) → 0 < unit_count (as_known js) a → a < 0
no_job [] few a some = absurd (omega (arith, some))
no_job (j ∷ js) few a some = absurd (omega (arith, few))

-- ---- a spot with grants is of an admitted unit, on a machine of the cluster
record IsPlaced (t : TableRecord) (s : Spot) : Type 0 where
  unit : is_admitted t s.job s.unit ≡ true
  machine : nat_lt s.machine (length t.cluster.machines) ≡ true

placed : (t : TableRecord) → IsSound t → (s : Spot) → 0 < count spot_cmp t.entries s → IsPlaced t s
placed t sound s some =
    let p = each_found (λ (x : Spot). (x.unit < unit_count (as_known t.jobs) x.job) × (x.machine < length t.cluster.machines)) s t.entries some sound.admitted in
    let u = p.0 in
    let m = p.1 in
    record { unit = grind (arith, nat_tests, u); machine = grind (arith, nat_tests, m) }

gone_same : (n : ℕ) (g h : Bool) → (0 < n → g ≡ h) → cond g 0 n ≡ cond h 0 n
gone_same n g h same = by (nat_lt 0 n) refl
  where
    nothing : (b : Bool) (k : ℕ) → k ≡ 0 → cond b 0 k ≡ 0
    nothing true k e = refl
    nothing false k e = e

    by : (b : Bool) → nat_lt 0 n ≡ b → cond g 0 n ≡ cond h 0 n
    by true e = ap (λ b. cond b 0 n) (same (grind (arith, nat_tests, e)))
    by false e = let z : n ≡ 0 = grind (arith, nat_tests, e) in nothing g n z ∙ sym (nothing h n z)

-- ---- so what is left is the table without them
pub record LeftWithout (gone : Spot → Bool) (x y : AllotmentRecord) : Type 0 where
  pub stands : (c : ClusterRecord) (M : Master) → Allots x c M → Allots y c (record M { table = where_key spot_cmp (λ s. not (gone s)) M.table })
  pub table : y.table ≡ record x.table { entries = where_key spot_cmp (λ s. not (gone s)) x.table.entries }

pub left_without : (g h : Spot → Bool) (x y : AllotmentRecord) → IsSound x.table → IsSound y.table → ((s q : Spot) → spot_cmp q s ≡ Equal → h s ≡ h q) → ((s : Spot) → 0 < count spot_cmp x.table.entries s → g s ≡ h s) → Clears g x y → LeftWithout h x y
left_without g h x y sx sy alike same a = record {
  stands = λ c M k. subst (λ es. Allots y c (record M { table = es })) (entries ∙ ap (where_key spot_cmp (λ s. not (h s))) k.placing.entries) (a.stands c M k);
  table = a.table ∙ ap (λ es. record x.table { entries = es }) entries;
}
  where
    turned : (b : Bool) (s : Spot) → unwrap_or (cond (not b) (find spot_cmp s x.table.entries) None) 0 ≡ cond b 0 (count spot_cmp x.table.entries s)
    turned true s = refl
    turned false s = refl

    entries : y.table.entries ≡ where_key spot_cmp (λ s. not (h s)) x.table.entries
    entries = same_counts spot_total same_spot (λ s. greatest_count) y.table.entries (where_key spot_cmp (λ s. not (h s)) x.table.entries) sy.counts (counts-where_key spot_total (λ s. greatest_count) (λ s. not (h s)) x.table.entries sx.counts)
        (λ s. a.counts s ∙ gone_same (count spot_cmp x.table.entries s) (g s) (h s) (same s)
        ∙ sym (ap (λ o. unwrap_or o 0) (find-where_key spot_cmp (λ s. not (h s)) s (λ q t. ap not (alike q s t)) x.table.entries) ∙ turned (h s) s))

pub machine_left : (n m : ℕ) (x y : AllotmentRecord) → IsSound x.table → IsSound y.table → ((a : ℕ) → 0 < unit_count (as_known x.table.jobs) a → a < n) → Clears (λ s. nat_lt s.job n && (is_admitted x.table s.job s.unit && nat_eq s.machine m)) x y → LeftWithout (λ s. nat_eq s.machine m) x y
machine_left n m x y sx sy low a = left_without (λ s. nat_lt s.job n && (is_admitted x.table s.job s.unit && nat_eq s.machine m)) (λ s. nat_eq s.machine m) x y sx sy (λ s q t. ap (λ (z : Spot). nat_eq z.machine m) (sym (same_spot q s t)))
    (λ s some. let u = (placed x.table sx s some).unit in let j = below s u in λ i. j i && (u i && nat_eq s.machine m)) a
  where
    below : (s : Spot) → is_admitted x.table s.job s.unit ≡ true → nat_lt s.job n ≡ true
    below s u = let less : s.job < n = low s.job (grind (arith, nat_tests, u)) in grind (arith, nat_tests, less)

pub job_left : (b : ℕ) (x y : AllotmentRecord) → IsSound x.table → IsSound y.table → Clears (λ s. nat_eq s.job b && (is_admitted x.table b s.unit && nat_lt s.machine (length x.table.cluster.machines))) x y → LeftWithout (λ s. nat_eq s.job b) x y
job_left b x y sx sy a = left_without (λ s. nat_eq s.job b && (is_admitted x.table b s.unit && nat_lt s.machine (length x.table.cluster.machines))) (λ s. nat_eq s.job b) x y sx sy (λ s q t. ap (λ (z : Spot). nat_eq z.job b) (sym (same_spot q s t)))
    (λ s some. let p = placed x.table sx s some in by s (nat_eq s.job b) refl p.unit p.machine) a
  where
    by : (s : Spot) (d : Bool) → nat_eq s.job b ≡ d → is_admitted x.table s.job s.unit ≡ true → nat_lt s.machine (length x.table.cluster.machines) ≡ true → (nat_eq s.job b && (is_admitted x.table b s.unit && nat_lt s.machine (length x.table.cluster.machines))) ≡ nat_eq s.job b
    by s true e u m = let same = number_is s.job b e in let v : is_admitted x.table b s.unit ≡ true = ap (λ a. is_admitted x.table a s.unit) (sym same) ∙ u in (λ i. e i && (v i && m i)) ∙ sym e
    by s false e u m = (λ i. e i && (is_admitted x.table b s.unit && nat_lt s.machine (length x.table.cluster.machines))) ∙ sym e
