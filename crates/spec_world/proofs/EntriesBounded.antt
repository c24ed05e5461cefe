-- What a master whose own state is in range sends: rows in order that name units of known jobs, and grants in order with numbers in range.
use Rattle.std.proofs.Common.{◌≡◌, ℕ, ◌<◌, ◌≤◌, Bool, true, false, cond, not, nat_eq, nat_lt, slice_get, List, [], ◌∷◌, ◌++◌, length, Option, Some, None, refl, sym, ◌∙◌, ap, subst, arith}
use Rattle.std.specs.Prelude.{◌&&◌, ◌||◌, T, is_some}
use Rattle.std.specs.Option.{option_map, unwrap_or}
use Rattle.std.specs.List.{AllByRecursion}
use Rattle.std.specs.Ordering.{nat_cmp, ordering_then, is_lt}
use Rattle.std.specs.Cmp.{nat_cmp_total, tied_itself}
use Rattle.std.specs.Cmp.Lexicographic.{slice_cmp}
use Rattle.std.specs.declared.cmp.Ordering.{Ordering}
use Rattle.std.specs.declared.cmp.Ordering.TheVariants.{Less, Equal, Greater}
use Rattle.std.specs.FinMap.Entries.{below_all}
use Rattle.std.proofs.lemmas.Bool.Decides.{nat_tests}
use Rattle.fuxi_terms.specs.declared.Key.{Key}
use Rattle.fuxi_terms.specs.Cluster.{ClusterRecord, has_machine}
use Rattle.fuxi_terms.specs.Limits.{greatest_count, greatest_back}
use Rattle.fuxi_terms.specs.Keys.{key_cmp, RowKey, row_cmp, Spot, spot_cmp}
use Rattle.fuxi_terms.specs.Counts.{AreCounts}
use Rattle.fuxi_terms.specs.TallyKeys.{reported_key, count_key, where_holds}
use Rattle.fuxi_terms.specs.Jobs.{KnownJob, job_of, is_known, is_live, unit_of, unit_count, no_unit}
use Rattle.fuxi_terms.specs.Numbers.{has_number}
use Rattle.spec_roles.specs.Masters.{Master, credited_of}
use Rattle.spec_roles.specs.MasterSteps.{spot_row_key, row, count_entries, grants}
use Rattle.spec_world.specs.Good.{greatest_in_credits, greatest_in_grants, greatest_in_table, NamesJobs, IsOfJob, FitsMachines, IsBounded, IsInOrder, KnowsMore, reported_entries}
use Rattle.fuxi_terms.proofs.Booleans.{number_is, nat_itself, or_right, where_le}
use Rattle.fuxi_terms.proofs.Alls.{all_more}
use Rattle.fuxi_terms.specs.Tables.{Table}
use Rattle.spec_world.proofs.CountsLemmas.{and_both, below_append, counts_append, counts_mapped, counts_wider, all_kept}
use Rattle.spec_world.proofs.TablesBounded.{holds_more}

-- one grant of a table: of a job that has not ended and a unit of it, on a machine of the cluster
record IsGrant (c : ClusterRecord) (jobs : List KnownJob) (e : Spot × ℕ) : Type 0 where
  live : is_live jobs e.0.job ≡ true
  unit : nat_lt e.0.unit (unit_count jobs e.0.job) ≡ true
  machine : has_machine c e.0.machine ≡ true
  few : e.1 ≤ greatest_count

all_grants : (c : ClusterRecord) (M : Master) (es : Table) → ((m : ℕ) → has_number m M.reported ≡ true → has_machine c m ≡ true) → AllByRecursion (λ e. is_live M.jobs e.0.job ≡ true) es → AllByRecursion (λ e. has_number e.0.machine M.reported ≡ true) es
    → AllByRecursion (λ e. 0 < e.1) es → AllByRecursion (λ e. e.1 ≤ greatest_in_table M.jobs e.0) es → AllByRecursion (IsGrant c M.jobs) es
all_grants c M [] r l m p w = tt
all_grants c M (e ∷ es) r l m p w = (record { live = l.0; unit = unit (nat_lt e.0.unit (unit_count M.jobs e.0.job)) refl w.0; machine = r e.0.machine m.0; few = (let le = where_le (nat_lt e.0.unit (unit_count M.jobs e.0.job)) greatest_count in let v = w.0 in omega (arith, le, v)) }, all_grants c M es r l.1 m.1 p.1 w.1)
  where
    unit : (b : Bool) → nat_lt e.0.unit (unit_count M.jobs e.0.job) ≡ b → e.1 ≤ where_holds b greatest_count → nat_lt e.0.unit (unit_count M.jobs e.0.job) ≡ true
    unit true t v = t
    unit false t v = let some = p.0 in absurd (omega (arith, v, some))

-- all that a table has
table_grants : (c : ClusterRecord) (M : Master) → IsInOrder M → FitsMachines c M → IsBounded c M → AllByRecursion (IsGrant c M.jobs) M.table
table_grants c M t f h = all_grants c M M.table h.reported t.alive f.reported h.counts.positive h.counts.within

-- Rows
then_less : (r s t t' : Ordering) → t ≡ Equal → ordering_then r (ordering_then s t) ≡ Less → ordering_then r (ordering_then s t') ≡ Less
then_less Less s t t' e h = refl
then_less Equal Less t t' e h = refl
then_less Equal Equal t t' e h = cc
then_less Equal Greater t t' e h = cc
then_less Greater s t t' e h = cc

tie : (a b : ℕ) → a ≡ b → nat_cmp a b ≡ Equal
tie a b e = ap (nat_cmp a) (sym e) ∙ tied_itself nat_cmp_total a

row_keeps : (jobs : List KnownJob) (m : ℕ) (a b : Spot) → nat_eq a.machine m ≡ true → nat_eq b.machine m ≡ true → spot_cmp a b ≡ Less → row_cmp (spot_row_key jobs a) (spot_row_key jobs b) ≡ Less
row_keeps jobs m a b x y e = then_less (nat_cmp a.job b.job) (nat_cmp a.unit b.unit) (nat_cmp a.machine b.machine) (slice_cmp nat_cmp (unit_of jobs a.job a.unit).size (unit_of jobs b.job b.unit).size)
    (tie a.machine b.machine (number_is a.machine m x ∙ sym (number_is b.machine m y))) e

live_known : (jobs : List KnownJob) (a : ℕ) → is_live jobs a ≡ true → is_known jobs a ≡ true
live_known jobs a e = by (job_of jobs a) e
  where
    by : (o : Option KnownJob) → unwrap_or (option_map (λ (j : KnownJob). not j.ended) o) false ≡ true → is_some o ≡ true
    by None e = cc
    by (Some j) e = refl

named : (c : ClusterRecord) (jobs jobs' : List KnownJob) (e : Spot × ℕ) → KnowsMore jobs jobs' → IsGrant c jobs e → IsOfJob jobs' (spot_row_key jobs e.0)
named c jobs jobs' e more g =
    let k = more.known e.0.job (live_known jobs e.0.job g.live) in
    let u = g.unit in
    let n : unit_count jobs' e.0.job ≡ unit_count jobs e.0.job = ap length k.1 in
    let lt : e.0.unit < unit_count jobs e.0.job = grind (arith, nat_tests, u) in
    (k.0, omega (arith, lt, n), ap (λ us. (unwrap_or (slice_get us e.0.unit) no_unit).size) (sym k.1))

-- the row of each machine
pub row_named : (c : ClusterRecord) (M : Master) (jobs : List KnownJob) (m : ℕ) → IsInOrder M → FitsMachines c M → IsBounded c M → KnowsMore M.jobs jobs → NamesJobs jobs (row M m).rows
row_named c M jobs m t f h more = record {
  counts = counts_mapped spot_cmp row_cmp (spot_row_key M.jobs) (λ s. nat_eq s.machine m) (row_keeps M.jobs m) (greatest_in_table M.jobs) (λ k. greatest_count)
      (λ s n _ _ w. let le = where_le (nat_lt s.unit (unit_count M.jobs s.job)) greatest_count in omega (arith, w, le)) M.table h.counts;
  named = all_kept spot_cmp row_cmp (spot_row_key M.jobs) (λ s. nat_eq s.machine m) (row_keeps M.jobs m) (IsGrant c M.jobs) (λ r. IsOfJob jobs r.0) (λ e _ g. named c M.jobs jobs e more g) M.table (table_grants c M t f h);
}

-- Grants
count_keeps : (a : ℕ) (s t : Spot) → nat_eq s.job a ≡ true → nat_eq t.job a ≡ true → spot_cmp s t ≡ Less → key_cmp (count_key s.unit s.machine) (count_key t.unit t.machine) ≡ Less
count_keeps a s t x y e = sym (ap (λ r. ordering_then r (ordering_then (nat_cmp s.unit t.unit) (nat_cmp s.machine t.machine))) (tie s.job t.job (number_is s.job a x ∙ sym (number_is t.job a y)))) ∙ e

-- a key is below all of a greater kind
below_kind : (k : Key) (w : ℕ) → nat_cmp k.what w ≡ Less → (es : List (Key × ℕ)) → AllByRecursion (λ e. e.0.what ≡ w) es → T (below_all key_cmp k es)
below_kind k w less [] h = tt
below_kind k w less (e ∷ es) h =
    let here : key_cmp k e.0 ≡ Less = ap (λ r. ordering_then r (ordering_then (nat_cmp k.unit e.0.unit) (nat_cmp k.number e.0.number))) (ap (nat_cmp k.what) h.0 ∙ less) in
    and_both (is_lt (key_cmp k e.0)) (below_all key_cmp k es) (subst (λ r. T (is_lt r)) (sym here) tt) (below_kind k w less es h.1)

reported_counts : (c : ClusterRecord) (units : ℕ) (ms : List ℕ) → ((m : ℕ) → has_number m ms ≡ true → has_machine c m ≡ true) → AllByRecursion (λ e. (0 < e.1) × (e.1 ≤ greatest_in_grants c units e.0)) (reported_entries ms)
reported_counts c units [] h = tt
reported_counts c units (m ∷ ms) h =
    let there = h m (ap (λ b. b || has_number m ms) (nat_itself m)) in
    let one : greatest_in_grants c units (reported_key m) ≡ 1 = ap (λ b. where_holds b 1) there in
    ((omega arith, omega (arith, one)), reported_counts c units ms (λ k e. h k (ap (λ b. nat_eq k m || b) e ∙ or_right (nat_eq k m) true refl)))

all_below : (es ys : List (Key × ℕ)) (v w : ℕ) → nat_cmp v w ≡ Less → AllByRecursion (λ e. e.0.what ≡ v) es → AllByRecursion (λ y. y.0.what ≡ w) ys → AllByRecursion (λ x. T (below_all key_cmp x.0 ys)) es
all_below [] ys v w less h k = tt
all_below (e ∷ es) ys v w less h k = (below_kind e.0 w (ap (λ n. nat_cmp n w) h.0 ∙ less) ys k, all_below es ys v w less h.1 k)

all_both : (xs ys es : List (Key × ℕ)) → AllByRecursion (λ x. T (below_all key_cmp x.0 xs)) es → AllByRecursion (λ x. T (below_all key_cmp x.0 ys)) es → AllByRecursion (λ x. T (below_all key_cmp x.0 (xs ++ ys))) es
all_both xs ys [] h k = tt
all_both xs ys (e ∷ es) h k = (below_append key_cmp e.0 xs ys h.0 k.0, all_both xs ys es h.1 k.1)

reported_kinds : (ms : List ℕ) → AllByRecursion (λ e. e.0.what ≡ 1) (reported_entries ms)
reported_kinds [] = tt
reported_kinds (m ∷ ms) = (refl, reported_kinds ms)

credited_kinds : (c : ClusterRecord) (units : ℕ) (es : List (Key × ℕ)) → AllByRecursion (λ e. 0 < e.1) es → AllByRecursion (λ e. e.1 ≤ greatest_in_credits c units e.0) es → AllByRecursion (λ e. e.0.what ≡ 3) es
credited_kinds c units [] p w = tt
credited_kinds c units (e ∷ es) p w = (by (nat_eq e.0.what 3) refl w.0, credited_kinds c units es p.1 w.1)
  where
    by : (b : Bool) → nat_eq e.0.what 3 ≡ b → e.1 ≤ where_holds (nat_lt e.0.unit units && has_machine c e.0.number) (where_holds b greatest_back) → e.0.what ≡ 3
    by true t v = number_is e.0.what 3 t
    by false t v = let some = p.0 in let le = where_le (nat_lt e.0.unit units && has_machine c e.0.number) 0 in absurd (omega (arith, some, v, le))

-- credits are within grants
credits_granted : (c : ClusterRecord) (units : ℕ) (es : List (Key × ℕ)) → AllByRecursion (λ e. e.0.what ≡ 3) es → AllByRecursion (λ e. e.1 ≤ greatest_in_credits c units e.0) es → AllByRecursion (λ e. e.1 ≤ greatest_in_grants c units e.0) es
credits_granted c units [] k w = tt
credits_granted c units (e ∷ es) k w = (
  subst (λ n. e.1 ≤ greatest_in_grants c units (record { what = n; unit = e.0.unit; number = e.0.number })) (sym k.0) (subst (λ n. e.1 ≤ greatest_in_credits c units (record { what = n; unit = e.0.unit; number = e.0.number })) k.0 w.0),
  credits_granted c units es k.1 w.1,
)

-- what a master grants to a job
pub grants_counted : (c : ClusterRecord) (M : Master) (boot a : ℕ) → IsInOrder M → FitsMachines c M → IsBounded c M → AreCounts key_cmp (greatest_in_grants c (unit_count M.jobs a)) (grants M boot a).entries
grants_counted c M boot a t f h =
    let units = unit_count M.jobs a in
    let g = greatest_in_grants c units in
    let r = reported_counts c units M.reported h.reported in
    let cs = credited_of M a in
    let kinds = credited_kinds c units cs (h.credits a).positive (h.credits a).within in
    let counts = count_entries a M.table in
    let of_table : (P : Spot × ℕ → Type 0) (Q : Key × ℕ → Type 0) → ((e : Spot × ℕ) → nat_eq e.0.job a ≡ true → P e → Q (count_key e.0.unit e.0.machine, e.1)) → AllByRecursion P M.table → AllByRecursion Q counts
    = λ P Q q. all_kept spot_cmp key_cmp (λ s. count_key s.unit s.machine) (λ s. nat_eq s.job a) (count_keeps a) P Q q M.table in
    let loose = counts_mapped spot_cmp key_cmp (λ s. count_key s.unit s.machine) (λ s. nat_eq s.job a) (count_keeps a) (greatest_in_table M.jobs) (λ k. greatest_count)
    (λ s n _ _ w. let le = where_le (nat_lt s.unit (unit_count M.jobs s.job)) greatest_count in omega (arith, w, le)) M.table h.counts in
    let count_kinds = of_table (λ e. 0 < e.1) (λ e. e.0.what ≡ 2) (λ e _ _. refl) h.counts.positive in
    let behind = counts_append key_cmp g counts cs
    (record { sorted = loose.sorted; positive = loose.positive; within = of_table (IsGrant c M.jobs) (λ e. e.1 ≤ g e.0) (λ e s k. granted e s k) (table_grants c M t f h) })
    (record { sorted = (h.credits a).sorted; positive = (h.credits a).positive; within = credits_granted c units cs kinds (h.credits a).within })
    (all_below counts cs 2 3 refl count_kinds kinds) in
    counts_append key_cmp g (reported_entries M.reported) (counts ++ cs)
    (record { sorted = h.rising; positive = all_more _ (λ e. 0 < e.1) (λ e p. p.0) (reported_entries M.reported) r; within = all_more _ (λ e. e.1 ≤ g e.0) (λ e p. p.1) (reported_entries M.reported) r })
    behind
    (all_both counts cs (reported_entries M.reported) (all_below (reported_entries M.reported) counts 1 2 refl (reported_kinds M.reported) count_kinds) (all_below (reported_entries M.reported) cs 1 3 refl (reported_kinds M.reported) kinds))
  where
    granted : (e : Spot × ℕ) → nat_eq e.0.job a ≡ true → IsGrant c M.jobs e → e.1 ≤ greatest_in_grants c (unit_count M.jobs a) (count_key e.0.unit e.0.machine)
    granted e s k =
        let there : nat_lt e.0.unit (unit_count M.jobs a) ≡ true = subst (λ j. nat_lt e.0.unit (unit_count M.jobs j) ≡ true) (number_is e.0.job a s) k.unit in
        let most : greatest_in_grants c (unit_count M.jobs a) (count_key e.0.unit e.0.machine) ≡ greatest_count = ap (λ b. where_holds (b && has_machine c e.0.machine) greatest_count) there ∙ ap (λ b. where_holds b greatest_count) k.machine in
        let few = k.few in
        omega (arith, most, few)

-- grants are in range for more jobs
pub grants_in_range : (c : ClusterRecord) (m n : ℕ) (es : List (Key × ℕ)) → m ≤ n → AreCounts key_cmp (greatest_in_grants c m) es → AreCounts key_cmp (greatest_in_grants c n) es
grants_in_range c m n es le h = counts_wider key_cmp (greatest_in_grants c m) (greatest_in_grants c n) (λ k v _ w. by k v (nat_eq k.what 1) w) es h
  where
    by : (k : Key) (v : ℕ) (b : Bool) → v ≤ cond b (where_holds (nat_eq k.unit 0 && has_machine c k.number) 1) (where_holds (nat_lt k.unit m && has_machine c k.number) (cond (nat_eq k.what 2) greatest_count (where_holds (nat_eq k.what 3) greatest_back)))
        → v ≤ cond b (where_holds (nat_eq k.unit 0 && has_machine c k.number) 1) (where_holds (nat_lt k.unit n && has_machine c k.number) (cond (nat_eq k.what 2) greatest_count (where_holds (nat_eq k.what 3) greatest_back)))
    by k v true w = w
    by k v false w = holds_more m n k.unit (has_machine c k.number) _ v le w

-- a row names known jobs where more are known
pub named_wider : (jobs jobs' : List KnownJob) (rows : List (RowKey × ℕ)) → KnowsMore jobs jobs' → NamesJobs jobs rows → NamesJobs jobs' rows
named_wider jobs jobs' rows more h = record {
  counts = h.counts;
  named = all_more (λ (r : RowKey × ℕ). IsOfJob jobs r.0) (λ r. IsOfJob jobs' r.0) (λ r k.
      let m = more.known r.0.job k.0 in
      let n : unit_count jobs' r.0.job ≡ unit_count jobs r.0.job = ap length m.1 in
      let lt = k.1 in
      (m.0, omega (arith, lt, n), k.2 ∙ ap (λ us. (unwrap_or (slice_get us r.0.unit) no_unit).size) (sym m.1))) rows h.named;
}
