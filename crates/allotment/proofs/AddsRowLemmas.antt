-- The grants that a machine reports enter the table, entry by entry.
use Rattle.std.proofs.Common.{◌≡◌, ℕ, zero, suc, ◌+◌, ◌*◌, ◌<◌, ◌≤◌, Bool, true, false, cond, not, nat_eq, nat_lt, List, [], ◌∷◌, ◌++◌, length, map, filter, take, Some, slice_get, refl, sym, ◌∙◌, ap, subst, arith}
use Rattle.std.specs.Prelude.{◌&&◌, ◌||◌, T}
use Rattle.std.specs.List.{AllByRecursion, sum_by}
use Rattle.std.specs.Option.{unwrap_or}
use Rattle.std.specs.Ordering.{eq_by_cmp, is_eq, is_lt}
use Rattle.std.specs.Cmp.{tied_itself}
use Rattle.std.specs.declared.cmp.Ordering.TheVariants.{Less, Equal}
use Rattle.std.specs.FinMap.Entries.{put, where_key, find, find-put, below_all, is_sorted, is_sorted-put}
use Rattle.std.proofs.lemmas.Bool.Decides.{nat_tests}
use Rattle.std.proofs.lemmas.List.Sums.{sum_by-cons}
use Rattle.fuxi_terms.specs.Cluster.{ClusterRecord, has_at, is_vector_of, are_quantities}
use Rattle.fuxi_terms.specs.Counts.{count, set_count}
use Rattle.fuxi_terms.specs.Jobs.{KnownJob, unit_count, size_at}
use Rattle.fuxi_terms.specs.Keys.{RowKey, row_cmp, Spot, spot_cmp, Pair}
use Rattle.fuxi_terms.specs.Limits.{greatest_count, most_jobs, most_units, most_resources}
use Rattle.fuxi_terms.specs.Rows.{IsRow, is_row_key, greatest_row, row_total}
use Rattle.fuxi_terms.specs.Tables.{spot, held_on, total_at, Table}
use Rattle.fuxi_terms.specs.Totals.{total_of}
use Rattle.fuxi_terms.specs.Vectors.{at_place, is_zero, times}
use Rattle.fuxi_terms.proofs.Booleans.{both_true, number_is, nat_itself, eq_turned, or_right}
use Rattle.fuxi_terms.proofs.CountsLemmas.{both_true as both, lesser, tied, below_none}
use Rattle.fuxi_terms.proofs.KeyOrders.{spot_total, same_spot, row_key_total}
use Rattle.fuxi_terms.proofs.Lists.{all_at, take_last}
use Rattle.fuxi_terms.proofs.VectorLaws.{at_place-plus, at_place-times, at_place-padded, same_at_places}
use Rattle.spec_roles.specs.Masters.{Master, asked, out_of}
use Rattle.spec_roles.specs.Placing.{has_pair, line_after}
use Rattle.grant_table.specs.GrantTables.{TableRecord, as_known, with_count}
use Rattle.allotment.specs.Allotted.{AllotmentRecord, Allots, AllWait, Adds, AddsRow, rows_put}
use Rattle.allotment.proofs.ClearsLemmas.{is_spot, touched_again, untouched}
use Rattle.allotment.proofs.Fewer.{HeldLaw}
use Rattle.allotment.proofs.AddsLemmas.{filter_twice}

-- an entry is of this unit
abbrev is_of : ℕ → ℕ → RowKey × ℕ → Bool
is_of a u e = nat_eq e.0.job a && nat_eq e.0.unit u

-- the condition on an entry: its unit is there, with its size
abbrev pub IsFitted : List KnownJob → RowKey × ℕ → Type 0
IsFitted jobs e = (e.0.unit < unit_count jobs e.0.job) × ((i : ℕ) → size_at jobs e.0.job e.0.unit i ≡ at_place e.0.size i)

-- ---- what is put of some units leaves the others what they have
turned : (a u : ℕ) (m : ℕ) (e : RowKey × ℕ) → is_of a u e ≡ false → (nat_eq a e.0.job && (nat_eq u e.0.unit && nat_eq m m)) ≡ false
turned a u m e f = by (nat_eq a e.0.job && (nat_eq u e.0.unit && nat_eq m m)) refl
  where
    by : (b : Bool) → (nat_eq a e.0.job && (nat_eq u e.0.unit && nat_eq m m)) ≡ b → b ≡ false
    by false t = refl
    by true t =
        let p = both_true (nat_eq a e.0.job) _ t in
        let q = both_true (nat_eq u e.0.unit) (nat_eq m m) p.1 in
        let j = eq_turned e.0.job a ∙ p.0 in
        let k = eq_turned e.0.unit u ∙ q.0 in
        let no_way : true ≡ false = sym (λ i. j i && k i) ∙ f in
        absurd (let z : ⊥ = cc in z)

put_other : (es : Table) (m a u : ℕ) (e : RowKey × ℕ) → is_of a u e ≡ false → count spot_cmp (put spot_cmp (spot e.0.job e.0.unit m) e.1 es) (spot a u m) ≡ count spot_cmp es (spot a u m)
put_other es m a u e f =
    ap (λ o. unwrap_or o 0) (find-put spot_cmp spot_total (spot a u m) (spot e.0.job e.0.unit m) e.1 es)
    ∙ ap (λ b. unwrap_or (cond b (Some e.1) (find spot_cmp (spot a u m) es)) 0) (is_spot (spot a u m) e.0.job e.0.unit m ∙ turned a u m e f)

others : (rows : List (RowKey × ℕ)) (es : Table) (m a u : ℕ) → AllByRecursion (λ e. is_of a u e ≡ false) rows → count spot_cmp (rows_put m rows es) (spot a u m) ≡ count spot_cmp es (spot a u m)
others [] es m a u h = refl
others (e ∷ rows) es m a u h = others rows (put spot_cmp (spot e.0.job e.0.unit m) e.1 es) m a u h.1 ∙ put_other es m a u e h.0

rows_sorted : (rows : List (RowKey × ℕ)) (es : Table) (m : ℕ) → T (is_sorted spot_cmp es) → T (is_sorted spot_cmp (rows_put m rows es))
rows_sorted [] es m s = s
rows_sorted (e ∷ rows) es m s = rows_sorted rows (put spot_cmp (spot e.0.job e.0.unit m) e.1 es) m (is_sorted-put spot_cmp spot_total (spot e.0.job e.0.unit m) e.1 es s)

rows_behind : (rows : List (RowKey × ℕ)) (es : Table) (m : ℕ) (e : RowKey × ℕ) → rows_put m (rows ++ e ∷ []) es ≡ put spot_cmp (spot e.0.job e.0.unit m) e.1 (rows_put m rows es)
rows_behind [] es m e = refl
rows_behind (f ∷ rows) es m e = rows_behind rows (put spot_cmp (spot f.0.job f.0.unit m) f.1 es) m e

-- where there is nothing, so many more is that number
put_new : (es : Table) (s : Spot) (n : ℕ) → count spot_cmp es s ≡ 0 → 0 < n → with_count es s n ≡ put spot_cmp s n es
put_new es s n none some =
    let sum : count spot_cmp es s + n ≡ n = omega (arith, none) in
    let t : nat_eq n 0 ≡ false = grind (arith, nat_tests, some) in
    ap (λ k. cond (nat_eq k 0) (where_key spot_cmp (λ x. not (eq_by_cmp spot_cmp s x)) es) (put spot_cmp s k es)) sum ∙ ap (λ b. cond b (where_key spot_cmp (λ x. not (eq_by_cmp spot_cmp s x)) es) (put spot_cmp s n es)) t

-- ---- no two entries are of one unit
below_at : (k : RowKey) (rows : List (RowKey × ℕ)) (i : ℕ) (e : RowKey × ℕ) → T (below_all row_cmp k rows) → slice_get rows i ≡ Some e → row_cmp k e.0 ≡ Less
below_at k [] i e h at = cc
below_at k (y ∷ ys) zero e h at = let same : y ≡ e = cc in subst (λ (x : RowKey × ℕ). row_cmp k x.0 ≡ Less) same (lesser _ (both (is_lt (row_cmp k y.0)) _ h).0)
below_at k (y ∷ ys) (suc i) e h at = below_at k ys i e (both (is_lt (row_cmp k y.0)) _ h).1 at

record IsEntry (e : RowKey × ℕ) : Type 0 where
  wide : length e.0.size ≡ 8
  some : 0 < e.1
  most : e.1 ≤ greatest_count

is_entry : (e : RowKey × ℕ) → 0 < e.1 → e.1 ≤ greatest_row e.0 → IsEntry e
is_entry e some most = by (is_row_key e.0) refl most
  where
    by : (b : Bool) → is_row_key e.0 ≡ b → e.1 ≤ cond b greatest_count 0 → IsEntry e
    by true t le =
        let p = both_true (nat_lt e.0.job most_jobs) _ t in
        let q = both_true (nat_lt e.0.unit most_units) _ p.1 in
        let v = both_true (is_vector_of most_resources e.0.size) (not (is_zero e.0.size)) q.1 in
        let w = both_true (nat_eq (length e.0.size) most_resources) (are_quantities e.0.size) v.0 in
        record { wide = number_is (length e.0.size) 8 w.0; some = some; most = le }
    by false t le = absurd (omega (arith, some, le))

are_entries : (rows : List (RowKey × ℕ)) → AllByRecursion (λ e. 0 < e.1) rows → AllByRecursion (λ e. e.1 ≤ greatest_row e.0) rows → AllByRecursion IsEntry rows
are_entries [] some most = tt
are_entries (e ∷ rows) some most = (is_entry e some.0 most.0, are_entries rows some.1 most.1)

apart_one : (jobs : List KnownJob) (f e : RowKey × ℕ) → row_cmp f.0 e.0 ≡ Less → IsEntry f → IsEntry e → IsFitted jobs f → IsFitted jobs e → is_of e.0.job e.0.unit f ≡ false
apart_one jobs f e less x y p q = by (is_of e.0.job e.0.unit f) refl
  where
    by : (b : Bool) → is_of e.0.job e.0.unit f ≡ b → b ≡ false
    by false t = refl
    by true t =
        let r = both_true (nat_eq f.0.job e.0.job) (nat_eq f.0.unit e.0.unit) t in
        let j = number_is f.0.job e.0.job r.0 in
        let u = number_is f.0.unit e.0.unit r.1 in
        let s : f.0.size ≡ e.0.size = same_at_places f.0.size e.0.size (x.wide ∙ sym y.wide) (λ i. sym (p.1 i) ∙ (λ k. size_at jobs (j k) (u k) i) ∙ q.1 i) in
        let same : f.0 ≡ e.0 = λ i. record { job = j i; unit = u i; size = s i } in
        let no_way : Less ≡ Equal = sym less ∙ ap (row_cmp f.0) (sym same) ∙ tied_itself row_key_total f.0 in
        absurd (let z : ⊥ = cc in z)

apart_before : (jobs : List KnownJob) (rows : List (RowKey × ℕ)) (i : ℕ) (e : RowKey × ℕ) → T (is_sorted row_cmp rows) → AllByRecursion IsEntry rows → AllByRecursion (IsFitted jobs) rows → slice_get rows i ≡ Some e → AllByRecursion (λ f. is_of e.0.job e.0.unit f ≡ false) (take i rows)
apart_before jobs [] i e s x p at = cc
apart_before jobs (y ∷ ys) zero e s x p at = tt
apart_before jobs (y ∷ ys) (suc i) e s x p at =
    let b = both (below_all row_cmp y.0 ys) (is_sorted row_cmp ys) s in
    (apart_one jobs y e (below_at y.0 ys i e b.0 at) x.0 (all_at IsEntry ys i e x.1 at) p.0 (all_at (IsFitted jobs) ys i e p.1 at), apart_before jobs ys i e b.1 x.1 p.1 at)

-- ---- what they take together
abbrev weight : ℕ → RowKey × ℕ → ℕ
weight i e = e.1 * at_place e.0.size i

each_total : (rows : List (RowKey × ℕ)) (i : ℕ) → at_place (total_of (map (λ e. (e.1, e.0.size)) rows)) i ≡ sum_by (weight i) rows
each_total [] i = refl
each_total (e ∷ rows) i =
    let a = at_place-plus (times e.1 e.0.size) (total_of (map (λ f. (f.1, f.0.size)) rows)) i in
    let b = at_place-times e.1 e.0.size i in
    let r = each_total rows i in
    let s = sum_by-cons (weight i) e rows in
    omega (arith, a, b, r, s)

total_is : (rows : List (RowKey × ℕ)) (i : ℕ) → at_place (row_total rows) i ≡ sum_by (weight i) rows
total_is rows i = at_place-padded (total_of (map (λ e. (e.1, e.0.size)) rows)) i ∙ each_total rows i

sum_last : (f : RowKey × ℕ → ℕ) (rows : List (RowKey × ℕ)) (e : RowKey × ℕ) → sum_by f (rows ++ e ∷ []) ≡ sum_by f rows + f e
sum_last f [] e = omega (arith, sum_by-cons f e [])
sum_last f (x ∷ rows) e = let r = sum_last f rows e in let a = sum_by-cons f x (rows ++ e ∷ []) in let b = sum_by-cons f x rows in omega (arith, r, a, b)

sum_beginning : (f : RowKey × ℕ → ℕ) (rows : List (RowKey × ℕ)) (i : ℕ) (e : RowKey × ℕ) → slice_get rows i ≡ Some e → sum_by f (take i rows) + f e ≤ sum_by f rows
sum_beginning f [] i e at = cc
sum_beginning f (x ∷ rows) zero e at = let same : f x ≡ f e = ap f (let s : x ≡ e = cc in s) in let a = sum_by-cons f x rows in omega (arith, same, a)
sum_beginning f (x ∷ rows) (suc i) e at = let r = sum_beginning f rows i e at in let a = sum_by-cons f x rows in let b = sum_by-cons f x (take i rows) in omega (arith, r, a, b)

-- nothing on a machine takes nothing
total_none : (jobs : List KnownJob) (m i : ℕ) (es : Table) → T (is_sorted spot_cmp es) → ((a u : ℕ) → count spot_cmp es (spot a u m) ≡ 0) → total_at jobs m i es ≡ 0
total_none jobs m i [] s none = refl
total_none jobs m i (e ∷ es) s none =
    let b = both (below_all spot_cmp e.0 es) (is_sorted spot_cmp es) s in
    let rest = total_none jobs m i es b.1 (λ a u. behind a u (eq_by_cmp spot_cmp (spot a u m) e.0) refl b.0 (none a u)) in
    let first : cond (nat_eq e.0.machine m) (e.1 * size_at jobs e.0.job e.0.unit i) 0 ≡ 0 = here (nat_eq e.0.machine m) refl in
    let sum = sum_by-cons (λ (f : Spot × ℕ). cond (nat_eq f.0.machine m) (f.1 * size_at jobs f.0.job f.0.unit i) 0) e es in
    omega (arith, rest, first, sum)
  where
    behind : (a u : ℕ) (t : Bool) → eq_by_cmp spot_cmp (spot a u m) e.0 ≡ t → T (below_all spot_cmp e.0 es) → unwrap_or (cond t (Some e.1) (find spot_cmp (spot a u m) es)) 0 ≡ 0 → count spot_cmp es (spot a u m) ≡ 0
    behind a u true t low z = ap (count spot_cmp es) (same_spot (spot a u m) e.0 (tied _ t)) ∙ ap (λ o. unwrap_or o 0) (below_none spot_cmp e.0 es low)
    behind a u false t low z = z

    here : (t : Bool) → nat_eq e.0.machine m ≡ t → cond t (e.1 * size_at jobs e.0.job e.0.unit i) 0 ≡ 0
    here true t =
        let at : spot e.0.job e.0.unit m ≡ e.0 = (λ k. record { job = e.0.job; unit = e.0.unit; machine = sym (number_is e.0.machine m t) k }) in
        let found : count spot_cmp (e ∷ es) e.0 ≡ e.1 = ap (λ b. unwrap_or (cond b (Some e.1) (find spot_cmp e.0 es)) 0) (ap is_eq (tied_itself spot_total e.0)) in
        let zero_is : e.1 ≡ 0 = sym found ∙ ap (count spot_cmp (e ∷ es)) (sym at) ∙ none e.0.job e.0.unit in
        let takes : e.1 * size_at jobs e.0.job e.0.unit i ≡ 0 * size_at jobs e.0.job e.0.unit i = ap (λ n. n * size_at jobs e.0.job e.0.unit i) zero_is in
        omega (arith, takes)
    here false t = refl

-- ---- entry by entry
pub record AddsSome (m : ℕ) (rows : List (RowKey × ℕ)) (x y : AllotmentRecord) : Type 0 where
  pub adds : AddsRow m rows x y
  pub totals : (i : ℕ) → total_at (as_known x.table.jobs) m i y.table.entries ≡ sum_by (weight i) rows

all_stay : (test : Pair → Bool) (line : List Pair) → ((a u : ℕ) → has_pair (a, u) line ≡ true → test (a, u) ≡ true) → filter test line ≡ line
all_stay test [] h = refl
all_stay test (p ∷ ps) h =
    let here : test p ≡ true = h p.0 p.1 (ap (λ b. b || has_pair p ps) ((λ i. nat_itself p.0 i && nat_itself p.1 i))) in
    ap (λ b. cond b (p ∷ filter test ps) (filter test ps)) here ∙ ap (λ qs. p ∷ qs) (all_stay test ps (λ a u e. h a u (or_right (nat_eq a p.0 && nat_eq u p.1) (has_pair (a, u) ps) e)))

pub adds_none : (m : ℕ) (x : AllotmentRecord) → T (is_sorted spot_cmp x.table.entries) → AllWait x → ((a u : ℕ) → held_on x.table.entries a u m ≡ 0) → AddsSome m [] x x
adds_none m x sorted wait none = record {
  adds = record {
    stands = λ c M h. record {
      placing = record {
        cluster = h.placing.cluster;
        numbers = h.placing.numbers;
        jobs = h.placing.jobs;
        entries = refl;
        wants = h.placing.wants;
        near = h.placing.near;
        racks = h.placing.racks;
        avoids = h.placing.avoids;
        usable = h.placing.usable;
        line = h.placing.line ∙ sym (all_stay (λ p. nat_lt 0 (out_of (asked M) x.table.entries p.0 p.1)) M.line (λ a u e.
            let some = wait.each a u (ap (has_pair (a, u)) h.placing.line ∙ e) in
            let wants = h.placing.wants a u in
            let lt : 0 < out_of (asked M) x.table.entries a u = omega (arith, some, wants) in
            grind (arith, nat_tests, lt)));
      };
    };
    waits = wait;
    touches = untouched x;
    table = refl;
  };
  totals = λ i. total_none (as_known x.table.jobs) m i x.table.entries sorted none;
}

abbrev pub TotalLaw : Type 0
TotalLaw = (jobs : List KnownJob) (es : Table) (s : Spot) (n m i : ℕ) → T (is_sorted spot_cmp es)
    → total_at jobs m i (set_count spot_cmp es s n) + cond (nat_eq s.machine m) (count spot_cmp es s * size_at jobs s.job s.unit i) 0 ≡ total_at jobs m i es + cond (nat_eq s.machine m) (n * size_at jobs s.job s.unit i) 0

held_less : (b : Bool) (x y n k : ℕ) → x + cond b n 0 ≡ y + cond b (n + k) 0 → y ≤ x
held_less true x y n k e = omega (arith, e)
held_less false x y n k e = omega (arith, e)

total_more : (b : Bool) (x y n k z : ℕ) → b ≡ true → n ≡ 0 → x + cond b (n * z) 0 ≡ y + cond b ((n + k) * z) 0 → x ≡ y + k * z
total_more true x y n k z t none e = let f : x + 0 * z ≡ y + (0 + k) * z = subst (λ w. x + w * z ≡ y + (w + k) * z) none e in omega (arith, f)
total_more false x y n k z t none e = cc

module _ (held_law : HeldLaw) (total_law : TotalLaw) (m : ℕ) (rows : List (RowKey × ℕ)) (x y : AllotmentRecord) (sorted : T (is_sorted spot_cmp x.table.entries)) (none : (a u : ℕ) → held_on x.table.entries a u m ≡ 0)
    (is : IsRow rows) (fitted : AllByRecursion (IsFitted (as_known x.table.jobs)) rows) (i : ℕ) (e : RowKey × ℕ) (at : slice_get rows i ≡ Some e) (before : AddsSome m (take i rows) x y) where
  abbrev place : Spot
  place = spot e.0.job e.0.unit m

  table_is : y.table ≡ record x.table { entries = rows_put m (take i rows) x.table.entries }
  table_is = before.adds.table

  entry : IsEntry e
  entry = all_at IsEntry rows i e (are_entries rows is.counts.positive is.counts.within) at

  fits_in : IsFitted (as_known x.table.jobs) e
  fits_in = all_at (IsFitted (as_known x.table.jobs)) rows i e fitted at

  nothing_there : count spot_cmp y.table.entries place ≡ 0
  nothing_there =
      ap (λ (t : TableRecord). count spot_cmp t.entries place) table_is
      ∙ others (take i rows) x.table.entries m e.0.job e.0.unit (apart_before (as_known x.table.jobs) rows i e is.counts.sorted (are_entries rows is.counts.positive is.counts.within) fitted at)
      ∙ none e.0.job e.0.unit

  sorted_there : T (is_sorted spot_cmp y.table.entries)
  sorted_there = subst (λ (t : TableRecord). T (is_sorted spot_cmp t.entries)) (sym table_is) (rows_sorted (take i rows) x.table.entries m sorted)

  jobs_same : y.table.jobs ≡ x.table.jobs
  jobs_same = ap (λ (t : TableRecord). t.jobs) table_is

  pub unit_there : e.0.unit < unit_count (as_known y.table.jobs) e.0.job
  unit_there = let lt = fits_in.0 in let same = ap (λ js. unit_count (as_known js) e.0.job) jobs_same in omega (arith, lt, same)

  pub few_there : held_on y.table.entries e.0.job e.0.unit m + e.1 ≤ 100000
  few_there = let z = nothing_there in let most = entry.most in omega (arith, z, most)

  pub room_there : ((j : ℕ) → at_place (row_total rows) j ≤ has_at x.table.cluster m j) → (j : ℕ) → total_at (as_known y.table.jobs) m j y.table.entries + e.1 * size_at (as_known y.table.jobs) e.0.job e.0.unit j ≤ has_at y.table.cluster m j
  room_there fits j =
      let so_far = ap (λ js. total_at (as_known js) m j y.table.entries) jobs_same ∙ before.totals j in
      let size = ap (λ n. e.1 * n) (ap (λ js. size_at (as_known js) e.0.job e.0.unit j) jobs_same ∙ fits_in.1 j) in
      let le = sum_beginning (weight j) rows i e at in
      let all = total_is rows j in
      let fit = fits j in
      let has = ap (λ (t : TableRecord). has_at t.cluster m j) table_is in
      omega (arith, so_far, size, le, all, fit, has)

  module _ (z : AllotmentRecord) (more : Adds place e.1 y z) where
    entries_are : z.table.entries ≡ with_count y.table.entries place e.1
    entries_are = ap (λ (t : TableRecord). t.entries) more.table

    put_there : with_count y.table.entries place e.1 ≡ rows_put m (take (i + 1) rows) x.table.entries
    put_there =
        put_new y.table.entries place e.1 nothing_there entry.some ∙ ap (λ (t : TableRecord). put spot_cmp place e.1 t.entries) table_is
        ∙ sym (ap (λ rs. rows_put m rs x.table.entries) (take_last rows i e at) ∙ rows_behind (take i rows) x.table.entries m e)

    -- who has something out with more grants had it with fewer
    waited : (M : Master) (p : Pair) → nat_lt 0 (out_of (asked M) (with_count y.table.entries place e.1) p.0 p.1) ≡ true → nat_lt 0 (out_of (asked M) y.table.entries p.0 p.1) ≡ true
    waited M p t =
        let le = held_less (nat_eq e.0.job p.0 && nat_eq e.0.unit p.1) _ _ (count spot_cmp y.table.entries place) e.1 (held_law y.table.entries place (count spot_cmp y.table.entries place + e.1) p.0 p.1 sorted_there) in
        let some : 0 < out_of (asked M) (with_count y.table.entries place e.1) p.0 p.1 = grind (arith, nat_tests, t) in
        let lt : 0 < out_of (asked M) y.table.entries p.0 p.1 = omega (arith, some, le) in
        grind (arith, nat_tests, lt)

    stands_there : (c : ClusterRecord) (M : Master) → Allots x c M → Allots z c (record M { table = z.table.entries; line = line_after (asked M) z.table.entries M.line })
    stands_there c M h =
        let made = more.stands c (record M { table = y.table.entries; line = line_after (asked M) y.table.entries M.line }) (before.adds.stands c M h) in
        let w = with_count y.table.entries place e.1 in
        let line : line_after (asked M) w (line_after (asked M) y.table.entries M.line) ≡ line_after (asked M) w M.line = filter_twice (λ p. nat_lt 0 (out_of (asked M) w p.0 p.1)) (λ p. nat_lt 0 (out_of (asked M) y.table.entries p.0 p.1)) M.line (waited M) in
        subst (λ es. Allots z c (record M { table = es; line = line_after (asked M) es M.line })) (sym entries_are)
        (subst (λ l. Allots z c (record M { table = w; line = l })) line made)

    pub adds_more : AddsSome m (take (i + 1) rows) x z
    adds_more = record {
      adds = record {
        stands = stands_there;
        waits = more.waits;
        touches = touched_again x y z before.adds.touches more.touches;
        table = more.table ∙ ap (λ (t : TableRecord). record t { entries = with_count y.table.entries place e.1 }) table_is ∙ ap (λ es. record x.table { entries = es }) put_there;
      };
      totals = λ j.
          let law = total_law (as_known x.table.jobs) y.table.entries place (count spot_cmp y.table.entries place + e.1) m j sorted_there in
          let sum = total_more (nat_eq m m) _ _ (count spot_cmp y.table.entries place) e.1 (size_at (as_known x.table.jobs) e.0.job e.0.unit j) (nat_itself m) nothing_there law in
          let size = ap (λ n. e.1 * n) (fits_in.1 j) in
          let so_far = before.totals j in
          let last = ap (sum_by (weight j)) (take_last rows i e at) ∙ sum_last (weight j) (take i rows) e in
          let here = ap (λ es. total_at (as_known x.table.jobs) m j es) entries_are in
          omega (arith, sum, size, so_far, last, here);
    }
