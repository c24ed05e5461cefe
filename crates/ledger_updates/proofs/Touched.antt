-- What a sound table has, and what it has at the spots that were touched.
use Rattle.std.proofs.Common.{◌≡◌, ℕ, ◌<◌, ◌≤◌, Bool, true, false, cond, not, nat_eq, nat_lt, List, [], ◌∷◌, length, map, filter, Option, Some, None, IsTrue, refl, sym, ◌∙◌, ap, arith}
use Rattle.std.specs.Prelude.{T, ◌&&◌, ◌||◌}
use Rattle.std.specs.Option.{is_some, unwrap_or, option_map}
use Rattle.std.specs.Ordering.{eq_by_cmp, is_lt}
use Rattle.std.specs.List.{AllByRecursion, list_all}
use Rattle.std.specs.FinMap.Entries.{below_all, is_sorted, find}
use Rattle.std.proofs.lemmas.Bool.Decides.{nat_tests}
use Rattle.fuxi_terms.specs.Cluster.{ClusterRecord, JobRecord, is_valid_cluster, is_valid_unit, is_between}
use Rattle.fuxi_terms.specs.Counts.{count}
use Rattle.fuxi_terms.specs.Jobs.{KnownJob, job_of, unit_count}
use Rattle.fuxi_terms.specs.Keys.{Spot, spot_cmp}
use Rattle.fuxi_terms.proofs.Booleans.{both_true as both_are, and_true, and_false}
use Rattle.fuxi_terms.proofs.CountsLemmas.{both_true, tied, count_le}
use Rattle.fuxi_terms.proofs.KeyOrders.{spot_total, same_spot}
use Rattle.fuxi_terms.proofs.Spots.{each_found}
use Rattle.fuxi_terms.proofs.ValidJobs.{units_valid}
use Rattle.fuxi_terms.specs.NumbersSet.{IsSetTo}
use Rattle.fuxi_terms.specs.Tables.{Table}
use Rattle.grant_table.specs.GrantTables.{TableRecord, as_known, AreJobs, IsSound}
use Rattle.ledger_updates.specs.AllShown.{has_spot, AreInOrder, IsBefore}
use Rattle.ledger_updates.specs.OneJob.{counts_at}
use Rattle.ledger_updates.specs.TouchedNumbers.{has_place}
use Rattle.ledger_updates.proofs.InOrder.{both, IsSmall}

between_le : (a b n : ℕ) → is_between a b n ≡ true → n ≤ b
between_le a b n h = let t : not (nat_lt b n) ≡ true = (both_are (not (nat_lt n a)) (not (nat_lt b n)) h).1 in grind (arith, nat_tests, t)

units_few : (jobs : List JobRecord) (a : ℕ) → AreJobs jobs → unit_count (as_known jobs) a ≤ 8
units_few [] a h = omega arith
units_few (j ∷ js) a h = elim (nat_eq j.number a) as (λ b. length (unwrap_or (option_map (λ (k : KnownJob). k.job.units) (cond b (Some (record { job = j; ended = false })) (job_of (as_known js) a))) []) ≤ 8) [
  | true ↦ between_le 1 8 (length j.units) (both_are (is_between 1 8 (length j.units)) (list_all (is_valid_unit 8) j.units) (units_valid j h.0)).0
  | false ↦ units_few js a h.1.1
]

machines_few : (c : ClusterRecord) → IsTrue (is_valid_cluster c) → length c.machines ≤ 256
machines_few c h = between_le 1 256 (length c.machines) (both_are (is_between 1 256 (length c.machines)) _ (both_are (is_between 1 8 c.resources) _ h).1).0

abbrev IsAdmitted : TableRecord → Spot → Type 0
IsAdmitted t s = (s.unit < unit_count (as_known t.jobs) s.job) × (s.machine < length t.cluster.machines)

placed : (t : TableRecord) (s : Spot) → has_place t s ≡ true → IsAdmitted t s
placed t s h =
    let p = both_are (nat_lt s.unit (unit_count (as_known t.jobs) s.job)) (nat_lt s.machine (length t.cluster.machines)) h in
    (let e = p.0 in grind (arith, nat_tests, e), let e = p.1 in grind (arith, nat_tests, e))

has_one : (t : TableRecord) (s : Spot) → IsAdmitted t s → has_place t s ≡ true
has_one t s h = and_true (nat_lt s.unit (unit_count (as_known t.jobs) s.job)) (nat_lt s.machine (length t.cluster.machines)) (let lt = h.0 in grind (arith, nat_tests, lt)) (let lt = h.1 in grind (arith, nat_tests, lt))

module _ (t : TableRecord) (sound : IsSound t) where
  small_one : (s : Spot) (n : ℕ) → IsAdmitted t s → n ≤ 100000 → IsSmall (s, n)
  small_one s n h le =
      let u = units_few t.jobs s.job sound.in_order in
      let m = machines_few t.cluster sound.valid in
      record { unit = let lt = h.0 in omega (arith, lt, u); machine = let lt = h.1 in omega (arith, lt, m); number = le }

  pub table_small : AllByRecursion IsSmall t.entries
  table_small = by t.entries sound.admitted sound.counts.within
    where
      by : (es : Table) → AllByRecursion (λ e. IsAdmitted t e.0) es → AllByRecursion (λ e. e.1 ≤ 100000) es → AllByRecursion IsSmall es
      by [] h g = tt
      by (e ∷ es) h g = (small_one e.0 e.1 h.0 g.0, by es h.1 g.1)

  pub touched_small : (ss : List Spot) → AllByRecursion IsSmall (counts_at t ss)
  touched_small [] = tt
  touched_small (s ∷ ss) = elim (has_place t s) as (λ b. has_place t s ≡ b → AllByRecursion IsSmall (map (λ s. (s, count spot_cmp t.entries s)) (cond b (s ∷ filter (has_place t) ss) (filter (has_place t) ss)))) [
    | true ↦ λ h. (small_one s (count spot_cmp t.entries s) (placed t s h) (count_le spot_total same_spot (λ _. 100000) t.entries s sound.counts.within), touched_small ss)
    | false ↦ λ _. touched_small ss
  ] refl

pub touched_sorted : (t : TableRecord) (ss : List Spot) → AreInOrder ss → T (is_sorted spot_cmp (counts_at t ss))
touched_sorted t [] h = tt
touched_sorted t (s ∷ ss) h =
    let p = both_true (below_all {X = ℕ} spot_cmp s (map (λ s. (s, 0)) ss)) (is_sorted {X = ℕ} spot_cmp (map (λ s. (s, 0)) ss)) h in
    elim (has_place t s) as (λ b. T (is_sorted spot_cmp (map (λ s. (s, count spot_cmp t.entries s)) (cond b (s ∷ filter (has_place t) ss) (filter (has_place t) ss))))) [
      | true ↦ both (below_all spot_cmp s (counts_at t ss)) (is_sorted spot_cmp (counts_at t ss)) (belows s ss p.0) (touched_sorted t ss p.1)
      | false ↦ touched_sorted t ss p.1
    ]
  where
    belows : (s : Spot) (ss : List Spot) → T (below_all {X = ℕ} spot_cmp s (map (λ s. (s, 0)) ss)) → T (below_all spot_cmp s (counts_at t ss))
    belows s [] h = tt
    belows s (x ∷ ss) h =
        let p = both_true (is_lt (spot_cmp s x)) (below_all {X = ℕ} spot_cmp s (map (λ s. (s, 0)) ss)) h in
        elim (has_place t x) as (λ b. T (below_all spot_cmp s (map (λ s. (s, count spot_cmp t.entries s)) (cond b (x ∷ filter (has_place t) ss) (filter (has_place t) ss))))) [
          | true ↦ both (is_lt (spot_cmp s x)) (below_all spot_cmp s (counts_at t ss)) p.0 (belows s ss p.1)
          | false ↦ belows s ss p.1
        ]

-- what is found at a spot
module _ (t : TableRecord) (q : Spot) where
  abbrev one : Bool → Option ℕ
  one b = cond b (Some (count spot_cmp t.entries q)) None

  found_at : (ss : List Spot) → find spot_cmp q (counts_at t ss) ≡ one (has_spot q ss && has_place t q)
  found_at [] = refl
  found_at (s ∷ ss) = by (has_place t s) (eq_by_cmp spot_cmp q s) refl refl (found_at ss)
    where
      by : (b c : Bool) → has_place t s ≡ b → eq_by_cmp spot_cmp q s ≡ c → find spot_cmp q (counts_at t ss) ≡ one (has_spot q ss && has_place t q)
          → find spot_cmp q (map (λ s. (s, count spot_cmp t.entries s)) (cond b (s ∷ filter (has_place t) ss) (filter (has_place t) ss))) ≡ one ((c || has_spot q ss) && has_place t q)
      by true true there same rest =
          let is : q ≡ s = same_spot q s (tied _ same) in
          ap (λ b. cond b (Some (count spot_cmp t.entries s)) (find spot_cmp q (counts_at t ss))) same ∙ ap (λ s. Some (count spot_cmp t.entries s)) (sym is) ∙ ap one (sym (ap (has_place t) is ∙ there))
      by true false there same rest = ap (λ b. cond b (Some (count spot_cmp t.entries s)) (find spot_cmp q (counts_at t ss))) same ∙ rest
      by false true there same rest =
          let gone : has_place t q ≡ false = ap (has_place t) (same_spot q s (tied _ same)) ∙ there in
          rest ∙ ap (λ b. one (has_spot q ss && b)) gone ∙ ap one (and_false (has_spot q ss)) ∙ ap one (sym gone)
      by false false there same rest = rest

none_there : (t : TableRecord) (q : Spot) (es : Table) → AllByRecursion (λ e. IsAdmitted t e.0) es → has_place t q ≡ false → count spot_cmp es q ≡ 0
none_there t q es h gone = by (nat_eq (count spot_cmp es q) 0) refl
  where
    by : (b : Bool) → nat_eq (count spot_cmp es q) 0 ≡ b → count spot_cmp es q ≡ 0
    by true e = grind (arith, nat_tests, e)
    by false e = let some : 0 < count spot_cmp es q = grind (arith, nat_tests, e) in let f : true ≡ false = sym (has_one t q (each_found (IsAdmitted t) q es some h)) ∙ gone in cc

-- the table is an earlier map with what it has at the spots that were touched
pub touched_follow : (t : TableRecord) (ss : List Spot) (before : Table) → IsSound t → IsBefore t ss before → IsSetTo spot_cmp before (counts_at t ss) t.entries
touched_follow t ss before sound is q = by (has_spot q ss) (has_place t q) refl refl (found_at t q ss)
  where
    by : (b c : Bool) → has_spot q ss ≡ b → has_place t q ≡ c → find spot_cmp q (counts_at t ss) ≡ one t q (b && c)
        → count spot_cmp t.entries q ≡ cond (is_some (find spot_cmp q (counts_at t ss))) (count spot_cmp (counts_at t ss) q) (count spot_cmp before q)
    by true true has there found = sym (ap (λ (r : Option ℕ). cond (is_some r) (unwrap_or r 0) (count spot_cmp before q)) found)
    by true false has gone found = none_there t q t.entries sound.admitted gone ∙ sym (none_there t q before is.admitted gone) ∙ sym (ap (λ (r : Option ℕ). cond (is_some r) (unwrap_or r 0) (count spot_cmp before q)) found)
    by false c not_has _ found = is.others q not_has ∙ sym (ap (λ (r : Option ℕ). cond (is_some r) (unwrap_or r 0) (count spot_cmp before q)) found)
