-- Keys of rows that are those of admitted units, and how many there are.
use Rattle.std.proofs.Common.{◌≡◌, ℕ, zero, suc, ◌+◌, ◌*◌, ◌<◌, ◌≤◌, Bool, true, false, cond, nat_eq, nat_lt, List, [], ◌∷◌, length, refl, sym, ◌∙◌, ap, subst, arith}
use Rattle.std.specs.Prelude.{T, IsTrue, Some, slice_get}
use Rattle.std.specs.Option.{unwrap_or, option_map}
use Rattle.std.specs.List.{AllByRecursion, list_all}
use Rattle.std.specs.Ordering.{nat_cmp, ordering_then, is_lt}
use Rattle.std.specs.Cmp.{tied_itself}
use Rattle.std.specs.Cmp.Lexicographic.{slice_cmp}
use Rattle.std.specs.declared.cmp.Ordering.{Ordering}
use Rattle.std.specs.declared.cmp.Ordering.TheVariants.{Less, Equal, Greater}
use Rattle.std.specs.FinMap.Entries.{by_order, below_all, put, is_sorted}
use Rattle.std.proofs.lemmas.Bool.Decides.{nat_tests}
use Rattle.fuxi_terms.specs.Cluster.{JobRecord, UnitRecord, is_valid_job, is_valid_unit, is_size, is_priority, is_between}
use Rattle.fuxi_terms.specs.Counts.{joined}
use Rattle.fuxi_terms.specs.Jobs.{KnownJob, job_of, unit_count, unit_of, no_unit}
use Rattle.fuxi_terms.specs.Keys.{RowKey, row_cmp}
use Rattle.fuxi_terms.specs.Rows.{is_row_key, row_key}
use Rattle.fuxi_terms.proofs.Booleans.{both_true, and_true, number_is}
use Rattle.fuxi_terms.proofs.CountsLemmas.{both_true as both_parts, lesser}
use Rattle.fuxi_terms.proofs.KeyOrders.{row_key_total}
use Rattle.fuxi_terms.proofs.ValidJobs.{job_small, units_valid, units_few}
use Rattle.grant_table.specs.GrantTables.{as_known, AreJobs}

-- ---- the key of an admitted unit is a key of a row
valid_at : (us : List UnitRecord) (u : ℕ) → list_all (is_valid_unit 8) us ≡ true → u < length us → is_valid_unit 8 (unwrap_or (slice_get us u) no_unit) ≡ true
valid_at [] u h lt = absurd (omega (arith, lt))
valid_at (x ∷ us) zero h lt = (both_true (is_valid_unit 8 x) (list_all (is_valid_unit 8) us) h).0
valid_at (x ∷ us) (suc u) h lt = valid_at us u (both_true (is_valid_unit 8 x) (list_all (is_valid_unit 8) us) h).1 (omega (arith, lt))

key_of : (j : JobRecord) (u : ℕ) → IsTrue (is_valid_job 8 j) → u < length j.units → is_row_key (row_key j.number u (unwrap_or (slice_get j.units u) no_unit).size) ≡ true
key_of j u v lt =
    let x : UnitRecord = unwrap_or (slice_get j.units u) no_unit in
    let small = job_small j v in
    let few = units_few j v in
    let job : nat_lt j.number 256 ≡ true = grind (arith, nat_tests, small) in
    let unit : nat_lt u 8 ≡ true = let l : u < 8 = omega (arith, lt, few) in grind (arith, nat_tests, l) in
    let valid = valid_at j.units u (both_true (is_between 1 8 (length j.units)) _ (units_valid j v)).1 lt in
    let size : is_size 8 x.size ≡ true = (both_true (is_size 8 x.size) _ (both_true (is_priority x.priority) _ valid).1).0 in
    and_true (nat_lt j.number 256) _ job (and_true (nat_lt u 8) _ unit size)

pub unit_key : (js : List JobRecord) → AreJobs js → (a u : ℕ) → u < unit_count (as_known js) a → is_row_key (row_key a u (unit_of (as_known js) a u).size) ≡ true
unit_key [] h a u lt = absurd (omega (arith, lt))
unit_key (j ∷ js) h a u lt = by (nat_eq j.number a) refl lt (unit_key js h.1.1 a u)
  where
    units : Bool → List UnitRecord
    units b = unwrap_or (option_map (λ (k : KnownJob). k.job.units) (cond b (Some (record { job = j; ended = false })) (job_of (as_known js) a))) []

    by : (b : Bool) → nat_eq j.number a ≡ b → u < length (units b) → (u < unit_count (as_known js) a → is_row_key (row_key a u (unit_of (as_known js) a u).size) ≡ true) → is_row_key (row_key a u (unwrap_or (slice_get (units b) u) no_unit).size) ≡ true
    by true e lt rest = subst (λ n. is_row_key (row_key n u (unwrap_or (slice_get j.units u) no_unit).size) ≡ true) (number_is j.number a e) (key_of j u h.0 lt)
    by false e lt rest = rest lt

-- ---- at most 2,048 of them rise
pub record IsUnitKey (js : List JobRecord) (k : RowKey) : Type 0 where
  pub unit : k.unit < unit_count (as_known js) k.job
  pub size : k.size ≡ (unit_of (as_known js) k.job k.unit).size

abbrev code : RowKey → ℕ
code k = k.job * 8 + k.unit

module _ (js : List JobRecord) (valid : AreJobs js) where
  pub key_is : (k : RowKey) → IsUnitKey js k → is_row_key k ≡ true
  key_is k is = subst (λ s. is_row_key (row_key k.job k.unit s) ≡ true) (sym is.size) (unit_key js valid k.job k.unit is.unit)

  small : (k : RowKey) → IsUnitKey js k → (k.job < 256) × (k.unit < 8)
  small k is =
      let t = both_true (nat_lt k.job 256) _ (key_is k is) in
      let u = both_true (nat_lt k.unit 8) _ t.1 in
      (let a : nat_lt k.job 256 ≡ true = t.0 in grind (arith, nat_tests, a), let b : nat_lt k.unit 8 ≡ true = u.0 in grind (arith, nat_tests, b))

  one_key : (a b : RowKey) → IsUnitKey js a → IsUnitKey js b → a.job ≡ b.job → a.unit ≡ b.unit → a ≡ b
  one_key a b x y job unit =
      let size : a.size ≡ b.size = x.size ∙ (λ i. (unit_of (as_known js) (job i) (unit i)).size) ∙ sym y.size in
      λ i. record { job = job i; unit = unit i; size = size i }

  below_code : (a b : RowKey) → a.unit < 8 → (a.job < b.job) → code a + 1 ≤ code b
  below_code a b s lt = omega (arith, s, lt)

  next_code : (a b : RowKey) → IsUnitKey js a → IsUnitKey js b → row_cmp a b ≡ Less → code a + 1 ≤ code b
  next_code a b x y less = by (nat_cmp a.job b.job) refl less
    where
      units : (r : Ordering) → nat_cmp a.unit b.unit ≡ r → a.job ≡ b.job → ordering_then r (slice_cmp nat_cmp a.size b.size) ≡ Less → code a + 1 ≤ code b
      units Less e job l = let lt : a.unit < b.unit = grind (arith, nat_tests, e) in omega (arith, job, lt)
      units Equal e job l =
          let unit : a.unit ≡ b.unit = grind (arith, nat_tests, e) in
          let same = one_key a b x y job unit in
          let tie : row_cmp a b ≡ Equal = ap (row_cmp a) (sym same) ∙ tied_itself row_key_total a in
          let f : Less ≡ Equal = sym less ∙ tie in cc
      units Greater e job l = cc

      by : (r : Ordering) → nat_cmp a.job b.job ≡ r → ordering_then r (ordering_then (nat_cmp a.unit b.unit) (slice_cmp nat_cmp a.size b.size)) ≡ Less → code a + 1 ≤ code b
      by Less e l = let lt : a.job < b.job = grind (arith, nat_tests, e) in below_code a b (small a x).1 lt
      by Equal e l = let job : a.job ≡ b.job = grind (arith, nat_tests, e) in units (nat_cmp a.unit b.unit) refl job l
      by Greater e l = cc

  rising : (k : RowKey) (es : List (RowKey × ℕ)) → IsUnitKey js k → T (below_all row_cmp k es) → AllByRecursion (λ e. IsUnitKey js e.0) es → AllByRecursion (λ e. code k + 1 ≤ code e.0) es
  rising k [] is below h = tt
  rising k (e ∷ es) is below h =
      let parts = both_parts (is_lt (row_cmp k e.0)) (below_all row_cmp k es) below in
      (next_code k e.0 is h.0 (lesser _ parts.0), rising k es is parts.1 h.1)

  from_low : (es : List (RowKey × ℕ)) (low : ℕ) → low ≤ 2048 → AllByRecursion (λ e. low ≤ code e.0) es → T (is_sorted row_cmp es) → AllByRecursion (λ e. IsUnitKey js e.0) es → low + length es ≤ 2048
  from_low [] low le above sorted h = omega (arith, le)
  from_low (e ∷ es) low le above sorted h =
      let parts = both_parts (below_all row_cmp e.0 es) (is_sorted row_cmp es) sorted in
      let s = small e.0 h.0 in
      let most : code e.0 + 1 ≤ 2048 = omega (arith, s.0, s.1) in
      let r = from_low es (code e.0 + 1) most (rising e.0 es h.0 parts.0 h.1) parts.1 h.1 in
      let first = above.0 in
      omega (arith, r, first)

  pub few_keys : (es : List (RowKey × ℕ)) → T (is_sorted row_cmp es) → AllByRecursion (λ e. IsUnitKey js e.0) es → length es ≤ 2048
  few_keys es sorted h = let r = from_low es 0 (omega arith) (from_zero es) sorted h in omega (arith, r)
    where
      from_zero : (es : List (RowKey × ℕ)) → AllByRecursion (λ e. 0 ≤ code e.0) es
      from_zero [] = tt
      from_zero (e ∷ es) = (omega arith, from_zero es)

-- ---- what holds of the keys of two lists holds of the keys of both
module _ (P : RowKey → Type 0) where
  all_put : (k : RowKey) (n : ℕ) (es : List (RowKey × ℕ)) → P k → AllByRecursion (λ e. P e.0) es → AllByRecursion (λ e. P e.0) (put row_cmp k n es)
  all_put k n [] here h = (here, tt)
  all_put k n (e ∷ es) here h = elim (row_cmp k e.0) as (λ r. AllByRecursion (λ e. P e.0) (by_order r ((k, n) ∷ e ∷ es) ((e.0, n) ∷ es) (e ∷ put row_cmp k n es))) [
    | Less ↦ (here, (h.0, h.1))
    | Equal ↦ (h.0, h.1)
    | Greater ↦ (h.0, all_put k n es here h.1)
  ]

  pub all_joined : (es fs : List (RowKey × ℕ)) → AllByRecursion (λ e. P e.0) es → AllByRecursion (λ e. P e.0) fs → AllByRecursion (λ e. P e.0) (joined row_cmp es fs)
  all_joined [] fs h k = k
  all_joined (e ∷ es) fs h k = all_put e.0 e.1 (joined row_cmp es fs) h.0 (all_joined es fs h.1 k)
