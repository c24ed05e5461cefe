-- What is written of a valid job is read back as that job.
use Rattle.std.proofs.Common.{◌≡◌, ℕ, ◌+◌, ◌*◌, ◌^◌, ◌<◌, ◌≤◌, true, not, nat_eq, nat_lt, List, [], ◌∷◌, ◌++◌, length, length-append, append_assoc, take, drop, refl, ◌∙◌, ap, subst, sym, arith}
use Rattle.std.proofs.lemmas.List.{take_at, drop_at}
use Rattle.std.proofs.lemmas.Bool.Decides.{nat_tests}
use Rattle.std.proofs.lemmas.Nat.{from_be_bytes-to_be_bytes_4, from_be_bytes-to_be_bytes_8}
use Rattle.std.specs.Int.{to_be_bytes, from_be_bytes, w32, w64}
use Rattle.std.specs.Prelude.{◌&&◌}
use Rattle.std.specs.List.{flat_map, list_all}
use Rattle.fuxi_terms.specs.Cluster.{JobRecord, UnitRecord, is_valid_job, is_valid_unit, are_quantities, is_at_most, is_priority, is_size, is_most, is_vector_of, is_between}
use Rattle.fuxi_terms.specs.Limits.{greatest_quantity, greatest_count}
use Rattle.fuxi_terms.specs.Vectors.{is_zero}
use Rattle.fuxi_terms.proofs.Booleans.{both_true, and_true}
use Rattle.hard_state.specs.RecordBodies.{unit_bytes, job_bytes, quantities_in, units_in, job_in, is_job}

-- numbers of eight bytes
abbrev pub FitEight : List ℕ → Type 0
FitEight [] = Unit {0}
FitEight (q ∷ qs) = (q < 2 ^ 64) × FitEight qs

quantities_back : (qs : List ℕ) → FitEight qs → quantities_in (flat_map (to_be_bytes w64) qs) ≡ qs
quantities_back [] fit = refl
quantities_back (q ∷ qs) fit = (λ i. from_be_bytes-to_be_bytes_8 q fit.0 i ∷ quantities_back qs fit.1 i)

quantities_long : (qs : List ℕ) → length (flat_map (to_be_bytes w64) qs) ≡ 8 * length qs
quantities_long [] = refl
quantities_long (q ∷ qs) = omega (arith, quantities_long qs)

-- a size of eight places, and a number of four bytes
pub record UnitFits (u : UnitRecord) : Type 0 where
  pub places : length u.size ≡ 8
  pub quantities : FitEight u.size
  pub bound : u.most < 2 ^ 32

abbrev pub UnitsFit : List UnitRecord → Type 0
UnitsFit [] = Unit {0}
UnitsFit (u ∷ us) = UnitFits u × UnitsFit us

size_long : (u : UnitRecord) → UnitFits u → length (flat_map (to_be_bytes w64) u.size) ≡ 64
size_long u fits = omega (arith, quantities_long u.size, fits.places)

-- what stands behind the priority of a unit: its size, its number per machine, and the others
size_front : (size most rest : List ℕ) → length size ≡ 64 → take 64 ((size ++ most) ++ rest) ≡ size
size_front size most rest long = ap (λ l. take 64 l) (append_assoc size most rest) ∙ take_at size (most ++ rest) 64 long

most_behind : (size most rest : List ℕ) → length size ≡ 64 → drop 64 ((size ++ most) ++ rest) ≡ most ++ rest
most_behind size most rest long = ap (λ l. drop 64 l) (append_assoc size most rest) ∙ drop_at size (most ++ rest) 64 long

units_back : (us : List UnitRecord) → UnitsFit us → units_in 2 (length us) (flat_map unit_bytes us) ≡ us
units_back [] fit = refl
units_back (u ∷ us) fit =
    let size = flat_map (to_be_bytes w64) u.size in
    let most = to_be_bytes w32 u.most in
    let rest = flat_map unit_bytes us in
    let long = size_long u fit.0 in
    let front : quantities_in (take 64 ((size ++ most) ++ rest)) ≡ u.size = ap quantities_in (size_front size most rest long) ∙ quantities_back u.size fit.0.quantities in
    let bound : from_be_bytes w32 (drop 64 ((size ++ most) ++ rest)) ≡ u.most = ap (λ l. from_be_bytes w32 l) (most_behind size most rest long) ∙ from_be_bytes-to_be_bytes_4 u.most fit.0.bound in
    let behind : drop 68 ((size ++ most) ++ rest) ≡ rest = drop_at (size ++ most) rest 68 (omega (arith, long, length-append size most)) in
    (λ i. record { priority = u.priority; size = front i; most = bound i } ∷ (ap (units_in 2 (length us)) behind ∙ units_back us fit.1) i)

units_long : (us : List UnitRecord) → UnitsFit us → length (flat_map unit_bytes us) ≡ 69 * length us
units_long [] fit = refl
units_long (u ∷ us) fit =
    let size = flat_map (to_be_bytes w64) u.size in
    let most = to_be_bytes w32 u.most in
    omega (arith, length-append (size ++ most) (flat_map unit_bytes us), length-append size most, size_long u fit.0, units_long us fit.1)

fit_of : (qs : List ℕ) → list_all (is_at_most greatest_quantity) qs ≡ true → FitEight qs
fit_of [] ok = tt
fit_of (q ∷ qs) ok = let both = both_true (is_at_most greatest_quantity q) (list_all (is_at_most greatest_quantity) qs) ok in let first = both.0 in (grind (arith, nat_tests), fit_of qs both.1)

units_fit : (us : List UnitRecord) → list_all (is_valid_unit 8) us ≡ true → UnitsFit us
units_fit [] ok = tt
units_fit (u ∷ us) ok =
    let both = both_true (is_valid_unit 8 u) (list_all (is_valid_unit 8) us) ok in
    let unit = both_true (is_priority u.priority) (is_size 8 u.size && is_most u.most) both.0 in
    let parts = both_true (is_size 8 u.size) (is_most u.most) unit.1 in
    let vector = both_true (is_vector_of 8 u.size) (not (is_zero u.size)) parts.0 in
    let size = both_true (nat_eq (length u.size) 8) (are_quantities u.size) vector.0 in
    let most = both_true (not (nat_lt u.most 1)) (not (nat_lt greatest_count u.most)) parts.1 in
    let count = size.0 in
    let few = most.1 in
    (record { places = grind (arith, nat_tests); quantities = fit_of u.size size.1; bound = grind (arith, nat_tests) }, units_fit us both.1)

-- what is known of a valid job
pub record IsSound (j : JobRecord) : Type 0 where
  pub number : j.number < 256
  pub group : j.group < 32
  pub some : 1 ≤ length j.units
  pub few : length j.units ≤ 8
  pub units : list_all (is_valid_unit 8) j.units ≡ true

pub sound_of : (j : JobRecord) → is_valid_job 8 j ≡ true → IsSound j
sound_of j ok =
    let units = list_all (is_valid_unit 8) j.units in
    let a = both_true (nat_lt j.number 256) (nat_lt j.group 32 && (is_between 1 8 (length j.units) && units)) ok in
    let b = both_true (nat_lt j.group 32) (is_between 1 8 (length j.units) && units) a.1 in
    let c = both_true (is_between 1 8 (length j.units)) units b.1 in
    let d = both_true (not (nat_lt (length j.units) 1)) (not (nat_lt 8 (length j.units))) c.0 in
    let number = a.0 in
    let group = b.0 in
    let some = d.0 in
    let few = d.1 in
    record { number = grind (arith, nat_tests); group = grind (arith, nat_tests); some = grind (arith, nat_tests); few = grind (arith, nat_tests); units = c.1 }

pub job_back : (j : JobRecord) → is_valid_job 8 j ≡ true → job_in 2 (job_bytes j) ≡ j
job_back j ok =
    let s = sound_of j ok in
    (λ i. record { number = from_be_bytes-to_be_bytes_4 j.number (omega (arith, s.number)) i; group = from_be_bytes-to_be_bytes_4 j.group (omega (arith, s.group)) i; units = units_back j.units (units_fit j.units s.units) i })

pub job_long : (j : JobRecord) → is_valid_job 8 j ≡ true → length (job_bytes j) ≡ 9 + 69 * length j.units
job_long j ok = omega (arith, units_long j.units (units_fit j.units (sound_of j ok).units))

pub job_is : (j : JobRecord) → is_valid_job 8 j ≡ true → is_job 2 (job_bytes j) ≡ true
job_is j ok =
    let long = job_long j ok in
    and_true (nat_eq (length (job_bytes j)) (9 + 69 * length j.units)) (is_valid_job 8 (job_in 2 (job_bytes j))) (grind (arith, nat_tests)) (subst (λ (k : JobRecord). is_valid_job 8 k ≡ true) (sym (job_back j ok)) ok)
