-- A job is made of what was read exactly where that is a valid job.
use Rattle.std.proofs.Common.{◌≡◌, ◌≢◌, ℕ, ◌+◌, ◌-◌, ◌*◌, Bool, true, false, not, cond, nat_eq, nat_lt, List, [], ◌∷◌, ◌++◌, length, drop, slice_index, map, replicate, Option, None, Some, Ok, Err, refl, sym, ◌∙◌, ap, subst, arith, append-nil}
use Rattle.std.proofs.lemmas.List.{length-map}
use Rattle.std.proofs.lemmas.Bool.Decides.{nat_tests}
use Rattle.std.specs.Prelude.{◌&&◌}
use Rattle.std.specs.Int.{from_be_bytes, w32}
use Rattle.std.specs.Bool.{if◌then◌else◌}
use Rattle.std.specs.Option.{option_or}
use Rattle.std.specs.List.{list_all}
use Rattle.fuxi_terms.specs.Cluster.{JobRecord, is_valid_job, is_valid_unit, are_quantities, is_priority, is_size, is_most, is_vector_of}
use Rattle.fuxi_terms.specs.Vectors.{is_zero}
use Rattle.fuxi_terms.proofs.Booleans.{both_true}
use Rattle.schedule_unit.specs.declared.asks.Ask.{Ask}
use Rattle.schedule_unit.specs.declared.job.JobFault.{JobFault}
use Rattle.schedule_unit.specs.declared.job.JobFault.TheVariants.{NoUnits, TooManyUnits, Dimensions, PriorityRange, QuantityRange, ZeroSize, MostRange, OutOfMemory}
use Rattle.schedule_unit.specs.JobFaults.{unit_no, unit_fault, first_unit_fault, job_fault, unit_asked, IsFault, IsMade}
use Rattle.hard_state.specs.UnitRecords.{unit_of}
use Rattle.hard_state.specs.RecordBodies.{unit_size, units_in, job_in, job_found}
use Rattle.hard_state.proofs.Back.{sound_of}

neither : (a b : Option JobFault) → option_or a b ≡ None → (a ≡ None) × (b ≡ None)
neither None b is = (refl, is)
neither (Some x) b is = absurd (cc)

-- with no fault a unit has eight quantities, so that nothing is added to it
eight : (u : ℕ) (ask : Ask) → unit_fault 8 u ask ≡ None → length ask.quantities ≡ 8
eight u ask none = go (nat_eq (length ask.quantities) 8) refl none
  where
    others : Option JobFault
    others = if not (is_priority ask.priority) then Some (PriorityRange (unit_no u)) else (if not (are_quantities ask.quantities) then Some (QuantityRange (unit_no u)) else (if is_zero ask.quantities then Some (ZeroSize (unit_no u)) else (if not (is_most ask.most) then Some (MostRange (unit_no u)) else None)))

    go : (b : Bool) → nat_eq (length ask.quantities) 8 ≡ b → (if not b then Some (Dimensions (unit_no u)) else others) ≡ None → length ask.quantities ≡ 8
    go true is none = grind (arith, nat_tests)
    go false is none = absurd (cc)

unit_same : (ask : Ask) → length ask.quantities ≡ 8 → unit_asked ask ≡ unit_of ask
unit_same ask long =
    let nothing : 8 - length ask.quantities ≡ 0 = omega (arith, long) in
    (λ i. record { priority = ask.priority; size = (ap (λ n. ask.quantities ++ replicate n 0) nothing ∙ append-nil ask.quantities) i; most = ask.most })

units_same : (u : ℕ) (asks : List Ask) → first_unit_fault 8 u asks ≡ None → map unit_asked asks ≡ map unit_of asks
units_same u [] none = refl
units_same u (ask ∷ asks) none =
    let both = neither (unit_fault 8 u ask) (first_unit_fault 8 (u + 1) asks) none in
    (λ i. unit_same ask (eight u ask both.0) i ∷ units_same (u + 1) asks both.1 i)

no_unit_fault : (asks : List Ask) → job_fault 8 asks ≡ None → first_unit_fault 8 0 asks ≡ None
no_unit_fault asks none = go (nat_eq (length asks) 0) (nat_lt 8 (length asks)) none
  where
    go : (a b : Bool) → (if a then Some NoUnits else (if b then Some TooManyUnits else first_unit_fault 8 0 asks)) ≡ None → first_unit_fault 8 0 asks ≡ None
    go true b is = absurd (cc)
    go false true is = absurd (cc)
    go false false is = is

abbrev pub job_of : ℕ → ℕ → List Ask → JobRecord
job_of number group asks = record { number = number; group = group; units = map unit_of asks }

made_is : (number group : ℕ) (asks : List Ask) (job : JobRecord) → IsMade number group 8 asks (Ok job) → job ≡ job_of number group asks
made_is number group asks job made = made.1 ∙ ap (λ us. record { number = number; group = group; units = us }) (units_same 0 asks (no_unit_fault asks made.0))

-- a valid job has no fault
unit_valid : (u : ℕ) (ask : Ask) → is_valid_unit 8 (unit_of ask) ≡ true → unit_fault 8 u ask ≡ None
unit_valid u ask ok =
    let unit = both_true (is_priority ask.priority) (is_size 8 ask.quantities && is_most ask.most) ok in
    let parts = both_true (is_size 8 ask.quantities) (is_most ask.most) unit.1 in
    let vector = both_true (is_vector_of 8 ask.quantities) (not (is_zero ask.quantities)) parts.0 in
    let size = both_true (nat_eq (length ask.quantities) 8) (are_quantities ask.quantities) vector.0 in
    go (nat_eq (length ask.quantities) 8) (is_priority ask.priority) (are_quantities ask.quantities) (is_zero ask.quantities) (is_most ask.most) size.0 unit.0 size.1 vector.1 parts.1
  where
    go : (a b c d e : Bool) → a ≡ true → b ≡ true → c ≡ true → not d ≡ true → e ≡ true
        → (if not a then Some (Dimensions (unit_no u)) else (if not b then Some (PriorityRange (unit_no u)) else (if not c then Some (QuantityRange (unit_no u)) else (if d then Some (ZeroSize (unit_no u)) else (if not e then Some (MostRange (unit_no u)) else None))))) ≡ None
    go true true true false true a b c d e = refl
    go true true true false false a b c d e = absurd (cc)
    go true true true true w a b c d e = absurd (cc)
    go true true false z w a b c d e = absurd (cc)
    go true false y z w a b c d e = absurd (cc)
    go false x y z w a b c d e = absurd (cc)

units_valid : (u : ℕ) (asks : List Ask) → list_all (is_valid_unit 8) (map unit_of asks) ≡ true → first_unit_fault 8 u asks ≡ None
units_valid u [] ok = refl
units_valid u (ask ∷ asks) ok =
    let both = both_true (is_valid_unit 8 (unit_of ask)) (list_all (is_valid_unit 8) (map unit_of asks)) ok in
    ap (λ o. option_or o (first_unit_fault 8 (u + 1) asks)) (unit_valid u ask both.0) ∙ units_valid (u + 1) asks both.1

job_valid : (number group : ℕ) (asks : List Ask) → is_valid_job 8 (job_of number group asks) ≡ true → job_fault 8 asks ≡ None
job_valid number group asks ok =
    let s = sound_of (job_of number group asks) ok in
    let long = length-map asks unit_of in
    let some = s.some in
    let few = s.few in
    let not_none : nat_eq (length asks) 0 ≡ false = grind (arith, nat_tests) in
    let not_many : nat_lt 8 (length asks) ≡ false = grind (arith, nat_tests) in
    ap (λ (p : Bool × Bool). if p.0 then Some NoUnits else (if p.1 then Some TooManyUnits else first_unit_fault 8 0 asks)) (λ i. (not_none i, not_many i)) ∙ units_valid 0 asks s.units

-- what was read of the bytes of a job
pub record IsReadOf (version : ℕ) (bytes : List ℕ) (number group : ℕ) (asks : List Ask) : Type 0 where
  pub long : length bytes ≡ 9 + unit_size version * slice_index bytes 8
  pub number_is : number ≡ from_be_bytes w32 bytes
  pub group_is : group ≡ from_be_bytes w32 (drop 4 bytes)
  pub units_are : map unit_of asks ≡ units_in version (slice_index bytes 8) (drop 9 bytes)

-- its parts, as they are read one after another
pub was_read : (version : ℕ) (bytes : List ℕ) (number group size : ℕ) (asks given : List Ask) → length bytes ≡ 9 + size * slice_index bytes 8 → size ≡ unit_size version → number ≡ from_be_bytes w32 bytes → group ≡ from_be_bytes w32 (drop 4 bytes)
    → asks ≡ given → map unit_of given ≡ units_in version (slice_index bytes 8) (drop 9 bytes) → IsReadOf version bytes number group asks
was_read version bytes number group size asks given long size_is number_is group_is same units = record {
  long = long ∙ ap (λ k. 9 + k * slice_index bytes 8) size_is;
  number_is = number_is;
  group_is = group_is;
  units_are = ap (map unit_of) same ∙ units;
}

module _ (version : ℕ) (bytes : List ℕ) (number group : ℕ) (asks : List Ask) (read : IsReadOf version bytes number group asks) where
  job_same : job_of number group asks ≡ job_in version bytes
  job_same = (λ i. record { number = read.number_is i; group = read.group_is i; units = read.units_are i })

  found : (b : Bool) → is_valid_job 8 (job_in version bytes) ≡ b → job_found version bytes ≡ cond b (Some (job_in version bytes)) None
  found b is =
      let long = read.long in
      let length_is : nat_eq (length bytes) (9 + unit_size version * slice_index bytes 8) ≡ true = grind (arith, nat_tests) in
      ap (λ (p : Bool × Bool). cond (p.0 && p.1) (Some (job_in version bytes)) None) (λ i. (length_is i, is i))

  pub job_was_made : (job : JobRecord) → IsMade number group 8 asks (Ok job) → is_valid_job 8 job ≡ true → Some job ≡ job_found version bytes
  job_was_made job made valid =
      let same : job ≡ job_in version bytes = made_is number group asks job made ∙ job_same in
      ap Some same ∙ sym (found true (subst (λ (j : JobRecord). is_valid_job 8 j ≡ true) same valid))

  pub job_was_refused : (fault : JobFault) → fault ≢ OutOfMemory → IsMade number group 8 asks (Err fault) → None ≡ job_found version bytes
  job_was_refused fault other is = sym (found false (go (is_valid_job 8 (job_in version bytes)) refl))
    where
      no_fault : (f : JobFault) → f ≢ OutOfMemory → IsFault None f → ⊥
      no_fault NoUnits other is = cc
      no_fault TooManyUnits other is = cc
      no_fault (Dimensions u) other is = cc
      no_fault (PriorityRange u) other is = cc
      no_fault (QuantityRange u) other is = cc
      no_fault (ZeroSize u) other is = cc
      no_fault (MostRange u) other is = cc
      no_fault OutOfMemory other is = other refl

      go : (b : Bool) → is_valid_job 8 (job_in version bytes) ≡ b → b ≡ false
      go false valid = refl
      go true valid = absurd (no_fault fault other (subst (λ o. IsFault o fault) (job_valid number group asks (subst (λ (j : JobRecord). is_valid_job 8 j ≡ true) (sym job_same) valid)) is))
