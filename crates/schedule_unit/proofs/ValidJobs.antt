-- What is asked without a fault is within the limits.
use Rattle.std.proofs.Common.{◌≡◌, ℕ, zero, suc, ◌+◌, ◌-◌, ◌<◌, ◌≤◌, Bool, true, false, not, nat_eq, nat_lt, cond, ◌&&◌, List, [], ◌∷◌, ◌++◌, length, map, replicate, get_or, Option, Some, None, refl, sym, ap, subst, ◌∙◌, arith}
use Rattle.std.specs.List.{list_all}
use Rattle.std.specs.Option.{option_or}
use Rattle.std.proofs.lemmas.List.{length-map}
use Rattle.std.proofs.lemmas.Bool.{and_parts, and_from, not-false, not_from_false, eq-eqb, eqb-true, eqb-false, lt-ltb, le-ltb}
use Rattle.fuxi_terms.specs.Vectors.{is_zero}
use Rattle.fuxi_terms.specs.Cluster.{UnitRecord, are_quantities, is_between, is_most, is_priority, is_size, is_valid_job, is_valid_unit, is_vector_of}
use Rattle.fuxi_terms.specs.Padded.{padded}
use Rattle.fuxi_terms.proofs.VectorLaws.{length-padded, quantities-padded}
use Rattle.schedule_unit.specs.declared.asks.Ask.{Ask}
use Rattle.schedule_unit.specs.declared.job.JobFault.{JobFault}
use Rattle.schedule_unit.specs.declared.job.JobFault.TheVariants.{Dimensions, PriorityRange, QuantityRange, ZeroSize, MostRange}
use Rattle.schedule_unit.specs.declared.job.Unit.{Unit as JobUnit}
use Rattle.schedule_unit.specs.JobFaults.{unit_no, unit_fault, first_unit_fault, unit_asked, job_asked}
use Rattle.schedule_unit.specs.Units.{unit_record}

-- where no fault is found, its test did not hold, and the later ones found none
passed : (b : Bool) (fault : JobFault) (rest : Option JobFault) → cond b (Some fault) rest ≡ None → (b ≡ false) × (rest ≡ None)
passed true fault rest h = absurd (let e : ⊥ = cc in e)
passed false fault rest h = (refl, h)

both_none : (a b : Option JobFault) → option_or a b ≡ None → (a ≡ None) × (b ≡ None)
both_none None b h = (refl, h)
both_none (Some x) b h = absurd (let e : ⊥ = cc in e)

zero-behind : (qs : List ℕ) (n : ℕ) → is_zero (qs ++ replicate n 0) ≡ is_zero qs
zero-behind [] zero = refl
zero-behind [] (suc n) = zero-behind [] n
zero-behind (q ∷ qs) n = ap (λ b. nat_eq q 0 && b) (zero-behind qs n)

pub valid_unit : (resources u : ℕ) (ask : Ask) → resources ≤ 8 → unit_fault resources u ask ≡ None → is_valid_unit 8 (unit_asked ask) ≡ true
valid_unit resources u ask r h =
    let qs = ask.quantities in
    let bound = cond (not (is_most ask.most)) (Some (MostRange (unit_no u))) None in
    let last = cond (is_zero qs) (Some (ZeroSize (unit_no u))) bound in
    let third = cond (not (are_quantities qs)) (Some (QuantityRange (unit_no u))) last in
    let second = cond (not (is_priority ask.priority)) (Some (PriorityRange (unit_no u))) third in
    let a = passed (not (nat_eq (length qs) resources)) (Dimensions (unit_no u)) second h in
    let b = passed (not (is_priority ask.priority)) (PriorityRange (unit_no u)) third a.1 in
    let d = passed (not (are_quantities qs)) (QuantityRange (unit_no u)) last b.1 in
    let e = passed (is_zero qs) (ZeroSize (unit_no u)) bound d.1 in
    let f = passed (not (is_most ask.most)) (MostRange (unit_no u)) None e.1 in
    let l : length qs ≡ resources = eqb-true (length qs) resources (not-false (nat_eq (length qs) resources) a.0) in
    and_from (is_priority ask.priority) (is_size 8 (padded qs) && is_most ask.most) (not-false (is_priority ask.priority) b.0)
    (and_from (is_size 8 (padded qs)) (is_most ask.most)
    (and_from (is_vector_of 8 (padded qs)) (not (is_zero (padded qs)))
    (and_from (nat_eq (length (padded qs)) 8) (are_quantities (padded qs))
    (eq-eqb (length (padded qs)) 8 (length-padded qs (omega arith)))
    (quantities-padded qs ∙ not-false (are_quantities qs) d.0))
    (not_from_false (is_zero (padded qs)) (zero-behind qs (8 - length qs) ∙ e.0)))
    (not-false (is_most ask.most) f.0))

pub valid_units : (resources u : ℕ) (asks : List Ask) → resources ≤ 8 → first_unit_fault resources u asks ≡ None → list_all (is_valid_unit 8) (map unit_asked asks) ≡ true
valid_units resources u [] r h = refl
valid_units resources u (ask ∷ asks) r h =
    let b = both_none (unit_fault resources u ask) (first_unit_fault resources (u + 1) asks) h in
    and_from (is_valid_unit 8 (unit_asked ask)) (list_all (is_valid_unit 8) (map unit_asked asks)) (valid_unit resources u ask r b.0) (valid_units resources (u + 1) asks r b.1)

pub valid_job : (number group resources : ℕ) (asks : List Ask) → number < 256 → group < 32 → resources ≤ 8 → 1 ≤ length asks → length asks ≤ 8 → first_unit_fault resources 0 asks ≡ None → is_valid_job 8 (job_asked number group asks) ≡ true
valid_job number group resources asks n g r least most h =
    let us = map unit_asked asks in
    let l : length us ≡ length asks = length-map asks unit_asked in
    and_from (nat_lt number 256) (nat_lt group 32 && (is_between 1 8 (length us) && list_all (is_valid_unit 8) us)) (lt-ltb number 256 n)
    (and_from (nat_lt group 32) (is_between 1 8 (length us) && list_all (is_valid_unit 8) us) (lt-ltb group 32 g)
    (and_from (is_between 1 8 (length us)) (list_all (is_valid_unit 8) us)
    (and_from (not (nat_lt (length us) 1)) (not (nat_lt 8 (length us)))
    (not_from_false (nat_lt (length us) 1) (le-ltb (length us) 1 (omega arith)))
    (not_from_false (nat_lt 8 (length us)) (le-ltb 8 (length us) (omega arith))))
    (valid_units resources 0 asks r h)))

-- the same of the units as they were made
pub valid_made : (number group resources : ℕ) (asks : List Ask) (us : List UnitRecord) → number < 256 → group < 32 → resources ≤ 8 → nat_eq (length asks) 0 ≡ false → length asks ≤ 8 → first_unit_fault resources 0 asks ≡ None → us ≡ map unit_asked asks → is_valid_job 8 (record { number = number; group = group; units = us }) ≡ true
valid_made number group resources asks us n g r least most h e =
    let some = eqb-false (length asks) 0 least in
    subst (λ (vs : List UnitRecord). is_valid_job 8 (record { number = number; group = group; units = vs }) ≡ true) (sym e) (valid_job number group resources asks n g r (omega (arith, some)) most h)

valid_at : (us : List JobUnit) (i : ℕ) (u : JobUnit) → list_all (is_valid_unit 8) (map unit_record us) ≡ true → i < length us → u ≡ get_or us i u → is_valid_unit 8 (unit_record u) ≡ true
valid_at [] i u h l e = absurd (let f : ⊥ = omega arith in f)
valid_at (v ∷ us) zero u h l e = ap (λ w. is_valid_unit 8 (unit_record w)) e ∙ (and_parts (is_valid_unit 8 (unit_record v)) (list_all (is_valid_unit 8) (map unit_record us)) h).0
valid_at (v ∷ us) (suc i) u h l e = valid_at us i u (and_parts (is_valid_unit 8 (unit_record v)) (list_all (is_valid_unit 8) (map unit_record us)) h).1 (omega arith) e

-- each unit of a valid job is valid
pub valid_unit_of : (number group : ℕ) (us : List JobUnit) (i : ℕ) (u : JobUnit) → is_valid_job 8 (record { number = number; group = group; units = map unit_record us }) ≡ true → i < length us → u ≡ get_or us i u → is_valid_unit 8 (unit_record u) ≡ true
valid_unit_of number group us i u h l e =
    let n = map unit_record us in
    let a = and_parts (nat_lt number 256) (nat_lt group 32 && (is_between 1 8 (length n) && list_all (is_valid_unit 8) n)) h in
    let b = and_parts (nat_lt group 32) (is_between 1 8 (length n) && list_all (is_valid_unit 8) n) a.1 in
    valid_at us i u (and_parts (is_between 1 8 (length n)) (list_all (is_valid_unit 8) n) b.1).1 l e
