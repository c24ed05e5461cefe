-- What is asked for a job, tested by the code and by the definitions.
use Rattle.std.proofs.Common.{◌≡◌, ℕ, ◌+◌, Bool, true, false, not, nat_eq, nat_lt, List, [], ◌∷◌, length, map, Option, Some, None, refl, ◌∙◌, ap}
use Rattle.std.specs.Prelude.{if◌then◌else◌}
use Rattle.std.specs.Option.{option_or}
use Rattle.std.proofs.lemmas.List.{length-map}
use Rattle.fuxi_terms.specs.Vectors.{is_zero}
use Rattle.fuxi_terms.specs.Cluster.{UnitRecord, are_quantities, is_priority, is_most}
use Rattle.fuxi_terms.specs.Padded.{padded}
use Rattle.fuxi_terms.specs.Limits.{most_units}
use Rattle.schedule_unit.specs.declared.asks.Ask.{Ask}
use Rattle.schedule_unit.specs.declared.job.JobFault.{JobFault}
use Rattle.schedule_unit.specs.declared.job.JobFault.TheVariants as fault
use Rattle.schedule_unit.specs.JobFaults.{IsFault, first_unit_fault, job_fault, unit_asked, unit_no}
use Rattle.spec_roles.specs.Refusals.{Refusal, NoUnits, TooManyUnits, Dimensions, PriorityRange, QuantityRange, ZeroSize, MostRange, first_refusal, job_tests, units_tests}
use Rattle.schedule_text.specs.declared.refusal.Refusal.{Refusal as CodeRefusal}
use Rattle.schedule_text.specs.Printing.{as_refusal}
use Rattle.schedule_text.specs.Asked.{AreTestedAlike, job_named, job_refusal, unit_named}

-- the refusal that a fault is
abbrev asked : Option JobFault → Option Refusal
asked None = None
asked (Some fault.NoUnits) = Some NoUnits
asked (Some fault.TooManyUnits) = Some TooManyUnits
asked (Some (fault.Dimensions u)) = Some (Dimensions u.0)
asked (Some (fault.PriorityRange u)) = Some (PriorityRange u.0)
asked (Some (fault.QuantityRange u)) = Some (QuantityRange u.0)
asked (Some (fault.ZeroSize u)) = Some (ZeroSize u.0)
asked (Some (fault.MostRange u)) = Some (MostRange u.0)
asked (Some fault.OutOfMemory) = None

-- the tests of one unit in front of those of the others
one_alike : (a b c d e : Bool) (u : ℕ) (ts : List (Bool × Refusal)) (o : Option JobFault) → first_refusal ts ≡ asked o
    → first_refusal ((a, Dimensions u) ∷ (b, PriorityRange u) ∷ (c, QuantityRange u) ∷ (d, ZeroSize u) ∷ (e, MostRange u) ∷ ts)
    ≡ asked (option_or (if a then Some (fault.Dimensions (unit_no u)) else (if b then Some (fault.PriorityRange (unit_no u)) else (if c then Some (fault.QuantityRange (unit_no u)) else (if d then Some (fault.ZeroSize (unit_no u)) else (if e then Some (fault.MostRange (unit_no u)) else None))))) o)
one_alike true b c d e u ts o same = refl
one_alike false true c d e u ts o same = refl
one_alike false false true d e u ts o same = refl
one_alike false false false true e u ts o same = refl
one_alike false false false false true u ts o same = refl
one_alike false false false false false u ts o same = same

units_alike : (resources u : ℕ) (asks : List Ask) → first_refusal (units_tests resources u (map unit_named asks)) ≡ asked (first_unit_fault resources u asks)
units_alike resources u [] = refl
units_alike resources u (ask ∷ asks) =
    one_alike (not (nat_eq (length ask.quantities) resources)) (not (is_priority ask.priority)) (not (are_quantities ask.quantities)) (is_zero ask.quantities) (not (is_most ask.most)) u (units_tests resources (u + 1) (map unit_named asks)) (first_unit_fault resources (u + 1) asks)
    (units_alike resources (u + 1) asks)

all_alike : (a b : Bool) (ts : List (Bool × Refusal)) (o : Option JobFault) → first_refusal ts ≡ asked o
    → first_refusal ((a, NoUnits) ∷ (b, TooManyUnits) ∷ ts) ≡ asked (if a then Some fault.NoUnits else (if b then Some fault.TooManyUnits else o))
all_alike true b ts o same = refl
all_alike false true ts o same = refl
all_alike false false ts o same = same

-- both find the same first fault
job_alike : (resources a g : ℕ) (asks : List Ask) → first_refusal (job_tests resources (job_named a g asks)) ≡ asked (job_fault resources asks)
job_alike resources a g asks =
    ap (λ n. first_refusal ((nat_eq n 0, NoUnits) ∷ (nat_lt most_units n, TooManyUnits) ∷ units_tests resources 0 (map unit_named asks))) (length-map asks unit_named)
    ∙ all_alike (nat_eq (length asks) 0) (nat_lt most_units (length asks)) (units_tests resources 0 (map unit_named asks)) (first_unit_fault resources 0 asks) (units_alike resources 0 asks)

-- the job that is made has its sizes in eight places
units_same : (asks : List Ask) → map unit_asked asks ≡ map (λ (u : UnitRecord). record u { size = padded u.size }) (map unit_named asks)
units_same [] = refl
units_same (ask ∷ asks) = ap (λ us. unit_asked ask ∷ us) (units_same asks)

-- a fault that is answered is the refusal of the tests
fault_refused : (resources a g : ℕ) (asks : List Ask) (f : JobFault) (r : Refusal) → asked (Some f) ≡ Some r → IsFault (job_fault resources asks) f → first_refusal (job_tests resources (job_named a g asks)) ≡ Some r
fault_refused resources a g asks f r is first = job_alike resources a g asks ∙ by f is first
  where
    by : (f : JobFault) → asked (Some f) ≡ Some r → IsFault (job_fault resources asks) f → asked (job_fault resources asks) ≡ Some r
    by fault.NoUnits is first = ap asked first ∙ is
    by fault.TooManyUnits is first = ap asked first ∙ is
    by (fault.Dimensions u) is first = ap asked first ∙ is
    by (fault.PriorityRange u) is first = ap asked first ∙ is
    by (fault.QuantityRange u) is first = ap asked first ∙ is
    by (fault.ZeroSize u) is first = ap asked first ∙ is
    by (fault.MostRange u) is first = ap asked first ∙ is
    by fault.OutOfMemory is first = cc

-- the refusal of the code is that of the definitions
abbrev as_asked : Option CodeRefusal → Option Refusal
as_asked None = None
as_asked (Some r) = Some (as_refusal r)

job_refused : (f : JobFault) (r : CodeRefusal) → job_refusal f ≡ Some r → asked (Some f) ≡ Some (as_refusal r)
job_refused fault.NoUnits r is = ap as_asked is
job_refused fault.TooManyUnits r is = ap as_asked is
job_refused (fault.Dimensions u) r is = ap as_asked is
job_refused (fault.PriorityRange u) r is = ap as_asked is
job_refused (fault.QuantityRange u) r is = ap as_asked is
job_refused (fault.ZeroSize u) r is = ap as_asked is
job_refused (fault.MostRange u) r is = ap as_asked is
job_refused fault.OutOfMemory r is = cc

pub tested_alike : AreTestedAlike
tested_alike = record {
  refused = λ resources a g asks f r first is. fault_refused resources a g asks f (as_refusal r) (job_refused f r is) first;
  passed = λ resources a g asks none. job_alike resources a g asks ∙ ap asked none;
  made = λ a g asks i. record { number = a; group = g; units = units_same asks i };
}
