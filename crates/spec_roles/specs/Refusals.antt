-- Why an event is refused, each with the value that is printed with it.
use Rattle.std.specs.Prelude.{ℕ, ◌+◌, Bool, true, false, not, nat_eq, nat_lt, List, [], ◌∷◌, ◌++◌, length, Option, Some, None, Result, Err}
use Rattle.fuxi_terms.specs.Limits.{most_units}
use Rattle.fuxi_terms.specs.Vectors.{is_zero}
use Rattle.fuxi_terms.specs.Cluster.{JobRecord, UnitRecord, are_quantities, is_priority, is_most}

pub data Refusal : Type 0 where
  NotRunning : Refusal
  NotRising : (known : ℕ) → Refusal
  TooManyMasters : (most : ℕ) → Refusal
  HardFull : (most : ℕ) → Refusal
  Fenced : (fence : ℕ) → Refusal
  NoMachine : Refusal
  NoRack : Refusal
  NoGroup : Refusal
  NoJob : Refusal
  NoUnit : Refusal
  Known : Refusal
  Ended : Refusal
  AlreadyBanned : Refusal
  NotBanned : Refusal
  AlreadyServing : Refusal
  NotServing : Refusal
  NothingToPreempt : Refusal
  WantRange : (most : ℕ) → Refusal
  NotUsable : (usable : ℕ) → Refusal
  BackRange : Refusal
  NoPacket : (sent : ℕ) → Refusal
  NoUnits : Refusal
  TooManyUnits : Refusal
  Dimensions : (unit : ℕ) → Refusal
  PriorityRange : (unit : ℕ) → Refusal
  QuantityRange : (unit : ℕ) → Refusal
  ZeroSize : (unit : ℕ) → Refusal
  MostRange : (unit : ℕ) → Refusal

-- the first refusal whose test is true
abbrev pub first_refusal : List (Bool × Refusal) → Option Refusal
first_refusal [] = None
first_refusal (t ∷ ts) = elim t.0 [ true ↦ Some t.1 | false ↦ first_refusal ts ]

-- the first refusal of these tests, else what comes without one
abbrev pub unless_fault : {A : Type 0} → List (Bool × Refusal) → Result A Refusal → Result A Refusal
unless_fault tests r = elim (first_refusal tests) [ None ↦ r | Some f ↦ Err f ]

-- with the value, where there is one
abbrev pub with_found : {A B : Type 0} → Option A → B → (A → B) → B
with_found None b f = b
with_found (Some x) b f = f x

-- the faults of a unit in their order: as many quantities as resources, the priority, each quantity, not all 0, and the greatest number per
-- machine
abbrev pub unit_tests : ℕ → ℕ → UnitRecord → List (Bool × Refusal)
unit_tests resources u r =
    (not (nat_eq (length r.size) resources), Dimensions u) ∷ (not (is_priority r.priority), PriorityRange u)
    ∷ (not (are_quantities r.size), QuantityRange u) ∷ (is_zero r.size, ZeroSize u) ∷ (not (is_most r.most), MostRange u) ∷ []

abbrev pub units_tests : ℕ → ℕ → List UnitRecord → List (Bool × Refusal)
units_tests resources u [] = []
units_tests resources u (r ∷ rs) = unit_tests resources u r ++ units_tests resources (u + 1) rs

abbrev pub job_tests : ℕ → JobRecord → List (Bool × Refusal)
job_tests resources j = (nat_eq (length j.units) 0, NoUnits) ∷ (nat_lt most_units (length j.units), TooManyUnits) ∷ units_tests resources 0 j.units
