-- What reading a written form gives: the value whose form the bytes are, or the answer that they are none.
use Rattle.std.specs.Prelude.{◌≡◌, ℕ, List, Result, Ok, Err}
use Rattle.ledger_law.specs.declared.ledger.BodyFault.{BodyFault}
use Rattle.ledger_law.specs.declared.ledger.BodyFault.TheVariants.{NotBody, OutOfMemory}

abbrev pub Reads : {V : Type 0} → (V → Type 0) → (V → List ℕ) → List ℕ → Result V BodyFault → Type 0
Reads has_form form bytes (Ok value) = has_form value × (bytes ≡ form value)
Reads {V} has_form form bytes (Err NotBody) = (value : V) → has_form value → bytes ≡ form value → ⊥
Reads has_form form bytes (Err OutOfMemory) = Unit {0}

-- a refusal, from what no form is
pub refused : {V : Type 0} (has_form : V → Type 0) (form : V → List ℕ) (bytes : List ℕ) (fault : BodyFault) → (fault ≡ NotBody → (value : V) → has_form value → bytes ≡ form value → ⊥) → Reads has_form form bytes (Err fault)
refused has_form form bytes NotBody none = none (λ i. NotBody)
refused has_form form bytes OutOfMemory none = tt
