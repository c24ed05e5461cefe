-- The tests of a cluster line, in order: the first that fails is the fault.
use Rattle.std.specs.Prelude.{◌≡◌, Bool, true, false, Option, Some, None, Result, Ok, Err}
use Rattle.cluster_desc.specs.declared.fault.ClusterFault.{ClusterFault}
use Rattle.cluster_desc.specs.declared.fault.ClusterFault.TheVariants.{NotJson, WrongKind, UnknownKey, MissingKey, Count, LengthDiffers, QuantityRange, QuotaOverLimit, OutOfMemory}

-- the next test is made where this one holds
infixl 10 ◌>>=◌
abbrev pub ◌>>=◌ : {A B : Type 0} → Result A ClusterFault → (A → Result B ClusterFault) → Result B ClusterFault
Ok a >>= f = f a
Err fault >>= f = Err fault

-- one that must hold
abbrev pub holds : Bool → ClusterFault → Result (Unit {0}) ClusterFault
holds true fault = Ok tt
holds false fault = Err fault

-- one that must give a value
abbrev pub given : {A : Type 0} → Option A → ClusterFault → Result A ClusterFault
given (Some a) fault = Ok a
given None fault = Err fault

-- the fault is that of the outcome; want of memory may come at any time
abbrev pub IsFault : {A : Type 0} → Result A ClusterFault → ClusterFault → Type 0
IsFault outcome NotJson = outcome ≡ Err NotJson
IsFault outcome (WrongKind key) = outcome ≡ Err (WrongKind key)
IsFault outcome UnknownKey = outcome ≡ Err UnknownKey
IsFault outcome (MissingKey key) = outcome ≡ Err (MissingKey key)
IsFault outcome (Count key) = outcome ≡ Err (Count key)
IsFault outcome LengthDiffers = outcome ≡ Err LengthDiffers
IsFault outcome QuantityRange = outcome ≡ Err QuantityRange
IsFault outcome (QuotaOverLimit group) = outcome ≡ Err (QuotaOverLimit group)
IsFault outcome OutOfMemory = Unit {0}
