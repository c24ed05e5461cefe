-- The words of a desk's command line.
use Rattle.std.specs.Prelude.{◌≡◌, ◌≢◌, ◌⊎◌, List, drop, Result, Ok, Err}
use Rattle.std.specs.Vec.Iter.{into_iter_items}
use Rattle.std.specs.declared.vec.IntoIter.{IntoIter}
use Rattle.std.specs.IoError.{error_kind}
use Rattle.std.specs.declared.io.Error.{Error}
use Rattle.std.specs.declared.io.ErrorKind.{ErrorKind}
use Rattle.std.specs.declared.io.ErrorKind.TheVariants.{OutOfMemory as NoMemory}
use Rattle.fuxi_io.specs.declared.status.Status.{Status}
use Rattle.fuxi_io.specs.declared.status.Status.TheVariants.{Usage, OutOfMemory}

-- the words are the arguments behind the program's name
abbrev pub HasDeskWords : {X Z : Type 0} → Result (IntoIter X Z) Error → List X → Type 0
HasDeskWords (Ok args) words = words ≡ drop 1 (into_iter_items args)
HasDeskWords (Err error) words = ⊥

-- what arguments that cannot be read mean: memory was refused, or a word is no text, and a desk takes none
abbrev pub NoDeskWords : ErrorKind → Status → Type 0
NoDeskWords kind status = ((kind ≡ NoMemory) × (status ≡ OutOfMemory)) ⊎ ((kind ≢ NoMemory) × (status ≡ Usage))

-- why there are no words
abbrev pub WhyNoDeskWords : {X Z : Type 0} → Result (IntoIter X Z) Error → Status → Type 0
WhyNoDeskWords (Ok args) status = status ≡ OutOfMemory
WhyNoDeskWords (Err error) status = NoDeskWords (error_kind error) status
