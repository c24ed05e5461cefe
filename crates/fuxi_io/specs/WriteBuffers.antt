-- Bytes that wait to be written to a sink.
use Rattle.std.specs.Prelude.{◌⊎◌, ℕ, List, ◌++◌, Option, Some, None}
use Rattle.fuxi_io.specs.Causes.{TakesPart}

-- what a sink took, with these bytes behind it
abbrev pub with_waiting : Option (List ℕ) → List ℕ → Option (List ℕ)
with_waiting None waiting = None
with_waiting (Some took) waiting = Some (took ++ waiting)

-- a sink took a part of what waited, or all of it and a part of the bytes behind
abbrev pub TakesWaiting : Option (List ℕ) → List ℕ → List ℕ → Option (List ℕ) → Type 0
TakesWaiting took waiting bytes after = TakesPart took after waiting ⊎ TakesPart (with_waiting took waiting) after bytes
