-- What a storm writes.
use Rattle.std.specs.Prelude.{◌≡◌, ℕ, List, Option, Ok}
use Rattle.fuxi_io.specs.Causes.{TakesPart}
use Rattle.storm_run.specs.Summaries.{storm_of}

-- this is its text
abbrev pub IsStorm : ℕ → ℕ → List ℕ → Type 0
IsStorm seed steps text = storm_of seed steps ≡ Ok text

-- a part of such a text was appended, from its front
abbrev pub WritesPart : (List ℕ → Type 0) → Option (List ℕ) → Option (List ℕ) → Type 0
WritesPart IsKind before after = (text : List ℕ) × IsKind text × TakesPart before after text
