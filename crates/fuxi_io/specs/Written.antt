-- Pieces that are written one after another.
use Rattle.std.specs.Prelude.{◌≡◌, ℕ, List, ◌++◌, Option}
use Rattle.std.specs.Io.KnownBytes.{Appends}

-- what is written of all, and what is left
pub record Written (all rest : List ℕ) (before now : Option (List ℕ)) : Type 0 where
  pub front : List ℕ
  pub writes : Appends before now front
  pub whole : front ++ rest ≡ all
