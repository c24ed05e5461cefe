-- A disk in memory that makes the room for what is written.
use Rattle.std.specs.Prelude.{◌≡◌, ◌⊎◌, ℕ, Bool, true, false, List, Option, Some, None}
use Rattle.fuxi_io.specs.Disks.{Told, first_told}

-- what it tells, how many of its calls failed, how many more writes and syncs are served, where that is limited, and whether memory was refused for room
pub record Grown : Type 0 where
  pub told : Told
  pub faults : ℕ
  pub served : Option ℕ
  pub refused : Bool

-- one of these bytes on which nothing is pending
abbrev pub no_moments : List ℕ → Grown
no_moments bytes = record { told = first_told bytes; faults = 0; served = None; refused = false }

-- why a write or a sync may fail: memory was refused for its room, or no more are served
abbrev pub HasNoRoom : Grown → Grown → Type 0
HasNoRoom old new = (new.refused ≡ true) ⊎ (old.served ≡ Some 0)
