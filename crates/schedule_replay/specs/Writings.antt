-- What is left of a writing to a checkpoint that stops.
use Rattle.std.specs.Prelude.{◌≡◌, ℕ, Bool, ◌&&◌, ◌||◌, cond, nat_eq, List, Result, Ok, Err}
use Rattle.fuxi_io.specs.Disks.{Moment, IsImage}
use Rattle.spec_roles.specs.HardState.{HardState}
use Rattle.spec_roles.specs.Refusals.{Refusal}
use Rattle.hard_state.specs.HardFiles.{records_of}

-- Of the four calls of the disk that a writing makes, the last one makes its record count, and the third where all that was written is left.
abbrev pub counts_after : ℕ → Bool → Bool
counts_after calls all = nat_eq calls 4 || (nat_eq calls 3 && all)

-- what is left is the value after the step where the record counts, and else the value before it
abbrev pub IsLeft : Result HardState Refusal → HardState → Bool → HardState → Type 0
IsLeft (Ok after) before counts left = left ≡ cond counts after before
IsLeft (Err refusal) before counts left = ⊥

-- a crash at this moment may leave a file that stands for the value
abbrev pub MayLeave : Moment → HardState → Type 0
MayLeave moment value = (file : List ℕ) × IsImage moment file × (records_of file ≡ Ok value)
