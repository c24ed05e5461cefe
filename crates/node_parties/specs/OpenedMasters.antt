-- How a master of a node starts: the checkpoint is opened, and its fence raised to the epoch.
use Rattle.std.specs.Prelude.{◌≡◌, ◌⊎◌, ℕ, List, Ok}
use Rattle.fuxi_io.specs.Disks.{Told, LeavesAlways}
use Rattle.spec_roles.specs.HardState.{HardState, Raise, hard_step}
use Rattle.hard_state.specs.HardFiles.{Kept, records_of, IsAtRest, IsBeforeOrAfter, IsDamagedAt, Refuses, Settles}
use Rattle.hard_state.specs.declared.fault.HardFault.{HardFault}
use Rattle.hard_state.specs.declared.fault.HardFault.TheVariants.{Stale, Full, NotCheckpoint, DiskFault, OutOfMemory}

-- the hard state of some checkpoint with the fence at the epoch
pub record IsRaised (epoch : ℕ) (after : HardState) : Type 0 where
  pub before : HardState
  pub step : hard_step before epoch Raise ≡ Ok after

-- it is that of the file that was opened, and for it the file now stands
pub record StartsFrom (epoch : ℕ) (k : Kept) (old new : Told) : Type 0 where
  pub before : HardState
  pub reads : records_of old.now.bytes ≡ Ok before
  pub step : hard_step before epoch Raise ≡ Ok k.value
  pub rest : IsAtRest k new.now

-- the file stands for a hard state that refuses the epoch
pub record RefusesStart (epoch : ℕ) (fault : HardFault) (old new : Told) : Type 0 where
  pub before : HardState
  pub reads : records_of old.now.bytes ≡ Ok before
  pub refuses : Refuses (hard_step before epoch Raise) fault

-- Why it does not start: the file has a damaged record; its fence is not below the epoch, or it is full; the disk failed; memory was refused
abbrev pub FailsStart : ℕ → HardFault → Told → Told → Type 0
FailsStart epoch (NotCheckpoint offset) old new = IsDamagedAt offset old new
FailsStart epoch (Stale fence) old new = RefusesStart epoch (Stale fence) old new
FailsStart epoch Full old new = RefusesStart epoch Full old new
FailsStart epoch DiskFault old new = Unit {0}
FailsStart epoch OutOfMemory old new = Unit {0}
FailsStart epoch _ old new = ⊥

-- the faults of a start
abbrev pub IsStartFault : HardFault → Type 0
IsStartFault (NotCheckpoint offset) = Unit {0}
IsStartFault (Stale fence) = Unit {0}
IsStartFault Full = Unit {0}
IsStartFault DiskFault = Unit {0}
IsStartFault OutOfMemory = Unit {0}
IsStartFault _ = ⊥

-- at once, or from a first sync on, whatever file a crash leaves has the property
pub record LeavesSoon (property : List ℕ → Type 0) (old new : Told) : Type 0 where
  pub from : Told
  pub begins : Settles old from
  pub leaves : LeavesAlways property from new

-- Where the file has no damaged record, a crash in a start leaves a file that stands for its hard state, or for that with the fence at the epoch.
abbrev pub Starts : ℕ → Told → Told → Type 0
Starts epoch old new =
    (value : HardState) → records_of old.now.bytes ≡ Ok value
    → (new ≡ old) ⊎ LeavesSoon (IsBeforeOrAfter value (hard_step value epoch Raise)) old new
