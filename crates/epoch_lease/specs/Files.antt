-- A lease with its checkpoint, and what a file stands for.
use Rattle.std.specs.Prelude.{◌≡◌, ◌⊎◌, ℕ, ◌≤◌, List, Option, Result, Ok, Err}
use Rattle.fuxi_io.specs.Disks.{Moment, Told, Leaves, LeavesAlways}
use Rattle.spec_roles.specs.HardState.{HardState}
use Rattle.hard_state.specs.HardFiles.{Kept, IsAtRest, records_of}
use Rattle.epoch_lease.specs.declared.event.LeaseOut.{LeaseOut}
use Rattle.epoch_lease.specs.declared.event.LeaseFault.{LeaseFault}
use Rattle.epoch_lease.specs.declared.event.LeaseFault.TheVariants.{NotCheckpoint, DiskFault, OutOfMemory}
use Rattle.epoch_lease.specs.Leases.{LeaseState}

-- what is kept of an open lease: of its checkpoint, and who holds
pub record KeptLease : Type 0 where
  pub hard : Kept
  pub holder : Option (ℕ × ℕ)

-- the last epoch is the fence of the checkpoint
abbrev pub lease_of : KeptLease → LeaseState
lease_of k = record { last = k.hard.value.fence; records = k.hard.value.records; holder = k.holder }

-- a file that is opened as a lease with this last epoch and so many records
pub record OpensAs (s : LeaseState) (file : List ℕ) : Type 0 where
  pub value : HardState
  pub reads : records_of file ≡ Ok value
  pub last : value.fence ≡ s.last
  pub records : value.records ≡ s.records

-- a file whose fence is at least this epoch
pub record HasFence (epoch : ℕ) (file : List ℕ) : Type 0 where
  pub value : HardState
  pub reads : records_of file ≡ Ok value
  pub least : epoch ≤ value.fence

-- the file stands for what is kept, and nothing is pending; so whatever file a crash leaves opens as this lease
pub record Endures (k : KeptLease) (moment : Moment) : Type 0 where
  pub rest : IsAtRest k.hard moment
  pub leaves : Leaves (OpensAs (lease_of k)) moment

abbrev pub IsAnswered : Result LeaseOut LeaseFault → KeptLease → Told → Type 0
IsAnswered (Err DiskFault) after new = Unit {0}
IsAnswered (Err OutOfMemory) after new = Endures after new.now
IsAnswered (Err (NotCheckpoint offset)) after new = Endures after new.now
IsAnswered (Ok answer) after new = Endures after new.now

-- From a file that stands for what is kept, with nothing pending: at each moment of the step whatever file a crash leaves opens as the lease before the
-- step or as the one behind it, and has a fence that is at least each epoch granted before. Once it is answered, it opens as the one behind it.
pub record StepLeaves (before after : KeptLease) (behind : LeaseState) (result : Result LeaseOut LeaseFault) (old new : Told) : Type 0 where
  pub either : LeavesAlways (λ file. OpensAs (lease_of before) file ⊎ OpensAs behind file) old new
  pub fenced : LeavesAlways (HasFence before.hard.value.fence) old new
  pub answered : IsAnswered result after new

abbrev pub LeavesStep : KeptLease → KeptLease → LeaseState → Result LeaseOut LeaseFault → Told → Told → Type 0
LeavesStep before after behind result old new = IsAtRest before.hard old.now → StepLeaves before after behind result old new

-- what is kept of a lease that was opened is what the file stood for, which it still does; nobody holds
pub record OpensLease (k : KeptLease) (old new : Told) : Type 0 where
  pub reads : records_of old.now.bytes ≡ Ok k.hard.value
  pub endures : Endures k new.now
