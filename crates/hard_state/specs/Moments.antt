-- The moments of the writing calls of a checkpoint.
use Rattle.std.specs.Prelude.{◌≡◌, ℕ, ◌<◌, List, length, take, Result, Ok, Err}
use Rattle.fuxi_io.specs.Disks.{Moment, Told}
use Rattle.spec_roles.specs.HardState.{HardState, HardEvent, Raise, Submission as Submitting, Finishing, Banning, Unbanning, hard_step}
use Rattle.hard_state.specs.RecordBodies.{body_of, finish, ban, unban, IsWithinLimits}
use Rattle.hard_state.specs.declared.records.Record.{Record}
use Rattle.hard_state.specs.declared.records.Record.TheVariants.{Fence, Submission}
use Rattle.hard_state.specs.Checkpoints.{behind_gate}
use Rattle.hard_state.specs.DiskCalls.{DiskCall, all_served, StopsWithin}
use Rattle.hard_state.specs.Gates.{appending_calls}
use Rattle.hard_state.specs.HardFiles.{records_of, Kept, IsAtRest}
use Rattle.hard_state.specs.declared.fault.HardFault.{HardFault}
use Rattle.hard_state.specs.declared.fault.HardFault.TheVariants.{DiskFault}

-- the record by which a master of this epoch writes a step
abbrev pub record_for : ℕ → HardEvent → Record
record_for epoch Raise = Fence epoch
record_for epoch (Submitting job) = Submission job
record_for epoch (Finishing app) = finish app
record_for epoch (Banning machine) = ban machine
record_for epoch (Unbanning machine) = unban machine

-- the four calls that write it behind the gate
unfoldable pub writing_calls : ℕ → ℕ → HardEvent → List DiskCall
writing_calls gate epoch event = appending_calls gate (behind_gate (body_of (record_for epoch event)))

-- A writing makes these calls. After a fault of the disk it stopped within them, and after any other error it made none.
abbrev pub Moments : List DiskCall → Result (Unit {0}) HardFault → Told → Told → Type 0
Moments calls (Ok done) old new = new ≡ all_served calls old
Moments calls (Err DiskFault) old new = StopsWithin calls old new
Moments calls (Err _) old new = new ≡ old

-- at a moment, what a read gives stands for the one value, and what was synced last for the other
pub record StandFor (read synced : HardState) (moment : Moment) : Type 0 where
  pub bytes_stand : records_of moment.bytes ≡ Ok read
  pub synced_stand : records_of moment.synced ≡ Ok synced

-- the moment after so many of the calls
abbrev pub moment_after : ℕ → List DiskCall → Told → Moment
moment_after count calls told = (all_served (take count calls) told).now

-- The record counts from the opening of the gate on, and from the last sync on whatever happens.
pub record StandInTurn (before after : HardState) (calls : List DiskCall) (told : Told) : Type 0 where
  pub first : StandFor before before (moment_after 1 calls told)
  pub second : StandFor before before (moment_after 2 calls told)
  pub third : StandFor after before (moment_after 3 calls told)
  pub fourth : StandFor after after (moment_after 4 calls told)

-- so it is for every step that is not refused, from a checkpoint at rest
abbrev pub MomentsStand : Type 0
MomentsStand =
    (k : Kept) (told : Told) (epoch : ℕ) (event : HardEvent) (after : HardState) → IsAtRest k told.now → k.gate < length told.now.bytes
    → IsWithinLimits (record_for epoch event) → hard_step k.value epoch event ≡ Ok after → StandInTurn k.value after (writing_calls k.gate epoch event) told
