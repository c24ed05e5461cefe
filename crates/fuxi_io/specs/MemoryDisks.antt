-- A disk over memory. It logs its writes and syncs, with the bytes that each write covered, so that every moment can be told.
use Rattle.std.specs.Prelude.{◌≡◌, ℕ, Option, None, Some, ◌+◌, ◌-◌, ◌<◌, ◌⊎◌, List, [], ◌∷◌, ◌++◌, length, take, drop, Contains}
use Rattle.fuxi_io.specs.Causes.{raised}
use Rattle.fuxi_io.specs.Disks.{Moment, Told, then_told, after_write, after_sync}
use Rattle.fuxi_io.specs.declared.memory_disk.Logged.{Logged}
use Rattle.fuxi_io.specs.declared.memory_disk.Logged.TheVariants.{Write, Sync}

-- the file before a write of `len` bytes, which covered these
abbrev pub before_write : List ℕ → ℕ → ℕ → List ℕ → List ℕ
before_write file at len covered = take at file ++ covered ++ drop (at + len) file

-- the covered bytes are kept one write behind the other: those of the newest write, and the others
abbrev pub newest : ℕ → List ℕ → List ℕ
newest count covered = drop (length covered - count) covered

abbrev pub earlier : ℕ → List ℕ → List ℕ
earlier count covered = take (length covered - count) covered

-- of a log, the newest first: the ranges written since the last sync
abbrev pub writes_of : List Logged → List (ℕ × ℕ)
writes_of [] = []
writes_of (Sync ∷ log) = []
writes_of (Write at len count ∷ log) = (at, len) ∷ writes_of log

-- the file as it was after the last sync, or when the disk was made
abbrev pub synced_of : List ℕ → List ℕ → List Logged → List ℕ
synced_of file covered [] = file
synced_of file covered (Sync ∷ log) = file
synced_of file covered (Write at len count ∷ log) = synced_of (before_write file at len (newest count covered)) (earlier count covered) log

abbrev pub moment_of : List ℕ → List ℕ → List Logged → Moment
moment_of file covered log = record { bytes = file; synced = synced_of file covered log; writes = writes_of log }

abbrev pub earlier_moments : List ℕ → List ℕ → List Logged → List Moment
earlier_moments file covered [] = []
earlier_moments file covered (Sync ∷ log) = moment_of file covered log ∷ earlier_moments file covered log
earlier_moments file covered (Write at len count ∷ log) =
    let old = before_write file at len (newest count covered) in
    moment_of old (earlier count covered) log ∷ earlier_moments old (earlier count covered) log

abbrev pub told_of : List ℕ → List ℕ → List Logged → Told
told_of file covered log = record { now = moment_of file covered log; before = earlier_moments file covered log }

-- what the disk tells; the room that is left; which calls are to fail; how many calls were made, and how many of them failed; and how many
-- more writes and syncs are served, where that is limited
pub record DiskStore : Type 0 where
  pub told : Told
  pub room : ℕ
  pub fails : List ℕ
  pub calls : ℕ
  pub faults : ℕ
  pub served : Option ℕ

-- the next call is one of those that are to fail
abbrev pub AccessFails : DiskStore → Type 0
AccessFails disk = Contains disk.fails (raised disk.calls)

-- so it is, or it lacks this room, or no more writes and syncs are served
abbrev pub ChangeFails : DiskStore → ℕ → Type 0
ChangeFails disk needed = AccessFails disk ⊎ ((disk.room < needed) ⊎ (disk.served ≡ Some 0))

-- after a call that failed
abbrev pub unserved : DiskStore → DiskStore
unserved disk = record disk { calls = raised disk.calls; faults = raised disk.faults }

-- after a call that changed nothing
abbrev pub accessed : DiskStore → DiskStore
accessed disk = record disk { calls = raised disk.calls }

abbrev pub one_fewer : Option ℕ → Option ℕ
one_fewer None = None
one_fewer (Some n) = Some (n - 1)

-- after a call that led to this moment and used this room
abbrev pub changed : DiskStore → Moment → ℕ → DiskStore
changed disk moment used = record disk { told = then_told disk.told moment; room = disk.room - used; calls = raised disk.calls; served = one_fewer disk.served }

abbrev pub disk_written : DiskStore → ℕ → List ℕ → DiskStore
disk_written disk at bytes = changed disk (after_write at bytes disk.told.now) (length bytes + 1)

abbrev pub disk_synced : DiskStore → DiskStore
disk_synced disk = changed disk (after_sync disk.told.now) 1
