-- Bytes that are appended behind a closed gate, which is opened once they are on the disk.
use Rattle.std.specs.Prelude.{◌≡◌, ◌⊎◌, ℕ, ◌+◌, List, [], ◌∷◌, ◌++◌, length, take, Result, Ok, Err, OnOk}
use Rattle.fuxi_io.specs.Disks.{Moment, Told, synced_moment, then_told, after_write, after_sync, overwritten, Writes, LeavesAlways}
use Rattle.hard_state.specs.DiskCalls.{DiskCall, Write, Sync}

-- nothing is pending
abbrev pub IsSynced : Moment → Type 0
IsSynced moment = moment ≡ synced_moment moment.bytes

-- What a crash leaves while bytes are appended to a file behind the gate at a place: all up to the gate is as before, with the gate; or the
-- bytes stand whole behind the gate, whatever byte that has.
abbrev pub IsAppending : List ℕ → ℕ → List ℕ → List ℕ → Type 0
IsAppending file gate bytes left =
    (take (gate + 1) left ≡ take (gate + 1) file) ⊎ ((byte : ℕ) × (take (gate + 1 + length bytes) left ≡ take gate file ++ byte ∷ bytes))

-- What a write with a sync behind it leaves. Where one of the two fails, a part of the bytes may be written, or all of them.
abbrev pub WritesThrough : {E : Type 0} → ℕ → List ℕ → Result (Unit {0}) E → Told → Told → Type 0
WritesThrough at bytes (Ok done) old new = let moment = after_write at bytes old.now in new ≡ then_told (then_told old moment) (after_sync moment)
WritesThrough at bytes (Err fault) old new = Writes at bytes (Err fault) old new

-- the four calls of an appending: the bytes are written behind the gate, and synced; the gate is opened, and synced
abbrev pub appending_calls : ℕ → List ℕ → List DiskCall
appending_calls gate bytes = Write (gate + 1) bytes ∷ Sync ∷ Write gate (1 ∷ []) ∷ Sync ∷ []

-- the file when they are appended
abbrev pub appended : List ℕ → ℕ → List ℕ → List ℕ
appended file gate bytes = overwritten (overwritten file (gate + 1) bytes) gate (1 ∷ [])

-- from a disk on which nothing is pending: what a crash leaves at each moment, and what stands at the end
abbrev pub Appends : {E : Type 0} → ℕ → List ℕ → Result (Unit {0}) E → Told → Told → Type 0
Appends gate bytes result old new =
    IsSynced old.now → LeavesAlways (IsAppending old.now.bytes gate bytes) old new × OnOk result (new.now ≡ synced_moment (appended old.now.bytes gate bytes))
