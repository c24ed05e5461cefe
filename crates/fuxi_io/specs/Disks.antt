-- A file on a disk: what a read gives, and what a crash may leave of it.
use Rattle.std.specs.Prelude.{◌≡◌, ◌⊎◌, ℕ, ◌+◌, ◌<◌, ◌≤◌, Bool, false, ◌&&◌, ◌||◌, nat_le, nat_lt, List, [], ◌∷◌, ◌++◌, length, take, drop, slice_index, Option, Some, None, ⊤, Result, Ok, Err}
use Rattle.std.specs.List.{AllByRecursion}

-- A disk at one moment: what a read gives; the file as it was after the last sync, or when the disk was made; and the ranges written since
-- then, each as its beginning and its length, the newest first
pub record Moment : Type 0 where
  pub bytes : List ℕ
  pub synced : List ℕ
  pub writes : List (ℕ × ℕ)

-- a range written since the last sync has this place
abbrev pub is_pending : List (ℕ × ℕ) → ℕ → Bool
is_pending [] place = false
is_pending (range ∷ ranges) place = (nat_le range.0 place && nat_lt place (range.0 + range.1)) || is_pending ranges place

-- A crash at this moment may leave this file. Its length is between that of the synced file and that of what a read gives. A byte of the
-- synced file that was not written since is as it was; every other byte may be any.
pub record IsImage (moment : Moment) (file : List ℕ) : Type 0 where
  pub at_least : length moment.synced ≤ length file
  pub at_most : length file ≤ length moment.bytes
  pub stays : (place : ℕ) → place < length moment.synced → is_pending moment.writes place ≡ false → slice_index file place ≡ slice_index moment.synced place

-- a file with these bytes from a place on, which cover what stood there
abbrev pub overwritten : List ℕ → ℕ → List ℕ → List ℕ
overwritten file at bytes = take at file ++ bytes ++ drop (at + length bytes) file

-- nothing is pending: a crash leaves what a read gives
abbrev pub synced_moment : List ℕ → Moment
synced_moment bytes = record { bytes = bytes; synced = bytes; writes = [] }

abbrev pub after_write : ℕ → List ℕ → Moment → Moment
after_write at bytes moment = record { bytes = overwritten moment.bytes at bytes; synced = moment.synced; writes = (at, length bytes) ∷ moment.writes }

abbrev pub after_sync : Moment → Moment
after_sync moment = synced_moment moment.bytes

-- what a disk tells: its present moment, and its earlier ones, the newest first. A moment comes with each write and each sync.
pub record Told : Type 0 where
  pub now : Moment
  pub before : List Moment

abbrev pub first_told : List ℕ → Told
first_told bytes = record { now = synced_moment bytes; before = [] }

abbrev pub then_told : Told → Moment → Told
then_told told moment = record { now = moment; before = told.now ∷ told.before }

-- What a write leaves. One that fails may have left any bytes from its place on, no more than it was handed, or none.
abbrev pub Writes : {E : Type 0} → ℕ → List ℕ → Result (Unit {0}) E → Told → Told → Type 0
Writes at bytes (Ok done) old new = new ≡ then_told old (after_write at bytes old.now)
Writes at bytes (Err fault) old new = (new ≡ old) ⊎ ((part : List ℕ) × (length part ≤ length bytes) × (new ≡ then_told old (after_write at part old.now)))

-- what a sync leaves
abbrev pub Syncs : {E : Type 0} → Result (Unit {0}) E → Told → Told → Type 0
Syncs (Ok done) old new = new ≡ then_told old (after_sync old.now)
Syncs (Err fault) old new = new ≡ old

-- a relation of what is told before and after, where something was told before; then the object goes on telling
abbrev pub WhereTold : (Told → Told → Type 0) → Option Told → Option Told → Type 0
WhereTold relation None new = ⊤
WhereTold relation (Some old) None = ⊥
WhereTold relation (Some old) (Some new) = relation old new

-- whatever file a crash at this moment leaves has the property
abbrev pub Leaves : (List ℕ → Type 0) → Moment → Type 0
Leaves property moment = (file : List ℕ) → IsImage moment file → property file

-- From the old moment to the new one, at both and at every one between, whatever file a crash leaves has the property.
pub record LeavesAlways (property : List ℕ → Type 0) (old new : Told) : Type 0 where
  -- the moments after the old one, the newest first
  pub since : List Moment
  pub reached : new.now ∷ new.before ≡ since ++ old.now ∷ old.before
  pub first : Leaves property old.now
  pub each : AllByRecursion (Leaves property) since
