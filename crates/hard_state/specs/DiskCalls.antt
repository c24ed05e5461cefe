-- Calls that change a disk, one after the other, and the moments that they make.
use Rattle.std.specs.Prelude.{◌≡◌, ◌⊎◌, ℕ, List, [], ◌∷◌, Result, Ok, Err}
use Rattle.fuxi_io.specs.Disks.{Told, then_told, after_write, after_sync, Writes}

pub data DiskCall : Type 0 where
  Write : (at : ℕ) (bytes : List ℕ) → DiskCall
  Sync : DiskCall

-- a call that was served makes one moment
abbrev pub served : DiskCall → Told → Told
served (Write at bytes) told = then_told told (after_write at bytes told.now)
served Sync told = then_told told (after_sync told.now)

abbrev pub all_served : List DiskCall → Told → Told
all_served [] told = told
all_served (call ∷ calls) told = all_served calls (served call told)

-- one that failed makes none, or that of a torn write: of a part of the bytes, from the front
abbrev pub Fails : DiskCall → Told → Told → Type 0
Fails (Write at bytes) old new = Writes {E = Unit {0}} at bytes (Err tt) old new
Fails Sync old new = new ≡ old

-- one of the calls failed, all before it were served, and none was made behind it
abbrev pub StopsWithin : List DiskCall → Told → Told → Type 0
StopsWithin [] old new = ⊥
StopsWithin (call ∷ calls) old new = Fails call old new ⊎ StopsWithin calls (served call old) new

-- these calls were made and no others
abbrev pub MakesCalls : {E : Type 0} → List DiskCall → Result (Unit {0}) E → Told → Told → Type 0
MakesCalls calls (Ok done) old new = new ≡ all_served calls old
MakesCalls calls (Err fault) old new = StopsWithin calls old new
