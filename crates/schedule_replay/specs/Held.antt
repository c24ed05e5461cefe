-- A hard state that is kept on a disk in memory.
use Rattle.std.specs.Prelude.{◌≡◌, ◌<◌, false, length}
use Rattle.fuxi_io.specs.Disks.{Told}
use Rattle.hard_state.specs.HardFiles.{Kept, IsAtRest}

-- what is kept of the checkpoint, and what its disk tells
pub record Held : Type 0 where
  pub hard : Kept
  pub told : Told

-- it may be written: no fault of the disk was met, the closed gate is within the file, the file stands for the hard state, and nothing is pending
pub record IsOpen (h : Held) : Type 0 where
  pub sound : h.hard.broken ≡ false
  pub long : h.hard.gate < length h.told.now.bytes
  pub rest : IsAtRest h.hard h.told.now
