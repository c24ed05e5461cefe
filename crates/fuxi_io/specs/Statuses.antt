-- The numbers of the outcomes.
use Rattle.std.specs.Prelude.{ℕ}
use Rattle.fuxi_io.specs.declared.status.Status.{Status}
use Rattle.fuxi_io.specs.declared.status.Status.TheVariants.{Done, Usage, BadInput, ReadFault, WriteFault, Limit, OutOfMemory, DiskFault, StaleEpoch, DamagedCheckpoint}

-- the number with which a program ends
abbrev pub code_of : Status → ℕ
code_of Done = 0
code_of Usage = 2
code_of (BadInput line fault) = 3
code_of ReadFault = 4
code_of WriteFault = 5
code_of (Limit what kept) = 6
code_of OutOfMemory = 7
code_of DiskFault = 8
code_of (StaleEpoch fence) = 9
code_of (DamagedCheckpoint offset) = 10
