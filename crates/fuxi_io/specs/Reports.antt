-- The line that tells of an outcome.
use Rattle.std.specs.Prelude.{◌≡◌, ◌⊎◌, ℕ, List, [], ◌++◌, Option, codes, decimal}
use Rattle.std.specs.Io.KnownBytes.{Appends}
use Rattle.fuxi_io.specs.Causes.{Rose, TakesPart}
use Rattle.fuxi_terms.specs.ClusterKeys.{word_of}
use Rattle.fuxi_io.specs.declared.status.InputFault.{InputFault}
use Rattle.fuxi_io.specs.declared.status.InputFault.TheVariants.{UnknownWord, WrongCount, BadNumber, Range, LineTooLong, NoCluster, NotJson, WrongKind, UnknownKey, MissingKey, Count, LengthDiffers, QuantityRange, QuotaOverLimit, NoMachine}
use Rattle.fuxi_io.specs.declared.status.LimitOf.{LimitOf}
use Rattle.fuxi_io.specs.declared.status.LimitOf.TheVariants.{Lines, Packets, Bytes, Records, Calls}
use Rattle.fuxi_io.specs.declared.status.Status.{Status}
use Rattle.fuxi_io.specs.declared.status.Status.TheVariants.{Done, Usage, BadInput, ReadFault, WriteFault, Limit, OutOfMemory, DiskFault, StaleEpoch, DamagedCheckpoint}

abbrev pub fault_name : InputFault → List ℕ
fault_name UnknownWord = codes "UnknownWord"
fault_name WrongCount = codes "WrongCount"
fault_name (BadNumber place) = codes "BadNumber"
fault_name (Range place) = codes "Range"
fault_name LineTooLong = codes "LineTooLong"
fault_name NoCluster = codes "NoCluster"
fault_name NotJson = codes "NotJson"
fault_name (WrongKind key) = codes "WrongKind"
fault_name UnknownKey = codes "UnknownKey"
fault_name (MissingKey key) = codes "MissingKey"
fault_name (Count key) = codes "Count"
fault_name LengthDiffers = codes "LengthDiffers"
fault_name QuantityRange = codes "QuantityRange"
fault_name (QuotaOverLimit group) = codes "QuotaOverLimit"
fault_name NoMachine = codes "NoMachine"

-- the word's place, the key's word or the group's number, behind a blank
abbrev pub fault_value : InputFault → List ℕ
fault_value UnknownWord = []
fault_value WrongCount = []
fault_value (BadNumber place) = codes " " ++ decimal place
fault_value (Range place) = codes " " ++ decimal place
fault_value LineTooLong = []
fault_value NoCluster = []
fault_value NotJson = []
fault_value (WrongKind key) = codes " " ++ word_of key
fault_value UnknownKey = []
fault_value (MissingKey key) = codes " " ++ word_of key
fault_value (Count key) = codes " " ++ word_of key
fault_value LengthDiffers = []
fault_value QuantityRange = []
fault_value (QuotaOverLimit group) = codes " " ++ decimal group
fault_value NoMachine = []

abbrev pub limit_word : LimitOf → List ℕ
limit_word Lines = codes "lines"
limit_word Packets = codes "packets"
limit_word Bytes = codes "bytes"
limit_word Records = codes "records"
limit_word Calls = codes "calls"

-- the line of a status, where this one tells the commands
abbrev pub status_line : List ℕ → Status → List ℕ
status_line usage Done = []
status_line usage Usage = usage
status_line usage (BadInput line fault) = codes "line " ++ decimal line ++ codes ": " ++ fault_name fault ++ fault_value fault ++ codes "\n"
status_line usage ReadFault = codes "read fault\n"
status_line usage WriteFault = codes "write fault\n"
status_line usage (Limit what kept) = codes "limit " ++ limit_word what ++ codes " " ++ decimal kept ++ codes "\n"
status_line usage OutOfMemory = codes "out of memory\n"
status_line usage DiskFault = codes "disk fault\n"
status_line usage (StaleEpoch fence) = codes "stale epoch " ++ decimal fence ++ codes "\n"
status_line usage (DamagedCheckpoint offset) = codes "damaged checkpoint " ++ decimal offset ++ codes "\n"

-- a sink took the line, with no fault, or, where it failed, a part from its front
abbrev pub TakesReport : List ℕ → Option (List ℕ) → Option (List ℕ) → ℕ → ℕ → Type 0
TakesReport line old new faults_old faults_new = (Appends old new line × (faults_new ≡ faults_old)) ⊎ (Rose faults_old faults_new × TakesPart old new line)
