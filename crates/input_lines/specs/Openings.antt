-- Where the line that describes the cluster stands among the lines of an input, and what reading it came to.
use Rattle.std.specs.Prelude.{◌≡◌, ℕ, ◌+◌, Bool, true, false, not, nat_lt, if◌then◌else◌, List, [], ◌∷◌, ◌++◌, length, Option, Some, Result, Ok, Err, ⊤}
use Rattle.std.specs.Io.KnownBytes.{Consumes}
use Rattle.fuxi_io.specs.Lines.{InputLine, lines_of}
use Rattle.fuxi_io.specs.Reading.{Reading, rest_of}
use Rattle.fuxi_io.specs.declared.status.InputFault.{InputFault}
use Rattle.fuxi_io.specs.declared.status.InputFault.TheVariants.{LineTooLong, NoCluster, NotJson, WrongKind, UnknownKey, MissingKey, Count, LengthDiffers, QuantityRange, QuotaOverLimit}
use Rattle.fuxi_io.specs.declared.status.LimitOf.TheVariants.{Lines, Packets, Bytes, Records, Calls}
use Rattle.fuxi_io.specs.declared.status.Status.{Status}
use Rattle.fuxi_io.specs.declared.status.Status.TheVariants.{Done, Usage, BadInput, ReadFault, WriteFault, Limit, OutOfMemory, DiskFault, StaleEpoch, DamagedCheckpoint}
use Rattle.fuxi_terms.specs.Cluster.{ClusterRecord}
use Rattle.fuxi_terms.specs.Limits.{most_line_bytes, most_lines}
use Rattle.cluster_desc.specs.ClusterLine.{cluster_of}
use Rattle.cluster_desc.specs.declared.fault.ClusterFault.{ClusterFault}
use Rattle.cluster_desc.specs.declared.fault.ClusterFault.TheVariants.{NotJson as ClusterNotJson, WrongKind as ClusterWrongKind, UnknownKey as ClusterUnknownKey, MissingKey as ClusterMissingKey, Count as ClusterCount, LengthDiffers as ClusterLengthDiffers, QuantityRange as ClusterQuantityRange, QuotaOverLimit as ClusterQuotaOverLimit, OutOfMemory as ClusterOutOfMemory}
use Rattle.input_lines.specs.Contents.{content, is_skipped}
use Rattle.input_lines.specs.Wholes.{whole_lines, AreTaken, TakesSome}

-- what lines begin with: the line of a cluster, with its number and the lines behind it; a line that is bad, before any describes a cluster; or one
-- that is too many, with the number of those that may be
pub data Opening : Type 0 where
  Opens : (cluster : ClusterRecord) → (number : ℕ) → (behind : List InputLine) → Opening
  BadAt : (line : ℕ) → (fault : InputFault) → Opening
  TooMany : (kept : ℕ) → Opening

-- why a line that describes no cluster is bad; no line wants memory
abbrev pub cluster_fault : ClusterFault → InputFault
cluster_fault ClusterNotJson = NotJson
cluster_fault (ClusterWrongKind key) = WrongKind key
cluster_fault ClusterUnknownKey = UnknownKey
cluster_fault (ClusterMissingKey key) = MissingKey key
cluster_fault (ClusterCount key) = Count key
cluster_fault ClusterLengthDiffers = LengthDiffers
cluster_fault ClusterQuantityRange = QuantityRange
cluster_fault (ClusterQuotaOverLimit group) = QuotaOverLimit group.0
cluster_fault ClusterOutOfMemory = NotJson

-- the line begins past the greatest number of lines, or is too long; else what it says decides
abbrev pub within_limits : ℕ → InputLine → Opening → Opening
within_limits before line opening =
    if not (nat_lt before most_lines) then TooMany most_lines
    else (if nat_lt most_line_bytes (length line.bytes) then BadAt (before + 1) LineTooLong else opening)

-- the line with this number says this, and these stand behind it
abbrev pub described : ℕ → Result ClusterRecord ClusterFault → List InputLine → Opening
described number (Ok cluster) behind = Opens cluster number behind
described number (Err fault) behind = BadAt number (cluster_fault fault)

-- what these lines begin with, so many having gone before: the first that is not skipped describes the cluster
abbrev pub opening_from : ℕ → List InputLine → Opening
opening_from before [] = BadAt (before + 1) NoCluster
opening_from before (line ∷ lines) = within_limits before line (elim (is_skipped (content line)) [
  | true ↦ opening_from (before + 1) lines
  | false ↦ described (before + 1) (cluster_of (content line)) lines
])

-- this cluster was read: the lines taken end with the one that describes it, whatever stands behind them
pub record HasCluster (bytes : List ℕ) (cluster : ClusterRecord) (first number : ℕ) (ended : Bool) (rest : Option (List ℕ)) : Type 0 where
  pub lines : List InputLine
  pub left : List ℕ
  pub is_left : rest ≡ Some left
  pub cut : lines_of bytes ≡ lines ++ lines_of left
  pub taken : AreTaken ended bytes left lines
  pub through : (more : List InputLine) → opening_from first (lines ++ more) ≡ Opens cluster number more

-- the source failed: of the whole lines that it gave before none describes a cluster, and none is bad
pub record ReadsNone (first : ℕ) (bytes : List ℕ) (left : Option (List ℕ)) : Type 0 where
  pub given : List ℕ
  pub gave : Consumes (Some bytes) left given
  pub line : ℕ
  pub none : opening_from first (whole_lines (lines_of given)) ≡ BadAt line NoCluster

-- no line stands behind the one that describes a cluster, where one does
abbrev pub IsLast : Opening → Type 0
IsLast (Opens cluster number behind) = behind ≡ []
IsLast (BadAt line fault) = ⊤
IsLast (TooMany kept) = ⊥

-- memory lacked at the line that was to describe the cluster, the last of those taken
pub record StopsAtCluster (first : ℕ) (bytes : List ℕ) (left : Option (List ℕ)) : Type 0 where
  pub lines : List InputLine
  pub takes : TakesSome bytes left lines
  pub last : IsLast (opening_from first lines)

-- with which status lines end before one describes a cluster, or at it; left: what the source has then
abbrev pub StopsBefore : ℕ → List ℕ → Status → Option (List ℕ) → Type 0
StopsBefore first bytes (BadInput line fault) left = opening_from first (lines_of bytes) ≡ BadAt line fault
StopsBefore first bytes (Limit Lines kept) left = opening_from first (lines_of bytes) ≡ TooMany kept
StopsBefore first bytes (Limit Packets kept) left = ⊥
StopsBefore first bytes (Limit Bytes kept) left = ⊥
StopsBefore first bytes (Limit Calls kept) left = ⊥
StopsBefore first bytes (Limit Records kept) left = ⊥
StopsBefore first bytes ReadFault left = ReadsNone first bytes left
StopsBefore first bytes OutOfMemory left = StopsAtCluster first bytes left
StopsBefore first bytes Done left = ⊥
StopsBefore first bytes Usage left = ⊥
StopsBefore first bytes WriteFault left = ⊥
StopsBefore first bytes DiskFault left = ⊥
StopsBefore first bytes (StaleEpoch fence) left = ⊥
StopsBefore first bytes (DamagedCheckpoint offset) left = ⊥

-- what the reading came to, by its answer: over these bytes, so many lines having gone before; the reader and what its source has left are those behind it
abbrev pub Opened : ℕ → List ℕ → Result ClusterRecord Status → Reading → Option (List ℕ) → Type 0
Opened first bytes (Ok cluster) reading left = HasCluster bytes cluster first reading.number reading.ended (rest_of reading left)
Opened first bytes (Err status) reading left = StopsBefore first bytes status left
