-- The status that a line means at which an input ends.
use Rattle.std.specs.Prelude.{ℕ, ◌+◌}
use Rattle.fuxi_io.specs.declared.lines.LineStop.{LineStop}
use Rattle.fuxi_io.specs.declared.lines.LineStop.TheVariants.{ReadFault as ReadStop, LineTooLong as LongStop, TooManyLines as ManyStop}
use Rattle.fuxi_io.specs.declared.status.InputFault.{InputFault}
use Rattle.fuxi_io.specs.declared.status.InputFault.TheVariants.{UnknownWord, WrongCount, BadNumber, Range, LineTooLong}
use Rattle.fuxi_io.specs.declared.status.LimitOf.TheVariants.{Lines}
use Rattle.fuxi_io.specs.declared.status.Status.{Status}
use Rattle.fuxi_io.specs.declared.status.Status.TheVariants.{BadInput, ReadFault, Limit, OutOfMemory}
use Rattle.schedule_text.specs.declared.event.LineFault.{LineFault}
use Rattle.schedule_text.specs.declared.event.LineFault.TheVariants.{UnknownWord as LineUnknownWord, WrongCount as LineWrongCount, BadNumber as LineBadNumber, Range as LineRange, OutOfMemory as LineOutOfMemory}
use Rattle.cluster_desc.specs.declared.fault.ClusterFault.{ClusterFault}
use Rattle.cluster_desc.specs.declared.fault.ClusterFault.TheVariants.{NotJson as ClusterNotJson, WrongKind as ClusterWrongKind, UnknownKey as ClusterUnknownKey, MissingKey as ClusterMissingKey, Count as ClusterCount, LengthDiffers as ClusterLengthDiffers, QuantityRange as ClusterQuantityRange, QuotaOverLimit as ClusterQuotaOverLimit, OutOfMemory as ClusterOutOfMemory}
use Rattle.input_lines.specs.Openings.{cluster_fault}

-- why a line that is no event is bad; no line wants memory
abbrev pub event_fault : LineFault → InputFault
event_fault LineUnknownWord = UnknownWord
event_fault LineWrongCount = WrongCount
event_fault (LineBadNumber place) = BadNumber place
event_fault (LineRange place) = Range place
event_fault LineOutOfMemory = UnknownWord

-- the status that this fault of the line with this number means
abbrev pub event_status : LineFault → ℕ → Status
event_status LineUnknownWord number = BadInput number (event_fault LineUnknownWord)
event_status LineWrongCount number = BadInput number (event_fault LineWrongCount)
event_status (LineBadNumber place) number = BadInput number (event_fault (LineBadNumber place))
event_status (LineRange place) number = BadInput number (event_fault (LineRange place))
event_status LineOutOfMemory number = OutOfMemory

-- the status that a reader's stop means, after so many lines
abbrev pub stop_status : LineStop → ℕ → Status
stop_status ReadStop number = ReadFault
stop_status LongStop number = BadInput (number + 1) LineTooLong
stop_status ManyStop number = Limit Lines number

-- the status that this fault of the line with this number means, which describes no cluster
abbrev pub cluster_status : ClusterFault → ℕ → Status
cluster_status ClusterNotJson number = BadInput number (cluster_fault ClusterNotJson)
cluster_status (ClusterWrongKind key) number = BadInput number (cluster_fault (ClusterWrongKind key))
cluster_status ClusterUnknownKey number = BadInput number (cluster_fault ClusterUnknownKey)
cluster_status (ClusterMissingKey key) number = BadInput number (cluster_fault (ClusterMissingKey key))
cluster_status (ClusterCount key) number = BadInput number (cluster_fault (ClusterCount key))
cluster_status ClusterLengthDiffers number = BadInput number (cluster_fault ClusterLengthDiffers)
cluster_status ClusterQuantityRange number = BadInput number (cluster_fault ClusterQuantityRange)
cluster_status (ClusterQuotaOverLimit group) number = BadInput number (cluster_fault (ClusterQuotaOverLimit group))
cluster_status ClusterOutOfMemory number = OutOfMemory
