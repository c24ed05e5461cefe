-- The input that lines are: a cluster, and events; or the first line that is bad.
use Rattle.std.specs.Prelude.{ℕ, ◌+◌, true, false, nat_lt, if◌then◌else◌, List, [], ◌∷◌, length, Result, Ok, Err}
use Rattle.fuxi_io.specs.Lines.{InputLine, lines_of}
use Rattle.fuxi_io.specs.declared.status.InputFault.{InputFault}
use Rattle.fuxi_io.specs.declared.status.InputFault.TheVariants.{LineTooLong, NoCluster}
use Rattle.fuxi_terms.specs.Cluster.{ClusterRecord}
use Rattle.fuxi_terms.specs.Counts.{then_do}
use Rattle.fuxi_terms.specs.Limits.{most_line_bytes}
use Rattle.cluster_desc.specs.declared.fault.ClusterFault.{ClusterFault}
use Rattle.cluster_desc.specs.ClusterLine.{cluster_of}
use Rattle.schedule_text.specs.ReadEvents.{event_of}
use Rattle.schedule_text.specs.declared.event.Event.{Event as LineEvent}
use Rattle.schedule_text.specs.declared.event.LineFault.{LineFault}
use Rattle.schedule_replay.specs.LineEvents.{event_as}
use Rattle.schedule_replay.specs.ReplayTexts.{lines_text}
use Rattle.spec_world.specs.Events.{Event}
use Rattle.spec_world.specs.Runs.{outputs}
use Rattle.input_lines.specs.Contents.{content, is_skipped}
use Rattle.input_lines.specs.InputStatuses.{event_fault}
use Rattle.input_lines.specs.Openings.{cluster_fault}

pub record Input : Type 0 where
  pub cluster : ClusterRecord
  pub events : List Event

-- a bad line by its number, from 1
pub record BadLine : Type 0 where
  pub line : ℕ
  pub fault : InputFault

-- what the line with this number says
abbrev pub cluster_said : ℕ → Result ClusterRecord ClusterFault → Result ClusterRecord BadLine
cluster_said number (Ok c) = Ok c
cluster_said number (Err fault) = Err (record { line = number; fault = cluster_fault fault })

abbrev pub event_said : ℕ → Result LineEvent LineFault → Result Event BadLine
event_said number (Ok e) = Ok (event_as e)
event_said number (Err fault) = Err (record { line = number; fault = event_fault fault })

-- a line that is too long says nothing else
abbrev pub unless_long : {A : Type 0} → ℕ → InputLine → Result A BadLine → Result A BadLine
unless_long number line said = if nat_lt most_line_bytes (length line.bytes) then Err (record { line = number; fault = LineTooLong }) else said

-- the events of lines, so many lines having gone before
abbrev pub events_from : ℕ → List InputLine → Result (List Event) BadLine
events_from before [] = Ok []
events_from before (line ∷ lines) = unless_long (before + 1) line (elim (is_skipped (content line)) [
  | true ↦ events_from (before + 1) lines
  | false ↦ then_do (event_said (before + 1) (event_of (content line))) (λ e. then_do (events_from (before + 1) lines) (λ es. Ok (e ∷ es)))
])

-- the first line that is not skipped describes the cluster, and the others are events
abbrev pub input_from : ℕ → List InputLine → Result Input BadLine
input_from before [] = Err (record { line = before + 1; fault = NoCluster })
input_from before (line ∷ lines) = unless_long (before + 1) line (elim (is_skipped (content line)) [
  | true ↦ input_from (before + 1) lines
  | false ↦ then_do (cluster_said (before + 1) (cluster_of (content line))) (λ c. then_do (events_from (before + 1) lines) (λ es. Ok (record { cluster = c; events = es })))
])

abbrev pub input_of : List ℕ → Result Input BadLine
input_of bytes = input_from 0 (lines_of bytes)

-- what the events of an input print, without the state; where there is no input, nothing
abbrev pub told : Result Input BadLine → List ℕ
told (Ok i) = lines_text (outputs i.cluster i.events)
told (Err bad) = []
