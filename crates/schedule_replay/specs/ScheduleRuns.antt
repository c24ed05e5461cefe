-- How a run over the lines of an input goes, and what is known of it by the status that it ends with.
use Rattle.std.specs.Prelude.{ℕ, Result, Ok, Err, List, [], ◌∷◌, Option, Some, None}
use Rattle.fuxi_io.specs.Lines.{InputLine, lines_of}
use Rattle.fuxi_io.specs.declared.status.LimitOf.TheVariants.{Packets, Bytes}
use Rattle.fuxi_io.specs.declared.status.Status.{Status}
use Rattle.schedule_text.specs.ReadEvents.{event_of}
use Rattle.schedule_text.specs.declared.event.Event.{Event as LineEvent}
use Rattle.schedule_text.specs.declared.event.LineFault.{LineFault}
use Rattle.schedule_replay.specs.declared.stop.WorldStop.{WorldStop}
use Rattle.schedule_replay.specs.declared.stop.WorldStop.TheVariants.{TooManyPackets, PoolBytes, OutOfMemory as WantOfMemory}
use Rattle.schedule_replay.specs.LineEvents.{event_as}
use Rattle.schedule_replay.specs.WorldSteps.{limit_of}
use Rattle.schedule_replay.specs.ReplayTexts.{lines_text}
use Rattle.spec_world.specs.World.{World, Step, empty_world}
use Rattle.spec_world.specs.Events.{world_step}
use Rattle.spec_world.specs.Show.{show}
use Rattle.input_lines.specs.LineRuns.{Run, Said, IsBad, IsPast, Prints, Runner, Ends, text_ends, run_from as runs_from, pieces as all_pieces, ReadsWhole as ReadsAll, StopsWithin as StopsInside, Ended as EndedSo}
use Rattle.input_lines.specs.OpenedRuns.{Opener, IsOpen, read_from as reads_from}
use Rattle.input_lines.specs.InputStatuses.{event_fault}

-- the limit that an event would pass; no event wants memory
abbrev pub past_of : WorldStop → Said World
past_of (TooManyPackets kept) = IsPast Packets kept
past_of (PoolBytes kept) = IsPast Bytes kept
past_of WantOfMemory = IsPast Bytes 0

-- a step that would pass a limit is not taken; else it prints its lines
abbrev pub unless_past : Step → Option WorldStop → Said World
unless_past s (Some stop) = past_of stop
unless_past s None = Prints (lines_text s.lines) s.world

-- what a line says in a world
abbrev pub said_of : World → Result LineEvent LineFault → Said World
said_of w (Err fault) = IsBad (event_fault fault)
said_of w (Ok event) = let s = world_step w (event_as event) in unless_past s (limit_of w s.world)

-- the world, as what runs over lines, and behind the line that describes its cluster
abbrev pub world_runner : Runner World (Option World)
world_runner = record { says = λ w line. said_of w (event_of line); tells = λ w. Some w }

abbrev pub world_opener : Opener World (Option World)
world_opener = record { runner = world_runner; start = empty_world; unopened = None }

-- the run over these lines of events, so many lines having gone before: what each event printed, the world then, and where it ended
abbrev pub run_from : ℕ → World → List InputLine → Run (Option World)
run_from before w lines = runs_from world_runner before w lines

-- the run over these lines, of which the first that is not skipped describes the cluster
abbrev pub read_from : ℕ → List InputLine → Run (Option World)
read_from before lines = reads_from world_opener before lines

-- the run over the bytes of a whole input
abbrev pub run_of : List ℕ → Run (Option World)
run_of bytes = read_from 0 (lines_of bytes)

-- what is written in the end: the outputs, and behind a whole input the state
abbrev pub state_texts : Option World → List (List ℕ)
state_texts (Some w) = lines_text (show w) ∷ []
state_texts None = []

abbrev pub pieces : Run (Option World) → List (List ℕ)
pieces r = all_pieces state_texts r

abbrev pub world_ends : Ends World (Option World)
world_ends = text_ends IsOpen (λ w. lines_text (show w)) state_texts

-- what a run over an input wrote by the status that it ended with, and what its source has left then
abbrev pub ReadsWhole : (List InputLine → Run (Option World)) → List ℕ → Option (List ℕ) → Option (List ℕ) → Option (List ℕ) → Type 0
ReadsWhole run bytes left before after = ReadsAll world_ends run bytes left before after

abbrev pub StopsWithin : (List InputLine → Run (Option World)) → List ℕ → Option (List ℕ) → Option (List ℕ) → Option (List ℕ) → Type 0
StopsWithin run bytes left before after = StopsInside world_ends run bytes left before after

abbrev pub Ended : (List InputLine → Run (Option World)) → List ℕ → Status → Option (List ℕ) → Option (List ℕ) → Option (List ℕ) → Type 0
Ended run bytes status left before after = EndedSo world_ends run bytes status left before after
