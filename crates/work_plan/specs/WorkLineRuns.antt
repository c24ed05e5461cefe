-- How a run over the lines of an input goes, and what is known of it by the status that it ends with.
use Rattle.std.specs.Prelude.{◌≡◌, ◌⊎◌, ⊤, ℕ, Result, Ok, Err, List, [], ◌∷◌, Option, Some, None}
use Rattle.std.specs.List.{concat}
use Rattle.fuxi_io.specs.Lines.{InputLine, lines_of}
use Rattle.fuxi_io.specs.declared.status.LimitOf.TheVariants.{Lines, Packets}
use Rattle.fuxi_io.specs.declared.status.Status.{Status}
use Rattle.fuxi_terms.specs.Limits.{most_lines}
use Rattle.schedule_text.specs.declared.event.LineFault.{LineFault}
use Rattle.input_lines.specs.LineRuns.{AtEnd, Run, Said, IsBad, IsPast, Prints, Runner, Ends, pieces, text_ends, run_from as runs_from, Ended as EndedSo}
use Rattle.input_lines.specs.InputStatuses.{event_fault}
use Rattle.input_lines.specs.RunEnds.{Causes, no_causes}
use Rattle.work_plan.specs.ReadWorkEvents.{work_of}
use Rattle.work_plan.specs.declared.event.WorkEvent.{WorkEvent}
use Rattle.work_plan.specs.WorkEvents.{Step, show, work_step}
use Rattle.work_plan.specs.WorkLines.{lines_text}
use Rattle.work_plan.specs.WorkRuns.{past}
use Rattle.work_plan.specs.AgentWithApps.{World, empty_world}

-- a step that would pass the limit on packets is not taken; else it prints its lines
abbrev pub unless_past : Step → Option ℕ → Said World
unless_past s (Some kept) = IsPast Packets kept
unless_past s None = Prints (lines_text s.lines) s.world

-- what a line says in a world
abbrev pub said_of : World → Result WorkEvent LineFault → Said World
said_of w (Err fault) = IsBad (event_fault fault)
said_of w (Ok event) = let s = work_step w event in unless_past s (past w s)

-- the world, as what runs over lines
abbrev pub work_runner : Runner World World
work_runner = record { says = λ w line. said_of w (work_of line); tells = λ w. w }

-- the run over these lines, so many lines having gone before: what each event printed, the world then, and where it ended
abbrev pub run_from : ℕ → World → List InputLine → Run World
run_from before w lines = runs_from work_runner before w lines

-- the run over the bytes of a whole input
abbrev pub run_of : List ℕ → Run World
run_of bytes = run_from 0 empty_world (lines_of bytes)

-- behind a whole input the state
abbrev pub state_texts : World → List (List ℕ)
state_texts w = lines_text (show w) ∷ []

-- how its end is written; while its source has not ended no line has ended it
abbrev pub work_plan : Ends World World
work_plan = text_ends (λ ending. ending ≡ AtEnd) (λ w. lines_text (show w)) state_texts

-- what a run over an input wrote that ended with a status, and what its source has left then
abbrev pub Ended : (List InputLine → Run World) → List ℕ → Status → Option (List ℕ) → Option (List ℕ) → Option (List ℕ) → Type 0
Ended run bytes status left before after = EndedSo work_plan run bytes status left before after

-- the whole text of an input
abbrev pub text_of : List ℕ → List ℕ
text_of bytes = concat (pieces state_texts (run_of bytes))

-- what ends a run of named workers but a fault: a bad line, a limit, which is that on packets or on lines, and want of memory
abbrev pub work_causes : Causes
work_causes = record no_causes { bad = λ line fault. ⊤; limit = λ what kept. (what ≡ Packets) ⊎ ((what ≡ Lines) × (kept ≡ most_lines)); memory = ⊤ }
