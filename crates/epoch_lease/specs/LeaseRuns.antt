-- A lease over the lines of an input: what each line answers, and where the run ends.
use Rattle.std.specs.Prelude.{◌≡◌, ℕ, None, Result, Ok, Err, List, [], ◌∷◌}
use Rattle.std.specs.List.{concat}
use Rattle.fuxi_io.specs.Lines.{InputLine, lines_of}
use Rattle.schedule_text.specs.declared.event.LineFault.{LineFault}
use Rattle.spec_roles.specs.HardState.{HardState}
use Rattle.input_lines.specs.LineRuns.{AtEnd, Run, Said, IsBad, Prints, Runner, Ends, pieces, run_from as runs_from, text_ends}
use Rattle.input_lines.specs.InputStatuses.{event_fault}
use Rattle.epoch_lease.specs.declared.event.LeaseEvent.{LeaseEvent}
use Rattle.epoch_lease.specs.Leases.{LeaseState, lease_step}
use Rattle.epoch_lease.specs.LeaseLines.{lease_event}
use Rattle.epoch_lease.specs.LeaseTexts.{answer_text, last_text}

-- what a line says of a lease
abbrev pub said_of : LeaseState → Result LeaseEvent LineFault → Said LeaseState
said_of s (Err fault) = IsBad (event_fault fault)
said_of s (Ok event) = let x = lease_step s event in Prints (answer_text x.answer) x.state

-- a lease, as what runs over lines
abbrev pub lease_runner : Runner LeaseState LeaseState
lease_runner = record { says = λ s line. said_of s (lease_event line); tells = λ s. s }

-- the run over these lines, so many lines having gone before: what each line that is not skipped answered, the lease then, and where it ended
abbrev pub run_from : ℕ → LeaseState → List InputLine → Run LeaseState
run_from before s lines = runs_from lease_runner before s lines

-- the lease that a checkpoint of this value is opened as
abbrev pub lease_in : HardState → LeaseState
lease_in value = record { last = value.fence; records = value.records; holder = None }

-- the run over the bytes of a whole input, from a checkpoint of this value
abbrev pub run_of : HardState → List ℕ → Run LeaseState
run_of value bytes = run_from 0 (lease_in value) (lines_of bytes)

-- behind a whole input the last epoch
abbrev pub last_texts : LeaseState → List (List ℕ)
last_texts s = last_text s.last ∷ []

-- how its end is written; while its source has not ended no line has ended it
abbrev pub lease_ends : Ends LeaseState LeaseState
lease_ends = text_ends (λ ending. ending ≡ AtEnd) (λ s. last_text s.last) last_texts

-- the whole text of an input
abbrev pub text_of : HardState → List ℕ → List ℕ
text_of value bytes = concat (pieces last_texts (run_of value bytes))
