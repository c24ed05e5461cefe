-- A node's run over the lines of an input: one party, and what came in each of its rounds.
use Rattle.std.specs.Prelude.{ℕ, ◌+◌, Bool, true, false, not, nat_lt, if◌then◌else◌, List, [], ◌∷◌, ◌++◌, length, None, Result, Ok, Err}
use Rattle.fuxi_io.specs.Lines.{InputLine}
use Rattle.fuxi_io.specs.declared.status.InputFault.{InputFault}
use Rattle.fuxi_io.specs.declared.status.InputFault.TheVariants.{LineTooLong}
use Rattle.fuxi_terms.specs.Limits.{most_line_bytes, most_lines}
use Rattle.schedule_text.specs.declared.event.LineFault.{LineFault}
use Rattle.input_lines.specs.Contents.{content, is_skipped}
use Rattle.input_lines.specs.InputStatuses.{event_fault}
use Rattle.node_core.specs.Roles.{Role}
use Rattle.node_core.specs.HeardPackets.{Came}
use Rattle.node_core.specs.Rounds.{Rounded, rounded}
use Rattle.node_core.specs.declared.line.NodeLine.{NodeLine}
use Rattle.node_core.specs.declared.line.NodeLine.TheVariants.{Round as RoundLine, Serve, Show, Event}
use Rattle.node_core.specs.NodeLines.{node_line}
use Rattle.node_core.specs.PartyEvents.{Commanded, NotHere, commanded, accepts}
use Rattle.node_core.specs.NodeTexts.{answer_text, round_text, state_text}

-- a node: its party, and how many events it took
pub record Node : Type 0 where
  pub role : Role
  pub events : ℕ

-- it took one event more, and is this party then
abbrev pub then_is : Node → Role → Node
then_is n r = record { role = r; events = n.events + 1 }

-- of a round: what came in it, and whether it is marked, which is that the door failed in it
pub record Round : Type 0 where
  pub came : Came
  pub mark : Bool

-- the next of the rounds; one of which nothing is known is one in which the door failed before anything came
abbrev pub next_round : List Round → Round
next_round [] = record { came = record { packets = []; behind = None }; mark = true }
next_round (x ∷ xs) = x

abbrev pub later_rounds : List Round → List Round
later_rounds [] = []
later_rounds (x ∷ xs) = xs

-- a round that was gone through, with the party before it
pub record Played : Type 0 where
  pub role : Role
  pub round : Round

-- the party after it, its line, and what is to be written in it
abbrev pub played_as : ℕ → Played → Rounded
played_as most p = rounded (accepts p.role) most p.role p.round.came p.round.mark

-- Where a run over lines ends: at their end, at a line that is none of a node, or at the limit on lines
pub data Ending : Type 0 where
  AtEnd : Ending
  AtBadLine : (line : ℕ) → (fault : InputFault) → Ending
  AtLimit : (kept : ℕ) → Ending

-- what each line that is not skipped prints, the rounds, the node then, and where it ended
pub record Run : Type 0 where
  pub outputs : List (List ℕ)
  pub rounds : List Played
  pub node : Node
  pub ending : Ending

abbrev pub ended : Node → Ending → Run
ended n ending = record { outputs = []; rounds = []; node = n; ending = ending }

-- what a line prints, and the rounds that it is, before the rest of a run
abbrev pub behind : List ℕ → List Played → Run → Run
behind text rounds r = record { outputs = text ∷ r.outputs; rounds = rounds ++ r.rounds; node = r.node; ending = r.ending }

-- Lines. A round, where the node is of the kind that has it
abbrev pub meets : ℕ → Node → List Round → Bool → (Node → List Round → Run) → Run
meets most n rounds true run =
    let p : Played = record { role = n.role; round = next_round rounds } in
    behind (round_text (played_as most p).line) (p ∷ []) (run (then_is n (played_as most p).role) (later_rounds rounds))
meets most n rounds false run = behind (answer_text NotHere) [] (run (then_is n n.role) rounds)

-- what the line with this number says
abbrev pub takes : ℕ → ℕ → Node → List Round → Result NodeLine LineFault → (Node → List Round → Run) → Run
takes most number n rounds (Ok RoundLine) run = meets most n rounds (not (accepts n.role)) run
takes most number n rounds (Ok Serve) run = meets most n rounds (accepts n.role) run
takes most number n rounds (Ok Show) run = behind (state_text (n.events + 1) n.role) [] (run (then_is n n.role) rounds)
takes most number n rounds (Ok (Event event)) run =
    let x : Commanded = commanded n.role event in
    behind (answer_text x.answer) [] (run (then_is n x.role) rounds)
takes most number n rounds (Err fault) run = ended n (AtBadLine number (event_fault fault))

-- the party behind what a line says, of a round of which nothing is known
abbrev pub role_after : ℕ → ℕ → Node → Result NodeLine LineFault → Role
role_after most number n what = (takes most number n [] what (λ n rounds. ended n AtEnd)).node.role

-- a line in its order: the limit on lines, and its length; so many went before it
abbrev pub within_limits : ℕ → Node → InputLine → Run → Run
within_limits before n line run =
    if not (nat_lt before most_lines) then ended n (AtLimit most_lines)
    else (if nat_lt most_line_bytes (length line.bytes) then ended n (AtBadLine (before + 1) LineTooLong) else run)

-- the run over lines; a connection has at most so many packets
abbrev pub role_run : ℕ → ℕ → Node → List Round → List InputLine → Run
role_run most before n rounds [] = ended n AtEnd
role_run most before n rounds (line ∷ lines) = within_limits before n line (elim (is_skipped (content line)) [
  | true ↦ role_run most (before + 1) n rounds lines
  | false ↦ takes most (before + 1) n rounds (node_line (content line)) (λ n rounds. role_run most (before + 1) n rounds lines)
])

-- what is written in the end: the outputs, and behind a whole input the state
abbrev pub final_text : Node → Ending → List (List ℕ)
final_text n AtEnd = state_text n.events n.role ∷ []
final_text n (AtBadLine line fault) = []
final_text n (AtLimit kept) = []

abbrev pub pieces : Run → List (List ℕ)
pieces r = r.outputs ++ final_text r.node r.ending

-- where a line ends a run that says this, the rest ending there
abbrev pub ending_at : ℕ → Result NodeLine LineFault → Ending → Ending
ending_at number (Ok said) later = later
ending_at number (Err fault) later = AtBadLine number (event_fault fault)

-- where a run over lines ends, so many having gone before, whatever comes in its rounds
abbrev pub ending_from : ℕ → List InputLine → Ending
ending_from before [] = AtEnd
ending_from before (line ∷ lines) =
    if not (nat_lt before most_lines) then AtLimit most_lines
    else (if nat_lt most_line_bytes (length line.bytes) then AtBadLine (before + 1) LineTooLong else elim (is_skipped (content line)) [
      | true ↦ ending_from (before + 1) lines
      | false ↦ ending_at (before + 1) (node_line (content line)) (ending_from (before + 1) lines)
    ])
