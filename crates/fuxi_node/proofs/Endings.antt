-- Where a run over lines ends, whatever comes in its rounds.
use Rattle.std.proofs.Common.{◌≡◌, ℕ, ◌+◌, Bool, true, false, not, nat_lt, if◌then◌else◌, List, [], ◌∷◌, length, Result, Ok, Err, refl}
use Rattle.fuxi_io.specs.Lines.{InputLine}
use Rattle.fuxi_io.specs.declared.status.InputFault.TheVariants.{LineTooLong}
use Rattle.fuxi_terms.specs.Limits.{most_line_bytes, most_lines}
use Rattle.schedule_text.specs.declared.event.LineFault.{LineFault}
use Rattle.input_lines.specs.Contents.{content, is_skipped}
use Rattle.node_core.specs.declared.line.NodeLine.{NodeLine}
use Rattle.node_core.specs.declared.line.NodeLine.TheVariants.{Round as RoundLine, Serve, Show, Event}
use Rattle.node_core.specs.NodeLines.{node_line}
use Rattle.node_core.specs.PartyEvents.{commanded, accepts}
use Rattle.fuxi_node.specs.NodeRuns.{Node, Round, Run, Ending, AtBadLine, AtLimit, then_is, ended, meets, takes, role_run, ending_at, ending_from}

-- a line that the rest of the run goes on behind
module _ (most : ℕ) (n : Node) (rounds : List Round) (run : Node → List Round → Run) (e : Ending) (rest : (m : Node) (rs : List Round) → (run m rs).ending ≡ e) where
  meets_end : (is_own : Bool) → (meets most n rounds is_own run).ending ≡ e
  meets_end true = rest _ _
  meets_end false = rest _ _

  takes_end : (number : ℕ) (what : Result NodeLine LineFault) → (takes most number n rounds what run).ending ≡ ending_at number what e
  takes_end number (Ok RoundLine) = meets_end (not (accepts n.role))
  takes_end number (Ok Serve) = meets_end (accepts n.role)
  takes_end number (Ok Show) = rest (then_is n n.role) rounds
  takes_end number (Ok (Event event)) = rest (then_is n (commanded n.role event).role) rounds
  takes_end number (Err fault) = refl

line_end : (most before : ℕ) (n : Node) (rounds : List Round) (line : InputLine) (lines : List InputLine) → ((m : Node) (rs : List Round) → (role_run most (before + 1) m rs lines).ending ≡ ending_from (before + 1) lines)
    → (role_run most before n rounds (line ∷ lines)).ending ≡ ending_from before (line ∷ lines)
line_end most before n rounds line lines rest = by_limit (nat_lt before most_lines) (nat_lt most_line_bytes (length line.bytes))
  where
    by_skip : (b : Bool) → (elim b as (λ _. Run) [
      | true ↦ role_run most (before + 1) n rounds lines
      | false ↦ takes most (before + 1) n rounds (node_line (content line)) (λ n rounds. role_run most (before + 1) n rounds lines)
    ]).ending ≡ elim b as (λ _. Ending) [
      | true ↦ ending_from (before + 1) lines
      | false ↦ ending_at (before + 1) (node_line (content line)) (ending_from (before + 1) lines)
    ]
    by_skip true = rest n rounds
    by_skip false = takes_end most n rounds (λ n rounds. role_run most (before + 1) n rounds lines) (ending_from (before + 1) lines) rest (before + 1) (node_line (content line))

    by_limit : (few long : Bool) → (if not few then ended n (AtLimit most_lines) else (if long then ended n (AtBadLine (before + 1) LineTooLong) else (elim (is_skipped (content line)) as (λ _. Run) [
      | true ↦ role_run most (before + 1) n rounds lines
      | false ↦ takes most (before + 1) n rounds (node_line (content line)) (λ n rounds. role_run most (before + 1) n rounds lines)
    ]))).ending ≡ (if not few then AtLimit most_lines else (if long then AtBadLine (before + 1) LineTooLong else (elim (is_skipped (content line)) as (λ _. Ending) [
      | true ↦ ending_from (before + 1) lines
      | false ↦ ending_at (before + 1) (node_line (content line)) (ending_from (before + 1) lines)
    ])))
    by_limit false long = refl
    by_limit true true = refl
    by_limit true false = by_skip (is_skipped (content line))

pub run_ends : (most before : ℕ) (n : Node) (rounds : List Round) (lines : List InputLine) → (role_run most before n rounds lines).ending ≡ ending_from before lines
run_ends most before n rounds [] = refl
run_ends most before n rounds (line ∷ lines) = line_end most before n rounds line lines (λ m rs. run_ends most (before + 1) m rs lines)
