-- A run leads from world to world by events that lines can give.
use Rattle.std.proofs.Common.{◌≡◌, ℕ, ◌+◌, Bool, true, false, not, nat_eq, nat_lt, if◌then◌else◌, List, [], ◌∷◌, length, take, Option, Some, None, Result, Ok, Err, IfOk}
use Rattle.fuxi_io.specs.Lines.{InputLine, lines_of}
use Rattle.fuxi_io.specs.declared.status.InputFault.TheVariants.{LineTooLong}
use Rattle.fuxi_io.specs.declared.status.LimitOf.TheVariants.{Lines}
use Rattle.fuxi_terms.specs.Limits.{most_line_bytes, most_lines}
use Rattle.input_lines.specs.Contents.{content, is_skipped}
use Rattle.input_lines.specs.LineRuns.{AtBadLine, AtLimit, Run, ended, with_said, within_limits}
use Rattle.schedule_text.specs.declared.event.LineFault.{LineFault}
use Rattle.work_plan.specs.ReadWorkEvents.{work_of}
use Rattle.work_plan.specs.declared.event.WorkEvent.{WorkEvent}
use Rattle.work_plan.specs.WorkEvents.{work_step}
use Rattle.work_plan.specs.GivenEvents.{IsGiven}
use Rattle.work_plan.specs.WorkRuns.{past}
use Rattle.work_plan.specs.WorkStates.{AllRun, IsReached, AtStart, After}
use Rattle.work_plan.specs.AgentWithApps.{World, empty_world}
use Rattle.work_plan.specs.WorkLineRuns.{run_from, said_of, unless_past, work_runner}
use Rattle.work_plan.specs.WorkRunStates.{AllPlanned}

reached_within : (before : ℕ) (w : World) (line : InputLine) (run : Run World) → IsReached w → IsReached run.state → IsReached (within_limits before w line run).state
reached_within before w line run here there = counted (not (nat_lt before most_lines)) (nat_lt most_line_bytes (length line.bytes))
  where
    counted : (many long : Bool) → IsReached (if many then ended w (AtLimit Lines most_lines) else (if long then ended w (AtBadLine (before + 1) LineTooLong) else run)).state
    counted true long = here
    counted false true = here
    counted false false = there

reached_past : (number : ℕ) (w : World) (e : WorkEvent) (limit : Option ℕ) (run : World → Run World) → IsReached w → IsGiven e → ((v : World) → IsReached v → IsReached (run v).state) → IsReached (with_said work_runner number w (unless_past (work_step w e) limit) run).state
reached_past number w e (Some kept) run here given go = here
reached_past number w e None run here given go = go (work_step w e).world (After w e here given)

reached_by : (number : ℕ) (w : World) (said : Result WorkEvent LineFault) (run : World → Run World) → IsReached w → IfOk said IsGiven → ((v : World) → IsReached v → IsReached (run v).state) → IsReached (with_said work_runner number w (said_of w said) run).state
reached_by number w (Ok e) run here given go = reached_past number w e (past w (work_step w e)) run here given go
reached_by number w (Err fault) run here given go = here

reached_skip : (b : Bool) (skipped plain : Run World) → IsReached skipped.state → IsReached plain.state → IsReached (elim b as (λ _. Run World) [ true ↦ skipped | false ↦ plain ]).state
reached_skip true skipped plain h k = h
reached_skip false skipped plain h k = k

module _ (given : (line : List ℕ) → IfOk (work_of line) IsGiven) where
  run_reached : (lines : List InputLine) (before : ℕ) (w : World) → IsReached w → IsReached (run_from before w lines).state
  run_reached [] before w here = here
  run_reached (line ∷ lines) before w here =
      let more = λ (v : World) (h : IsReached v). run_reached lines (before + 1) v h in
      reached_within before w line _ here
      (reached_skip (is_skipped (content line)) (run_from (before + 1) w lines) (with_said work_runner (before + 1) w (work_runner.says w (content line)) (λ v. run_from (before + 1) v lines))
      (more w here) (reached_by (before + 1) w (work_of (content line)) (λ v. run_from (before + 1) v lines) here (given (content line)) more))

  pub all_planned : ((w : World) → IsReached w → nat_eq w.agent 0 ≡ false → AllRun w) → (bytes : List ℕ) → AllPlanned bytes
  all_planned law bytes = record { each = λ n runs. law _ (run_reached (take n (lines_of bytes)) 0 empty_world AtStart) runs }
