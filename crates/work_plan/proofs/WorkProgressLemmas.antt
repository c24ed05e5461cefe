-- What the line of an event makes of the world, and how a run is written that ends.
use Rattle.std.proofs.Common.{◌≡◌, inl, inr, ℕ, false, List, [], Option, Ok, Err, refl, sym, ◌∙◌, ap, subst}
use Rattle.std.specs.Io.KnownBytes.{Appends}
use Rattle.fuxi_io.specs.Causes.{TakesPart}
use Rattle.fuxi_io.specs.declared.status.Status.TheVariants.{WriteFault}
use Rattle.input_lines.specs.Contents.{is_skipped}
use Rattle.input_lines.specs.LineProgress.{IsTaken, WritesItsEnd}
use Rattle.input_lines.specs.LineRuns.{AtEnd, Prints}
use Rattle.input_lines.specs.RunEnds.{Faults, AllServed, CanEnd}
use Rattle.input_lines.specs.Wholes.{TakesLines}
use Rattle.input_lines.proofs.LineRunsLemmas.{ends_with_text}
use Rattle.input_lines.proofs.RunEndsLemmas.{Within}
use Rattle.work_plan.specs.ReadWorkEvents.{work_of}
use Rattle.work_plan.specs.WorkSteps.{StopsAs, Takes}
use Rattle.work_plan.specs.WorkWorlds.{Stands}
use Rattle.work_plan.specs.declared.stop.WorkStop.{WorkStop}
use Rattle.work_plan.specs.declared.stop.WorkStop.TheVariants.{TooManyPackets, OutOfMemory as WantOfMemory}
use Rattle.work_plan.specs.declared.working.Working.{Working}
use Rattle.work_plan.specs.declared.event.WorkEvent.{WorkEvent}
use Rattle.work_plan.specs.WorkEvents.{show, work_step}
use Rattle.work_plan.specs.WorkLines.{lines_text}
use Rattle.work_plan.specs.AgentWithApps.{World}
use Rattle.work_plan.specs.WorkProgress.{TakesLine, line_causes, state_causes, world_status}
use Rattle.work_plan.specs.WorkLineRuns.{said_of, state_texts, unless_past, work_causes, work_plan, work_runner}

-- behind its outputs stands the state
pub ends_with_state : TakesLines → WritesItsEnd work_runner work_plan
ends_with_state laws = ends_with_text laws work_runner (λ ending. ending ≡ AtEnd) (λ w. lines_text (show w)) state_texts (λ w. refl) refl

-- the causes of a line and of the end are among those of the run
pub line_within : Within line_causes work_causes
line_within = record { usage = λ c. c; bad = λ line fault c. c; limit = λ what kept packets. inl packets; memory = λ c. c; stale = λ fence c. c; damaged = λ offset c. c }

pub state_within : Within state_causes work_causes
state_within = record { usage = λ c. c; bad = λ line fault c. absurd c; limit = λ what kept c. absurd c; memory = λ c. c; stale = λ fence c. c; damaged = λ offset c. c }

-- the world stopped
pub world_ends : (faults : Faults) (stop : WorkStop) → AllServed faults → CanEnd line_causes faults (world_status stop)
world_ends faults (TooManyPackets kept) served = (refl, served)
world_ends faults WantOfMemory served = (tt, served)

module _ (line : List ℕ) (number : ℕ) (w : World) (event : WorkEvent) (new : Working) (unskipped : is_skipped line ≡ false) (is : work_of line ≡ Ok event) where
  -- the world stopped at the event of a line
  pub stopped_at : (old : Working) (took : Option (List ℕ)) (stop : WorkStop) → Stands old w → StopsAs (λ v. work_step v event) old stop → TakesLine new line number w (Err (world_status stop)) took took
  stopped_at old took (TooManyPackets kept) stands past = (unskipped, ap (said_of w) is ∙ ap (unless_past (work_step w event)) (past w stands), refl)
  stopped_at old took WantOfMemory stands past = (unskipped, refl)

  -- the event of a line was made, and its lines were written, or a part of them
  module _ (text bytes : List ℕ) (before after : Option (List ℕ)) (takes : Takes event new [] text w) (same : bytes ≡ text) where
    prints : IsTaken work_runner.says (Stands new) line w text
    prints =
        let s = work_step w event in
        record {
          after = s.world;
          is = ap (said_of w) is ∙ ap (unless_past s) takes.within ∙ ap (λ t. Prints t s.world) (sym takes.steps.text);
          stands = takes.steps.stands;
        }

    pub took_line : Appends before after bytes → TakesLine new line number w (Ok tt) before after
    took_line writes = inr (unskipped, (text, prints, subst (Appends before after) same writes))

    pub took_part : TakesPart before after bytes → TakesLine new line number w (Err WriteFault) before after
    took_part writes = (unskipped, (text, prints, subst (TakesPart before after) same writes))
