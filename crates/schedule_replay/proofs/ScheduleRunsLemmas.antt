-- What the line of an event makes of a run, and how a run is written that ends.
use Rattle.std.proofs.Common.{◌≡◌, inl, inr, ℕ, ◌+◌, ◌<◌, ◌≤◌, false, List, ◌∷◌, length, Option, None, Some, Ok, Err, refl, ◌∙◌, ap}
use Rattle.fuxi_io.specs.Lines.{InputLine}
use Rattle.fuxi_io.specs.declared.status.InputFault.TheVariants.{NoCluster}
use Rattle.fuxi_io.specs.declared.status.LimitOf.TheVariants.{Packets, Bytes}
use Rattle.fuxi_terms.specs.Limits.{most_line_bytes, most_lines}
use Rattle.schedule_text.specs.ReadEvents.{event_of}
use Rattle.schedule_text.specs.declared.event.Event.{Event as LineEvent}
use Rattle.schedule_text.specs.declared.event.LineFault.{LineFault}
use Rattle.schedule_replay.specs.declared.stop.WorldStop.{WorldStop}
use Rattle.schedule_replay.specs.declared.stop.WorldStop.TheVariants.{TooManyPackets, PoolBytes, OutOfMemory as WantOfMemory}
use Rattle.schedule_replay.specs.LineEvents.{event_as}
use Rattle.schedule_replay.specs.WorldSteps.{limit_of}
use Rattle.schedule_replay.specs.ReplayTexts.{lines_text}
use Rattle.spec_world.specs.World.{World}
use Rattle.spec_world.specs.Events.{world_step}
use Rattle.spec_world.specs.Show.{show}
use Rattle.input_lines.specs.Contents.{content, is_skipped}
use Rattle.input_lines.specs.LineProgress.{WritesItsEnd}
use Rattle.input_lines.specs.LineRuns.{Ending, AtBadLine, AtLimit, Run, IsBad, Prints, ended, behind, with_said}
use Rattle.input_lines.specs.OpenedRuns.{IsOpen}
use Rattle.input_lines.specs.InputStatuses.{event_fault}
use Rattle.input_lines.specs.Wholes.{TakesLines}
use Rattle.input_lines.proofs.LineRunsLemmas.{ends_with_text, run_said}
use Rattle.schedule_replay.specs.ScheduleRuns.{past_of, run_from, said_of, state_texts, unless_past, world_ends, world_runner}

-- where a run ends at an event that would pass a limit
abbrev pub ending_at : WorldStop → Ending
ending_at (TooManyPackets kept) = AtLimit Packets kept
ending_at (PoolBytes kept) = AtLimit Bytes kept
ending_at WantOfMemory = AtLimit Bytes 0

ends_past : (number : ℕ) (w : World) (stop : WorldStop) (run : World → Run (Option World)) → with_said world_runner number w (past_of stop) run ≡ ended (Some w) (ending_at stop)
ends_past number w (TooManyPackets kept) run = refl
ends_past number w (PoolBytes kept) run = refl
ends_past number w WantOfMemory run = refl

-- a line that is no event, an event that would pass a limit, and one that is taken
module _ (before : ℕ) (w : World) (line : InputLine) (lines : List InputLine) (more : before < most_lines) (short : length line.bytes ≤ most_line_bytes) where
  pub run_bad : is_skipped (content line) ≡ false → (fault : LineFault) → event_of (content line) ≡ Err fault → run_from before w (line ∷ lines) ≡ ended (Some w) (AtBadLine (before + 1) (event_fault fault))
  run_bad skip fault is = run_said world_runner before w line lines more short skip (IsBad (event_fault fault)) (ap (said_of w) is)

  pub run_past : is_skipped (content line) ≡ false → (event : LineEvent) → event_of (content line) ≡ Ok event → (stop : WorldStop) → limit_of w (world_step w (event_as event)).world ≡ Some stop
      → run_from before w (line ∷ lines) ≡ ended (Some w) (ending_at stop)
  run_past skip event is stop past =
      run_said world_runner before w line lines more short skip (past_of stop) (ap (said_of w) is ∙ ap (unless_past (world_step w (event_as event))) past) ∙ ends_past (before + 1) w stop (λ v. run_from (before + 1) v lines)

  pub run_taken : is_skipped (content line) ≡ false → (event : LineEvent) → event_of (content line) ≡ Ok event → limit_of w (world_step w (event_as event)).world ≡ None
      → run_from before w (line ∷ lines) ≡ behind (lines_text (world_step w (event_as event)).lines) (run_from (before + 1) (world_step w (event_as event)).world lines)
  run_taken skip event is free =
      let s = world_step w (event_as event) in
      run_said world_runner before w line lines more short skip (Prints (lines_text s.lines) s.world) (ap (said_of w) is ∙ ap (unless_past s) free)

-- behind its outputs stands the state
pub ends_with_state : TakesLines → WritesItsEnd world_runner world_ends
ends_with_state laws = ends_with_text laws world_runner IsOpen (λ w. lines_text (show w)) state_texts (λ w. refl) (inl refl)

pub may_be_unread : (line : ℕ) → IsOpen (AtBadLine line NoCluster)
may_be_unread line = inr (line, refl)
