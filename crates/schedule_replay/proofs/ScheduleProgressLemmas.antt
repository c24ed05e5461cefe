-- What a line of an event makes of the world, and of the run where the world stops.
use Rattle.std.proofs.Common.{◌≡◌, inl, inr, ℕ, false, List, Option, None, Some, Ok, Err, refl, sym, ◌∙◌, ap, subst}
use Rattle.std.specs.Io.KnownBytes.{Appends}
use Rattle.fuxi_io.specs.Causes.{TakesPart}
use Rattle.fuxi_io.specs.WriteBuffers.{with_waiting, TakesWaiting}
use Rattle.fuxi_io.specs.declared.status.Status.TheVariants.{WriteFault}
use Rattle.schedule_text.specs.ReadEvents.{event_of}
use Rattle.schedule_text.specs.declared.event.Event.{Event as LineEvent}
use Rattle.schedule_replay.specs.declared.stop.WorldStop.{WorldStop}
use Rattle.schedule_replay.specs.declared.stop.WorldStop.TheVariants.{TooManyPackets, PoolBytes, OutOfMemory as WantOfMemory}
use Rattle.schedule_replay.specs.LineEvents.{event_as}
use Rattle.schedule_replay.specs.WorldSteps.{IsTaken, limit_of, Stops}
use Rattle.schedule_replay.specs.Worlds.{WorldRecord}
use Rattle.spec_world.specs.World.{World}
use Rattle.spec_world.specs.Events.{world_step}
use Rattle.input_lines.specs.Contents.{is_skipped}
use Rattle.input_lines.specs.LineProgress.{IsTaken as IsLineTaken, Flushes}
use Rattle.input_lines.specs.LineRuns.{Prints}
use Rattle.schedule_replay.specs.ScheduleProgress.{Stands, TakesLine, world_status}
use Rattle.schedule_replay.specs.ScheduleRuns.{said_of, unless_past, world_runner}

module _ (line : List ℕ) (number : ℕ) (w : World) (event : LineEvent) (new : WorldRecord) (unskipped : is_skipped line ≡ false) (is : event_of line ≡ Ok event) where
  -- the world stopped at the event of a line
  pub stopped_at : (took : Option (List ℕ)) (stop : WorldStop) → Stops (limit_of w (world_step w (event_as event)).world) stop → TakesLine new line number w (Err (world_status stop)) took took
  stopped_at took (TooManyPackets kept) past = (unskipped, ap (said_of w) is ∙ ap (unless_past (world_step w (event_as event))) past, refl)
  stopped_at took (PoolBytes kept) past = (unskipped, ap (said_of w) is ∙ ap (unless_past (world_step w (event_as event))) past, refl)
  stopped_at took WantOfMemory past = (unskipped, refl)

  -- the event of a line was made, and its lines were written, or a part of them
  module _ (text bytes : List ℕ) (before after : Option (List ℕ)) (taken : IsTaken w (event_as event) new text) (same : bytes ≡ text) where
    prints : IsLineTaken world_runner.says (Stands new) line w text
    prints =
        let s = world_step w (event_as event) in
        record {
          after = s.world;
          is = ap (said_of w) is ∙ ap (unless_past s) taken.limit ∙ ap (λ t. Prints t s.world) (sym taken.text);
          stands = record { is = taken.is; stands = taken.stands };
        }

    pub took_line : Appends before after bytes → TakesLine new line number w (Ok tt) before after
    took_line writes = inr (unskipped, (text, prints, subst (Appends before after) same writes))

    pub took_part : TakesPart before after bytes → TakesLine new line number w (Err WriteFault) before after
    took_part writes = (unskipped, (text, prints, subst (TakesPart before after) same writes))

appends_waiting : (took : Option (List ℕ)) (waiting : List ℕ) → Appends took (with_waiting took waiting) waiting
appends_waiting None waiting = tt
appends_waiting (Some p) waiting = refl

-- a part of what waited was taken, or all of it and a part of what the event printed
pub breaks_line : (line : List ℕ) (number : ℕ) (event : LineEvent) (old new : WorldRecord) → is_skipped line ≡ false → event_of line ≡ Ok event → (text bytes : List ℕ) (took after : Option (List ℕ)) (waiting : List ℕ)
    → ((w : World) → Stands old w → IsTaken w (event_as event) new text) → bytes ≡ text → TakesWaiting took waiting bytes after
    → Flushes waiting WriteFault took after (λ mid. (w : World) → Stands old w → TakesLine new line number w (Err WriteFault) mid after)
breaks_line line number event old new unskipped is text bytes took after waiting taken same (inl part) = inl (refl, part)
breaks_line line number event old new unskipped is text bytes took after waiting taken same (inr part) =
    inr (with_waiting took waiting, appends_waiting took waiting, λ w s. took_part line number w event new unskipped is text bytes (with_waiting took waiting) after (taken w s) same part)
