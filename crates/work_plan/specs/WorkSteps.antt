-- What an event makes of what runs, and what it prints.
use Rattle.std.specs.Prelude.{◌≡◌, ℕ, ◌+◌, ◌<◌, ◌≤◌, ⊤, ◌++◌, List, drop, length, map, None, Some, Result, Ok, Err}
use Rattle.work_plan.specs.declared.event.WorkEvent.{WorkEvent}
use Rattle.work_plan.specs.Ends.{packet_of}
use Rattle.work_plan.specs.declared.ends.Parcel.{Parcel}
use Rattle.work_plan.specs.WorkEvents.{Step, numbered, work_step}
use Rattle.work_plan.specs.WorkLines.{lines_text}
use Rattle.work_plan.specs.WorkRuns.{most_work_packets, past}
use Rattle.work_plan.specs.AgentWithApps.{World}
use Rattle.work_plan.specs.WorkWorlds.{Stands}
use Rattle.work_plan.specs.declared.stop.WorkStop.{WorkStop}
use Rattle.work_plan.specs.declared.stop.WorkStop.TheVariants.{TooManyPackets, OutOfMemory}
use Rattle.work_plan.specs.declared.working.Working.{Working}

-- it stands for the world that a step leaves, and what that prints is appended
pub record StepsTo (step : Step) (new : Working) (before after : List ℕ) : Type 0 where
  pub stands : Stands new step.world
  pub text : after ≡ before ++ lines_text step.lines

abbrev pub Acts : (World → Step) → Working → Working → List ℕ → List ℕ → Type 0
Acts step old new before after = (w : World) → Stands old w → StepsTo (step w) new before after

-- an event, within the limit on packets
pub record Takes (event : WorkEvent) (new : Working) (before after : List ℕ) (w : World) : Type 0 where
  pub steps : StepsTo (work_step w event) new before after
  pub within : past w (work_step w event) ≡ None

-- why an event is not taken
abbrev pub StopsAs : (World → Step) → Working → WorkStop → Type 0
StopsAs step old (TooManyPackets kept) = (w : World) → Stands old w → past w (step w) ≡ Some kept
StopsAs step old OutOfMemory = ⊤

-- the packets behind so many are printed, and there are not too many; or there are
pub record Finishes (packets : List Parcel) (kept : ℕ) (before after : List ℕ) : Type 0 where
  pub few : length packets ≤ most_work_packets
  pub text : after ≡ before ++ lines_text (numbered (kept + 1) (drop kept (map packet_of packets)))

abbrev pub Exceeds : List Parcel → ℕ → WorkStop → Type 0
Exceeds packets kept (TooManyPackets sent) = (sent ≡ kept) × (most_work_packets < length packets)
Exceeds packets kept OutOfMemory = ⊤

-- want of memory stops a world
abbrev pub stopped : {E : Type 0} → Result (Unit {0}) E → Result (Unit {0}) WorkStop
stopped (Ok done) = Ok done
stopped (Err refusal) = Err OutOfMemory
