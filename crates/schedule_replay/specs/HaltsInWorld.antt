-- What a stop within the writing of a line does, in each world that the hard state and the masters are of.
use Rattle.std.specs.Prelude.{◌≡◌, ◌≤◌, ℕ, [], ◌∷◌, Ok, Err}
use Rattle.fuxi_terms.specs.Cluster.{ClusterRecord}
use Rattle.spec_roles.specs.HardState.{HardState, HardEvent, hard_step}
use Rattle.spec_roles.specs.MasterSteps.{MasterCommand}
use Rattle.spec_roles.specs.Refusals.{Refusal}
use Rattle.spec_world.specs.World.{World, Step, prints_nothing, refused}
use Rattle.spec_world.specs.Events.{Event, Halt, act, commanded, writer_of}
use Rattle.schedule_text.specs.declared.output.Output.{Output}
use Rattle.schedule_text.specs.Printing.{as_line}
use Rattle.schedule_replay.specs.declared.halts.Stop.{Stop}
use Rattle.schedule_replay.specs.MasterCommands.{Governing, IsGoverned, IsGoverning}

-- behind one of the four calls of a writing
pub record IsWithin (stop : Stop) : Type 0 where
  pub some : 1 ≤ stop.calls
  pub few : stop.calls ≤ 4

-- A step that is refused as a writing by the master of an epoch is, and else is done with what is written
pub record WritesAs (w : World) (s : Step) (e : ℕ) (v : HardEvent) : Type 0 where
  pub fails : (r : Refusal) → hard_step w.hard e v ≡ Err r → s ≡ refused w r
  pub done : (k : HardState) → hard_step w.hard e v ≡ Ok k → (s.world.hard ≡ k) × (s.lines ≡ [])

-- A stop, done or refused, prints this line, and the parts are those of the world behind it; no packet is sent, and all other parties see what they saw
pub record IsHalted (w : World) (s : Step) (new : Governing) (line : Output) : Type 0 where
  pub parts : IsGoverned w (prints_nothing s.world) new
  pub lines : s.lines ≡ as_line line ∷ []

-- the stop of the master that a line names, within the writing of that line, on this cluster
abbrev pub Halts : ClusterRecord → Event → Stop → Governing → Governing → Output → Type 0
Halts c x stop old new line = (w : World) → c ≡ w.cluster → IsGoverning w old → IsHalted w (act w (Halt stop.calls stop.all x)) new line

-- of whatever line commands the master of this epoch so
abbrev pub HaltsCommand : ClusterRecord → ℕ → MasterCommand → Stop → Governing → Governing → Output → Type 0
HaltsCommand c e command stop old new line = (w : World) (x : Event) → c ≡ w.cluster → IsGoverning w old → writer_of x ≡ e → act w x ≡ commanded w e command → IsHalted w (act w (Halt stop.calls stop.all x)) new line

-- of whatever line names the master of this epoch and does what this writing does
abbrev pub HaltsWithin : ℕ → HardEvent → Stop → Governing → Governing → Output → Type 0
HaltsWithin e v stop old new line = (w : World) (x : Event) → IsGoverning w old → writer_of x ≡ e → WritesAs w (act w x) e v → IsHalted w (act w (Halt stop.calls stop.all x)) new line
