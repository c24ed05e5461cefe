-- The masters that run, in their slots: starts, stops and commands in each world that they stand in.
use Rattle.std.specs.Prelude.{◌≡◌, ℕ, ◌<◌, Bool, List, [], map, Option, Some, None, is_some, Result, OnOk}
use Rattle.std.specs.Ordering.{nat_cmp}
use Rattle.std.specs.FinMap.Entries.{find}
use Rattle.fuxi_io.specs.Disks.{Told}
use Rattle.fuxi_terms.specs.Cluster.{ClusterRecord}
use Rattle.spec_roles.specs.HardState.{HardState}
use Rattle.spec_roles.specs.Masters.{Master}
use Rattle.spec_roles.specs.MasterRoles.{master_started}
use Rattle.spec_roles.specs.MasterSteps.{MasterCommand}
use Rattle.spec_roles.specs.Refusals.{Refusal as WrittenRefusal, NotRunning}
use Rattle.spec_world.specs.World.{World, refused}
use Rattle.spec_world.specs.Good.{Good}
use Rattle.spec_world.specs.Events.{commanded, stop_master, without_master}
use Rattle.spec_refinement.specs.SeenWorlds.{master_seen}
use Rattle.hard_state.specs.HardFiles.{Kept, IsAtRest}
use Rattle.fuxi_master.specs.Cores.{CoreRecord, MasterRecord, StandsFor}
use Rattle.schedule_text.specs.Printing.{as_refusal}
use Rattle.schedule_text.specs.declared.refusal.Refusal.{Refusal}
use Rattle.spec_refinement.specs.SeenParties.{Role, OfMaster, OfAgent, OfApp, Masters, Acts, master_after}
use Rattle.running_parties.specs.Slots.{SlotsRecord, AreOf}

abbrev pub MasterStands : MasterRecord → Role → Type 0
MasterStands m (OfMaster r) = StandsFor m.core r
MasterStands m (OfAgent r) = ⊥
MasterStands m (OfApp r) = ⊥

abbrev pub master_steps : MasterRecord → ℕ
master_steps m = m.steps

abbrev pub AreMastersOf : World → SlotsRecord MasterRecord → Type 0
AreMastersOf w x = AreOf MasterStands Masters w x

-- who runs in the world, for whom a core stands
pub record MasterRunsAs (w : World) (e : ℕ) (core : CoreRecord) : Type 0 where
  pub master : Master
  pub runs : find nat_cmp e w.masters ≡ Some master
  pub stands : StandsFor core (master_seen w master)

abbrev pub MasterAt : World → ℕ → Option MasterRecord → Type 0
MasterAt w e None = find nat_cmp e w.masters ≡ None
MasterAt w e (Some m) = MasterRunsAs w e m.core

-- the epochs of those that run in the world, in order
abbrev pub epochs_of : {A : Type 0} → List (ℕ × A) → List ℕ
epochs_of ms = map (λ e. e.0) ms

-- A start above the fence, with the hard state that it has written
pub record MasterStartsIn (w : World) (h : HardState) (e : ℕ) (new : SlotsRecord MasterRecord) : Type 0 where
  pub stand : AreMastersOf (master_after w h e) new
  pub acts : Acts w (master_after w h e) Masters e (OfMaster (master_started w.cluster h e)) []

abbrev pub MasterStartInWorld : ClusterRecord → HardState → ℕ → SlotsRecord MasterRecord → SlotsRecord MasterRecord → Type 0
MasterStartInWorld c h e old new = (w : World) → Good w → AreMastersOf w old → c ≡ w.cluster → w.hard.fence < e → MasterStartsIn w h e new

-- A stop, and whether one ran. Those that are left stand too in the world without that master over any hard state
pub record StopsIn (w : World) (e : ℕ) (new : SlotsRecord MasterRecord) (stopped : Bool) : Type 0 where
  pub stand : AreMastersOf (stop_master w e).world new
  pub left : (h : HardState) → AreMastersOf (without_master w e h) new
  pub answers : stopped ≡ is_some (find nat_cmp e w.masters)

abbrev pub StopInWorld : ℕ → SlotsRecord MasterRecord → SlotsRecord MasterRecord → Bool → Type 0
StopInWorld e old new stopped = (w : World) → AreMastersOf w old → StopsIn w e new stopped

-- Commands. There is a good world in which the masters stand, with this hard state
pub record AreMastersOver (h : HardState) (x : SlotsRecord MasterRecord) : Type 0 where
  pub world : World
  pub good : Good world
  pub stand : AreMastersOf world x
  pub hard : h ≡ world.hard

-- One that is done: the masters stand in the world after it, whose hard state this is; nothing is printed, and all others see what they saw
pub record CommandDoneIn (w : World) (e : ℕ) (x : MasterCommand) (h : HardState) (new : SlotsRecord MasterRecord) : Type 0 where
  pub stand : AreMastersOf (commanded w e x).world new
  pub role : Role
  pub acts : Acts w (commanded w e x).world Masters e role []
  pub hard : h ≡ (commanded w e x).world.hard
  pub quiet : (commanded w e x).lines ≡ []

-- one that is refused: the masters stand where they stood, and the hard state is as it was
pub record CommandRefusedIn (w : World) (e : ℕ) (x : MasterCommand) (h : HardState) (new : SlotsRecord MasterRecord) (why : WrittenRefusal) : Type 0 where
  pub same : commanded w e x ≡ refused w why
  pub stand : AreMastersOf w new
  pub hard : h ≡ w.hard

abbrev pub ObeysOneIn : World → ℕ → MasterCommand → HardState → SlotsRecord MasterRecord → Option (Option Refusal) → Type 0
ObeysOneIn w e x h new None = CommandRefusedIn w e x h new NotRunning
ObeysOneIn w e x h new (Some None) = CommandDoneIn w e x h new
ObeysOneIn w e x h new (Some (Some why)) = CommandRefusedIn w e x h new (as_refusal why)

-- with the hard state before it and after it
abbrev pub ObeyInWorld : ℕ → MasterCommand → HardState → HardState → SlotsRecord MasterRecord → SlotsRecord MasterRecord → Option (Option Refusal) → Type 0
ObeyInWorld e x h k old new answer = (w : World) → Good w → AreMastersOf w old → h ≡ w.hard → ObeysOneIn w e x k new answer

-- a checkpoint at rest is so again once the command is answered
abbrev pub RestsAgain : {A E : Type 0} → Kept → Kept → Result A E → Told → Told → Type 0
RestsAgain before after result old new = IsAtRest before old.now → OnOk result (IsAtRest after new.now)
