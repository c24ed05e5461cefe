-- What a part of a storm makes of what runs, said of each written world that it stands for.
use Rattle.std.specs.Prelude.{◌≡◌, ℕ, List, [], ◌∷◌, ◌++◌, Option, Some, None, Result, Ok, Err}
use Rattle.std.specs.Io.KnownBytes.{Appends}
use Rattle.fuxi_io.specs.Causes.{TakesPart}
use Rattle.fuxi_io.specs.declared.status.LimitOf.{LimitOf}
use Rattle.fuxi_io.specs.declared.status.LimitOf.TheVariants.{Lines, Packets, Bytes, Records, Calls}
use Rattle.fuxi_io.specs.declared.status.Status.{Status}
use Rattle.fuxi_io.specs.declared.status.Status.TheVariants.{Done, Usage, BadInput, ReadFault, WriteFault, Limit, OutOfMemory as NoMemory, DiskFault, StaleEpoch, DamagedCheckpoint}
use Rattle.schedule_text.specs.Writing.{IsLineEvent}
use Rattle.schedule_text.specs.declared.event.Event.{Event as LineEvent}
use Rattle.schedule_replay.specs.LineEvents.{event_as}
use Rattle.schedule_replay.specs.Worlds.{WorldRecord, IsWorld, StandsFor}
use Rattle.schedule_replay.specs.declared.stop.WorldStop.{WorldStop}
use Rattle.schedule_replay.specs.declared.stop.WorldStop.TheVariants.{TooManyPackets, PoolBytes, OutOfMemory}
use Rattle.spec_world.specs.Events.{Event, StartAgent, StartApp, TurnAgent, TurnApp}
use Rattle.spec_world.specs.World.{World}
use Rattle.storm_run.specs.declared.choices.Choice.{Choice}
use Rattle.storm_run.specs.declared.orders.PeerOrder.{PeerOrder}
use Rattle.storm_run.specs.declared.orders.PeerOrder.TheVariants as order
use Rattle.storm_run.specs.Choices.{Chosen}
use Rattle.storm_run.specs.Storms.{Storm}

-- it led to a world, and what runs stands for that
pub record RanTo (r : Result World WorldStop) (new : WorldRecord) : Type 0 where
  pub world : World
  pub is : r ≡ Ok world
  pub good : IsWorld world
  pub stands : StandsFor new world

-- it stopped at a limit that is that one; want of memory may come at any time
abbrev pub StoppedAt : {A : Type 0} → Result A WorldStop → WorldStop → Type 0
StoppedAt r (TooManyPackets kept) = r ≡ Err (TooManyPackets kept)
StoppedAt r (PoolBytes kept) = r ≡ Err (PoolBytes kept)
StoppedAt r OutOfMemory = Unit {0}

-- what runs behind a call, where it is done, and else the stop
abbrev pub outcome : WorldRecord → Result (Unit {0}) WorldStop → Result WorldRecord WorldStop
outcome new (Ok done) = Ok new
outcome new (Err stop) = Err stop

abbrev pub Ends : Result World WorldStop → Result WorldRecord WorldStop → Type 0
Ends r (Ok new) = RanTo r new
Ends r (Err stop) = StoppedAt r stop

abbrev pub Runs : (World → Result World WorldStop) → WorldRecord → Result WorldRecord WorldStop → Type 0
Runs f old result = (w : World) → IsWorld w → StandsFor old w → Ends (f w) result

-- the same of steps, with the state of the generator behind them
pub record SteppedTo (r : Result Storm WorldStop) (new : WorldRecord) (x : ℕ) : Type 0 where
  pub storm : Storm
  pub is : r ≡ Ok storm
  pub good : IsWorld storm.world
  pub stands : StandsFor new storm.world
  pub generator : x ≡ storm.generator

abbrev pub StepsEnd : Result Storm WorldStop → Result WorldRecord WorldStop → ℕ → Type 0
StepsEnd r (Ok new) x = SteppedTo r new x
StepsEnd r (Err stop) x = StoppedAt r stop

abbrev pub Steps : (World → Result Storm WorldStop) → WorldRecord → Result WorldRecord WorldStop → ℕ → Type 0
Steps f old result x = (w : World) → IsWorld w → StandsFor old w → StepsEnd (f w) result x

-- Choices: an event that may be none, and the events of a step
abbrev pub listed : Option LineEvent → List Event
listed None = []
listed (Some e) = event_as e ∷ []

abbrev pub IsLine : Option LineEvent → Type 0
IsLine None = Unit {0}
IsLine (Some e) = IsLineEvent e

abbrev pub events_in : Choice → List Event
events_in c = listed c.before ++ listed c.event

pub record AreLines (c : Choice) : Type 0 where
  pub before : IsLine c.before
  pub event : IsLine c.event

-- they are those of the definition, and so is the generator behind the draws
pub record Chooses (c : Chosen) (choice : Choice) (x : ℕ) : Type 0 where
  pub events : events_in choice ≡ c.events
  pub generator : x ≡ c.generator

-- what each of the peers is told, by its number
abbrev pub told : PeerOrder → ℕ → Event
told order.StartAgent m = StartAgent m 1
told order.StartApp a = StartApp a 1
told order.TurnAgent m = TurnAgent m
told order.TurnApp a = TurnApp a

-- The status that a stop means
abbrev pub stop_status : WorldStop → Status
stop_status (TooManyPackets kept) = Limit Packets kept
stop_status (PoolBytes kept) = Limit Bytes kept
stop_status OutOfMemory = NoMemory

-- a limit of the definition, by what it counts
abbrev pub IsLimit : Result (List ℕ) WorldStop → LimitOf → ℕ → Type 0
IsLimit r Lines kept = ⊥
IsLimit r Packets kept = r ≡ Err (TooManyPackets kept)
IsLimit r Bytes kept = r ≡ Err (PoolBytes kept)
IsLimit r Records kept = ⊥
IsLimit r Calls kept = ⊥

-- what a storm wrote that ended with a status: the whole text with Done, a part from its front after a fault of the sink, and else nothing
abbrev pub StormEnded : Result (List ℕ) WorldStop → Status → Option (List ℕ) → Option (List ℕ) → Type 0
StormEnded r Done before after = (text : List ℕ) × (r ≡ Ok text) × Appends before after text
StormEnded r WriteFault before after = (text : List ℕ) × (r ≡ Ok text) × TakesPart before after text
StormEnded r (Limit what kept) before after = IsLimit r what kept × (after ≡ before)
StormEnded r NoMemory before after = after ≡ before
StormEnded r Usage before after = ⊥
StormEnded r (BadInput line fault) before after = ⊥
StormEnded r ReadFault before after = ⊥
StormEnded r DiskFault before after = ⊥
StormEnded r (StaleEpoch fence) before after = ⊥
StormEnded r (DamagedCheckpoint offset) before after = ⊥
