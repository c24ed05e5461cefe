-- What an event does to what runs, in each world that it stands for.
use Rattle.std.specs.Prelude.{◌≡◌, ℕ, ◌++◌, cond, nat_lt, List, length, Option, Some, None}
use Rattle.std.specs.List.{sum_by}
use Rattle.fuxi_terms.specs.Limits.{most_packets, most_packet_bytes}
use Rattle.spec_net.specs.Channels.{frame_length}
use Rattle.spec_world.specs.World.{World, Step}
use Rattle.spec_world.specs.Events.{Event, world_step}
use Rattle.schedule_replay.specs.declared.stop.WorldStop.{WorldStop}
use Rattle.schedule_replay.specs.declared.stop.WorldStop.TheVariants.{TooManyPackets, PoolBytes, OutOfMemory}
use Rattle.schedule_replay.specs.ReplayTexts.{lines_text}
use Rattle.schedule_replay.specs.Worlds.{WorldRecord, IsWorld, StandsFor}

-- the bytes of the frames of all packets that were sent
abbrev pub packet_bytes : World → ℕ
packet_bytes w = sum_by (frame_length w.net) w.net.packets

-- the first limit on packets that a step passes, with what there is before it
abbrev pub limit_of : World → World → Option WorldStop
limit_of w w' =
    cond (nat_lt most_packets (length w'.net.packets)) (Some (TooManyPackets (length w.net.packets)))
    (cond (nat_lt most_packet_bytes (packet_bytes w')) (Some (PoolBytes (packet_bytes w))) None)

-- a limit is answered where it is that one; want of memory may come at any time
abbrev pub Stops : Option WorldStop → WorldStop → Type 0
Stops limit (TooManyPackets kept) = limit ≡ Some (TooManyPackets kept)
Stops limit (PoolBytes kept) = limit ≡ Some (PoolBytes kept)
Stops limit OutOfMemory = Unit {0}

-- A step of the world is done: what runs then stands for the world after it, and the text of its lines is written
pub record IsDone (s : Step) (new : WorldRecord) (before after : List ℕ) : Type 0 where
  pub stands : StandsFor new s.world
  pub text : after ≡ before ++ lines_text s.lines

-- an event is done: the world after it is again one to which inputs lead
pub record IsTaken (w : World) (e : Event) (new : WorldRecord) (printed : List ℕ) : Type 0 where
  pub is : IsWorld (world_step w e).world
  pub stands : StandsFor new (world_step w e).world
  pub text : printed ≡ lines_text (world_step w e).lines
  pub limit : limit_of w (world_step w e).world ≡ None

abbrev pub Takes : Event → WorldRecord → WorldRecord → List ℕ → Type 0
Takes e old new text = (w : World) → IsWorld w → StandsFor old w → IsTaken w e new text

abbrev pub StopsAt : Event → WorldRecord → WorldStop → Type 0
StopsAt e old stop = (w : World) → IsWorld w → StandsFor old w → Stops (limit_of w (world_step w e).world) stop
