-- The parties of one kind that run, each by its number, and what they are in a world.
use Rattle.std.specs.Prelude.{◌≡◌, ⊤, ℕ, ◌<◌, ◌≤◌, Bool, true, false, nat_eq, List, [], map, Option, Some, None, is_some, IfSome, Result, Ok, Err, slice_get}
use Rattle.std.specs.Ordering.{nat_cmp}
use Rattle.std.specs.BTreeMap.{is_at}
use Rattle.std.specs.Map.{lookup}
use Rattle.fuxi_terms.specs.Limits.{most_steps}
use Rattle.party_ledgers.specs.declared.packets.Heard.{Heard}
use Rattle.party_ledgers.specs.declared.packets.Packet.{Packet}
use Rattle.peer_channel.specs.Parcels.{parcel_is}
use Rattle.spec_net.specs.Net.{Packet as WrittenPacket, Heard as WrittenHeard}
use Rattle.spec_roles.specs.Refusals.{Refusal, NotRunning}
use Rattle.spec_world.specs.World.{World, Step, refused}
use Rattle.spec_world.specs.Good.{Good}
use Rattle.spec_world.specs.Events.{addressed, heard_by}
use Rattle.spec_world.specs.Outputs.{Line}
use Rattle.spec_refinement.specs.SeenWorlds.{parcel_of}
use Rattle.spec_refinement.specs.Leading.{AllLead}
use Rattle.spec_refinement.specs.SeenParties.{Kind, Role, IsFor, boot_of, seen, Acts, Starts, IsRuled, turn_of, turn_lines, resync_of}

-- by number, in the order of the numbers: the core of its party, none while that acts, and the last boot
pub record SlotsRecord (P : Type 0) : Type 0 where
  pub slots : List (ℕ × (Option P × ℕ))

module _ {P : Type 0} where
  abbrev pub entry_at : SlotsRecord P → ℕ → Option (Option P × ℕ)
  entry_at x n = lookup (is_at (nat_cmp n)) x.slots

  abbrev pub party_in : Option (Option P × ℕ) → Option P
  party_in None = None
  party_in (Some slot) = slot.0

  abbrev pub boot_in : Option (Option P × ℕ) → ℕ
  boot_in None = 0
  boot_in (Some slot) = slot.1

  -- what is there of a number, and its last boot, 0 where none ever ran
  abbrev pub slot_at : SlotsRecord P → ℕ → Option P
  slot_at x n = party_in (entry_at x n)

  abbrev pub boot_at : SlotsRecord P → ℕ → ℕ
  boot_at x n = boot_in (entry_at x n)

  -- one slot alone is this one then, or there is none
  pub record IsNow (n : ℕ) (e : Option (Option P × ℕ)) (old new : SlotsRecord P) : Type 0 where
    pub here : entry_at new n ≡ e
    pub others : (m : ℕ) → nat_eq n m ≡ false → entry_at new m ≡ entry_at old m

  -- it has this core and boot, is as it was, or is gone
  abbrev pub IsSet : ℕ → Option P → ℕ → SlotsRecord P → SlotsRecord P → Type 0
  IsSet n o b old new = IsNow n (Some (o, b)) old new

  abbrev pub IsStill : ℕ → SlotsRecord P → SlotsRecord P → Type 0
  IsStill n old new = IsNow n (entry_at old n) old new

  abbrev pub IsGone : ℕ → SlotsRecord P → SlotsRecord P → Type 0
  IsGone n old new = IsNow n None old new

  -- What the party of a number does alone, and its slot: the core that it becomes, with an answer
  pub record IsActed {A E : Type 0} (does : P → Result (P × A) E → Type 0) (n : ℕ) (old new : SlotsRecord P) (answer : A) : Type 0 where
    pub before : P
    pub was : slot_at old n ≡ Some before
    pub after : P
    pub made : does before (Ok (after, answer))
    pub now : IsSet n (Some after) (boot_at old n) old new

  -- or it fails, and its core is gone
  pub record IsFailed {A E : Type 0} (does : P → Result (P × A) E → Type 0) (n : ℕ) (old new : SlotsRecord P) (fault : E) : Type 0 where
    pub before : P
    pub was : slot_at old n ≡ Some before
    pub made : does before (Err fault)
    pub now : IsSet n None (boot_at old n) old new

  -- or none is there
  pub record IsNone (n : ℕ) (old new : SlotsRecord P) : Type 0 where
    pub was : slot_at old n ≡ None
    pub now : IsStill n old new

  abbrev pub ActsInSlot : {A E : Type 0} → (P → Result (P × A) E → Type 0) → ℕ → SlotsRecord P → SlotsRecord P → Result (Option A) E → Type 0
  ActsInSlot does n old new (Ok None) = IsNone n old new
  ActsInSlot does n old new (Ok (Some answer)) = IsActed does n old new answer
  ActsInSlot does n old new (Err fault) = IsFailed does n old new fault

  -- It is taken out of its slot, or none is there
  abbrev pub IsTakenOut : ℕ → SlotsRecord P → SlotsRecord P → Option P → Type 0
  IsTakenOut n old new None = IsNone n old new
  IsTakenOut n old new (Some p) = (slot_at old n ≡ Some p) × IsSet n None (boot_at old n) old new

  -- Steps. Each took at most so many, and one may take one more
  pub record AreWithin (steps : P → ℕ) (most : ℕ) (x : SlotsRecord P) : Type 0 where
    pub within : (n : ℕ) (p : P) → slot_at x n ≡ Some p → steps p ≤ most

  abbrev pub MayStep : (P → ℕ) → Option P → Type 0
  MayStep steps o = IfSome o (λ p. steps p < most_steps)

  -- Standing. A core for the party that runs, and none where none does
  abbrev pub StandsAt : (P → Role → Type 0) → Option P → Option Role → Type 0
  StandsAt stands None None = ⊤
  StandsAt stands None (Some r) = ⊥
  StandsAt stands (Some p) None = ⊥
  StandsAt stands (Some p) (Some r) = stands p r

  -- the parties stand in a world: one core for each that runs, no other, and each last boot; and no slot is without a core
  pub record AreOf (stands : P → Role → Type 0) (k : Kind) (w : World) (x : SlotsRecord P) : Type 0 where
    pub each : (n : ℕ) → StandsAt stands (slot_at x n) (seen w k n)
    pub last : (n : ℕ) → boot_of w k n ≡ boot_at x n
    pub full : (n : ℕ) → is_some (entry_at x n) ≡ is_some (slot_at x n)

  -- What the world is after one of them acted: they stand in it, these packets were sent, and all others see what they saw; nothing is written
  pub record ActIn (stands : P → Role → Type 0) (k : Kind) (w w' : World) (n : ℕ) (x : SlotsRecord P) (sent : List Packet) : Type 0 where
    pub stand : AreOf stands k w' x
    pub role : Role
    pub acts : Acts w w' k n role (map parcel_is sent)
    pub hard : w'.hard ≡ w.hard

  -- and a step of the world did it, which printed these lines
  pub record StepIn (stands : P → Role → Type 0) (k : Kind) (w : World) (n : ℕ) (x : SlotsRecord P) (sent : List Packet) (s : Step) (printed : List Line) : Type 0 where
    pub world : ActIn stands k w s.world n x sent
    pub lines : s.lines ≡ printed

  -- the step is refused, and they stand where they stood; so where none of the number runs
  pub record RefusedIn (stands : P → Role → Type 0) (k : Kind) (w : World) (x : SlotsRecord P) (s : Step) (why : Refusal) : Type 0 where
    pub same : s ≡ refused w why
    pub stand : AreOf stands k w x

  abbrev pub NoneIn : (P → Role → Type 0) → Kind → World → SlotsRecord P → Step → Type 0
  NoneIn stands k w x s = RefusedIn stands k w x s NotRunning

  -- Hearing: the party hears the packet as the world hears it
  pub record IsHeardIn (stands : P → Role → Type 0) (k : Kind) (w : World) (n : ℕ) (x : WrittenPacket) (after : SlotsRecord P) (heard : Heard) : Type 0 where
    pub world : ActIn stands k w (addressed w x) n after []
    pub word : WrittenHeard
    pub answers : heard_by w x ≡ Some word
    pub fresh : heard.fresh ≡ word.fresh
    pub says : heard.what ≡ word.what
    pub ruled : IsRuled heard.what

  -- none runs, and nothing happens
  pub record IsLostIn (stands : P → Role → Type 0) (k : Kind) (w : World) (x : WrittenPacket) (after : SlotsRecord P) : Type 0 where
    pub answers : heard_by w x ≡ None
    pub same : addressed w x ≡ w
    pub stand : AreOf stands k w after

  abbrev pub HearsOneIn : (P → Role → Type 0) → Kind → World → ℕ → WrittenPacket → SlotsRecord P → Option Heard → Type 0
  HearsOneIn stands k w n x after None = IsLostIn stands k w x after
  HearsOneIn stands k w n x after (Some heard) = IsHeardIn stands k w n x after heard

  abbrev pub HearInWorld : (P → Role → Type 0) → ℕ → Packet → SlotsRecord P → SlotsRecord P → Option Heard → Type 0
  HearInWorld stands n packet old new answer = (w : World) (k : Kind) (which : ℕ) (x : WrittenPacket) → Good w → AllLead w → AreOf stands k w old
      → slice_get w.net.packets which ≡ Some x → IsFor x k n → parcel_is packet ≡ parcel_of w.net x → HearsOneIn stands k w n x new answer

  -- Turns
  abbrev pub TurnsOneIn : (P → Role → Type 0) → Kind → World → ℕ → SlotsRecord P → Option (List Packet) → Type 0
  TurnsOneIn stands k w n after None = NoneIn stands k w after (turn_of w k n)
  TurnsOneIn stands k w n after (Some packets) = StepIn stands k w n after packets (turn_of w k n) (turn_lines w (turn_of w k n))

  abbrev pub TurnInWorld : (P → Role → Type 0) → ℕ → SlotsRecord P → SlotsRecord P → Option (List Packet) → Type 0
  TurnInWorld stands n old new answer = (w : World) (k : Kind) → Good w → AreOf stands k w old → TurnsOneIn stands k w n new answer

  -- Resyncs, and whether one runs
  abbrev pub ResyncsOneIn : (P → Role → Type 0) → Kind → World → ℕ → SlotsRecord P → Bool → Type 0
  ResyncsOneIn stands k w n after false = NoneIn stands k w after (resync_of w k n)
  ResyncsOneIn stands k w n after true = StepIn stands k w n after [] (resync_of w k n) []

  abbrev pub ResyncInWorld : (P → Role → Type 0) → ℕ → SlotsRecord P → SlotsRecord P → Bool → Type 0
  ResyncInWorld stands n old new answer = (w : World) (k : Kind) → Good w → AreOf stands k w old → ResyncsOneIn stands k w n new answer

  -- Starts, of a core that stands for the new party
  abbrev pub StartInWorld : (P → Role → Type 0) → ℕ → P → ℕ → SlotsRecord P → SlotsRecord P → Type 0
  StartInWorld stands n p b old new = (w w' : World) (k : Kind) (r : Role) → AreOf stands k w old → Starts w w' k n b r → stands p r → AreOf stands k w' new

-- Others. What the parties of a kind see of a world stays
pub record Stays (w w' : World) (k : Kind) : Type 0 where
  pub seen : (n : ℕ) → seen w' k n ≡ seen w k n
  pub boots : (n : ℕ) → boot_of w' k n ≡ boot_of w k n
