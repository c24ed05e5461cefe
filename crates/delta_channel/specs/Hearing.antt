-- What a receiver makes of a packet, and the history and place that it stands for.
use Rattle.std.specs.Prelude.{◌≡◌, ℕ, ◌+◌, Bool, not, nat_lt, nat_eq, ◌&&◌, if◌then◌else◌, List, Some, slice_get}
use Rattle.delta_channel.specs.declared.receiver.Stamp.{Stamp}
use Rattle.delta_channel.specs.declared.receiver.Place.{Place}
use Rattle.delta_channel.specs.declared.receiver.Verdict.{Verdict}
use Rattle.delta_channel.specs.declared.receiver.Verdict.TheVariants.{Take, Old, Gap, NotMine, Stale}

-- its own incarnation, its place in the sender's history, and the ledger that it received
pub record Receiving (V : Type 0) : Type 0 where
  pub own : ℕ
  pub place : Place
  pub received : V

-- a whole ledger brings any later index; a change brings the next index alone, and none from index 0 on
abbrev pub verdict_at : Bool → ℕ → ℕ → Verdict
verdict_at full here index =
    if full then (if nat_lt here index then Take else Old)
    else (if nat_eq (here + 1) index && not (nat_eq here 0) then Take
    else (if nat_lt here index then Gap else Old))

abbrev pub verdict_of : ℕ → Place → Stamp → Verdict
verdict_of own place stamp =
    if nat_lt stamp.from place.inc then Stale
    else (if not (nat_eq stamp.to own) then NotMine
    else verdict_at stamp.full place.seq stamp.place.seq)

-- the receiver's ledger is the history's entry at its place
abbrev pub HasEntry : {V : Type 0} → Receiving V → List V → Type 0
HasEntry r history = slice_get history r.place.seq ≡ Some r.received
