-- Both directions between two parties, and what one turn sends.
use Rattle.std.specs.Prelude.{◌≡◌, ℕ, ◌+◌, ◌-◌, min, not, nat_eq, nat_lt, ◌||◌, ◌&&◌, cond, List, [], ◌∷◌, ◌++◌, length, map, Result, Some, slice_get}
use Rattle.fuxi_terms.specs.Limits.{kept_changes, turn_deltas}
use Rattle.fuxi_terms.specs.Lists.{numbers_from}
use Rattle.fuxi_terms.specs.declared.answers.LedgerFault.{LedgerFault}
use Rattle.delta_channel.specs.Standing.{Sending, IsChangeAt}
use Rattle.delta_channel.specs.Hearing.{Receiving}
use Rattle.delta_channel.specs.Calls.{new_sending, new_receiving}
use Rattle.delta_channel.specs.declared.receiver.Place.{Place}
use Rattle.full_sync.specs.declared.duplex.Note.{Note}
use Rattle.full_sync.specs.declared.duplex.Note.TheVariants.{Delta, Full, Ack}

-- a party's end of a channel in both directions: what it sends, what it receives, and the last index of what it sends that the peer has said it has
pub record Endpoint (V D W : Type 0) : Type 0 where
  pub outgoing : Sending V D
  pub incoming : Receiving W
  pub acked : ℕ

-- an end that has posted nothing and knows no peer
abbrev pub new_endpoint : {V D W : Type 0} → V → W → ℕ → Endpoint V D W
new_endpoint none_sent none_received own = record { outgoing = new_sending none_sent own; incoming = new_receiving none_received own; acked = 0 }

-- what a turn sends, without its content: a whole ledger or a change with the index that it leads to, or an acknowledgement
pub data Mark : Type 0 where
  MarkFull : (index : ℕ) → Mark
  MarkDelta : (index : ℕ) → Mark
  MarkAck : (place : Place) → Mark

abbrev pub mark_of : {V D : Type 0} → Note V D → Mark
mark_of (Full n ledger) = MarkFull n
mark_of (Delta n change) = MarkDelta n
mark_of (Ack place) = MarkAck place

-- nothing where no peer is known, nothing was posted or all is acknowledged; the whole ledger where nothing is acknowledged or more than 256 changes are not; else the next changes, at most 64
abbrev pub news : ℕ → ℕ → ℕ → List Mark
news peer last acked =
    cond (nat_eq peer 0 || nat_eq last 0 || nat_eq acked last) []
    (cond (nat_eq acked 0 || nat_lt kept_changes (last - acked)) (MarkFull last ∷ [])
    (map MarkDelta (numbers_from (acked + 1) (min turn_deltas (last - acked)))))

-- then an acknowledgement of what came the other way
abbrev pub turn_of : ℕ → ℕ → Place → List Mark
turn_of last acked place = news place.inc last acked ++ MarkAck place ∷ []

-- a note has what the sender has: its present ledger, or the change that it keeps for the index
abbrev pub IsNoteOf : {V D : Type 0} → Sending V D → Note V D → Type 0
IsNoteOf s (Full n ledger) = ledger ≡ s.present
IsNoteOf s (Delta n change) = slice_get s.kept (n - 1 + length s.kept - s.last) ≡ Some change
IsNoteOf s (Ack place) = Unit {0}

-- a note brings what the history has at its index
abbrev pub Brings : {V D : Type 0} → (V → D → Result V LedgerFault) → List V → Note V D → Type 0
Brings patched history (Full n ledger) = slice_get history n ≡ Some ledger
Brings patched history (Delta n change) = IsChangeAt patched change (n - 1) history
Brings patched history (Ack place) = Unit {0}

-- the acknowledged index after an acknowledgement of this place, of a sender's own incarnation and last index
abbrev pub acked_after : ℕ → ℕ → ℕ → Place → ℕ
acked_after own last acked place = cond (nat_eq place.inc own && nat_lt acked place.seq && not (nat_lt last place.seq)) place.seq acked
