-- What the calls of both ends do: relations between what is seen before a call and what is seen after it.
use Rattle.std.specs.Prelude.{◌≡◌, ◌↔◌, ℕ, ◌+◌, ◌<◌, Bool, IsTrue, false, if◌then◌else◌, List, [], ◌∷◌, ◌++◌, length, Some, Result, Ok, Err, slice_get}
use Rattle.fuxi_terms.specs.declared.answers.LedgerFault.{LedgerFault}
use Rattle.ledger_law.specs.Applying.{IsRefusal}
use Rattle.delta_channel.specs.declared.receiver.Stamp.{Stamp}
use Rattle.delta_channel.specs.Standing.{Sending, StandsFor, IsChangeAt, KeepsLatest}
use Rattle.delta_channel.specs.Hearing.{Receiving, HasEntry}

-- a sender that has posted nothing
abbrev pub new_sending : {V D : Type 0} → V → ℕ → Sending V D
new_sending nothing own = record { own = own; last = 0; present = nothing; kept = [] }

-- a receiver that knows no sender
abbrev pub new_receiving : {V : Type 0} → V → ℕ → Receiving V
new_receiving nothing own = record { own = own; place = record { inc = 0; seq = 0 }; received = nothing }

-- the change makes the new ledger of the one before, leads to the next index and is kept, and the new ledger is the next entry of the history
pub record IsPosted {V D : Type 0} (nothing : V) (patched : V → D → Result V LedgerFault) (change : D) (old new : Sending V D) : Type 0 where
  pub made : patched old.present change ≡ Ok new.present
  pub next : new.last ≡ old.last + 1
  pub own : new.own ≡ old.own
  pub keeps : (changes : List D) → KeepsLatest old changes → KeepsLatest new (changes ++ change ∷ [])
  pub stands : (history : List V) → StandsFor nothing patched old history → StandsFor nothing patched new (history ++ new.present ∷ [])

-- a change is posted, and the last index told, or it is refused and all stays
abbrev pub Posts : {V D : Type 0} → V → (V → D → Result V LedgerFault) → D → Sending V D → Result ℕ LedgerFault → Sending V D → Type 0
Posts nothing patched change old (Ok index) new = (index ≡ new.last) × IsPosted nothing patched change old new
Posts nothing patched change old (Err fault) new = (new ≡ old) × IsRefusal (patched old.present change) fault

-- after a new incarnation of the sender was met, of which nothing has come
abbrev pub met : {V : Type 0} → V → ℕ → Receiving V → Receiving V
met nothing from r = record { own = r.own; place = record { inc = from; seq = 0 }; received = nothing }

-- an incarnation of the sender is new where it is greater than the known one, and else nothing changes
pub record Meets {V : Type 0} (nothing : V) (from : ℕ) (old : Receiving V) (answer : Bool) (new : Receiving V) : Type 0 where
  pub fresh : IsTrue answer ↔ (old.place.inc < from)
  pub after : new ≡ (if answer then met nothing from old else old)
  pub stands : IsTrue answer → (history : List V) → slice_get history 0 ≡ Some nothing → HasEntry new history

-- the change makes the received ledger of the one before, and the place is that of the packet
pub record IsTaken {V D : Type 0} (patched : V → D → Result V LedgerFault) (stamp : Stamp) (change : D) (old new : Receiving V) : Type 0 where
  pub made : patched old.received change ≡ Ok new.received
  pub place : new.place ≡ stamp.place
  pub own : new.own ≡ old.own
  pub stands : stamp.full ≡ false → (history : List V) → HasEntry old history → IsChangeAt patched change old.place.seq history
      → stamp.place.seq < length history → HasEntry new history

-- a change is taken, or it is refused and all stays
abbrev pub TakesDelta : {V D : Type 0} → (V → D → Result V LedgerFault) → Stamp → D → Receiving V → Result (Unit {0}) LedgerFault → Receiving V → Type 0
TakesDelta patched stamp change old (Ok done) new = IsTaken patched stamp change old new
TakesDelta patched stamp change old (Err fault) new = (new ≡ old) × IsRefusal (patched old.received change) fault

-- a whole ledger replaces what was received, and the place is that of the packet
pub record TakesFull {V : Type 0} (stamp : Stamp) (ledger : V) (old new : Receiving V) : Type 0 where
  pub after : new ≡ record { own = old.own; place = stamp.place; received = ledger }
  pub stands : (history : List V) → slice_get history stamp.place.seq ≡ Some ledger → HasEntry new history
