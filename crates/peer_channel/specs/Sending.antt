-- What a turn sends.
use Rattle.std.specs.Prelude.{◌≡◌, ℕ, ◌++◌, List, map, Result}
use Rattle.std.specs.List.{AllByRecursion}
use Rattle.fuxi_terms.specs.declared.answers.LedgerFault.{LedgerFault}
use Rattle.delta_channel.specs.Standing.{Sending, KeepsLatest, StandsFor}
use Rattle.full_sync.specs.Turns.{Endpoint, Brings, IsNoteOf, mark_of, turn_of}
use Rattle.full_sync.specs.declared.duplex.Note.{Note}
use Rattle.full_sync.specs.declared.duplex.Note.TheVariants.{Delta, Full, Ack}
use Rattle.schedule_unit.specs.declared.party.Party.{Party}
use Rattle.schedule_unit.specs.declared.party.Role.{Role}
use Rattle.party_ledgers.specs.declared.packets.Packet.{Packet}
use Rattle.party_ledgers.specs.declared.packets.Kind.TheVariants.{Ack as IsAck, Delta as IsDelta, Full as IsFull}
use Rattle.party_ledgers.specs.declared.packets.Body.{Body}
use Rattle.party_ledgers.specs.declared.packets.Body.TheVariants.{Nothing}
use Rattle.spec_net.specs.Ledgers.{Ledger}
use Rattle.spec_net.specs.Sides.{Side, turn_parcels}
use Rattle.peer_channel.specs.Parcels.{id_of, parcel_is}
use Rattle.peer_channel.specs.CoreSides.{IsSide}

-- every change that is kept has a written form, as every change that was ever posted
pub record HaveForms {V D : Type 0} (form : D → Type 0) (s : Sending V D) : Type 0 where
  pub changes : List D
  pub kept : KeepsLatest s changes
  pub forms : AllByRecursion form changes

-- the packet of a note from one party to another: whole and change put a ledger and a change into a body
module _ {V D : Type 0} (whole : V → Body) (change : D → Body) (from to : Party) where
  abbrev pub packet_for : Note V D → Packet
  packet_for (Full n ledger) = record { from = from; to = to; kind = IsFull; place = record { inc = from.inc; seq = n }; body = whole ledger }
  packet_for (Delta n d) = record { from = from; to = to; kind = IsDelta; place = record { inc = from.inc; seq = n }; body = change d }
  packet_for (Ack place) = record { from = from; to = to; kind = IsAck; place = place; body = Nothing }

-- the packets of the notes of a turn were appended
pub record AppendsTurn {V D W : Type 0} (nothing : V) (patched : V → D → Result V LedgerFault) (whole : V → Body) (change : D → Body) (from to : Party) (d : Endpoint V D W) (before after : List Packet) : Type 0 where
  pub notes : List (Note V D)
  pub marks : map mark_of notes ≡ turn_of d.outgoing.last d.acked d.incoming.place
  pub sends : AllByRecursion (IsNoteOf d.outgoing) notes
  pub brings : (history : List V) → StandsFor nothing patched d.outgoing history → AllByRecursion (Brings patched history) notes
  pub is : after ≡ before ++ map (packet_for whole change from to) notes

-- the packets that a turn appends, of every side that is stood for: those of the side's turn, from the party of this role and number to that one
module _ {V D W : Type 0} (nothing : V) (patched : V → D → Result V LedgerFault) (valid : V → Type 0) (out : V → Ledger) (inward : W → Ledger) where
  abbrev pub TurnsAlike : Endpoint V D W → Role → ℕ → Role → ℕ → List Packet → List Packet → Type 0
  TurnsAlike d sender own receiver peer before after = (inc : ℕ) (e : Side) → IsSide nothing patched valid out inward d inc e
      → map parcel_is after ≡ map parcel_is before ++ turn_parcels (record { id = id_of sender own; inc = inc }) (id_of receiver peer) e
