-- When an end of a channel stands for a link of the written net and the histories of both sides, and what its calls make of it.
use Rattle.std.specs.Prelude.{◌≡◌, ℕ, ◌+◌, ◌-◌, ◌≤◌, false, List, ◌∷◌, ◌++◌, length, map, Some, Result, slice_get}
use Rattle.fuxi_terms.specs.declared.Key.{Key}
use Rattle.fuxi_terms.specs.declared.answers.LedgerFault.{LedgerFault}
use Rattle.fuxi_terms.specs.declared.answers.LedgerFault.TheVariants.{Below, TooGreat}
use Rattle.fuxi_terms.specs.declared.answers.What.{What}
use Rattle.fuxi_terms.specs.Keys.{key_cmp}
use Rattle.fuxi_terms.specs.Tallies.{TallyRecord, ChangeRecord, empty_tally, patched_tally}
use Rattle.delta_channel.specs.Standing.{StandsFor, IsChangeAt}
use Rattle.delta_channel.specs.Hearing.{HasEntry}
use Rattle.full_sync.specs.Turns.{Endpoint}
use Rattle.full_sync.specs.declared.duplex.Note.{Note}
use Rattle.full_sync.specs.declared.duplex.Note.TheVariants.{Delta, Full, Ack}
use Rattle.channel_refinement.specs.Alike.{place_at}
use Rattle.schedule_unit.specs.declared.party.Party.{Party as PartyHere}
use Rattle.schedule_text.specs.Printing.{as_party}
use Rattle.spec_net.specs.Net.{Party, Id, Link, Packet, Kind, Ack as IsAck, Delta as IsDelta, Full as IsFull, same_id, word_of, link_after}
use Rattle.work_plan.specs.WorkSettling.{published}
use Rattle.work_plan.specs.WorkEvents.{hear_running}
use Rattle.work_plan.specs.PlanKeys.{greatest_named, no_what}
use Rattle.work_plan.specs.declared.ends.Parcel.{Parcel}
use Rattle.work_plan.specs.declared.hearing.Heard.{Heard}
use Rattle.fuxi_terms.specs.NumbersSet.{numbers_set}

abbrev pub histories : Type 0
histories = Party → Id → List TallyRecord

abbrev pub patched_names : TallyRecord → ChangeRecord → Result TallyRecord LedgerFault
patched_names = patched_tally Below TooGreat greatest_named no_what

-- The end of party p towards q: the same place and acknowledged index as the link; its history, which ends with the present ledger; and at the place in
-- the peer's history the ledger that was received
pub record IsEnd (d : Endpoint TallyRecord ChangeRecord TallyRecord) (p : Party) (q : Id) (l : Link) (hs : Party → Id → List TallyRecord) : Type 0 where
  pub own : d.outgoing.own ≡ p.inc
  pub also : d.incoming.own ≡ p.inc
  pub apart : same_id q p.id ≡ false
  pub place : d.incoming.place ≡ place_at l
  pub acked : d.acked ≡ l.acked
  pub last : d.outgoing.last ≡ length (hs p q)
  pub stands : StandsFor empty_tally patched_names d.outgoing (empty_tally ∷ hs p q)
  pub entry : HasEntry d.incoming (empty_tally ∷ hs (record { id = q; inc = l.known }) p.id)

-- Packets. A party and a packet of the program as those of the written net
abbrev pub party_of : PartyHere → Party
party_of p = as_party p

abbrev pub packet_at : PartyHere → PartyHere → Kind → ℕ → ℕ → Packet
packet_at from to kind inc seq = record { from = party_of from; to = party_of to; kind = kind; inc = inc; seq = seq }

abbrev pub names_packet : PartyHere → PartyHere → ℕ → Packet
names_packet from to n = packet_at from to IsFull from.inc n

abbrev pub change_packet : PartyHere → PartyHere → ℕ → Packet
change_packet from to n = packet_at from to IsDelta from.inc n

abbrev pub note_packet : PartyHere → PartyHere → Note TallyRecord ChangeRecord → Packet
note_packet from to (Full n names) = names_packet from to n
note_packet from to (Delta n change) = change_packet from to n
note_packet from to (Ack place) = packet_at from to IsAck place.inc place.seq

abbrev pub packet_of : Parcel → Packet
packet_of x = note_packet x.from x.to x.note

abbrev pub parcel_of : PartyHere → PartyHere → Note TallyRecord ChangeRecord → Parcel
parcel_of from to note = record { from = from; to = to; note = note }

-- some packets from the one party to the other stand behind the others
pub record AppendsParcels (from to : PartyHere) (old new : List Parcel) : Type 0 where
  pub notes : List (Note TallyRecord ChangeRecord)
  pub behind : new ≡ old ++ map (parcel_of from to) notes

-- what a packet brings is the entry of its sender's history, or the change that leads to it
abbrev pub NamesBrought : (Party → Id → List TallyRecord) → Packet → TallyRecord → Type 0
NamesBrought hs x names = slice_get (empty_tally ∷ hs x.from x.to.id) x.seq ≡ Some names

pub record ChangeBrought (hs : Party → Id → List TallyRecord) (x : Packet) (change : ChangeRecord) : Type 0 where
  pub leads : IsChangeAt patched_names change (x.seq - 1) (empty_tally ∷ hs x.from x.to.id)
  pub first : 1 ≤ x.seq
  pub there : x.seq ≤ length (hs x.from x.to.id)

abbrev pub NoteBrought : (Party → Id → List TallyRecord) → Packet → Note TallyRecord ChangeRecord → Type 0
NoteBrought hs x (Full n names) = NamesBrought hs x names
NoteBrought hs x (Delta n change) = ChangeBrought hs x change
NoteBrought hs x (Ack place) = Unit {0}

abbrev pub Brought : (Party → Id → List TallyRecord) → Parcel → Type 0
Brought hs x = NoteBrought hs (packet_of x) x.note

-- a packet of the known incarnation has this word, and the end is what the word changes
pub record TakesAs (new : Endpoint TallyRecord ChangeRecord TallyRecord) (what : What) (p : Party) (q : Id) (l : Link) (hs : Party → Id → List TallyRecord) (x : Packet) : Type 0 where
  pub word : what ≡ word_of x.kind p.inc l x
  pub ends : IsEnd new p q (link_after (word_of x.kind p.inc l x) p.inc (length (hs p q)) l x) hs

-- a packet was heard by the rules, whether its sender is new and as what, and the end stands for the new link
pub record HearsAs (new : Endpoint TallyRecord ChangeRecord TallyRecord) (heard : Heard) (p : Party) (q : Id) (l : Link) (hs : Party → Id → List TallyRecord) (x : Packet) : Type 0 where
  pub fresh : heard.fresh ≡ (hear_running p.inc (length (hs p q)) l x).fresh
  pub what : heard.what ≡ (hear_running p.inc (length (hs p q)) l x).what
  pub ends : IsEnd new p q (hear_running p.inc (length (hs p q)) l x).link hs

-- a ledger with numbers set
abbrev pub names_set : TallyRecord → List (Key × ℕ) → TallyRecord
names_set t ns = record { head = t.head; entries = numbers_set key_cmp t.entries ns }

-- the names that are sent are these now; they are appended where they differ, and nothing else changes
pub record Sets (names : TallyRecord) (old new : Endpoint TallyRecord ChangeRecord TallyRecord) : Type 0 where
  pub present : new.outgoing.present ≡ names
  pub ends : (p : Party) (q : Id) (l : Link) (hs hs' : Party → Id → List TallyRecord) → IsEnd old p q l hs → hs' p q ≡ published (hs p q) names → hs' (record { id = q; inc = l.known }) p.id ≡ hs (record { id = q; inc = l.known }) p.id → IsEnd new p q l hs'
  pub last : new.outgoing.last ≤ old.outgoing.last + 1
  pub incoming : new.incoming ≡ old.incoming
