-- What the packets of the program say, in the words of the written net.
use Rattle.std.specs.Prelude.{◌≡◌, ℕ}
use Rattle.schedule_unit.specs.declared.party.Party.{Party as PartyHere}
use Rattle.schedule_unit.specs.declared.party.Role.{Role}
use Rattle.schedule_unit.specs.declared.party.Role.TheVariants.{Master, Agent, App}
use Rattle.party_ledgers.specs.declared.packets.Packet.{Packet as PacketHere}
use Rattle.party_ledgers.specs.Packets.{IsFormed}
use Rattle.party_ledgers.specs.declared.packets.Kind.{Kind as KindHere}
use Rattle.party_ledgers.specs.declared.packets.Kind.TheVariants.{Ack as AckHere, Delta as DeltaHere, Full as FullHere, End}
use Rattle.party_ledgers.specs.declared.packets.Body.{Body as BodyHere}
use Rattle.party_ledgers.specs.declared.packets.Body.TheVariants.{Nothing, Row, RowDelta, Join, Grants, GrantsDelta, Demand, DemandDelta}
use Rattle.spec_net.specs.Net.{Id, Party, Packet, Kind, Ack, Delta, Full}
use Rattle.spec_net.specs.Ledgers.{Body, Empty, Rows, RowChanges, Report, Tally, TallyChange}
use Rattle.spec_net.specs.Sides.{Parcel}

abbrev pub role_number : Role → ℕ
role_number Master = 1
role_number Agent = 2
role_number App = 3

abbrev pub id_of : Role → ℕ → Id
id_of role number = record { role = role_number role; number = number }

abbrev pub party_of : PartyHere → Party
party_of p = record { id = id_of p.role p.number; inc = p.inc }

-- an End is no packet of the net; no clause speaks of one
abbrev pub kind_of : KindHere → Kind
kind_of AckHere = Ack
kind_of DeltaHere = Delta
kind_of FullHere = Full
kind_of End = Ack

abbrev pub content_of : BodyHere → Body
content_of Nothing = Empty
content_of (Row row) = Rows row
content_of (RowDelta change) = RowChanges change
content_of (Join join) = Report join.epoch join.table
content_of (Grants tally) = Tally tally.head tally.entries
content_of (GrantsDelta change) = TallyChange change
content_of (Demand tally) = Tally tally.head tally.entries
content_of (DemandDelta change) = TallyChange change

abbrev pub packet_of : PacketHere → Packet
packet_of x = record { from = party_of x.from; to = party_of x.to; kind = kind_of x.kind; inc = x.place.inc; seq = x.place.seq }

-- a packet of a turn: it is formed, and no end of a connection
pub record IsSent (x : PacketHere) : Type 0 where
  pub formed : IsFormed x
  pub no_end : x.kind ≡ End → ⊥

-- a packet with what it holds
abbrev pub parcel_is : PacketHere → Parcel
parcel_is x = record { packet = packet_of x; body = content_of x.body }
