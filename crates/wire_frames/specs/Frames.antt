-- Frames: how packets are written. All numbers are big-endian.
use Rattle.std.specs.Prelude.{◌≡◌, ℕ, ◌+◌, ◌*◌, ◌<◌, ◌^◌, List, [], ◌∷◌, ◌++◌, length}
use Rattle.std.specs.Int.{to_be_bytes, w32, w64}
use Rattle.fuxi_terms.specs.Rows.{IsRow, IsRowChange}
use Rattle.fuxi_terms.specs.TallyKeys.{greatest_grant, greatest_demand}
use Rattle.ledger_law.specs.Forms.{tally_form, change_form}
use Rattle.ledger_law.specs.Shapes.{IsTally, IsChange}
use Rattle.delta_channel.specs.declared.receiver.Place.{Place}
use Rattle.schedule_unit.specs.declared.party.Party.{Party}
use Rattle.schedule_unit.specs.declared.party.Role.{Role}
use Rattle.schedule_unit.specs.declared.party.Role.TheVariants.{Master, Agent, App}
use Rattle.party_ledgers.specs.declared.packets.Kind.{Kind}
use Rattle.party_ledgers.specs.declared.packets.Kind.TheVariants.{Ack, Delta, Full, End}
use Rattle.party_ledgers.specs.declared.packets.Body.{Body}
use Rattle.party_ledgers.specs.declared.packets.Body.TheVariants.{Nothing, Row, RowDelta, Join, Grants, GrantsDelta, Demand, DemandDelta}
use Rattle.party_ledgers.specs.declared.packets.Packet.{Packet}
use Rattle.party_ledgers.specs.RowForms.{row_form, row_change_form}
use Rattle.party_ledgers.specs.Joins.{IsJoin, join_form}
use Rattle.party_ledgers.specs.Packets.{IsFormed}

-- the version of this format
abbrev pub version : ℕ
version = 1

abbrev pub kind_byte : Kind → ℕ
kind_byte Ack = 1
kind_byte Delta = 2
kind_byte Full = 3
kind_byte End = 4

abbrev pub role_byte : Role → ℕ
role_byte Master = 1
role_byte Agent = 2
role_byte App = 3

-- role (1 byte), number (4), incarnation (8)
abbrev pub party_bytes : Party → List ℕ
party_bytes p = role_byte p.role ∷ to_be_bytes w32 p.number ++ to_be_bytes w64 p.inc

-- incarnation (8), index (8)
abbrev pub place_bytes : Place → List ℕ
place_bytes p = to_be_bytes w64 p.inc ++ to_be_bytes w64 p.seq

-- the written form of what the packet brings
abbrev pub body_bytes : Body → List ℕ
body_bytes Nothing = []
body_bytes (Row row) = row_form row
body_bytes (RowDelta change) = row_change_form change
body_bytes (Join join) = join_form join
body_bytes (Grants tally) = tally_form tally
body_bytes (GrantsDelta change) = change_form change
body_bytes (Demand tally) = tally_form tally
body_bytes (DemandDelta change) = change_form change

-- version (1), kind (1), sender (13), receiver (13), place (16)
abbrev pub header_bytes : Packet → List ℕ
header_bytes x = version ∷ kind_byte x.kind ∷ party_bytes x.from ++ (party_bytes x.to ++ place_bytes x.place)

abbrev pub header_length : ℕ
header_length = 44

-- the length of all that follows (4), the header, the body
unfoldable pub frame : Packet → List ℕ
frame x = to_be_bytes w32 (header_length + length (body_bytes x.body)) ++ (header_bytes x ++ body_bytes x.body)

-- a ledger or a change is one that has a written form
abbrev pub HasForm : Body → Type 0
HasForm Nothing = Unit {0}
HasForm (Row row) = IsRow row
HasForm (RowDelta change) = IsRowChange change
HasForm (Join join) = IsJoin join
HasForm (Grants tally) = IsTally greatest_grant tally
HasForm (GrantsDelta change) = IsChange greatest_grant change
HasForm (Demand tally) = IsTally greatest_demand tally
HasForm (DemandDelta change) = IsChange greatest_demand change

-- incarnations and the index have room in their eight bytes, as the numbers of a program do
pub record HaveRoom (from to : Party) (place : Place) : Type 0 where
  pub sender : from.inc < 2 ^ 64
  pub receiver : to.inc < 2 ^ 64
  pub inc : place.inc < 2 ^ 64
  pub seq : place.seq < 2 ^ 64

-- these bytes are the frame of the packet
pub record IsFrame (x : Packet) (bytes : List ℕ) : Type 0 where
  pub formed : IsFormed x
  pub room : HaveRoom x.from x.to x.place
  pub form : HasForm x.body
  pub written : bytes ≡ frame x

-- how many bytes a body has: of rows each entry has 73 behind a count of 4, and a report an epoch of 8 before them; of tallies each entry has 12 behind a head of 8 and a count of 4
abbrev pub body_length : Body → ℕ
body_length Nothing = 0
body_length (Row row) = 4 + 73 * length row
body_length (RowDelta change) = 4 + 73 * length change
body_length (Join join) = 12 + 73 * length join.table
body_length (Grants tally) = 12 + 12 * length tally.entries
body_length (GrantsDelta change) = 12 + 12 * length change.entries
body_length (Demand tally) = 12 + 12 * length tally.entries
body_length (DemandDelta change) = 12 + 12 * length change.entries
