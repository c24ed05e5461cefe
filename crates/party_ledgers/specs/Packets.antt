-- Which packets can be sent: the rules of their parties, places and bodies.
use Rattle.std.specs.Prelude.{ℕ, Bool, true, false, nat_eq, nat_lt, ◌&&◌, ◌||◌, IsTrue}
use Rattle.fuxi_terms.specs.Limits.{most_machines}
use Rattle.fuxi_terms.specs.Rows.{IsRowChange}
use Rattle.fuxi_terms.specs.TallyKeys.{greatest_grant, greatest_demand}
use Rattle.ledger_law.specs.Shapes.{IsChange}
use Rattle.delta_channel.specs.declared.receiver.Place.{Place}
use Rattle.schedule_unit.specs.declared.party.Party.{Party}
use Rattle.schedule_unit.specs.declared.party.Role.{Role}
use Rattle.schedule_unit.specs.declared.party.Role.TheVariants.{Master, Agent, App}
use Rattle.party_ledgers.specs.declared.packets.Kind.{Kind}
use Rattle.party_ledgers.specs.declared.packets.Kind.TheVariants.{Ack, Delta, Full, End}
use Rattle.party_ledgers.specs.declared.packets.Body.{Body}
use Rattle.party_ledgers.specs.declared.packets.Body.TheVariants.{Nothing, Row, RowDelta, Join, Grants, GrantsDelta, Demand, DemandDelta}
use Rattle.party_ledgers.specs.declared.packets.Packet.{Packet}

abbrev pub is_bare : Kind → Bool
is_bare Ack = true
is_bare Delta = false
is_bare Full = false
is_bare End = true

abbrev pub is_full : Kind → Bool
is_full Ack = false
is_full Delta = false
is_full Full = true
is_full End = false

abbrev pub is_delta : Kind → Bool
is_delta Ack = false
is_delta Delta = true
is_delta Full = false
is_delta End = false

abbrev pub is_master : Role → Bool
is_master Master = true
is_master Agent = false
is_master App = false

abbrev pub is_agent : Role → Bool
is_agent Master = false
is_agent Agent = true
is_agent App = false

abbrev pub is_app : Role → Bool
is_app Master = false
is_app Agent = false
is_app App = true

-- the channels of a master, by the roles of sender and receiver; the others are these turned
abbrev pub to_agent : Role → Role → Bool
to_agent from to = is_master from && is_agent to

abbrev pub to_app : Role → Role → Bool
to_app from to = is_master from && is_app to

-- the master has the number 0, an agent and an application one below 256
abbrev pub is_number_of : Role → ℕ → Bool
is_number_of Master number = nat_eq number 0
is_number_of Agent number = nat_lt number most_machines
is_number_of App number = nat_lt number most_machines

-- one is the master, the other an agent or an application, and the sender has an incarnation
abbrev pub are_parties : Party → Party → Bool
are_parties from to = (to_agent from.role to.role || to_app from.role to.role || to_agent to.role from.role || to_app to.role from.role)
    && is_number_of from.role from.number && is_number_of to.role to.number && nat_lt 0 from.inc

-- an acknowledgement of no incarnation has the index 0; a change and a ledger lead to a place of their sender's incarnation, a change not to the first; an end names none
abbrev pub is_place_of : Kind → ℕ → Place → Bool
is_place_of Ack inc place = nat_lt 0 place.inc || nat_eq place.seq 0
is_place_of Delta inc place = nat_eq place.inc inc && nat_lt 1 place.seq
is_place_of Full inc place = nat_eq place.inc inc && nat_lt 0 place.seq
is_place_of End inc place = nat_eq place.inc 0 && nat_eq place.seq 0

-- the body of a kind, from one role to another. A ledger always has a written form, a change where it is not too great
abbrev pub IsBodyOf : Body → Kind → Role → Role → Type 0
IsBodyOf Nothing kind from to = IsTrue (is_bare kind)
IsBodyOf (Row row) kind from to = IsTrue (is_full kind && to_agent from to)
IsBodyOf (RowDelta change) kind from to = IsTrue (is_delta kind && to_agent from to) × IsRowChange change
IsBodyOf (Join join) kind from to = IsTrue ((is_full kind || is_delta kind) && to_agent to from)
IsBodyOf (Grants tally) kind from to = IsTrue (is_full kind && to_app from to)
IsBodyOf (GrantsDelta change) kind from to = IsTrue (is_delta kind && to_app from to) × IsChange greatest_grant change
IsBodyOf (Demand tally) kind from to = IsTrue (is_full kind && to_app to from)
IsBodyOf (DemandDelta change) kind from to = IsTrue (is_delta kind && to_app to from) × IsChange greatest_demand change

pub record IsFormed (x : Packet) : Type 0 where
  pub parties : IsTrue (are_parties x.from x.to)
  pub place : IsTrue (is_place_of x.kind x.from.inc x.place)
  pub body : IsBodyOf x.body x.kind x.from.role x.to.role
