-- The text of printed lines, with the bytes of frames.
use Rattle.std.specs.Prelude.{ℕ, cond, nat_eq, List}
use Rattle.std.specs.List.{flat_map}
use Rattle.schedule_unit.specs.declared.party.Party.{Party}
use Rattle.schedule_unit.specs.declared.party.Role.{Role}
use Rattle.schedule_unit.specs.declared.party.Role.TheVariants as role
use Rattle.party_ledgers.specs.declared.packets.Packet.{Packet}
use Rattle.party_ledgers.specs.declared.packets.Kind.{Kind}
use Rattle.party_ledgers.specs.declared.packets.Kind.TheVariants as kind
use Rattle.party_ledgers.specs.declared.packets.Body.{Body}
use Rattle.party_ledgers.specs.declared.packets.Body.TheVariants as body
use Rattle.spec_net.specs.Net.{Packet as WrittenPacket, Party as WrittenParty, Id, Kind as WrittenKind, Ack, Delta, Full}
use Rattle.spec_net.specs.Ledgers.{Body as WrittenBody, Empty, Rows, RowChanges, Report, Tally, TallyChange}
use Rattle.spec_net.specs.Channels.{is_master}
use Rattle.spec_world.specs.Outputs.{Line}
use Rattle.wire_frames.specs.Frames.{frame}
use Rattle.schedule_text.specs.PrintedLines.{line_text}

-- A packet of the world, with what it holds, as one of the program
abbrev pub role_as : ℕ → Role
role_as n = cond (nat_eq n 1) role.Master (cond (nat_eq n 2) role.Agent role.App)

abbrev pub party_as : WrittenParty → Party
party_as p = record { role = role_as p.id.role; number = p.id.number; inc = p.inc }

abbrev pub kind_as : WrittenKind → Kind
kind_as Ack = kind.Ack
kind_as Delta = kind.Delta
kind_as Full = kind.Full

-- a tally of a master is one of grants, any other one of a demand
abbrev pub body_as : Id → WrittenBody → Body
body_as from Empty = body.Nothing
body_as from (Rows rows) = body.Row rows
body_as from (RowChanges changes) = body.RowDelta changes
body_as from (Report epoch rows) = body.Join (record { epoch = epoch; table = rows })
body_as from (Tally head entries) = cond (is_master from) (body.Grants (record { head = head; entries = entries })) (body.Demand (record { head = head; entries = entries }))
body_as from (TallyChange change) = cond (is_master from) (body.GrantsDelta change) (body.DemandDelta change)

abbrev pub packet_as : WrittenPacket → WrittenBody → Packet
packet_as x b = record { from = party_as x.from; to = party_as x.to; kind = kind_as x.kind; place = record { inc = x.inc; seq = x.seq }; body = body_as x.from.id b }

-- the bytes of its frame
abbrev pub frame_of : WrittenPacket → WrittenBody → List ℕ
frame_of x b = frame (packet_as x b)

-- all lines, each with its newline
abbrev pub lines_text : List Line → List ℕ
lines_text lines = flat_map (line_text frame_of) lines
