-- What reading bytes gives: the packet whose frame they begin with, or the first fault.
use Rattle.std.specs.Prelude.{◌≡◌, ℕ, ◌+◌, ◌≤◌, Bool, cond, nat_eq, nat_lt, ◌||◌, List, length, take, drop, slice_index, Option, Some, None, Result, Ok, Err}
use Rattle.std.specs.Int.{Width, from_be_bytes, byte_len, w32, w64}
use Rattle.fuxi_terms.specs.Limits.{most_body_bytes}
use Rattle.delta_channel.specs.declared.receiver.Place.{Place}
use Rattle.schedule_unit.specs.declared.party.Party.{Party}
use Rattle.schedule_unit.specs.declared.party.Role.{Role}
use Rattle.schedule_unit.specs.declared.party.Role.TheVariants.{Master, Agent, App}
use Rattle.party_ledgers.specs.declared.packets.Kind.{Kind}
use Rattle.party_ledgers.specs.declared.packets.Kind.TheVariants.{Ack, Delta, Full, End}
use Rattle.party_ledgers.specs.declared.packets.Packet.{Packet}
use Rattle.party_ledgers.specs.Packets.{are_parties, is_place_of}
use Rattle.wire_frames.specs.Frames.{version, header_length, IsFrame}
use Rattle.wire_frames.specs.declared.fault.FrameFault.{FrameFault}
use Rattle.wire_frames.specs.declared.fault.FrameFault.TheVariants.{Short, Length, Version, Kind as NoKind, Role as NoRole, Place as NoPlace, Body, OutOfMemory}

-- the number that stands at a place of the bytes
abbrev pub number_at : Width → ℕ → List ℕ → ℕ
number_at w at bytes = from_be_bytes w (take (byte_len w) (drop at bytes))

abbrev pub kind_of : ℕ → Option Kind
kind_of byte = cond (nat_eq byte 1) (Some Ack) (cond (nat_eq byte 2) (Some Delta) (cond (nat_eq byte 3) (Some Full) (cond (nat_eq byte 4) (Some End) None)))

abbrev pub role_of : ℕ → Option Role
role_of byte = cond (nat_eq byte 1) (Some Master) (cond (nat_eq byte 2) (Some Agent) (cond (nat_eq byte 3) (Some App) None))

abbrev pub party_of : Option Role → ℕ → ℕ → Option Party
party_of None number inc = None
party_of (Some role) number inc = Some (record { role = role; number = number; inc = inc })

-- the party that stands at a place of the bytes, where its role is one
abbrev pub party_at : ℕ → List ℕ → Option Party
party_at at bytes = party_of (role_of (slice_index bytes at)) (number_at w32 (at + 1) bytes) (number_at w64 (at + 5) bytes)

-- the fields of a frame
abbrev pub length_in : List ℕ → ℕ
length_in bytes = number_at w32 0 bytes

abbrev pub version_in : List ℕ → ℕ
version_in bytes = slice_index bytes 4

abbrev pub kind_in : List ℕ → Option Kind
kind_in bytes = kind_of (slice_index bytes 5)

abbrev pub sender_in : List ℕ → Option Party
sender_in bytes = party_at 6 bytes

abbrev pub receiver_in : List ℕ → Option Party
receiver_in bytes = party_at 19 bytes

abbrev pub place_in : List ℕ → Place
place_in bytes = record { inc = number_at w64 32 bytes; seq = number_at w64 40 bytes }

-- a length below that of a header, or above that of a header and the longest body
abbrev pub is_no_length : ℕ → Bool
is_no_length n = nat_lt n header_length || nat_lt (header_length + most_body_bytes) n

abbrev pub place_fault : Kind → Party → Place → Option FrameFault
place_fault kind from place = cond (is_place_of kind from.inc place) None (Some NoPlace)

abbrev pub parties_fault : Kind → Option Party → Option Party → Place → Option FrameFault
parties_fault kind None to place = Some NoRole
parties_fault kind (Some from) None place = Some NoRole
parties_fault kind (Some from) (Some to) place = cond (are_parties from to) (place_fault kind from place) (Some NoRole)

abbrev pub kind_fault : ℕ → Option Kind → Option Party → Option Party → Place → Option FrameFault
kind_fault byte None from to place = Some (NoKind byte)
kind_fault byte (Some kind) from to place = parties_fault kind from to place

-- the first fault of the fields behind the length, in the order of the tests
abbrev pub fields_fault : List ℕ → Option FrameFault
fields_fault bytes =
    cond (nat_eq (version_in bytes) version)
    (kind_fault (slice_index bytes 5) (kind_in bytes) (sender_in bytes) (receiver_in bytes) (place_in bytes))
    (Some (Version (version_in bytes)))

-- the first fault of a frame's header: that of its length, then of the bytes that are there, then of its fields
unfoldable pub header_fault : List ℕ → Option FrameFault
header_fault bytes =
    cond (nat_lt (length bytes) 4) (Some Short)
    (cond (is_no_length (length_in bytes)) (Some (Length (length_in bytes)))
    (cond (nat_lt (length bytes) (4 + length_in bytes)) (Some Short) (fields_fault bytes)))

-- the first n of the bytes are the frame of the packet
pub record Begins (bytes : List ℕ) (x : Packet) (n : ℕ) : Type 0 where
  pub within : n ≤ length bytes
  pub frame : IsFrame x (take n bytes)

abbrev pub BeginsNone : List ℕ → Type 0
BeginsNone bytes = (x : Packet) (n : ℕ) → Begins bytes x n → ⊥

-- bytes have a fault where it is the first of their header, or where the header has none and they begin with no frame
abbrev pub HasFault : List ℕ → FrameFault → Type 0
HasFault bytes Short = header_fault bytes ≡ Some Short
HasFault bytes (Length n) = header_fault bytes ≡ Some (Length n)
HasFault bytes (Version n) = header_fault bytes ≡ Some (Version n)
HasFault bytes (NoKind n) = header_fault bytes ≡ Some (NoKind n)
HasFault bytes NoRole = header_fault bytes ≡ Some NoRole
HasFault bytes NoPlace = header_fault bytes ≡ Some NoPlace
HasFault bytes Body = (header_fault bytes ≡ None) × BeginsNone bytes
HasFault bytes OutOfMemory = Unit {0}

-- reading gives a packet and the length of its frame, or a fault
abbrev pub Reads : List ℕ → Result (Packet × ℕ) FrameFault → Type 0
Reads bytes (Ok read) = Begins bytes read.0 read.1
Reads bytes (Err fault) = HasFault bytes fault
