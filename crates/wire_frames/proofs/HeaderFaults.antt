-- What the first fault of a header can be: one of its own, so never that of a body.
use Rattle.std.specs.Prelude.{◌≡◌, ◌≢◌, ◌+◌, ℕ, Bool, true, false, cond, List, length, nat_eq, nat_lt, Option, Some, None}
use Rattle.delta_channel.specs.declared.receiver.Place.{Place}
use Rattle.schedule_unit.specs.declared.party.Party.{Party}
use Rattle.party_ledgers.specs.declared.packets.Kind.{Kind}
use Rattle.party_ledgers.specs.Packets.{are_parties, is_place_of}
use Rattle.wire_frames.specs.Frames.{version}
use Rattle.wire_frames.specs.ReadFrames.{HasFault, header_fault, length_in, version_in, kind_in, sender_in, receiver_in, place_in, is_no_length, place_fault, parties_fault, kind_fault, fields_fault}
use Rattle.wire_frames.specs.declared.fault.FrameFault.{FrameFault}
use Rattle.wire_frames.specs.declared.fault.FrameFault.TheVariants.{Short, Length, Version, Kind as NoKind, Role as NoRole, Place as NoPlace, Body, OutOfMemory}

abbrev IsNoBody : Option FrameFault → Type 0
IsNoBody fault = fault ≢ Some Body

none : IsNoBody None
none e = cc

either : (b : Bool) (x y : Option FrameFault) → IsNoBody x → IsNoBody y → IsNoBody (cond b x y)
either true x y one other = one
either false x y one other = other

of_place : (k : Kind) (from : Party) (p : Place) → IsNoBody (place_fault k from p)
of_place k from p = either (is_place_of k from.inc p) None (Some NoPlace) none (λ e. cc)

of_parties : (k : Kind) (from to : Option Party) (p : Place) → IsNoBody (parties_fault k from to p)
of_parties k None to p = λ e. cc
of_parties k (Some from) None p = λ e. cc
of_parties k (Some from) (Some to) p = either (are_parties from to) (place_fault k from p) (Some NoRole) (of_place k from p) (λ e. cc)

of_kind : (byte : ℕ) (k : Option Kind) (from to : Option Party) (p : Place) → IsNoBody (kind_fault byte k from to p)
of_kind byte None from to p = λ e. cc
of_kind byte (Some k) from to p = of_parties k from to p

of_fields : (bytes : List ℕ) → IsNoBody (fields_fault bytes)
of_fields bytes = either (nat_eq (version_in bytes) version) _ _ (of_kind _ (kind_in bytes) (sender_in bytes) (receiver_in bytes) (place_in bytes)) (λ e. cc)

of_header : (bytes : List ℕ) → IsNoBody (header_fault bytes)
unfolding header_fault
of_header bytes =
    either (nat_lt (length bytes) 4) _ _ (λ e. cc)
    (either (is_no_length (length_in bytes)) _ _ (λ e. cc)
    (either (nat_lt (length bytes) (4 + length_in bytes)) _ _ (λ e. cc) (of_fields bytes)))

pub header_faults : (bytes : List ℕ) (fault : FrameFault) → header_fault bytes ≡ Some fault → HasFault bytes fault
header_faults bytes Short e = e
header_faults bytes (Length n) e = e
header_faults bytes (Version n) e = e
header_faults bytes (NoKind n) e = e
header_faults bytes NoRole e = e
header_faults bytes NoPlace e = e
header_faults bytes Body e = absurd (of_header bytes e)
header_faults bytes OutOfMemory e = record {}
