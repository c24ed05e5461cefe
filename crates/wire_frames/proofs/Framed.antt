-- Bytes that begin with a frame have its fields, and no fault in the header.
use Rattle.std.specs.Prelude.{◌≡◌, ℕ, ◌+◌, ◌<◌, ◌^◌, Bool, true, false, cond, nat_eq, nat_lt, ◌||◌, ◌&&◌, List, ◌++◌, length, take, drop, Some, None}
use Rattle.std.proofs.Common.{refl, sym, ◌∙◌, ap, subst, arith}
use Rattle.std.proofs.lemmas.List.{take_at, take-append-drop, length-take-le}
use Rattle.std.proofs.lemmas.Nat.{from_be_bytes-to_be_bytes_4, from_be_bytes-to_be_bytes_8}
use Rattle.std.proofs.lemmas.Bool.Decides.{nat_tests}
use Rattle.std.specs.Int.{to_be_bytes, from_be_bytes, w32, w64}
use Rattle.fuxi_terms.proofs.Booleans.{both_true}
use Rattle.delta_channel.specs.declared.receiver.Place.{Place}
use Rattle.schedule_unit.specs.declared.party.Party.{Party}
use Rattle.schedule_unit.specs.declared.party.Role.{Role}
use Rattle.schedule_unit.specs.declared.party.Role.TheVariants.{Master, Agent, App}
use Rattle.party_ledgers.specs.declared.packets.Kind.{Kind}
use Rattle.party_ledgers.specs.declared.packets.Kind.TheVariants.{Ack, Delta, Full, End}
use Rattle.party_ledgers.specs.declared.packets.Packet.{Packet}
use Rattle.party_ledgers.specs.Packets.{is_number_of, are_parties, is_place_of, to_agent, to_app}
use Rattle.wire_frames.specs.Frames.{version, kind_byte, role_byte, body_bytes, frame, IsFrame}
use Rattle.wire_frames.specs.ReadFrames.{kind_of, role_of, party_of, length_in, version_in, kind_in, sender_in, receiver_in, place_in, is_no_length, place_fault, header_fault, Begins}
use Rattle.wire_frames.specs.declared.fault.FrameFault.TheVariants.{Role as NoRole, Place as NoPlace}
use Rattle.wire_frames.proofs.Bodies.{body_long, body_within}

pub record HasFields (bytes : List ℕ) (x : Packet) : Type 0 where
  pub length_is : length_in bytes ≡ 44 + length (body_bytes x.body)
  pub version_is : version_in bytes ≡ version
  pub kind_is : kind_in bytes ≡ Some x.kind
  pub from_is : sender_in bytes ≡ Some x.from
  pub to_is : receiver_in bytes ≡ Some x.to
  pub place_is : place_in bytes ≡ x.place

kind_back : (k : Kind) → kind_of (kind_byte k) ≡ Some k
kind_back Ack = refl
kind_back Delta = refl
kind_back Full = refl
kind_back End = refl

role_back : (r : Role) → role_of (role_byte r) ≡ Some r
role_back Master = refl
role_back Agent = refl
role_back App = refl

number_small : (r : Role) (n : ℕ) → is_number_of r n ≡ true → n < 2 ^ 32
number_small Master n h = grind (arith, nat_tests)
number_small Agent n h = grind (arith, nat_tests)
number_small App n h = grind (arith, nat_tests)

party_back : (p : Party) → p.number < 2 ^ 32 → p.inc < 2 ^ 64 → party_of (role_of (role_byte p.role)) (from_be_bytes w32 (to_be_bytes w32 p.number)) (from_be_bytes w64 (to_be_bytes w64 p.inc)) ≡ Some p
party_back p number inc =
    ap (λ r. party_of r (from_be_bytes w32 (to_be_bytes w32 p.number)) (from_be_bytes w64 (to_be_bytes w64 p.inc))) (role_back p.role)
    ∙ (λ i. Some (record { role = p.role; number = from_be_bytes-to_be_bytes_4 p.number number i; inc = from_be_bytes-to_be_bytes_8 p.inc inc i }))

is_channel : Role → Role → Bool
is_channel from to = to_agent from to || to_app from to || to_agent to from || to_app to from

numbers_small : (x : Packet) (bytes : List ℕ) → IsFrame x bytes → (x.from.number < 2 ^ 32) × (x.to.number < 2 ^ 32)
unfolding is_channel
numbers_small x bytes h =
    let known = both_true (is_channel x.from.role x.to.role && is_number_of x.from.role x.from.number && is_number_of x.to.role x.to.number) (nat_lt 0 x.from.inc) h.formed.parties in
    let to = both_true (is_channel x.from.role x.to.role && is_number_of x.from.role x.from.number) (is_number_of x.to.role x.to.number) known.0 in
    let from = both_true (is_channel x.from.role x.to.role) (is_number_of x.from.role x.from.number) to.0 in
    (number_small x.from.role x.from.number from.1, number_small x.to.role x.to.number to.1)

pub fields_of : (x : Packet) (bytes more : List ℕ) → IsFrame x bytes → HasFields (frame x ++ more) x
unfolding frame
fields_of x bytes more h =
    let small = numbers_small x bytes h in
    let within : 44 + length (body_bytes x.body) < 2 ^ 32 = omega (arith, body_long x.body h.form, body_within x.body h.form) in
    record {
      length_is = from_be_bytes-to_be_bytes_4 (44 + length (body_bytes x.body)) within;
      version_is = refl;
      kind_is = kind_back x.kind;
      from_is = party_back x.from small.0 h.room.sender;
      to_is = party_back x.to small.1 h.room.receiver;
      place_is = λ i. record { inc = from_be_bytes-to_be_bytes_8 x.place.inc h.room.inc i; seq = from_be_bytes-to_be_bytes_8 x.place.seq h.room.seq i };
    }

pub behind_header : (x : Packet) (more : List ℕ) → drop 48 (frame x ++ more) ≡ body_bytes x.body ++ more
unfolding frame
behind_header x more = refl

pub frame_size : (x : Packet) → length (frame x) ≡ 48 + length (body_bytes x.body)
unfolding frame
frame_size x = omega arith

-- bytes that begin with a frame are it and what stands behind it
pub split_at_frame : (bytes : List ℕ) (x : Packet) (n : ℕ) → Begins bytes x n → bytes ≡ frame x ++ drop n bytes
split_at_frame bytes x n b = sym (take-append-drop n bytes) ∙ ap (λ l. l ++ drop n bytes) b.frame.written

pub begins_fields : (bytes : List ℕ) (x : Packet) (n : ℕ) → Begins bytes x n → HasFields bytes x
begins_fields bytes x n b = subst (λ l. HasFields l x) (sym (split_at_frame bytes x n b)) (fields_of x (take n bytes) (drop n bytes) b.frame)

pub begins_size : (bytes : List ℕ) (x : Packet) (n : ℕ) → Begins bytes x n → n ≡ 48 + length (body_bytes x.body)
begins_size bytes x n b = sym (length-take-le n bytes b.within) ∙ ap length b.frame.written ∙ frame_size x

-- the body, and nothing else, fills the rest of the frame
pub begins_body : (bytes : List ℕ) (x : Packet) (n k : ℕ) → Begins bytes x n → k ≡ length (body_bytes x.body) → take k (drop 48 bytes) ≡ body_bytes x.body
begins_body bytes x n k b is =
    ap (λ l. take k (drop 48 l)) (split_at_frame bytes x n b) ∙ ap (take k) (behind_header x (drop n bytes))
    ∙ take_at (body_bytes x.body) (drop n bytes) k (sym is)

pub header_right : (bytes : List ℕ) (x : Packet) (n : ℕ) → Begins bytes x n → header_fault bytes ≡ None
unfolding header_fault
header_right bytes x n b =
    let f = begins_fields bytes x n b in
    let size = begins_size bytes x n b in
    let limit = body_within x.body b.frame.form in
    let long = body_long x.body b.frame.form in
    let four : nat_lt (length bytes) 4 ≡ false = grind (arith, nat_tests, b.within) in
    let within : is_no_length (length_in bytes) ≡ false = grind (arith, nat_tests, f.length_is) in
    let whole : nat_lt (length bytes) (4 + length_in bytes) ≡ false = grind (arith, nat_tests, b.within, f.length_is) in
    let first : nat_eq (version_in bytes) version ≡ true = ap (λ v. nat_eq v version) f.version_is in
    rw (four, within, whole, first, f.kind_is, f.from_is, f.to_is, f.place_is) (rest x.kind x.from x.to x.place b.frame.formed.parties b.frame.formed.place)
  where
    rest : (k : Kind) (from to : Party) (p : Place) → are_parties from to ≡ true → is_place_of k from.inc p ≡ true → cond (are_parties from to) (place_fault k from p) (Some NoRole) ≡ None
    rest k from to p h i = ap (λ b. cond b (place_fault k from p) (Some NoRole)) h ∙ ap (λ b. cond b None (Some NoPlace)) i
