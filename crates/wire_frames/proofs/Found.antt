-- Bytes with a header that has no fault, and a body behind it, begin with a frame.
use Rattle.std.specs.Prelude.{◌≡◌, ℕ, ◌+◌, ◌-◌, ◌≤◌, List, [], ◌∷◌, ◌++◌, length, take, drop, slice_index}
use Rattle.std.proofs.Common.{refl, sym, ◌∙◌, ap, arith, length-drop}
use Rattle.std.proofs.lemmas.List.{length-take-le}
use Rattle.std.specs.Int.{to_be_bytes, w32, w64}
use Rattle.delta_channel.specs.declared.receiver.Place.{Place}
use Rattle.party_ledgers.specs.declared.packets.Body.{Body}
use Rattle.party_ledgers.specs.declared.packets.Packet.{Packet}
use Rattle.wire_frames.specs.Frames.{place_bytes, header_bytes, body_bytes, frame}
use Rattle.wire_frames.specs.ReadFrames.{length_in, place_in}
use Rattle.wire_frames.specs.Fronts.{IsFront}
use Rattle.wire_frames.specs.declared.read.Front.{Front}
use Rattle.wire_frames.proofs.Parts.{IsBytes, cut, number_4, number_8, byte_1, kind_is, party_13}

abbrev pub packet_of : Front → Body → Packet
packet_of h body = record { from = h.header.from; to = h.header.to; kind = h.header.kind; place = h.header.place; body = body }

place_16 : (bytes : List ℕ) (p : Place) → IsBytes bytes → 48 ≤ length bytes → place_in bytes ≡ p → take 16 (drop 32 bytes) ≡ place_bytes p
place_16 bytes p are h e =
    let inc = number_8 bytes 32 are (omega (arith, h)) ∙ ap (λ (q : Place). to_be_bytes w64 q.inc) e in
    let seq = number_8 bytes 40 are (omega (arith, h)) ∙ ap (λ (q : Place). to_be_bytes w64 q.seq) e in
    cut bytes 32 8 8 40 16 refl refl ∙ (λ i. inc i ++ seq i)

-- the 44 bytes of the header
header_44 : (bytes : List ℕ) (h : Front) (body : Body) → IsBytes bytes → 48 ≤ length bytes → IsFront bytes h → take 44 (drop 4 bytes) ≡ header_bytes (packet_of h body)
header_44 bytes h body are long is =
    let first = byte_1 bytes 4 (omega (arith, long)) ∙ ap (λ b. b ∷ []) is.first in
    let kind = byte_1 bytes 5 (omega (arith, long)) ∙ ap (λ b. b ∷ []) (sym (kind_is (slice_index bytes 5) h.header.kind is.kind_is)) in
    let from = party_13 bytes 6 h.header.from are (omega (arith, long)) is.from_is in
    let to = party_13 bytes 19 h.header.to are (omega (arith, long)) is.to_is in
    let place = place_16 bytes h.header.place are long is.place_is in
    let behind_to = cut bytes 19 13 16 32 29 refl refl ∙ (λ i. to i ++ place i) in
    let behind_from = cut bytes 6 13 29 19 42 refl refl ∙ (λ i. from i ++ behind_to i) in
    let behind_kind = cut bytes 5 1 42 6 43 refl refl ∙ (λ i. kind i ++ behind_from i) in
    cut bytes 4 1 43 5 44 refl refl ∙ (λ i. first i ++ behind_kind i)

pub frame_in : (bytes : List ℕ) (h : Front) (body : Body) → IsBytes bytes → IsFront bytes h → take (h.end - 48) (drop 48 bytes) ≡ body_bytes body → take h.end bytes ≡ frame (packet_of h body)
unfolding frame
frame_in bytes h body are is behind =
    let long : 48 ≤ length bytes = omega (arith, is.body, is.whole) in
    let body_long : length (body_bytes body) ≡ h.end - 48 = ap length (sym behind) ∙ length-take-le (h.end - 48) (drop 48 bytes) (omega (arith, is.whole, length-drop 48 bytes)) in
    let size : length_in bytes ≡ 44 + length (body_bytes body) = omega (arith, body_long, is.end, is.body) in
    let front = number_4 bytes 0 are (omega (arith, long)) ∙ ap (to_be_bytes w32) size in
    let header = header_44 bytes h body are long is in
    let behind_length = cut bytes 4 44 (h.end - 48) 48 (h.end - 4) refl (omega (arith, is.body)) ∙ (λ i. header i ++ behind i) in
    cut bytes 0 4 (h.end - 4) 4 h.end refl (omega (arith, is.body)) ∙ (λ i. front i ++ behind_length i)
