-- The frame of a packet: its parts and its length.
use Rattle.std.specs.Prelude.{◌≡◌, ℕ, ◌+◌, ◌-◌, List, ◌++◌, length}
use Rattle.std.proofs.Common.{◌∙◌, ap, append_assoc, arith}
use Rattle.std.specs.Int.{to_be_bytes, w32}
use Rattle.party_ledgers.specs.declared.packets.Packet.{Packet}
use Rattle.wire_frames.specs.Frames.{frame, header_length, header_bytes, body_bytes, body_length, HasForm}
use Rattle.wire_frames.proofs.Bodies.{body_long}
use Rattle.wire_frames.proofs.PartsInTurn.{two_parts}

pub frame_long : (x : Packet) → HasForm x.body → length (frame x) ≡ 48 + body_length x.body
unfolding frame
frame_long x h = omega (arith, body_long x.body h)

-- a length with a header, and a body behind them
pub frame_written : (x : Packet) (n : ℕ) (old one two : List ℕ) → n ≡ length (frame x) → one ≡ old ++ (to_be_bytes w32 (n - 4) ++ header_bytes x) → two ≡ one ++ body_bytes x.body → two ≡ old ++ frame x
unfolding frame
frame_written x n old one two is p q =
    let same : n - 4 ≡ header_length + length (body_bytes x.body) = omega (arith, is) in
    two_parts old _ _ one two p q
    ∙ ap (λ l. old ++ l) (append_assoc (to_be_bytes w32 (n - 4)) (header_bytes x) (body_bytes x.body) ∙ ap (λ m. to_be_bytes w32 m ++ (header_bytes x ++ body_bytes x.body)) same)
