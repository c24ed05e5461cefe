-- Bytes whose header has no fault, and whose body is none, begin with no frame.
use Rattle.std.specs.Prelude.{◌≡◌, ℕ, ◌-◌, List, length, take, drop, Some}
use Rattle.std.proofs.Common.{sym, ◌∙◌, subst, arith}
use Rattle.party_ledgers.specs.declared.packets.Body.{Body}
use Rattle.party_ledgers.specs.declared.packets.Packet.{Packet}
use Rattle.party_ledgers.specs.Packets.{IsBodyOf}
use Rattle.wire_frames.specs.Frames.{body_bytes, HasForm}
use Rattle.wire_frames.specs.ReadFrames.{Begins}
use Rattle.wire_frames.specs.Fronts.{IsFront}
use Rattle.wire_frames.specs.declared.read.Front.{Front}
use Rattle.wire_frames.proofs.Framed.{begins_fields, begins_body}

pub same_some : {A : Type 0} (a b : A) → Some a ≡ Some b → a ≡ b
same_some a b e = cc

pub none_begins : (bytes : List ℕ) (h : Front) → IsFront bytes h
    → ((b : Body) → IsBodyOf b h.header.kind h.header.from.role h.header.to.role × HasForm b → take (h.end - 48) (drop 48 bytes) ≡ body_bytes b → ⊥)
    → (x : Packet) (n : ℕ) → Begins bytes x n → ⊥
none_begins bytes h is none x n b =
    let f = begins_fields bytes x n b in
    let kind : x.kind ≡ h.header.kind = same_some _ _ (sym f.kind_is ∙ is.kind_is) in
    let from : x.from ≡ h.header.from = same_some _ _ (sym f.from_is ∙ is.from_is) in
    let to : x.to ≡ h.header.to = same_some _ _ (sym f.to_is ∙ is.to_is) in
    let body_of : IsBodyOf x.body h.header.kind h.header.from.role h.header.to.role = subst (λ k. IsBodyOf x.body k h.header.from.role h.header.to.role) kind (subst (λ p. IsBodyOf x.body x.kind p.role h.header.to.role) from (subst (λ p. IsBodyOf x.body x.kind x.from.role p.role) to b.frame.formed.body)) in
    let size : h.end - 48 ≡ length (body_bytes x.body) = omega (arith, is.end, f.length_is) in
    none x.body (body_of, b.frame.form) (begins_body bytes x n (h.end - 48) b size)
