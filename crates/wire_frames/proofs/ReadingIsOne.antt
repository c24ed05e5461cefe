-- What reading gives is given by the bytes, and stays whatever stands behind them.
use Rattle.std.specs.Prelude.{◌≡◌, ◌≢◌, ℕ, List, ◌++◌, length, unwrap_or, Result, Ok, Err}
use Rattle.std.proofs.Common.{take_at, refl, sym, ◌∙◌, ap, subst, arith, length-append}
use Rattle.party_ledgers.specs.declared.packets.Packet.{Packet}
use Rattle.party_ledgers.specs.Packets.{IsBodyOf}
use Rattle.party_ledgers.specs.PacketHeaders.{header_of}
use Rattle.wire_frames.specs.Frames.{body_bytes, frame, IsFrame}
use Rattle.wire_frames.specs.Fronts.{IsFront}
use Rattle.wire_frames.specs.declared.read.Front.{Front}
use Rattle.wire_frames.specs.ReadFrames.{header_fault, Begins, HasFault, Reads}
use Rattle.wire_frames.specs.declared.fault.FrameFault.{FrameFault}
use Rattle.wire_frames.specs.declared.fault.FrameFault.TheVariants.{Short, Length, Version, Kind, Role, Place, Body, OutOfMemory}
use Rattle.wire_frames.proofs.Framed.{begins_fields, begins_size, begins_body, header_right}
use Rattle.wire_frames.proofs.Refused.{same_some}
use Rattle.wire_frames.proofs.OneBody.{one_body}

pub record AreOne (x y : Packet) (n m : ℕ) : Type 0 where
  pub packet : x ≡ y
  pub size : n ≡ m

pub one_begins : (bytes : List ℕ) (x y : Packet) (n m : ℕ) → Begins bytes x n → Begins bytes y m → AreOne x y n m
one_begins bytes x y n m b c =
    let f = begins_fields bytes x n b in
    let g = begins_fields bytes y m c in
    let kind : x.kind ≡ y.kind = same_some _ _ (sym f.kind_is ∙ g.kind_is) in
    let from : x.from ≡ y.from = same_some _ _ (sym f.from_is ∙ g.from_is) in
    let to : x.to ≡ y.to = same_some _ _ (sym f.to_is ∙ g.to_is) in
    let place : x.place ≡ y.place = sym f.place_is ∙ g.place_is in
    let long : length (body_bytes x.body) ≡ length (body_bytes y.body) = omega (arith, f.length_is, g.length_is) in
    let bodies : body_bytes x.body ≡ body_bytes y.body = sym (begins_body bytes x n (length (body_bytes x.body)) b refl) ∙ begins_body bytes y m (length (body_bytes x.body)) c long in
    let of : IsBodyOf y.body x.kind x.from.role x.to.role = subst (λ k. IsBodyOf y.body k x.from.role x.to.role) (sym kind) (subst (λ p. IsBodyOf y.body y.kind p.role x.to.role) (sym from) (subst (λ p. IsBodyOf y.body y.kind y.from.role p.role) (sym to) c.frame.formed.body)) in
    let body : x.body ≡ y.body = one_body x.body y.body x.kind x.from.role x.to.role b.frame.formed.body of b.frame.form c.frame.form bodies in
    record {
      packet = λ i. record { from = from i; to = to i; kind = kind i; place = place i; body = body i };
      size = omega (arith, begins_size bytes x n b, begins_size bytes y m c, long);
    }

-- what stands in front of a frame is of its packet
pub one_header : (bytes : List ℕ) (x : Packet) (n : ℕ) (front : Front) → Begins bytes x n → IsFront bytes front → header_of x ≡ front.header
one_header bytes x n front b is =
    let f = begins_fields bytes x n b in
    let kind = same_some _ _ (sym f.kind_is ∙ is.kind_is) in
    let from = same_some _ _ (sym f.from_is ∙ is.from_is) in
    let to = same_some _ _ (sym f.to_is ∙ is.to_is) in
    let place = sym f.place_is ∙ is.place_is in
    λ i. record { from = from i; to = to i; kind = kind i; place = place i }

pub begins_whole : (x : Packet) (a more : List ℕ) → IsFrame x a → Begins (a ++ more) x (length a)
begins_whole x a more f = record { within = omega (arith, length-append a more); frame = subst (IsFrame x) (sym (take_at a more (length a) refl)) f }

-- bytes that frames begin in two ways
pub one_frame_at : (x y : Packet) (a b more rest : List ℕ) → IsFrame x a → IsFrame y b → a ++ more ≡ b ++ rest → AreOne x y (length a) (length b)
one_frame_at x y a b more rest f g e =
    one_begins (a ++ more) x y (length a) (length b) (begins_whole x a more f) (subst (λ l. Begins l y (length b)) (sym e) (begins_whole y b rest g))

pub same_frame : (x y : Packet) (a b : List ℕ) → IsFrame x a → IsFrame y b → x ≡ y → a ≡ b
same_frame x y a b f g e = f.written ∙ ap frame e ∙ sym g.written

-- a fault is the first of the header, or that of the body
fault_is : (bytes : List ℕ) (f : FrameFault) → HasFault bytes f → f ≢ OutOfMemory → f ≡ unwrap_or (header_fault bytes) Body
fault_is bytes Short h other = ap (λ o. unwrap_or o Body) (sym h)
fault_is bytes (Length n) h other = ap (λ o. unwrap_or o Body) (sym h)
fault_is bytes (Version n) h other = ap (λ o. unwrap_or o Body) (sym h)
fault_is bytes (Kind n) h other = ap (λ o. unwrap_or o Body) (sym h)
fault_is bytes Role h other = ap (λ o. unwrap_or o Body) (sym h)
fault_is bytes Place h other = ap (λ o. unwrap_or o Body) (sym h)
fault_is bytes Body h other = ap (λ o. unwrap_or o Body) (sym h.0)
fault_is bytes OutOfMemory h other = absurd (other refl)

-- bytes that begin with a frame have no fault
frame_or_fault : (bytes : List ℕ) (x : Packet) (n : ℕ) (f : FrameFault) → Begins bytes x n → HasFault bytes f → f ≢ OutOfMemory → ⊥
frame_or_fault bytes x n Short b h other = let e = header_right bytes x n b in cc
frame_or_fault bytes x n (Length m) b h other = let e = header_right bytes x n b in cc
frame_or_fault bytes x n (Version m) b h other = let e = header_right bytes x n b in cc
frame_or_fault bytes x n (Kind m) b h other = let e = header_right bytes x n b in cc
frame_or_fault bytes x n Role b h other = let e = header_right bytes x n b in cc
frame_or_fault bytes x n Place b h other = let e = header_right bytes x n b in cc
frame_or_fault bytes x n Body b h other = h.1 x n b
frame_or_fault bytes x n OutOfMemory b h other = other refl

abbrev failed : FrameFault → Result (Packet × ℕ) FrameFault
failed f = Err f

unlike : (f g : FrameFault) → failed f ≢ failed g → f ≢ g
unlike f g other e = other (ap failed e)

pub one_reading : (bytes : List ℕ) (r s : Result (Packet × ℕ) FrameFault) → Reads bytes r → Reads bytes s → r ≢ Err OutOfMemory → s ≢ Err OutOfMemory → r ≡ s
one_reading bytes (Ok a) (Ok b) h g p q = let one = one_begins bytes a.0 b.0 a.1 b.1 h g in λ i. Ok (one.packet i, one.size i)
one_reading bytes (Ok a) (Err f) h g p q = absurd (frame_or_fault bytes a.0 a.1 f h g (unlike f OutOfMemory q))
one_reading bytes (Err f) (Ok b) h g p q = absurd (frame_or_fault bytes b.0 b.1 f g h (unlike f OutOfMemory p))
one_reading bytes (Err f) (Err g) h i p q = ap failed (fault_is bytes f h (unlike f OutOfMemory p) ∙ sym (fault_is bytes g i (unlike g OutOfMemory q)))
