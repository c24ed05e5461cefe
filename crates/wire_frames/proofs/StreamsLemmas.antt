-- The packets of a stream are those of all bytes that were fed.
use Rattle.std.specs.Prelude.{◌≡◌, ℕ, List, [], ◌∷◌, ◌++◌, length, drop}
use Rattle.std.proofs.Common.{drop_at, refl, sym, ◌∙◌, ap, subst, append_assoc, append-nil}
use Rattle.std.specs.List.{AllByRecursion, flat_map}
use Rattle.party_ledgers.specs.declared.packets.Packet.{Packet}
use Rattle.wire_frames.specs.Frames.{frame, IsFrame}
use Rattle.wire_frames.specs.ReadFrames.{Begins, BeginsNone}
use Rattle.wire_frames.specs.Streams.{Event, Fed, Gave, Runs, bytes_fed, packets_given, HasFrame, Splits}
use Rattle.wire_frames.proofs.Framed.{split_at_frame}
use Rattle.wire_frames.proofs.ReadingIsOne.{begins_whole, one_frame_at}

has_frame : (x : Packet) (bytes : List ℕ) → IsFrame x bytes → HasFrame x
has_frame x bytes f = record { formed = f.formed; room = f.room; form = f.form; written = refl }

pub run_splits : (left : List ℕ) (es : List Event) (end : List ℕ) → Runs left es end → Splits (left ++ bytes_fed es) (packets_given es) end
run_splits left [] end h = record { whole = append-nil left ∙ sym h; each = tt }
run_splits left (Fed piece ∷ es) end h =
    let rest = run_splits (left ++ piece) es end h in
    record { whole = sym (append_assoc left piece (bytes_fed es)) ∙ rest.whole; each = rest.each }
run_splits left (Gave x ∷ es) end h =
    let n = h.0 in
    let rest = run_splits (drop n left) es end h.2 in
    let whole : left ++ bytes_fed es ≡ frame x ++ flat_map frame (packets_given es) ++ end =
    ap (λ l. l ++ bytes_fed es) (split_at_frame left x n h.1) ∙ append_assoc (frame x) (drop n left) (bytes_fed es)
    ∙ ap (λ l. frame x ++ l) rest.whole ∙ sym (append_assoc (frame x) (flat_map frame (packets_given es)) end) in
    record { whole = whole; each = (has_frame x _ h.1.frame, rest.each) }

pub record SameSplit (xs ys : List Packet) (left rest : List ℕ) : Type 0 where
  pub packets : xs ≡ ys
  pub bytes : left ≡ rest

begins_first : (bytes left : List ℕ) (x : Packet) (xs : List Packet) → HasFrame x → bytes ≡ flat_map frame (x ∷ xs) ++ left → Begins bytes x (length (frame x))
begins_first bytes left x xs f e =
    subst (λ l. Begins l x (length (frame x))) (sym (e ∙ append_assoc (frame x) (flat_map frame xs) left)) (begins_whole x (frame x) (flat_map frame xs ++ left) f)

pub one_split : (xs ys : List Packet) (bytes left rest : List ℕ) → bytes ≡ flat_map frame xs ++ left → bytes ≡ flat_map frame ys ++ rest
    → AllByRecursion HasFrame xs → AllByRecursion HasFrame ys → BeginsNone left → BeginsNone rest → SameSplit xs ys left rest
one_split [] [] bytes left rest p q f g a b = record { packets = refl; bytes = sym p ∙ q }
one_split [] (y ∷ ys) bytes left rest p q f g a b = absurd (a y (length (frame y)) (subst (λ l. Begins l y (length (frame y))) p (begins_first bytes rest y ys g.0 q)))
one_split (x ∷ xs) [] bytes left rest p q f g a b = absurd (b x (length (frame x)) (subst (λ l. Begins l x (length (frame x))) q (begins_first bytes left x xs f.0 p)))
one_split (x ∷ xs) (y ∷ ys) bytes left rest p q f g a b =
    let e : frame x ++ (flat_map frame xs ++ left) ≡ frame y ++ (flat_map frame ys ++ rest) = sym (p ∙ append_assoc (frame x) (flat_map frame xs) left) ∙ q ∙ append_assoc (frame y) (flat_map frame ys) rest in
    let one = one_frame_at x y (frame x) (frame y) (flat_map frame xs ++ left) (flat_map frame ys ++ rest) f.0 g.0 e in
    let behind : flat_map frame xs ++ left ≡ flat_map frame ys ++ rest =
    sym (drop_at (frame x) (flat_map frame xs ++ left) (length (frame x)) refl) ∙ ap (drop (length (frame x))) e ∙ drop_at (frame y) (flat_map frame ys ++ rest) (length (frame x)) (sym one.size) in
    let others = one_split xs ys (flat_map frame xs ++ left) left rest refl behind f.1 g.1 a b in
    record { packets = λ i. one.packet i ∷ others.packets i; bytes = others.bytes }
