-- What a crash may leave while bytes are appended behind a gate.
use Rattle.std.proofs.Common.{◌≡◌, ◌⊎◌, inl, inr, ℕ, zero, suc, ◌+◌, ◌<◌, ◌≤◌, false, max, List, [], ◌∷◌, ◌++◌, length, take, drop, slice_index, get_or, refl, sym, ◌∙◌, ap, arith, append_assoc, length-append, length-take, length-drop}
use Rattle.std.proofs.Math.Seq.{take-add}
use Rattle.std.proofs.lemmas.List.{take_at, drop_at, drop_more, take_more, take-take}
use Rattle.std.proofs.lemmas.Bool.Decides.{nat_tests}
use Rattle.fuxi_io.specs.Disks.{Moment, IsImage, is_pending, overwritten, synced_moment, after_write, Leaves}
use Rattle.hard_state.specs.Gates.{IsAppending, appended}

-- lists that agree in the first places begin alike
begin_alike : (k : ℕ) (a b : List ℕ) → k ≤ length a → k ≤ length b → ((i : ℕ) → i < k → slice_index a i ≡ slice_index b i) → take k a ≡ take k b
begin_alike zero a b la lb same = refl
begin_alike (suc k) [] b la lb same = absurd (omega (arith, la))
begin_alike (suc k) (x ∷ a) [] la lb same = absurd (omega (arith, lb))
begin_alike (suc k) (x ∷ a) (y ∷ b) la lb same =
    (λ i. same 0 (omega arith) i ∷ take k a) ∙ ap (λ l. y ∷ l) (begin_alike k a b (omega (arith, la)) (omega (arith, lb)) (λ i within. same (suc i) (omega (arith, within))))

-- lists of one length that agree from a place on end alike
end_alike : (k : ℕ) (a b : List ℕ) → length a ≡ length b → ((i : ℕ) → k ≤ i → i < length a → slice_index a i ≡ slice_index b i) → drop k a ≡ drop k b
end_alike zero [] [] len same = refl
end_alike zero [] (y ∷ b) len same = absurd (omega (arith, len))
end_alike zero (x ∷ a) [] len same = absurd (omega (arith, len))
end_alike zero (x ∷ a) (y ∷ b) len same =
    (λ i. same 0 (omega arith) (omega arith) i ∷ a) ∙ ap (λ l. y ∷ l) (end_alike zero a b (omega (arith, len)) (λ i from within. same (suc i) (omega arith) (omega (arith, within))))
end_alike (suc k) [] [] len same = refl
end_alike (suc k) [] (y ∷ b) len same = absurd (omega (arith, len))
end_alike (suc k) (x ∷ a) [] len same = absurd (omega (arith, len))
end_alike (suc k) (x ∷ a) (y ∷ b) len same = end_alike k a b (omega (arith, len)) (λ i from within. same (suc i) (omega (arith, from)) (omega (arith, within)))

-- where nothing is pending a crash leaves one file
pub synced_image : (file left : List ℕ) → IsImage (synced_moment file) left → left ≡ file
synced_image file left image = end_alike 0 left file (omega (arith, image.at_least, image.at_most)) (λ i from within. image.stays i (omega (arith, within, image.at_most)) refl)

-- a place before a range or behind it is not pending by it
not_pending : (at size place : ℕ) → (place < at) ⊎ (at + size ≤ place) → is_pending ((at, size) ∷ []) place ≡ false
not_pending at size place (inl before) = grind (arith, nat_tests)
not_pending at size place (inr behind) = grind (arith, nat_tests)

pub length-overwritten : (file bytes : List ℕ) (at : ℕ) → at ≤ length file → length (overwritten file at bytes) ≡ max (length file) (at + length bytes)
length-overwritten file bytes at within =
    let end = at + length bytes in
    omega (arith, within, length-append (take at file ++ bytes) (drop end file), length-append (take at file) bytes, length-take at file, length-drop end file)

length-before : (file : List ℕ) (at : ℕ) → at ≤ length file → length (take at file) ≡ at
length-before file at within = omega (arith, length-take at file, within)

pub before-overwritten : (file bytes : List ℕ) (at : ℕ) → at ≤ length file → take at (overwritten file at bytes) ≡ take at file
before-overwritten file bytes at within =
    let rest = drop (at + length bytes) file in
    ap (λ l. take at l) (append_assoc (take at file) bytes rest) ∙ take_at (take at file) (bytes ++ rest) at (length-before file at within)

from-overwritten : (file bytes : List ℕ) (at : ℕ) → at ≤ length file → drop at (overwritten file at bytes) ≡ bytes ++ drop (at + length bytes) file
from-overwritten file bytes at within =
    let rest = drop (at + length bytes) file in
    ap (λ l. drop at l) (append_assoc (take at file) bytes rest) ∙ drop_at (take at file) (bytes ++ rest) at (length-before file at within)

-- what a part of a write may leave, the whole write may leave
pub part_image : (at : ℕ) (part bytes : List ℕ) (m : Moment) (left : List ℕ) → at ≤ length m.bytes → length part ≤ length bytes → IsImage (after_write at part m) left → IsImage (after_write at bytes m) left
part_image at part bytes m left within short image = record {
  at_least = image.at_least;
  at_most = omega (arith, image.at_most, short, length-overwritten m.bytes part at within, length-overwritten m.bytes bytes at within);
  stays = λ place synced still. image.stays place synced (grind (arith, nat_tests));
}

module _ (file bytes : List ℕ) (gate : ℕ) (within : gate < length file) where
  -- before the first write, and inside it
  pub untouched : Leaves (IsAppending file gate bytes) (synced_moment file)
  untouched left image = inl (ap (λ l. take (gate + 1) l) (synced_image file left image))

  pub writing_bytes : Leaves (IsAppending file gate bytes) (after_write (gate + 1) bytes (synced_moment file))
  writing_bytes left image =
      inl (begin_alike (gate + 1) left file (omega (arith, within, image.at_least)) (omega (arith, within))
      (λ i before. image.stays i (omega (arith, before, within)) (not_pending (gate + 1) (length bytes) i (inl before))))

  -- with the bytes on the disk, the gate still closed
  abbrev pub with_bytes : List ℕ
  with_bytes = overwritten file (gate + 1) bytes

  pub length-with_bytes : length with_bytes ≡ max (length file) (gate + 1 + length bytes)
  length-with_bytes = length-overwritten file bytes (gate + 1) (omega (arith, within))

  pub bytes_written : IsAppending file gate bytes with_bytes
  bytes_written = inl (before-overwritten file bytes (gate + 1) (omega (arith, within)))

  same_front : take gate with_bytes ≡ take gate file
  same_front =
      sym (take-take gate (gate + 1) with_bytes (omega arith)) ∙ ap (λ l. take gate l) (before-overwritten file bytes (gate + 1) (omega (arith, within)))
      ∙ take-take gate (gate + 1) file (omega arith)

  bytes_behind : take (length bytes) (drop (gate + 1) with_bytes) ≡ bytes
  bytes_behind =
      ap (λ l. take (length bytes) l) (from-overwritten file bytes (gate + 1) (omega (arith, within))) ∙ take_at bytes (drop (gate + 1 + length bytes) file) (length bytes) refl

  -- a file that differs from that at the gate alone
  but_the_gate : (left : List ℕ) → gate < length left → take gate left ≡ take gate with_bytes → drop (gate + 1) left ≡ drop (gate + 1) with_bytes
      → take (gate + 1 + length bytes) left ≡ take gate file ++ get_or left gate 0 ∷ bytes
  but_the_gate left long front back =
      let byte = get_or left gate 0 in
      take-add (gate + 1) (length bytes) left
      ∙ ap (λ l. l ++ take (length bytes) (drop (gate + 1) left)) (take_more left gate 0 long)
      ∙ ap (λ l. take gate left ++ byte ∷ [] ++ l) (ap (λ l. take (length bytes) l) back ∙ bytes_behind)
      ∙ append_assoc (take gate left) (byte ∷ []) bytes
      ∙ ap (λ l. l ++ byte ∷ bytes) (front ∙ same_front)

  length-appended : length (appended file gate bytes) ≡ length with_bytes
  length-appended = omega (arith, within, length-with_bytes, length-overwritten with_bytes (1 ∷ []) gate (omega (arith, within, length-with_bytes)))

  -- inside the write of the gate
  pub writing_gate : Leaves (IsAppending file gate bytes) (after_write gate (1 ∷ []) (synced_moment with_bytes))
  writing_gate left image =
      let len : length left ≡ length with_bytes = omega (arith, image.at_least, image.at_most, length-appended) in
      inr (
        get_or left gate 0,
        but_the_gate left (omega (arith, len, within, length-with_bytes))
            (begin_alike gate left with_bytes (omega (arith, len, within, length-with_bytes)) (omega (arith, within, length-with_bytes))
            (λ i before. image.stays i (omega (arith, before, within, length-with_bytes)) (not_pending gate 1 i (inl before))))
            (end_alike (gate + 1) left with_bytes len (λ i from inside. image.stays i (omega (arith, inside, len)) (not_pending gate 1 i (inr from)))),
      )

  -- at the end
  pub gate_open : take (gate + 1 + length bytes) (appended file gate bytes) ≡ take gate file ++ 1 ∷ bytes
  gate_open =
      let all = appended file gate bytes in
      let long : gate < length with_bytes = omega (arith, within, length-with_bytes) in
      let end : drop gate all ≡ 1 ∷ drop (gate + 1) with_bytes = from-overwritten with_bytes (1 ∷ []) gate (omega (arith, long)) in
      let split = drop_more all gate 0 (omega (arith, long, length-appended)) in
      but_the_gate all (omega (arith, long, length-appended)) (before-overwritten with_bytes (1 ∷ []) gate (omega (arith, long))) (ap (λ l. drop 1 l) (sym split ∙ end))
      ∙ ap (λ b. take gate file ++ b ∷ bytes) (ap (λ l. get_or l 0 0) (sym split ∙ end))

  pub all_written : IsAppending file gate bytes (appended file gate bytes)
  all_written = inr (1, gate_open)
