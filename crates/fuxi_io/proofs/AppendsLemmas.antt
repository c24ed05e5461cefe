-- What was written, with what is written next, and what was read, with what is left.
use Rattle.std.proofs.Common.{◌≡◌, ℕ, ◌+◌, ◌<◌, ◌≤◌, List, [], ◌∷◌, ◌++◌, length, min, take, drop, add-zero, length-append, refl, take-append-drop, length-take, length-drop, Option, ap, subst, sym, ◌∙◌, arith}
use Rattle.std.proofs.Math.Seq.{take-add}
use Rattle.std.proofs.lemmas.List.{take_at, drop-drop}
use Rattle.std.specs.Io.KnownBytes.{Appends}
use Rattle.fuxi_terms.proofs.AppendsLemmas.{appends_both}

pub appends_more : (a b c : Option (List ℕ)) (bytes : List ℕ) (i n : ℕ) → Appends a b (take i bytes) → Appends b c (take n (drop i bytes)) → Appends a c (take (i + n) bytes)
appends_more a b c bytes i n h k = subst (Appends a c) (sym (take-add i n bytes)) (appends_both a b c (take i bytes) (take n (drop i bytes)) h k)

pub read_front : (n : ℕ) (left rest : List ℕ) → n ≤ length left → left ≡ take n (take n left ++ rest) ++ drop n left
read_front n left rest le = sym (ap (λ l. l ++ drop n left) (take_at (take n left) rest n (omega (arith, length-take n left, le))) ∙ take-append-drop n left)

none_of : (xs : List ℕ) → length xs ≡ 0 → xs ≡ []
none_of [] zero = refl
none_of (x ∷ xs) zero = absurd (omega (arith, zero))

-- a read of n bytes into the front of a buffer, from bytes that are read up to a place
pub read_at : (bytes left buf made : List ℕ) (at n : ℕ) → left ≡ drop at bytes → n ≡ min (length buf) (length left) → made ≡ take n left → (left ≡ take n (made ++ drop n buf) ++ drop (at + n) bytes) × (n ≡ 0 → 0 < length (made ++ drop n buf) → drop (at + n) bytes ≡ [])
read_at bytes left buf made at n is count copied = (
  read_front n left (drop n buf) (omega (arith, count)) ∙ ap (λ m. take n (m ++ drop n buf) ++ drop n left) (sym copied)
      ∙ ap (λ l. take n (made ++ drop n buf) ++ l) (ap (λ l. drop n l) is ∙ drop-drop n at bytes),
  λ zero some.
      let end : length left ≡ 0 = omega (arith, count, zero, some, length-append made (drop n buf), length-drop n buf, ap length copied, length-take n left) in
      ap (λ k. drop (at + k) bytes) zero ∙ ap (λ k. drop k bytes) (add-zero at) ∙ sym is ∙ none_of left end,
)
