-- The number of entries before them, and the bytes of numbers.
use Rattle.std.proofs.Common.{◌≡◌, ℕ, ◌+◌, ◌*◌, ◌<◌, ◌≤◌, ◌^◌, List, [], ◌∷◌, ◌++◌, length, take, drop, append_assoc, sym, ◌∙◌, ap, subst, arith}
use Rattle.std.specs.List.{All, AllByRecursion, flat_map}
use Rattle.std.proofs.lemmas.List.Elements.{recursion_from_All}
use Rattle.std.specs.Int.{to_be_bytes, from_be_bytes, w32}
use Rattle.std.proofs.lemmas.Nat.{from_be_bytes-to_be_bytes_4}
use Rattle.std.proofs.lemmas.List.{length-append, append-nil}
use Rattle.std.proofs.lemmas.List.Concat.{flat_map-append}
use Rattle.std.proofs.Math.Nat.{mul-le-mul_right}
use Rattle.ledger_law.specs.Forms.{counted}

module _ {E : Type 0} (form : E → List ℕ) (V : E → Type 0) (width : ℕ) (wide : (e : E) → V e → length (form e) ≡ width) where
  pub length_all : (es : List E) → AllByRecursion V es → length (flat_map form es) ≡ length es * width
  length_all [] h = omega arith
  length_all (e ∷ es) h = omega (arith, length-append (form e) (flat_map form es), wide e h.0, length_all es h.1)

  -- one entry more is read off the bytes that are left
  pub read_more : (es : List E) (e : E) (left rest bytes : List ℕ) → left ≡ form e ++ rest → flat_map form es ++ left ≡ bytes → flat_map form (es ++ e ∷ []) ++ rest ≡ bytes
  read_more es e left rest bytes is so_far = rw (flat_map-append, append-nil, append_assoc) (subst (λ l. flat_map form es ++ l ≡ bytes) is so_far)

  pub shorter_by : (left rest k n : ℕ) → rest + width ≡ left → left + k * width ≡ n * width → rest + (k + 1) * width ≡ n * width
  shorter_by left rest k n is so_far = omega arith

  pub one_left : (left k n : ℕ) → k < n → left + k * width ≡ n * width → width ≤ left
  one_left left k n lt so_far = let le : (k + 1) * width ≤ n * width = mul-le-mul_right width (omega arith) in omega arith

  -- bytes that are no form by their length
  pub not_counted : (bytes : List ℕ) (n : ℕ) → n ≡ from_be_bytes w32 (take 4 bytes) → ((length (drop 4 bytes) ≡ n * width) → ⊥) → (es : List E) → All V es → length es < 2 ^ 32 → bytes ≡ counted form es → ⊥
  not_counted bytes n is differs es all few e =
      let front : take 4 bytes ≡ to_be_bytes w32 (length es) = ap (take 4) e in
      let rest : drop 4 bytes ≡ flat_map form es = ap (drop 4) e in
      let same : n ≡ length es = is ∙ ap (from_be_bytes w32) front ∙ from_be_bytes-to_be_bytes_4 (length es) few in
      differs (ap length rest ∙ length_all es (recursion_from_All V es all) ∙ ap (λ m. m * width) (sym same))
