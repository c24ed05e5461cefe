-- Sets of places, bit by bit.
use Rattle.std.proofs.Common.{◌≡◌, ◌≢◌, ℕ, zero, suc, ◌+◌, ◌-◌, ◌*◌, ◌/◌, ◌%◌, ◌^◌, ◌<◌, ◌≤◌, Bool, true, false, not, nat_eq, List, length, get_or, set, replicate, refl, sym, ap, ◌∙◌, inl, inr, arith}
use mathlib.Core.Bool.{beq}
use Rattle.std.proofs.lemmas.Bool.{cases_eq, cases_lt}
use Rattle.std.proofs.lemmas.List.{get_or-set_same, get_or-set_other, set_past}
use Rattle.std.proofs.lemmas.Nat.{shl_whole, shr-shr}
use Rattle.std.proofs.lemmas.Nat.Bits.{bit_at-zero, bit_at_xor, bit_at-pow_same, bit_at-pow_other, bit_at_above, bit_at-trailing_zeros}
use lib.Bits.{bit_xor}
use Rattle.std.proofs.Math.Nat.{div-le_self}
use Rattle.std.specs.Int.{w64, bit_at, trailing_zeros}
use Rattle.locality_tree.specs.PlaceSets.{in_set}
use Rattle.fuxi_terms.proofs.IndexedLists.{repeated_at}

pub none_set : (words : List ℕ) (k n : ℕ) → words ≡ replicate k 0 → in_set (record { words = words }) n ≡ false
none_set words k n is = ap (λ w. nat_eq (bit_at w (n % 64)) 1) (ap (λ (ws : List ℕ). get_or ws (n / 64) 0) is ∙ repeated_at {A = ℕ} 0 k (n / 64)) ∙ ap (λ b. nat_eq b 1) (bit_at-zero (n % 64))

one_more : (r : ℕ) → r < 2 → nat_eq ((r + 1) % 2) 1 ≡ not (nat_eq r 1)
one_more zero h = refl
one_more (suc zero) h = refl
one_more (suc (suc r)) h = absurd (omega arith)

module _ (words : List ℕ) (n : ℕ) where
  -- the bit of one number the other way round
  abbrev pub flipped : List ℕ
  flipped = set words (n / 64) (bit_xor (get_or words (n / 64) 0) (2 ^ (n % 64)))

  pub flipped_here : n / 64 < length words → in_set (record { words = flipped }) n ≡ not (in_set (record { words = words }) n)
  flipped_here long =
      let w : ℕ = get_or words (n / 64) 0 in
      let i : ℕ = n % 64 in
      let small : bit_at w i < 2 = omega arith in
      ap (λ x. nat_eq (bit_at x i) 1) (get_or-set_same words (n / 64) (bit_xor w (2 ^ i)) 0 long)
      ∙ ap (λ b. nat_eq b 1) (bit_at_xor w (2 ^ i) i ∙ ap (λ x. (bit_at w i + x) % 2) (bit_at-pow_same i))
      ∙ one_more (bit_at w i) small

  pub flipped_other : (m : ℕ) → m ≢ n → in_set (record { words = flipped }) m ≡ in_set (record { words = words }) m
  flipped_other m d = elim (cases_eq (m / 64) (n / 64)) as (λ _. in_set (record { words = flipped }) m ≡ in_set (record { words = words }) m) [
    | inl e ↦ elim (cases_lt (n / 64) (length words)) as (λ _. in_set (record { words = flipped }) m ≡ in_set (record { words = words }) m) [
      | inl long ↦
          let w : ℕ = get_or words (n / 64) 0 in
          let i : ℕ = m % 64 in
          let apart : i ≢ n % 64 = λ f. d (omega (arith, e, f)) in
          let bit : bit_at (bit_xor w (2 ^ (n % 64))) i ≡ bit_at w i = bit_at_xor w (2 ^ (n % 64)) i ∙ ap (λ x. (bit_at w i + x) % 2) (bit_at-pow_other (n % 64) i apart) ∙ twice (w / 2 ^ i) in
          ap (λ k. nat_eq (bit_at (get_or flipped k 0) i) 1) e ∙ ap (λ x. nat_eq (bit_at x i) 1) (get_or-set_same words (n / 64) (bit_xor w (2 ^ (n % 64))) 0 long) ∙ ap (λ b. nat_eq b 1) bit ∙ ap (λ k. nat_eq (bit_at (get_or words k 0) i) 1) (sym e)
      | inr past ↦ ap (λ (ws : List ℕ). nat_eq (bit_at (get_or ws (m / 64) 0) (m % 64)) 1) (set_past words (n / 64) (bit_xor (get_or words (n / 64) 0) (2 ^ (n % 64))) past)
    ]
    | inr f ↦ ap (λ x. nat_eq (bit_at x (m % 64)) 1) (get_or-set_other words (n / 64) (m / 64) (bit_xor (get_or words (n / 64) 0) (2 ^ (n % 64))) 0 f)
  ]
    where
      twice : (k : ℕ) → (k % 2 + 0) % 2 ≡ k % 2
      twice k = omega arith

-- the word with one bit
pub one_bit : (k : ℕ) → k < 64 → 1 * 2 ^ k % 18446744073709551616 ≡ 2 ^ k
one_bit k h = shl_whole 1 1 k 64 (omega arith) (omega arith) ∙ omega arith

pub other_bool : (a b : Bool) → not (beq a b) ≡ true → not a ≡ b
other_bool true true d = absurd (cc)
other_bool true false d = refl
other_bool false true d = refl
other_bool false false d = absurd (cc)

-- What is left of a word where a place has its bit.
module _ (words : List ℕ) (at : ℕ) where
  abbrev pub rest_at : ℕ
  rest_at = get_or words (at / 64) 0 / 2 ^ (at % 64)

  in_rest : (i : ℕ) → at % 64 + i < 64 → in_set (record { words = words }) (at + i) ≡ nat_eq (bit_at rest_at i) 1
  in_rest i h =
      let w : ℕ = get_or words (at / 64) 0 in
      let place : (at + i) / 64 ≡ at / 64 = omega (arith, h) in
      let bit : (at + i) % 64 ≡ at % 64 + i = omega (arith, h) in
      ap (λ k. nat_eq (bit_at (get_or words k 0) ((at + i) % 64)) 1) place ∙ ap (λ k. nat_eq (bit_at w k) 1) bit ∙ ap (λ x. nat_eq (x % 2) 1) (sym (shr-shr w (at % 64) i))

  -- where no bit is left there is no place before the next word
  pub rest_none : rest_at ≡ 0 → (n : ℕ) → at ≤ n → n < (at / 64 + 1) * 64 → in_set (record { words = words }) n ≡ false
  rest_none none n least most =
      let i : ℕ = n - at in
      let same : n ≡ at + i = omega (arith, least) in
      ap (in_set (record { words = words })) same ∙ in_rest i (omega (arith, least, most)) ∙ ap (λ x. nat_eq (bit_at x i) 1) none ∙ ap (λ b. nat_eq b 1) (bit_at-zero i)

  -- its lowest bit is that of the first place
  module _ (some : 0 < rest_at) (range : get_or words (at / 64) 0 < 2 ^ 64) where
    abbrev pub lowest : ℕ
    lowest = trailing_zeros w64 rest_at

    is_lowest : (lowest < 64) × (bit_at rest_at lowest ≡ 1) × ((i : ℕ) → i < lowest → bit_at rest_at i ≡ 0)
    is_lowest = bit_at-trailing_zeros w64 rest_at some (let less = div-le_self (get_or words (at / 64) 0) (2 ^ (at % 64)) in omega (arith, range, less))

    pub lowest_inside : at % 64 + lowest < 64
    lowest_inside = elim (cases_lt (at % 64 + lowest) 64) as (λ _. at % 64 + lowest < 64) [
      | inl h ↦ h
      | inr h ↦
          let w : ℕ = get_or words (at / 64) 0 in
          let none : bit_at rest_at lowest ≡ 0 = ap (λ x. x % 2) (shr-shr w (at % 64) lowest) ∙ bit_at_above w 64 (at % 64 + lowest) range h in
          absurd (let one = is_lowest.1 in omega (arith, none, one))
    ]

    pub lowest_found : in_set (record { words = words }) (at + lowest) ≡ true
    lowest_found = in_rest lowest lowest_inside ∙ ap (λ b. nat_eq b 1) is_lowest.1

    pub lowest_first : (n : ℕ) → at ≤ n → n < at + lowest → in_set (record { words = words }) n ≡ false
    lowest_first n least most =
        let i : ℕ = n - at in
        let same : n ≡ at + i = omega (arith, least) in
        let inside = lowest_inside in
        ap (in_set (record { words = words })) same ∙ in_rest i (omega (arith, least, most, inside)) ∙ ap (λ b. nat_eq b 1) (is_lowest.2 i (omega (arith, least, most)))
