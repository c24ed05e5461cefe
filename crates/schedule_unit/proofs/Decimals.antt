-- The words of numbers, and the decimals that are written.
use Rattle.std.proofs.Common.{◌≡◌, ℕ, ◌+◌, ◌-◌, ◌*◌, ◌/◌, ◌%◌, ◌<◌, ◌≤◌, ◌^◌, true, false, not, nat_eq, nat_lt, ◌&&◌, ◌||◌, if◌then◌else◌, List, [], ◌∷◌, length, get_or, take, Option, Some, None, inl, inr, refl, sym, ap, ◌∙◌, arith}
use Rattle.std.specs.Char.{is_ascii_digit}
use Rattle.std.specs.List.{list_all}
use Rattle.std.specs.Fmt.{decimal}
use Rattle.std.specs.Int.{IsInRange}
use Rattle.std.specs.Str.{all_ascii_digits}
use Rattle.std.specs.Str.Parse.{digits_value}
use Rattle.std.proofs.lemmas.Int.Digits.{digits_value_more}
use Rattle.std.proofs.lemmas.List.Folds.{list_all_at, list_all_more}
use Rattle.std.proofs.lemmas.Str.{digit_value_digit}
use Rattle.std.proofs.lemmas.Bool.{and_parts, and_from, or_left, or_right, or_cases, not-true, not_from_false, eq-eqb, eqb-true, eqb-false, ne_eqb, lt-ltb, le-ltb, ltb-false, cases_eq, cases_lt, cond-true, cond-false, cases_Bool, and_left, and_right}
use Rattle.std.proofs.lemmas.Str.Parse.{IsNumeralModel, numerals_by_value, digits_value-take-le, tells_all_ascii_digits}
use Rattle.std.proofs.lemmas.Fmt.{digits_decimal, digits_value-decimal, decimal_nonempty, length-decimal-le, first_decimal, decimal_digit, decimal_step, decimal-digits_value}
use Rattle.fuxi_terms.specs.Cluster.{is_between}
use Rattle.schedule_unit.specs.NumberWords.{is_numeral, number_of}

pub digits : IsNumeralModel (λ ds. all_ascii_digits ds ≡ true) (digits_value 10)
digits = numerals_by_value (λ ds. all_ascii_digits ds ≡ true) tells_all_ascii_digits

pub all_digits : (ds : List ℕ) → all_ascii_digits ds ≡ list_all is_ascii_digit ds
all_digits [] = refl
all_digits (c ∷ cs) = ap (λ b. is_ascii_digit c && b) (all_digits cs)

-- what the test of a word says
pub record IsNumeral (word : List ℕ) : Type 0 where
  pub all : all_ascii_digits word ≡ true
  pub least : 1 ≤ length word
  pub most : length word ≤ 20
  pub lead : get_or word 0 0 ≡ 48 → length word ≡ 1

pub IsNumeral-from : (word : List ℕ) → is_numeral word ≡ true → IsNumeral word
IsNumeral-from word h =
    let a = and_parts (all_ascii_digits word) (is_between 1 20 (length word) && (nat_eq (length word) 1 || not (nat_eq (get_or word 0 0) 48))) h in
    let b = and_parts (is_between 1 20 (length word)) (nat_eq (length word) 1 || not (nat_eq (get_or word 0 0) 48)) a.1 in
    let d = and_parts (not (nat_lt (length word) 1)) (not (nat_lt 20 (length word))) b.0 in
    record {
      all = a.0;
      least = ltb-false (length word) 1 (not-true (nat_lt (length word) 1) d.0);
      most = ltb-false 20 (length word) (not-true (nat_lt 20 (length word)) d.1);
      lead = λ e. elim (or_cases (nat_eq (length word) 1) (not (nat_eq (get_or word 0 0) 48)) b.1) [
        | inl k ↦ eqb-true (length word) 1 k
        | inr k ↦ absurd (eqb-false (get_or word 0 0) 48 (not-true (nat_eq (get_or word 0 0) 48) k) e)
      ];
    }

pub is_numeral-true : (word : List ℕ) → IsNumeral word → is_numeral word ≡ true
is_numeral-true word w =
    and_from (all_ascii_digits word) (is_between 1 20 (length word) && (nat_eq (length word) 1 || not (nat_eq (get_or word 0 0) 48))) w.all
    (and_from (is_between 1 20 (length word)) (nat_eq (length word) 1 || not (nat_eq (get_or word 0 0) 48))
    (and_from (not (nat_lt (length word) 1)) (not (nat_lt 20 (length word)))
    (not_from_false (nat_lt (length word) 1) (le-ltb (length word) 1 w.least))
    (not_from_false (nat_lt 20 (length word)) (le-ltb 20 (length word) w.most)))
    (elim (cases_eq (get_or word 0 0) 48) [
      | inl e ↦ or_left (nat_eq (length word) 1) (not (nat_eq (get_or word 0 0) 48)) (eq-eqb (length word) 1 (w.lead e))
      | inr n ↦ or_right (nat_eq (length word) 1) (not (nat_eq (get_or word 0 0) 48)) (not_from_false (nat_eq (get_or word 0 0) 48) (ne_eqb (get_or word 0 0) 48 n))
    ]))

pub number_of-some : (word : List ℕ) → is_numeral word ≡ true → digits_value 10 word < 2 ^ 64 → number_of word ≡ Some (digits_value 10 word)
number_of-some word h l = cond-true (is_numeral word && nat_lt (digits_value 10 word) (2 ^ 64)) (Some (digits_value 10 word)) None
    (and_from (is_numeral word) (nat_lt (digits_value 10 word) (2 ^ 64)) h (lt-ltb (digits_value 10 word) (2 ^ 64) l))

pub number_of-other : (word : List ℕ) → is_numeral word ≡ false → number_of word ≡ None
number_of-other word h = cond-false (is_numeral word && nat_lt (digits_value 10 word) (2 ^ 64)) (Some (digits_value 10 word)) None
    (and_left (is_numeral word) (nat_lt (digits_value 10 word) (2 ^ 64)) h)

pub number_of-great : (word : List ℕ) → 2 ^ 64 ≤ digits_value 10 word → number_of word ≡ None
number_of-great word h = cond-false (is_numeral word && nat_lt (digits_value 10 word) (2 ^ 64)) (Some (digits_value 10 word)) None
    (and_right (is_numeral word) (nat_lt (digits_value 10 word) (2 ^ 64)) (le-ltb (digits_value 10 word) (2 ^ 64) h))

-- a number that is written is read back
pub number_of-decimal : (n : ℕ) → n < 2 ^ 64 → number_of (decimal n) ≡ Some n
number_of-decimal n h =
    let v = digits_value-decimal digits n h in
    let w : IsNumeral (decimal n) = record {
      all = digits_decimal digits n h;
      least = decimal_nonempty n h;
      most = length-decimal-le 20 n (omega arith) (omega arith) h;
      lead = λ e. elim (cases_lt 0 n) [
        | inl p ↦ absurd (let f : ⊥ = omega (arith, first_decimal n p h) in f)
        | inr z ↦ let d = decimal_digit 0 (omega arith) in let k : n ≡ 0 = omega arith in ap (λ m. length (decimal m)) k ∙ ap length d
      ];
    } in
    number_of-some (decimal n) (is_numeral-true (decimal n) w) (omega arith) ∙ ap Some v

-- and each word that is read is the one that is written
pub decimal-number_of : (word : List ℕ) (n : ℕ) → number_of word ≡ Some n → (n < 2 ^ 64) × (word ≡ decimal n)
decimal-number_of word n e = elim (cases_Bool (is_numeral word)) [
  | inr f ↦ absurd (let x = number_of-other word f in let y : ⊥ = cc in y)
  | inl t ↦ elim (cases_lt (digits_value 10 word) (2 ^ 64)) [
    | inr g ↦ absurd (let x = number_of-great word g in let y : ⊥ = cc in y)
    | inl l ↦
        let w = IsNumeral-from word t in
        let x : digits_value 10 word ≡ n = let y = number_of-some word t l in cc in
        (omega arith, sym (decimal-digits_value digits word w.all w.least w.lead l) ∙ ap decimal x)
  ]
]

-- a short number, as it is written
pub two_digits : (n : ℕ) → 10 ≤ n → n < 100 → decimal n ≡ (48 + n / 10) ∷ (48 + n % 10) ∷ []
two_digits n lo hi = rw (decimal_step n lo (omega arith), decimal_digit (n / 10) (omega arith)) refl

-- Digits, one after another. What a walk over them answers
abbrev pub valued : List ℕ → Option ℕ
valued word = if all_ascii_digits word && nat_lt (digits_value 10 word) (2 ^ 64) then Some (digits_value 10 word) else None

in_range : (c : ℕ) → is_ascii_digit c ≡ true → IsInRange 48 57 c
in_range c h = (tells_all_ascii_digits.parts c [] (and_from (is_ascii_digit c) true h refl)).0

-- one more
pub more_digits : (word : List ℕ) (i : ℕ) → i < length word → all_ascii_digits (take i word) ≡ true → is_ascii_digit (get_or word i 0) ≡ true → all_ascii_digits (take (i + 1) word) ≡ true
more_digits word i h a d = all_digits (take (i + 1) word) ∙ list_all_more is_ascii_digit word i 0 h ∙ and_from (list_all is_ascii_digit (take i word)) (is_ascii_digit (get_or word i 0)) (sym (all_digits (take i word)) ∙ a) d

pub more_value : (word : List ℕ) (i : ℕ) → i < length word → is_ascii_digit (get_or word i 0) ≡ true → digits_value 10 (take (i + 1) word) ≡ digits_value 10 (take i word) * 10 + (get_or word i 0 - 48)
more_value word i h d = omega (arith, digits_value_more 10 word i h, digit_value_digit (get_or word i 0) (in_range (get_or word i 0) d))

-- a byte that is none
pub other_byte : (word : List ℕ) (i : ℕ) → i < length word → is_ascii_digit (get_or word i 0) ≡ false → None ≡ valued word
other_byte word i h n = sym (cond-false (all_ascii_digits word && nat_lt (digits_value 10 word) (2 ^ 64)) (Some (digits_value 10 word)) None
    (and_left (all_ascii_digits word) (nat_lt (digits_value 10 word) (2 ^ 64)) (all_digits word ∙ list_all_at is_ascii_digit word i 0 h n)))

-- a number that the next digit makes too great
pub too_great : (word : List ℕ) (i : ℕ) → i < length word → is_ascii_digit (get_or word i 0) ≡ true → 2 ^ 64 ≤ digits_value 10 (take i word) * 10 + (get_or word i 0 - 48) → None ≡ valued word
too_great word i h d g =
    let whole = digits_value-take-le 10 word (i + 1) (omega arith) in
    sym (cond-false (all_ascii_digits word && nat_lt (digits_value 10 word) (2 ^ 64)) (Some (digits_value 10 word)) None
    (and_right (all_ascii_digits word) (nat_lt (digits_value 10 word) (2 ^ 64)) (le-ltb (digits_value 10 word) (2 ^ 64) (omega (arith, more_value word i h d, whole, g)))))

-- and all of them
pub all_valued : (word : List ℕ) (n : ℕ) → all_ascii_digits word ≡ true → n ≡ digits_value 10 word → n < 2 ^ 64 → Some n ≡ valued word
all_valued word n a e l = ap Some e ∙ sym (cond-true (all_ascii_digits word && nat_lt (digits_value 10 word) (2 ^ 64)) (Some (digits_value 10 word)) None
    (and_from (all_ascii_digits word) (nat_lt (digits_value 10 word) (2 ^ 64)) a (lt-ltb (digits_value 10 word) (2 ^ 64) (omega (arith, e, l)))))
