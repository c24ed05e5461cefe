-- Vectors place by place: a place that a vector does not have is 0.
use Rattle.std.proofs.Common.{◌≡◌, ℕ, zero, suc, ◌+◌, ◌-◌, ◌*◌, ◌<◌, ◌≤◌, true, false, not, nat_eq, nat_lt, List, [], ◌∷◌, length, get_or, refl, ap, arith}
use Rattle.std.proofs.lemmas.Bool.{le-ltb, ltb-false, not-true, not_from_false, and_parts, and_from, eq-eqb, eqb-true}
use Rattle.std.proofs.lemmas.List.{ext_get_or}
use Rattle.std.specs.List.{All}
use Rattle.fuxi_terms.specs.Vectors.{fits, plus, minus, times, at_place}

pub at_place-get_or : (xs : List ℕ) (i : ℕ) → at_place xs i ≡ get_or xs i 0
at_place-get_or [] i = refl
at_place-get_or (x ∷ xs) zero = refl
at_place-get_or (x ∷ xs) (suc i) = at_place-get_or xs i

pub get_or-plus : (xs ys : List ℕ) (i : ℕ) → get_or (plus xs ys) i 0 ≡ get_or xs i 0 + get_or ys i 0
get_or-plus [] ys i = omega arith
get_or-plus (x ∷ xs) [] i = omega arith
get_or-plus (x ∷ xs) (y ∷ ys) zero = refl
get_or-plus (x ∷ xs) (y ∷ ys) (suc i) = get_or-plus xs ys i

pub get_or-minus : (xs ys : List ℕ) (i : ℕ) → get_or (minus xs ys) i 0 ≡ get_or xs i 0 - get_or ys i 0
get_or-minus [] ys i = omega arith
get_or-minus (x ∷ xs) [] i = omega arith
get_or-minus (x ∷ xs) (y ∷ ys) zero = refl
get_or-minus (x ∷ xs) (y ∷ ys) (suc i) = get_or-minus xs ys i

pub get_or-times : (n : ℕ) (xs : List ℕ) (i : ℕ) → get_or (times n xs) i 0 ≡ n * get_or xs i 0
get_or-times n [] i = omega arith
get_or-times n (x ∷ xs) zero = refl
get_or-times n (x ∷ xs) (suc i) = get_or-times n xs i

pub length-plus : (xs ys : List ℕ) → length xs ≡ length ys → length (plus xs ys) ≡ length xs
length-plus [] [] e = refl
length-plus [] (y ∷ ys) e = omega arith
length-plus (x ∷ xs) [] e = refl
length-plus (x ∷ xs) (y ∷ ys) e = ap suc (length-plus xs ys (omega arith))

pub length-minus : (xs ys : List ℕ) → length (minus xs ys) ≡ length xs
length-minus [] ys = refl
length-minus (x ∷ xs) [] = refl
length-minus (x ∷ xs) (y ∷ ys) = ap suc (length-minus xs ys)

pub length-times : (n : ℕ) (xs : List ℕ) → length (times n xs) ≡ length xs
length-times n [] = refl
length-times n (x ∷ xs) = ap suc (length-times n xs)

-- what a test of one place says
le-from_test : (a b : ℕ) → not (nat_lt b a) ≡ true → a ≤ b
le-from_test a b h = ltb-false b a (not-true (nat_lt b a) h)

test-from_le : (a b : ℕ) → a ≤ b → not (nat_lt b a) ≡ true
test-from_le a b h = not_from_false (nat_lt b a) (le-ltb b a h)

-- a vector that fits another is at most that at each place, and the other way round
pub fits_at : (xs ys : List ℕ) → fits xs ys ≡ true → (i : ℕ) → get_or xs i 0 ≤ get_or ys i 0
fits_at [] ys h i = omega arith
fits_at (x ∷ xs) [] h zero = let e : x ≡ 0 = eqb-true x 0 (and_parts (nat_eq x 0) (fits xs []) h).0 in omega arith
fits_at (x ∷ xs) [] h (suc i) = fits_at xs [] (and_parts (nat_eq x 0) (fits xs []) h).1 i
fits_at (x ∷ xs) (y ∷ ys) h zero = le-from_test x y (and_parts (not (nat_lt y x)) (fits xs ys) h).0
fits_at (x ∷ xs) (y ∷ ys) h (suc i) = fits_at xs ys (and_parts (not (nat_lt y x)) (fits xs ys) h).1 i

pub fits_from : (xs ys : List ℕ) → ((i : ℕ) → i < length xs → get_or xs i 0 ≤ get_or ys i 0) → fits xs ys ≡ true
fits_from [] ys h = refl
fits_from (x ∷ xs) [] h = let e : x ≤ 0 = h 0 (omega arith) in
    and_from (nat_eq x 0) (fits xs []) (eq-eqb x 0 (omega arith)) (fits_from xs [] (λ i l. h (suc i) (omega arith)))
fits_from (x ∷ xs) (y ∷ ys) h =
    and_from (not (nat_lt y x)) (fits xs ys) (test-from_le x y (h 0 (omega arith))) (fits_from xs ys (λ i l. h (suc i) (omega arith)))

pub fits_not : (xs ys : List ℕ) (i : ℕ) → get_or ys i 0 < get_or xs i 0 → fits xs ys ≡ false
fits_not xs ys i h = elim (fits xs ys) as (λ v. fits xs ys ≡ v → v ≡ false) [
  | true ↦ λ e. absurd (let p = fits_at xs ys e i in let q : ⊥ = omega arith in q)
  | false ↦ λ e. refl
] refl

-- vectors of the same length with the same places are the same
pub same_places : (xs ys : List ℕ) → length xs ≡ length ys → ((i : ℕ) → i < length xs → get_or xs i 0 ≡ get_or ys i 0) → xs ≡ ys
same_places xs ys e h = ext_get_or 0 xs ys e h

-- what is written at each place below n is the whole vector
pub plus_written : (qs xs ys : List ℕ) (n : ℕ) → length qs ≡ n → length xs ≡ n → length ys ≡ n → ((k : ℕ) → k < n → get_or qs k 0 ≡ get_or xs k 0 + get_or ys k 0) → qs ≡ plus xs ys
plus_written qs xs ys n lq lx ly h =
    same_places qs (plus xs ys) (omega (arith, length-plus xs ys (omega arith))) (λ i l. omega (arith, h i (omega arith), get_or-plus xs ys i))

pub minus_written : (qs xs ys : List ℕ) (n : ℕ) → length qs ≡ n → length xs ≡ n → ((k : ℕ) → k < n → get_or qs k 0 ≡ get_or xs k 0 - get_or ys k 0) → qs ≡ minus xs ys
minus_written qs xs ys n lq lx h =
    same_places qs (minus xs ys) (omega (arith, length-minus xs ys)) (λ i l. omega (arith, h i (omega arith), get_or-minus xs ys i))

-- where each place of a sum is below a bound, so is the sum at one place
pub plus_below : (xs ys : List ℕ) (i bound : ℕ) → length xs ≡ 8 → length ys ≡ 8 → All (λ n. n < bound) (plus xs ys) → i < 8 → get_or xs i 0 + get_or ys i 0 < bound
plus_below xs ys i bound lx ly h l =
    let e : get_or (plus xs ys) i 0 < bound = h i 0 (omega (arith, length-plus xs ys (omega arith))) in omega (arith, get_or-plus xs ys i)
