-- The laws of vectors, from what they are at each place.
use Rattle.std.proofs.Common.{◌≡◌, inl, inr, ℕ, zero, suc, ◌+◌, ◌-◌, ◌*◌, ◌<◌, ◌≤◌, ◌^◌, true, nat_lt, ◌↔◌, List, [], ◌∷◌, length, replicate, get_or, ◌++◌, take, ◌&&◌, sum_by, refl, sym, ap, ◌∙◌, arith}
use Rattle.std.specs.List.{All, AllByRecursion, list_all}
use Rattle.std.proofs.Math.Nat.{mul-le-mul_left, mul-le-mul_right}
use Rattle.std.proofs.lemmas.List.{take_at, length-append, length-replicate, get_or_past, get_or_default}
use Rattle.std.proofs.lemmas.List.Sums.{sum_by-cons}
use Rattle.std.proofs.lemmas.Bool.{and_parts, ltb-false, not-true, cases_lt}
use Rattle.fuxi_terms.specs.Vectors.{fits, plus, minus, times, at_place}
use Rattle.fuxi_terms.specs.Cluster.{is_at_most, are_quantities}
use Rattle.fuxi_terms.specs.Limits.{greatest_quantity}
use Rattle.fuxi_terms.specs.Padded.{padded}
use Rattle.fuxi_terms.specs.Totals.{total_of}
use Rattle.fuxi_terms.proofs.Booleans.{same_tests}
use Rattle.fuxi_terms.proofs.ByPlace.{at_place-get_or, get_or-plus, get_or-minus, get_or-times, length-plus, length-minus, length-times, fits_at, fits_from, same_places}
use Rattle.fuxi_terms.proofs.IndexedLists.{repeated_at}

-- ---- places

pub fits_places : (a b : List ℕ) → (fits a b ≡ true) ↔ ((i : ℕ) → at_place a i ≤ at_place b i)
fits_places a b = (
  λ e i. omega (arith, at_place-get_or a i, at_place-get_or b i, fits_at a b e i),
  λ h. fits_from a b (λ i l. omega (arith, at_place-get_or a i, at_place-get_or b i, h i)),
)

pub at_place-plus : (a b : List ℕ) (i : ℕ) → at_place (plus a b) i ≡ at_place a i + at_place b i
at_place-plus a b i = omega (arith, at_place-get_or a i, at_place-get_or b i, at_place-get_or (plus a b) i, get_or-plus a b i)

pub at_place-minus : (a b : List ℕ) (i : ℕ) → at_place (minus a b) i ≡ at_place a i - at_place b i
at_place-minus a b i = omega (arith, at_place-get_or a i, at_place-get_or b i, at_place-get_or (minus a b) i, get_or-minus a b i)

pub at_place-times : (n : ℕ) (a : List ℕ) (i : ℕ) → at_place (times n a) i ≡ n * at_place a i
at_place-times n a i = at_place-get_or (times n a) i ∙ get_or-times n a i ∙ ap (λ x. n * x) (sym (at_place-get_or a i))

pub same_at_places : (a b : List ℕ) → length a ≡ length b → ((i : ℕ) → at_place a i ≡ at_place b i) → a ≡ b
same_at_places a b e h = same_places a b e (λ i l. omega (arith, at_place-get_or a i, at_place-get_or b i, h i))

-- ---- the order

pub fits-refl : (a : List ℕ) → fits a a ≡ true
fits-refl a = fits_from a a (λ i l. omega arith)

pub fits-trans : (a b c : List ℕ) → fits a b ≡ true → fits b c ≡ true → fits a c ≡ true
fits-trans a b c h k = fits_from a c (λ i l. omega (arith, fits_at a b h i, fits_at b c k i))

pub fits-antisym : (a b : List ℕ) → length a ≡ length b → fits a b ≡ true → fits b a ≡ true → a ≡ b
fits-antisym a b e h k = same_places a b e (λ i l. omega (arith, fits_at a b h i, fits_at b a k i))

pub fits-zeros : (n : ℕ) (a : List ℕ) → fits (replicate n 0) a ≡ true
fits-zeros n a = fits_from (replicate n 0) a (λ i l. omega (arith, repeated_at {A = ℕ} 0 n i))

-- ---- sums and differences

pub plus_comm : (a b : List ℕ) → plus a b ≡ plus b a
plus_comm [] [] = refl
plus_comm [] (y ∷ b) = refl
plus_comm (x ∷ a) [] = refl
plus_comm (x ∷ a) (y ∷ b) = let e : x + y ≡ y + x = omega arith in let t = plus_comm a b in cc

pub plus_assoc : (a b c : List ℕ) → plus (plus a b) c ≡ plus a (plus b c)
plus_assoc [] b c = refl
plus_assoc (x ∷ a) [] c = refl
plus_assoc (x ∷ a) (y ∷ b) [] = refl
plus_assoc (x ∷ a) (y ∷ b) (z ∷ c) = let e : x + y + z ≡ x + (y + z) = omega arith in let t = plus_assoc a b c in cc

pub plus-zeros : (a : List ℕ) → plus a (replicate (length a) 0) ≡ a
plus-zeros [] = refl
plus-zeros (x ∷ a) = let e : x + 0 ≡ x = omega arith in let t = plus-zeros a in cc

pub minus-plus : (a b : List ℕ) → length a ≡ length b → minus (plus a b) b ≡ a
minus-plus a b e = same_places (minus (plus a b) b) a (omega (arith, length-minus (plus a b) b, length-plus a b e)) (λ i l. omega (arith, get_or-minus (plus a b) b i, get_or-plus a b i))

pub plus-minus : (a b : List ℕ) → length a ≡ length b → fits b a ≡ true → plus (minus a b) b ≡ a
plus-minus a b e h =
    let m = length-minus a b in
    same_places (plus (minus a b) b) a (omega (arith, length-plus (minus a b) b (omega arith))) (λ i l. omega (arith, get_or-plus (minus a b) b i, get_or-minus a b i, fits_at b a h i))

pub fits-plus_left : (a b : List ℕ) → fits a (plus a b) ≡ true
fits-plus_left a b = fits_from a (plus a b) (λ i l. omega (arith, get_or-plus a b i))

pub fits-minus_left : (a b : List ℕ) → fits (minus a b) a ≡ true
fits-minus_left a b = fits_from (minus a b) a (λ i l. omega (arith, get_or-minus a b i))

pub fits-plus-plus : (a b c d : List ℕ) → fits a b ≡ true → fits c d ≡ true → fits (plus a c) (plus b d) ≡ true
fits-plus-plus a b c d h k = fits_from (plus a c) (plus b d) (λ i l. omega (arith, get_or-plus a c i, get_or-plus b d i, fits_at a b h i, fits_at c d k i))

pub fits-minus-minus : (a b c d : List ℕ) → fits a b ≡ true → fits d c ≡ true → fits (minus a c) (minus b d) ≡ true
fits-minus-minus a b c d h k = fits_from (minus a c) (minus b d) (λ i l. omega (arith, get_or-minus a c i, get_or-minus b d i, fits_at a b h i, fits_at d c k i))

-- two tests that hold at the same time are one test
pub fits-free : (size used has : List ℕ) → fits used has ≡ true → fits size (minus has used) ≡ fits (plus used size) has
fits-free size used has u = same_tests (fits size (minus has used)) (fits (plus used size) has)
    (λ e. fits_from (plus used size) has (λ i l. omega (arith, get_or-plus used size i, get_or-minus has used i, fits_at size (minus has used) e i, fits_at used has u i)))
    (λ e. fits_from size (minus has used) (λ i l. omega (arith, get_or-plus used size i, get_or-minus has used i, fits_at (plus used size) has e i)))

-- ---- multiples

pub times-zero : (a : List ℕ) → times 0 a ≡ replicate (length a) 0
times-zero [] = refl
times-zero (x ∷ a) = let e : 0 * x ≡ 0 = omega arith in let t = times-zero a in cc

pub times-one : (a : List ℕ) → times 1 a ≡ a
times-one [] = refl
times-one (x ∷ a) = let e : 1 * x ≡ x = omega arith in let t = times-one a in cc

pub times-add : (m n : ℕ) (a : List ℕ) → times (m + n) a ≡ plus (times m a) (times n a)
times-add m n [] = refl
times-add m n (x ∷ a) = let e : (m + n) * x ≡ m * x + n * x = omega arith in let t = times-add m n a in cc

pub times-sub : (m n : ℕ) (a : List ℕ) → n ≤ m → minus (times m a) (times n a) ≡ times (m - n) a
times-sub m n [] h = refl
times-sub m n (x ∷ a) h =
    let e : m * x - n * x ≡ (m - n) * x = let k : m - n + n ≡ m = omega arith in omega (arith, ap (λ j. j * x) k) in let t = times-sub m n a h in cc

pub times-plus : (n : ℕ) (a b : List ℕ) → length a ≡ length b → times n (plus a b) ≡ plus (times n a) (times n b)
times-plus n [] [] h = refl
times-plus n [] (y ∷ b) h = refl
times-plus n (x ∷ a) [] h = refl
times-plus n (x ∷ a) (y ∷ b) h = let e : n * (x + y) ≡ n * x + n * y = omega arith in let t = times-plus n a b (omega arith) in cc

pub fits-times : (m n : ℕ) (a b : List ℕ) → m ≤ n → fits a b ≡ true → fits (times m a) (times n b) ≡ true
fits-times m n a b h k = fits_from (times m a) (times n b) (λ i l.
    let p = fits_at a b k i in
    omega (arith, get_or-times m a i, get_or-times n b i, mul-le-mul_left m p, mul-le-mul_right (get_or b i 0) h))

-- ---- ranges

pub All-fits : (bound : ℕ) (a b : List ℕ) → 0 < bound → fits a b ≡ true → All (λ n. n < bound) b → All (λ n. n < bound) a
All-fits bound a b z h below i d l =
    let p = fits_at a b h i in
    let q = get_or_default a i d 0 l in
    elim (cases_lt i (length b)) [
      | inl k ↦ omega (arith, below i 0 k)
      | inr k ↦ omega (arith, get_or_past b i 0 k)
    ]

-- also past the end, where a place is 0
at_most : (k : ℕ) (a : List ℕ) → All (λ n. n ≤ k) a → (i : ℕ) → get_or a i 0 ≤ k
at_most k a p i = elim (cases_lt i (length a)) [
  | inl l ↦ p i 0 l
  | inr l ↦ omega (arith, get_or_past a i 0 l)
]

pub All-plus : (j k : ℕ) (a b : List ℕ) → All (λ n. n ≤ j) a → All (λ n. n ≤ k) b → All (λ n. n ≤ j + k) (plus a b)
All-plus j k a b p q i d l =
    let e = get_or_default (plus a b) i d 0 l in
    omega (arith, get_or-plus a b i, at_most j a p i, at_most k b q i)

pub All-times : (m k : ℕ) (a : List ℕ) → All (λ n. n ≤ k) a → All (λ n. n ≤ m * k) (times m a)
All-times m k a p i d l =
    let e = get_or_default (times m a) i d 0 l in
    omega (arith, get_or-times m a i, mul-le-mul_left m (at_most k a p i))

-- quantities are at most the greatest one
quantities_at_most : (a : List ℕ) → are_quantities a ≡ true → All (λ n. n ≤ greatest_quantity) a
quantities_at_most [] h i d l = absurd (let e : ⊥ = omega arith in e)
quantities_at_most (x ∷ a) h zero d l = ltb-false greatest_quantity x (not-true (nat_lt greatest_quantity x) (and_parts (is_at_most greatest_quantity x) (list_all (is_at_most greatest_quantity) a) h).0)
quantities_at_most (x ∷ a) h (suc i) d l = quantities_at_most a (and_parts (is_at_most greatest_quantity x) (list_all (is_at_most greatest_quantity) a) h).1 i d (omega arith)

total_at_most : (counted : List (ℕ × List ℕ)) → AllByRecursion (λ e. are_quantities e.1 ≡ true) counted → All (λ n. n ≤ sum_by (λ e. e.0) counted * greatest_quantity) (total_of counted)
total_at_most [] h i d l = absurd (let e : ⊥ = omega arith in e)
total_at_most (e ∷ es) h i d l =
    let t = All-times e.0 greatest_quantity e.1 (quantities_at_most e.1 h.0) in
    let r = total_at_most es h.1 in
    omega (arith, All-plus (e.0 * greatest_quantity) (sum_by (λ e. e.0) es * greatest_quantity) (times e.0 e.1) (total_of es) t r i d l, sum_by-cons (λ (p : ℕ × List ℕ). p.0) e es)

pub All-total : (counted : List (ℕ × List ℕ)) → sum_by (λ e. e.0) counted ≤ 2 ^ 40 → AllByRecursion (λ e. are_quantities e.1 ≡ true) counted → All (λ n. n < 2 ^ 128) (total_of counted)
All-total counted s h i d l = omega (arith, s, total_at_most counted h i d l)

-- ---- zeros behind

pub length-padded : (a : List ℕ) → length a ≤ 8 → length (padded a) ≡ 8
length-padded a h = omega (arith, length-append a (replicate (8 - length a) 0), length-replicate {A = ℕ} (8 - length a) 0)

pub take-padded : (a : List ℕ) → take (length a) (padded a) ≡ a
take-padded a = take_at a (replicate (8 - length a) 0) (length a) refl

-- a list with n zeros behind has the same places
behind_at : (a : List ℕ) (n i : ℕ) → get_or (a ++ replicate n 0) i 0 ≡ get_or a i 0
behind_at [] n i = repeated_at {A = ℕ} 0 n i
behind_at (x ∷ a) n zero = refl
behind_at (x ∷ a) n (suc i) = behind_at a n i

pub get_or-padded : (a : List ℕ) (i : ℕ) → get_or (padded a) i 0 ≡ get_or a i 0
get_or-padded a i = behind_at a (8 - length a) i

pub at_place-padded : (a : List ℕ) (i : ℕ) → at_place (padded a) i ≡ at_place a i
at_place-padded a i = omega (arith, at_place-get_or (padded a) i, at_place-get_or a i, get_or-padded a i)

pub fits-padded : (a b : List ℕ) → fits (padded a) (padded b) ≡ fits a b
fits-padded a b = same_tests (fits (padded a) (padded b)) (fits a b)
    (λ e. fits_from a b (λ i l. omega (arith, get_or-padded a i, get_or-padded b i, fits_at (padded a) (padded b) e i)))
    (λ e. fits_from (padded a) (padded b) (λ i l. omega (arith, get_or-padded a i, get_or-padded b i, fits_at a b e i)))

plus-behind : (a b : List ℕ) (n : ℕ) → length a ≡ length b → plus (a ++ replicate n 0) (b ++ replicate n 0) ≡ plus a b ++ replicate n 0
plus-behind [] [] zero e = refl
plus-behind [] [] (suc n) e = ap (λ xs. 0 ∷ xs) (plus-behind [] [] n refl)
plus-behind [] (y ∷ b) n e = absurd (let f : ⊥ = omega arith in f)
plus-behind (x ∷ a) [] n e = absurd (let f : ⊥ = omega arith in f)
plus-behind (x ∷ a) (y ∷ b) n e = ap (λ xs. (x + y) ∷ xs) (plus-behind a b n (omega arith))

minus-behind : (a b : List ℕ) (n : ℕ) → length a ≡ length b → minus (a ++ replicate n 0) (b ++ replicate n 0) ≡ minus a b ++ replicate n 0
minus-behind [] [] zero e = refl
minus-behind [] [] (suc n) e = ap (λ xs. 0 ∷ xs) (minus-behind [] [] n refl)
minus-behind [] (y ∷ b) n e = absurd (let f : ⊥ = omega arith in f)
minus-behind (x ∷ a) [] n e = absurd (let f : ⊥ = omega arith in f)
minus-behind (x ∷ a) (y ∷ b) n e = ap (λ xs. (x - y) ∷ xs) (minus-behind a b n (omega arith))

times-behind : (m : ℕ) (a : List ℕ) (n : ℕ) → times m (a ++ replicate n 0) ≡ times m a ++ replicate n 0
times-behind m [] zero = refl
times-behind m [] (suc n) = let e : m * 0 ≡ 0 = omega arith in let t = times-behind m [] n in cc
times-behind m (x ∷ a) n = ap (λ xs. (m * x) ∷ xs) (times-behind m a n)

pub plus-padded : (a b : List ℕ) → length a ≡ length b → plus (padded a) (padded b) ≡ padded (plus a b)
plus-padded a b e = let l = length-plus a b e in let t = plus-behind a b (8 - length a) e in cc

pub minus-padded : (a b : List ℕ) → length a ≡ length b → minus (padded a) (padded b) ≡ padded (minus a b)
minus-padded a b e = let l = length-minus a b in let t = minus-behind a b (8 - length a) e in cc

pub times-padded : (m : ℕ) (a : List ℕ) → times m (padded a) ≡ padded (times m a)
times-padded m a = let l = length-times m a in let t = times-behind m a (8 - length a) in cc

quantities-behind : (a : List ℕ) (n : ℕ) → are_quantities (a ++ replicate n 0) ≡ are_quantities a
quantities-behind [] zero = refl
quantities-behind [] (suc n) = quantities-behind [] n
quantities-behind (x ∷ a) n = ap (λ b. is_at_most greatest_quantity x && b) (quantities-behind a n)

pub quantities-padded : (a : List ℕ) → are_quantities (padded a) ≡ are_quantities a
quantities-padded a = quantities-behind a (8 - length a)
