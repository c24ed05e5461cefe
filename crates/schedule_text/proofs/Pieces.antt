-- What is split, tested and joined in pairs may as well be read first.
use Rattle.std.proofs.Common.{◌≡◌, ℕ, suc, ◌+◌, arith, Bool, true, false, cond, nat_eq, ◌&&◌, List, [], ◌∷◌, map, length, refl, ap, sym, ◌∙◌}
use Rattle.std.proofs.lemmas.List.Sums.{sum_by-cons}
use Rattle.std.specs.List.{list_all, sum_by, zip, slice_split, onto_first}
use Rattle.std.specs.Str.{bytes_eq}

onto_mapped : {A B : Type 0} (f : A → B) (x : A) (parts : List (List A)) → onto_first (f x) (map (map f) parts) ≡ map (map f) (onto_first x parts)
onto_mapped f x [] = refl
onto_mapped f x (p ∷ ps) = refl

pub split_mapped : {A B : Type 0} (p : B → Bool) (f : A → B) (xs : List A) → slice_split p (map f xs) ≡ map (map f) (slice_split (λ x. p (f x)) xs)
split_mapped p f [] = refl
split_mapped p f (x ∷ xs) =
    elim (p (f x)) as (λ b. cond b ([] ∷ slice_split p (map f xs)) (onto_first (f x) (slice_split p (map f xs))) ≡ map (map f) (cond b ([] ∷ slice_split (λ x. p (f x)) xs) (onto_first x (slice_split (λ x. p (f x)) xs)))) [
      | true ↦ ap (λ parts. [] ∷ parts) (split_mapped p f xs)
      | false ↦ ap (onto_first (f x)) (split_mapped p f xs) ∙ onto_mapped f x (slice_split (λ x. p (f x)) xs)
    ]

pub all_mapped : {A B : Type 0} (test : B → Bool) (f : A → B) (xs : List A) → list_all (λ x. test (f x)) xs ≡ list_all test (map f xs)
all_mapped test f [] = refl
all_mapped test f (x ∷ xs) = ap (λ b. test (f x) && b) (all_mapped test f xs)

pub pairs_mapped : {A B C : Type 0} (test : C × C → Bool) (f : A → C) (g : B → C) (xs : List A) (ys : List B) → list_all (λ p. test (f p.0, g p.1)) (zip xs ys) ≡ list_all test (zip (map f xs) (map g ys))
pairs_mapped test f g [] ys = refl
pairs_mapped test f g (x ∷ xs) [] = refl
pairs_mapped test f g (x ∷ xs) (y ∷ ys) = ap (λ b. test (f x, g y) && b) (pairs_mapped test f g xs ys)

-- what is the same byte by byte, and as long, is the same
pub bytes_paired : (xs ys : List ℕ) → length xs ≡ length ys → list_all (λ p. nat_eq p.0 p.1) (zip xs ys) ≡ bytes_eq xs ys
bytes_paired [] [] e = refl
bytes_paired [] (y ∷ ys) e = cc
bytes_paired (x ∷ xs) [] e = cc
bytes_paired (x ∷ xs) (y ∷ ys) e = ap (λ b. nat_eq x y && b) (bytes_paired xs ys (omega (arith, e)))

pub map_twice : {A B C : Type 0} (f : A → B) (g : B → C) (xs : List A) → map (λ x. g (f x)) xs ≡ map g (map f xs)
map_twice f g [] = refl
map_twice f g (x ∷ xs) = ap (λ l. g (f x) ∷ l) (map_twice f g xs)

onto_counted : {A : Type 0} (x : A) (parts : List (List A)) (n : ℕ) → sum_by (λ u. length u + 1) parts ≡ n + 1 → sum_by (λ u. length u + 1) (onto_first x parts) ≡ suc n + 1
onto_counted x [] n h = absurd (omega (arith, h))
onto_counted x (p ∷ ps) n h =
    let one = sym (sum_by-cons (λ u. length u + 1) p ps) ∙ h in
    let more : suc (length p) + 1 + sum_by (λ u. length u + 1) ps ≡ suc n + 1 = omega (arith, one) in
    sum_by-cons (λ u. length u + 1) (x ∷ p) ps ∙ more

first_counted : {A : Type 0} (parts : List (List A)) (n : ℕ) → sum_by (λ u. length u + 1) parts ≡ n + 1 → sum_by (λ u. length u + 1) ([] ∷ parts) ≡ suc n + 1
first_counted parts n h = let e = sum_by-cons (λ u. length u + 1) [] parts in omega (arith, h, e)

-- the parts have all elements but those at which they are split
pub parts_counted : {A : Type 0} (p : A → Bool) (xs : List A) → sum_by (λ u. length u + 1) (slice_split p xs) ≡ length xs + 1
parts_counted p [] = refl
parts_counted p (x ∷ xs) =
    elim (p x) as (λ b. sum_by (λ u. length u + 1) (cond b ([] ∷ slice_split p xs) (onto_first x (slice_split p xs))) ≡ suc (length xs) + 1) [
      | true ↦ first_counted (slice_split p xs) (length xs) (parts_counted p xs)
      | false ↦ onto_counted x (slice_split p xs) (length xs) (parts_counted p xs)
    ]
