-- Items of a list by their places.
use Rattle.std.proofs.Common.{◌≡◌, ℕ, zero, suc, ◌<◌, cond, nat_eq, List, [], ◌∷◌, length, set, true, false, Some, slice_get, refl, sym, ◌∙◌, ap, subst, arith}
use Rattle.std.specs.List.{AllByRecursion}
use Rattle.std.proofs.lemmas.Option.{slice_get_within}
use Rattle.std.proofs.lemmas.Bool.Decides.{nat_tests}
use Rattle.fuxi_terms.proofs.Booleans.{number_is, same_tests}

-- the item at a place
pub record ItemAt {A : Type 0} (xs : List A) (i : ℕ) : Type 0 where
  pub item : A
  pub there : slice_get xs i ≡ Some item

pub item_at : {A : Type 0} (xs : List A) (i : ℕ) → i < length xs → ItemAt xs i
item_at [] i lt = absurd (omega (arith, lt))
item_at (x ∷ xs) zero lt = record { item = x; there = refl }
item_at (x ∷ xs) (suc i) lt = let r = item_at xs i (omega (arith, lt)) in record { item = r.item; there = r.there }

-- what holds at each place holds of all items
pub all_from : {A : Type 0} (P : A → Type 0) (xs : List A) → ((i : ℕ) (x : A) → slice_get xs i ≡ Some x → P x) → AllByRecursion P xs
all_from P [] h = tt
all_from P (x ∷ xs) h = (h 0 x refl, all_from P xs (λ i y e. h (suc i) y e))

-- a place of another list that is as long
pub other_at : {A B : Type 0} (xs : List A) (ys : List B) (i : ℕ) (y : B) → length ys ≡ length xs → slice_get ys i ≡ Some y → ItemAt xs i
other_at xs ys i y same e = let lt = slice_get_within ys i y e in item_at xs i (omega (arith, lt, same))

-- an item is replaced
pub got_set : {A : Type 0} (xs : List A) (i : ℕ) (y : A) (k : ℕ) → i < length xs → slice_get (set xs i y) k ≡ cond (nat_eq i k) (Some y) (slice_get xs k)
got_set [] i y k lt = absurd (omega (arith, lt))
got_set (x ∷ xs) zero y zero lt = refl
got_set (x ∷ xs) zero y (suc k) lt = let off : false ≡ nat_eq 0 (suc k) = grind (arith, nat_tests) in ap (λ b. cond b (Some y) (slice_get xs k)) off
got_set (x ∷ xs) (suc i) y zero lt = let off : false ≡ nat_eq (suc i) 0 = grind (arith, nat_tests) in ap (λ b. cond b (Some y) (Some x)) off
got_set (x ∷ xs) (suc i) y (suc k) lt = got_set xs i y k (omega (arith, lt)) ∙ ap (λ b. cond b (Some y) (slice_get xs k)) (by i k)
  where
    by : (i k : ℕ) → nat_eq i k ≡ nat_eq (suc i) (suc k)
    by i k = same_tests (nat_eq i k) (nat_eq (suc i) (suc k)) (λ t. grind (arith, nat_tests, t)) (λ t. grind (arith, nat_tests, t))

pub length_set : {A : Type 0} (xs : List A) (i : ℕ) (y : A) → length (set xs i y) ≡ length xs
length_set [] i y = refl
length_set (x ∷ xs) zero y = refl
length_set (x ∷ xs) (suc i) y = let r = length_set xs i y in omega (arith, r)

-- what holds of the new item and of each other one
pub each_set : {A : Type 0} (P : ℕ → A → Type 0) (xs : List A) (i : ℕ) (y : A) → i < length xs → P i y → ((k : ℕ) (x : A) → nat_eq i k ≡ false → slice_get xs k ≡ Some x → P k x) → (k : ℕ) (x : A) → slice_get (set xs i y) k ≡ Some x → P k x
each_set {A} P xs i y lt here others k x e = elim (nat_eq i k) as (λ b. nat_eq i k ≡ b → cond b (Some y) (slice_get xs k) ≡ Some x → P k x) [
  | true ↦ λ t e. let same : y ≡ x = cc in subst (λ (n : ℕ). P n x) (number_is i k t) (subst (P i) same here)
  | false ↦ λ f e. others k x f e
] refl (sym (got_set xs i y k lt) ∙ e)
