-- Tests of each number below a number.
use Rattle.std.proofs.Common.{◌≡◌, inl, inr, ℕ, zero, suc, ◌<◌, Bool, true, false, List, [], ◌∷◌, ◌++◌, refl, ◌∙◌, ap, arith}
use Rattle.std.specs.Prelude.{◌&&◌}
use Rattle.std.specs.List.{list_all}
use Rattle.std.proofs.lemmas.Bool.{cases_lt}
use Rattle.fuxi_terms.specs.Lists.{below}
use Rattle.fuxi_terms.proofs.Booleans.{and_true, false_and, false_right}

all_push : (f : ℕ → Bool) (xs : List ℕ) (n : ℕ) → list_all f (xs ++ n ∷ []) ≡ (list_all f xs && f n)
all_push f [] n = last (f n)
  where
    last : (b : Bool) → (b && true) ≡ (true && b)
    last true = refl
    last false = refl
all_push f (x ∷ xs) n = ap (λ b. f x && b) (all_push f xs n) ∙ assoc (f x) (list_all f xs) (f n)
  where
    assoc : (a b c : Bool) → (a && (b && c)) ≡ ((a && b) && c)
    assoc true b c = refl
    assoc false b c = refl

pub all_below : (f : ℕ → Bool) (n : ℕ) → ((m : ℕ) → m < n → f m ≡ true) → list_all f (below n) ≡ true
all_below f zero each = refl
all_below f (suc n) each = all_push f (below n) n ∙ and_true (list_all f (below n)) (f n) (all_below f n (λ m lt. each m (omega (arith, lt)))) (each n (omega arith))

pub one_fails : (f : ℕ → Bool) (n m : ℕ) → m < n → f m ≡ false → list_all f (below n) ≡ false
one_fails f zero m within fails = absurd (omega (arith, within))
one_fails f (suc n) m within fails = all_push f (below n) n ∙ elim (cases_lt m n) [
  | inl before ↦ false_and (list_all f (below n)) (f n) (one_fails f n m before fails)
  | inr from ↦ false_right (list_all f (below n)) (f n) (ap f (let e : n ≡ m = omega (arith, within, from) in e) ∙ fails)
]
