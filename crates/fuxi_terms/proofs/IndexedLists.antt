-- Lists by index: what is read after one is written or mapped, also past the end.
use Rattle.std.proofs.Common.{◌≡◌, ◌≢◌, ℕ, zero, suc, ◌+◌, ◌<◌, true, false, cond, nat_eq, List, [], ◌∷◌, ◌++◌, length, get_or, set, map, refl, sym, ◌∙◌, ap, subst, arith, inl, inr, add-one}
use Rattle.std.specs.Prelude.{replicate}
use Rattle.std.proofs.lemmas.Bool.{cases_lt}
use Rattle.std.proofs.lemmas.Bool.Decides.{nat_tests}
use Rattle.std.proofs.lemmas.List.{get_or-set_same, get_or-set_other, get_or-map, length-map}
use Rattle.std.proofs.Math.ListN.{get_or-eq_default}
use Rattle.fuxi_terms.proofs.Booleans.{number_is}

pub one_set : {X : Type 0} (xs : List X) (a b : ℕ) (y d : X) → a < length xs → get_or (set xs a y) b d ≡ cond (nat_eq a b) y (get_or xs b d)
one_set xs a b y d lt = elim (nat_eq a b) as (λ t. nat_eq a b ≡ t → get_or (set xs a y) b d ≡ cond t y (get_or xs b d)) [
  | true ↦ λ t. subst (λ z. get_or (set xs a y) z d ≡ y) (number_is a b t) (get_or-set_same xs a y d lt)
  | false ↦ λ f. let o : b ≢ a = grind (arith, nat_tests) in get_or-set_other xs a b y d o
] refl

-- an index into a row that is there
pub slot_within : {X : Type 0} (rows : List (List X)) (a u : ℕ) → u < length (get_or rows a []) → a < length rows
slot_within rows a u lt = elim (cases_lt a (length rows)) [
  | inl l ↦ l
  | inr le ↦ let none : u < 0 = subst (λ xs. u < length xs) (get_or-eq_default rows [] le) lt in absurd (omega (arith, none))
]

-- a mapped place, also past the end where the defaults agree
pub mapped_at : {X Y : Type 0} (f : X → Y) (xs : List X) (i : ℕ) (d : X) (e : Y) → f d ≡ e → get_or (map f xs) i e ≡ f (get_or xs i d)
mapped_at f xs i d e same = elim (cases_lt i (length xs)) [
  | inl l ↦ get_or-map f xs i d e l
  | inr le ↦ get_or-eq_default (map f xs) e (let n = length-map xs f in omega (arith, n, le)) ∙ sym same ∙ ap f (sym (get_or-eq_default xs d le))
]

pub repeated_last : {A : Type 0} (n : ℕ) (x : A) → replicate (n + 1) x ≡ replicate n x ++ x ∷ []
repeated_last n x = ap (λ k. replicate k x) (add-one n) ∙ by n
  where
    by : (n : ℕ) → replicate (suc n) x ≡ replicate n x ++ x ∷ []
    by zero = refl
    by (suc n) = ap (λ xs. x ∷ xs) (by n)

-- what is repeated stands at each place where it is read past the end too
pub repeated_at : {A : Type 0} (x : A) (n i : ℕ) → get_or (replicate n x) i x ≡ x
repeated_at x zero i = refl
repeated_at x (suc n) zero = refl
repeated_at x (suc n) (suc i) = repeated_at x n i
