-- Sets of numbers, as lists that rise.
use Rattle.std.specs.Prelude.{ℕ, Bool, cond, not, nat_eq, nat_lt, List, [], ◌∷◌, filter}
use Rattle.std.specs.List.{list_any}

abbrev pub has_number : ℕ → List ℕ → Bool
has_number n ns = list_any (nat_eq n) ns

abbrev pub with_number : ℕ → List ℕ → List ℕ
with_number n [] = n ∷ []
with_number n (m ∷ ms) = cond (nat_lt n m) (n ∷ m ∷ ms) (cond (nat_eq n m) (m ∷ ms) (m ∷ with_number n ms))

abbrev pub without_number : ℕ → List ℕ → List ℕ
without_number n ns = filter (λ m. not (nat_eq m n)) ns
