-- Vectors of resources, as lists of numbers: one place for each resource of the cluster. A place that a vector does not have counts as 0.
use Rattle.std.specs.Prelude.{ℕ, ◌+◌, ◌-◌, ◌*◌, Bool, true, not, nat_eq, nat_lt, ◌&&◌, List, [], ◌∷◌, map, slice_get}
use Rattle.std.specs.Option.{unwrap_or}

-- each place of the first is at most that of the second
abbrev pub fits : List ℕ → List ℕ → Bool
fits [] bs = true
fits (a ∷ as_) [] = nat_eq a 0 && fits as_ []
fits (a ∷ as_) (b ∷ bs) = not (nat_lt b a) && fits as_ bs

abbrev pub plus : List ℕ → List ℕ → List ℕ
plus [] bs = bs
plus (a ∷ as_) [] = a ∷ as_
plus (a ∷ as_) (b ∷ bs) = (a + b) ∷ plus as_ bs

-- place by place, and 0 where the second is greater
abbrev pub minus : List ℕ → List ℕ → List ℕ
minus [] bs = []
minus (a ∷ as_) [] = a ∷ as_
minus (a ∷ as_) (b ∷ bs) = (a - b) ∷ minus as_ bs

abbrev pub times : ℕ → List ℕ → List ℕ
times n as_ = map (λ a. n * a) as_

abbrev pub is_zero : List ℕ → Bool
is_zero as_ = fits as_ []

-- one place
abbrev pub at_place : List ℕ → ℕ → ℕ
at_place as_ i = unwrap_or (slice_get as_ i) 0
