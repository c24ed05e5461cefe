-- Where the slot of a number is in a list in the order of the numbers, or where it would be.
use Rattle.std.specs.Prelude.{◌≡◌, ℕ, ◌<◌, ◌≤◌, List, length, slice_get, Some, Result, Ok, Err}

module _ {X : Type 0} where
  pub record IsHere (slots : List (ℕ × X)) (number place : ℕ) : Type 0 where
    pub within : place < length slots
    pub here : (e : ℕ × X) → slice_get slots place ≡ Some e → e.0 ≡ number

  pub record IsGap (slots : List (ℕ × X)) (number place : ℕ) : Type 0 where
    pub within : place ≤ length slots
    pub before : (k : ℕ) (e : ℕ × X) → k < place → slice_get slots k ≡ Some e → e.0 < number
    pub behind : (e : ℕ × X) → slice_get slots place ≡ Some e → number < e.0

  abbrev pub IsPlace : List (ℕ × X) → ℕ → Result ℕ ℕ → Type 0
  IsPlace slots number (Ok place) = IsHere slots number place
  IsPlace slots number (Err place) = IsGap slots number place
