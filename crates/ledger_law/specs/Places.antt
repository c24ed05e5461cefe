-- Where a key stands among entries in the order of their keys, or where it would stand.
use Rattle.std.specs.Prelude.{◌≡◌, ℕ, ◌<◌, ◌≤◌, List, length, slice_get, Some, Result, Ok, Err}
use Rattle.std.specs.declared.cmp.Ordering.{Ordering}
use Rattle.std.specs.declared.cmp.Ordering.TheVariants.{Less, Equal, Greater}

module _ {K : Type 0} (R : K → K → Ordering) where
  pub record IsHere (es : List (K × ℕ)) (key : K) (place : ℕ) : Type 0 where
    pub within : place < length es
    pub here : (e : K × ℕ) → slice_get es place ≡ Some e → R key e.0 ≡ Equal

  pub record IsGap (es : List (K × ℕ)) (key : K) (place : ℕ) : Type 0 where
    pub within : place ≤ length es
    pub before : (j : ℕ) (e : K × ℕ) → j < place → slice_get es j ≡ Some e → R key e.0 ≡ Greater
    pub above : (e : K × ℕ) → slice_get es place ≡ Some e → R key e.0 ≡ Less

  abbrev pub IsPlace : List (K × ℕ) → K → Result ℕ ℕ → Type 0
  IsPlace es key (Ok place) = IsHere es key place
  IsPlace es key (Err place) = IsGap es key place
