-- Entries by the number of a job or a machine, and a walk over peers by number.
use Rattle.std.specs.Prelude.{◌≡◌, ◌++◌, ℕ, true, false, cond, nat_eq, List, length, map, filter, Option, Some, None, get_or, take, slice_get}
use Rattle.fuxi_terms.specs.Numbers.{has_number}

-- what the entries with a number have
abbrev pub of_number : {X : Type 0} → ℕ → List (ℕ × X) → List X
of_number n es = map (λ e. e.1) (filter (λ e. nat_eq e.0 n) es)

-- the numbers of the entries, and others
abbrev pub turns : {X : Type 0} → List (ℕ × X) → List ℕ → List ℕ
turns es others = map (λ e. e.0) es ++ others

-- the number at a place, where it does not stand before
abbrev pub turn : ℕ → List ℕ → Option ℕ
turn k ns = cond (has_number (get_or ns k 0) (take k ns)) None (Some (get_or ns k 0))

-- the peers with these numbers were looked at, and the others are as they were
pub record AreReached {A : Type 0} (P : ℕ → A → A → Type 0) (done : List ℕ) (old new : List A) : Type 0 where
  pub wide : length new ≡ length old
  pub each : (n : ℕ) (x y : A) → has_number n done ≡ true → slice_get old n ≡ Some x → slice_get new n ≡ Some y → P n x y
  pub rest : (n : ℕ) → has_number n done ≡ false → slice_get new n ≡ slice_get old n
