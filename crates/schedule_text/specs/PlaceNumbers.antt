-- The numbers of a line, place by place, where this says which number is in the range of a place, with the number that stands before it.
use Rattle.std.specs.Prelude.{ℕ, ◌+◌, Bool, cond, List, [], ◌∷◌, Some, None, Result, Ok, Err}
use Rattle.fuxi_terms.specs.Counts.{then_do}
use Rattle.schedule_unit.specs.NumberWords.{number_of}
use Rattle.schedule_text.specs.declared.event.LineFault.{LineFault}
use Rattle.schedule_text.specs.declared.event.LineFault.TheVariants.{BadNumber, Range}

module _ {P : Type 0} (is_within : P → ℕ → ℕ → Bool) where
  -- The number at a place: the word has the form of a number, and then it is in range
  abbrev pub number_at : P → ℕ → ℕ → List ℕ → Result ℕ LineFault
  number_at p place before word = elim (number_of word) [
    | None ↦ Err (BadNumber place)
    | Some n ↦ cond (is_within p before n) (Ok n) (Err (Range place))
  ]

  -- the numbers of these places, which stand from a place of the line on
  abbrev pub numbers_at : List P → ℕ → ℕ → List (List ℕ) → Result (List ℕ) LineFault
  numbers_at [] place before words = Ok []
  numbers_at (p ∷ ps) place before [] = Ok []
  numbers_at (p ∷ ps) place before (w ∷ ws) = then_do (number_at p place before w) (λ n. then_do (numbers_at ps (place + 1) n ws) (λ ns. Ok (n ∷ ns)))
