-- Which line of a table the words of a line are: those that begin it, and as many as it has.
use Rattle.std.specs.Prelude.{ℕ, Bool, cond, ◌&&◌, List, Some, None, Result, Ok, Err}
use Rattle.std.specs.List.{find, list_any}
use Rattle.schedule_text.specs.declared.event.LineFault.{LineFault}
use Rattle.schedule_text.specs.declared.event.LineFault.TheVariants.{UnknownWord, WrongCount}

module _ {H : Type 0} (begun counted : H → List (List ℕ) → Bool) where
  abbrev pub is_head : List (List ℕ) → H → Bool
  is_head words h = begun h words && counted h words

  -- which of these lines
  abbrev pub head_of : List H → List (List ℕ) → Result H LineFault
  head_of heads words = elim (find (is_head words) heads) [
    | Some h ↦ Ok h
    | None ↦ Err (cond (list_any (λ h. begun h words) heads) WrongCount UnknownWord)
  ]
