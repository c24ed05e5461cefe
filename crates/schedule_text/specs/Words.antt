-- The words of a line.
use Rattle.std.specs.Prelude.{ℕ, ◌==◌, Bool, true, false, filter, List, [], ◌∷◌}
use Rattle.std.specs.List.{slice_split}

abbrev pub is_word : List ℕ → Bool
is_word [] = false
is_word (b ∷ bytes) = true

-- what stands between the blanks, where anything does
abbrev pub words_of : List ℕ → List (List ℕ)
words_of line = filter is_word (slice_split (λ b. b == 32) line)
