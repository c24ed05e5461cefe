-- A line that grows by pieces of the input.
use Rattle.std.specs.Prelude.{◌≡◌, ◌≢◌, ◌<◌, ℕ, Bool, true, false, List, [], ◌∷◌, ◌++◌, All, slice_index, slice_range}

-- no byte is a newline
abbrev pub NoNewline : List ℕ → Type 0
NoNewline bytes = All (λ b. b ≢ 10) bytes

-- all the bytes are in the line, and a newline and a rest behind it where one was found
abbrev pub Moved : Bool → List ℕ → List ℕ → List ℕ → Type 0
Moved true all line rest = all ≡ line ++ 10 ∷ rest
Moved false all line rest = (all ≡ line) × (rest ≡ [])

-- of the bytes from one place to another the first newline stands at the end, or there is none and the end is the last place
abbrev pub EndsLine : List ℕ → ℕ → ℕ → ℕ → Type 0
EndsLine bytes from to end = NoNewline (slice_range bytes from end) × (end < to → slice_index bytes end ≡ 10)
