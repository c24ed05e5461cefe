-- Frames that lie one behind another, by the places where they end.
use Rattle.std.specs.Prelude.{◌≡◌, ℕ, ◌≤◌, List, [], ◌∷◌, slice_range}

-- what stands from a place on up to each of these ends, one behind another
abbrev pub pieces_from : ℕ → List ℕ → List ℕ → List (List ℕ)
pieces_from start bytes [] = []
pieces_from start bytes (end ∷ ends) = slice_range bytes start end ∷ pieces_from end bytes ends

-- the ends come one behind another, from a place on up to the last
abbrev pub AreEnds : ℕ → List ℕ → ℕ → Type 0
AreEnds start [] last = start ≡ last
AreEnds start (end ∷ ends) last = (start ≤ end) × AreEnds end ends last

-- the frames that lie one behind another and end at these places
abbrev pub frames_in : List ℕ → List ℕ → List (List ℕ)
frames_in bytes ends = pieces_from 0 bytes ends
