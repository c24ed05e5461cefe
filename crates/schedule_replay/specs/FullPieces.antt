-- Full pieces of frames, one behind another.
use Rattle.std.specs.Prelude.{◌≡◌, ℕ, zero, suc, ◌+◌, List, [], ◌∷◌, ◌++◌, length}
use Rattle.schedule_replay.specs.FrameEnds.{AreEnds, frames_in}
use Rattle.schedule_replay.specs.declared.pieces.Piece.{Piece}

-- the frames of full pieces, one piece behind another
abbrev pub frames_of : List Piece → List (List ℕ)
frames_of [] = []
frames_of (s ∷ ss) = frames_in s.bytes s.ends.items ++ frames_of ss

-- each of them knows how many frames come before it, and its ends rise up to its last byte
abbrev pub ArePieces : ℕ → List Piece → Type 0
ArePieces first [] = Unit {0}
ArePieces first (s ∷ ss) = (s.first ≡ first) × AreEnds 0 s.ends.items (length s.bytes) × ArePieces (first + length s.ends.items) ss

-- how many frames come before the piece of a place
abbrev pub first_at : List Piece → ℕ → ℕ
first_at [] at = 0
first_at (s ∷ ss) zero = s.first
first_at (s ∷ ss) (suc at) = first_at ss at
