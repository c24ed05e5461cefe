-- A piece of a file that was read before it is needed.
use Rattle.std.specs.Prelude.{◌≡◌, ◌⊎◌, ℕ, ◌+◌, ◌-◌, ◌≤◌, List, length, take, drop}

-- where it begins in the file, and its bytes
pub record Piece : Type 0 where
  pub begin : ℕ
  pub bytes : List ℕ

abbrev pub end_of : Piece → ℕ
end_of piece = piece.begin + length piece.bytes

abbrev pub IsPieceOf : Piece → List ℕ → Type 0
IsPieceOf piece file = piece.bytes ≡ take (length piece.bytes) (drop piece.begin file)

-- From this place on it has as many bytes as a record can have, with the gate behind it, or all up to the end of a file of this length.
pub record Reaches (piece : Piece) (at len : ℕ) : Type 0 where
  pub from : piece.begin ≤ at
  pub to : at ≤ end_of piece
  pub inside : end_of piece ≤ len
  pub enough : (569 ≤ end_of piece - at) ⊎ (end_of piece ≡ len)
