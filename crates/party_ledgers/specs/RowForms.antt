-- The written form of a row: job, unit, the eight places of the size, and the count, or the change in two's complement. All numbers are big-endian.
use Rattle.std.specs.Prelude.{◌≡◌, ℕ, ℤ, ◌<◌, ◌^◌, List, ◌∷◌, ◌++◌, length}
use Rattle.std.specs.List.{AllByRecursion, flat_map}
use Rattle.std.specs.Int.{to_be_bytes, cast_unsigned, w32, w64}
use Rattle.std.specs.Int.RustNames.{FitsSigned}
use Rattle.fuxi_terms.specs.Keys.{RowKey}
use Rattle.ledger_law.specs.Forms.{counted}

abbrev pub row_key_bytes : RowKey → List ℕ
row_key_bytes k = to_be_bytes w32 k.job ++ k.unit ∷ flat_map (to_be_bytes w64) k.size

abbrev pub row_entry : RowKey × ℕ → List ℕ
row_entry e = row_key_bytes e.0 ++ to_be_bytes w32 e.1

abbrev pub row_change_entry : RowKey × ℤ → List ℕ
row_change_entry c = row_key_bytes c.0 ++ to_be_bytes w32 (cast_unsigned w32 c.1)

abbrev pub row_form : List (RowKey × ℕ) → List ℕ
row_form es = counted row_entry es

abbrev pub row_change_form : List (RowKey × ℤ) → List ℕ
row_change_form cs = counted row_change_entry cs

-- the keys and entries whose fields have room in their places
pub record IsWholeKey (k : RowKey) : Type 0 where
  pub job : k.job < 2 ^ 32
  pub places : length k.size ≡ 8
  pub quantities : AllByRecursion (λ q. q < 2 ^ 64) k.size

pub record IsRowEntry (e : RowKey × ℕ) : Type 0 where
  pub key : IsWholeKey e.0
  pub value : e.1 < 2 ^ 32

pub record IsRowChangeEntry (c : RowKey × ℤ) : Type 0 where
  pub key : IsWholeKey c.0
  pub value : FitsSigned w32 c.1
