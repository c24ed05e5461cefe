-- Keys of the entries of ledgers and tables, each with its order.
use Rattle.std.specs.Prelude.{ℕ, List}
use Rattle.std.specs.Ordering.{nat_cmp, ordering_then}
use Rattle.std.specs.Cmp.Lexicographic.{slice_cmp}
use Rattle.std.specs.declared.cmp.Ordering.{Ordering}
use Rattle.fuxi_terms.specs.declared.Key.{Key}

-- of a tally: by what, then by unit, then by number
abbrev pub key_cmp : Key → Key → Ordering
key_cmp a b = ordering_then (nat_cmp a.what b.what) (ordering_then (nat_cmp a.unit b.unit) (nat_cmp a.number b.number))

-- of a row: what is granted on one machine
pub record RowKey : Type 0 where
  pub job : ℕ
  pub unit : ℕ
  pub size : List ℕ

abbrev pub row_cmp : RowKey → RowKey → Ordering
row_cmp a b = ordering_then (nat_cmp a.job b.job) (ordering_then (nat_cmp a.unit b.unit) (slice_cmp nat_cmp a.size b.size))

-- of a table: grants of a unit of a job on a machine
-- a unit of a job, by both numbers
abbrev pub Pair : Type 0
Pair = ℕ × ℕ

pub record Spot : Type 0 where
  pub job : ℕ
  pub unit : ℕ
  pub machine : ℕ

abbrev pub spot_cmp : Spot → Spot → Ordering
spot_cmp a b = ordering_then (nat_cmp a.job b.job) (ordering_then (nat_cmp a.unit b.unit) (nat_cmp a.machine b.machine))
