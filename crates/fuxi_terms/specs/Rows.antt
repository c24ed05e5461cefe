-- Rows: what is granted on one machine, and what changes make of it.
use Rattle.std.specs.Prelude.{ℕ, ℤ, ◌≤◌, Bool, cond, nat_lt, ◌&&◌, unsigned_abs, List, [], ◌∷◌, length, map, Result, Ok, Err}
use Rattle.std.specs.List.{AllByRecursion}
use Rattle.fuxi_terms.specs.declared.Key.{Key}
use Rattle.fuxi_terms.specs.Keys.{RowKey, row_cmp}
use Rattle.fuxi_terms.specs.Limits.{most_resources, most_jobs, most_units, greatest_count, most_entries}
use Rattle.fuxi_terms.specs.Cluster.{is_size}
use Rattle.fuxi_terms.specs.Counts.{AreCounts, AreChanges, change_one, then_do}
use Rattle.fuxi_terms.specs.Padded.{padded}
use Rattle.fuxi_terms.specs.Totals.{total_of}
use Rattle.fuxi_terms.specs.declared.answers.LedgerFault.{LedgerFault}
use Rattle.fuxi_terms.specs.declared.answers.LedgerFault.TheVariants.{Below, TooGreat}

-- sizes have eight places
abbrev pub is_row_key : RowKey → Bool
is_row_key k = nat_lt k.job most_jobs && (nat_lt k.unit most_units && is_size most_resources k.size)

abbrev pub greatest_row : RowKey → ℕ
greatest_row k = cond (is_row_key k) greatest_count 0

abbrev pub row_key : ℕ → ℕ → List ℕ → RowKey
row_key job unit size = record { job = job; unit = unit; size = size }

-- how a fault names a key
abbrev pub fault_key : RowKey → Key
fault_key k = record { what = 0; unit = k.unit; number = k.job }

abbrev pub row_below : RowKey → ℕ → ℤ → LedgerFault
row_below k kept change = Below (fault_key k) kept change

abbrev pub row_too_great : RowKey → LedgerFault
row_too_great k = TooGreat (fault_key k)

-- not more entries than there may be
abbrev pub within_row : RowKey → List (RowKey × ℕ) → Result (List (RowKey × ℕ)) LedgerFault
within_row k es = cond (nat_lt most_entries (length es)) (Err (row_too_great k)) (Ok es)

abbrev pub change_row_once : List (RowKey × ℕ) → RowKey → ℤ → Result (List (RowKey × ℕ)) LedgerFault
change_row_once es k change = then_do (change_one row_cmp row_below row_too_great greatest_row es k change) (within_row k)

-- the changes in order, or the first refusal
abbrev pub patched_row : List (RowKey × ℕ) → List (RowKey × ℤ) → Result (List (RowKey × ℕ)) LedgerFault
patched_row es [] = Ok es
patched_row es (c ∷ cs) = then_do (change_row_once es c.0 c.1) (λ fs. patched_row fs cs)

pub record IsRow (es : List (RowKey × ℕ)) : Type 0 where
  pub counts : AreCounts row_cmp greatest_row es
  pub few : length es ≤ most_entries

-- each change is of a key, and not greater than its greatest number
pub record AreRowChanges (cs : List (RowKey × ℤ)) : Type 0 where
  pub changes : AreChanges row_cmp cs
  pub within : AllByRecursion (λ c. unsigned_abs c.1 ≤ greatest_row c.0) cs

-- the changes that have a written form
pub record IsRowChange (cs : List (RowKey × ℤ)) : Type 0 where
  pub changes : AreRowChanges cs
  pub few : length cs ≤ most_entries

-- each size as often as it is counted, all together, in eight places
abbrev pub row_total : List (RowKey × ℕ) → List ℕ
row_total es = padded (total_of (map (λ e. (e.1, e.0.size)) es))
