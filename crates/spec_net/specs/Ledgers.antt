-- The four kinds of ledger as one record, and what packets hold of them.
use Rattle.std.specs.Prelude.{ℕ, ◌+◌, ◌*◌, ℤ, Bool, cond, nat_eq, ◌&&◌, List, [], length}
use Rattle.fuxi_terms.specs.declared.Key.{Key}
use Rattle.fuxi_terms.specs.Keys.{key_cmp, RowKey, row_cmp}
use Rattle.fuxi_terms.specs.Counts.{count, is_same, difference}
use Rattle.fuxi_terms.specs.Tallies.{ChangeRecord, tally_difference}

-- a row has rows alone; a report of an agent that joins has the epoch as head, and rows; grants have the application's
-- boot as head, and entries; a demand has the epoch as head, and entries
pub record Ledger : Type 0 where
  pub head : ℕ
  pub rows : List (RowKey × ℕ)
  pub entries : List (Key × ℕ)

abbrev pub nothing : Ledger
nothing = record { head = 0; rows = []; entries = [] }

abbrev pub row_ledger : List (RowKey × ℕ) → Ledger
row_ledger rows = record { head = 0; rows = rows; entries = [] }

abbrev pub report_ledger : ℕ → List (RowKey × ℕ) → Ledger
report_ledger epoch rows = record { head = epoch; rows = rows; entries = [] }

abbrev pub tally_ledger : ℕ → List (Key × ℕ) → Ledger
tally_ledger head entries = record { head = head; rows = []; entries = entries }

abbrev pub same_ledger : Ledger → Ledger → Bool
same_ledger a b = nat_eq a.head b.head && (is_same row_cmp a.rows b.rows && is_same key_cmp a.entries b.entries)

-- the number at a key of a ledger
abbrev pub at_key : Ledger → Key → ℕ
at_key l k = count key_cmp l.entries k

-- What a packet holds: nothing, a whole ledger, or the change from one entry to the next
pub data Body : Type 0 where
  Empty : Body
  Rows : (rows : List (RowKey × ℕ)) → Body
  RowChanges : (changes : List (RowKey × ℤ)) → Body
  Report : (epoch : ℕ) → (rows : List (RowKey × ℕ)) → Body
  Tally : (head : ℕ) → (entries : List (Key × ℕ)) → Body
  TallyChange : (change : ChangeRecord) → Body

-- of rows each entry has 73 bytes behind a count of 4; of tallies each entry has 12 behind a head of 8 and a count of 4
abbrev pub body_length : Body → ℕ
body_length Empty = 0
body_length (Rows rows) = 4 + 73 * length rows
body_length (RowChanges changes) = 4 + 73 * length changes
body_length (Report epoch rows) = 12 + 73 * length rows
body_length (Tally head entries) = 12 + 12 * length entries
body_length (TallyChange change) = 12 + 12 * length change.entries

-- a whole ledger: to an agent a row, from an agent a report, else a tally
abbrev pub whole_body : Bool → Bool → Ledger → Body
whole_body to_agent from_agent l = cond to_agent (Rows l.rows) (cond from_agent (Report l.head l.rows) (Tally l.head l.entries))

-- the change from one entry to the next: a report replaces; where the head of a tally changes, numbers of the dropped kind count as absent before
abbrev pub change_body : Bool → Bool → ℕ → Ledger → Ledger → Body
change_body to_agent from_agent dropped a b =
    cond to_agent (RowChanges (difference row_cmp a.rows b.rows))
    (cond from_agent (Report b.head b.rows)
    (TallyChange (tally_difference dropped (record { head = a.head; entries = a.entries }) (record { head = b.head; entries = b.entries }))))
