-- What a sender stands for: a history, which is the list of its ledgers from the one with no entry on; and the changes that it keeps.
use Rattle.std.specs.Prelude.{◌≡◌, ℕ, ◌+◌, ◌-◌, ◌≤◌, List, length, drop, Some, Result, Ok, slice_get}
use Rattle.fuxi_terms.specs.declared.answers.LedgerFault.{LedgerFault}
use Rattle.fuxi_terms.specs.Limits.{kept_changes}

-- its incarnation, its last index, its present ledger, and the changes that it keeps, the latest last
pub record Sending (V D : Type 0) : Type 0 where
  pub own : ℕ
  pub last : ℕ
  pub present : V
  pub kept : List D

-- the change takes the entry at an index to the entry behind it
abbrev pub IsChangeAt : {V D : Type 0} → (V → D → Result V LedgerFault) → D → ℕ → List V → Type 0
IsChangeAt {V} {D} patched change index history =
    (old new : V) → slice_get history index ≡ Some old → slice_get history (index + 1) ≡ Some new → patched old change ≡ Ok new

-- the index of the entry that the first kept change starts from
abbrev pub first_kept : {V D : Type 0} → Sending V D → ℕ
first_kept s = s.last - length s.kept

-- the history begins with nothing and ends with the present ledger, and each kept change takes the entry before it to its own
pub record StandsFor {V D : Type 0} (nothing : V) (patched : V → D → Result V LedgerFault) (s : Sending V D) (history : List V) : Type 0 where
  pub first : slice_get history 0 ≡ Some nothing
  pub long : length history ≡ s.last + 1
  pub at_last : slice_get history s.last ≡ Some s.present
  pub few : length s.kept ≤ s.last
  pub leads : (i : ℕ) (change : D) → slice_get s.kept i ≡ Some change → IsChangeAt patched change (first_kept s + i) history

-- the last so many items of a list, or all where there are fewer
abbrev pub latest : {D : Type 0} → ℕ → List D → List D
latest n xs = drop (length xs - n) xs

-- of all changes that were posted the latest are kept, or all where there are fewer
abbrev pub KeepsLatest : {V D : Type 0} → Sending V D → List D → Type 0
KeepsLatest s changes = s.kept ≡ latest kept_changes changes
