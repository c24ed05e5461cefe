-- What is known of the tree of a case.
use Rattle.std.specs.Prelude.{◌≡◌, ℕ, ◌*◌, ◌<◌, ◌≤◌, false, List, length, Some, IsTrue}
use Rattle.std.proofs.Common.{get_or}
use Rattle.wait_queue.specs.declared.node.Entry.{Entry}
use Rattle.locality_tree.specs.Trees.{TreeRecord, all_units, no_unit, is_admitted}

-- the entry with which the unit of a job waits
abbrev pub entry_of : List ℕ → ℕ → Entry
entry_of priorities i = record { app = record { 0 = i }; unit = record { 0 = 0 }; priority = get_or priorities i 0; turn = i }

-- Jobs with a priority are admitted with one unit each, and no other; a unit that waits does so with its own entry.
pub record IsCase (t : TreeRecord) (machines : ℕ) (priorities : List ℕ) : Type 0 where
  pub machines_are : machines ≡ length t.racks
  pub few : length priorities ≤ 256
  pub units : length t.units ≡ all_units
  pub admitted : (i : ℕ) → i < length priorities → IsTrue (is_admitted t i 0)
  pub fresh : (a u : ℕ) → length priorities ≤ a → u < 8 → is_admitted t a u ≡ false
  pub entries : (n : ℕ) (f : Entry) → (get_or t.units n no_unit).entry ≡ Some f → (f.turn < length priorities) × (n ≡ 8 * f.turn) × (f ≡ entry_of priorities f.turn)
