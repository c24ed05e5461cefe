-- The numbers of a machine's row at the spots that were touched.
use Rattle.std.specs.Prelude.{◌≡◌, ℕ, ◌≤◌, IsTrue, Bool, nat_eq, nat_lt, ◌&&◌, List, [], ◌∷◌, length, map, filter, Option, Some, None, slice_get}
use Rattle.std.specs.List.{AllByRecursion}
use Rattle.fuxi_terms.specs.Counts.{count, joined}
use Rattle.fuxi_terms.specs.Jobs.{unit_count}
use Rattle.fuxi_terms.specs.Keys.{RowKey, row_cmp, Spot, spot_cmp}
use Rattle.fuxi_terms.specs.Limits.{most_entries}
use Rattle.fuxi_terms.specs.Rows.{is_row_key, greatest_row, IsRow, patched_row}
use Rattle.spec_roles.specs.MasterSteps.{spot_row_key}
use Rattle.grant_table.specs.GrantTables.{TableRecord, as_known}
use Rattle.ledger_updates.specs.declared.machine_row.RowNumber.{RowNumber}
use Rattle.fuxi_terms.specs.NumbersSet.{AreNumbers, numbers_set}
use Rattle.schedule_unit.specs.declared.party.MachineNo.{MachineNo}
use Rattle.spec_net.specs.Ledgers.{row_ledger}
use Rattle.peer_channel.specs.Bodies.{report_of}
use Rattle.ledger_updates.specs.Shown.{number_of, Shows}
use Rattle.ledger_updates.specs.AllShown.{Down, is_machine}
use Rattle.ledger_updates.specs.OfNumbers.{of_number}

-- the spot is of an admitted unit, on this machine
abbrev pub is_touched : TableRecord → ℕ → Spot → Bool
is_touched t m s = nat_eq s.machine m && nat_lt s.unit (unit_count (as_known t.jobs) s.job)

-- the spot is of an admitted unit and of a machine of the cluster
abbrev pub has_place : TableRecord → Spot → Bool
has_place t s = nat_lt s.unit (unit_count (as_known t.jobs) s.job) && nat_lt s.machine (length t.cluster.machines)

-- the count of the table at a spot, by the key of the row
abbrev pub number_at : TableRecord → Spot → RowKey × ℕ
number_at t s = (spot_row_key (as_known t.jobs) s, count spot_cmp t.entries s)

-- of one machine, in the order of the spots
abbrev pub touched_on : TableRecord → ℕ → List Spot → List (RowKey × ℕ)
touched_on t m spots = map (number_at t) (filter (is_touched t m) spots)

-- of all machines, each with its machine
abbrev pub touched_in : TableRecord → List Spot → List (ℕ × (RowKey × ℕ))
touched_in t spots = map (λ s. (s.machine, number_at t s)) (filter (has_place t) spots)

abbrev pub with_key : ℕ × RowNumber → ℕ × (RowKey × ℕ)
with_key n = (n.0, number_of n.1)

-- numbers that may be set in a row: keys that rise, each within its greatest, and not too many together with those of the row
pub record MayBeSet (row numbers : List (RowKey × ℕ)) : Type 0 where
  pub numbers_are : AreNumbers row_cmp greatest_row numbers
  pub keys : AllByRecursion (λ n. IsTrue (is_row_key n.0)) numbers
  pub together : length (joined row_cmp row numbers) ≤ most_entries
  pub few : length numbers ≤ most_entries

-- the machine that may be named
abbrev pub named_machine : Option MachineNo → List ℕ
named_machine None = []
named_machine (Some n) = n.0 ∷ []

-- so may the numbers of each machine in the row that its agent was shown
abbrev pub AreSettable : List (ℕ × RowNumber) → List Down → Type 0
AreSettable numbers sides = (m : ℕ) (d : Down) → slice_get sides m ≡ Some d → MayBeSet d.outgoing.present (map number_of (of_number m numbers))

-- an agent is shown its row with the numbers of its machine
abbrev pub IsRowShown : Option MachineNo → List (ℕ × RowNumber) → ℕ → Down → Down → Type 0
IsRowShown even_if_equal numbers m d e = Shows [] patched_row IsRow row_ledger report_of (is_machine even_if_equal m) (numbers_set row_cmp d.outgoing.present (map number_of (of_number m numbers))) d e
