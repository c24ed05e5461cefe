use Rattle.std.proofs.Common.{◌≡◌, ◌≤◌, ℕ, [], length, get_or}
use Rattle.grant_table.specs.GrantTables.{cells_of}
use Rattle.grant_table.proofs.holding.reach.Given as goal

abbrev pub invariant-loop-place : goal.invariant-loop-place
invariant-loop-place l = record {
  same : (a : ℕ) → get_or (cells_of l.slots.items) a [] ≡ get_or (cells_of l.fn.slots.items) a [];
  there : l.place ≤ length l.slots.items;
}
