use Rattle.std.proofs.Common.{◌≡◌, ℕ, ◌-◌, ◌<◌, ◌≤◌, false, get_or}
use Rattle.locality_tree.specs.Trees.{unit_at, unit_number}
use Rattle.place_pass.specs.PlacerTrees.{WaitsIn, Restood, is_unmet_on}
use Rattle.place_pass.proofs.line.standing.enter_machines.Given as goal

abbrev pub invariant-loop-number : goal.invariant-loop-number
invariant-loop-number l = record {
  inside : l.number ≤ l.machines;
  restood : Restood (unit_number l.entry.app.0 l.entry.unit.0) l.initial.tree l.tree;
  waits : WaitsIn l.wishes.cluster l.entry l.tree;
  near : (m : ℕ) → m < l.number → get_or (unit_at l.tree l.entry.app.0 l.entry.unit.0).stands m false ≡ is_unmet_on l.wishes.cells l.table.entries l.entry.app.0 l.entry.unit.0 m;
  ahead : (place : ℕ) → l.number ≤ place → get_or (unit_at l.tree l.entry.app.0 l.entry.unit.0).stands place false ≡ get_or (unit_at l.initial.tree l.entry.app.0 l.entry.unit.0).stands place false;
}

abbrev pub decreases-loop-number : goal.decreases-loop-number
decreases-loop-number l = l.machines - l.number
