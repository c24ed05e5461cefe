use Rattle.std.proofs.Common.{◌≡◌, ℕ, ◌<◌, false, length, get_or}
use Rattle.locality_tree.specs.Trees.{unit_at, unit_number, rack_place}
use Rattle.place_pass.specs.PlacerTrees.{WaitsIn, Restood, is_unmet_in}
use Rattle.place_pass.proofs.line.standing.mark_racks.Given as goal

abbrev pub invariant-loop-number : goal.invariant-loop-number
invariant-loop-number l = record {
  restood : Restood (unit_number l.entry.app.0 l.entry.unit.0) l.initial.tree l.tree;
  waits : WaitsIn l.wishes.cluster l.entry l.tree;
  racks : (r : ℕ) → r < l.number → get_or (unit_at l.tree l.entry.app.0 l.entry.unit.0).stands (rack_place l.tree.racks r) false ≡ is_unmet_in l.wishes.cluster l.wishes.cells l.table.entries l.entry.app.0 l.entry.unit.0 r;
  rest : (place : ℕ) → place < length l.wishes.cluster.machines → get_or (unit_at l.tree l.entry.app.0 l.entry.unit.0).stands place false ≡ get_or (unit_at l.initial.tree l.entry.app.0 l.entry.unit.0).stands place false;
}
