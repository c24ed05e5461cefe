use Rattle.std.proofs.Common.{◌≤◌, take}
use Rattle.place_pass.specs.PlacerTrees.{HoldsLine, AllStand}
use Rattle.place_pass.proofs.line.standing.enter_line.Given as goal

abbrev pub invariant-loop-place : goal.invariant-loop-place
invariant-loop-place l = record {
  from : l.from ≤ l.place;
  holds : HoldsLine l.wishes.cluster l.wishes.cells (take l.place l.line.pairs) l.turn_of.items l.tree;
  stands : AllStand l.wishes.cluster l.wishes.cells l.table.entries (take l.place l.line.pairs) l.tree;
}
