use Rattle.std.proofs.Common.{◌≡◌, ◌≤◌, length, vec_capacity}
use Rattle.place_pass.specs.Cells.{all_cells}
use Rattle.place_pass.proofs.demand.wishes.reach.Given as goal

abbrev pub invariant-loop-place : goal.invariant-loop-place
invariant-loop-place l = record {
  same : all_cells l.slots.items ≡ all_cells l.fn.slots.items;
  there : length l.slots.items ≡ l.place;
  room : 256 ≤ vec_capacity l.slots;
}
