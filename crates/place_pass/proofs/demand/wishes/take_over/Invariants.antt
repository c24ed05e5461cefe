use Rattle.std.proofs.Common.{◌≡◌, ℕ, ◌<◌, ◌≤◌, length, get_or}
use Rattle.place_pass.specs.Cells.{cells_in, no_cell, taken, any_more}
use Rattle.place_pass.proofs.demand.wishes.take_over.Given as goal

abbrev pub invariant-loop-number : goal.invariant-loop-number
invariant-loop-number l = record {
  long : length l.units.items ≡ length l.initial.units.items;
  done : (k : ℕ) → k < l.number → get_or (cells_in l.units) k no_cell ≡ taken l.cluster l.demand.entries k (get_or (cells_in l.initial.units) k no_cell);
  more : l.more ≡ any_more l.cluster l.demand.entries (cells_in l.initial.units) l.number;
  left : (k : ℕ) → l.number ≤ k → get_or (cells_in l.units) k no_cell ≡ get_or (cells_in l.initial.units) k no_cell;
}
