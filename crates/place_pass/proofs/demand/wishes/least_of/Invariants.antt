use Rattle.std.proofs.Common.{◌≡◌, ◌<◌, ℕ, true, get_or}
use Rattle.fuxi_terms.specs.Vectors.{fits}
use Rattle.place_pass.specs.Cells.{cells_in, no_cell}
use Rattle.place_pass.proofs.demand.wishes.least_of.Given as goal

abbrev pub invariant-loop-number : goal.invariant-loop-number
invariant-loop-number l = record {
  known : fits l.lower.q l.least.q ≡ true;
  above : (u : ℕ) → u < l.number → fits l.lower.q (get_or (cells_in l.units) u no_cell).unit.size ≡ true;
}
