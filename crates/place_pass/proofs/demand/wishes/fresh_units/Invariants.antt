use Rattle.std.proofs.Common.{◌≡◌, take}
use Rattle.place_pass.specs.Cells.{cells_in, fresh_cells}
use Rattle.place_pass.proofs.demand.wishes.fresh_units.Given as goal

abbrev pub invariant-loop-number : goal.invariant-loop-number
invariant-loop-number l = cells_in l.units ≡ fresh_cells l.job.group l.machines (take l.number l.job.units)
