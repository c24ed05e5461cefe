use Rattle.std.proofs.Common.{◌≡◌, take}
use Rattle.grant_table.specs.GrantTables.{cells_in, fresh_cells}
use Rattle.grant_table.proofs.holding.fresh_units.Given as goal

abbrev pub invariant-loop-number : goal.invariant-loop-number
invariant-loop-number l = cells_in l.units ≡ fresh_cells l.job.group l.machines (take l.number l.job.units)
