use Rattle.std.proofs.Common.{◌≡◌, replicate}
use Rattle.locality_tree.specs.Layouts.{rows_of}
use Rattle.locality_tree.proofs.layout.vacant_units.Given as goal

abbrev pub invariant-loop : goal.invariant-loop
invariant-loop l = rows_of l.rows.items ≡ replicate l.counter (replicate l.places 0)
