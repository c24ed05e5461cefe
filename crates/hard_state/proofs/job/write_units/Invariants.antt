use Rattle.std.proofs.Common.{◌≡◌, ◌++◌, drop}
use Rattle.std.specs.List.{flat_map}
use Rattle.hard_state.specs.RecordBodies.{unit_bytes}
use Rattle.hard_state.proofs.job.write_units.Given as goal

abbrev pub invariant-loop-number : goal.invariant-loop-number
invariant-loop-number l = l.out.items ++ flat_map unit_bytes (drop l.number l.job.units) ≡ l.fn.out.items ++ flat_map unit_bytes l.job.units
