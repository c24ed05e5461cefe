use Rattle.std.proofs.Common.{◌≡◌, ◌++◌, ◌-◌, ◌*◌, length, map}
use Rattle.hard_state.specs.RecordBodies.{unit_size, units_in}
use Rattle.hard_state.specs.UnitRecords.{unit_of}
use Rattle.hard_state.proofs.job.read_units.Given as goal

abbrev pub invariant-loop-number : goal.invariant-loop-number
invariant-loop-number l = record {
  long : length l.rest ≡ unit_size l.fn.version * (l.fn.units - l.number);
  read : map unit_of l.asks ++ units_in l.fn.version (l.fn.units - l.number) l.rest ≡ units_in l.fn.version l.fn.units l.fn.bytes;
}
