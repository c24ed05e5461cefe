use Rattle.std.proofs.Common.{◌≡◌, map, take, drop, vec_len}
use Rattle.schedule_unit.specs.JobFaults.{first_unit_fault, unit_asked}
use Rattle.schedule_unit.specs.Units.{unit_record}
use Rattle.schedule_unit.proofs.job.make_units.Given as goal

-- the units so far are those asked, and the first fault is still to come
abbrev pub invariant-loop-ask : goal.invariant-loop-ask
invariant-loop-ask l = record {
  count : vec_len l.units ≡ l.ask-index;
  rest : first_unit_fault l.resources l.ask-index (drop l.ask-index l.asks) ≡ first_unit_fault l.resources 0 l.asks;
  made : map unit_record l.units.items ≡ map unit_asked (take l.ask-index l.asks);
}
