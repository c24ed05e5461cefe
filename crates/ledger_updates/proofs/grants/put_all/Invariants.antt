use Rattle.std.proofs.Common.{◌≡◌, ◌++◌, map, take}
use Rattle.schedule_unit.specs.declared.party.MachineNo.{MachineNo}
use Rattle.ledger_updates.specs.OneJob.{reported_numbers}
use Rattle.ledger_updates.proofs.grants.put_all.Given as goal

abbrev pub invariant-loop-machine : goal.invariant-loop-machine
invariant-loop-machine l = l.numbers.items ≡ l.fn.numbers.items ++ reported_numbers (map (λ (m : MachineNo). m.0) (take l.machine-index l.machines))
