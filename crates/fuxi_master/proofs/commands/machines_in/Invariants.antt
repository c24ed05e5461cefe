use Rattle.std.proofs.Common.{◌≡◌, map, filter}
use Rattle.fuxi_terms.specs.Lists.{below}
use Rattle.fuxi_terms.specs.Numbers.{has_number}
use Rattle.schedule_unit.specs.declared.party.MachineNo.{MachineNo}
use Rattle.fuxi_master.proofs.commands.machines_in.Given as goal

abbrev pub invariant-loop-number : goal.invariant-loop-number
invariant-loop-number l = map (λ (m : MachineNo). m.0) l.found.items ≡ filter (λ m. has_number m l.reported.numbers) (below l.number)
