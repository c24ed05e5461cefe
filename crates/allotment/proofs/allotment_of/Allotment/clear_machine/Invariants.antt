use Rattle.std.proofs.Common.{nat_eq, nat_lt}
use Rattle.std.specs.Prelude.{◌&&◌}
use Rattle.allotment.specs.Allotted.{Clears}
use Rattle.allotment.proofs.Cleared.{is_admitted}
use Rattle.allotment.proofs.allotment_of.Allotment.clear_machine.Given as goal

abbrev pub invariant-loop-number : goal.invariant-loop-number
invariant-loop-number l = Clears (λ s. nat_lt s.job l.number && (is_admitted l.fn.self.table s.job s.unit && nat_eq s.machine l.machine.0)) l.fn.self l.self
