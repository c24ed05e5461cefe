use Rattle.std.proofs.Common.{nat_eq, nat_lt}
use Rattle.std.specs.Prelude.{◌&&◌}
use Rattle.allotment.specs.Allotted.{Clears}
use Rattle.allotment.proofs.allotment_of.Allotment.clear_units.Given as goal

abbrev pub invariant-loop-number : goal.invariant-loop-number
invariant-loop-number l = Clears (λ s. nat_eq s.job l.app.0 && (nat_lt s.unit l.number && nat_eq s.machine l.machine.0)) l.fn.self l.self
