use Rattle.std.proofs.Common.{nat_eq, nat_lt}
use Rattle.std.specs.Prelude.{◌&&◌}
use Rattle.allotment.specs.Allotted.{Clears}
use Rattle.allotment.proofs.Cleared.{is_admitted}
use Rattle.allotment.proofs.allotment_of.Allotment.clear_job.Given as goal

abbrev pub invariant-loop-number : goal.invariant-loop-number
invariant-loop-number l = Clears (λ s. nat_eq s.job l.app.0 && (is_admitted l.fn.self.table l.app.0 s.unit && nat_lt s.machine l.number)) l.fn.self l.self
