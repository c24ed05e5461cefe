use Rattle.std.proofs.Common.{◌≡◌, ℕ, ◌<◌, true}
use Rattle.fuxi_terms.specs.Numbers.{has_number}
use Rattle.failover.proofs.machines.all_reported.Given as goal

abbrev pub invariant-loop-machine : goal.invariant-loop-machine
invariant-loop-machine l = (m : ℕ) → m < l.machine → has_number m l.reported.numbers ≡ true
