use Rattle.std.proofs.Common.{◌-◌, ◌<◌, ◌≤◌, length}
use Rattle.std.specs.Prelude.{IfSome}
use Rattle.place_pass.specs.Candidates.{AreBehind}
use Rattle.place_pass.proofs.search.machines.least_machine.Given as goal

abbrev pub invariant-loop-at : goal.invariant-loop-at
invariant-loop-at l = record {
  inside : l.at ≤ length l.marks;
  there : IfSome l.least (λ x. x.machine.0 < l.at);
  behind : AreBehind l.wishes.opened l.marks l.turns l.at l.least;
}

abbrev pub decreases-loop-at : goal.decreases-loop-at
decreases-loop-at l = length l.marks - l.at
