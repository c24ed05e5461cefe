use Rattle.std.proofs.Common.{◌≡◌, ℕ, ◌<◌, length, get_or}
use Rattle.preempt.specs.Given.{IsGroup, no_group}
use Rattle.preempt.proofs.machine_grants.groups_of.Given as goal

abbrev pub invariant-loop-number : goal.invariant-loop-number
invariant-loop-number l = record {
  long : length l.groups.items ≡ l.number;
  each : (g : ℕ) → g < l.number → IsGroup l.table g (get_or l.groups.items g no_group);
}
