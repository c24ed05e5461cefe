use Rattle.std.proofs.Common.{◌≡◌, ℕ, ◌*◌, ◌^◌, ◌<◌, ◌≤◌, take, get_or}
use Rattle.preempt.specs.GrantNumbers.{lower_in}
use Rattle.preempt.proofs.entry.lower_of.Given as goal

abbrev pub invariant-loop-e : goal.invariant-loop-e
invariant-loop-e l = record {
  is : (i : ℕ) → i < 8 → get_or l.sums i 0 ≡ lower_in l.need i (take l.e-index l.entries);
  small : (i : ℕ) → i < 8 → get_or l.sums i 0 ≤ l.e-index * 2 ^ 96;
}
