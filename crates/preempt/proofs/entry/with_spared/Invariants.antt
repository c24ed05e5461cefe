use Rattle.std.proofs.Common.{◌≡◌, ℕ, ◌+◌, ◌*◌, ◌^◌, ◌<◌, ◌≤◌, take, get_or}
use Rattle.preempt.specs.GrantNumbers.{spared_in}
use Rattle.preempt.proofs.entry.with_spared.Given as goal

abbrev pub invariant-loop-e : goal.invariant-loop-e
invariant-loop-e l = record {
  is : (i : ℕ) → i < 8 → get_or l.sums i 0 ≡ get_or l.lower i 0 + spared_in l.need i (take l.e-index l.spared);
  small : (i : ℕ) → i < 8 → get_or l.sums i 0 ≤ (1000000 + l.e-index) * 2 ^ 96;
}
