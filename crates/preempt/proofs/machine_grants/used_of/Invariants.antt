use Rattle.std.proofs.Common.{◌≡◌, ℕ, ◌-◌, ◌<◌, length, get_or}
use Rattle.preempt.proofs.machine_grants.used_of.Given as goal

abbrev pub invariant-loop-i : goal.invariant-loop-i
invariant-loop-i l = record {
  long : length l.used ≡ 8;
  done : (k : ℕ) → k < l.i → get_or l.used k 0 ≡ get_or l.has k 0 - get_or l.free k 0;
}
