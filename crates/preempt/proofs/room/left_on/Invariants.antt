use Rattle.std.proofs.Common.{◌≡◌, ℕ, ◌+◌, ◌-◌, ◌<◌, min, length, get_or}
use Rattle.preempt.proofs.room.left_on.Given as goal

abbrev pub invariant-loop-i : goal.invariant-loop-i
invariant-loop-i l = record {
  long : length l.q ≡ 8;
  done : (k : ℕ) → k < l.i → get_or l.q k 0 ≡ min ((get_or l.has k 0 + get_or l.all k 0) - get_or l.used k 0) ((get_or l.group.bounds.now.limit.q k 0 + get_or l.own k 0) - get_or l.group.used.q k 0);
}
