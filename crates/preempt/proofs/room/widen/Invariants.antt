use Rattle.std.proofs.Common.{◌≡◌, ℕ, ◌<◌, ◌≤◌, max, get_or}
use Rattle.preempt.proofs.room.widen.Given as goal

abbrev pub invariant-loop-i : goal.invariant-loop-i
invariant-loop-i l = record {
  done : (k : ℕ) → k < l.i → get_or l.widest k 0 ≡ max (get_or l.fn.widest k 0) (get_or l.room k 0);
  ahead : (k : ℕ) → l.i ≤ k → get_or l.widest k 0 ≡ get_or l.fn.widest k 0;
}
