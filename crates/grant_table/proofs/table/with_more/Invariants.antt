use Rattle.std.proofs.Common.{◌≡◌, ◌+◌, ◌*◌, ◌<◌, ◌≤◌, ℕ, get_or, length}
use Rattle.grant_table.proofs.table.with_more.Given as goal

abbrev pub invariant-loop-i : goal.invariant-loop-i
invariant-loop-i l = record {
  long : length l.q ≡ 8;
  done : (k : ℕ) → k < l.i → get_or l.q k 0 ≡ get_or l.used.q k 0 + l.count * get_or l.size.q k 0;
  left : (k : ℕ) → l.i ≤ k → get_or l.q k 0 ≡ get_or l.used.q k 0;
}
