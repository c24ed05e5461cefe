use Rattle.std.proofs.Common.{◌≡◌, ℕ, ◌+◌, ◌<◌, length, get_or}
use Rattle.res_vector.proofs.add.Given as goal

abbrev pub invariant-loop-place : goal.invariant-loop-place
invariant-loop-place l = record {
  long : length l.q ≡ 8;
  done : (k : ℕ) → k < l.place → get_or l.q k 0 ≡ get_or l.a.q k 0 + get_or l.b.q k 0;
}
