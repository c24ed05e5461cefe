use Rattle.std.proofs.Common.{◌≡◌, ◌<◌, ◌≤◌, ℕ, get_or, length, min}
use Rattle.place_pass.proofs.demand.wishes.lesser.Given as goal

abbrev pub invariant-loop-i : goal.invariant-loop-i
invariant-loop-i l = record {
  long : length l.q ≡ 8;
  done : (k : ℕ) → k < l.i → get_or l.q k 0 ≡ min (get_or l.a.q k 0) (get_or l.b.q k 0);
  left : (k : ℕ) → l.i ≤ k → get_or l.q k 0 ≡ get_or l.a.q k 0;
}
