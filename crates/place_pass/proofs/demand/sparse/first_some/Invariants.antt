use Rattle.std.proofs.Common.{◌≡◌, ℕ, ◌<◌, ◌≤◌, get_or}
use Rattle.place_pass.proofs.demand.sparse.first_some.Given as goal

abbrev pub invariant-loop-place : goal.invariant-loop-place
invariant-loop-place l = record {
  least : l.from ≤ l.place;
  inside : l.place ≤ l.end;
  passed : (k : ℕ) → l.from ≤ k → k < l.place → get_or l.numbers k 0 ≡ 0;
}
