use Rattle.std.proofs.Common.{◌≡◌, ℕ, true, ◌<◌, ◌≤◌, get_or}
use Rattle.place_pass.proofs.demand.sparse.is_clear.Given as goal

abbrev pub invariant-loop-place : goal.invariant-loop-place
invariant-loop-place l = record {
  from : l.from ≤ l.place;
  clear : l.clear ≡ true → (k : ℕ) → l.from ≤ k → k < l.place → get_or l.numbers k 0 ≡ 0;
}
