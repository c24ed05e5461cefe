use Rattle.std.proofs.Common.{ℕ, ◌<◌, ◌≤◌, get_or}
use Rattle.place_pass.proofs.marks.keys.first_below.Given as goal

abbrev pub invariant-loop-place : goal.invariant-loop-place
invariant-loop-place l = record {
  least : l.from ≤ l.place;
  inside : l.place ≤ l.to;
  passed : (m : ℕ) → l.from ≤ m → m < l.place → l.limit ≤ get_or l.numbers m 0;
}
