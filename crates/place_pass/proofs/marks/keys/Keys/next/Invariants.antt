use Rattle.std.proofs.Common.{ℕ, ◌-◌, ◌<◌, ◌≤◌, length, get_or}
use Rattle.place_pass.proofs.marks.keys.Keys.next.Given as goal

abbrev pub invariant-loop-at : goal.invariant-loop-at
invariant-loop-at l = record {
  least : l.from ≤ l.at;
  inside : l.at ≤ length l.self;
  passed : (m : ℕ) → l.from ≤ m → m < l.at → l.limit ≤ get_or l.self m 0;
}

abbrev pub decreases-loop-at : goal.decreases-loop-at
decreases-loop-at l = length l.self - l.at
