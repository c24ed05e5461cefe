use Rattle.std.proofs.Common.{◌≡◌, ℕ, ◌-◌, ◌<◌, ◌≤◌, length}
use Rattle.place_pass.specs.Bounds.{mark_at, lowered_mark}
use Rattle.place_pass.proofs.marks.told.lower_all.Given as goal

abbrev pub invariant-loop-at : goal.invariant-loop-at
invariant-loop-at l = record {
  inside : l.at ≤ length l.marks;
  long : length l.marks ≡ length l.initial.marks;
  done : (m : ℕ) → m < l.at → mark_at l.marks m ≡ lowered_mark (mark_at l.initial.marks m);
  left : (m : ℕ) → l.at ≤ m → mark_at l.marks m ≡ mark_at l.initial.marks m;
}

abbrev pub decreases-loop-at : goal.decreases-loop-at
decreases-loop-at l = length l.marks - l.at
