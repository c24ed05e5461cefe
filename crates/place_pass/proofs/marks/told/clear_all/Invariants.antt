use Rattle.std.proofs.Common.{◌≡◌, ℕ, ◌<◌, ◌≤◌, length}
use Rattle.place_pass.specs.Bounds.{mark_at, cleared_mark}
use Rattle.place_pass.proofs.marks.told.clear_all.Given as goal

abbrev pub invariant-loop-number : goal.invariant-loop-number
invariant-loop-number l = record {
  long : length l.marks ≡ length l.initial.marks;
  done : (m : ℕ) → m < l.number → mark_at l.marks m ≡ cleared_mark (mark_at l.initial.marks m);
  left : (m : ℕ) → l.number ≤ m → mark_at l.marks m ≡ mark_at l.initial.marks m;
}
