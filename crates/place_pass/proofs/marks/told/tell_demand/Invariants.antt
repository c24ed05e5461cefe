use Rattle.std.proofs.Common.{◌≡◌, ℕ, ◌<◌, ◌≤◌, [], length, get_or}
use Rattle.place_pass.specs.Bounds.{mark_at}
use Rattle.place_pass.specs.Candidates.{IsAsked}
use Rattle.place_pass.proofs.marks.told.tell_demand.Given as goal

abbrev pub invariant-loop-number : goal.invariant-loop-number
invariant-loop-number l = record {
  long : length l.marks ≡ length l.initial.marks;
  done : (m : ℕ) → m < l.number → IsAsked l.demand.entries (get_or l.wishes.cells l.app.0 []) m (mark_at l.initial.marks m) (mark_at l.marks m);
  left : (m : ℕ) → l.number ≤ m → mark_at l.marks m ≡ mark_at l.initial.marks m;
}
