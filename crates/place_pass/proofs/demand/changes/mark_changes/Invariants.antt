use Rattle.std.proofs.Common.{◌≡◌, ℕ, ◌<◌, [], length, get_or, take}
use Rattle.place_pass.specs.Bounds.{mark_at}
use Rattle.place_pass.proofs.MarksAtChanges.{IsAskedAt}
use Rattle.place_pass.proofs.demand.changes.mark_changes.Given as goal

abbrev pub invariant-loop-place : goal.invariant-loop-place
invariant-loop-place l = record {
  long : length l.marks ≡ length l.fn.marks;
  asked : (m : ℕ) → m < length l.fn.marks → IsAskedAt l.demand.entries (get_or l.wishes.cells l.app.0 []) (take l.place l.changes) m (mark_at l.fn.marks m) (mark_at l.marks m);
}
