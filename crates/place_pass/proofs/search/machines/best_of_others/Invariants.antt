use Rattle.std.proofs.Common.{◌≡◌, ℕ, ◌+◌, ◌-◌, ◌<◌, ◌≤◌, false, not, nat_eq, length, None}
use Rattle.std.specs.Prelude.{◌&&◌, IfSome}
use Rattle.place_pass.specs.Bounds.{mark_at}
use Rattle.place_pass.specs.SearchCounts.{is_unsettled_by, count_below}
use Rattle.place_pass.specs.Scenes.{AreMarked, IsFoundIn, IsLeastOn, IsSettledBy}
use Rattle.place_pass.proofs.search.machines.best_of_others.Given as goal

abbrev pub invariant-loop-at : goal.invariant-loop-at
invariant-loop-at g l = record {
  inside : l.at ≤ length l.marks;
  other : l.at < length l.marks → nat_eq l.at l.start.0 ≡ false;
  least : (m : ℕ) → m < l.at → IsLeastOn l.input l.best m;
  seen : IsLeastOn l.input l.best l.start.0;
  found : IfSome l.initial.best (λ x. IsFoundIn l.input x) → IfSome l.best (λ x. IsFoundIn l.input x);
  marked : length l.marks ≡ length l.initial.marks;
  marks : AreMarked l.input l.marks;
  left : (m : ℕ) → l.at ≤ m → mark_at l.marks m ≡ mark_at l.initial.marks m;
  count : l.steps ≤ l.initial.steps + count_below (λ m. not (nat_eq m l.start.0) && is_unsettled_by l.input.wishes.now.opened (mark_at l.initial.marks m) l.input.turns m) l.at;
  settled : l.best ≡ None → (m : ℕ) → m < l.at → IsSettledBy l.input m (mark_at l.marks m);
  first : l.best ≡ None → IsSettledBy l.input l.start.0 (mark_at l.marks l.start.0);
}

abbrev pub decreases-loop-at : goal.decreases-loop-at
decreases-loop-at g l = length l.marks - l.at
