use Rattle.std.proofs.Common.{◌≡◌, ℕ, ◌<◌, ◌≤◌, ◌⊎◌, length}
use Rattle.std.specs.Option.{option_map}
use Rattle.place_pass.specs.Bounds.{rank_of, mark_at, bounded_mark}
use Rattle.place_pass.specs.Candidates.{IsRaised}
use Rattle.place_pass.proofs.marks.Marks.bound_from.Given as goal

abbrev pub invariant-loop-machine : goal.invariant-loop-machine
invariant-loop-machine l = record {
  long : length l.self ≡ length l.initial.self;
  left : (m : ℕ) → l.machine ≤ m → mark_at l.self m ≡ mark_at l.initial.self m;
  raised : (m : ℕ) → l.from ≤ m → m < l.machine → IsRaised l.limit (option_map rank_of l.bound) l.turns m (mark_at l.initial.self m) (mark_at l.self m);
  others : (m : ℕ) → (mark_at l.self m ≡ mark_at l.initial.self m) ⊎ (mark_at l.self m ≡ bounded_mark (option_map rank_of l.bound) l.turns (mark_at l.initial.self m));
}
