use Rattle.std.proofs.Common.{◌≡◌, ℕ, ◌+◌, ◌-◌, ◌<◌, ◌≤◌, Some, slice_get, length}
use Rattle.fuxi_terms.specs.Keys.{Pair}
use Rattle.place_pass.specs.Bounds.{turn_at}
use Rattle.place_pass.specs.Cells.{unit_places}
use Rattle.place_pass.proofs.line.waiting.number_from.Given as goal

abbrev pub invariant-loop-place : goal.invariant-loop-place
invariant-loop-place l = record {
  from : l.from ≤ l.place;
  places : length l.turn_of.items ≡ unit_places;
  numbered : (k : ℕ) (p : Pair) → l.from ≤ k → k < l.place → slice_get l.line.pairs k ≡ Some p → turn_at l.turn_of.items p.0 p.1 ≡ l.turns + (k - l.from);
  others : (a u : ℕ) → u < 8 → ((k : ℕ) → l.from ≤ k → k < l.place → slice_get l.line.pairs k ≡ Some (a, u) → ⊥) → turn_at l.turn_of.items a u ≡ turn_at l.initial.turn_of.items a u;
}
