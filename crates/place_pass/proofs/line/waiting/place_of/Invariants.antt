use Rattle.std.proofs.Common.{◌≡◌, ℕ, ◌-◌, ◌<◌, ◌≤◌, Some, slice_get, length}
use Rattle.place_pass.proofs.line.waiting.place_of.Given as goal

abbrev pub invariant-loop-low : goal.invariant-loop-low
invariant-loop-low l = record {
  inside : l.high ≤ length l.line.pairs;
  within : (k : ℕ) → slice_get l.line.pairs k ≡ Some (l.fn.app.0, l.fn.unit.0) → (l.low ≤ k) × (k < l.high);
}

abbrev pub decreases-loop-low : goal.decreases-loop-low
decreases-loop-low l = l.high - l.low
