use Rattle.std.proofs.Common.{◌≡◌, ℕ, ◌+◌, ◌≤◌, List, length, Some}
use Rattle.std.specs.Prelude.{slice_get}
use Rattle.preempt.specs.Shelves.{IsFree}
use Rattle.preempt.proofs.snapshot.free_of.Given as goal

abbrev pub invariant-loop-number : goal.invariant-loop-number
invariant-loop-number g l = record {
  long : length l.free.items ≡ l.number;
  each : (m : ℕ) (q : List ℕ) → slice_get l.free.items m ≡ Some q → IsFree l.table m q;
  steps : l.steps ≤ l.fn.steps + l.number;
}
