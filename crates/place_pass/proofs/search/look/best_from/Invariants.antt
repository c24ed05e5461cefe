use Rattle.std.proofs.Common.{◌≡◌, ℕ, ◌<◌, Some, slice_get}
use Rattle.std.specs.Prelude.{IfSome}
use Rattle.fuxi_terms.specs.Keys.{Pair}
use Rattle.place_pass.specs.Bounds.{IsBounded}
use Rattle.place_pass.specs.Scenes.{board_in}
use Rattle.place_pass.specs.Candidates.{sight_rank, turn_in, IsSight}
use Rattle.place_pass.proofs.search.look.best_from.Given as goal

abbrev pub invariant-loop-place : goal.invariant-loop-place
invariant-loop-place l = record {
  bounded : (k : ℕ) (p : Pair) → k < l.place → slice_get l.input.line.now.pairs k ≡ Some p → IsBounded (board_in l.input) l.input.table.now.entries (sight_rank l.best) l.groups (turn_in l.input.turn_of.now p) p l.machine.0;
  sight : IfSome l.best (λ x. IsSight (board_in l.input) l.input.table.now.entries (turn_in l.input.turn_of.now) l.input.line.now.pairs l.machine.0 x);
}
