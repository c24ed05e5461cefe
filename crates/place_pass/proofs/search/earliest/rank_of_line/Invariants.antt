use Rattle.std.proofs.Common.{◌≡◌, ℕ, ◌<◌, true, Some, slice_get}
use Rattle.fuxi_terms.specs.Keys.{Pair}
use Rattle.place_pass.specs.Bounds.{rank_of, rank_at, is_bound}
use Rattle.place_pass.specs.Scenes.{board_in}
use Rattle.place_pass.specs.Candidates.{turn_in}
use Rattle.place_pass.proofs.search.earliest.rank_of_line.Given as goal

abbrev pub invariant-loop-place : goal.invariant-loop-place
invariant-loop-place l = (k m : ℕ) (p : Pair) → k < l.place → slice_get l.input.line.now.pairs k ≡ Some p → is_bound (Some (rank_of l.rank)) (rank_at (board_in l.input) l.input.table.now.entries (turn_in l.input.turn_of.now p) p m) ≡ true
