use Rattle.std.proofs.Common.{◌≤◌, length}
use Rattle.place_pass.proofs.search.order.place_from.Given as goal

abbrev pub invariant-loop-place : goal.invariant-loop-place
invariant-loop-place l = l.place ≤ length l.input.line.now.pairs

abbrev pub decreases-loop-place : goal.decreases-loop-place
decreases-loop-place l = l.place
