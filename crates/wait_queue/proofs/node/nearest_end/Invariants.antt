use Rattle.std.proofs.Common.{◌≡◌, drop}
use Rattle.wait_queue.specs.Neighbours.{nearest}
use Rattle.wait_queue.proofs.node.nearest_end.Given as goal

abbrev pub invariant-loop-place : goal.invariant-loop-place
invariant-loop-place l = nearest (drop l.band l.ends) ≡ nearest (drop l.place l.ends)
