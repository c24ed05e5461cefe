use Rattle.std.proofs.Common.{List}
use Rattle.slot_pool.specs.Pools.{value_at}
use Rattle.wait_queue.specs.Queues.{Item}
use Rattle.locality_tree.specs.Layouts.{sets_of}
use Rattle.locality_tree.specs.Paths.{IsTail, Passed, is_at_either}
use Rattle.locality_tree.proofs.PathsLemmas.{way_left}
use Rattle.locality_tree.proofs.path.skip.Given as goal

abbrev pub invariant-loop-at : goal.invariant-loop-at
invariant-loop-at l = (tail : List Item) → IsTail (value_at l.pool) l.queue l.fn.from tail → Passed (value_at l.pool) l.queue (is_at_either (sets_of l.units) l.one l.other) tail l.at

abbrev pub decreases-loop-at : goal.decreases-loop-at
decreases-loop-at l = way_left (value_at l.pool) l.at
