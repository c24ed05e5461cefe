use Rattle.std.proofs.Common.{Option, List}
use Rattle.slot_pool.specs.declared.pool.Slot.{Slot}
use Rattle.slot_pool.specs.Pools.{value_at}
use Rattle.wait_queue.specs.Queues.{Item}
use Rattle.wait_queue.specs.Neighbours.{Walks}
use Rattle.wait_queue.proofs.WalksLemmas.{Reached, walk_left}
use Rattle.wait_queue.proofs.node.place_of.Given as goal

abbrev pub invariant-loop-place : goal.invariant-loop-place
invariant-loop-place l = (front middle : List Item) (next : Option Slot) → Walks (value_at l.pool) l.fn.start l.key_first l.entry front middle next → Reached front middle l.place

abbrev pub decreases-loop-place : goal.decreases-loop-place
decreases-loop-place l = walk_left (value_at l.pool) l.key_first l.place
