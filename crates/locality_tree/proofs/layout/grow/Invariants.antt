use Rattle.std.proofs.Common.{◌-◌, length}
use Rattle.locality_tree.specs.Layouts.{IsGrown}
use Rattle.locality_tree.proofs.layout.grow.Given as goal

abbrev pub invariant-loop-alloc : goal.invariant-loop-alloc
invariant-loop-alloc l = IsGrown l.fn.slots.items l.slots.items

abbrev pub decreases-loop-alloc : goal.decreases-loop-alloc
decreases-loop-alloc l = l.count - length l.slots.items
