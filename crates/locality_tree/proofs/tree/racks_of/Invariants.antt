use Rattle.std.proofs.Common.{◌≡◌, take, map}
use Rattle.locality_tree.proofs.tree.racks_of.Given as goal

abbrev pub invariant-loop-number : goal.invariant-loop-number
invariant-loop-number l = l.racks.items ≡ map (λ m. m.rack) (take l.number l.cluster.machines)
