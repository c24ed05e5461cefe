use Rattle.std.proofs.Common.{◌≡◌, filter, map, take}
use Rattle.preempt.specs.Given.{victim_of}
use Rattle.preempt.specs.GrantNumbers.{has_grants}
use Rattle.preempt.proofs.victims.victims_of.Given as goal

abbrev pub invariant-loop-e : goal.invariant-loop-e
invariant-loop-e l = l.victims.items ≡ map victim_of (filter has_grants (take l.e-index l.entries))
