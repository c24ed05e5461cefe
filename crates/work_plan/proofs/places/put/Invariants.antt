use Rattle.std.proofs.Common.{◌≡◌, ◌-◌, ◌+◌, ◌<◌, ℕ, None, length, get_or, vec_capacity}
use Rattle.work_plan.proofs.places.put.Given as goal

abbrev pub invariant-loop-places : goal.invariant-loop-places
invariant-loop-places g l = record {
  same : (n : ℕ) → get_or l.places.items n None ≡ get_or l.fn.places.items n None;
  room : l.index < vec_capacity l.places;
}

abbrev pub decreases-loop-places : goal.decreases-loop-places
decreases-loop-places g l = l.index + 1 - length l.places.items
