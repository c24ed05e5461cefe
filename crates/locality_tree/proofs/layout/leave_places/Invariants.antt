use Rattle.std.proofs.Common.{◌≡◌, ◌<◌, ◌-◌, true}
use Rattle.locality_tree.specs.PlaceSets.{in_set}
use Rattle.locality_tree.specs.Layouts.{MayLeave}
use Rattle.locality_tree.proofs.LeftLemmas.{IsLeaving}
use Rattle.locality_tree.proofs.layout.leave_places.Given as goal

abbrev pub invariant-loop-place : goal.invariant-loop-place
invariant-loop-place l = record {
  here : l.place < 384 → in_set l.unit.places l.place ≡ true;
  leaving : (may : MayLeave l.fn.pool l.fn.queues.items l.fn.unit) → IsLeaving l.fn.pool l.pool l.fn.queues.items l.queues.items l.fn.unit may l.place;
}

abbrev pub decreases-loop-place : goal.decreases-loop-place
decreases-loop-place l = l.count - l.place
