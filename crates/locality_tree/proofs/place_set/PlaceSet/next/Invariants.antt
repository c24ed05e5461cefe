use Rattle.std.proofs.Common.{◌-◌, ◌≡◌, ℕ, ◌<◌, ◌≤◌, false}
use Rattle.locality_tree.specs.PlaceSets.{in_set}
use Rattle.locality_tree.proofs.place_set.PlaceSet.next.Given as goal

abbrev pub invariant-loop-at : goal.invariant-loop-at
invariant-loop-at l = record { least : l.fn.from ≤ l.at; most : l.at ≤ 384; none : (n : ℕ) → l.fn.from ≤ n → n < l.at → in_set l.self n ≡ false }

abbrev pub decreases-loop-at : goal.decreases-loop-at
decreases-loop-at l = 384 - l.at
