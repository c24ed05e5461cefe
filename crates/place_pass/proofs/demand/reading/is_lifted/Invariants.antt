use Rattle.std.proofs.Common.{◌≡◌, ℕ, ◌-◌, ◌<◌, ◌≤◌, not, true, false}
use Rattle.std.specs.Prelude.{◌&&◌}
use Rattle.locality_tree.specs.PlaceSets.{in_set}
use Rattle.place_pass.proofs.demand.reading.is_lifted.Given as goal

abbrev pub invariant-loop-at : goal.invariant-loop-at
invariant-loop-at l = record {
  within : l.at ≤ 384;
  there : l.at < 384 → in_set l.before l.at ≡ true;
  still : (m : ℕ) → m < l.at → (in_set l.before m && not (in_set l.now m)) ≡ false;
}

abbrev pub decreases-loop-at : goal.decreases-loop-at
decreases-loop-at l = 384 - l.at
