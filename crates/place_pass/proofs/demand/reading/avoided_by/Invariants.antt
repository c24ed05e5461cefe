use Rattle.std.proofs.Common.{◌≡◌, ℕ, ◌-◌, ◌<◌, ◌≤◌, nat_lt}
use Rattle.fuxi_terms.specs.Keys.{key_cmp}
use Rattle.fuxi_terms.specs.Counts.{count}
use Rattle.fuxi_terms.specs.TallyKeys.{key}
use Rattle.locality_tree.specs.PlaceSets.{in_set}
use Rattle.std.specs.Prelude.{false}
use Rattle.place_pass.specs.DemandWalks.{IsPast}
use Rattle.place_pass.proofs.demand.reading.avoided_by.Given as goal

abbrev pub invariant-loop-next : goal.invariant-loop-next
invariant-loop-next l = record {
  within : l.next ≤ l.machines;
  done : (k : ℕ) → k < l.next → in_set l.avoided k ≡ nat_lt 0 (count key_cmp l.demand.entries (key 4 l.unit k));
  left : (k : ℕ) → l.next ≤ k → in_set l.avoided k ≡ false;
  past : IsPast l.demand.entries l.passed (key 4 l.unit l.next);
}

abbrev pub decreases-loop-next : goal.decreases-loop-next
decreases-loop-next l = l.machines - l.next
