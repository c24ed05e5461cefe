use Rattle.std.proofs.Common.{◌≡◌, ℕ, ◌-◌, ◌<◌, ◌≤◌, length, get_or}
use Rattle.fuxi_terms.specs.Keys.{key_cmp}
use Rattle.fuxi_terms.specs.Counts.{count}
use Rattle.fuxi_terms.specs.TallyKeys.{key}
use Rattle.place_pass.specs.DemandWalks.{IsPast}
use Rattle.place_pass.proofs.demand.reading.read_near.Given as goal

abbrev pub invariant-loop-next : goal.invariant-loop-next
invariant-loop-next l = record {
  within : l.next ≤ l.machines;
  long : length l.near ≡ length l.initial.near;
  done : (k : ℕ) → k < l.next → get_or l.near k 0 ≡ count key_cmp l.demand.entries (key 2 l.unit k);
  past : IsPast l.demand.entries l.passed (key 2 l.unit l.next);
}

abbrev pub decreases-loop-next : goal.decreases-loop-next
decreases-loop-next l = l.machines - l.next
