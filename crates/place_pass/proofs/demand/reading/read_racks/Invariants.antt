use Rattle.std.proofs.Common.{◌≡◌, ℕ, ◌-◌, ◌<◌, ◌≤◌, cond, length, get_or}
use Rattle.fuxi_terms.specs.Cluster.{has_rack}
use Rattle.fuxi_terms.specs.Keys.{key_cmp}
use Rattle.fuxi_terms.specs.Counts.{count}
use Rattle.fuxi_terms.specs.TallyKeys.{rack_key}
use Rattle.place_pass.specs.DemandWalks.{IsPast}
use Rattle.place_pass.proofs.demand.reading.read_racks.Given as goal

abbrev pub invariant-loop-next : goal.invariant-loop-next
invariant-loop-next l = record {
  within : l.next ≤ 64;
  long : length l.racks ≡ 64;
  done : (k : ℕ) → k < l.next → get_or l.racks k 0 ≡ cond (has_rack l.cluster k) (count key_cmp l.demand.entries (rack_key l.unit k)) 0;
  past : IsPast l.demand.entries l.passed (rack_key l.unit l.next);
}

abbrev pub decreases-loop-next : goal.decreases-loop-next
decreases-loop-next l = 64 - l.next
