use Rattle.std.proofs.Common.{◌≡◌, ◌-◌, ◌<◌, ◌≤◌, false, length, get_or}
use Rattle.std.specs.Ordering.{is_lt}
use Rattle.fuxi_terms.specs.Keys.{key_cmp}
use Rattle.fuxi_terms.specs.TallyKeys.{key}
use Rattle.place_pass.specs.DemandWalks.{IsPast}
use Rattle.place_pass.proofs.demand.reading.place_by_halves.Given as goal

abbrev pub invariant-loop-low : goal.invariant-loop-low
invariant-loop-low l = record {
  order : l.low ≤ l.high;
  inside : l.high ≤ length l.entries;
  past : IsPast l.entries l.low l.sought;
  there : l.high < length l.entries → is_lt (key_cmp (get_or l.entries l.high (key 0 0 0, 0)).0 l.sought) ≡ false;
}

abbrev pub decreases-loop-low : goal.decreases-loop-low
decreases-loop-low l = l.high - l.low
