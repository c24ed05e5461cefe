use Rattle.std.proofs.Common.{◌≡◌, ℕ, ◌<◌, cond, nat_lt, length, drop}
use Rattle.std.specs.Prelude.{◌&&◌}
use Rattle.fuxi_terms.specs.Counts.{count}
use Rattle.fuxi_terms.specs.Keys.{key_cmp}
use Rattle.fuxi_terms.specs.TallyKeys.{count_key}
use Rattle.app_master.specs.Usable.{is_named, usable_in, carried_at}
use Rattle.app_master.proofs.carried.write_counted.Given as goal

abbrev pub invariant-loop-key : goal.invariant-loop-key
invariant-loop-key l = record {
  long : length l.counts.items ≡ length l.initial.counts.items;
  left : (u m : ℕ) → u < l.units → m < length l.initial.counts.items
      → cond (is_named l.grants m && nat_lt 0 (count key_cmp (drop l.key-index l.entries) (count_key u m))) (usable_in l.grants l.demand l.boot u m) (carried_at l.counts.items u m)
      ≡ cond (is_named l.grants m && nat_lt 0 (count key_cmp l.entries (count_key u m))) (usable_in l.grants l.demand l.boot u m) (carried_at l.initial.counts.items u m);
}
