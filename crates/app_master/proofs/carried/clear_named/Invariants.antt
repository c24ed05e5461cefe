use Rattle.std.proofs.Common.{◌≡◌, ℕ, cond, nat_eq, length, drop}
use Rattle.fuxi_terms.specs.Counts.{count}
use Rattle.fuxi_terms.specs.Keys.{key_cmp}
use Rattle.fuxi_terms.specs.TallyKeys.{reported_key}
use Rattle.app_master.specs.Usable.{carried_at}
use Rattle.app_master.proofs.carried.clear_named.Given as goal

abbrev pub invariant-loop-key : goal.invariant-loop-key
invariant-loop-key l = record {
  long : length l.counts.items ≡ length l.initial.counts.items;
  left : (u m : ℕ) → cond (nat_eq (count key_cmp (drop l.key-index l.entries) (reported_key m)) 1) 0 (carried_at l.counts.items u m) ≡ cond (nat_eq (count key_cmp l.entries (reported_key m)) 1) 0 (carried_at l.initial.counts.items u m);
}
