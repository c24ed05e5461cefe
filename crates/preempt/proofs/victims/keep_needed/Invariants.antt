use Rattle.std.proofs.Common.{◌≡◌, ℕ, ◌+◌, ◌*◌, ◌^◌, ◌<◌, ◌≤◌, get_or, drop}
use Rattle.std.specs.List.{AllByRecursion}
use Rattle.fuxi_terms.specs.Keys.{Spot}
use Rattle.grant_table.specs.GrantTables.{TableRecord}
use Rattle.preempt.specs.Given.{IsNeed, IsEntry}
use Rattle.preempt.specs.GrantNumbers.{total_in, part_in}
use Rattle.preempt.proofs.CountedAsWritten.{AtKeeping}
use Rattle.preempt.proofs.victims.keep_needed.Given as goal

abbrev pub invariant-loop-e : goal.invariant-loop-e
invariant-loop-e l = record {
  all : (i : ℕ) → i < 8 → get_or l.all i 0 ≡ total_in i l.kept.items + total_in i (drop l.e-index l.set);
  own : (i : ℕ) → i < 8 → get_or l.own i 0 ≡ part_in l.need.group i l.kept.items + part_in l.need.group i (drop l.e-index l.set);
  all_small : (i : ℕ) → i < 8 → get_or l.all i 0 ≤ (1000000 + l.e-index) * 2 ^ 96;
  own_small : (i : ℕ) → i < 8 → get_or l.own i 0 ≤ (1000000 + l.e-index) * 2 ^ 96;
  at : (t : TableRecord) (s : Spot) → IsNeed t s l.need → AllByRecursion (IsEntry t) l.set → AtKeeping t s l.set l.e-index l.kept.items;
}
