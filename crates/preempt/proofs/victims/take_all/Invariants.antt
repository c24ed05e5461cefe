use Rattle.std.proofs.Common.{◌≡◌, ℕ, ◌*◌, ◌^◌, ◌<◌, ◌≤◌, length, get_or}
use Rattle.fuxi_terms.specs.Keys.{Spot}
use Rattle.grant_table.specs.GrantTables.{TableRecord}
use Rattle.preempt.specs.Given.{AreGiven}
use Rattle.preempt.specs.GrantNumbers.{total_in}
use Rattle.preempt.specs.GroupSums.{ArePartsOf}
use Rattle.preempt.proofs.CountedAsWritten.{AtTaking}
use Rattle.preempt.proofs.victims.take_all.Given as goal

abbrev pub invariant-loop-e : goal.invariant-loop-e
invariant-loop-e l = record {
  long : length l.set.items ≡ l.e-index;
  all : (i : ℕ) → i < 8 → get_or l.all i 0 ≡ total_in i l.set.items;
  parts : ArePartsOf l.parts l.set.items;
  all_small : (i : ℕ) → i < 8 → get_or l.all i 0 ≤ l.e-index * 2 ^ 96;
  at : (t : TableRecord) (s : Spot) → AreGiven t s l.entries l.need l.groups → AtTaking t s l.entries l.e-index l.set.items;
}
