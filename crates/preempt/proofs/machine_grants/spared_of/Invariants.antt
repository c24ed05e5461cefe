use Rattle.std.proofs.Common.{◌≡◌, ℕ, ◌≤◌, length}
use Rattle.std.specs.List.{AllByRecursion}
use Rattle.grant_table.specs.GrantTables.{TableRecord}
use Rattle.preempt.specs.Given.{AreGroups, IsEntry}
use Rattle.preempt.specs.GroupSums.{ArePartsOf}
use Rattle.preempt.proofs.SparedAsWritten.{AtSpared}
use Rattle.preempt.proofs.machine_grants.spared_of.Given as goal

abbrev pub invariant-loop-e : goal.invariant-loop-e
invariant-loop-e l = record {
  few : length l.spared.items ≤ l.e-index;
  parts : ArePartsOf l.parts l.spared.items;
  at : (t : TableRecord) (m : ℕ) → AllByRecursion (IsEntry t) l.entries → AreGroups t l.groups → l.resources ≡ t.cluster.resources → AtSpared t m l.entries l.e-index l.spared.items;
}
