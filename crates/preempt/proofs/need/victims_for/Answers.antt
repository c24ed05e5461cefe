use Rattle.std.proofs.Common.{ℕ}
use Rattle.std.specs.Prelude.{Option}
use Rattle.std.specs.Global.{Vec}
use Rattle.fuxi_terms.specs.Tables.{spot}
use Rattle.grant_table.specs.GrantTables.{TableRecord, IsSound}
use Rattle.preempt.specs.declared.plan.Victim.{Victim}
use Rattle.preempt.specs.Given.{AreGiven, AreGroups, IsEntry}
use Rattle.preempt.specs.Shelves.{AreMachineGrants, IsWanted}
use Rattle.preempt.proofs.ShelvesLemmas.{resources_few}
use Rattle.preempt.proofs.NeedsAsWritten.{if_ok}
use Rattle.preempt.proofs.need.victims_for.Goals as goal

-- what is given on the machine
given : (c : goal.After-victims_on) (t : TableRecord) (m : ℕ) → IsSound t → AreGroups t c.args.groups.now → IsEntry t c.args.e.now → IsWanted t c.args.e.now.app.0 c.args.e.now.unit.0 c.args.need.now → AreMachineGrants t m c.args.shelf.now
    → AreGiven t (spot c.args.e.now.app.0 c.args.e.now.unit.0 m) c.args.shelf.now.entries.now c.on_machine_grants-need.result c.args.groups.now
given c t m sound groups entry wanted shelf = record {
  walk = shelf.walk;
  each = shelf.each;
  need = c.on_machine_grants-need.ensures.need t m entry wanted shelf (resources_few t.cluster sound.valid);
  groups_are = groups;
}

pub returns-clause-found : goal.returns-clause-found
returns-clause-found c = if_ok {A = Option (Vec Victim)} _ _ (λ found h t m sound groups entry wanted shelf.
    let s = spot c.args.e.now.app.0 c.args.e.now.unit.0 m in
    h t s (given c t m sound groups entry wanted shelf) sound) c.victims_on.result c.victims_on.ensures.found

pub returns-clause-takable : goal.returns-clause-takable
returns-clause-takable c = if_ok {A = Option (Vec Victim)} _ _ (λ found h t m sound groups entry wanted shelf.
    let s = spot c.args.e.now.app.0 c.args.e.now.unit.0 m in
    h t s (given c t m sound groups entry wanted shelf) sound) c.victims_on.result c.victims_on.ensures.takable
