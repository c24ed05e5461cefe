use Rattle.std.proofs.Common.{◌-◌, ◌≤◌, not, nat_eq, map, filter}
use Rattle.fuxi_terms.specs.Lists.{below}
use Rattle.spec_roles.specs.Apps.{AppRole, held_by}
use Rattle.schedule_text.specs.Writing.{Begins}
use Rattle.app_master.specs.AppCores.{StandsFor}
use Rattle.spec_refinement.specs.States.{hold_line}
use Rattle.party_text.specs.Texts.{Shows}
use Rattle.party_text.proofs.app.write_unit.Given as goal

abbrev pub invariant-loop-machine : goal.invariant-loop-machine
invariant-loop-machine l = record {
  within : l.from ≤ l.app.machines;
  shows : (r : AppRole) → StandsFor l.app r → Shows (map (hold_line r l.unit.0) (filter (λ m. not (nat_eq (held_by r l.unit.0 m) 0)) (below l.from))) l.initial.out.items l.out.items;
  begins : Begins l.initial.out.items l.out.items;
}

abbrev pub decreases-loop-machine : goal.decreases-loop-machine
decreases-loop-machine l = l.app.machines - l.from
