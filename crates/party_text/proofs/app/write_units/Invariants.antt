use Rattle.std.specs.List.{flat_map}
use Rattle.fuxi_terms.specs.Lists.{below}
use Rattle.spec_roles.specs.Apps.{AppRole}
use Rattle.app_master.specs.AppCores.{StandsFor}
use Rattle.spec_refinement.specs.States.{unit_lines}
use Rattle.party_text.specs.Texts.{Shows}
use Rattle.party_text.proofs.Loops.{Printed}
use Rattle.party_text.proofs.app.write_units.Given as goal

abbrev pub invariant-loop-number : goal.invariant-loop-number
invariant-loop-number l = Printed ((r : AppRole) → StandsFor l.app r → Shows (flat_map (unit_lines r) (below l.number)) l.initial.out.items l.out.items) l.initial.out.items l.out.items
