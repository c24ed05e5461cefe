use Rattle.std.specs.List.{flat_map}
use Rattle.fuxi_terms.specs.Lists.{below}
use Rattle.party_text.specs.MasterLines.{grant_lines}
use Rattle.party_text.specs.Texts.{Shows}
use Rattle.party_text.proofs.MasterLoops.{Printed}
use Rattle.party_text.proofs.grants.write_unit_grants.Given as goal

abbrev pub invariant-loop-number : goal.invariant-loop-number
invariant-loop-number l = Printed (Shows (flat_map (grant_lines l.epoch l.table.entries l.app.0 l.unit.0) (below l.number)) l.initial.out.items l.out.items) l.initial.out.items l.out.items
