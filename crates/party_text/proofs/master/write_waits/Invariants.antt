use Rattle.std.proofs.Common.{◌∷◌, [], take}
use Rattle.std.specs.List.{flat_map}
use Rattle.spec_roles.specs.MasterRoles.{MasterRole}
use Rattle.fuxi_master.specs.Cores.{StandsFor}
use Rattle.party_text.specs.Texts.{Shows}
use Rattle.party_text.specs.MasterLines.{wait_line}
use Rattle.party_text.proofs.MasterLoops.{Printed}
use Rattle.party_text.proofs.master.write_waits.Given as goal

abbrev pub invariant-loop-index : goal.invariant-loop-index
invariant-loop-index l = Printed ((r : MasterRole) → StandsFor l.master.core r → Shows (flat_map (λ p. wait_line r.state p ∷ []) (take l.index r.state.line)) l.initial.out.items l.out.items) l.initial.out.items l.out.items
