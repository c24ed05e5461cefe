use Rattle.std.proofs.Common.{sym, subst}
use Rattle.node_parties.specs.MasterParties.{IsMasterOf}
use Rattle.fuxi_desk.specs.Preparing.{PreparedRecord}
use Rattle.fuxi_desk.proofs.prepare.Prepared.into_parts.Goals as goal

pub returns-clause-stands : goal.returns-clause-stands
returns-clause-stands c h r s = c.into_master.ensures.stands h r (subst (λ (p : PreparedRecord). IsMasterOf h r p.node) (sym c.self.view_is) s)
