use Rattle.std.proofs.Common.{sym, subst}
use Rattle.peer_channel.specs.Parcels.{parcel_is}
use Rattle.spec_roles.specs.MasterRoles.{master_hears_alone, report_excess}
use Rattle.node_core.specs.Roles.{OfAgent, OfApp, OfMaster}
use Rattle.node_parties.specs.MasterParties.{IsMasterOf}
use Rattle.node_parties.proofs.KnowledgeKept.{heard_same, still_of}
use Rattle.node_parties.proofs.node.MasterNodeCore.hear.Goals as goal

pub invariant_of-result : goal.invariant_of-result
invariant_of-result c =
    let v = c.self.invariant in
    let x = parcel_is c.args.packet in
    let s = (master_hears_alone (report_excess v.role.cluster v.role.state) v.role x).role in
    record {
      hard = v.hard;
      role = s;
      stands = still_of v.hard v.role s c.self.inside.hard c.self.inside.master c.in-Ok.master v.stands (c.in-Ok.ensures.answers v.role v.stands.stands).role (heard_same v.role x);
    }

pub returns-in-Ok-clause-hears : goal.returns-in-Ok-clause-hears
returns-in-Ok-clause-hears c (OfAgent r) s = elim s [ ]
returns-in-Ok-clause-hears c (OfApp r) s = elim s [ ]
returns-in-Ok-clause-hears c (OfMaster h r) s =
    let x = parcel_is c.args.packet in
    let to = (master_hears_alone (report_excess r.cluster r.state) r x).role in
    let of = subst (IsMasterOf h r) (sym c.self.view_is) s in
    still_of h r to c.self.inside.hard c.self.inside.master c.in-Ok.master of (c.in-Ok.ensures.answers r of.stands).role (heard_same r x)
