use Rattle.std.proofs.Common.{sym, ◌∙◌, subst}
use Rattle.app_master.specs.AppCores.{StandsFor}
use Rattle.node_core.specs.Roles.{OfAgent, OfApp, OfMaster}
use Rattle.node_parties.proofs.AppPartiesLemmas.{hears_on}
use Rattle.node_parties.proofs.apps.AppNodeCore.hear.Goals as goal

pub invariant_of-result : goal.invariant_of-result
invariant_of-result c =
    let v = c.self.invariant in
    hears_on c.self.inside.job.0 v.role c.args.packet c.in-Ok.app (v.number ∙ v.stands.job) (c.in-Ok.ensures.hears v.role v.stands).role

pub returns-in-Ok-clause-hears : goal.returns-in-Ok-clause-hears
returns-in-Ok-clause-hears c (OfAgent r) s = elim s [ ]
returns-in-Ok-clause-hears c (OfApp r) s = (c.in-Ok.ensures.hears r (subst (λ a. StandsFor a r) (sym c.self.view_is) s)).role
returns-in-Ok-clause-hears c (OfMaster h r) s = elim s [ ]
