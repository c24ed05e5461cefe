use Rattle.std.proofs.Common.{◌≡◌, sym, ap, subst, arith}
use Rattle.fuxi_master.specs.Cores.{MasterRecord, StandsFor}
use Rattle.fuxi_master.proofs.AnswersAlike.{heard_one}
use Rattle.fuxi_master.proofs.master.Master.hear.Goals as goal

pub invariant_of-result : goal.invariant_of-result
invariant_of-result c =
    let few = c.requires.steps in
    let same : c.self.inside.steps ≡ c.args.self.steps = ap (λ (m : MasterRecord). m.steps) c.self.view_is in
    record { core = c.in_ok-core.ensures.core; within = c.in_ok-core.ensures.within; steps = omega (arith, few, same) }

pub returns-clause-answers : goal.returns-clause-answers
returns-clause-answers c = λ r h. (heard_one c.args.packet _ _ _ c.in_ok-core.reply c.in_ok-core.ensures).answers r (subst (λ (m : MasterRecord). StandsFor m.core r) (sym c.self.view_is) h)
