use Rattle.std.proofs.Common.{◌<◌, List, length, ap, subst, arith}
use Rattle.std.specs.List.{AllByRecursion}
use Rattle.std.proofs.lemmas.List.{length-map}
use Rattle.work_plan.specs.PlanKeys.{most_workers}
use Rattle.work_plan.specs.Crews.{workers_of, Distinct}
use Rattle.work_plan.specs.declared.squad.Member.{Member}
use Rattle.work_plan.proofs.CrewsLemmas.{few_distinct}
use Rattle.work_plan.proofs.squad.Squad.members.Goals as goal

pub returns-clause-few : goal.returns-clause-few
returns-clause-few c =
    let s = c.self.invariant.0 in
    let few = few_distinct most_workers (workers_of c.self.inside.members.items) s.distinct s.within in
    let long = length-map c.self.inside.members.items (λ (m : Member). m.worker) in
    let same = ap length c.deref.ensures.value in
    omega (arith, few, long, same)

pub returns-clause-distinct : goal.returns-clause-distinct
returns-clause-distinct c = subst (λ (ms : List Member). Distinct (workers_of ms)) c.self.view_is c.self.invariant.0.distinct

pub returns-clause-within : goal.returns-clause-within
returns-clause-within c = subst (λ (ms : List Member). AllByRecursion (λ n. n < most_workers) (workers_of ms)) c.self.view_is c.self.invariant.0.within
