use Rattle.std.proofs.Common.{◌-◌, ◌∙◌, ap, subst, List, length, take}
use Rattle.work_plan.specs.RunAfter.{missing}
use Rattle.work_plan.specs.Crews.{Starts, numbers_of, workers_of, stay}
use Rattle.work_plan.specs.declared.squad.Member.{Member}
use Rattle.work_plan.proofs.CrewsLemmas.{marked_stay}
use Rattle.work_plan.proofs.squad.Squad.settle.Goals as goal

pub returns : goal.returns
returns c =
    let wanted = numbers_of c.args.wanted.now in
    let rest = c.stop_unwanted.ensures.stay ∙ marked_stay c.self.inside.members.items c.marks_of-marks.result wanted c.args.most c.marks_of-marks.ensures c.self.invariant.0.within in
    let same = ap (λ (ms : List Member). stay ms wanted c.args.most) c.self.view_is in
    subst (λ (ms : List Member). Starts ms c.start_missing.new.members.items (take (c.args.most - length ms) (missing (workers_of ms) wanted))) (rest ∙ same) c.start_missing.ensures.starts
