use Rattle.std.proofs.Common.{◌<◌, get_or, refl, sym, ◌∙◌, subst, length-set}
use Rattle.work_plan.specs.PlanKeys.{most_workers}
use Rattle.work_plan.specs.Crews.{Marks}
use Rattle.work_plan.specs.declared.squad.Member.{Member}
use Rattle.work_plan.proofs.CrewsLemmas.{mapped_get, marked_more, front_more, unmarked}
use Rattle.work_plan.proofs.squad.taken_of.Goals as goal

abbrev none : Member
none = record { worker = 0; slot = record { number = 0; generation = 0 } }

pub bounds-marks-member : goal.bounds-marks-member
bounds-marks-member c = mapped_get (λ n. n < most_workers) (λ (m : Member). m.worker) c.args.members.now c.loop-member.member-index none c.loop-member-test.true c.requires

pub loop-member-init : goal.loop-member-init
loop-member-init c = record { long = refl; marks = unmarked 256 }

pub loop-member-preserved : goal.loop-member-preserved
loop-member-preserved c =
    let ms = c.args.members.now in
    let i = c.loop-member.member-index in
    let n = (get_or ms i none).worker in
    record {
      long = length-set c.loop-member.marks n _ ∙ c.loop-member.invariant.long;
      marks = subst (Marks _) (sym (front_more (λ (m : Member). m.worker) ms i none c.loop-member-test.true))
          (marked_more c.loop-member.marks n _ c.loop-member.invariant.long (mapped_get (λ n. n < most_workers) (λ (m : Member). m.worker) ms i none c.loop-member-test.true c.requires) c.loop-member.invariant.marks);
    }
