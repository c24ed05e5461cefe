use Rattle.std.proofs.Common.{ℕ, ◌<◌, get_or, refl, sym, ◌∙◌, subst, length-set}
use Rattle.fuxi_terms.specs.declared.Key.{Key}
use Rattle.work_plan.specs.PlanKeys.{most_workers}
use Rattle.work_plan.specs.Crews.{Marks}
use Rattle.work_plan.proofs.CrewsLemmas.{mapped_get, marked_more, front_more, unmarked}
use Rattle.work_plan.proofs.squad.marks_of.Goals as goal

abbrev none : Key × ℕ
none = (record { what = 0; unit = 0; number = 0 }, 0)

pub bounds-marks-key : goal.bounds-marks-key
bounds-marks-key c = mapped_get (λ n. n < most_workers) (λ (e : Key × ℕ). e.0.number) c.args.entries.now c.loop-key.key-index none c.loop-key-test.true c.requires.within

pub loop-key-init : goal.loop-key-init
loop-key-init c = record { long = refl; marks = unmarked 256 }

pub loop-key-preserved : goal.loop-key-preserved
loop-key-preserved c =
    let es = c.args.entries.now in
    let i = c.loop-key.key-index in
    let n = (get_or es i none).0.number in
    record {
      long = length-set c.loop-key.marks n _ ∙ c.loop-key.invariant.long;
      marks = subst (Marks _) (sym (front_more (λ (e : Key × ℕ). e.0.number) es i none c.loop-key-test.true))
          (marked_more c.loop-key.marks n _ c.loop-key.invariant.long (mapped_get (λ n. n < most_workers) (λ (e : Key × ℕ). e.0.number) es i none c.loop-key-test.true c.requires.within) c.loop-key.invariant.marks);
    }
