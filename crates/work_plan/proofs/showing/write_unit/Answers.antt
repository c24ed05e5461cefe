use Rattle.std.proofs.Common.{◌++◌, ◌∙◌, ap, arith}
use Rattle.work_plan.specs.Crews.{runs_at}
use Rattle.work_plan.specs.WorkLines.{Works, line_text}
use Rattle.work_plan.proofs.Texts.{text_item}
use Rattle.work_plan.proofs.showing.write_unit.Goals as goal

pub loop-index-preserved : goal.loop-index-preserved
loop-index-preserved c =
    let runs = runs_at c.args.workers.now c.args.app.0 c.args.unit.0 in
    text_item (λ n. Works c.args.app.0 c.args.unit.0 n) runs c.loop-index.index 0 c.args.out.now.items c.loop-index.out.items c.write_line.new.out.items (omega (arith, c.loop-index-test.true, c.running-index-end.ensures.count)) c.loop-index.invariant
    (c.in_ok-write_line.ensures.ok ∙ ap (λ n. c.loop-index.out.items ++ line_text (Works c.args.app.0 c.args.unit.0 n)) (c.at-worker.ensures 0))
