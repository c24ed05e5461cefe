use Rattle.std.proofs.Common.{◌≡◌, ◌++◌, map, ◌∙◌, ap, arith}
use Rattle.std.specs.List.{flat_map}
use Rattle.fuxi_terms.specs.Limits.{most_units}
use Rattle.fuxi_terms.specs.Lists.{below}
use Rattle.work_plan.specs.Crews.{runs_at}
use Rattle.work_plan.specs.WorkLines.{Works, lines_text}
use Rattle.work_plan.specs.AgentWithApps.{all_units}
use Rattle.work_plan.proofs.Texts.{text_more}
use Rattle.work_plan.proofs.showing.write_units.Goals as goal

pub loop-unit-preserved : goal.loop-unit-preserved
loop-unit-preserved c =
    text_more (λ u. map (λ n. Works c.args.app.0 u n) (runs_at c.args.workers.now c.args.app.0 u)) c.loop-unit.unit c.args.out.now.items c.loop-unit.out.items c.write_unit.new.out.items c.loop-unit.invariant c.in_ok-write_unit.ensures

pub returns : goal.returns
unfolding all_units
returns c =
    let all : c.loop-unit.unit ≡ most_units = omega (arith, c.loop-unit-test.false, c.loop-unit.auto.unit-end) in
    c.loop-unit.invariant ∙ ap (λ k. c.args.out.now.items ++ lines_text (flat_map (λ u. map (λ n. Works c.args.app.0 u n) (runs_at c.args.workers.now c.args.app.0 u)) (below k))) all
