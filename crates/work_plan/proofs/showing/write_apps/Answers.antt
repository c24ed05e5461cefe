use Rattle.std.proofs.Common.{◌≡◌, ◌++◌, sym, ◌∙◌, ap, arith}
use Rattle.std.specs.List.{flat_map}
use Rattle.fuxi_terms.specs.Limits.{most_jobs}
use Rattle.fuxi_terms.specs.Lists.{below}
use Rattle.work_plan.specs.WorkEvents.{app_lines}
use Rattle.work_plan.specs.WorkLines.{lines_text}
use Rattle.work_plan.specs.AgentWithApps.{all_apps}
use Rattle.work_plan.proofs.PacketDelivered.{app_is}
use Rattle.work_plan.proofs.HistoriesGrow.{at_there, not_there}
use Rattle.work_plan.proofs.StateLines.{no_app, no_app_lines, text_none}
use Rattle.work_plan.proofs.Texts.{text_more}
use Rattle.work_plan.proofs.showing.write_apps.Goals as goal

pub loop-number-preserved-then-not-has : goal.loop-number-preserved-then-not-has
loop-number-preserved-then-not-has c w h =
    let none = not_there _ (sym c.has.ensures ∙ c.if-not-has.true) in
    text_none (app_lines w) c.loop-number.number c.args.out.now.items c.loop-number.out.items (no_app_lines w c.loop-number.number (no_app c.args.apps.now w c.loop-number.number none h)) (c.loop-number.invariant w h)

pub loop-number-preserved : goal.loop-number-preserved
loop-number-preserved c w h = text_more (app_lines w) c.loop-number.number c.args.out.now.items c.loop-number.out.items c.write_app.new.out.items (c.loop-number.invariant w h) (c.in_ok-write_app.ensures w (app_is c.args.apps.now w c.loop-number.number c.in-Some.ends (at_there c.args.apps.now c.loop-number.number c.index-apps-number.result (sym c.has.ensures ∙ c.if-not-has.false) c.index-apps-number.is ∙ c.in-Some.is) h))

pub returns : goal.returns
unfolding all_apps
returns c w h =
    let all : c.loop-number.number ≡ most_jobs = omega (arith, c.loop-number-test.false, c.loop-number.auto.number-end) in
    c.loop-number.invariant w h ∙ ap (λ k. c.args.out.now.items ++ lines_text (flat_map (app_lines w) (below k))) all
