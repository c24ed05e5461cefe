use Rattle.std.proofs.Common.{◌≡◌, ◌++◌, sym, ◌∙◌, ap, arith}
use Rattle.fuxi_terms.specs.Limits.{most_jobs}
use Rattle.work_plan.specs.WorkEvents.{agent_app_lines}
use Rattle.work_plan.specs.WorkLines.{AgentIs, line_text, lines_text}
use Rattle.work_plan.proofs.Texts.{one_text}
use Rattle.work_plan.proofs.HistoriesGrow.{not_there}
use Rattle.work_plan.proofs.StateLines.{agent_more, agent_none, agent_whole, no_app, no_peer_lines, there_app}
use Rattle.work_plan.proofs.showing.write_agent.Goals as goal

pub loop-number-init : goal.loop-number-init
loop-number-init c w h apps = c.in_ok-write_line.ensures.ok ∙ (λ i. c.args.out.now.items ++ line_text (AgentIs (h.boot i))) ∙ ap (λ t. c.args.out.now.items ++ t) (sym (one_text (AgentIs w.agent)))

pub loop-number-preserved-then-not-has : goal.loop-number-preserved-then-not-has
loop-number-preserved-then-not-has c w h apps =
    let none = not_there _ (sym c.has.ensures ∙ c.if-not-has.true) in
    agent_none w (agent_app_lines w) c.loop-number.number c.args.out.now.items c.loop-number.out.items (no_peer_lines w c.loop-number.number (no_app c.args.apps.now w c.loop-number.number none apps)) (c.loop-number.invariant w h apps)

pub loop-number-preserved : goal.loop-number-preserved
loop-number-preserved c w h apps =
    agent_more w (agent_app_lines w) c.loop-number.number c.args.out.now.items c.loop-number.out.items c.write_peer.new.out.items (c.loop-number.invariant w h apps) (c.in_ok-write_peer.ensures w h (there_app c.args.apps.now w c.loop-number.number (sym c.has.ensures ∙ c.if-not-has.false) apps))

pub returns : goal.returns
returns c w h apps =
    let all : c.loop-number.number ≡ most_jobs = omega (arith, c.loop-number-test.false, c.loop-number.auto.number-end) in
    c.loop-number.invariant w h apps ∙ ap (λ ls. c.args.out.now.items ++ lines_text ls) (agent_whole w c.loop-number.number all h.runs)
