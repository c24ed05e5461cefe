use Rattle.std.proofs.Common.{◌≡◌, sym, ◌∙◌, arith}
use Rattle.fuxi_terms.specs.Limits.{most_jobs}
use Rattle.work_plan.proofs.HistoriesGrow.{not_there}
use Rattle.work_plan.proofs.PacketsStandBehind.{sends_more, sends_none, sends_whole}
use Rattle.work_plan.proofs.StateLines.{no_app, there_app}
use Rattle.work_plan.proofs.turns.send_to_all.Goals as goal

pub loop-number-preserved-then-not-has : goal.loop-number-preserved-then-not-has
loop-number-preserved-then-not-has c =
    let i = c.loop-number.invariant in
    let none = not_there _ (sym c.has.ensures ∙ c.if-not-has.true) in
    record { held = i.held; agent = i.agent; sends = λ w h apps. sends_none w c.loop-number.number c.args.packets.now.items c.loop-number.packets.items (no_app c.args.apps.now w c.loop-number.number none apps) (i.sends w h apps) }

pub loop-number-preserved : goal.loop-number-preserved
loop-number-preserved c =
    let i = c.loop-number.invariant in
    let s = c.in_ok-send_to_app.ensures in
    record {
      held = (i.held.0, s.agent i.held.0 i.held.1);
      agent = λ w h. s.agent w (i.agent w h);
      sends = λ w h apps. sends_more w c.loop-number.number c.args.packets.now.items c.loop-number.packets.items c.send_to_app.new.packets.items (there_app c.args.apps.now w c.loop-number.number (sym c.has.ensures ∙ c.if-not-has.false) apps) (i.sends w h apps) (s.sends w (i.agent w h));
    }

pub returns-clause-sends : goal.returns-clause-sends
returns-clause-sends c w h apps =
    let all : c.loop-number.number ≡ most_jobs = omega (arith, c.loop-number-test.false, c.loop-number.auto.number-end) in
    sends_whole w c.loop-number.number c.args.packets.now.items c.loop-number.packets.items all (c.loop-number.invariant.sends w h apps)
