use Rattle.std.proofs.Common.{◌≡◌, ◌++◌, None, Some, get_or, sym, ◌∙◌, ap}
use Rattle.std.specs.Option.{is_some}
use Rattle.std.proofs.lemmas.Result.{on_ok_weaker}
use Rattle.work_plan.specs.WorkLines.{PlanAt, line_text}
use Rattle.work_plan.proofs.HistoriesGrow.{at_there, not_there}
use Rattle.work_plan.proofs.StateLines.{no_peer_shown, peer_shown}
use Rattle.work_plan.proofs.showing.write_peer.Goals as goal

pub returns-then-not-has : goal.returns-then-not-has
returns-then-not-has c = on_ok_weaker c.write_line.result (λ line w h some. no_peer_shown c.args.agent.now w c.args.app.0 c.args.out.now.items c.write_line.new.out.items h
    (not_there _ (sym (c.has.ensures ∙ ap (λ xs. is_some (get_or xs c.args.app.0 None)) c.deref.ensures.value) ∙ c.if-not-has.true)) some line) c.write_line.ensures.ok

pub returns : goal.returns
returns c =
    let peers = c.args.agent.now.peers.items in
    let was : get_or peers c.args.app.0 None ≡ Some c.in-Some.peer = at_there peers c.args.app.0 c.index.result.now (sym (c.has.ensures ∙ ap (λ xs. is_some (get_or xs c.args.app.0 None)) c.deref.ensures.value) ∙ c.if-not-has.false) c.index.ensures ∙ c.in-Some.is in
    on_ok_weaker c.write_units.result (λ units w h some. peer_shown c.args.agent.now w c.args.app.0 c.in-Some.peer c.args.out.now.items c.write_line-2.new.out.items c.write_units.new.out.items h was some
    (c.in_ok-write_line.ensures.ok ∙ (λ i. c.args.out.now.items ++ line_text (PlanAt c.args.app.0 (c.place-place.ensures i).inc (c.place-place.ensures i).seq))) units) c.write_units.ensures
