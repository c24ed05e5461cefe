use Rattle.std.proofs.Common.{refl, sym, ◌∙◌}
use Rattle.std.proofs.lemmas.Result.{on_ok_weaker}
use Rattle.work_plan.proofs.HistoriesGrow.{not_there, on_ok_both}
use Rattle.work_plan.proofs.Told.{room_made}
use Rattle.work_plan.proofs.agent.ensure_peer.Goals as goal

pub returns-clause-same : goal.returns-clause-same
returns-clause-same c =
    on_ok_weaker c.put.result (λ put w h. room_made c.args.agent.now _ w c.args.app.0 h refl c.in_ok-peer.peer (not_there _ (sym c.is_admitted.ensures ∙ c.if-is_admitted.false)) c.in_ok-peer.ensures put.0 put.1 c.in_ok-admit.ensures.admitted c.in_ok-admit.ensures.others)
    (on_ok_both _ _ c.put.result c.put.ensures.here c.put.ensures.others)
