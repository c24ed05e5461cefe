use Rattle.std.proofs.Common.{◌≡◌, None, Some, get_or, refl, ◌∙◌}
use Rattle.std.proofs.lemmas.List.{get_or-set_same, get_or-set_other}
use Rattle.std.proofs.lemmas.Result.{on_ok_weaker}
use Rattle.work_plan.proofs.HistoriesGrow.{at_there, within}
use Rattle.work_plan.proofs.Told.{agent_counts}
use Rattle.work_plan.proofs.agent.count_workers.Goals as goal

pub returns : goal.returns
returns c =
    let peers = c.ensure_peer.new.agent.peers.items in
    let was : get_or peers c.args.app.0 None ≡ Some c.in-Some.peer = at_there peers c.args.app.0 c.index_mut.result.now c.in_ok-ensure_peer.ensures.there c.index_mut.ensures.value ∙ c.in-Some.is in
    on_ok_weaker c.count_peer.result (λ s w h. agent_counts c.ensure_peer.new.agent _ w c.args.app.0 (c.in_ok-ensure_peer.ensures.same w h) refl c.in-Some.peer c.count_peer.new.peer was
    (get_or-set_same peers c.args.app.0 (Some c.count_peer.new.peer) None (within peers c.args.app.0 c.in-Some.peer was)) (λ n ne. get_or-set_other peers c.args.app.0 n (Some c.count_peer.new.peer) None ne) c.args.unit.0 c.args.count s) c.count_peer.ensures
