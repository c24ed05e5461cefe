use Rattle.std.proofs.Common.{◌≡◌, None, Some, get_or, refl, ◌∙◌}
use Rattle.std.proofs.lemmas.List.{get_or-set_same, get_or-set_other}
use Rattle.std.proofs.lemmas.Result.{IfOk-weaker}
use Rattle.work_plan.proofs.HistoriesGrow.{at_there, within}
use Rattle.work_plan.proofs.Told.{agent_hears}
use Rattle.work_plan.proofs.agent.hear_app.Goals as goal

pub returns : goal.returns
returns c =
    let peers = c.ensure_peer.new.agent.peers.items in
    let app = c.args.parcel.now.from.number in
    let was : get_or peers app None ≡ Some c.in-Some.peer = at_there peers app c.index_mut.result.now c.in_ok-ensure_peer.ensures.there c.index_mut.ensures.value ∙ c.in-Some.is in
    IfOk-weaker c.hear_peer.result _ _ (λ heard s w h brought from to. agent_hears c.ensure_peer.new.agent _ w app (c.in_ok-ensure_peer.ensures.same w h) refl c.in-Some.peer c.hear_peer.new.peer was
    (get_or-set_same peers app (Some c.hear_peer.new.peer) None (within peers app c.in-Some.peer was)) (λ n ne. get_or-set_other peers app n (Some c.hear_peer.new.peer) None ne) c.args.parcel.now heard s brought from to) c.hear_peer.ensures
