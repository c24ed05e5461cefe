use Rattle.std.proofs.Common.{◌≡◌, None, Some, get_or, refl, ◌∙◌, ap}
use Rattle.std.proofs.lemmas.Result.{on_ok_weaker}
use Rattle.delta_channel.specs.declared.receiver.Place.{Place}
use Rattle.work_plan.specs.AgentWithApps.{agent_id, agent_link, agent_party, app_id}
use Rattle.work_plan.proofs.HistoriesGrow.{at_there, on_ok_both}
use Rattle.work_plan.proofs.PacketsStandBehind.{end_sends, peer_is}
use Rattle.work_plan.proofs.turns.send_to_app.Goals as goal

pub returns-clause-sends : goal.returns-clause-sends
returns-clause-sends c =
    let app = c.args.app.0 in
    let g = c.ensure_peer.new.agent in
    let was : get_or g.peers.items app None ≡ Some c.in-Some.peer = at_there g.peers.items app c.index.result.now c.in_ok-ensure_peer.ensures.there c.index.ensures ∙ c.in-Some.is in
    on_ok_weaker c.turn.result (λ t w old.
    let h = c.in_ok-ensure_peer.ensures.same w old in
    let p = peer_is g w app c.in-Some.peer was h in
    end_sends _ _ (λ n. (refl, refl)) c.args.packets.now.items c.turn.new.parcels.items (agent_party w) (app_id app) (agent_link w app) w.net.histories
    (t.0 (agent_party w) (app_id app) (agent_link w app) w.net.histories p.has.ends (λ i. record { id = agent_id; inc = h.boot i }) (λ i. record { id = app_id app; inc = (c.peer.ensures ∙ ap (λ (y : Place). y.inc) p.has.ends.place) i })) t.1)
    (on_ok_both _ _ c.turn.result c.turn.ensures.turns c.turn.ensures.between)
