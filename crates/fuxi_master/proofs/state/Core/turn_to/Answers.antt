use Rattle.std.proofs.Common.{◌≡◌, ◌++◌, true, [], map, sym, ◌∙◌, ap, subst, arith}
use Rattle.schedule_unit.specs.declared.party.Role.{Role}
use Rattle.spec_net.specs.Channels.{agent_id, app_id}
use Rattle.peer_channel.specs.Parcels.{id_of, parcel_is}
use Rattle.fuxi_master.specs.Seen.{core_of}
use Rattle.fuxi_master.specs.Steps.{is_peer}
use Rattle.fuxi_master.proofs.TurnPackets.{sent_to, agent_sent, app_sent}
use Rattle.fuxi_master.proofs.state.Core.turn_to.Goals as goal

pub agent-requires-clause-peer : goal.agent-requires-clause-peer
agent-requires-clause-peer c = subst (λ (role : Role). is_peer (core_of c.args.self.now) role c.args.peer.number ≡ true) c.in-Agent.is c.requires.peer

pub app-requires-clause-peer : goal.app-requires-clause-peer
app-requires-clause-peer c = subst (λ (role : Role). is_peer (core_of c.args.self.now) role c.args.peer.number ≡ true) c.in-App.is c.requires.peer

pub turn-requires-in-App-clause-started : goal.turn-requires-in-App-clause-started
turn-requires-in-App-clause-started c =
    let kept = c.requires.core.near.kept in
    let own = kept.apps_own c.args.peer.number c.app.result.now c.app.ensures.there in
    let epoch = kept.epoch in
    omega (arith, own, epoch)

pub returns-in_ok-turn-in-Agent-clause-sends : goal.returns-in_ok-turn-in-Agent-clause-sends
returns-in_ok-turn-in-Agent-clause-sends c =
    let n = c.args.peer.number in
    λ r h. agent_sent (core_of c.args.self.now) r h n [] c.new-packets.result c.turn.new.packets c.agent.result.now c.agent.ensures.there c.in_ok-turn-in-Agent.ensures.turns
    ∙ ap (λ ps. map parcel_is ps ++ sent_to r (agent_id n)) c.new-packets.ensures
    ∙ ap (λ (role : Role). sent_to r (id_of role n)) (sym c.in-Agent.is)

pub returns-in_ok-turn-in-App-clause-sends : goal.returns-in_ok-turn-in-App-clause-sends
returns-in_ok-turn-in-App-clause-sends c =
    let n = c.args.peer.number in
    λ r h. app_sent (core_of c.args.self.now) r h n [] c.new-packets.result c.turn-in-App.new.packets c.app.result.now c.app.ensures.there c.in_ok-turn-in-App.ensures.turns
    ∙ ap (λ ps. map parcel_is ps ++ sent_to r (app_id n)) c.new-packets.ensures
    ∙ ap (λ (role : Role). sent_to r (id_of role n)) (sym c.in-App.is)
