use Rattle.std.proofs.Common.{◌≡◌, true, Option, None, Some, length, sym, ◌∙◌, ap, subst}
use Rattle.std.specs.Option.{unwrap_or, option_map}
use Rattle.schedule_unit.specs.declared.party.Role.{Role}
use Rattle.spec_roles.specs.MasterRoles.{MasterRole}
use Rattle.peer_channel.specs.Parcels.{id_of}
use Rattle.ledger_updates.specs.AllShown.{Down, App}
use Rattle.fuxi_master.specs.Readers.{last_in}
use Rattle.fuxi_master.specs.Seen.{core_of}
use Rattle.fuxi_master.specs.Steps.{is_peer}
use Rattle.fuxi_master.proofs.state.Core.last.Goals as goal

pub agent-requires-clause-peer : goal.agent-requires-clause-peer
agent-requires-clause-peer c = subst (λ (role : Role). is_peer (core_of c.args.self.now) role c.args.peer.number ≡ true) c.in-Agent.is c.requires.peer

pub app-requires-clause-peer : goal.app-requires-clause-peer
app-requires-clause-peer c = subst (λ (role : Role). is_peer (core_of c.args.self.now) role c.args.peer.number ≡ true) c.in-App.is c.requires.peer

pub returns-in-Agent-clause-last : goal.returns-in-Agent-clause-last
returns-in-Agent-clause-last c =
    ap (λ (role : Role). last_in (core_of c.args.self.now) role c.args.peer.number) c.in-Agent.is
    ∙ ap (option_map (λ (d : Down). d.outgoing.last)) c.agent.ensures.there
    ∙ ap (λ p. Some p) (sym c.last.ensures)

pub returns-in-Agent-clause-stands : goal.returns-in-Agent-clause-stands
returns-in-Agent-clause-stands c =
    let n = c.args.peer.number in
    λ (r : MasterRole) h. c.last.ensures ∙ (h.stands.agents n c.agent.result.now c.agent.ensures.there).last ∙ ap (λ (role : Role). length (r.sides (id_of role n)).sent) (sym c.in-Agent.is)

pub returns-in-App-clause-last : goal.returns-in-App-clause-last
returns-in-App-clause-last c =
    ap (λ (role : Role). last_in (core_of c.args.self.now) role c.args.peer.number) c.in-App.is
    ∙ ap (λ (o : Option (Option App)). option_map (λ (d : App). d.outgoing.last) (unwrap_or o None)) c.app.ensures.there
    ∙ ap (λ p. Some p) (sym c.last-in-App.ensures)

pub returns-in-App-clause-stands : goal.returns-in-App-clause-stands
returns-in-App-clause-stands c =
    let n = c.args.peer.number in
    λ (r : MasterRole) h. c.last-in-App.ensures ∙ (h.stands.apps n c.app.result.now c.app.ensures.there).last ∙ ap (λ (role : Role). length (r.sides (id_of role n)).sent) (sym c.in-App.is)
