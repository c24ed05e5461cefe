use Rattle.std.proofs.Common.{rules, ◌≡◌, ◌<◌, true, false, Ok, refl, ◌+◌, sym, ◌∙◌, ap, subst, arith}
use Rattle.std.specs.Prelude.{◌&&◌, nat_lt, IfOk}
use Rattle.std.proofs.lemmas.Bool.Decides.{nat_tests}
use Rattle.spec_net.specs.Net.{same_id}
use Rattle.spec_net.specs.Channels.{agent_id, is_master}
use Rattle.peer_channel.specs.Parcels.{packet_of}
use Rattle.agent_core.specs.AgentCores.{AgentCore}
use Rattle.agent_core.proofs.Answered.{known_heard, new_answers}
use Rattle.agent_core.proofs.agent.Core.hear.Goals as goal

pub returns-then-packet-peer-clause-hears : goal.returns-then-packet-peer-clause-hears
returns-then-packet-peer-clause-hears c =
    let a = c.args.self.now in
    let old : AgentCore = record { machine = a.machine.0; has = a.limit.has.q; up = a.up; steps = a.steps } in
    let new : AgentCore = record { machine = a.machine.0; has = a.limit.has.q; up = c.hear.new.self; steps = a.steps + 1 } in
    let x = c.args.packet.now in
    let mine : (same_id (packet_of x).to.id (agent_id old.machine) && is_master (packet_of x).from.id) ≡ true = search rules in
    let late : nat_lt a.up.incoming.place.inc x.from.inc ≡ false = let t = c.if-packet-peer.true in let p = c.peer.ensures in grind (arith, nat_tests, t, p) in
    known_heard old x mine new c.hear.result refl refl c.hear.ensures.hears (subst (λ b. IfOk c.hear.result (λ heard. heard.fresh ≡ b)) late c.hear.ensures.fresh)

pub returns-clause-hears : goal.returns-clause-hears
returns-clause-hears c r s =
    let a = c.args.self.now in
    let old : AgentCore = record { machine = a.machine.0; has = a.limit.has.q; up = a.up; steps = a.steps } in
    let new : AgentCore = record { machine = a.machine.0; has = a.limit.has.q; up = c.post.new.self; steps = a.steps + 1 } in
    let mine : (same_id (packet_of c.args.packet.now).to.id (agent_id old.machine) && is_master (packet_of c.args.packet.now).from.id) ≡ true = search rules in
    let x = c.args.packet.now in
    let later : a.up.incoming.place.inc < x.from.inc = let f = c.if-packet-peer.false in let p = c.peer.ensures in omega (arith, f, p) in
    let new_one : nat_lt a.up.incoming.place.inc x.from.inc ≡ true = grind (arith, nat_tests, later) in
    let made : Ok c.make.result ≡ Ok c.post.new.self.outgoing.present = c.in_ok-post.ensures.made in
    let same : c.make.result ≡ c.post.new.self.outgoing.present = cc in
    let epoch : c.hear-2.new.self.outgoing.present.epoch ≡ a.up.incoming.place.inc = ap (λ s. s.present.epoch) c.in_ok-heard.ensures.outgoing ∙ c.requires.whole.core.joined in
    let table = c.in_ok-table.ensures ∙ c.table.ensures.table r (record { machine = s.machine; has = s.has; up = s.up }) in
    new_answers old x mine r s c.hear-2.new.self new c.in_ok-heard.heard c.in_ok-table.table refl refl c.in_ok-heard.ensures.hears (c.in_ok-heard.ensures.fresh ∙ new_one) c.in_ok-post.ensures.posts
    (sym same ∙ c.make.ensures) (omega (arith, epoch, later)) table
