use Rattle.std.proofs.Common.{◌≡◌, ◌<◌, ◌++◌, map, sym, ◌∙◌, ap, subst}
use Rattle.peer_channel.specs.Sending.{AppendsTurn, TurnsAlike, packet_for}
use Rattle.peer_channel.proofs.TurnsAlikeLemmas.{turn_alike, turn_formed}
use Rattle.peer_channel.proofs.side.Side.turn.Goals as goal

pub append_turn-requires : goal.append_turn-requires
append_turn-requires g c = c.peer.ensures ∙ ap (λ s. s.incoming.place.inc) c.self.view_is

pub returns-clause-turns : goal.returns-clause-turns
returns-clause-turns g c =
    let ends = c.self.inside.ends in
    let before = c.args.packets.now in
    let after = c.append_turn.new.packets in
    let sent = subst (λ d. AppendsTurn g.A.Ledger.nothing g.A.Ledger.patched g.A.Carried.whole g.A.Carried.changed (record { role = c.sender.result; number = c.args.own; inc = c.own.result }) (record { role = c.receiver.result; number = c.args.peer; inc = c.peer.result }) d before after) (sym c.self.view_is) c.in_ok-append_turn.ensures in
    let is : after ≡ before ++ map (packet_for g.A.Carried.whole g.A.Carried.changed (record { role = g.A.Carried.from_role; number = c.args.own; inc = ends.outgoing.own }) (record { role = g.A.Carried.to_role; number = c.args.peer; inc = ends.incoming.place.inc })) sent.notes =
    sent.is ∙ (λ i. before ++ map (packet_for g.A.Carried.whole g.A.Carried.changed (record { role = c.sender.ensures i; number = c.args.own; inc = c.own.ensures.outgoing i }) (record { role = c.receiver.ensures i; number = c.args.peer; inc = c.peer.ensures i })) sent.notes) in
    subst (λ d. TurnsAlike g.A.Ledger.nothing g.A.Ledger.patched g.A.Ledger.has_form g.A.Carried.stated g.B.Carried.stated d g.A.Carried.from_role c.args.own g.A.Carried.to_role c.args.peer before after) c.self.view_is
    (turn_alike g.A.Ledger.nothing g.A.Ledger.patched g.A.Ledger.has_form g.A.Ledger.has_delta_form g.A.Carried.stated g.A.Carried.whole g.A.Carried.changed g.A.Carried.from_role g.A.Carried.to_role c.args.own c.args.peer ends
    c.self.invariant.0 c.self.invariant.1 c.acked-acked.ensures.posted c.requires.own sent.notes sent.marks sent.sends before after is
    g.B.Carried.stated g.met.A.Carried.whole_is g.met.A.Carried.change_is sent.brings)

pub returns-clause-formed : goal.returns-clause-formed
returns-clause-formed g c all =
    let ends = c.self.inside.ends in
    let before = c.args.packets.now in
    let after = c.append_turn.new.packets in
    let sent = subst (λ d. AppendsTurn g.A.Ledger.nothing g.A.Ledger.patched g.A.Carried.whole g.A.Carried.changed (record { role = c.sender.result; number = c.args.own; inc = c.own.result }) (record { role = c.receiver.result; number = c.args.peer; inc = c.peer.result }) d before after) (sym c.self.view_is) c.in_ok-append_turn.ensures in
    let is : after ≡ before ++ map (packet_for g.A.Carried.whole g.A.Carried.changed (record { role = g.A.Carried.from_role; number = c.args.own; inc = ends.outgoing.own }) (record { role = g.A.Carried.to_role; number = c.args.peer; inc = ends.incoming.place.inc })) sent.notes =
    sent.is ∙ (λ i. before ++ map (packet_for g.A.Carried.whole g.A.Carried.changed (record { role = c.sender.ensures i; number = c.args.own; inc = c.own.ensures.outgoing i }) (record { role = c.receiver.ensures i; number = c.args.peer; inc = c.peer.ensures i })) sent.notes) in
    turn_formed g.A.Ledger.nothing g.A.Ledger.patched g.A.Ledger.has_form g.A.Ledger.has_delta_form g.A.Carried.stated g.A.Carried.whole g.A.Carried.changed g.A.Carried.from_role g.A.Carried.to_role c.args.own c.args.peer ends
    c.self.invariant.0 c.self.invariant.1 c.acked-acked.ensures.posted c.requires.own sent.notes sent.marks sent.sends before after is
    g.met.A.Carried.whole_formed g.met.A.Carried.change_formed c.requires.peer (subst (λ d. 0 < d.outgoing.own) (sym c.self.view_is) c.requires.started) all
