use Rattle.std.proofs.Common.{◌≡◌, [], ◌∷◌, sym, ◌∙◌, ap, subst}
use Rattle.full_sync.specs.Turns.{MarkAck, turn_of}
use Rattle.peer_channel.specs.Sending.{AppendsTurn}
use Rattle.peer_channel.proofs.TurnMarks.{unknown_lacks, level_lacks, all_lacks, ack_appended, whole_appended, notes_appended}
use Rattle.peer_channel.proofs.side.Side.append_turn.Goals.{then-to-eq0-via-then-to-eq0, then-to-eq0-via-else-to-eq0+then-acked-last}
use Rattle.peer_channel.proofs.side.Side.append_turn.Goals as goal

pub returns-then-to-eq0 : goal.returns-then-to-eq0
returns-then-to-eq0 g c =
    let d = c.self.inside.ends in
    let inc : c.args.to.inc ≡ d.incoming.place.inc = c.requires ∙ ap (λ s. s.incoming.place.inc) (sym c.self.view_is) in
    let marks : turn_of d.outgoing.last d.acked d.incoming.place ≡ MarkAck d.incoming.place ∷ [] = elim c.then-to-eq0.branch [
      | then-to-eq0-via-then-to-eq0 w ↦ unknown_lacks d.outgoing.last d.acked d.incoming.place (sym inc ∙ w.if-to-eq0.true)
      | then-to-eq0-via-else-to-eq0+then-acked-last w ↦ level_lacks d.outgoing.last d.acked d.incoming.place (sym c.acked-acked.ensures.acked ∙ w.if-acked-last.true ∙ c.last-last.ensures)
    ] in
    subst (λ s. AppendsTurn g.A.Ledger.nothing g.A.Ledger.patched g.A.Carried.whole g.A.Carried.changed c.args.from c.args.to s c.args.packets.now c.push.new.self) c.self.view_is
    (ack_appended g.A.Ledger.nothing g.A.Ledger.patched g.A.Carried.whole g.A.Carried.changed c.args.from c.args.to d c.args.packets.now c.push.new.self c.place-place.result c.packet_for.result marks c.place-place.ensures c.packet_for.ensures c.in_ok-push.ensures.ok)

pub returns-then-acked-eq0 : goal.returns-then-acked-eq0
returns-then-acked-eq0 g c =
    let d = c.self.inside.ends in
    let inc : c.args.to.inc ≡ d.incoming.place.inc = c.requires ∙ ap (λ s. s.incoming.place.inc) (sym c.self.view_is) in
    let acked = c.acked-acked.ensures.acked in
    let marks = all_lacks d.outgoing.last d.acked d.incoming.place (λ e. c.if-to-eq0.false (inc ∙ e)) (λ e. c.if-acked-last.false (acked ∙ e ∙ sym c.last-last.ensures)) (sym acked ∙ c.if-acked-eq0.true) in
    subst (λ s. AppendsTurn g.A.Ledger.nothing g.A.Ledger.patched g.A.Carried.whole g.A.Carried.changed c.args.from c.args.to s c.args.packets.now c.push-then-acked-eq0-2.new.self) c.self.view_is
    (whole_appended g.A.Ledger.nothing g.A.Ledger.patched g.A.Carried.whole g.A.Carried.changed c.args.from c.args.to d c.args.packets.now c.push-then-acked-eq0-2.new.self c.last-last.result c.in_ok-copy.field-0 c.place-place.result c.packet_for-then-acked-eq0.result c.packet_for-then-acked-eq0-2.result c.push-then-acked-eq0.new.self marks
    c.last-last.ensures (c.in_ok-copy.ensures ∙ c.sent.ensures) c.place-place.ensures c.packet_for-then-acked-eq0.ensures c.in_ok-push-2.ensures.ok c.packet_for-then-acked-eq0-2.ensures c.in_ok-push-3.ensures.ok)

pub returns : goal.returns
returns g c =
    let d = c.self.inside.ends in
    subst (λ s. AppendsTurn g.A.Ledger.nothing g.A.Ledger.patched g.A.Carried.whole g.A.Carried.changed c.args.from c.args.to s c.args.packets.now c.append_packets.new.packets) c.self.view_is
    (notes_appended g.A.Ledger.nothing g.A.Ledger.patched g.A.Carried.whole g.A.Carried.changed c.args.from c.args.to d c.args.packets.now c.append_packets.new.packets c.in_ok-turn.field-0 c.into_vec-notes.result.items c.reserve.new.self
    c.in_ok-turn.ensures.marks c.in_ok-turn.ensures.sends c.in_ok-turn.ensures.brings c.reserve.ensures c.into_vec-notes.ensures c.in_ok-append_packets.ensures)
