use Rattle.std.proofs.Common.{rules, ◌≡◌, false, sym, ◌∙◌, ap, subst, nat_lt}
use Rattle.delta_channel.specs.declared.receiver.Verdict.TheVariants.{Take}
use Rattle.fuxi_terms.specs.declared.answers.What.TheVariants.{Ack}
use Rattle.party_ledgers.specs.declared.packets.Kind.TheVariants.{Ack as AckHere}
use Rattle.channel_refinement.specs.Alike.{told_as}
use Rattle.peer_channel.specs.Parcels.{kind_of}
use Rattle.peer_channel.specs.CoreSides.{HearsAlike, SaysWord}
use Rattle.peer_channel.specs.Testing.{Takes}
use Rattle.peer_channel.proofs.HeardAlike.{ack_alike, left_alike, met_alike, met_known, whole_alike}
use Rattle.peer_channel.proofs.side.Side.hear.Goals as goal

pub returns-then-eq-clause-hears : goal.returns-then-eq-clause-hears
returns-then-eq-clause-hears g c =
    let old = c.args.self.now in
    let mid = c.meet-fresh.new.self in
    let excess = g.L.Limit.excess c.args.limit.now in
    let late : nat_lt c.args.packet.now.from.inc old.incoming.place.inc ≡ false = search rules in
    let known = met_known g.B.Ledger.nothing c.args.packet.now.from.inc old.incoming mid.incoming c.meet-fresh.result c.meet-fresh.ensures.meets late in
    let ends = c.self-2.inside.ends in
    let kind : c.args.packet.now.kind ≡ AckHere = search rules in
    let new = c.on_ack.new.self in
    subst (HearsAlike g.A.Ledger.nothing g.A.Ledger.patched g.A.Ledger.has_form g.A.Carried.stated g.B.Carried.stated excess c.args.packet.now old new) (sym c.ack.ensures)
    (met_alike g.A.Ledger.nothing g.A.Ledger.patched g.A.Ledger.has_form g.A.Carried.stated g.B.Carried.stated old excess c.args.packet.now mid new g.B.Ledger.nothing c.meet-fresh.result Ack c.meet-fresh.ensures.meets c.meet-fresh.ensures.rest g.met.B.Carried.empty_is
    (subst (λ d. HearsAlike g.A.Ledger.nothing g.A.Ledger.patched g.A.Ledger.has_form g.A.Carried.stated g.B.Carried.stated excess c.args.packet.now d new (record { fresh = false; what = Ack })) c.self-2.view_is
    (ack_alike g.A.Ledger.nothing g.A.Ledger.patched g.A.Ledger.has_form g.A.Carried.stated g.B.Carried.stated ends excess c.args.packet.now (known ∙ ap (λ d. d.incoming.place.inc) (sym c.self-2.view_is)) new (ap kind_of kind) c.on_ack.ensures c.links_are_one.ensures.acked)))

pub returns-then-ne-clause-hears : goal.returns-then-ne-clause-hears
returns-then-ne-clause-hears g c =
    let old = c.args.self.now in
    let mid = c.meet-fresh.new.self in
    let excess = g.L.Limit.excess c.args.limit.now in
    let late : nat_lt c.args.packet.now.from.inc old.incoming.place.inc ≡ false = search rules in
    let known = met_known g.B.Ledger.nothing c.args.packet.now.from.inc old.incoming mid.incoming c.meet-fresh.result c.meet-fresh.ensures.meets late in
    let other : c.judge-verdict.result ≡ Take → ⊥ = search rules in
    subst (HearsAlike g.A.Ledger.nothing g.A.Ledger.patched g.A.Ledger.has_form g.A.Carried.stated g.B.Carried.stated excess c.args.packet.now old mid) (sym c.left.ensures)
    (met_alike g.A.Ledger.nothing g.A.Ledger.patched g.A.Ledger.has_form g.A.Carried.stated g.B.Carried.stated old excess c.args.packet.now mid mid g.B.Ledger.nothing c.meet-fresh.result (told_as c.judge-verdict.result) c.meet-fresh.ensures.meets c.meet-fresh.ensures.rest g.met.B.Carried.empty_is
    (left_alike g.A.Ledger.nothing g.A.Ledger.patched g.A.Ledger.has_form g.A.Carried.stated g.B.Carried.stated mid excess c.args.packet.now known c.judge-verdict.result other c.judge-verdict.ensures.word))

pub returns-in_ok-what-in-Full-clause-hears : goal.returns-in_ok-what-in-Full-clause-hears
returns-in_ok-what-in-Full-clause-hears g c =
    let old = c.args.self.now in
    let mid = c.meet-fresh.new.self in
    let new = c.take_whole.new.self in
    let what = c.in_ok-what-in-Full.what in
    let excess = g.L.Limit.excess c.args.limit.now in
    let late : nat_lt c.args.packet.now.from.inc old.incoming.place.inc ≡ false = search rules in
    let known = met_known g.B.Ledger.nothing c.args.packet.now.from.inc old.incoming mid.incoming c.meet-fresh.result c.meet-fresh.ensures.meets late in
    let taken : c.judge-verdict.result ≡ Take = search rules in
    let words = subst (λ v. SaysWord g.A.Ledger.nothing g.A.Ledger.patched g.A.Ledger.has_form g.A.Carried.stated g.B.Carried.stated c.args.packet.now mid (told_as v)) taken c.judge-verdict.ensures.word in
    let takes = subst (λ p. Takes (excess (g.B.Carried.stated c.in_ok-ledger-in-Full.ledger)) p c.in_ok-ledger-in-Full.ledger mid new what) (ap (λ s. s.place) c.stamp_of-stamp.ensures) c.in_ok-what-in-Full.ensures.takes in
    subst (HearsAlike g.A.Ledger.nothing g.A.Ledger.patched g.A.Ledger.has_form g.A.Carried.stated g.B.Carried.stated excess c.args.packet.now old new) (sym c.make.ensures)
    (met_alike g.A.Ledger.nothing g.A.Ledger.patched g.A.Ledger.has_form g.A.Carried.stated g.B.Carried.stated old excess c.args.packet.now mid new g.B.Ledger.nothing c.meet-fresh.result what c.meet-fresh.ensures.meets c.meet-fresh.ensures.rest g.met.B.Carried.empty_is
    (whole_alike g.A.Ledger.nothing g.A.Ledger.patched g.A.Ledger.has_form g.A.Carried.stated g.B.Carried.stated mid excess c.args.packet.now known g.B.Carried.whole g.met.B.Carried.whole_makes c.requires.formed c.in-Full.is c.in_ok-ledger-in-Full.ledger (c.whole_in.ensures ∙ ap g.B.Carried.whole (sym c.in_ok-ledger-in-Full.ensures)) words new what takes))

pub returns-in_ok-what-in-Delta-clause-hears : goal.returns-in_ok-what-in-Delta-clause-hears
returns-in_ok-what-in-Delta-clause-hears g c =
    let old = c.args.self.now in
    let mid = c.meet-fresh.new.self in
    let excess = g.L.Limit.excess c.args.limit.now in
    let taken : c.judge-verdict.result ≡ Take = search rules in
    let words = subst (λ v. SaysWord g.A.Ledger.nothing g.A.Ledger.patched g.A.Ledger.has_form g.A.Carried.stated g.B.Carried.stated c.args.packet.now mid (told_as v)) taken c.judge-verdict.ensures.word in
    subst (HearsAlike g.A.Ledger.nothing g.A.Ledger.patched g.A.Ledger.has_form g.A.Carried.stated g.B.Carried.stated excess c.args.packet.now old c.take_change.new.self) (sym c.make-in-Delta.ensures)
    (met_alike g.A.Ledger.nothing g.A.Ledger.patched g.A.Ledger.has_form g.A.Carried.stated g.B.Carried.stated old excess c.args.packet.now mid c.take_change.new.self g.B.Ledger.nothing c.meet-fresh.result c.in_ok-what-in-Delta.what c.meet-fresh.ensures.meets c.meet-fresh.ensures.rest g.met.B.Carried.empty_is
    (c.in_ok-what-in-Delta.ensures.hears words))
