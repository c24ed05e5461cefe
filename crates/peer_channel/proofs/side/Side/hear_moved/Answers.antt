use Rattle.std.proofs.Common.{rules, ◌≡◌, false, sym, ap, subst, nat_lt}
use Rattle.delta_channel.specs.declared.receiver.Verdict.TheVariants.{Take}
use Rattle.party_ledgers.specs.declared.packets.Kind.TheVariants.{Full}
use Rattle.channel_refinement.specs.Alike.{told_as}
use Rattle.peer_channel.specs.CoreSides.{HearsAlike, SaysWord}
use Rattle.peer_channel.specs.Testing.{Takes}
use Rattle.peer_channel.proofs.HeardAlike.{left_alike, met_alike, met_known, whole_alike}
use Rattle.peer_channel.proofs.side.Side.hear_moved.Goals as goal

pub returns-then-ne-2-clause-hears : goal.returns-then-ne-2-clause-hears
returns-then-ne-2-clause-hears g c =
    let old = c.args.self.now in
    let mid = c.meet-fresh.new.self in
    let excess = g.L.Limit.excess c.args.limit.now in
    let late : nat_lt c.args.packet.from.inc old.incoming.place.inc ≡ false = search rules in
    let known = met_known g.B.Ledger.nothing c.args.packet.from.inc old.incoming mid.incoming c.meet-fresh.result c.meet-fresh.ensures.meets late in
    let other : c.judge-verdict.result ≡ Take → ⊥ = search rules in
    subst (HearsAlike g.A.Ledger.nothing g.A.Ledger.patched g.A.Ledger.has_form g.A.Carried.stated g.B.Carried.stated excess c.args.packet old mid) (sym c.left.ensures)
    (met_alike g.A.Ledger.nothing g.A.Ledger.patched g.A.Ledger.has_form g.A.Carried.stated g.B.Carried.stated old excess c.args.packet mid mid g.B.Ledger.nothing c.meet-fresh.result (told_as c.judge-verdict.result) c.meet-fresh.ensures.meets c.meet-fresh.ensures.rest g.met.B.Carried.empty_is
    (left_alike g.A.Ledger.nothing g.A.Ledger.patched g.A.Ledger.has_form g.A.Carried.stated g.B.Carried.stated mid excess c.args.packet known c.judge-verdict.result other c.judge-verdict.ensures.word))

pub returns-clause-hears : goal.returns-clause-hears
returns-clause-hears g c =
    let old = c.args.self.now in
    let mid = c.meet-fresh.new.self in
    let new = c.take_whole.new.self in
    let what = c.in_ok-what.what in
    let excess = g.L.Limit.excess c.args.limit.now in
    let late : nat_lt c.args.packet.from.inc old.incoming.place.inc ≡ false = search rules in
    let known = met_known g.B.Ledger.nothing c.args.packet.from.inc old.incoming mid.incoming c.meet-fresh.result c.meet-fresh.ensures.meets late in
    let taken : c.judge-verdict.result ≡ Take = search rules in
    let words = subst (λ v. SaysWord g.A.Ledger.nothing g.A.Ledger.patched g.A.Ledger.has_form g.A.Carried.stated g.B.Carried.stated c.args.packet mid (told_as v)) taken c.judge-verdict.ensures.word in
    let kind : c.args.packet.kind ≡ Full = search rules in
    let takes = subst (λ p. Takes (excess (g.B.Carried.stated c.whole_of-ledger.result)) p c.whole_of-ledger.result mid new what) (ap (λ s. s.place) c.stamp_of-stamp.ensures) c.in_ok-what.ensures.takes in
    subst (HearsAlike g.A.Ledger.nothing g.A.Ledger.patched g.A.Ledger.has_form g.A.Carried.stated g.B.Carried.stated excess c.args.packet old new) (sym c.make.ensures)
    (met_alike g.A.Ledger.nothing g.A.Ledger.patched g.A.Ledger.has_form g.A.Carried.stated g.B.Carried.stated old excess c.args.packet mid new g.B.Ledger.nothing c.meet-fresh.result what c.meet-fresh.ensures.meets c.meet-fresh.ensures.rest g.met.B.Carried.empty_is
    (whole_alike g.A.Ledger.nothing g.A.Ledger.patched g.A.Ledger.has_form g.A.Carried.stated g.B.Carried.stated mid excess c.args.packet known g.B.Carried.whole g.met.B.Carried.whole_makes c.requires.formed kind c.whole_of-ledger.result (c.whole_of-ledger.ensures) words new what takes))
