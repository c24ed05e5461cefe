use Rattle.std.proofs.Common.{rules, ◌≡◌, false, sym, ◌∙◌, ap, subst}
use Rattle.delta_channel.specs.Hearing.{verdict_of}
use Rattle.delta_channel.specs.declared.receiver.Verdict.TheVariants.{Take}
use Rattle.party_ledgers.specs.declared.header.Header.{Header}
use Rattle.party_ledgers.specs.Packets.{is_bare}
use Rattle.party_ledgers.specs.declared.packets.Heard.{Heard}
use Rattle.spec_net.specs.Net.{is_taken}
use Rattle.peer_channel.specs.CoreSides.{HearsAlike}
use Rattle.peer_channel.proofs.HeardAlike.{left_alike, not_taken_word, verdict_word}
use Rattle.peer_channel.proofs.side.Side.leaves.Goals as goal

pub returns-in_default-clause-hears : goal.returns-in_default-clause-hears
returns-in_default-clause-hears g c = λ x formed is excess.
    let old = c.self.inside.ends in
    let now = c.args.self.now in
    let v = c.verdict.result in
    let inc : x.from.inc ≡ c.args.header.now.from.inc = ap (λ (h : Header). h.from.inc) is in
    let known : c.args.header.now.from.inc ≡ c.peer-known.result = search rules in
    let from : x.from.inc ≡ old.incoming.place.inc = inc ∙ known ∙ c.peer-known.ensures in
    let bare : is_bare x.kind ≡ false = ap (λ (h : Header). is_bare h.kind) is ∙ sym c.is_bare.ensures ∙ c.if-is_bare.false in
    let other : v ≡ Take → ⊥ = search rules in
    let words = verdict_word g.A.Ledger.nothing g.A.Ledger.patched g.A.Ledger.has_form g.A.Carried.stated g.B.Carried.stated old excess x from v bare
    (c.verdict.ensures ∙ ap (verdict_of old.incoming.own old.incoming.place) (c.stamp_on.ensures.packet x is)) (sym c.own-own.ensures.incoming ∙ c.own-own.ensures.outgoing) c.words_are_one.ensures.full c.words_are_one.ensures.delta in
    subst (λ d. HearsAlike g.A.Ledger.nothing g.A.Ledger.patched g.A.Ledger.has_form g.A.Carried.stated g.B.Carried.stated excess x d d c.left.result) c.self.view_is
    (subst (HearsAlike g.A.Ledger.nothing g.A.Ledger.patched g.A.Ledger.has_form g.A.Carried.stated g.B.Carried.stated excess x old old) (sym c.left.ensures)
    (left_alike g.A.Ledger.nothing g.A.Ledger.patched g.A.Ledger.has_form g.A.Carried.stated g.B.Carried.stated old excess x from v other words))

pub returns-in_default-clause-left : goal.returns-in_default-clause-left
returns-in_default-clause-left g c =
    let other : c.verdict.result ≡ Take → ⊥ = search rules in
    ap (λ (h : Heard). is_taken h.what) c.left.ensures ∙ not_taken_word c.verdict.result other
