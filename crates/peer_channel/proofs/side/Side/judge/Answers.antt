use Rattle.std.proofs.Common.{None, sym, ◌∙◌, ap, subst}
use Rattle.delta_channel.specs.Hearing.{verdict_of}
use Rattle.channel_refinement.specs.Alike.{told_as}
use Rattle.peer_channel.specs.CoreSides.{SaysWord}
use Rattle.peer_channel.proofs.HeardAlike.{verdict_word}
use Rattle.peer_channel.proofs.side.Side.judge.Goals as goal

pub returns-clause-word : goal.returns-clause-word
returns-clause-word g c =
    let old = c.self.inside.ends in
    let x = c.args.packet.now in
    let from = c.requires.known ∙ ap (λ d. d.incoming.place.inc) (sym c.self.view_is) in
    let is = c.verdict.ensures ∙ ap (verdict_of old.incoming.own old.incoming.place) c.requires.stamp in
    let word = verdict_word g.A.Ledger.nothing g.A.Ledger.patched g.A.Ledger.has_form g.A.Carried.stated g.B.Carried.stated old (λ l. None) x from
    c.verdict.result c.requires.kind is (sym c.own-own.ensures.incoming ∙ c.own-own.ensures.outgoing) c.words_are_one.ensures.full c.words_are_one.ensures.delta in
    subst (λ d. SaysWord g.A.Ledger.nothing g.A.Ledger.patched g.A.Ledger.has_form g.A.Carried.stated g.B.Carried.stated x d (told_as c.verdict.result)) c.self.view_is word
