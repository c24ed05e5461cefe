use Rattle.std.proofs.Common.{ap, subst}
use Rattle.peer_channel.specs.CoreSides.{PostsAlike}
use Rattle.peer_channel.proofs.CoreSidesLemmas.{posts_alike}
use Rattle.peer_channel.proofs.side.Side.post.Goals as goal

pub returns-clause-posts : goal.returns-clause-posts
returns-clause-posts g c =
    let new = c.post.new.self in
    let valid = subst g.A.Ledger.has_form c.sent.ensures c.is_valid.ensures in
    let posts = posts_alike g.A.Ledger.nothing g.A.Ledger.patched g.A.Ledger.has_form g.A.Carried.stated g.B.Carried.stated c.self.inside.ends new c.args.change
    (ap (λ d. d.incoming) c.in-Ok.ensures.rest) (ap (λ d. d.acked) c.in-Ok.ensures.rest) c.in-Ok.ensures.posts.1 valid in
    subst (λ d. PostsAlike g.A.Ledger.nothing g.A.Ledger.patched g.A.Ledger.has_form g.A.Carried.stated g.B.Carried.stated d new) c.self.view_is posts
