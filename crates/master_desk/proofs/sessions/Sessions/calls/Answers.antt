use Rattle.std.proofs.Common.{◌≡◌, ℕ, List, [], length, get_or, ap, arith}
use Rattle.std.proofs.lemmas.List.{get_or_read}
use Rattle.master_desk.proofs.CallOrdersLemmas.{calls_few}
use Rattle.master_desk.proofs.sessions.Sessions.calls.Goals as goal

pub returns-clause-few : goal.returns-clause-few
returns-clause-few c =
    let few = calls_few c.self.inside.sessions.items c.args.session in
    let most = c.self.invariant.0.few in
    let wide = c.self.invariant.0.wide in
    let is = get_or_read c.self.inside.sessions.items c.args.session c.index.result.now (omega (arith, c.requires, wide)) c.index.ensures [] in
    let long : length c.index.result.now ≡ length (get_or c.self.inside.sessions.items c.args.session []) = ap (λ (xs : List (List ℕ)). length xs) is in
    let len = c.len.ensures in
    omega (arith, few, most, long, len)
