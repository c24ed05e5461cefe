use Rattle.std.proofs.Common.{◌≡◌, true, false, set, get_or, sym, ◌∙◌, subst, arith}
use Rattle.place_pass.specs.Scenes.{board_in}
use Rattle.place_pass.proofs.CandidatesLemmas.{bounded_noted, still_noted, now_noted}
use Rattle.place_pass.proofs.search.look.allowed_or_noted.Goals as goal

pub returns-clause-bounded : goal.returns-clause-bounded
returns-clause-bounded c e bound t m =
    let g = c.group-group.result.0 in
    let small = c.group-group.ensures.small in
    let groups = c.args.groups.now in
    let noted = now_noted groups g (omega (arith, small)) in
    bounded_noted (board_in c.args.input.now) c.args.input.now.table.now.entries bound (set groups g true) t (c.args.app.0, c.args.unit.0) m
    (subst (λ k. get_or (set groups g true) k false ≡ true) c.group-group.ensures.group noted) (sym c.allowed.ensures ∙ c.if-allowed.false)

pub returns-clause-kept : goal.returns-clause-kept
returns-clause-kept c k e = still_noted c.args.groups.now c.group-group.result.0 k e
