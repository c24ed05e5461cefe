use Rattle.std.proofs.Common.{◌≡◌, true, false, sym, ◌∙◌}
use Rattle.place_pass.specs.Scenes.{board_in}
use Rattle.place_pass.proofs.CandidatesLemmas.{bounded_apart_from}
use Rattle.place_pass.proofs.search.look.may_place.Goals as goal

pub returns-then-not-takes-clause-bounded : goal.returns-then-not-takes-clause-bounded
returns-then-not-takes-clause-bounded c e bound t =
    bounded_apart_from (board_in c.args.input.now) c.args.input.now.table.now.entries bound c.args.groups.now t (c.args.app.0, c.args.unit.0) c.args.machine.0 (sym c.takes.ensures ∙ c.if-not-takes.true)

pub returns-clause-bounded : goal.returns-clause-bounded
returns-clause-bounded c e bound t = c.allowed_or_noted.ensures.bounded e bound t c.args.machine.0

pub returns-clause-passed : goal.returns-clause-passed
returns-clause-passed c out = let f : false ≡ true = sym out ∙ sym c.takes.ensures ∙ c.if-not-takes.false in cc
