use Rattle.std.proofs.Common.{◌-◌, ◌<◌, subst, arith, inl, inr}
use Rattle.std.proofs.lemmas.Bool.{cases_lt}
use Rattle.fuxi_terms.specs.Keys.{Pair}
use Rattle.place_pass.specs.Candidates.{turn_in}
use Rattle.place_pass.proofs.CandidatesLemmas.{same_place}
use Rattle.place_pass.proofs.FirstByTurn.{rises_at}
use Rattle.place_pass.proofs.search.order.place_from.Goals as goal

pub returns-then-turn_of_unit-turn : goal.returns-then-turn_of_unit-turn
returns-then-turn_of_unit-turn c k p lt e =
    let line = c.args.input.now.line.now.pairs in
    let f = turn_in c.args.input.now.turn_of.now in
    let place = c.loop-place.place in
    let q : Pair = (c.at.result.0.0, c.at.result.1.0) in
    let t = c.turn_of_unit.ensures in
    let less = c.if-turn_of_unit-turn.true in
    elim (cases_lt k (place - 1)) [
      | inl l ↦ let r = rises_at f line k (place - 1) p q c.requires.ready.rises e c.at.ensures l in omega (arith, r, t, less)
      | inr ge ↦ let some = c.loop-place-test.true in subst (λ z. f z < c.args.turn) (same_place line k (place - 1) p q (omega (arith, lt, ge, some)) e c.at.ensures) (omega (arith, t, less))
    ]
