use Rattle.std.proofs.Common.{◌<◌, length, take, sym, ◌∙◌, subst, arith, ◌≢◌, get_or-set_other, get_or-set_same, below_more, length-set}
use Rattle.std.proofs.lemmas.List.{get_or_default}
use Rattle.schedule_text.proofs.Walks.{numbers_step, numbers_fault, front_set}
use Rattle.schedule_text.proofs.number.numbers_at.Goals as goal

pub returns-in-Err-clause-fault : goal.returns-in-Err-clause-fault
returns-in-Err-clause-fault g c =
    let here : c.loop-index.index < length c.args.words.now = omega (arith, c.requires.there, c.loop-index-test.true) in
    let at = c.index-places-index.is ∙ get_or_default c.args.places.now c.loop-index.index _ g.P.NumberPlace.other c.loop-index-test.true in
    numbers_fault g.P.NumberPlace.within c.args.places.now c.args.words.now c.args.first c.loop-index.before c.loop-index.index _ g.P.NumberPlace.other c.index-places-index.result _ c.in-Err.fault _ c.loop-index-test.true here at
    (sym c.number_at.ensures.value ∙ c.in-Err.is) c.loop-index.invariant.along

pub loop-index-preserved : goal.loop-index-preserved
loop-index-preserved g c =
    let here : c.loop-index.index < length c.args.words.now = omega (arith, c.requires.there, c.loop-index-test.true) in
    let room : c.loop-index.index < length c.loop-index.numbers = omega (arith, c.requires.few, c.loop-index-test.true, c.loop-index.invariant.room) in
    let at = c.index-places-index.is ∙ get_or_default c.args.places.now c.loop-index.index _ g.P.NumberPlace.other c.loop-index-test.true in
    let is = sym c.number_at.ensures.value ∙ c.in-Ok.is in
    record {
      room = length-set c.loop-index.numbers c.loop-index.index c.in-Ok.number ∙ c.loop-index.invariant.room;
      along = rw (front_set c.loop-index.numbers c.loop-index.index c.in-Ok.number room)
          (numbers_step g.P.NumberPlace.within c.args.places.now c.args.words.now c.args.first c.loop-index.before c.loop-index.index _ g.P.NumberPlace.other c.index-places-index.result (take c.loop-index.index c.loop-index.numbers) c.in-Ok.number _ c.loop-index-test.true here at is c.loop-index.invariant.along);
      narrow = below_more _ _ (λ i h. let ne : i ≢ c.loop-index.index = omega (arith, h) in rw get_or-set_other (c.loop-index.invariant.narrow i h))
          (rw get_or-set_same (subst (λ p. g.P.NumberPlace.narrow p c.in-Ok.number) at c.in-Ok.ensures.narrow));
    }
