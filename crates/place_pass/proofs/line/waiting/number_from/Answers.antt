use Rattle.std.proofs.Common.{◌≡◌, ◌+◌, ◌-◌, ◌*◌, ◌<◌, true, false, Some, slice_get, [], length, get_or, set, refl, sym, ◌∙◌, ap, subst, arith, length-set, inl, inr}
use Rattle.std.proofs.lemmas.Bool.{cases_lt}
use Rattle.std.proofs.lemmas.List.{get_or-set_same}
use Rattle.fuxi_terms.proofs.Lists.{all_at}
use Rattle.fuxi_terms.specs.Keys.{Pair}
use Rattle.place_pass.specs.Bounds.{turn_at}
use Rattle.place_pass.proofs.CandidatesLemmas.{same_place, index_within}
use Rattle.place_pass.proofs.NumberedLemmas.{app_small, unit_small, two_places, other_slot}
use Rattle.place_pass.proofs.WaitingLinesLemmas.{pair_turned, pair_is}
use Rattle.place_pass.specs.WaitingLines.{same_pair}
use Rattle.place_pass.proofs.line.waiting.number_from.Goals as goal

pub slot-requires-clause-app : goal.slot-requires-clause-app
slot-requires-clause-app c = app_small c.args.wishes.now.cells c.args.line.now.pairs c.loop-place.place (c.at.result.0.0, c.at.result.1.0) c.requires.admitted c.at.ensures c.are_sound.ensures.places

pub slot-requires-clause-unit : goal.slot-requires-clause-unit
slot-requires-clause-unit c = unit_small c.args.wishes.now.cells c.args.line.now.pairs c.loop-place.place (c.at.result.0.0, c.at.result.1.0) c.requires.admitted c.at.ensures c.are_sound.ensures.few

pub index_mut-requires : goal.index_mut-requires
index_mut-requires c =
    let a = app_small c.args.wishes.now.cells c.args.line.now.pairs c.loop-place.place (c.at.result.0.0, c.at.result.1.0) c.requires.admitted c.at.ensures c.are_sound.ensures.places in
    let u = unit_small c.args.wishes.now.cells c.args.line.now.pairs c.loop-place.place (c.at.result.0.0, c.at.result.1.0) c.requires.admitted c.at.ensures c.are_sound.ensures.few in
    let s = c.slot.ensures in
    let n = c.loop-place.invariant.places in
    let v = c.loop-place.turn_of in
    omega (arith, a, u, s, n)

pub loop-place-preserved : goal.loop-place-preserved
loop-place-preserved c =
    let line = c.args.line.now.pairs in
    let place = c.loop-place.place in
    let items = c.loop-place.turn_of.items in
    let q : Pair = (c.at.result.0.0, c.at.result.1.0) in
    let la = app_small c.args.wishes.now.cells c.args.line.now.pairs c.loop-place.place (c.at.result.0.0, c.at.result.1.0) c.requires.admitted c.at.ensures c.are_sound.ensures.places in
    let lu = unit_small c.args.wishes.now.cells c.args.line.now.pairs c.loop-place.place (c.at.result.0.0, c.at.result.1.0) c.requires.admitted c.at.ensures c.are_sound.ensures.few in
    let n = c.loop-place.invariant.places in
    let y = c.args.turns + (place - c.args.from) in
    let from = c.loop-place.invariant.from in
    record {
      from = omega (arith, from);
      places = length-set items c.slot.result y ∙ n;
      numbered = λ k p ge lt e. subst (λ i. get_or (set items i y) (p.0 * 8 + p.1) 0 ≡ c.args.turns + (k - c.args.from)) (sym c.slot.ensures) (elim (cases_lt k place) [
        | inl l ↦
            let h = all_at (λ (p : Pair). p.1 < length (get_or c.args.wishes.now.cells p.0 [])) line k p c.requires.admitted e in
            let few = c.are_sound.ensures.few p.0 in
            other_slot items q.0 q.1 p.0 p.1 y lu (omega (arith, h, few)) (pair_turned q p ∙ two_places line k place p q c.distinct.ensures l e c.at.ensures) ∙ c.loop-place.invariant.numbered k p ge l e
        | inr le ↦
            let same : k ≡ place = omega (arith, lt, le) in
            let is : q ≡ p = same_place line k place p q same e c.at.ensures in
            subst (λ (z : Pair). get_or (set items (q.0 * 8 + q.1) y) (z.0 * 8 + z.1) 0 ≡ c.args.turns + (k - c.args.from)) is (get_or-set_same items (q.0 * 8 + q.1) y 0 (omega (arith, la, lu, n)) ∙ ap (λ z. c.args.turns + (z - c.args.from)) (sym same))
      ]);
      others = λ a u lv out. subst (λ i. get_or (set items i y) (a * 8 + u) 0 ≡ turn_at c.args.turn_of.now.items a u) (sym c.slot.ensures)
          (other_slot items q.0 q.1 a u y lu lv (elim (same_pair q (a, u)) as (λ t. same_pair q (a, u) ≡ t → t ≡ false) [
            | true ↦ λ t. absurd (out place from (omega arith) (subst (λ (z : Pair). slice_get line place ≡ Some z) (pair_is q (a, u) t) c.at.ensures))
            | false ↦ λ _. refl
          ] refl) ∙ c.loop-place.invariant.others a u lv (λ k ge lt e. out k ge (omega (arith, lt)) e));
    }

pub returns-clause-numbered : goal.returns-clause-numbered
returns-clause-numbered c k p ge e =
    let w = index_within c.args.line.now.pairs k p e in
    let n = c.len-place-end.ensures.number in
    let end = c.loop-place-test.false in
    c.loop-place.invariant.numbered k p ge (omega (arith, w, n, end)) e
