use Rattle.std.proofs.Common.{◌<◌, length, ap, ◌∙◌, arith, rules}
use Rattle.std.proofs.lemmas.List.{length_push}
use Rattle.place_pass.specs.Cells.{all_cells}
use Rattle.place_pass.proofs.SlotsLemmas.{all_more}
use Rattle.place_pass.proofs.demand.wishes.reach.Goals as goal

pub unreachable-requires : goal.unreachable-requires
unreachable-requires c =
    let there = c.loop-place.invariant.there in
    let room = c.loop-place.invariant.room in
    let test = c.loop-place-test.true in
    search (rules, there, room, test)

pub loop-place-preserved : goal.loop-place-preserved
loop-place-preserved c =
    let slots = c.loop-place.slots.items in
    let there = c.loop-place.invariant.there in
    let test = c.loop-place-test.true in
    let number = c.requires.number in
    let room : length slots < 256 = omega (arith, there, test, number) in
    let long = ap length c.in-Ok.ensures.items ∙ length_push slots c.new.result in
    record {
      same = ap all_cells c.in-Ok.ensures.items ∙ all_more slots c.new.result room c.new.ensures.items ∙ c.loop-place.invariant.same;
      there = omega (arith, long, there);
      room = omega (arith, c.loop-place.invariant.room, c.push.ensures.capacity);
    }
