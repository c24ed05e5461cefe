use Rattle.std.proofs.Common.{◌≡◌, ◌∷◌, ◌++◌, ◌+◌, ◌<◌, ℕ, [], length, replicate, List, Option, set, sym, ap, ◌∙◌, arith, add-one}
use Rattle.std.specs.Option.{option_to_list}
use Rattle.std.specs.Global.{Vec}
use Rattle.std.proofs.lemmas.List.{length-set, length_push}
use Rattle.locality_tree.specs.Layouts.{Places, numbers_of, with_places}
use Rattle.locality_tree.proofs.VacantLemmas.{last_row}
use Rattle.locality_tree.proofs.UnitsLemmas.{numbers_set, sets_set, same_sets}
use Rattle.locality_tree.proofs.layout.put_numbers.Goals as goal

pub loop-index-preserved : goal.loop-index-preserved
loop-index-preserved c =
    let rest = c.pop.new.self.items in
    let e : c.loop-index.left.items ≡ rest ++ c.in-Some.numbers ∷ [] = c.pop.ensures.items ∙ ap (λ (o : Option (Vec ℕ)). rest ++ option_to_list o) c.in-Some.is in
    let longer : length c.loop-index.left.items ≡ length rest + 1 = ap length e ∙ length_push rest c.in-Some.numbers in
    let at : ℕ = c.args.first + c.loop-index.index in
    let units = c.loop-index.slots.items in
    let count = c.loop-index.invariant.count in
    let long = c.loop-index.invariant.long in
    let room = c.requires.inside in
    let inside : at < length units = omega (arith, longer, count, long, room) in
    record {
      count = omega (arith, count, longer);
      long = length-set units at _ ∙ long;
      put = λ k h.
          let i = c.loop-index.invariant.put k h in
          let l = last_row c.loop-index.left.items rest c.in-Some.numbers (replicate k 0) e i.0 in (
            l.0,
            numbers_set units at _ inside
                ∙ ap (λ (s : Places ℕ). set s at c.in-Some.numbers.items) i.1
                ∙ ap (λ (r : List ℕ). set (with_places 0 (numbers_of c.args.slots.now.items) c.args.first k c.loop-index.index) at r) l.1
                ∙ ap (with_places 0 (numbers_of c.args.slots.now.items) c.args.first k) (sym (add-one c.loop-index.index)),
          );
      sets = sets_set units at _ inside ∙ same_sets units at c.index_mut-unit.result.now inside c.index_mut-unit.ensures.value ∙ c.loop-index.invariant.sets;
    }
