use Rattle.std.proofs.Common.{ℕ, false, List, sym, subst, ◌∙◌}
use Rattle.locality_tree.specs.declared.place_set.PlaceSet.{PlaceSet}
use Rattle.locality_tree.specs.Layouts.{sets_of, IsNoted}
use Rattle.locality_tree.proofs.UnitsLemmas.{numbers_set, sets_set, same_numbers, set_noted}
use Rattle.locality_tree.proofs.layout.note_leaving.Goals as goal

pub returns-clause-numbers : goal.returns-clause-numbers
returns-clause-numbers c =
    let units = c.args.slots.now.items in
    let n : ℕ = c.args.number in
    numbers_set units n _ c.requires.number ∙ same_numbers units n c.index_mut-unit.result.now c.requires.number c.index_mut-unit.ensures.value

pub returns-clause-sets : goal.returns-clause-sets
returns-clause-sets c =
    let units = c.args.slots.now.items in
    let n : ℕ = c.args.number in
    subst (λ (ss : List PlaceSet). IsNoted (sets_of units) ss n c.args.place false) (sym (sets_set units n _ c.requires.number))
    (set_noted units n c.index_mut-unit.result.now c.requires.number c.index_mut-unit.ensures.value c.set.new.self c.args.place false c.set.ensures.here c.set.ensures.others)
