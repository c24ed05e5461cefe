use Rattle.std.proofs.Common.{ℕ, true, List, set, sym, ap, subst, ◌∙◌}
use Rattle.locality_tree.specs.declared.place_set.PlaceSet.{PlaceSet}
use Rattle.locality_tree.specs.Layouts.{numbers_of, sets_of, IsNoted}
use Rattle.locality_tree.proofs.UnitsLemmas.{unit_listed, numbers_set, sets_set, numbers_at, set_noted}
use Rattle.locality_tree.proofs.layout.note_entry.Goals as goal

pub returns-clause-numbers : goal.returns-clause-numbers
returns-clause-numbers c =
    let units = c.args.slots.now.items in
    let n : ℕ = c.args.number in
    let inside = unit_listed units n c.args.place c.requires.inside in
    numbers_set units n _ inside ∙ ap (λ (row : List ℕ). set (numbers_of units) n (set row c.args.place c.args.slot)) (sym (numbers_at units n c.index_mut-unit.result.now inside c.index_mut-unit.ensures.value))

pub returns-clause-sets : goal.returns-clause-sets
returns-clause-sets c =
    let units = c.args.slots.now.items in
    let n : ℕ = c.args.number in
    let inside = unit_listed units n c.args.place c.requires.inside in
    subst (λ (ss : List PlaceSet). IsNoted (sets_of units) ss n c.args.place true) (sym (sets_set units n _ inside))
    (set_noted units n c.index_mut-unit.result.now inside c.index_mut-unit.ensures.value c.set.new.self c.args.place true c.set.ensures.here c.set.ensures.others)
