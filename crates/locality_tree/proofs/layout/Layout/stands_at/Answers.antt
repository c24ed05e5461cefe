use Rattle.std.proofs.Common.{◌≡◌, ◌<◌, ℕ, length, get_or, ap, sym, subst, ◌∙◌, arith}
use Rattle.locality_tree.specs.declared.place_set.PlaceSet.{PlaceSet}
use Rattle.locality_tree.specs.PlaceSets.{in_set}
use Rattle.locality_tree.specs.Layouts.{number_of}
use Rattle.locality_tree.proofs.NumbersLemmas.{fits_number}
use Rattle.locality_tree.proofs.UnitsLemmas.{unit_listed, set_at}
use Rattle.locality_tree.proofs.layout.Layout.stands_at.Goals as goal

pub index-unit-requires : goal.index-unit-requires
index-unit-requires c =
    let l = c.args.self.now in
    let listed : c.number_of.result < length l.slots.items = subst (λ (n : ℕ). n < length l.slots.items) (sym c.number_of.ensures) (unit_listed l.slots.items (number_of c.args.entry.now) c.args.place (fits_number l c.args.entry.now c.args.place c.requires.fits)) in
    let long = l.slots.ok in
    omega (arith, listed, long)

pub contains-requires : goal.contains-requires
contains-requires c = let few = c.requires.kept.few in let queued = c.requires.fits.queued in omega (arith, few, queued)

pub returns : goal.returns
returns c =
    let l = c.args.self.now in
    let n : ℕ = number_of c.args.entry.now in
    let inside : n < length l.slots.items = unit_listed l.slots.items n c.args.place (fits_number l c.args.entry.now c.args.place c.requires.fits) in
    let read : c.index-unit.result.now ≡ get_or l.slots.items n c.index-unit.result.now = c.index-unit.ensures ∙ ap (λ (k : ℕ). get_or l.slots.items k c.index-unit.result.now) c.number_of.ensures in
    c.contains.ensures ∙ ap (λ (s : PlaceSet). in_set s c.args.place) (sym (set_at l.slots.items n c.index-unit.result.now inside read)) ∙ c.requires.kept.marked n c.args.place c.requires.fits.queued
