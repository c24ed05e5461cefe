use Rattle.std.proofs.Common.{◌<◌, List, length, sym, subst, arith}
use Rattle.locality_tree.specs.declared.layout.UnitSlots.{UnitSlots}
use Rattle.locality_tree.specs.Trees.{all_units}
use Rattle.locality_tree.specs.Layouts.{IsGrown}
use Rattle.locality_tree.proofs.UnitsLemmas.{grown_more}
use Rattle.locality_tree.proofs.layout.grow.Goals as goal

pub loop-alloc-preserved : goal.loop-alloc-preserved
loop-alloc-preserved c =
    let olds = c.args.slots.now.items in
    let units = c.loop-alloc.slots.items in
    let few = c.requires in
    let test = c.loop-alloc-test.true in
    let len = c.len.ensures in
    let long = c.loop-alloc.slots.ok in
    let room : length units < all_units = omega (arith, few, test, len, long) in
    subst (λ (us : List UnitSlots). IsGrown olds us) (sym c.in_ok-push.ensures.items) (grown_more olds units _ room c.new.ensures.items c.new-in-loop-alloc.ensures c.loop-alloc.invariant)
