use Rattle.std.proofs.Common.{List, length, sym, ap, subst, arith}
use Rattle.preempt.specs.declared.entry.Entry.{Entry}
use Rattle.preempt.specs.Given.{AreSpared}
use Rattle.preempt.proofs.CountedAsWritten.{at_index}
use Rattle.preempt.proofs.ShelvesLemmas.{resources_few}
use Rattle.preempt.proofs.UsedByHolders.{used_by_holders}
use Rattle.preempt.proofs.room.room_among.Goals as goal

pub spared_on-requires-clause-few : goal.spared_on-requires-clause-few
spared_on-requires-clause-few c = c.requires.entries.few

pub spared_on-requires-clause-small : goal.spared_on-requires-clause-small
spared_on-requires-clause-small c = λ k d lt. (at_index _ c.args.entries.now k d lt c.requires.entries.each).small

pub spared_on-requires-clause-resources : goal.spared_on-requires-clause-resources
spared_on-requires-clause-resources c = let same = c.requires.resources in let few = resources_few c.args.table.now.cluster c.is_sound.ensures.valid in omega (arith, same, few)

pub spared_on-requires-clause-long : goal.spared_on-requires-clause-long
spared_on-requires-clause-long c = c.requires.stock.groups.long

pub spared_on-requires-clause-used : goal.spared_on-requires-clause-used
spared_on-requires-clause-used c = used_by_holders c.args.table.now c.args.stock.now.groups.now c.requires.stock.groups c.args.entries.now c.requires.entries.each c.requires.entries.some

pub room_on-requires-clause-resources : goal.room_on-requires-clause-resources
room_on-requires-clause-resources c = let same = c.requires.resources in let few = resources_few c.args.table.now.cluster c.is_sound.ensures.valid in omega (arith, same, few)

pub room_on-requires-clause-few : goal.room_on-requires-clause-few
room_on-requires-clause-few c = c.machine_grants_of-shelf.ensures.shelf.few

pub room_on-requires-clause-few_spared : goal.room_on-requires-clause-few_spared
room_on-requires-clause-few_spared c =
    let a = ap (λ (xs : List Entry). length xs) c.deref.ensures.value in
    let b = c.in_ok-spared.ensures.few in
    let d = c.requires.entries.few in
    omega (arith, a, b, d)

pub room_on-requires-clause-long : goal.room_on-requires-clause-long
room_on-requires-clause-long c = c.requires.stock.groups.long

pub returns : goal.returns
returns c =
    let t = c.args.table.now in
    let m = c.args.machine.0 in
    let spared = c.in_ok-spared.ensures.spared t m c.requires.entries.each c.requires.stock.groups c.requires.resources in
    let here = subst (λ es. AreSpared t m es c.deref.result.now) (sym c.machine_grants_of-shelf.ensures.same) (subst (AreSpared t m c.args.entries.now) (sym c.deref.ensures.value) spared) in
    c.room_on.ensures t m c.requires.stock.groups c.machine_grants_of-shelf.ensures.shelf here c.requires.resources
