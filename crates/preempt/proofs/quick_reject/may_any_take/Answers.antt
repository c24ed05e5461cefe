use Rattle.std.proofs.Common.{[], ◌∷◌, map, get_or, take, sym, ◌∙◌, ap, subst}
use Rattle.std.specs.List.{AllByRecursion}
use Rattle.std.proofs.lemmas.List.{map-append}
use Rattle.std.proofs.lemmas.Option.{slice_get-get_or}
use Rattle.fuxi_terms.proofs.Lists.{all_push, take_last}
use Rattle.preempt.specs.Given.{pair_of}
use Rattle.preempt.specs.Shelves.{HasNoVictims, IsLoose, IsLow}
use Rattle.preempt.specs.Walks.{entries_by_priority}
use Rattle.preempt.proofs.Served.{no_entry}
use Rattle.preempt.proofs.UnitSteps.{all_ordered}
use Rattle.preempt.proofs.UsedByHolders.{used_by_holders}
use Rattle.preempt.proofs.quick_reject.may_any_take.Goals as goal

pub loose_of-loose-requires-clause-used : goal.loose_of-loose-requires-clause-used
loose_of-loose-requires-clause-used c = used_by_holders c.args.table.now c.args.groups.now c.requires.groups c.args.holders.now c.requires.each c.requires.some

pub loop-e-preserved : goal.loop-e-preserved
loop-e-preserved c =
    let t = c.args.table.now in
    let waiting = c.args.waiting.now in
    let holders = c.args.holders.now in
    let lowest = c.lowest_of-lowest.result in
    let loose = c.loose_of-loose.result in
    let k = c.loop-e.e-index in
    let e = get_or waiting k no_entry in
    let none = c.may_take_of.ensures c.if-may_take_of.false (entries_by_priority holders 10) c.requires.holders
    (all_ordered (IsLow lowest) holders c.lowest_of-lowest.ensures 10) (all_ordered (IsLoose c.args.groups.now loose) holders c.loose_of-loose.ensures 10) in
    subst (AllByRecursion (HasNoVictims t)) (sym (ap (map pair_of) (take_last waiting k e (slice_get-get_or waiting k no_entry c.loop-e-test.true)) ∙ map-append pair_of (take k waiting) (e ∷ [])))
    (all_push (HasNoVictims t) (map pair_of (take k waiting)) (pair_of e) c.loop-e.invariant none)
