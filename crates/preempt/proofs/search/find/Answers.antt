use Rattle.std.proofs.Common.{map, sym, ◌∙◌, ap, subst}
use Rattle.std.specs.List.{AllByRecursion}
use Rattle.preempt.specs.Given.{AreGroups, IsEntry, pair_of}
use Rattle.preempt.specs.Search.{IsFound}
use Rattle.preempt.specs.Shelves.{AreFree, AreHolders, AreRead, HasNoVictims}
use Rattle.preempt.specs.Walks.{entries_by_priority}
use Rattle.spec_roles.specs.Preemption.{falling_priorities}
use Rattle.preempt.proofs.Served.{down_to, line_without, same_plan}
use Rattle.preempt.proofs.search.find.Goals as goal

pub returns-then-not-may_any_take-clause-plan : goal.returns-then-not-may_any_take-clause-plan
returns-then-not-may_any_take-clause-plan g c = λ B is.
    let t = c.args.table.now in
    let usable = g.P.Asking.usable c.args.placer.now in
    let line = g.P.Asking.line c.args.placer.now in
    let pairs = ap (map pair_of) c.deref-3.ensures.value ∙ c.in_ok-line.ensures.pairs in
    let none = subst (AllByRecursion (HasNoVictims t)) pairs (c.may_any_take.ensures c.if-not-may_any_take.true) in
    sym (same_plan B t usable is line c.requires ∙ line_without t usable line none)

pub returns-clause-plan : goal.returns-clause-plan
returns-clause-plan g c = λ B is.
    let t = c.args.table.now in
    let usable = g.P.Asking.usable c.args.placer.now in
    let line = g.P.Asking.line c.args.placer.now in
    let pairs = ap (map pair_of) c.deref-10.ensures.value ∙ c.in_ok-line.ensures.pairs in
    let found = subst (λ ps. IsFound t usable (down_to t usable ps falling_priorities) c.in_ok-first_of_all.field-0) pairs c.in_ok-first_of_all.ensures in
    found.is ∙ sym (same_plan B t usable is line c.requires)

pub counts_of-requires : goal.counts_of-requires
counts_of-requires g c =
    let t = c.args.table.now in
    let holders : AreHolders t c.in_ok-holders.holders.items = subst (AreHolders t) (sym (c.in_ok-holders.ensures ∙ ap (λ us. entries_by_priority us 10) c.deref-4.ensures.value)) c.in_ok-units.ensures.holders in
    subst (AllByRecursion (IsEntry t)) (sym c.deref-5.ensures.value) holders.each

pub first_of_all-requires-clause-stock : goal.first_of_all-requires-clause-stock
first_of_all-requires-clause-stock g c =
    let t = c.args.table.now in
    let holders : AreHolders t c.in_ok-holders.holders.items = subst (AreHolders t) (sym (c.in_ok-holders.ensures ∙ ap (λ us. entries_by_priority us 10) c.deref-4.ensures.value)) c.in_ok-units.ensures.holders in
    record {
      groups = subst (AreGroups t) (sym c.deref-6.ensures.value) c.in_ok-groups.ensures;
      holders = subst (AreHolders t) (sym c.deref-7.ensures.value) holders;
      read = subst (AreRead t c.deref-7.result.now) (sym c.deref-8.ensures.value) (subst (λ us. AreRead t us c.in_ok-counts.counts.items) (c.deref-5.ensures.value ∙ sym c.deref-7.ensures.value) c.in_ok-counts.ensures);
      free = subst (AreFree t) (sym c.deref-9.ensures.value) c.in_ok-free.ensures.free;
    }
