use Rattle.std.proofs.Common.{filter, map, ap, sym, ◌∙◌, subst, Some}
use Rattle.std.specs.List.{list_any, AllByRecursion}
use Rattle.fuxi_terms.specs.Keys.{Spot}
use Rattle.grant_table.specs.GrantTables.{TableRecord}
use Rattle.preempt.specs.Given.{victim_of, AreGiven, IsEntry, IsKept}
use Rattle.preempt.specs.GrantNumbers.{has_grants}
use Rattle.preempt.specs.GroupSums.{AreSumsOf}
use Rattle.preempt.specs.Plans.{AreTakable, losers_of}
use Rattle.preempt.proofs.FoundPlans.{IsReady, not_enough, none_taken, some_found}
use Rattle.preempt.proofs.Takable.{takable, losers_are}
use Rattle.preempt.proofs.victims.victims_on.Goals as goal

pub returns-then-not-are_enough-clause-found : goal.returns-then-not-are_enough-clause-found
returns-then-not-are_enough-clause-found c = λ t s given sound.
    let set = c.take_all.new.scratch.set.items in
    let ready : IsReady t s c.args.entries.now set c.args.need.now c.args.groups.now c.in_ok-taken.taken.all c.in_ok-taken.taken.own = (record { few = c.requires.resources; sums_are = c.in_ok-taken.ensures.sums.all; own_are = c.in_ok-taken.ensures.sums.own }) in
    not_enough t s c.args.entries.now set c.args.need.now c.args.groups.now c.in_ok-taken.taken.all c.in_ok-taken.taken.own ready given sound.counts.sorted (c.in_ok-taken.ensures.is t s given) (sym c.are_enough.ensures ∙ c.if-not-are_enough.true)

pub returns-then-not-has_any-clause-found : goal.returns-then-not-has_any-clause-found
returns-then-not-has_any-clause-found c = λ t s given sound.
    let set = c.take_all.new.scratch.set.items in
    let ready : IsReady t s c.args.entries.now set c.args.need.now c.args.groups.now c.in_ok-taken.taken.all c.in_ok-taken.taken.own = (record { few = c.requires.resources; sums_are = c.in_ok-taken.ensures.sums.all; own_are = c.in_ok-taken.ensures.sums.own }) in
    none_taken t s c.args.entries.now set c.args.need.now c.args.groups.now c.in_ok-taken.taken.all c.in_ok-taken.taken.own ready given sound.counts.sorted (c.in_ok-taken.ensures.is t s given)
    (ap (λ x. list_any has_grants x) (sym c.deref.ensures.value) ∙ (sym c.has_any.ensures ∙ c.if-not-has_any.true))

-- what is kept of the set
kept_is : (c : goal.After-drop-kept-2) (t : TableRecord) (s : Spot) → AreGiven t s c.args.entries.now c.args.need.now c.args.groups.now → IsKept t s c.take_all.new.scratch.set.items c.in_ok-kept.kept.items
kept_is c t s given =
    let taken = c.in_ok-taken.ensures.is t s given in
    subst (λ x. IsKept t s x c.in_ok-kept.kept.items) c.deref-2.ensures.value (c.in_ok-kept.ensures t s given.need (subst (AllByRecursion (IsEntry t)) (sym c.deref-2.ensures.value) taken.each))

pub returns-clause-found : goal.returns-clause-found
returns-clause-found c = λ t s given sound.
    let set = c.take_all.new.scratch.set.items in
    let ready : IsReady t s c.args.entries.now set c.args.need.now c.args.groups.now c.in_ok-taken.taken.all c.in_ok-taken.taken.own = (record { few = c.requires.resources; sums_are = c.in_ok-taken.ensures.sums.all; own_are = c.in_ok-taken.ensures.sums.own }) in
    let taken = c.in_ok-taken.ensures.is t s given in
    let kept = c.in_ok-kept.kept.items in
    let some = c.in_ok-victims_of.ensures ∙ ap (λ x. map victim_of (filter has_grants x)) c.deref-3.ensures.value in
    some_found t s c.args.entries.now set c.args.need.now c.args.groups.now c.in_ok-taken.taken.all c.in_ok-taken.taken.own kept ready given sound.counts.sorted taken (sym c.are_enough.ensures ∙ c.if-not-are_enough.false)
    (ap (λ x. list_any has_grants x) (sym c.deref.ensures.value) ∙ (sym c.has_any.ensures ∙ c.if-not-has_any.false)) (kept_is c t s given)
    ∙ ap (λ x. Some x) (sym (losers_are s.machine (filter has_grants kept))) ∙ ap (λ x. Some (losers_of s.machine x)) (sym some)

pub returns-clause-takable : goal.returns-clause-takable
returns-clause-takable c = λ t s given sound.
    let kept = c.in_ok-kept.kept.items in
    let some = c.in_ok-victims_of.ensures ∙ ap (λ x. map victim_of (filter has_grants x)) c.deref-3.ensures.value in
    subst (AreTakable t s.machine) (sym some) (takable t s c.args.entries.now c.take_all.new.scratch.set.items kept c.args.need.now c.args.groups.now sound given (c.in_ok-taken.ensures.is t s given) (kept_is c t s given))

pub keep_needed-requires-clause-sums : goal.keep_needed-requires-clause-sums
keep_needed-requires-clause-sums c = subst (AreSumsOf c.args.need.now.group c.in_ok-taken.taken) (sym c.deref-2.ensures.value) c.in_ok-taken.ensures.sums
