use Rattle.std.proofs.Common.{◌<◌, ◌^◌, sym, ◌∙◌, ap, subst}
use Rattle.fuxi_terms.specs.Keys.{key_cmp}
use Rattle.fuxi_terms.specs.Counts.{AreCounts, AreChanges}
use Rattle.fuxi_terms.specs.Tallies.{TallyRecord, ChangeRecord}
use Rattle.work_plan.specs.PlanKeys.{greatest_named}
use Rattle.fuxi_terms.specs.NumbersSet.{moves}
use Rattle.work_plan.specs.Ends.{names_set, patched_names}
use Rattle.work_plan.proofs.NamesLemmas.{names_are_set, no_moves, same_names, no_items, some_items}
use Rattle.work_plan.proofs.EndsLemmas.{sets_nothing, sets_names}
use Rattle.work_plan.proofs.naming.set_names.Goals as goal

pub returns-then-changes_nothing-clause-sets : goal.returns-then-changes_nothing-clause-sets
returns-then-changes_nothing-clause-sets c =
    let old = c.args.ends.now in
    let t = old.outgoing.present in
    let ns = c.args.numbers.now in
    let counts : AreCounts key_cmp greatest_named t.entries = subst (λ (t : TallyRecord). AreCounts key_cmp greatest_named t.entries) c.sent-2.ensures c.entries-names.ensures.counts in
    let change = c.in_ok-change.ensures ∙ ap (λ (g : TallyRecord). record { head = g.head; entries = moves key_cmp g.entries ns }) c.sent.ensures in
    let empty = no_items c.in_ok-change.change.entries (sym c.changes_nothing.ensures ∙ c.if-changes_nothing.true) in
    let none = sym (ap (λ (d : ChangeRecord). d.entries) change) ∙ empty in
    let same = same_names t ns counts c.requires.numbers none in
    sets_nothing old (names_set t ns) (ap (λ es. record { head = t.head; entries = es }) same)

pub returns-in-Ok-clause-sets : goal.returns-in-Ok-clause-sets
returns-in-Ok-clause-sets c =
    let old = c.args.ends.now in
    let t = old.outgoing.present in
    let ns = c.args.numbers.now in
    let counts : AreCounts key_cmp greatest_named t.entries = subst (λ (t : TallyRecord). AreCounts key_cmp greatest_named t.entries) c.sent-2.ensures c.entries-names.ensures.counts in
    let change = c.in_ok-change.ensures ∙ ap (λ (g : TallyRecord). record { head = g.head; entries = moves key_cmp g.entries ns }) c.sent.ensures in
    let made = ap (patched_names t) change ∙ names_are_set t ns counts c.requires.numbers in
    let small : t.head < 2 ^ 64 = subst (λ n. n < 2 ^ 64) (c.head-head.ensures ∙ ap (λ (g : TallyRecord). g.head) c.sent-3.ensures) c.head-head.type_inv in
    let are : AreChanges key_cmp (moves key_cmp t.entries ns) = subst (AreChanges key_cmp) (ap (λ (d : ChangeRecord). d.entries) change) c.entries-changes.ensures.changes in
    sets_names old c.post.new.self (names_set t ns) c.in_ok-change.change made c.in-Ok.ensures.posts.1 c.in-Ok.ensures.rest
    (λ same. let none = no_moves t ns small counts c.requires.numbers are same in
    some_items c.in_ok-change.change.entries (sym c.changes_nothing.ensures ∙ c.if-changes_nothing.false) (ap (λ (d : ChangeRecord). d.entries) change ∙ none))
