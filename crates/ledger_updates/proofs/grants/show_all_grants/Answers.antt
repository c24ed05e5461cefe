use Rattle.std.proofs.Common.{◌≡◌, ℕ, true, false, nat_eq, List, Option, Some, None, map, ◌++◌, refl, sym, ◌∙◌, ap, subst}
use Rattle.std.specs.Option.{is_some}
use Rattle.std.specs.List.Sorted.{IsNonDecreasingBy}
use Rattle.std.proofs.lemmas.List.Folds.{list_any-append}
use Rattle.std.proofs.lemmas.Result.{on_ok_weaker}
use Rattle.fuxi_terms.proofs.Booleans.{both_false}
use Rattle.fuxi_terms.specs.declared.Key.{Key}
use Rattle.schedule_unit.specs.declared.party.MachineNo.{MachineNo}
use Rattle.grant_table.specs.declared.asking.Pick.{Pick}
use Rattle.ledger_updates.specs.AllShown.{spot_of, GrantsAreBefore, ShowsAllGrants}
use Rattle.ledger_updates.specs.OfNumbers.{of_number, turns, AreReached}
use Rattle.ledger_updates.specs.OneJob.{counts_at, under_job, named_job, numbers_in, AreNumbersOf, IsSlotShown}
use Rattle.ledger_updates.proofs.InOrder.{counts_in_order}
use Rattle.ledger_updates.proofs.OfNumbersLemmas.{none_of}
use Rattle.ledger_updates.proofs.TableJobs.{known_among}
use Rattle.ledger_updates.proofs.Touched.{touched_sorted, touched_small}
use Rattle.ledger_updates.proofs.Slots.{counts_of, jobs_rise, not_named, all_shown, quietly_shown}
use Rattle.ledger_updates.proofs.grants.show_all_grants.Goals as goal

none_is : (o : Option MachineNo) → is_some o ≡ false → o ≡ None
none_is None h = refl
none_is (Some m) h = cc

pub returns-then-is_quiet : goal.returns-then-is_quiet
returns-then-is_quiet c =
    let t = c.args.table.now in
    let old = c.args.apps.now.items in
    let new = c.show_named.new.apps.items in
    let quiet = c.is_quiet.ensures.narrow c.if-is_quiet.true in
    on_ok_weaker c.show_named.result
    (λ h. subst (λ (ps : List Pick). (now : List ℕ) → GrantsAreBefore t (map spot_of ps) c.args.news.now now old → ShowsAllGrants t c.args.news.now now old new) (sym quiet.0)
    (quietly_shown t c.args.news.now old new c.is_sound.ensures quiet.1.0 quiet.1.1 h))
    c.show_named.ensures

pub show_known-requires-clause-order : goal.show_known-requires-clause-order
show_known-requires-clause-order c =
    let t = c.args.table.now in
    let ss = map spot_of c.args.spots.now in
    subst (λ (es : List (ℕ × (Key × ℕ))). IsNonDecreasingBy (λ e. e.0) es) (sym (c.deref.ensures.value ∙ c.in_ok-counts.ensures)) (jobs_rise (counts_at t ss) (touched_sorted t ss c.requires.order))

pub show_known-requires-clause-counts : goal.show_known-requires-clause-counts
show_known-requires-clause-counts c a =
    let t = c.args.table.now in
    let ss = map spot_of c.args.spots.now in
    let are = ap (of_number a) (c.deref.ensures.value ∙ c.in_ok-counts.ensures) ∙ counts_of a (counts_at t ss) in
    subst (AreNumbersOf 2) (sym are) (counts_in_order a (counts_at t ss) (touched_sorted t ss c.requires.order) (touched_small t c.is_sound.ensures ss))

pub returns-then-is_some : goal.returns-then-is_some
returns-then-is_some c =
    let t = c.args.table.now in
    let ss = map spot_of c.args.spots.now in
    let old = c.args.apps.now.items in
    let new = c.show_known.new.apps.items in
    let news = c.args.news.now in
    on_ok_weaker c.show_known.result
    (λ h. all_shown t ss news (numbers_in t.jobs) old new c.is_sound.ensures
    (subst (λ (es : List (ℕ × (Key × ℕ))). AreReached (IsSlotShown es news) (numbers_in t.jobs) old new) (c.deref.ensures.value ∙ c.in_ok-counts.ensures) h)
    (λ a d there left. let f : true ≡ false = sym (known_among t.jobs a (c.requires.admitted a d there)) ∙ left in cc))
    c.show_known.ensures

pub show_changed-requires-clause-order : goal.show_changed-requires-clause-order
show_changed-requires-clause-order c =
    let t = c.args.table.now in
    let ss = map spot_of c.args.spots.now in
    subst (λ (es : List (ℕ × (Key × ℕ))). IsNonDecreasingBy (λ e. e.0) es) (sym (c.deref-2.ensures.value ∙ c.in_ok-counts.ensures)) (jobs_rise (counts_at t ss) (touched_sorted t ss c.requires.order))

pub show_changed-requires-clause-counts : goal.show_changed-requires-clause-counts
show_changed-requires-clause-counts c a =
    let t = c.args.table.now in
    let ss = map spot_of c.args.spots.now in
    let are = ap (of_number a) (c.deref-2.ensures.value ∙ c.in_ok-counts.ensures) ∙ counts_of a (counts_at t ss) in
    subst (AreNumbersOf 2) (sym are) (counts_in_order a (counts_at t ss) (touched_sorted t ss c.requires.order) (touched_small t c.is_sound.ensures ss))

pub returns : goal.returns
returns c =
    let t = c.args.table.now in
    let ss = map spot_of c.args.spots.now in
    let old = c.args.apps.now.items in
    let new = c.show_changed.new.apps.items in
    let news = c.args.news.now in
    let es = map under_job (counts_at t ss) in
    on_ok_weaker c.show_changed.result
    (λ h. all_shown t ss news (turns es (named_job news.admitted ++ named_job news.job)) old new c.is_sound.ensures
    (subst (λ (es : List (ℕ × (Key × ℕ))). AreReached (IsSlotShown es news) (turns es (named_job news.admitted ++ named_job news.job)) old new) (c.deref-2.ensures.value ∙ c.in_ok-counts.ensures) h)
    (λ a d there left.
    let p = both_false _ _ (sym (list_any-append (nat_eq a) (map (λ e. e.0) es) (named_job news.admitted ++ named_job news.job)) ∙ left) in
    let q = both_false _ _ (sym (list_any-append (nat_eq a) (named_job news.admitted) (named_job news.job)) ∙ p.1) in
    (sym (counts_of a (counts_at t ss)) ∙ none_of a es p.0, record { reported = none_is news.reported (sym c.is_some.ensures ∙ c.if-is_some.false); admitted = not_named news.admitted a q.0; job = not_named news.job a q.1 })))
    c.show_changed.ensures
