use Rattle.std.proofs.Common.{◌≡◌, ◌<◌, ◌^◌, [], true, not, nat_eq, Ok, refl, sym, ◌∙◌, ap, subst}
use Rattle.std.specs.Prelude.{IsOk}
use Rattle.fuxi_terms.specs.Keys.{key_cmp}
use Rattle.fuxi_terms.specs.Counts.{AreCounts, AreChanges}
use Rattle.fuxi_terms.specs.Tallies.{TallyRecord, ChangeRecord, empty_tally, patched_tally, staying}
use Rattle.fuxi_terms.specs.TallyKeys.{greatest_grant, credited_what}
use Rattle.fuxi_terms.specs.declared.answers.LedgerFault.TheVariants.{Below, TooGreat}
use Rattle.fuxi_terms.proofs.Booleans.{not_false, number_is, nat_itself}
use Rattle.ledger_law.specs.Shapes.{IsTally, IsChange}
use Rattle.peer_channel.specs.Bodies.{tally_of}
use Rattle.fuxi_terms.specs.NumbersSet.{moves}
use Rattle.ledger_updates.specs.Shown.{grants_set}
use Rattle.ledger_updates.proofs.GrantsSetLemmas.{grants_are_set, grants_differ, grants_form, kept_as}
use Rattle.ledger_updates.proofs.ShownLemmas.{shown_posted, shown_kept, not_due, is_empty_due}
use Rattle.ledger_updates.proofs.job_grants.show_grants.Goals as goal

pub returns-then-not-is_due-clause-shows : goal.returns-then-not-is_due-clause-shows
returns-then-not-is_due-clause-shows c =
    let old = c.args.side.now in
    let t = old.outgoing.present in
    let boot = c.args.boot in
    let ns = c.args.numbers.now in
    let d = c.in_ok-change.change in
    let counts : AreCounts key_cmp greatest_grant t.entries = subst (λ (t : TallyRecord). AreCounts key_cmp greatest_grant t.entries) c.sent-2.ensures c.entries-entries.ensures.counts in
    let change : d ≡ record { head = boot; entries = moves key_cmp (staying credited_what t boot) ns } = c.in_ok-change.ensures ∙ ap (λ (g : TallyRecord). record { head = boot; entries = moves key_cmp (staying credited_what g boot) ns }) c.sent.ensures in
    let none = not_due c.args.even_if_equal d.entries (not (nat_eq d.head c.head.result)) (sym c.is_due.ensures ∙ c.if-not-is_due.true) in
    let head : boot ≡ t.head = sym (ap (λ (x : ChangeRecord). x.head) change) ∙ number_is d.head c.head.result (not_false (nat_eq d.head c.head.result) none.2) ∙ c.head.ensures ∙ ap (λ (g : TallyRecord). g.head) c.sent-3.ensures in
    let empty : moves key_cmp (staying credited_what t boot) ns ≡ [] = sym (ap (λ (x : ChangeRecord). x.entries) change) ∙ none.1 in
    let leads : patched_tally Below TooGreat greatest_grant credited_what t (record { head = boot; entries = [] }) ≡ Ok (grants_set t boot ns) = ap (λ es. patched_tally Below TooGreat greatest_grant credited_what t (record { head = boot; entries = es })) (sym empty) ∙ grants_are_set t boot ns counts c.requires.numbers in
    let stays : Ok (record { head = boot; entries = staying credited_what t boot }) ≡ Ok (grants_set t boot ns) = leads in
    let there : record { head = boot; entries = staying credited_what t boot } ≡ grants_set t boot ns = cc in
    let kept : t ≡ record { head = boot; entries = staying credited_what t boot } = kept_as t boot head in
    shown_kept empty_tally (patched_tally Below TooGreat greatest_grant credited_what) (IsTally greatest_grant) tally_of tally_of c.args.even_if_equal (grants_set t boot ns) old none.0 (kept ∙ there)

pub post-requires-clause-leads : goal.post-requires-clause-leads
post-requires-clause-leads c =
    let t = c.args.side.now.outgoing.present in
    let boot = c.args.boot in
    let ns = c.args.numbers.now in
    let counts : AreCounts key_cmp greatest_grant t.entries = subst (λ (t : TallyRecord). AreCounts key_cmp greatest_grant t.entries) c.sent-2.ensures c.entries-entries.ensures.counts in
    let change : c.in_ok-change.change ≡ record { head = boot; entries = moves key_cmp (staying credited_what t boot) ns } = c.in_ok-change.ensures ∙ ap (λ (g : TallyRecord). record { head = boot; entries = moves key_cmp (staying credited_what g boot) ns }) c.sent.ensures in
    let leads = ap (patched_tally Below TooGreat greatest_grant credited_what t) change ∙ grants_are_set t boot ns counts c.requires.numbers in
    subst (λ r. IsOk r) (sym leads) refl

pub post-requires-clause-form : goal.post-requires-clause-form
post-requires-clause-form c =
    let t = c.args.side.now.outgoing.present in
    let boot = c.args.boot in
    let ns = c.args.numbers.now in
    let counts : AreCounts key_cmp greatest_grant t.entries = subst (λ (t : TallyRecord). AreCounts key_cmp greatest_grant t.entries) c.sent-2.ensures c.entries-entries.ensures.counts in
    let change : c.in_ok-change.change ≡ record { head = boot; entries = moves key_cmp (staying credited_what t boot) ns } = c.in_ok-change.ensures ∙ ap (λ (g : TallyRecord). record { head = boot; entries = moves key_cmp (staying credited_what g boot) ns }) c.sent.ensures in
    let are : AreChanges key_cmp (moves key_cmp (staying credited_what t boot) ns) = subst (AreChanges key_cmp) (ap (λ (x : ChangeRecord). x.entries) change) c.entries-changes.ensures.changes in
    subst (IsChange greatest_grant) (sym change) (grants_form t boot ns c.ranges.boot.fits counts c.requires.numbers are)

pub returns-clause-shows : goal.returns-clause-shows
returns-clause-shows c =
    let old = c.args.side.now in
    let t = old.outgoing.present in
    let boot = c.args.boot in
    let ns = c.args.numbers.now in
    let d = c.in_ok-change.change in
    let e = c.in_ok-post.ensures in
    let counts : AreCounts key_cmp greatest_grant t.entries = subst (λ (t : TallyRecord). AreCounts key_cmp greatest_grant t.entries) c.sent-2.ensures c.entries-entries.ensures.counts in
    let change : d ≡ record { head = boot; entries = moves key_cmp (staying credited_what t boot) ns } = c.in_ok-change.ensures ∙ ap (λ (g : TallyRecord). record { head = boot; entries = moves key_cmp (staying credited_what g boot) ns }) c.sent.ensures in
    let leads = ap (patched_tally Below TooGreat greatest_grant credited_what t) change ∙ grants_are_set t boot ns counts c.requires.numbers in
    let here : c.head.result ≡ t.head = c.head.ensures ∙ ap (λ (g : TallyRecord). g.head) c.sent-3.ensures in
    let small : t.head < 2 ^ 64 = subst (λ n. n < 2 ^ 64) here c.head.type_inv in
    shown_posted empty_tally (patched_tally Below TooGreat greatest_grant credited_what) (IsTally greatest_grant) tally_of tally_of c.args.even_if_equal (grants_set t boot ns) d old c.post.new.self leads e.made e.posts
    (λ f. grants_differ t (grants_set t boot ns) d (record { head = small; counts = counts }) c.entries-changes.ensures.changes leads
    (λ none head.
    let differs : not (nat_eq d.head c.head.result) ≡ true = is_empty_due c.args.even_if_equal d.entries (not (nat_eq d.head c.head.result)) (sym c.is_due.ensures ∙ c.if-not-is_due.false) f none in
    let same : nat_eq d.head c.head.result ≡ true = ap (λ n. nat_eq d.head n) (here ∙ sym head) ∙ nat_itself d.head in
    let f : not true ≡ true = ap not (sym same) ∙ differs in
    cc))
    e.last e.own e.rest
