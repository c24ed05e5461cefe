use Rattle.std.proofs.Common.{◌≡◌, ◌≤◌, [], Ok, map, length, refl, sym, ◌∙◌, ap, subst, arith}
use Rattle.std.specs.Prelude.{IsOk}
use Rattle.std.proofs.lemmas.List.{length-map}
use Rattle.fuxi_terms.specs.Keys.{row_cmp}
use Rattle.fuxi_terms.specs.Rows.{IsRow, patched_row}
use Rattle.spec_net.specs.Ledgers.{row_ledger}
use Rattle.peer_channel.specs.Bodies.{report_of}
use Rattle.fuxi_terms.specs.NumbersSet.{numbers_set, moves}
use Rattle.ledger_updates.specs.Shown.{numbered}
use Rattle.fuxi_terms.proofs.NumbersSetLemmas.{moves_few}
use Rattle.ledger_updates.proofs.RowSetLemmas.{row_is_set, row_differs}
use Rattle.ledger_updates.proofs.ShownLemmas.{shown_posted, shown_kept, not_due_alone, due_alone}
use Rattle.ledger_updates.proofs.machine_row.show_row.Goals as goal

pub returns-then-not-is_due-clause-shows : goal.returns-then-not-is_due-clause-shows
returns-then-not-is_due-clause-shows c =
    let old = c.args.side.now in
    let row = old.outgoing.present in
    let ns = map numbered c.args.numbers.now in
    let is_row : IsRow row = subst IsRow c.sent.ensures c.len-entries.ensures.row in
    let change : c.in_ok-change.change ≡ moves row_cmp row ns = c.in_ok-change.ensures ∙ ap (λ r. moves row_cmp r ns) c.sent-2.ensures in
    let none = not_due_alone c.args.even_if_equal c.in_ok-change.change (sym c.is_due.ensures ∙ c.if-not-is_due.true) in
    let leads : Ok row ≡ Ok (numbers_set row_cmp row ns) = ap (patched_row row) (sym none.1 ∙ change) ∙ row_is_set row ns is_row c.requires.numbers c.requires.together in
    let same : row ≡ numbers_set row_cmp row ns = cc in
    shown_kept [] patched_row IsRow row_ledger report_of c.args.even_if_equal (numbers_set row_cmp row ns) old none.0 same

pub post-requires-clause-leads : goal.post-requires-clause-leads
post-requires-clause-leads c =
    let row = c.args.side.now.outgoing.present in
    let ns = map numbered c.args.numbers.now in
    let is_row : IsRow row = subst IsRow c.sent.ensures c.len-entries.ensures.row in
    let change : c.in_ok-change.change ≡ moves row_cmp row ns = c.in_ok-change.ensures ∙ ap (λ r. moves row_cmp r ns) c.sent-2.ensures in
    let leads : patched_row row c.in_ok-change.change ≡ Ok (numbers_set row_cmp row ns) = ap (patched_row row) change ∙ row_is_set row ns is_row c.requires.numbers c.requires.together in
    subst (λ r. IsOk r) (sym leads) refl

pub post-requires-clause-form : goal.post-requires-clause-form
post-requires-clause-form c =
    let ns = map numbered c.args.numbers.now in
    let few : length c.in_ok-change.change ≤ length ns = subst (λ cs. length cs ≤ length ns) (sym c.in_ok-change.ensures) (moves_few row_cmp c.sent-2.result.now ns) in
    record { changes = c.len-len.ensures.changes; few = omega (arith, few, length-map c.args.numbers.now numbered, c.requires.few) }

pub returns-clause-shows : goal.returns-clause-shows
returns-clause-shows c =
    let old = c.args.side.now in
    let row = old.outgoing.present in
    let ns = map numbered c.args.numbers.now in
    let e = c.in_ok-post.ensures in
    let is_row : IsRow row = subst IsRow c.sent.ensures c.len-entries.ensures.row in
    let change : c.in_ok-change.change ≡ moves row_cmp row ns = c.in_ok-change.ensures ∙ ap (λ r. moves row_cmp r ns) c.sent-2.ensures in
    let leads : patched_row row c.in_ok-change.change ≡ Ok (numbers_set row_cmp row ns) = ap (patched_row row) change ∙ row_is_set row ns is_row c.requires.numbers c.requires.together in
    shown_posted [] patched_row IsRow row_ledger report_of c.args.even_if_equal (numbers_set row_cmp row ns) c.in_ok-change.change old c.post.new.self leads e.made e.posts
    (λ f. row_differs row (numbers_set row_cmp row ns) c.in_ok-change.change is_row c.len-len.ensures.changes leads (due_alone c.args.even_if_equal c.in_ok-change.change (sym c.is_due.ensures ∙ c.if-not-is_due.false) f))
    e.last e.own e.rest
