use Rattle.std.proofs.Common.{◌≡◌, ◌+◌, ◌-◌, ◌<◌, ◌^◌, length, Err, sym, ◌∙◌, ap, subst, arith, rules}
use Rattle.std.specs.Int.{w64}
use Rattle.std.specs.Int.RustNames.{FitsSigned}
use Rattle.std.specs.List.{All}
use Rattle.std.specs.Prelude.{IsTrue}
use Rattle.std.proofs.lemmas.Int.{to_z-of_z}
use Rattle.std.proofs.lemmas.Result.{err_from_is_err_and}
use Rattle.fuxi_terms.specs.Keys.{RowKey}
use Rattle.fuxi_terms.specs.Vectors.{fits, plus, times}
use Rattle.fuxi_terms.specs.declared.answers.LedgerFault.TheVariants.{TooGreat}
use Rattle.party_ledgers.specs.Weighing.{total_moved}
use Rattle.party_ledgers.proofs.PatchedRow.{count_small, is_changed_key, row_some, row_refused, row_too_long}
use Rattle.party_ledgers.proofs.TotalAfter.{IsMovedTo, moved_start, moved_small, fewer_fits, more_room, moved_more, moved_refused}
use Rattle.party_ledgers.proofs.row_totals.total_after.Goals as goal

pub moved_within-requires-clause-key : goal.moved_within-requires-clause-key
moved_within-requires-clause-key c = is_changed_key c.args.changes.now c.requires.changes c.loop-key.key-index c.loop-key-item.result c.loop-key-item.is c.loop-key-test.true

pub moved_within-requires-clause-kept : goal.moved_within-requires-clause-kept
moved_within-requires-clause-kept c = omega (arith, c.count_of-kept.ensures, count_small c.args.entries.now c.loop-key-item.result.0 c.requires.row.counts)

pub returns-in_err-n : goal.returns-in_err-n
returns-in_err-n c =
    let p = err_from_is_err_and c.from_residual.result c.from_residual.ensures.1 in
    let is : FitsSigned w64 c.loop-key-item.result.1 = search rules in
    let refusal = rw (to_z-of_z w64 c.loop-key-item.result.1 is) at c.in_err-n.ensures in
    rw (p.1, p.2) (moved_refused c.args.entries.now c.args.changes.now _ (row_refused c.args.entries.now c.args.changes.now c.loop-key.key-index c.loop-key.len c.loop-key-item.result c.loop-key-item.is c.loop-key.invariant.tested c.loop-key-test.true c.count_of-kept.result c.count_of-kept.ensures _ refusal))

pub entries_after-len-requires-clause-some : goal.entries_after-len-requires-clause-some
entries_after-len-requires-clause-some c more = row_some c.args.entries.now c.args.changes.now c.loop-key.key-index c.loop-key.len c.loop-key-item.result c.loop-key-item.is c.loop-key.invariant.tested c.loop-key-test.true c.count_of-kept.result c.count_of-kept.ensures more

pub returns-then-len-gt-MOST_ENTRIES : goal.returns-then-len-gt-MOST_ENTRIES
returns-then-len-gt-MOST_ENTRIES c =
    let is : FitsSigned w64 c.loop-key-item.result.1 = search rules in
    let made = rw (to_z-of_z w64 c.loop-key-item.result.1 is) at c.in_ok-n.ensures in
    moved_refused c.args.entries.now c.args.changes.now _
    (row_too_long c.args.entries.now c.args.changes.now c.loop-key.key-index c.loop-key.len c.loop-key-item.result c.loop-key-item.is c.loop-key.invariant.tested c.loop-key-test.true c.count_of-kept.result c.count_of-kept.ensures c.in_ok-n.n c.entries_after-len.result made c.entries_after-len.ensures c.if-len-gt-MOST_ENTRIES.true
    ∙ ap (λ k. Err (TooGreat k)) (sym c.fault_key.ensures))

pub total_moved-total-requires-clause-before : goal.total_moved-total-requires-clause-before
total_moved-total-requires-clause-before c = omega (arith, c.count_of-kept.ensures, count_small c.args.entries.now c.loop-key-item.result.0 c.requires.row.counts)

pub total_moved-total-requires-clause-after : goal.total_moved-total-requires-clause-after
total_moved-total-requires-clause-after c =
    let is : FitsSigned w64 c.loop-key-item.result.1 = search rules in
    let made = rw (to_z-of_z w64 c.loop-key-item.result.1 is) at c.in_ok-n.ensures in
    moved_small c.loop-key-item.result.0 c.count_of-kept.result c.loop-key-item.result.1 c.in_ok-n.n made

pub total_moved-total-requires-clause-fewer : goal.total_moved-total-requires-clause-fewer
total_moved-total-requires-clause-fewer c less =
    let is : FitsSigned w64 c.loop-key-item.result.1 = search rules in
    let made = rw (to_z-of_z w64 c.loop-key-item.result.1 is) at c.in_ok-n.ensures in
    let eight = subst (λ (k : RowKey). length k.size ≡ 8) c.key.view_is c.key.told in
    subst (λ (k : RowKey). IsTrue (fits (times (c.count_of-kept.result - c.in_ok-n.n) k.size) c.loop-key.total.q)) (sym c.key.view_is)
    (fewer_fits c.args.entries.now c.args.changes.now c.loop-key.key-index c.loop-key.len c.loop-key.total.q c.loop-key-item.result c.loop-key-item.is c.loop-key.invariant c.loop-key-test.true c.count_of-kept.result c.count_of-kept.ensures c.in_ok-n.n c.entries_after-len.result made c.entries_after-len.ensures c.if-len-gt-MOST_ENTRIES.false eight less)

pub total_moved-total-requires-clause-more : goal.total_moved-total-requires-clause-more
total_moved-total-requires-clause-more c le =
    let is : FitsSigned w64 c.loop-key-item.result.1 = search rules in
    let made = rw (to_z-of_z w64 c.loop-key-item.result.1 is) at c.in_ok-n.ensures in
    let eight = subst (λ (k : RowKey). length k.size ≡ 8) c.key.view_is c.key.told in
    subst (λ (k : RowKey). All (λ n. n < 2 ^ 128) (plus c.loop-key.total.q (times (c.in_ok-n.n - c.count_of-kept.result) k.size))) (sym c.key.view_is)
    (more_room c.args.entries.now c.args.changes.now c.loop-key.key-index c.loop-key.len c.loop-key.total.q c.loop-key-item.result c.loop-key-item.is c.loop-key.invariant c.loop-key-test.true c.count_of-kept.result c.count_of-kept.ensures c.in_ok-n.n c.entries_after-len.result made c.entries_after-len.ensures c.if-len-gt-MOST_ENTRIES.false eight le)

pub loop-key-preserved : goal.loop-key-preserved
loop-key-preserved c =
    let is : FitsSigned w64 c.loop-key-item.result.1 = search rules in
    let made = rw (to_z-of_z w64 c.loop-key-item.result.1 is) at c.in_ok-n.ensures in
    let eight = subst (λ (k : RowKey). length k.size ≡ 8) c.key.view_is c.key.told in
    let size = ap (λ (k : RowKey). total_moved c.loop-key.total.q k.size c.count_of-kept.result c.in_ok-n.n) c.key.view_is in
    subst (IsMovedTo c.args.entries.now c.args.changes.now (c.loop-key.key-index + 1) c.entries_after-len.result) (sym (c.total_moved-total.ensures ∙ size))
    (moved_more c.args.entries.now c.args.changes.now c.loop-key.key-index c.loop-key.len c.loop-key.total.q c.loop-key-item.result c.loop-key-item.is c.loop-key.invariant c.loop-key-test.true c.count_of-kept.result c.count_of-kept.ensures c.in_ok-n.n c.entries_after-len.result made c.entries_after-len.ensures c.if-len-gt-MOST_ENTRIES.false eight)

pub loop-key-init : goal.loop-key-init
loop-key-init c = moved_start c.args.entries.now c.args.changes.now c.args.total.now.q c.requires.row c.requires.changes.changes.sorted c.requires.total
