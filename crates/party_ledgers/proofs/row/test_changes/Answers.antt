use Rattle.std.proofs.Common.{Err, sym, ◌∙◌, ap, arith, rules}
use Rattle.std.specs.Int.{w64}
use Rattle.std.specs.Int.RustNames.{FitsSigned}
use Rattle.std.proofs.lemmas.Int.{to_z-of_z}
use Rattle.std.proofs.lemmas.Result.{err_from_is_err_and}
use Rattle.fuxi_terms.specs.declared.answers.LedgerFault.TheVariants.{TooGreat}
use Rattle.party_ledgers.proofs.PatchedRow.{count_small, is_changed_key, row_some, row_refused, row_too_long, row_more}
use Rattle.party_ledgers.proofs.row.test_changes.Goals as goal

pub moved_within-requires-clause-key : goal.moved_within-requires-clause-key
moved_within-requires-clause-key c = is_changed_key c.args.changes.now c.requires.changes c.loop-key.key-index c.loop-key-item.result c.loop-key-item.is c.loop-key-test.true

pub moved_within-requires-clause-kept : goal.moved_within-requires-clause-kept
moved_within-requires-clause-kept c = omega (arith, c.count_of-kept.ensures, count_small c.args.entries.now c.loop-key-item.result.0 c.requires.row.counts)

pub returns-in_err-n-clause-err : goal.returns-in_err-n-clause-err
returns-in_err-n-clause-err c =
    let p = err_from_is_err_and c.from_residual.result c.from_residual.ensures.1 in
    let fits : FitsSigned w64 c.loop-key-item.result.1 = search rules in
    let refusal = rw (to_z-of_z w64 c.loop-key-item.result.1 fits) at c.in_err-n.ensures in
    rw (p.1, p.2) (row_refused c.args.entries.now c.args.changes.now c.loop-key.key-index c.loop-key.len c.loop-key-item.result c.loop-key-item.is c.loop-key.invariant c.loop-key-test.true c.count_of-kept.result c.count_of-kept.ensures _ refusal)

pub entries_after-len-requires-clause-some : goal.entries_after-len-requires-clause-some
entries_after-len-requires-clause-some c more = row_some c.args.entries.now c.args.changes.now c.loop-key.key-index c.loop-key.len c.loop-key-item.result c.loop-key-item.is c.loop-key.invariant c.loop-key-test.true c.count_of-kept.result c.count_of-kept.ensures more

pub returns-then-len-gt-MOST_ENTRIES-clause-err : goal.returns-then-len-gt-MOST_ENTRIES-clause-err
returns-then-len-gt-MOST_ENTRIES-clause-err c =
    let fits : FitsSigned w64 c.loop-key-item.result.1 = search rules in
    let made = rw (to_z-of_z w64 c.loop-key-item.result.1 fits) at c.in_ok-n.ensures in
    row_too_long c.args.entries.now c.args.changes.now c.loop-key.key-index c.loop-key.len c.loop-key-item.result c.loop-key-item.is c.loop-key.invariant c.loop-key-test.true c.count_of-kept.result c.count_of-kept.ensures c.in_ok-n.n c.entries_after-len.result made c.entries_after-len.ensures c.if-len-gt-MOST_ENTRIES.true
    ∙ ap (λ k. Err (TooGreat k)) (sym c.fault_key.ensures)

pub loop-key-preserved : goal.loop-key-preserved
loop-key-preserved c =
    let fits : FitsSigned w64 c.loop-key-item.result.1 = search rules in
    let made = rw (to_z-of_z w64 c.loop-key-item.result.1 fits) at c.in_ok-n.ensures in
    row_more c.args.entries.now c.args.changes.now c.loop-key.key-index c.loop-key.len c.loop-key-item.result c.loop-key-item.is c.loop-key.invariant c.loop-key-test.true c.count_of-kept.result c.count_of-kept.ensures c.in_ok-n.n c.entries_after-len.result made c.entries_after-len.ensures c.if-len-gt-MOST_ENTRIES.false
