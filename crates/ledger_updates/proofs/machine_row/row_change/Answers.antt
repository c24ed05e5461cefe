use Rattle.std.proofs.Common.{ℕ, ◌+◌, ◌≤◌, [], map, drop, get_or, ◌∙◌, ap, arith, rules}
use Rattle.std.specs.Prelude.{IsTrue}
use Rattle.std.specs.Int.{w32}
use Rattle.std.specs.Int.RustNames.{FitsSigned}
use Rattle.std.proofs.lemmas.Int.{to_z-of_z}
use Rattle.fuxi_terms.specs.Keys.{row_cmp}
use Rattle.fuxi_terms.specs.Counts.{count, change_between}
use Rattle.fuxi_terms.specs.Rows.{is_row_key, greatest_row}
use Rattle.ledger_updates.specs.declared.machine_row.RowNumber.{RowNumber}
use Rattle.ledger_updates.specs.Shown.{numbered}
use Rattle.fuxi_terms.proofs.NumbersSetLemmas.{change_within}
use Rattle.fuxi_terms.proofs.MovesLemmas.{rest_at, all_of, are_same, are_others, moves_rise, moves_skip, moves_put}
use Rattle.ledger_updates.proofs.RowSetLemmas.{row_small, number_small}
use Rattle.ledger_updates.proofs.machine_row.row_change.Goals as goal

abbrev none : ℕ × RowNumber
none = (0, record { app = record { 0 = 0 }; unit = record { 0 = 0 }; size = record { q = [] }; count = 0 })

pub loop-entry-preserved-then-before-number : goal.loop-entry-preserved-then-before-number
loop-entry-preserved-then-before-number c =
    let ns = c.args.numbers.now in
    let i = c.loop-entry.entry-index in
    let n = numbered (get_or ns i none) in
    moves_skip row_cmp c.args.row.now (map numbered ns) (map numbered (drop i ns)) (map numbered (drop (i + 1) ns)) n c.loop-entry.change (rest_at numbered ns i none c.loop-entry-test.true) c.loop-entry.invariant
    (are_same c.count-before.result (count row_cmp c.args.row.now n.0) n.1 c.count-before.ensures c.if-before-number.true)

pub change_between-by-requires-clause-before : goal.change_between-by-requires-clause-before
change_between-by-requires-clause-before c = omega (arith, c.count-before.ensures, row_small c.args.row.now (numbered (get_or c.args.numbers.now c.loop-entry.entry-index none)).0 c.len-len.ensures.row)

pub change_between-by-requires-clause-after : goal.change_between-by-requires-clause-after
change_between-by-requires-clause-after c =
    let n = numbered (get_or c.args.numbers.now c.loop-entry.entry-index none) in
    number_small n.0 n.1 (all_of (λ n. n.1 ≤ greatest_row n.0) numbered c.args.numbers.now c.loop-entry.entry-index none c.loop-entry-test.true c.requires.numbers.within)

pub put-requires-clause-key : goal.put-requires-clause-key
put-requires-clause-key c = all_of (λ n. IsTrue (is_row_key n.0)) numbered c.args.numbers.now c.loop-entry.entry-index none c.loop-entry-test.true c.requires.keys

pub put-requires-clause-range : goal.put-requires-clause-range
put-requires-clause-range c =
    let n = numbered (get_or c.args.numbers.now c.loop-entry.entry-index none) in
    let is : FitsSigned w32 c.change_between-by.result = search rules in
    let before : c.count-before.result ≤ 100000 = omega (arith, c.count-before.ensures, row_small c.args.row.now n.0 c.len-len.ensures.row) in
    let after : n.1 ≤ 100000 = number_small n.0 n.1 (all_of (λ n. n.1 ≤ greatest_row n.0) numbered c.args.numbers.now c.loop-entry.entry-index none c.loop-entry-test.true c.requires.numbers.within) in
    rw (to_z-of_z w32 c.change_between-by.result is, c.change_between-by.ensures) (change_within c.count-before.result n.1 100000 before after)

pub put-requires-clause-rises : goal.put-requires-clause-rises
put-requires-clause-rises c =
    let ns = c.args.numbers.now in
    let i = c.loop-entry.entry-index in
    moves_rise row_cmp c.args.row.now (map numbered ns) (map numbered (drop i ns)) (map numbered (drop (i + 1) ns)) (numbered (get_or ns i none)) c.loop-entry.change (rest_at numbered ns i none c.loop-entry-test.true) c.loop-entry.invariant

pub loop-entry-preserved : goal.loop-entry-preserved
loop-entry-preserved c =
    let ns = c.args.numbers.now in
    let i = c.loop-entry.entry-index in
    let n = numbered (get_or ns i none) in
    let is : FitsSigned w32 c.change_between-by.result = search rules in
    let ok = rw (to_z-of_z w32 c.change_between-by.result is) at c.in_ok-put.ensures.ok in
    let by = c.change_between-by.ensures ∙ ap (λ b. change_between b n.1) c.count-before.ensures in
    moves_put row_cmp c.args.row.now (map numbered ns) (map numbered (drop i ns)) (map numbered (drop (i + 1) ns)) n c.loop-entry.change (rest_at numbered ns i none c.loop-entry-test.true) c.loop-entry.invariant c.put.new.self
    (are_others c.count-before.result (count row_cmp c.args.row.now n.0) n.1 c.count-before.ensures c.if-before-number.false)
    (rw by at ok)
