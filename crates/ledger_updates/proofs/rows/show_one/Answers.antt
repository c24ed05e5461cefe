use Rattle.std.proofs.Common.{◌≡◌, ℕ, ◌≤◌, [], List, map, filter, length, nat_eq, sym, ◌∙◌, ap, subst}
use Rattle.std.specs.Prelude.{IsTrue, OnOk}
use Rattle.std.specs.List.{AllByRecursion}
use Rattle.std.proofs.lemmas.Simd.{map-map}
use Rattle.fuxi_terms.specs.Counts.{joined}
use Rattle.fuxi_terms.specs.Keys.{RowKey, row_cmp}
use Rattle.fuxi_terms.specs.Limits.{most_entries}
use Rattle.fuxi_terms.specs.NumbersSet.{numbers_set, AreNumbers}
use Rattle.fuxi_terms.specs.Rows.{IsRow, patched_row, is_row_key, greatest_row}
use Rattle.spec_net.specs.Ledgers.{row_ledger}
use Rattle.peer_channel.specs.Bodies.{report_of}
use Rattle.ledger_updates.specs.AllShown.{is_machine}
use Rattle.ledger_updates.specs.OfNumbers.{of_number}
use Rattle.ledger_updates.specs.Shown.{number_of, numbered, Shows}
use Rattle.ledger_updates.specs.declared.machine_row.RowNumber.{RowNumber}
use Rattle.ledger_updates.proofs.rows.show_one.Goals as goal

-- the numbers that are lent are those of the machine
are : (at : ℕ) (es run : List (ℕ × RowNumber)) → run ≡ filter (λ e. nat_eq e.0 at) es → map numbered run ≡ map number_of (of_number at es)
are at es run is = ap (map numbered) is ∙ sym (map-map number_of (λ e. e.1) (filter (λ e. nat_eq e.0 at) es))

pub show_row-requires-clause-numbers : goal.show_row-requires-clause-numbers
show_row-requires-clause-numbers c = subst (AreNumbers row_cmp greatest_row) (sym (are c.args.at c.args.numbers.now c.run_of.result.now c.run_of.ensures)) c.requires.set.numbers_are

pub show_row-requires-clause-keys : goal.show_row-requires-clause-keys
show_row-requires-clause-keys c = subst (AllByRecursion (λ (n : RowKey × ℕ). IsTrue (is_row_key n.0))) (sym (are c.args.at c.args.numbers.now c.run_of.result.now c.run_of.ensures)) c.requires.set.keys

pub show_row-requires-clause-together : goal.show_row-requires-clause-together
show_row-requires-clause-together c = subst (λ ns. length (joined row_cmp c.args.side.now.outgoing.present ns) ≤ most_entries) (sym (are c.args.at c.args.numbers.now c.run_of.result.now c.run_of.ensures)) c.requires.set.together

pub returns : goal.returns
returns c =
    let old = c.args.side.now in
    let numbers = are c.args.at c.args.numbers.now c.run_of.result.now c.run_of.ensures in
    subst (λ ns. OnOk c.show_row.result (Shows [] patched_row IsRow row_ledger report_of (is_machine c.args.even_if_equal c.args.at) (numbers_set row_cmp old.outgoing.present ns) old c.show_row.new.side)) numbers
    (subst (λ b. OnOk c.show_row.result (Shows [] patched_row IsRow row_ledger report_of b (numbers_set row_cmp old.outgoing.present (map numbered c.run_of.result.now)) old c.show_row.new.side)) c.is_machine.ensures c.show_row.ensures.shows)
