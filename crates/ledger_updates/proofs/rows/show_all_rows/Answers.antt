use Rattle.std.proofs.Common.{ℕ, List, [], map, nat_eq, sym, ◌∙◌, ap, subst, arith}
use Rattle.std.proofs.lemmas.List.Folds.{list_any-append}
use Rattle.std.proofs.lemmas.Option.{slice_get_within}
use Rattle.std.proofs.lemmas.Result.{on_ok_weaker}
use Rattle.fuxi_terms.proofs.Booleans.{both_false}
use Rattle.fuxi_terms.specs.Rows.{IsRow, patched_row}
use Rattle.spec_net.specs.Ledgers.{row_ledger}
use Rattle.peer_channel.specs.Bodies.{report_of}
use Rattle.ledger_updates.specs.Shown.{number_of, Shows}
use Rattle.grant_table.specs.declared.asking.Pick.{Pick}
use Rattle.ledger_updates.specs.AllShown.{spot_of, is_machine}
use Rattle.ledger_updates.specs.OfNumbers.{of_number, turns}
use Rattle.ledger_updates.specs.TouchedNumbers.{touched_on, named_machine, IsRowShown}
use Rattle.ledger_updates.specs.declared.machine_row.RowNumber.{RowNumber}
use Rattle.ledger_updates.proofs.OfNumbersLemmas.{none_of, none_reached, reached_as}
use Rattle.ledger_updates.proofs.ShownRows.{ShowsRow, set_at, row_at, all_shown, not_forced}
use Rattle.ledger_updates.proofs.rows.show_all_rows.Goals as goal

pub returns-then-is_quiet : goal.returns-then-is_quiet
returns-then-is_quiet c =
    let t = c.args.table.now in
    let old = c.args.sides.now.items in
    let quiet = c.is_quiet.ensures.narrow c.if-is_quiet.true in
    all_shown t c.is_sound.ensures (map spot_of c.args.spots.now) c.requires.order c.args.even_if_equal old old c.requires.before c.rows_follow_tables.ensures []
    (λ m lt left. (sym (ap (λ (ps : List Pick). touched_on t m (map spot_of ps)) quiet.0), ap (λ o. is_machine o m) quiet.1))
    (none_reached (ShowsRow t c.args.even_if_equal) old)

pub show_named-requires-clause-set : goal.show_named-requires-clause-set
show_named-requires-clause-set c m d was =
    let t = c.args.table.now in
    let old = c.args.sides.now.items in
    let es = c.deref.result.now in
    let are = ap (λ (ns : List (ℕ × RowNumber)). map number_of (of_number m ns)) c.deref.ensures.value ∙ c.in_ok-numbers.ensures.each m (omega (arith, slice_get_within old m d was, c.requires.wide)) in
    set_at t c.is_sound.ensures (map spot_of c.args.spots.now) c.requires.order old c.requires.before m d was (map number_of (of_number m es)) are

pub returns : goal.returns
returns c =
    let t = c.args.table.now in
    let ss = map spot_of c.args.spots.now in
    let sound = c.is_sound.ensures in
    let even_if_equal = c.args.even_if_equal in
    let old = c.args.sides.now.items in
    let new = c.show_named.new.sides.items in
    let es = c.deref.result.now in
    let due = turns es (named_machine even_if_equal) in
    on_ok_weaker c.show_named.result
    (λ h. all_shown t sound ss c.requires.order even_if_equal old new c.requires.before c.rows_follow_tables.ensures due
    (λ m lt left.
    let split = both_false _ _ (sym (list_any-append (nat_eq m) (map (λ e. e.0) es) (named_machine even_if_equal)) ∙ left) in
    let none = none_of m es split.0 in
    (ap (map number_of) (sym none) ∙ ap (λ (ns : List (ℕ × RowNumber)). map number_of (of_number m ns)) c.deref.ensures.value ∙ c.in_ok-numbers.ensures.each m (let wide = c.requires.wide in omega (arith, lt, wide)), not_forced even_if_equal m split.1))
    (reached_as (IsRowShown even_if_equal es) (ShowsRow t even_if_equal) due old new (λ m d e was shows.
    let are = ap (λ (ns : List (ℕ × RowNumber)). map number_of (of_number m ns)) c.deref.ensures.value ∙ c.in_ok-numbers.ensures.each m (omega (arith, slice_get_within old m d was, c.requires.wide)) in
    let row = row_at t sound ss c.requires.order old c.requires.before m d was (map number_of (of_number m es)) are c.rows_follow_tables.ensures in
    subst (λ row. Shows [] patched_row IsRow row_ledger report_of (is_machine even_if_equal m) row d e) row shows)
    h))
    c.show_named.ensures
