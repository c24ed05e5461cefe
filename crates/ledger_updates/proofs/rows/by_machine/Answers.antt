use Rattle.std.proofs.Common.{◌≡◌, ℕ, List, map, sym, ◌∙◌, ap, subst, rules}
use Rattle.std.specs.List.Sorted.{IsNonDecreasingBy}
use Rattle.std.proofs.lemmas.Fn.{always_returns_same}
use Rattle.std.proofs.lemmas.Simd.{map-map}
use Rattle.std.proofs.lemmas.List.Sorted.{IsNonDecreasingBy-from_sort_by_key}
use Rattle.ledger_updates.specs.AllShown.{spot_of}
use Rattle.ledger_updates.specs.OfNumbers.{of_number}
use Rattle.ledger_updates.specs.Shown.{number_of}
use Rattle.ledger_updates.specs.declared.machine_row.RowNumber.{RowNumber}
use Rattle.ledger_updates.proofs.OfNumbersLemmas.{of_mapped, sorted_of}
use Rattle.ledger_updates.proofs.TouchedRows.{touched_of}
use Rattle.ledger_updates.proofs.rows.by_machine.Goals as goal

pub returns-then-are_rising-clause-rising : goal.returns-then-are_rising-clause-rising
returns-then-are_rising-clause-rising c = subst (λ (es : List (ℕ × RowNumber)). IsNonDecreasingBy (λ e. e.0) es) c.deref.ensures.value (c.are_rising.ensures c.if-are_rising.true)

pub returns-then-are_rising-clause-each : goal.returns-then-are_rising-clause-each
returns-then-are_rising-clause-each c m lt =
    let xs = c.in_ok-numbers.numbers.items in
    map-map number_of (λ e. e.1) _
    ∙ sym (of_mapped m (λ e. e.0) (λ e. number_of e.1) xs)
    ∙ ap (of_number m) c.in_ok-numbers.ensures
    ∙ touched_of c.args.table.now m (map spot_of c.args.spots.now) lt

pub returns-clause-rising : goal.returns-clause-rising
returns-clause-rising c = IsNonDecreasingBy-from_sort_by_key (λ e. e.0) _ c.in_ok-sort_by_key.ensures.sorted (λ a r q k. search rules)

pub returns-clause-each : goal.returns-clause-each
returns-clause-each c m lt =
    let xs = c.in_ok-numbers.numbers.items in
    let stable = c.in_ok-sort_by_key.ensures.stable (λ e. e.0) (always_returns_same _ (λ a r. r ≡ a.0.now.0) _ (λ a r q k. search rules)) in
    ap (map number_of) (sorted_of m xs _ c.in_ok-sort_by_key.ensures.permutation stable)
    ∙ map-map number_of (λ e. e.1) _
    ∙ sym (of_mapped m (λ e. e.0) (λ e. number_of e.1) xs)
    ∙ ap (of_number m) c.in_ok-numbers.ensures
    ∙ touched_of c.args.table.now m (map spot_of c.args.spots.now) lt
