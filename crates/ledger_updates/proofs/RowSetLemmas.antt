-- The change that sets numbers in a row: it is not too long on its way.
use Rattle.std.proofs.Common.{◌≡◌, ℕ, ◌<◌, ◌≤◌, Bool, true, false, cond, nat_eq, nat_lt, List, [], ◌∷◌, length, Some, Ok, Err, refl, sym, ◌∙◌, ap, arith, lit≤}
use Rattle.std.specs.Prelude.{ℤ, T, ◌||◌}
use Rattle.std.specs.Option.{is_some}
use Rattle.std.specs.Ordering.{eq_by_cmp}
use Rattle.std.specs.List.{AllByRecursion}
use Rattle.std.specs.FinMap.Entries.{below_all, find, is_sorted}
use Rattle.std.proofs.lemmas.Bool.Decides.{nat_tests}
use Rattle.fuxi_terms.specs.Keys.{RowKey, row_cmp}
use Rattle.fuxi_terms.specs.Limits.{most_entries}
use Rattle.fuxi_terms.specs.Counts.{change_between, count, set_count, then_do, joined, AreCounts}
use Rattle.fuxi_terms.specs.Rows.{IsRow, AreRowChanges, is_row_key, greatest_row, patched_row, change_row_once, within_row, row_below, row_too_great}
use Rattle.fuxi_terms.proofs.Booleans.{number_is, or_right}
use Rattle.fuxi_terms.proofs.CountsLemmas.{both_true, count_le, count-set_count, counts-set_count, in_joined}
use Rattle.fuxi_terms.proofs.KeyOrders.{row_key_total, same_row_key}
use Rattle.fuxi_terms.proofs.RowDifferences.{few_of, counted_has}
use Rattle.party_ledgers.specs.PartyDifferences.{row_by_difference}
use Rattle.spec_net.specs.Ledgers.{Ledger, row_ledger}
use Rattle.fuxi_terms.specs.NumbersSet.{numbers_set, moves, AreNumbers}
use Rattle.fuxi_terms.proofs.NumbersSetLemmas.{no_difference, set_same, later, first_in, untouched, one_made}

abbrev Entries : Type 0
Entries = List (RowKey × ℕ)

abbrev number : Entries → RowKey → ℕ
number es q = count row_cmp es q

abbrev has : Entries → RowKey → Bool
has es q = is_some (find row_cmp q es)

module _ (keys : Entries) (few : length keys ≤ most_entries) where
  moves_make_row : (old es ns : Entries) → AreCounts row_cmp greatest_row es → T (is_sorted row_cmp ns) → AllByRecursion (λ n. n.1 ≤ greatest_row n.0) ns → ((q : RowKey) → has ns q ≡ true → number es q ≡ number old q)
      → ((q : RowKey) → has ns q ≡ true → has keys q ≡ true) → ((q : RowKey) → 0 < number es q → has keys q ≡ true) → patched_row es (moves row_cmp old ns) ≡ Ok (numbers_set row_cmp es ns)
  moves_make_row old es [] h s within is in_keys among = refl
  moves_make_row old es (n ∷ ns) h s within is in_keys among =
      let k : RowKey = n.0 in
      let parts = both_true (below_all row_cmp k ns) (is_sorted row_cmp ns) s in
      let here = is k (first_in row_key_total same_row_key greatest_row n ns) in
      let next : (q : RowKey) → has ns q ≡ true → has (n ∷ ns) q ≡ true = λ q in_ns. later row_key_total same_row_key greatest_row n ns parts.0 q in_ns in
      elim (nat_eq (number old k) n.1) as (λ b. nat_eq (number old k) n.1 ≡ b → patched_row es (cond b (moves row_cmp old ns) ((k, change_between (number old k) n.1) ∷ moves row_cmp old ns)) ≡ Ok (numbers_set row_cmp (set_count row_cmp es k n.1) ns)) [
        | true ↦ λ t.
            let stays : set_count row_cmp es k n.1 ≡ es = ap (set_count row_cmp es k) (sym (here ∙ number_is (number old k) n.1 t)) ∙ set_same row_key_total same_row_key greatest_row es k h in
            moves_make_row old es ns h parts.1 within.1 (λ q in_ns. is q (next q in_ns)) (λ q in_ns. in_keys q (next q in_ns)) among ∙ ap (λ fs. Ok (numbers_set row_cmp fs ns)) (sym stays)
        | false ↦ λ t.
            let set : Entries = set_count row_cmp es k n.1 in
            let counts = counts-set_count row_key_total greatest_row same_row_key es k n.1 within.0 h in
            let set_among : (q : RowKey) → 0 < number set q → has keys q ≡ true = λ q more. elim (eq_by_cmp row_cmp q k) as (λ b. eq_by_cmp row_cmp q k ≡ b → number set q ≡ cond b n.1 (number es q) → has keys q ≡ true) [
              | true ↦ λ e _. in_keys q (ap (λ b. is_some (cond b (Some n.1) (find row_cmp q ns))) e)
              | false ↦ λ e c. among q (omega (arith, c, more))
            ] refl (count-set_count row_key_total es k n.1 q) in
            let le = few_of keys set counts set_among in
            let test : nat_lt most_entries (length set) ≡ false = let short : length set ≤ most_entries = omega (arith, le, few) in grind (arith, nat_tests, short) in
            let once : change_row_once es k (change_between (number old k) n.1) ≡ Ok set =
            ap (λ r. then_do r (within_row k)) (one_made row_key_total same_row_key greatest_row row_below row_too_great old es n within.0 here) ∙ ap (λ b. cond b (Err (row_too_great k)) (Ok set)) test in
            ap (λ r. then_do r (λ fs. patched_row fs (moves row_cmp old ns))) once
            ∙ moves_make_row old set ns counts parts.1 within.1 (untouched row_key_total same_row_key greatest_row old es n ns parts.0 is) (λ q in_ns. in_keys q (next q in_ns)) set_among
      ] refl

-- the row with the numbers set is what the change makes
pub row_is_set : (es ns : Entries) → IsRow es → AreNumbers row_cmp greatest_row ns → length (joined row_cmp es ns) ≤ most_entries → patched_row es (moves row_cmp es ns) ≡ Ok (numbers_set row_cmp es ns)
row_is_set es ns row numbers few =
    let keys : Entries = joined row_cmp es ns in
    let none : AreCounts row_cmp greatest_row [] = record { sorted = tt; positive = tt; within = tt } in
    let both : (q : RowKey) → has keys q ≡ (has es q || has ns q) = λ q. in_joined row_key_total same_row_key greatest_row row_below row_too_great [] [] none es ns q in
    moves_make_row keys few es es ns row.counts numbers.sorted numbers.within (λ q _. refl) (λ q in_ns. both q ∙ or_right (has es q) (has ns q) in_ns) (λ q more. both q ∙ ap (λ b. b || has ns q) (counted_has es q more))

pub greatest_small : (k : RowKey) → greatest_row k ≤ 100000
greatest_small k = by (is_row_key k)
  where
    by : (b : Bool) → cond b 100000 0 ≤ 100000
    by true = lit≤ tt
    by false = lit≤ tt

pub row_small : (es : Entries) (k : RowKey) → IsRow es → count row_cmp es k ≤ 100000
row_small es k row = omega (arith, count_le row_key_total same_row_key greatest_row es k row.counts.within, greatest_small k)

pub number_small : (k : RowKey) (n : ℕ) → n ≤ greatest_row k → n ≤ 100000
number_small k n le = omega (arith, le, greatest_small k)

-- a change that is not empty makes another row
pub row_differs : (old ledger : Entries) (change : List (RowKey × ℤ)) → IsRow old → AreRowChanges change → patched_row old change ≡ Ok ledger → (change ≡ [] → ⊥) → row_ledger old ≡ row_ledger ledger → ⊥
row_differs old ledger change row are made some same =
    let back : patched_row old change ≡ Ok old = made ∙ ap (λ (l : Ledger). Ok l.rows) (sym same) in
    some (row_by_difference.alone old old change row row are.changes back ∙ no_difference row_cmp old)
