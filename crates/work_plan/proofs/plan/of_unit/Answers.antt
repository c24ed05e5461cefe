use Rattle.std.proofs.Common.{rules, tests, ◌≡◌, ℕ, ◌<◌, ◌≤◌, true, false, List, length, take, drop, get_or, sym, ◌∙◌, ap, subst, arith}
use Rattle.std.specs.List.Sorted.{IsNonDecreasingBy}
use Rattle.work_plan.specs.PlanKeys.{of_unit}
use Rattle.work_plan.specs.Crews.{AreNumbers}
use Rattle.std.specs.Prelude.{leb, ltb}
use Rattle.std.proofs.lemmas.Bool.Decides.{nat_tests}
use Rattle.std.proofs.lemmas.List.Sorted.{IsPartitionPoint-from_clause, IsPartitionedBy-ltb, IsPartitionedBy-leb, IsNonDecreasingBy-drop}
use Rattle.fuxi_terms.specs.declared.Key.{Key}
use Rattle.work_plan.proofs.PlanKeysLemmas.{unit_part, plan_rises, named_are_numbers, none_beyond, all_named}
use Rattle.work_plan.proofs.plan.of_unit.Goals as goal

abbrev unit_is : Key × ℕ → ℕ
unit_is e = e.0.unit

is_below : (n u : ℕ) → ltb n u ≡ true → n < u
is_below n u h = grind (arith, nat_tests)

is_not_below : (n u : ℕ) → ltb n u ≡ false → u ≤ n
is_not_below n u h = grind (arith, nat_tests)

is_upto : (n u : ℕ) → leb n u ≡ true → n ≤ u
is_upto n u h = grind (arith, nat_tests)

is_above : (n u : ℕ) → leb n u ≡ false → u < n
is_above n u h = grind (arith, nat_tests)

pub returns-clause-entries : goal.returns-clause-entries
returns-clause-entries c =
    let es = c.entries-entries.result.now in
    let same = c.entries-entries.ensures.entries in
    let u = c.args.unit.0 in
    let rise = subst (IsNonDecreasingBy unit_is) (sym same) (plan_rises c.args.plan.now.entries c.entries-entries.ensures.counts) in
    let first = c.partition_point-first.result in
    let one = IsPartitionPoint-from_clause (λ (e : Key × ℕ). ltb e.0.unit u) es first c.partition_point-first.ensures.partitioned (IsPartitionedBy-ltb unit_is es u rise) (λ a r q k. search (rules, tests)) in
    let back = c.split_at.result.1.now in
    let behind : back ≡ drop first es = c.split_at.ensures.back in
    let later = subst (IsNonDecreasingBy unit_is) (sym behind) (IsNonDecreasingBy-drop unit_is first es rise) in
    let count = c.partition_point-count.result in
    let two = IsPartitionPoint-from_clause (λ (e : Key × ℕ). leb e.0.unit u) back count c.partition_point-count.ensures.partitioned (IsPartitionedBy-leb unit_is back u later) (λ a r q k. search (rules, tests)) in
    c.split_at-2.ensures.front ∙ ap (take count) behind
    ∙ unit_part u es first count c.partition_point-first.ensures.bound (subst (λ xs. count ≤ length xs) behind c.partition_point-count.ensures.bound)
    (λ i d lt. is_below (get_or es i d).0.unit u (one.0 i d (omega arith) lt))
    (λ i d le lt. is_not_below (get_or es i d).0.unit u (one.1 i d le lt))
    (λ i d lt. is_upto (get_or (drop first es) i d).0.unit u (subst (λ (xs : List (Key × ℕ)). leb (get_or xs i d).0.unit u ≡ true) behind (two.0 i d (omega arith) lt)))
    (λ i d le lt. is_above (get_or (drop first es) i d).0.unit u (subst (λ (xs : List (Key × ℕ)). leb (get_or xs i d).0.unit u ≡ false) behind (two.1 i d le (subst (λ xs. i < length xs) (sym behind) lt))))
    ∙ ap (of_unit u) same

pub returns-clause-numbers : goal.returns-clause-numbers
returns-clause-numbers c = subst AreNumbers (sym (returns-clause-entries c)) (named_are_numbers c.args.unit.0 c.args.plan.now.entries c.entries-entries.ensures.counts)

pub returns-clause-none : goal.returns-clause-none
returns-clause-none c le = let h = c.entries-entries.ensures.counts in returns-clause-entries c ∙ none_beyond c.args.unit.0 c.args.plan.now.entries le (all_named c.args.plan.now.entries h.positive h.within)
