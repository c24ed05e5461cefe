use Rattle.std.proofs.Common.{rules, tests, ◌<◌, ◌≤◌, ◌≡◌, ◌∙◌, ℕ, nat_eq, true, false, get_or, sym, subst, arith}
use Rattle.std.specs.Prelude.{T, ltb}
use Rattle.std.specs.FinMap.Entries.{is_sorted, is_sorted-where_key}
use Rattle.std.proofs.lemmas.Bool.Decides.{nat_tests}
use Rattle.std.proofs.lemmas.List.Sorted.{IsPartitionPoint-from_clause, IsPartitionedBy-ltb}
use Rattle.fuxi_terms.specs.declared.Key.{Key}
use Rattle.fuxi_terms.specs.Keys.{key_cmp}
use Rattle.allotment.proofs.LastKinds.{kinds_rise, last_part}
use Rattle.allotment.proofs.credits.of_last_kind.Goals as goal

is_below : (n w : ℕ) → ltb n w ≡ true → n < w
is_below n w h = grind (arith, nat_tests)

is_not_below : (n w : ℕ) → ltb n w ≡ false → w ≤ n
is_not_below n w h = grind (arith, nat_tests)

pub returns-clause-run : goal.returns-clause-run
returns-clause-run c =
    let es = c.args.entries.now in
    let w = c.args.what in
    let first = c.partition_point-first.result in
    let bound = c.partition_point-first.ensures.bound in
    let rise = IsPartitionedBy-ltb (λ (e : Key × ℕ). e.0.what) es w (kinds_rise es c.requires.sorted) in
    let point = IsPartitionPoint-from_clause (λ (e : Key × ℕ). ltb e.0.what w) es first c.partition_point-first.ensures.partitioned rise (λ a r q k. search (rules, tests)) in
    c.split_at.ensures.back
    ∙ last_part w first es bound c.requires.last
    (λ i d lt. is_below (get_or es i d).0.what w (point.0 i d (omega (arith, lt, bound)) lt))
    (λ i d le lt. is_not_below (get_or es i d).0.what w (point.1 i d le lt))

pub returns-clause-sorted : goal.returns-clause-sorted
returns-clause-sorted c = subst (λ es. T (is_sorted key_cmp es)) (sym (returns-clause-run c)) (is_sorted-where_key key_cmp (λ k. nat_eq k.what c.args.what) c.args.entries.now c.requires.sorted)
