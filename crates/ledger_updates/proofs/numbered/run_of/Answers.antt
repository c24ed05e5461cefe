use Rattle.std.proofs.Common.{◌≡◌, ◌-◌, ◌+◌, ◌<◌, leb, ltb, nat_eq, false, true, get_or, length, drop, take, sym, ◌∙◌, ap, subst, arith, rules}
use Rattle.std.proofs.lemmas.Bool.Decides.{nat_tests}
use Rattle.std.proofs.lemmas.List.{length-drop, get_or-drop, take_all}
use Rattle.std.proofs.lemmas.List.Sorted.{IsPartitionPoint-from_clause, IsPartitionedBy-leb, IsPartitionedBy-ltb, IsNonDecreasingBy-drop}
use Rattle.std.specs.List.Sorted.{IsNonDecreasingBy}
use Rattle.ledger_updates.proofs.OfNumbersLemmas.{passed_over, run_passes}
use Rattle.ledger_updates.proofs.numbered.run_of.Goals as goal

pub returns : goal.returns
returns g c =
    let xs = c.args.entries.now in
    let n = c.args.number in
    let from = c.partition_point.result in
    let rest = take (length xs - from) (drop from xs) in
    let left : length (drop from xs) ≡ length xs - from = length-drop from xs in
    let whole : rest ≡ drop from xs = take_all (length xs - from) (drop from xs) (omega (arith, left)) in
    let rises = IsNonDecreasingBy-drop (λ e. e.0) from xs c.requires in
    let first = IsPartitionPoint-from_clause (λ e. ltb e.0 n) xs from c.partition_point.ensures.partitioned (IsPartitionedBy-ltb (λ e. e.0) xs n c.requires) (λ a r q k. search rules) in
    let partitioned = subst (λ ys. IsNonDecreasingBy (λ e. e.0) ys) (sym whole) rises in
    let second = IsPartitionPoint-from_clause (λ e. leb e.0 n) rest c.partition_point-2.result c.partition_point-2.ensures.partitioned (IsPartitionedBy-leb (λ e. e.0) rest n partitioned) (λ a r q k. search rules) in
    ap (take c.partition_point-2.result) whole
    ∙ run_passes (λ e. nat_eq e.0 n) c.partition_point-2.result (drop from xs)
    (λ k d lt.
    let bound = c.partition_point-2.ensures.bound in
    let most = ap length whole in
    let low : ltb (get_or (drop from xs) k d).0 n ≡ false = ap (λ e. ltb e.0 n) (get_or-drop from xs k d) ∙ first.1 (from + k) d (omega arith) (omega (arith, lt, left, bound, most)) in
    let high = subst (λ ys. leb (get_or ys k d).0 n ≡ true) whole (second.0 k d (omega arith) lt) in
    grind (arith, nat_tests, low, high))
    (λ k d le lt. let high = subst (λ ys. leb (get_or ys k d).0 n ≡ false) whole (second.1 k d le (subst (λ ys. k < length ys) (sym whole) lt)) in grind (arith, nat_tests, high))
    ∙ passed_over (λ e. nat_eq e.0 n) from xs (λ k d lt. let low = first.0 k d (omega arith) lt in grind (arith, nat_tests, low))
