use Rattle.std.proofs.Common.{◌≡◌, ◌<◌, ◌≤◌, ℕ, List, length, get_or, replicate, sym, ap, subst, ◌∙◌, arith}
use Rattle.locality_tree.specs.Trees.{TreeRecord, all_units, no_unit, place_count}
use Rattle.locality_tree.proofs.ClusterLemmas.{few_racks, low_racks}
use Rattle.locality_tree.proofs.TreesLemmas.{tree_started, started_view}
use Rattle.locality_tree.proofs.tree.Tree.start.Goals as goal

abbrev with_none : List ℕ → TreeRecord
with_none racks = record { racks = racks; units = replicate all_units no_unit }

pub invariant_of-result : goal.invariant_of-result
invariant_of-result c =
    let racks = c.in_ok-racks.racks.items in
    let is = sym c.in_ok-racks.ensures.racks in
    let valid = c.racks_of.ensures.valid in
    let count : length c.in_ok-start.field-0.queues.items ≡ place_count racks = let n = c.in_ok-start.ensures.count in omega (arith, n) in
    tree_started racks c.in_ok-start.field-0 c.in_ok-start.ensures.slots c.in_ok-start.ensures.kept
    (subst (λ (rs : List ℕ). length rs ≤ 256) is (few_racks c.args.cluster.now valid))
    (subst (λ (rs : List ℕ). (m : ℕ) → m < length rs → get_or rs m 0 < 64) is (low_racks c.args.cluster.now valid)) count

pub returns : goal.returns
returns c =
    started_view c.in_ok-racks.racks.items c.in_ok-start.field-0 c.in_ok-start.ensures.slots
    ∙ ap with_none c.in_ok-racks.ensures.racks
