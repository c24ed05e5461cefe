use Rattle.std.proofs.Common.{rules, ℕ}
use Rattle.std.specs.Ordering.{is_lt}
use Rattle.std.proofs.lemmas.List.Sorted.{IsPartitionPoint-from_clause}
use Rattle.fuxi_terms.specs.declared.Key.{Key}
use Rattle.fuxi_terms.specs.Keys.{key_cmp}
use Rattle.app_master.proofs.NextCounted.{parted}
use Rattle.app_master.proofs.tallies.place_of.Goals as goal

pub returns : goal.returns
returns c =
    let es = c.args.entries.now in
    let k = c.args.sought.now in
    IsPartitionPoint-from_clause (λ (e : Key × ℕ). is_lt (key_cmp e.0 k)) es c.partition_point.result c.partition_point.ensures.partitioned (parted k es c.requires) (λ a r q k. search rules)
