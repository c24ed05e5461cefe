use Rattle.std.proofs.Common.{ltb, arith, rules}
use Rattle.std.proofs.lemmas.List.Sorted.{IsPartitionPoint-from_clause, IsPartitionedBy-ltb}
use Rattle.running_parties.proofs.SlotPlacesLemmas.{never_falls, gap_at_end, gap_before, here_at}
use Rattle.running_parties.proofs.places.place_of.Goals as goal

pub returns-then-place-slots : goal.returns-then-place-slots
returns-then-place-slots g c =
    let es = c.args.slots.now in
    let n = c.args.number in
    let facts = c.partition_point-place.ensures in
    let parted = IsPartitionPoint-from_clause (λ e. ltb e.0 n) es c.partition_point-place.result facts.partitioned (IsPartitionedBy-ltb (λ e. e.0) es n (never_falls es c.requires)) (λ a r q k. search rules) in
    gap_at_end es n c.partition_point-place.result facts.bound c.if-place-slots.true parted.0

pub returns-then-slots-place : goal.returns-then-slots-place
returns-then-slots-place g c =
    let es = c.args.slots.now in
    let n = c.args.number in
    let i = c.partition_point-place.result in
    let facts = c.partition_point-place.ensures in
    let parted = IsPartitionPoint-from_clause (λ e. ltb e.0 n) es i facts.partitioned (IsPartitionedBy-ltb (λ e. e.0) es n (never_falls es c.requires)) (λ a r q k. search rules) in
    gap_before es n i c.index-slots-place.result c.if-place-slots.false parted.0 (parted.1 i c.index-slots-place.result (omega arith) c.if-place-slots.false) c.if-slots-place.true

pub returns : goal.returns
returns g c = here_at c.args.slots.now c.args.number c.partition_point-place.result c.index-slots-place.result c.if-place-slots.false c.if-slots-place.false
