use Rattle.std.proofs.Common.{None}
use Rattle.slot_pool.specs.Pools.{value_at}
use Rattle.wait_queue.proofs.QueuesLemmas.{pool_one, same_stands, linked_entries, middle_outside, outside_absent, stands_same, all_items}
use Rattle.wait_queue.proofs.law.standing_lists.Goals as goal

pub returns : goal.returns
returns c = record {
  one = λ p q items others h g. same_stands (value_at p) (pool_one p) q items others h g;
  entries = λ at q items h. linked_entries at None items None h.linked;
  distinct = λ at q front back slot entry h. middle_outside at q front back slot entry h;
  absent = λ at q items slot h none. outside_absent at None items None slot h.linked none;
  stays = λ at after q items h same. stands_same at after q items h (all_items (λ i. _) (λ i. same i.0) items);
}
