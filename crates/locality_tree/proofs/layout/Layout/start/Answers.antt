use Rattle.std.proofs.Common.{◌≡◌, ◌≤◌, ◌-◌, ℕ, List, [], replicate, refl, sym, ap, subst, ◌∙◌, arith}
use Rattle.slot_pool.specs.Pools.{PoolRecord, value_at}
use Rattle.wait_queue.specs.declared.node.Node.{Node}
use Rattle.locality_tree.specs.declared.layout.UnitSlots.{UnitSlots}
use Rattle.locality_tree.specs.Trees.{all_units}
use Rattle.locality_tree.specs.PlaceSets.{is_marked}
use Rattle.locality_tree.specs.Layouts.{slots_seen, numbers_of, sets_of}
use Rattle.locality_tree.proofs.NumbersLemmas.{seen_empty}
use Rattle.locality_tree.proofs.PlaceSetsLemmas.{none_set}
use Rattle.locality_tree.proofs.VacantLemmas.{kept_empty}
use Rattle.locality_tree.proofs.layout.Layout.start.Goals as goal

none_seen : (pool : PoolRecord Node) (units : List UnitSlots) → units ≡ [] → slots_seen pool (sets_of units) (numbers_of units) ≡ replicate all_units []
none_seen pool units none = ap (λ (us : List UnitSlots). slots_seen pool (sets_of us) (numbers_of us)) none ∙ seen_empty pool [] (all_units - 0) ∙ ap (λ (k : ℕ). replicate k []) (let all : all_units - 0 ≡ all_units = omega arith in all)

pub returns-clause-slots : goal.returns-clause-slots
returns-clause-slots c = none_seen c.in_ok-with_room.field-0 c.new.result.items c.new.ensures.items

pub returns-clause-kept : goal.returns-clause-kept
returns-clause-kept c =
    let pool = c.in_ok-with_room.field-0 in
    let units = c.new.result.items in
    let count = c.in_ok-empty_queues.ensures.count in
    kept_empty (value_at pool) pool.spare c.in_ok-empty_queues.field-0.items (slots_seen pool (sets_of units) (numbers_of units)) (sets_of units) all_units (none_seen pool units c.new.ensures.items) c.in_ok-empty_queues.ensures.empty (subst (λ (k : ℕ). k ≤ 384) (sym count) c.requires)
    (λ n place. ap (λ (us : List UnitSlots). is_marked (sets_of us) n place) c.new.ensures.items ∙ none_set [] 0 place refl)
