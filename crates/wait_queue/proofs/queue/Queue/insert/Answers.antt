use Rattle.std.proofs.Common.{◌≡◌, ◌≢◌, ◌++◌, ℕ, List, Option, None, Some, is_some, cond, drop, set, nat_eq, sym, refl, ap, subst, ◌∙◌, arith}
use Rattle.std.specs.Prelude.{IfSome, IsSome}
use Rattle.slot_pool.specs.declared.pool.Slot.{Slot}
use Rattle.slot_pool.specs.Pools.{value_at}
use Rattle.wait_queue.specs.declared.node.Link.{Link}
use Rattle.wait_queue.specs.declared.node.Node.{Node}
use Rattle.wait_queue.specs.Queues.{Item, IsOutside, IsPlace, Stands, first_of, last_of, link}
use Rattle.wait_queue.specs.Neighbours.{Relinked, with_behind, with_before, nearest}
use Rattle.wait_queue.proofs.QueuesLemmas.{has_place, pool_one, same_stands, stands_same, all_both, outside_absent}
use Rattle.wait_queue.proofs.BandEndsLemmas.{walk_to_place, place_found}
use Rattle.wait_queue.proofs.InsertionStands.{before_live, begin_live, follows, before_tied, behind_tied, Inserts, more_stands, others_stay}
use Rattle.wait_queue.proofs.queue.Queue.insert.Goals as goal

pub place_of-before-requires : goal.place_of-before-requires
place_of-before-requires c =
    let p = has_place _ _ _ c.requires.enters in
    let w = walk_to_place _ _ _ p.front p.back c.band_of-band.result c.nearest_end-end.result p.is_place c.band_of-band.ensures.band c.nearest_end-end.ensures c.slot-start.result c.slot-start.ensures in
    record { front = p.front; middle = w.middle; next = w.next; walks = w.walks }

pub to-to_before-requires : goal.to-to_before-requires
to-to_before-requires c =
    let p = has_place _ _ _ c.requires.enters in
    before_live _ _ _ p.front p.back p.is_place c.place_of-before.result (place_found _ _ _ p.front p.back c.band_of-band.result c.nearest_end-end.result p.is_place c.band_of-band.ensures.band c.nearest_end-end.ensures c.slot-start.result c.place_of-before.result c.slot-start.ensures c.place_of-before.ensures)

pub behind_of-to_behind-requires-clause-live : goal.behind_of-to_behind-requires-clause-live
behind_of-to_behind-requires-clause-live c =
    let p = has_place _ _ _ c.requires.enters in
    before_live _ _ _ p.front p.back p.is_place c.place_of-before.result (place_found _ _ _ p.front p.back c.band_of-band.result c.nearest_end-end.result p.is_place c.band_of-band.ensures.band c.nearest_end-end.ensures c.slot-start.result c.place_of-before.result c.slot-start.ensures c.place_of-before.ensures)

pub behind_of-to_behind-requires-clause-first : goal.behind_of-to_behind-requires-clause-first
behind_of-to_behind-requires-clause-first c =
    let p = has_place _ _ _ c.requires.enters in
    begin_live _ _ _ p.front p.back p.is_place

pub tie_behind-requires-clause-live : goal.tie_behind-requires-clause-live
tie_behind-requires-clause-live c =
    let p = has_place _ _ _ c.requires.enters in
    before_tied _ (value_at c.put-slot.new.self) _ _ p.front c.put-slot.result p.back p.is_place c.put-slot.ensures.absent c.put-slot.ensures.others c.place_of-before.result (place_found _ _ _ p.front p.back c.band_of-band.result c.nearest_end-end.result p.is_place c.band_of-band.ensures.band c.nearest_end-end.ensures c.slot-start.result c.place_of-before.result c.slot-start.ensures c.place_of-before.ensures)

pub tie_behind-requires-clause-to : goal.tie_behind-requires-clause-to
tie_behind-requires-clause-to c = ap is_some c.put-slot.ensures.put

pub tie_before-requires : goal.tie_before-requires
tie_before-requires c =
    let p = has_place _ _ _ c.requires.enters in
    let b = place_found _ _ _ p.front p.back c.band_of-band.result c.nearest_end-end.result p.is_place c.band_of-band.ensures.band c.nearest_end-end.ensures c.slot-start.result c.place_of-before.result c.slot-start.ensures c.place_of-before.ensures in
    let live = behind_tied _ (value_at c.put-slot.new.self) _ _ p.front c.put-slot.result p.back p.is_place c.put-slot.ensures.absent c.put-slot.ensures.others (value_at c.tie_behind.new.pool) c.place_of-before.result (with_behind (link (Some c.put-slot.result))) b c.tie_behind.ensures.tied in
    let to = c.behind_of-to_behind.ensures (first_of p.back None) (follows _ _ _ p.front p.back p.is_place c.place_of-before.result b) in
    subst (λ (o : Option Slot). IfSome o (λ t. IsSome (value_at c.tie_behind.new.pool t))) (sym (c.slot-behind.ensures (first_of p.back None) to live)) live

-- what stands before and behind a place, as the calls tell it
before : (c : goal.After-tie_before) (front back : List Item) → IsPlace (value_at c.args.pool.now) c.args.self.now c.args.entry front back → c.place_of-before.result ≡ last_of None front
before c front back p = place_found _ _ _ front back c.band_of-band.result c.nearest_end-end.result p c.band_of-band.ensures.band c.nearest_end-end.ensures c.slot-start.result c.place_of-before.result c.slot-start.ensures c.place_of-before.ensures

leads_behind : (c : goal.After-tie_before) (front back : List Item) → IsPlace (value_at c.args.pool.now) c.args.self.now c.args.entry front back → c.behind_of-to_behind.result ≡ link (first_of back None)
leads_behind c front back p = c.behind_of-to_behind.ensures (first_of back None) (follows _ _ _ front back p c.place_of-before.result (before c front back p))

-- what stands behind is live still when it is tied
behind_live : (c : goal.After-tie_before) (front back : List Item) → IsPlace (value_at c.args.pool.now) c.args.self.now c.args.entry front back → IfSome (first_of back None) (λ t. IsSome (value_at c.tie_behind.new.pool t))
behind_live c front back p = behind_tied _ (value_at c.put-slot.new.self) _ _ front c.put-slot.result back p c.put-slot.ensures.absent c.put-slot.ensures.others (value_at c.tie_behind.new.pool) c.place_of-before.result (with_behind (link (Some c.put-slot.result))) (before c front back p) c.tie_behind.ensures.tied

behind : (c : goal.After-tie_before) (front back : List Item) → IsPlace (value_at c.args.pool.now) c.args.self.now c.args.entry front back → c.slot-behind.result ≡ first_of back None
behind c front back p = c.slot-behind.ensures (first_of back None) (leads_behind c front back p) (behind_live c front back p)

-- the insertion as its calls tell it
inserts : (c : goal.After-tie_before) → Inserts (value_at c.args.pool.now) (value_at c.put-slot.new.self) (value_at c.tie_behind.new.pool) (value_at c.tie_before.new.pool) c.args.self.now
    (record { key_first = c.args.self.now.key_first; first = c.tie_behind.new.first; ends = c.set_end.new.ends }) c.put-slot.result c.args.entry c.place_of-before.result c.slot-behind.result
inserts c =
    let p = has_place _ _ _ c.requires.enters in
    let node : Link → Link → Node = λ x y. record { entry = c.args.entry; before = x; behind = y } in
    let links : List Link = c.args.self.now.ends in
    let between = value_at c.tie_behind.new.pool in
    record {
      absent = c.put-slot.ensures.absent;
      node = c.put-slot.ensures.put ∙ ap (λ x. Some (node x c.behind_of-to_behind.result)) c.to-to_before.ensures
          ∙ ap (λ y. Some (node (link c.place_of-before.result) y)) (leads_behind c p.front p.back p.is_place ∙ ap link (sym (behind c p.front p.back p.is_place)));
      kept = c.put-slot.ensures.others;
      one = c.tie_behind.ensures.tied;
      two = subst (λ (l : Link). Relinked between (value_at c.tie_before.new.pool) c.slot-behind.result (with_before l)) c.to-own.ensures c.tie_before.ensures.tied;
      key_first = refl;
      first = c.tie_behind.ensures.first;
      long = let is = c.band_of-band.ensures.band in let inside = c.band_of-band.ensures.inside in omega (arith, is, inside);
      ends = c.set_end.ensures ∙ ap (λ b. cond b (set links c.band_of-band.result c.to-own.result) links) c.is.ensures
          ∙ ap (λ (l : Link). cond (nat_eq l.0 c.nearest_end-end.result.0) (set links c.band_of-band.result c.to-own.result) links) c.to-to_before.ensures
          ∙ ap (λ (l : Link). cond (nat_eq (link c.place_of-before.result).0 l.0) (set links c.band_of-band.result c.to-own.result) links) c.nearest_end-end.ensures
          ∙ ap (λ (l : Link). cond (nat_eq (link c.place_of-before.result).0 (nearest (drop c.band_of-band.result links)).0) (set links c.band_of-band.result l) links) c.to-own.ensures
          ∙ ap (λ (b : ℕ). cond (nat_eq (link c.place_of-before.result).0 (nearest (drop b links)).0) (set links b (link (Some c.put-slot.result))) links) c.band_of-band.ensures.band;
    }

-- no slot changes but those of a list as which the queue stood, and the new one
stays : (c : goal.After-tie_before) (items : List Item) → Stands (value_at c.args.pool.now) c.args.self.now items → (slot : Slot) → IsOutside slot items → slot ≢ c.put-slot.result → value_at c.tie_before.new.pool slot ≡ value_at c.args.pool.now slot
stays c items stands slot outside other =
    let p = has_place _ _ _ c.requires.enters in
    let same : items ≡ p.front ++ p.back = same_stands (value_at c.args.pool.now) (pool_one c.args.pool.now) c.args.self.now items _ stands p.is_place.stands in
    others_stay _ _ _ _ _ _ _ _ _ _ (inserts c) p.front p.back p.is_place (before c p.front p.back p.is_place) (behind c p.front p.back p.is_place) slot (subst (λ (l : List Item). IsOutside slot l) same outside) other

pub returns-clause-placed : goal.returns-clause-placed
returns-clause-placed c = λ front back p. more_stands _ _ _ _ _ _ _ _ _ _ (inserts c) front back p (before c front back p) (behind c front back p) (pool_one c.args.pool.now) c.check_range.ensures

pub returns-clause-rest : goal.returns-clause-rest
returns-clause-rest c = stays c

pub returns-clause-others : goal.returns-clause-others
returns-clause-others c = λ items theirs other stands theirs_stand apart.
    stands_same _ _ other theirs theirs_stand (all_both (λ (i : Item). IsOutside i.0 items) (λ (i : Item). i.0 ≢ c.put-slot.result) (λ (i : Item). value_at c.tie_before.new.pool i.0 ≡ value_at c.args.pool.now i.0)
    (λ i outside differs. stays c items stands i.0 outside differs) theirs apart (outside_absent _ None theirs None c.put-slot.result theirs_stand.linked c.put-slot.ensures.absent))
