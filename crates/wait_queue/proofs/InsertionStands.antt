-- A queue into which an entry was put at its place stands as the list with it.
use Rattle.std.proofs.Common.{◌≡◌, ◌≢◌, ℕ, ◌<◌, Bool, true, cond, List, [], ◌∷◌, ◌++◌, length, get_or, set, drop, nat_eq, Option, Some, None, is_some, IsSome, refl, sym, ap, subst, ◌∙◌}
use Rattle.std.specs.Prelude.{IfSome}
use Rattle.std.specs.List.{AllByRecursion}
use Rattle.fuxi_terms.proofs.Alls.{all_more, all_append, all_front, all_back}
use Rattle.slot_pool.specs.declared.pool.Slot.{Slot}
use Rattle.wait_queue.specs.declared.node.Entry.{Entry}
use Rattle.wait_queue.specs.declared.node.Node.{Node}
use Rattle.wait_queue.specs.declared.queue.Queue.{Queue}
use Rattle.wait_queue.specs.Queues.{Item, is_before, IsInRange, AreBehind, IsInOrder, IsOutside, first_of, last_of, band, band_end, link, AreLinked, Stands, IsPlace}
use Rattle.wait_queue.specs.Neighbours.{Relinked, with_behind, with_before, Follows, nearest}
use Rattle.wait_queue.proofs.QueuesLemmas.{OnePerNumber, order_distinct, order_parts, order_append, linked_parts, linked_append, linked_same, first_append, first_live, last_live, outside_absent}
use Rattle.wait_queue.proofs.NeighboursLemmas.{AreParted, parted, back_stays, AreTied, tied, follows_last, first_tied}
use Rattle.wait_queue.proofs.BandEndsLemmas.{behind_place, ends_with}

-- what is known of both sides of a place, once a node stands at a slot that was not live
pub record BesidePlace (put : Slot → Option Node) (front : List Item) (s : Slot) (back : List Item) : Type 0 where
  pub are_parted : AreParted front back
  pub front_linked : AreLinked put None front (first_of back None)
  pub back_linked : AreLinked put (last_of None front) back None
  pub outside : IsOutside s (front ++ back)

pub beside_place : (at put : Slot → Option Node) (q : Queue) (e : Entry) (front : List Item) (s : Slot) (back : List Item) → IsPlace at q e front back → at s ≡ None → ((t : Slot) → t ≢ s → put t ≡ at t) → BesidePlace put front s back
beside_place at put q e front s back p absent kept =
    let h = p.stands in
    let linked = linked_parts at None front back None h.linked in
    let outside = outside_absent at None (front ++ back) None s h.linked absent in
    record {
      are_parted = parted front back (order_distinct at q.key_first None (front ++ back) None h.linked h.ordered);
      front_linked = linked_same at put None front (first_of back None) linked.0 (all_more (λ (i : Item). i.0 ≢ s) (λ (i : Item). put i.0 ≡ at i.0) (λ i d. kept i.0 d) front (all_front (λ (i : Item). i.0 ≢ s) front back outside));
      back_linked = linked_same at put (last_of None front) back None linked.1 (all_more (λ (i : Item). i.0 ≢ s) (λ (i : Item). put i.0 ≡ at i.0) (λ i d. kept i.0 d) back (all_back (λ (i : Item). i.0 ≢ s) front back outside));
      outside = outside;
    }

-- what stands first and what stands before a place are live, and what stands behind it is known by the node before it
module _ (at : Slot → Option Node) (q : Queue) (e : Entry) (front back : List Item) (p : IsPlace at q e front back) where
  pub before_live : (before : Option Slot) → before ≡ last_of None front → IfSome before (λ t. IsSome (at t))
  before_live before b = subst (λ (o : Option Slot). IfSome o (λ t. IsSome (at t))) (sym b) (last_live at None front (first_of back None) (linked_parts at None front back None p.stands.linked).0)

  pub begin_live : IfSome q.first (λ t. IsSome (at t))
  begin_live = subst (λ (o : Option Slot). IfSome o (λ t. IsSome (at t))) (sym p.stands.starts) (first_live at None (front ++ back) None p.stands.linked)

  pub follows : (before : Option Slot) → before ≡ last_of None front → Follows at before q.first (first_of back None)
  follows before b = subst (λ (o : Option Slot). Follows at o q.first (first_of back None)) (sym b) (follows_last at q.first None front back None p.stands.linked p.stands.starts)

-- both neighbours are live when they are tied
module _ (at put : Slot → Option Node) (q : Queue) (e : Entry) (front : List Item) (s : Slot) (back : List Item) (p : IsPlace at q e front back) (absent : at s ≡ None) (kept : (t : Slot) → t ≢ s → put t ≡ at t) where
  pub before_tied : (before : Option Slot) → before ≡ last_of None front → IfSome before (λ t. IsSome (put t))
  before_tied before b = subst (λ (o : Option Slot). IfSome o (λ t. IsSome (put t))) (sym b) (last_live put None front (first_of back None) (beside_place at put q e front s back p absent kept).front_linked)

  pub behind_tied : (between : Slot → Option Node) (before : Option Slot) (change : Node → Node) → before ≡ last_of None front → Relinked put between before change → IfSome (first_of back None) (λ t. IsSome (between t))
  behind_tied between before change b one =
      let sides = beside_place at put q e front s back p absent kept in
      let tie : Relinked put between (last_of None front) change = subst (λ (o : Option Slot). Relinked put between o change) b one in
      first_live between (last_of None front) back None (back_stays put between front back (last_of None front) None change sides.are_parted sides.back_linked tie)

-- An insertion as its calls tell it: the node is put, what stands before it and what stands behind it are tied to it, and the ends are set.
pub record Inserts (at put between after : Slot → Option Node) (q more : Queue) (s : Slot) (e : Entry) (before behind : Option Slot) : Type 0 where
  pub absent : at s ≡ None
  pub node : put s ≡ Some (record { entry = e; before = link before; behind = link behind })
  pub kept : (t : Slot) → t ≢ s → put t ≡ at t
  pub one : Relinked put between before (with_behind (link (Some s)))
  pub two : Relinked between after behind (with_before (link (Some s)))
  pub key_first : more.key_first ≡ q.key_first
  pub first : more.first ≡ cond (is_some before) q.first (Some s)
  pub long : band q.key_first e < length q.ends
  pub ends : more.ends ≡ cond (nat_eq (link before).0 (nearest (drop (band q.key_first e) q.ends)).0) (set q.ends (band q.key_first e) (link (Some s))) q.ends

module _ (at put between after : Slot → Option Node) (q more : Queue) (s : Slot) (e : Entry) (before behind : Option Slot) (r : Inserts at put between after q more s e before behind)
    (front back : List Item) (p : IsPlace at q e front back) (is_before_last : before ≡ last_of None front) (is_behind_first : behind ≡ first_of back None) where
  sides : BesidePlace put front s back
  sides = beside_place at put q e front s back p r.absent r.kept

  ties : AreTied put after front back (Some s) (Some s)
  ties = tied put between after front back (last_of None front) (first_of back None) (Some s) (Some s) sides.are_parted sides.front_linked sides.back_linked
      (subst (λ (o : Option Slot). Relinked put between o (with_behind (link (Some s)))) is_before_last r.one)
      (subst (λ (o : Option Slot). Relinked between after o (with_before (link (Some s)))) is_behind_first r.two)

  node_stands : after s ≡ Some (record { entry = e; before = link (last_of None front); behind = link (first_of back None) })
  node_stands =
      let linked : Option Slot → Option Slot → Node = λ b f. record { entry = e; before = link b; behind = link f } in
      ties.rest s sides.outside ∙ r.node ∙ ap (λ (o : Option Slot). Some (linked o behind)) is_before_last ∙ ap (λ (o : Option Slot). Some (linked (last_of None front) o)) is_behind_first

  pub more_stands : OnePerNumber at → IsInRange e → Stands after more (front ++ (s, e) ∷ back)
  more_stands one range =
      let order = order_parts q.key_first front back p.stands.ordered in
      record {
        linked = linked_append after None front ((s, e) ∷ back) None ties.front_linked (node_stands, ties.back_linked);
        starts = r.first ∙ ap (λ (o : Option Slot). cond (is_some o) q.first (Some s)) is_before_last
            ∙ first_tied front q.first (Some s) (first_of back None) (Some s) (p.stands.starts ∙ first_append front back None) refl ∙ sym (first_append front ((s, e) ∷ back) None);
        ends = subst (λ (k : Bool). (b : ℕ) → get_or more.ends b (link None) ≡ link (band_end k b None (front ++ (s, e) ∷ back))) (sym r.key_first)
            (ends_with q.key_first q.ends more.ends front s e back r.long _ (behind_place at q e front back (band q.key_first e) (nearest (drop (band q.key_first e) q.ends)) p refl refl one (link before) (ap link is_before_last)) p.stands.ends r.ends);
        ordered = subst (λ (k : Bool). IsInOrder k (front ++ (s, e) ∷ back)) (sym r.key_first)
            (order_append q.key_first front ((s, e) ∷ back) order.0 (p.back_behind, order.1) (both front p.front_before order.2));
        in_range = all_append (λ (i : Item). IsInRange i.1) front ((s, e) ∷ back) (all_front (λ (i : Item). IsInRange i.1) front back p.stands.in_range) (range, all_back (λ (i : Item). IsInRange i.1) front back p.stands.in_range);
      }
    where
      both : (xs : List Item) → AllByRecursion (λ (i : Item). is_before q.key_first i.1 e ≡ true) xs → AllByRecursion (λ (i : Item). AreBehind q.key_first i.1 back) xs → AllByRecursion (λ (i : Item). AreBehind q.key_first i.1 ((s, e) ∷ back)) xs
      both [] h g = tt
      both (x ∷ xs) h g = ((h.0, g.0), both xs h.1 g.1)

  -- no other slot changes
  pub others_stay : (t : Slot) → IsOutside t (front ++ back) → t ≢ s → after t ≡ at t
  others_stay t o other = ties.rest t o ∙ r.kept t other
