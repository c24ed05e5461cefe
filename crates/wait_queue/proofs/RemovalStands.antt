-- A queue from which an entry was taken out stands as the list without it.
use Rattle.std.proofs.Common.{◌≡◌, ◌≢◌, ℕ, ◌<◌, Bool, true, false, cond, List, [], ◌∷◌, ◌++◌, length, get_or, Option, Some, None, is_some, IsSome, refl, sym, ap, subst, ◌∙◌}
use Rattle.std.specs.Prelude.{IfSome}
use Rattle.std.proofs.lemmas.Option.{same_Some}
use Rattle.fuxi_terms.proofs.Alls.{all_more, all_append, all_front, all_back}
use Rattle.slot_pool.specs.declared.pool.Slot.{Slot}
use Rattle.wait_queue.specs.declared.node.Entry.{Entry}
use Rattle.wait_queue.specs.declared.node.Link.{Link}
use Rattle.wait_queue.specs.declared.node.Node.{Node}
use Rattle.wait_queue.specs.declared.queue.Queue.{Queue}
use Rattle.wait_queue.specs.Queues.{Item, IsInRange, AreBehind, IsInOrder, IsOutside, first_of, last_of, band, band_end, link, AreLinked, Stands}
use Rattle.wait_queue.specs.Neighbours.{Relinked, with_behind, with_before, has_band, ends_without}
use Rattle.wait_queue.proofs.QueuesLemmas.{OnePerNumber, AreDistinct, order_distinct, order_parts, order_append, linked_parts, linked_append, linked_same, first_append, first_live, last_live, middle_node, middle_outside}
use Rattle.wait_queue.proofs.NeighboursLemmas.{AreParted, parted, back_stays, AreTied, tied, first_tied}
use Rattle.wait_queue.proofs.BandEndsLemmas.{behind_item, before_tells, ends_left}

-- what is known of both sides of an item, once its node is gone
pub record BesideItem (gone : Slot → Option Node) (front : List Item) (s : Slot) (back : List Item) : Type 0 where
  pub are_parted : AreParted front back
  pub front_linked : AreLinked gone None front (Some s)
  pub back_linked : AreLinked gone (Some s) back None

without_middle : (front : List Item) (x : Item) (back : List Item) → AreDistinct (front ++ x ∷ back) → AreDistinct (front ++ back)
without_middle [] x back d = d.1
without_middle (y ∷ ys) x back d = (
  all_append (λ (i : Item). i.0 ≢ y.0) ys back (all_front (λ (i : Item). i.0 ≢ y.0) ys (x ∷ back) d.0) (all_back (λ (i : Item). i.0 ≢ y.0) ys (x ∷ back) d.0).1,
  without_middle ys x back d.1,
)

pub beside_item : (at gone : Slot → Option Node) (q : Queue) (front : List Item) (s : Slot) (e : Entry) (back : List Item) → Stands at q (front ++ (s, e) ∷ back) → ((t : Slot) → t ≢ s → gone t ≡ at t) → BesideItem gone front s back
beside_item at gone q front s e back h kept =
    let linked = linked_parts at None front ((s, e) ∷ back) None h.linked in
    let outside = middle_outside at q front back s e h in
    record {
      are_parted = parted front back (without_middle front (s, e) back (order_distinct at q.key_first None (front ++ (s, e) ∷ back) None h.linked h.ordered));
      front_linked = linked_same at gone None front (Some s) linked.0 (all_more (λ (i : Item). i.0 ≢ s) (λ (i : Item). gone i.0 ≡ at i.0) (λ i d. kept i.0 d) front (all_front (λ (i : Item). i.0 ≢ s) front back outside));
      back_linked = linked_same at gone (Some s) back None linked.1.1 (all_more (λ (i : Item). i.0 ≢ s) (λ (i : Item). gone i.0 ≡ at i.0) (λ i d. kept i.0 d) back (all_back (λ (i : Item). i.0 ≢ s) front back outside));
    }

-- The neighbours of a node that was taken, as they are looked up by the numbers that it links to, and that they are live when they are tied.
module _ (at gone : Slot → Option Node) (q : Queue) (front : List Item) (s : Slot) (e : Entry) (back : List Item) (n : Node) (h : Stands at q (front ++ (s, e) ∷ back)) (took : at s ≡ Some n) (kept : (t : Slot) → t ≢ s → gone t ≡ at t) where
  node_is : n ≡ record { entry = e; before = link (last_of None front); behind = link (first_of back None) }
  node_is = same_Some n _ (sym took ∙ middle_node at q front s e back h)

  pub entry_is : n.entry ≡ e
  entry_is = ap (λ (m : Node). m.entry) node_is

  pub leads_before : n.before ≡ link (last_of None front)
  leads_before = ap (λ (m : Node). m.before) node_is

  pub before_is : (before : Option Slot) → ((slot : Option Slot) → n.before ≡ link slot → IfSome slot (λ t. IsSome (gone t)) → before ≡ slot) → before ≡ last_of None front
  before_is before told = told (last_of None front) (ap (λ (m : Node). m.before) node_is) (last_live gone None front (Some s) (beside_item at gone q front s e back h kept).front_linked)

  pub behind_is : (behind : Option Slot) → ((slot : Option Slot) → n.behind ≡ link slot → IfSome slot (λ t. IsSome (gone t)) → behind ≡ slot) → behind ≡ first_of back None
  behind_is behind told = told (first_of back None) (ap (λ (m : Node). m.behind) node_is) (first_live gone (Some s) back None (beside_item at gone q front s e back h kept).back_linked)

  pub before_live : (before : Option Slot) → before ≡ last_of None front → IfSome before (λ t. IsSome (gone t))
  before_live before b = subst (λ (o : Option Slot). IfSome o (λ t. IsSome (gone t))) (sym b) (last_live gone None front (Some s) (beside_item at gone q front s e back h kept).front_linked)

  pub behind_live : (behind : Option Slot) → behind ≡ first_of back None → IfSome behind (λ t. IsSome (gone t))
  behind_live behind f = subst (λ (o : Option Slot). IfSome o (λ t. IsSome (gone t))) (sym f) (first_live gone (Some s) back None (beside_item at gone q front s e back h kept).back_linked)

  pub behind_tied : (between : Slot → Option Node) (before behind : Option Slot) (change : Node → Node) → before ≡ last_of None front → behind ≡ first_of back None → Relinked gone between before change → IfSome behind (λ t. IsSome (between t))
  behind_tied between before behind change b f one =
      let sides = beside_item at gone q front s e back h kept in
      let tie : Relinked gone between (last_of None front) change = subst (λ (o : Option Slot). Relinked gone between o change) b one in
      subst (λ (o : Option Slot). IfSome o (λ t. IsSome (between t))) (sym f) (first_live between (Some s) back None (back_stays gone between front back (Some s) None change sides.are_parted sides.back_linked tie))

-- A removal as its calls tell it: the node is taken, what stood before it and what stood behind it are tied to one another, and the ends are set.
pub record Removes (at gone between after : Slot → Option Node) (q left : Queue) (s : Slot) (taken_entry : Entry) (before behind : Option Slot) (to_before : Link) : Type 0 where
  pub taken : gone s ≡ None
  pub kept : (t : Slot) → t ≢ s → gone t ≡ at t
  pub one : Relinked gone between before (with_behind (link behind))
  pub two : Relinked between after behind (with_before to_before)
  pub key_first : left.key_first ≡ q.key_first
  pub first : left.first ≡ cond (is_some before) q.first behind
  pub long : band q.key_first taken_entry < length q.ends
  pub ends : left.ends ≡ ends_without gone q.key_first q.ends (band q.key_first taken_entry) (link (Some s)) before to_before

module _ (at gone between after : Slot → Option Node) (q left : Queue) (s : Slot) (taken_entry : Entry) (before behind : Option Slot) (to_before : Link) (r : Removes at gone between after q left s taken_entry before behind to_before)
    (front : List Item) (e : Entry) (back : List Item) (h : Stands at q (front ++ (s, e) ∷ back)) (is_before : before ≡ last_of None front) (is_behind : behind ≡ first_of back None) (leads_before : to_before ≡ link (last_of None front)) where
  sides : BesideItem gone front s back
  sides = beside_item at gone q front s e back h r.kept

  ties : AreTied gone after front back (first_of back None) (last_of None front)
  ties =
      let one : Relinked gone between (last_of None front) (with_behind (link (first_of back None))) = subst (λ (o : Option Slot). Relinked gone between o (with_behind (link (first_of back None)))) is_before (subst (λ (o : Option Slot). Relinked gone between before (with_behind (link o))) is_behind r.one) in
      let two : Relinked between after (first_of back None) (with_before (link (last_of None front))) = subst (λ (o : Option Slot). Relinked between after o (with_before (link (last_of None front)))) is_behind (subst (λ (l : Link). Relinked between after behind (with_before l)) leads_before r.two) in
      tied gone between after front back (Some s) (Some s) (first_of back None) (last_of None front) sides.are_parted sides.front_linked sides.back_linked one two

  pub left_stands : OnePerNumber at → taken_entry ≡ e → Stands after left (front ++ back)
  left_stands one same =
      let order = order_parts q.key_first front ((s, e) ∷ back) h.ordered in
      record {
        linked = linked_append after None front back None ties.front_linked ties.back_linked;
        starts = r.first ∙ ap (λ (o : Option Slot). cond (is_some o) q.first behind) is_before
            ∙ first_tied front q.first behind (Some s) (first_of back None) (h.starts ∙ first_append front ((s, e) ∷ back) None) is_behind ∙ sym (first_append front back None);
        ends = subst (λ (k : Bool). (b : ℕ) → get_or left.ends b (link None) ≡ link (band_end k b None (front ++ back))) (sym r.key_first)
            (ends_left q.key_first q.ends left.ends front s e back (subst (λ (a : Entry). band q.key_first a < length q.ends) same r.long) _ (behind_item at one q front s e back (link (Some s)) h refl)
            (cond (has_band gone q.key_first (band q.key_first e) (last_of None front)) (link (last_of None front)) (link None))
            (linked_either (has_band gone q.key_first (band q.key_first e) (last_of None front)) (last_of None front) ∙ ap link (before_tells gone q.key_first s e (Some s) front back sides.front_linked order.0 order.2)) h.ends
            (r.ends ∙ ap (λ (a : Entry). ends_without gone q.key_first q.ends (band q.key_first a) (link (Some s)) before to_before) same ∙ ap (λ (o : Option Slot). ends_without gone q.key_first q.ends (band q.key_first e) (link (Some s)) o to_before) is_before
            ∙ ap (λ (l : Link). ends_without gone q.key_first q.ends (band q.key_first e) (link (Some s)) (last_of None front) l) leads_before));
        ordered = subst (λ (k : Bool). IsInOrder k (front ++ back)) (sym r.key_first) (order_append q.key_first front back order.0 order.1.1 (all_more (λ (i : Item). AreBehind q.key_first i.1 ((s, e) ∷ back)) (λ (i : Item). AreBehind q.key_first i.1 back) (λ i p. p.1) front order.2));
        in_range = all_append (λ (i : Item). IsInRange i.1) front back (all_front (λ (i : Item). IsInRange i.1) front ((s, e) ∷ back) h.in_range) (all_back (λ (i : Item). IsInRange i.1) front ((s, e) ∷ back) h.in_range).1;
      }
    where
      linked_either : (b : Bool) (o : Option Slot) → cond b (link o) (link None) ≡ link (cond b o None)
      linked_either true o = refl
      linked_either false o = refl

  -- no other slot changes, and the slot itself is gone
  pub others_stay : (t : Slot) → IsOutside t (front ++ (s, e) ∷ back) → after t ≡ at t
  others_stay t o =
      let here = all_back (λ (i : Item). i.0 ≢ t) front ((s, e) ∷ back) o in
      ties.rest t (all_append (λ (i : Item). i.0 ≢ t) front back (all_front (λ (i : Item). i.0 ≢ t) front ((s, e) ∷ back) o) here.1) ∙ r.kept t (λ same. here.0 (sym same))

  pub slot_gone : after s ≡ None
  slot_gone = ties.rest s (middle_outside at q front back s e h) ∙ r.taken
