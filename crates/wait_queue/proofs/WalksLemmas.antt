-- The walk back from a slot to the place of an entry.
use Rattle.std.proofs.Common.{◌≡◌, ◌⊎◌, ℕ, ◌+◌, ◌<◌, Bool, true, false, List, [], ◌∷◌, ◌++◌, Option, Some, None, IsSome, refl, sym, ap, subst, ◌∙◌, inl, inr, arith}
use Rattle.std.specs.Prelude.{IfSome, option_map}
use Rattle.std.specs.List.{AllByRecursion}
use Rattle.std.proofs.lemmas.List.{append_assoc, append-nil}
use Rattle.std.proofs.lemmas.Option.{same_Some}
use Rattle.fuxi_terms.proofs.Alls.{all_more, all_front, all_back}
use Rattle.slot_pool.specs.declared.pool.Slot.{Slot}
use Rattle.wait_queue.specs.declared.node.Entry.{Entry}
use Rattle.wait_queue.specs.declared.node.Node.{Node}
use Rattle.wait_queue.specs.Queues.{Item, is_before, IsInRange, rank, AreBehind, IsInOrder, first_of, last_of, link, entry_at, AreLinked}
use Rattle.wait_queue.specs.Neighbours.{Walks}
use Rattle.wait_queue.proofs.QueuesLemmas.{not_both, rank_rises, order_parts, last_all, last_append, linked_parts, linked_entries, last_live}

-- what of the middle is not walked yet, and the slot where the walk is
pub record Reached (front middle : List Item) (place : Option Slot) : Type 0 where
  pub left : List Item
  pub walked : List Item
  pub split : middle ≡ left ++ walked
  pub here : place ≡ last_of None (front ++ left)

-- a number that falls along the walk
abbrev pub entry_left : Bool → Option Entry → ℕ
entry_left k None = 0
entry_left k (Some e) = 1 + rank k e

abbrev pub walk_left : (Slot → Option Node) → Bool → Option Slot → ℕ
walk_left at k None = 0
walk_left at k (Some s) = entry_left k (entry_at at s)

-- a list is empty or has a last item
pub ends : (xs : List Item) → (xs ≡ []) ⊎ ((ys : List Item) × ((x : Item) × (xs ≡ ys ++ x ∷ [])))
ends [] = inl refl
ends (x ∷ xs) = elim (ends xs) as (λ _. (x ∷ xs ≡ []) ⊎ ((ys : List Item) × ((z : Item) × (x ∷ xs ≡ ys ++ z ∷ [])))) [
  | inl e ↦ inr ([], (x, ap (λ (l : List Item). x ∷ l) e))
  | inr r ↦ inr (x ∷ r.0, (r.1.0, ap (λ (l : List Item). x ∷ l) r.1.1))
]

last_none : (b : Option Slot) (xs : List Item) → None ≡ last_of b xs → None ≡ b
last_none b [] e = e
last_none b (x ∷ xs) e = absurd (none_some x.0 (last_none (Some x.0) xs e))
  where
    none_some : (s : Slot) → None ≡ Some s → ⊥
    none_some s h = cc

module _ (at : Slot → Option Node) (start : Option Slot) (k : Bool) (e : Entry) (front middle : List Item) (next : Option Slot) (w : Walks at start k e front middle next) where
  pub reached_start : Reached front middle start
  reached_start = record { left = middle; walked = []; split = sym (append-nil middle); here = w.starts }

  -- all up to the place, and what is walked
  joined : (left walked : List Item) → middle ≡ left ++ walked → front ++ middle ≡ (front ++ left) ++ walked
  joined left walked split = ap (λ (l : List Item). front ++ l) split ∙ sym (append_assoc front left walked)

  linked_left : (left walked : List Item) → middle ≡ left ++ walked → AreLinked at None (front ++ left) (first_of walked next)
  linked_left left walked split = (linked_parts at None (front ++ left) walked next (subst (λ (l : List Item). AreLinked at None l next) (joined left walked split) w.linked)).0

  pub reached_live : (o : Option Slot) → Reached front middle o → IfSome o (λ s. IsSome (at s))
  reached_live o r = subst (λ (p : Option Slot). IfSome p (λ s. IsSome (at s))) (sym r.here) (last_live at None (front ++ r.left) (first_of r.walked next) (linked_left r.left r.walked r.split))

  -- where nothing is left of the middle, the walk is at the last of the front, whose entry is before this one
  at_front : (place : Option Slot) (r : Reached front middle place) → r.left ≡ [] → place ≡ last_of None front
  at_front place r none = r.here ∙ ap (λ (l : List Item). last_of None (front ++ l)) none ∙ ap (last_of None) (append-nil front)

  abbrev IsBeforeAt : Option Slot → Type 0
  IsBeforeAt o = IfSome o (λ (s : Slot). IfSome (entry_at at s) (λ (a : Entry). is_before k a e ≡ true))

  front_before_at : IsBeforeAt (last_of None front)
  front_before_at = last_all IsBeforeAt None front tt (both front (linked_entries at None front _ (linked_parts at None front middle next w.linked).0) w.front_before)
    where
      both : (xs : List Item) → AllByRecursion (λ (i : Item). entry_at at i.0 ≡ Some i.1) xs → AllByRecursion (λ (i : Item). is_before k i.1 e ≡ true) xs → AllByRecursion (λ (i : Item). IsBeforeAt (Some i.0)) xs
      both [] h g = tt
      both (x ∷ xs) h g = (subst (λ (o : Option Entry). IfSome o (λ (a : Entry). is_before k a e ≡ true)) (sym h.0) g.0, both xs h.1 g.1)

  -- the last item that is left of the middle, where the walk is
  record LastLeft (s : Slot) (r : Reached front middle (Some s)) : Type 0 where
    pub items : List Item
    pub item : Item
    pub is : r.left ≡ items ++ item ∷ []
    pub node : at s ≡ Some (record { entry = item.1; before = link (last_of None (front ++ items)); behind = link (first_of r.walked next) })
    pub behind : is_before k e item.1 ≡ true
    pub order : AllByRecursion (λ (i : Item). is_before k i.1 item.1 ≡ true) (front ++ items)
    pub range : AllByRecursion (λ (i : Item). IsInRange i.1) (front ++ items)
    pub item_range : IsInRange item.1
    pub linked : AreLinked at None (front ++ items) (Some s)

  last_left : (s : Slot) (r : Reached front middle (Some s)) (items : List Item) (item : Item) → r.left ≡ items ++ item ∷ [] → LastLeft s r
  last_left s r items item is =
      let whole : front ++ r.left ≡ (front ++ items) ++ item ∷ [] = ap (λ (l : List Item). front ++ l) is ∙ sym (append_assoc front items (item ∷ [])) in
      let linked = linked_parts at None (front ++ items) (item ∷ []) (first_of r.walked next) (subst (λ (l : List Item). AreLinked at None l (first_of r.walked next)) whole (linked_left r.left r.walked r.split)) in
      let here : item.0 ≡ s = same_Some item.0 s (sym (r.here ∙ ap (last_of None) whole ∙ last_append None (front ++ items) (item ∷ []))) in
      let all : front ++ middle ≡ ((front ++ items) ++ item ∷ []) ++ r.walked = joined r.left r.walked r.split ∙ ap (λ (l : List Item). l ++ r.walked) whole in
      let order : IsInOrder k ((front ++ items) ++ item ∷ []) = (order_parts k ((front ++ items) ++ item ∷ []) r.walked (subst (λ (l : List Item). IsInOrder k l) all w.ordered)).0 in
      let range : AllByRecursion (λ (i : Item). IsInRange i.1) ((front ++ items) ++ item ∷ []) = all_front (λ (i : Item). IsInRange i.1) ((front ++ items) ++ item ∷ []) r.walked (subst (λ (l : List Item). AllByRecursion (λ (i : Item). IsInRange i.1) l) all w.in_range) in
      let behind : AreBehind k e ((items ++ item ∷ []) ++ r.walked) = subst (λ (l : List Item). AreBehind k e l) (r.split ∙ ap (λ (l : List Item). l ++ r.walked) is) w.middle_behind in
      record {
        items = items;
        item = item;
        is = is;
        node = subst (λ (t : Slot). at t ≡ Some (record { entry = item.1; before = link (last_of None (front ++ items)); behind = link (first_of r.walked next) })) here linked.1.0;
        behind = (all_back (λ (i : Item). is_before k e i.1 ≡ true) items (item ∷ []) (all_front (λ (i : Item). is_before k e i.1 ≡ true) (items ++ item ∷ []) r.walked behind)).0;
        order = all_more (λ (i : Item). AreBehind k i.1 (item ∷ [])) (λ (i : Item). is_before k i.1 item.1 ≡ true) (λ i b. b.0) (front ++ items) (order_parts k (front ++ items) (item ∷ []) order).2;
        range = all_front (λ (i : Item). IsInRange i.1) (front ++ items) (item ∷ []) range;
        item_range = (all_back (λ (i : Item). IsInRange i.1) (front ++ items) (item ∷ []) range).0;
        linked = subst (λ (t : Slot). AreLinked at None (front ++ items) (Some t)) here linked.0;
      }

  -- the walk ends at a node whose entry is before this one
  pub walk_ends : (s : Slot) (r : Reached front middle (Some s)) (n : Node) → at s ≡ Some n → is_before k n.entry e ≡ true → Some s ≡ last_of None front
  walk_ends s r n is before = elim (ends r.left) as (λ _. Some s ≡ last_of None front) [
    | inl none ↦ at_front (Some s) r none
    | inr p ↦
        let l = last_left s r p.0 p.1.0 p.1.1 in
        let entry : n.entry ≡ l.item.1 = ap (λ (m : Node). m.entry) (same_Some n _ (sym is ∙ l.node)) in
        absurd (not_both k l.item.1 e (subst (λ (a : Entry). is_before k a e ≡ true) entry before) l.behind)
  ]

  -- the slot that stands before such a node, as it is looked up by its number, and that the walk comes nearer
  pub record StepsBack (s : Slot) (n : Node) (place : Option Slot) : Type 0 where
    pub reached : Reached front middle place
    pub falls : walk_left at k place < walk_left at k (Some s)

  pub walk_steps : (s : Slot) (r : Reached front middle (Some s)) (n : Node) (place : Option Slot) → at s ≡ Some n → is_before k n.entry e ≡ false →
      ((slot : Option Slot) → n.before ≡ link slot → IfSome slot (λ t. IsSome (at t)) → place ≡ slot) → StepsBack s n place
  walk_steps s r n place is before told = elim (ends r.left) as (λ _. StepsBack s n place) [
    | inl none ↦ absurd (not_before (entry_at at s) n.entry (ap (λ (o : Option Node). option_map (λ (m : Node). m.entry) o) is) (subst IsBeforeAt (sym (at_front (Some s) r none)) front_before_at) before)
    | inr p ↦
        let l = last_left s r p.0 p.1.0 p.1.1 in
        let node : Node = record { entry = l.item.1; before = link (last_of None (front ++ l.items)); behind = link (first_of r.walked next) } in
        let to : place ≡ last_of None (front ++ l.items) = told (last_of None (front ++ l.items)) (ap (λ (m : Node). m.before) (same_Some n node (sym is ∙ l.node))) (last_live at None (front ++ l.items) (Some s) l.linked) in
        let less : walk_left at k (last_of None (front ++ l.items)) < 1 + rank k l.item.1 = last_all (λ (o : Option Slot). walk_left at k o < 1 + rank k l.item.1) None (front ++ l.items) (omega arith) (lower l.item.1 l.item_range (front ++ l.items) (linked_entries at None (front ++ l.items) (Some s) l.linked) l.order l.range) in
        record {
          reached = record { left = l.items; walked = l.item ∷ r.walked; split = r.split ∙ ap (λ (y : List Item). y ++ r.walked) l.is ∙ append_assoc l.items (l.item ∷ []) r.walked; here = to };
          falls = subst (λ (o : Option Slot). walk_left at k o < walk_left at k (Some s)) (sym to)
              (subst (λ (o : Option Entry). walk_left at k (last_of None (front ++ l.items)) < entry_left k o) (sym (ap (λ (o : Option Node). option_map (λ (m : Node). m.entry) o) l.node)) less);
        }
  ]
    where
      not_before : (o : Option Entry) (a : Entry) → o ≡ Some a → IfSome o (λ (b : Entry). is_before k b e ≡ true) → is_before k a e ≡ false → ⊥
      not_before o a is before not = both (is_before k a e) (subst (λ (p : Option Entry). IfSome p (λ (b : Entry). is_before k b e ≡ true)) is before) not
        where
          both : (b : Bool) → b ≡ true → b ≡ false → ⊥
          both b t f = cc

      lower : (a : Entry) → IsInRange a → (xs : List Item) → AllByRecursion (λ (i : Item). entry_at at i.0 ≡ Some i.1) xs → AllByRecursion (λ (i : Item). is_before k i.1 a ≡ true) xs → AllByRecursion (λ (i : Item). IsInRange i.1) xs → AllByRecursion (λ (i : Item). walk_left at k (Some i.0) < 1 + rank k a) xs
      lower a range [] h o g = tt
      lower a range (x ∷ xs) h o g = (
        subst (λ (p : Option Entry). entry_left k p < 1 + rank k a) (sym h.0) (omega (arith, rank_rises k x.1 a g.0 range o.0)),
        lower a range xs h.1 o.1 g.1,
      )

  -- the walk ends where nothing stands before
  pub walk_done : Reached front middle None → None ≡ last_of None front
  walk_done r = last_none (last_of None front) r.left (r.here ∙ last_append None front r.left)
