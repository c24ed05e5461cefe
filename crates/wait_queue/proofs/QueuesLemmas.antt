-- Entries in order, items that are linked, and lists as which a queue stands.
use Rattle.std.proofs.Common.{◌≡◌, ◌≢◌, ℕ, ◌-◌, ◌<◌, Bool, true, false, cond, nat_eq, nat_lt, List, [], ◌∷◌, ◌++◌, Option, Some, None, is_some, IsSome, refl, sym, ap, subst, ◌∙◌, inl, inr, arith}
use Rattle.std.specs.Prelude.{option_map, get_or, IfSome, ⊤}
use Rattle.std.specs.List.{AllByRecursion}
use Rattle.std.proofs.lemmas.Bool.Decides.{nat_tests, eqb_tells}
use Rattle.std.proofs.lemmas.Option.{same_Some}
use Rattle.fuxi_terms.proofs.Alls.{all_more, all_append, all_front, all_back}
use Rattle.slot_pool.specs.Pools.{PoolRecord, value_at, generation_at}
use Rattle.slot_pool.specs.declared.pool.Slot.{Slot}
use Rattle.wait_queue.specs.declared.node.Entry.{Entry}
use Rattle.wait_queue.specs.declared.node.Link.{Link}
use Rattle.wait_queue.specs.declared.node.Node.{Node}
use Rattle.wait_queue.specs.declared.queue.Queue.{Queue}
use Rattle.wait_queue.specs.Queues.{Item, is_before, IsInRange, rank, AreBefore, AreBehind, IsInOrder, IsOutside, Apart, first_of, last_of, link, entry_at, AreLinked, Stands, HasPlace, MayEnter}

-- No entry is before itself, two are not before one another, one of two turns is before the other, and what is before another is before all behind that one.
pub not_itself : (k : Bool) (a : Entry) → is_before k a a ≡ true → ⊥
not_itself true a h = grind (arith, nat_tests)
not_itself false a h = grind (arith, nat_tests)

pub not_both : (k : Bool) (a b : Entry) → is_before k a b ≡ true → is_before k b a ≡ true → ⊥
not_both true a b h g = grind (arith, nat_tests)
not_both false a b h g = grind (arith, nat_tests)

pub one_before : (k : Bool) (a b : Entry) → a.turn ≢ b.turn → is_before k a b ≡ false → is_before k b a ≡ true
one_before true a b d h = grind (arith, nat_tests)
one_before false a b d h = grind (arith, nat_tests)

pub before_all : (k : Bool) (a b c : Entry) → is_before k a b ≡ true → is_before k b c ≡ true → is_before k a c ≡ true
before_all true a b c h g = grind (arith, nat_tests)
before_all false a b c h g = grind (arith, nat_tests)

pub rank_rises : (k : Bool) (a b : Entry) → IsInRange a → IsInRange b → is_before k a b ≡ true → rank k a < rank k b
rank_rises true a b f g h = by_priority (nat_eq a.priority b.priority) refl
  where
    by_priority : (t : Bool) → nat_eq a.priority b.priority ≡ t → rank true a < rank true b
    by_priority true e =
        let less : nat_lt a.turn b.turn ≡ true = subst (λ t. cond t (nat_lt a.turn b.turn) (nat_lt b.priority a.priority) ≡ true) e h in
        let same : a.priority ≡ b.priority = grind (arith, nat_tests) in
        let lower : a.turn < b.turn = grind (arith, nat_tests) in
        let p : (255 - a.priority) ≡ (255 - b.priority) = ap (λ (n : ℕ). 255 - n) same in omega arith
    by_priority false e =
        let less : nat_lt b.priority a.priority ≡ true = subst (λ t. cond t (nat_lt a.turn b.turn) (nat_lt b.priority a.priority) ≡ true) e h in
        let lower : b.priority < a.priority = grind (arith, nat_tests) in
        let fa = f.0 in let ga = f.1 in let fb = g.0 in let gb = g.1 in omega arith
rank_rises false a b f g h = grind (arith, nat_tests)

-- both parts of a list in order, and two that make one
pub order_parts : (k : Bool) (xs ys : List Item) → IsInOrder k (xs ++ ys) → IsInOrder k xs × IsInOrder k ys × AllByRecursion (λ (i : Item). AreBehind k i.1 ys) xs
order_parts k [] ys h = (tt, h, tt)
order_parts k (x ∷ xs) ys h =
    let r = order_parts k xs ys h.1 in
    ((all_front (λ (i : Item). is_before k x.1 i.1 ≡ true) xs ys h.0, r.0), r.1, (all_back (λ (i : Item). is_before k x.1 i.1 ≡ true) xs ys h.0, r.2))

pub order_append : (k : Bool) (xs ys : List Item) → IsInOrder k xs → IsInOrder k ys → AllByRecursion (λ (i : Item). AreBehind k i.1 ys) xs → IsInOrder k (xs ++ ys)
order_append k [] ys h g b = g
order_append k (x ∷ xs) ys h g b = (all_append (λ (i : Item). is_before k x.1 i.1 ≡ true) xs ys h.0 b.0, order_append k xs ys h.1 g b.1)

-- what holds where there is none, and of each slot of the list, holds of the first and of the last
pub first_all : (P : Option Slot → Type 0) (xs : List Item) (next : Option Slot) → P next → AllByRecursion (λ (i : Item). P (Some i.0)) xs → P (first_of xs next)
first_all P [] next h a = h
first_all P (x ∷ xs) next h a = a.0

pub last_all : (P : Option Slot → Type 0) (before : Option Slot) (xs : List Item) → P before → AllByRecursion (λ (i : Item). P (Some i.0)) xs → P (last_of before xs)
last_all P before [] h a = h
last_all P before (x ∷ xs) h a = last_all P (Some x.0) xs a.0 a.1

pub first_append : (xs ys : List Item) (next : Option Slot) → first_of (xs ++ ys) next ≡ first_of xs (first_of ys next)
first_append [] ys next = refl
first_append (x ∷ xs) ys next = refl

pub last_append : (before : Option Slot) (xs ys : List Item) → last_of before (xs ++ ys) ≡ last_of (last_of before xs) ys
last_append before [] ys = refl
last_append before (x ∷ xs) ys = last_append (Some x.0) xs ys

-- linked items are linked in both parts, two that fit make one, and they stay linked where their nodes do
pub linked_parts : (at : Slot → Option Node) (b : Option Slot) (xs ys : List Item) (f : Option Slot) → AreLinked at b (xs ++ ys) f → AreLinked at b xs (first_of ys f) × AreLinked at (last_of b xs) ys f
linked_parts at b [] ys f h = (tt, h)
linked_parts at b (x ∷ []) ys f h = ((h.0, tt), h.1)
linked_parts at b (x ∷ (y ∷ xs)) ys f h = let r = linked_parts at (Some x.0) (y ∷ xs) ys f h.1 in ((h.0, r.0), r.1)

pub linked_append : (at : Slot → Option Node) (b : Option Slot) (xs ys : List Item) (f : Option Slot) → AreLinked at b xs (first_of ys f) → AreLinked at (last_of b xs) ys f → AreLinked at b (xs ++ ys) f
linked_append at b [] ys f h g = g
linked_append at b (x ∷ []) ys f h g = (h.0, g)
linked_append at b (x ∷ (y ∷ xs)) ys f h g = (h.0, linked_append at (Some x.0) (y ∷ xs) ys f h.1 g)

pub linked_same : (at after : Slot → Option Node) (b : Option Slot) (xs : List Item) (f : Option Slot) → AreLinked at b xs f → AllByRecursion (λ (i : Item). after i.0 ≡ at i.0) xs → AreLinked after b xs f
linked_same at after b [] f h same = tt
linked_same at after b (x ∷ xs) f h same = (same.0 ∙ h.0, linked_same at after (Some x.0) xs f h.1 same.1)

-- the entries stand at their slots, and these are live
pub linked_entries : (at : Slot → Option Node) (b : Option Slot) (xs : List Item) (f : Option Slot) → AreLinked at b xs f → AllByRecursion (λ (i : Item). entry_at at i.0 ≡ Some i.1) xs
linked_entries at b [] f h = tt
linked_entries at b (x ∷ xs) f h = (ap (λ (o : Option Node). option_map (λ (n : Node). n.entry) o) h.0, linked_entries at (Some x.0) xs f h.1)

pub linked_live : (at : Slot → Option Node) (b : Option Slot) (xs : List Item) (f : Option Slot) → AreLinked at b xs f → AllByRecursion (λ (i : Item). IsSome (at i.0)) xs
linked_live at b [] f h = tt
linked_live at b (x ∷ xs) f h = (ap (λ (o : Option Node). is_some o) h.0, linked_live at (Some x.0) xs f h.1)

-- a slot at which another entry stands is outside
outside_entries : (at : Slot → Option Node) (s : Slot) (e : Entry) (xs : List Item) → entry_at at s ≡ Some e → AllByRecursion (λ (i : Item). entry_at at i.0 ≡ Some i.1) xs → AllByRecursion (λ (i : Item). i.1 ≢ e) xs → IsOutside s xs
outside_entries at s e [] is h d = tt
outside_entries at s e (x ∷ xs) is h d = (λ same. d.0 (same_Some x.1 e (sym h.0 ∙ ap (entry_at at) same ∙ is)), outside_entries at s e xs is h.1 d.1)

-- no two items share a slot
abbrev pub AreDistinct : List Item → Type 0
AreDistinct [] = ⊤
AreDistinct (i ∷ is) = IsOutside i.0 is × AreDistinct is

pub order_distinct : (at : Slot → Option Node) (k : Bool) (b : Option Slot) (xs : List Item) (f : Option Slot) → AreLinked at b xs f → IsInOrder k xs → AreDistinct xs
order_distinct at k b [] f h o = tt
order_distinct at k b (x ∷ xs) f h o = (
  outside_entries at x.0 x.1 xs (ap (λ (o : Option Node). option_map (λ (n : Node). n.entry) o) h.0) (linked_entries at (Some x.0) xs f h.1)
      (all_more (λ (i : Item). is_before k x.1 i.1 ≡ true) (λ (i : Item). i.1 ≢ x.1) (λ i before same. not_itself k x.1 (subst (λ (a : Entry). is_before k x.1 a ≡ true) same before)) xs o.0),
  order_distinct at k (Some x.0) xs f h.1 o.1,
)

pub distinct_parts : (xs ys : List Item) → AreDistinct (xs ++ ys) → AreDistinct xs × AreDistinct ys × AllByRecursion (λ (i : Item). IsOutside i.0 ys) xs
distinct_parts [] ys h = (tt, h, tt)
distinct_parts (x ∷ xs) ys h =
    let r = distinct_parts xs ys h.1 in
    ((all_front (λ (i : Item). i.0 ≢ x.0) xs ys h.0, r.0), r.1, (all_back (λ (i : Item). i.0 ≢ x.0) xs ys h.0, r.2))

-- lists that share no slot share none the other way round
pub apart_turned : (xs ys : List Item) → Apart xs ys → Apart ys xs
apart_turned [] ys h = tt
apart_turned (x ∷ xs) ys h = (
  all_more (λ (j : Item). IsOutside j.0 (x ∷ xs)) (λ (j : Item). j.0 ≢ x.0) (λ j o same. o.0 (sym same)) ys h,
  apart_turned xs ys (all_more (λ (j : Item). IsOutside j.0 (x ∷ xs)) (λ (j : Item). IsOutside j.0 xs) (λ j o. o.1) ys h),
)

-- a slot that is outside is neither the first nor the last
none_other : (s : Slot) → None ≢ Some s
none_other s e = cc

outside_some : (s : Slot) (xs : List Item) → IsOutside s xs → AllByRecursion (λ (i : Item). Some i.0 ≢ Some s) xs
outside_some s xs h = all_more (λ (i : Item). i.0 ≢ s) (λ (i : Item). Some i.0 ≢ Some s) (λ i d e. d (same_Some i.0 s e)) xs h

pub outside_first : (s : Slot) (xs : List Item) → IsOutside s xs → first_of xs None ≢ Some s
outside_first s xs h = first_all (λ (o : Option Slot). o ≢ Some s) xs None (none_other s) (outside_some s xs h)

pub outside_last : (s : Slot) (xs : List Item) → IsOutside s xs → last_of None xs ≢ Some s
outside_last s xs h = last_all (λ (o : Option Slot). o ≢ Some s) None xs (none_other s) (outside_some s xs h)

-- a slot at which nothing stands is outside
pub outside_absent : (at : Slot → Option Node) (b : Option Slot) (xs : List Item) (f : Option Slot) (s : Slot) → AreLinked at b xs f → at s ≡ None → IsOutside s xs
outside_absent at b xs f s h none = all_more (λ (i : Item). IsSome (at i.0)) (λ (i : Item). i.0 ≢ s) (λ i live same. absurd_live (at i.0) live (ap at same ∙ none)) xs (linked_live at b xs f h)
  where
    absurd_live : (o : Option Node) → IsSome o → o ≡ None → ⊥
    absurd_live o live none = cc

-- two lists that are linked from the same slot on are one
same_item : (x y : Item) → x.0 ≡ y.0 → x.1 ≡ y.1 → x ≡ y
same_item x y s e =
    let slot : Slot → Item = λ r. (r, x.1) in
    let entry : Entry → Item = λ a. (y.0, a) in ap slot s ∙ ap entry e

-- Of the slots of one number one alone is live. The finite map of a pool is such.
pub record OnePerNumber (at : Slot → Option Node) : Type 0 where
  pub one : (s t : Slot) → IsSome (at s) → IsSome (at t) → s.number ≡ t.number → s ≡ t

pub pool_one : (p : PoolRecord Node) → OnePerNumber (value_at p)
pool_one p = record { one = λ s t here there same. same_slot s t same (sym (present s here) ∙ ap (λ (n : ℕ). generation_at p n) same ∙ present t there) }
  where
    same_slot : (s t : Slot) → s.number ≡ t.number → s.generation ≡ t.generation → s ≡ t
    same_slot s t n g =
        let numbered : ℕ → Slot = λ k. record { number = k; generation = s.generation } in
        let of_generation : ℕ → Slot = λ k. record { number = t.number; generation = k } in
        ap numbered n ∙ ap of_generation g

    none_live : (o : Option Node) → IsSome o → o ≡ None → ⊥
    none_live o live none = cc

    present : (s : Slot) → IsSome (value_at p s) → generation_at p s.number ≡ s.generation
    present s live = elim (eqb_tells (generation_at p s.number) s.generation) as (λ _. generation_at p s.number ≡ s.generation) [
      | inl t ↦ t.1
      | inr f ↦ absurd (none_live (value_at p s) live (ap (λ (b : Bool). cond b (get_or p.values s.number None) None) f.0))
    ]

-- the slot at one end, where there is one, is live
pub first_live : (at : Slot → Option Node) (b : Option Slot) (xs : List Item) (f : Option Slot) → AreLinked at b xs f → IfSome (first_of xs None) (λ s. IsSome (at s))
first_live at b xs f h = first_all (λ (o : Option Slot). IfSome o (λ s. IsSome (at s))) xs None tt (linked_live at b xs f h)

pub last_live : (at : Slot → Option Node) (b : Option Slot) (xs : List Item) (f : Option Slot) → AreLinked at b xs f → IfSome (last_of None xs) (λ s. IsSome (at s))
last_live at b xs f h = last_all (λ (o : Option Slot). IfSome o (λ s. IsSome (at s))) None xs tt (linked_live at b xs f h)

pub link_one : (at : Slot → Option Node) → OnePerNumber at → (o p : Option Slot) → link o ≡ link p → IfSome o (λ s. IsSome (at s)) → IfSome p (λ s. IsSome (at s)) → o ≡ p
link_one at u None None e h g = refl
link_one at u None (Some t) e h g = let n = ap (λ (l : Link). l.0) e in absurd (omega (arith, n))
link_one at u (Some s) None e h g = let n = ap (λ (l : Link). l.0) e in absurd (omega (arith, n))
link_one at u (Some s) (Some t) e h g = ap (λ (r : Slot). Some r) (u.one s t h g (let n = ap (λ (l : Link). l.0) e in omega (arith, n)))

pub same_items : (at : Slot → Option Node) → OnePerNumber at → (b c : Option Slot) (xs ys : List Item) → AreLinked at b xs None → AreLinked at c ys None → first_of xs None ≡ first_of ys None → xs ≡ ys
same_items at u b c [] [] h g e = refl
same_items at u b c [] (y ∷ ys) h g e = absurd (cc)
same_items at u b c (x ∷ xs) [] h g e = absurd (cc)
same_items at u b c (x ∷ xs) (y ∷ ys) h g e =
    let slot : x.0 ≡ y.0 = same_Some x.0 y.0 e in
    let n : Node = record { entry = x.1; before = link b; behind = link (first_of xs None) } in
    let m : Node = record { entry = y.1; before = link c; behind = link (first_of ys None) } in
    let node : n ≡ m = same_Some n m (sym (subst (λ (t : Slot). at t ≡ Some n) slot h.0) ∙ g.0) in
    let item : x ≡ y = same_item x y slot (ap (λ (d : Node). d.entry) node) in
    let next : first_of xs None ≡ first_of ys None = link_one at u _ _ (ap (λ (d : Node). d.behind) node) (first_live at (Some x.0) xs None h.1) (first_live at (Some y.0) ys None g.1) in
    let rest : xs ≡ ys = same_items at u (Some x.0) (Some y.0) xs ys h.1 g.1 next in
    cc

pub same_stands : (at : Slot → Option Node) → OnePerNumber at → (q : Queue) (xs ys : List Item) → Stands at q xs → Stands at q ys → xs ≡ ys
same_stands at u q xs ys h g = same_items at u None None xs ys h.linked g.linked (sym h.starts ∙ g.starts)

-- a list stands in another pool where its nodes are the same
pub stands_same : (at after : Slot → Option Node) (q : Queue) (items : List Item) → Stands at q items → AllByRecursion (λ (i : Item). after i.0 ≡ at i.0) items → Stands after q items
stands_same at after q items h same = record { linked = linked_same at after None items None h.linked same; starts = h.starts; ends = h.ends; ordered = h.ordered; in_range = h.in_range }

pub all_items : (P : Item → Type 0) → ((i : Item) → P i) → (items : List Item) → AllByRecursion P items
all_items P f [] = tt
all_items P f (i ∷ is) = (f i, all_items P f is)

pub all_both : (P Q R : Item → Type 0) → ((i : Item) → P i → Q i → R i) → (items : List Item) → AllByRecursion P items → AllByRecursion Q items → AllByRecursion R items
all_both P Q R f [] h g = tt
all_both P Q R f (i ∷ is) h g = (f i h.0 g.0, all_both P Q R f is h.1 g.1)

-- a slot of a queue is outside of the rest
pub middle_outside : (at : Slot → Option Node) (q : Queue) (front back : List Item) (s : Slot) (e : Entry) → Stands at q (front ++ (s, e) ∷ back) → IsOutside s (front ++ back)
middle_outside at q front back s e h =
    let d = distinct_parts front ((s, e) ∷ back) (order_distinct at q.key_first None (front ++ (s, e) ∷ back) None h.linked h.ordered) in
    all_append (λ (i : Item). i.0 ≢ s) front back
    (all_more (λ (i : Item). IsOutside i.0 ((s, e) ∷ back)) (λ (i : Item). i.0 ≢ s) (λ i o same. o.0 (sym same)) front d.2)
    d.1.0

-- the node of an item in the middle
pub middle_node : (at : Slot → Option Node) (q : Queue) (front : List Item) (s : Slot) (e : Entry) (back : List Item) → Stands at q (front ++ (s, e) ∷ back) → at s ≡ Some (record { entry = e; before = link (last_of None front); behind = link (first_of back None) })
middle_node at q front s e back h = (linked_parts at None front ((s, e) ∷ back) None h.linked).1.0

-- the place of an entry among entries in order
record Split (k : Bool) (e : Entry) (items : List Item) : Type 0 where
  pub front : List Item
  pub back : List Item
  pub is : items ≡ front ++ back
  pub front_before : AreBefore k e front
  pub back_behind : AreBehind k e back

split_by : (k : Bool) (e : Entry) (items : List Item) → IsInOrder k items → AllByRecursion (λ (i : Item). i.1.turn ≢ e.turn) items → Split k e items
split_by k e [] o d = record { front = []; back = []; is = refl; front_before = tt; back_behind = tt }
split_by k e (x ∷ xs) o d = on (is_before k x.1 e) refl (split_by k e xs o.1 d.1)
  where
    on : (b : Bool) → is_before k x.1 e ≡ b → Split k e xs → Split k e (x ∷ xs)
    on true h r = record { front = x ∷ r.front; back = r.back; is = ap (λ (l : List Item). x ∷ l) r.is; front_before = (h, r.front_before); back_behind = r.back_behind }
    on false h r =
        let here : is_before k e x.1 ≡ true = one_before k x.1 e d.0 h in
        record { front = []; back = x ∷ xs; is = refl; front_before = tt; back_behind = (here, all_more (λ (i : Item). is_before k x.1 i.1 ≡ true) (λ (i : Item). is_before k e i.1 ≡ true) (λ i p. before_all k e x.1 i.1 here p) xs o.0) }

pub has_place : (at : Slot → Option Node) (q : Queue) (e : Entry) → MayEnter at q e → HasPlace at q e
has_place at q e h =
    let s = split_by q.key_first e h.items h.stands.ordered h.new in
    record { front = s.front; back = s.back; is_place = record { stands = subst (λ (l : List Item). Stands at q l) s.is h.stands; front_before = s.front_before; back_behind = s.back_behind } }
