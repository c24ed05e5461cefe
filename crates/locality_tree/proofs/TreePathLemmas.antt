-- The units that wait, in the order of their ranks, are those that the walk over three queues gives.
use Rattle.std.proofs.Common.{◌≡◌, ℕ, ◌+◌, ◌*◌, ◌<◌, ◌||◌, Bool, true, false, cond, List, [], ◌∷◌, ◌++◌, Option, Some, None, is_some, length, get_or, refl, sym, ap, subst, ◌∙◌, inl, inr, arith}
use Rattle.fuxi_terms.proofs.Booleans.{both_false, not_both}
use Rattle.fuxi_terms.proofs.Members.{In, in_left, in_right}
use Rattle.slot_pool.specs.declared.pool.Slot.{Slot}
use Rattle.slot_pool.specs.Pools.{value_at}
use Rattle.wait_queue.specs.declared.node.Entry.{Entry}
use Rattle.wait_queue.specs.declared.node.Node.{Node}
use Rattle.wait_queue.specs.declared.queue.Queue.{Queue}
use Rattle.wait_queue.specs.Queues.{Item, IsInOrder}
use Rattle.locality_tree.specs.declared.layout.Layout.{Layout}
use Rattle.locality_tree.specs.declared.place_set.PlaceSet.{PlaceSet}
use Rattle.locality_tree.specs.PlaceSets.{is_marked}
use Rattle.locality_tree.specs.Trees.{RankedEntry, unit_at, level_at, rack_place, cluster_place, HasPath}
use Rattle.locality_tree.specs.Layouts.{Slots, slots_of, sets_of, slot_in, number_of, entry_in, IsQueueAt, tree_record, IsTree}
use Rattle.locality_tree.specs.Paths.{is_at_either, nothing, unskipped, IsRanking, pairs_of}
use Rattle.locality_tree.proofs.MembersLemmas.{in_append}
use Rattle.locality_tree.proofs.QueueLaws.{Entries, member_entry, same_entry}
use Rattle.locality_tree.proofs.LayoutsLemmas.{listed}
use Rattle.locality_tree.proofs.RanksLemmas.{sorted, with_levels}
use Rattle.locality_tree.proofs.TreesLemmas.{entry_of, stands_of}

-- an entry with its slot among the items
abbrev pub HasEntry : Entry → List Item → Type 0
HasEntry e items = (s : Slot) × In (s, e) items

further : (e : Entry) (i : Item) (is : List Item) → HasEntry e is → HasEntry e (i ∷ is)
further e i is h = (h.0, inr h.1)

-- among the pairs of a list, at their levels
unskipped_in : (skips : Entry → Bool) (l : ℕ) (items : List Item) (e : Entry) → skips e ≡ false → HasEntry e items → In (e, l) (unskipped skips l items)
unskipped_in skips l [] e k h = absurd h.1
unskipped_in skips l (i ∷ is) e k h = (elim (skips i.1) as (λ b. skips i.1 ≡ b → In (e, l) (cond b (unskipped skips l is) ((i.1, l) ∷ unskipped skips l is))) [
  | true ↦ λ t. elim h.1 as (λ _. In (e, l) (unskipped skips l is)) [
    | inl g ↦ absurd (not_both (skips e) (ap (λ (j : Item). skips j.1) g ∙ t) k)
    | inr g ↦ unskipped_in skips l is e k (h.0, g)
  ]
  | false ↦ λ t. elim h.1 as (λ _. In (e, l) ((i.1, l) ∷ unskipped skips l is)) [
    | inl g ↦ inl (let pair : Item → RankedEntry = λ j. (j.1, l) in ap pair g)
    | inr g ↦ inr (unskipped_in skips l is e k (h.0, g))
  ]
]) refl

unskipped_out : (skips : Entry → Bool) (l : ℕ) (items : List Item) (p : RankedEntry) → In p (unskipped skips l items) → HasEntry p.0 items × (skips p.0 ≡ false) × (p.1 ≡ l)
unskipped_out skips l [] p h = absurd h
unskipped_out skips l (i ∷ is) p h = (elim (skips i.1) as (λ b. skips i.1 ≡ b → In p (cond b (unskipped skips l is) ((i.1, l) ∷ unskipped skips l is)) → HasEntry p.0 (i ∷ is) × (skips p.0 ≡ false) × (p.1 ≡ l)) [
  | true ↦ λ t g. let r = unskipped_out skips l is p g in (further p.0 i is r.0, r.1, r.2)
  | false ↦ λ t g. elim g as (λ _. HasEntry p.0 (i ∷ is) × (skips p.0 ≡ false) × (p.1 ≡ l)) [
    | inl e ↦
        let same : p.0 ≡ i.1 = ap (λ (q : RankedEntry). q.0) e in
        let with_entry : Entry → Item = λ a. (i.0, a) in
        ((i.0, inl (ap with_entry same)), ap skips same ∙ t, ap (λ (q : RankedEntry). q.1) e)
    | inr k ↦ let r = unskipped_out skips l is p k in (further p.0 i is r.0, r.1, r.2)
  ]
]) refl h

levels_in : (level : Entry → ℕ) (items : List Item) (e : Entry) → HasEntry e items → In (e, level e) (with_levels level items)
levels_in level [] e h = absurd h.1
levels_in level (i ∷ is) e h = elim h.1 as (λ _. In (e, level e) ((i.1, level i.1) ∷ with_levels level is)) [
  | inl g ↦ inl (let pair : Item → RankedEntry = λ j. (j.1, level j.1) in ap pair g)
  | inr g ↦ inr (levels_in level is e (h.0, g))
]

levels_out : (level : Entry → ℕ) (items : List Item) (p : RankedEntry) → In p (with_levels level items) → HasEntry p.0 items × (p.1 ≡ level p.0)
levels_out level [] p h = absurd h
levels_out level (i ∷ is) p (inl e) =
    let same : p.0 ≡ i.1 = ap (λ (q : RankedEntry). q.0) e in
    let with_entry : Entry → Item = λ a. (i.0, a) in
    ((i.0, inl (ap with_entry same)), ap (λ (q : RankedEntry). q.1) e ∙ ap level (sym same))
levels_out level (i ∷ is) p (inr h) = let r = levels_out level is p h in (further p.0 i is r.0, r.1)

some_is : (o : Option Slot) → is_some o ≡ true → (s : Slot) × (o ≡ Some s)
some_is None h = absurd (cc)
some_is (Some s) h = (s, refl)

module _ (law : Entries) (racks : List ℕ) (p : Layout) (t : IsTree racks p) (m : ℕ) (inside : m < length racks) where
  abbrev pub any_queue : Queue
  any_queue = record { key_first = true; first = None; ends = [] }

  abbrev pub map_of : Slot → Option Node
  map_of = value_at p.pool

  abbrev pub slots : Slots
  slots = slots_of p

  abbrev pub rack : ℕ
  rack = rack_place racks (get_or racks m 0)

  abbrev pub last : ℕ
  last = cluster_place racks

  abbrev pub sets : List PlaceSet
  sets = sets_of p.slots.items

  near_queued : m < length p.queues.items
  near_queued = let c = t.queue_count in omega (arith, c)

  rack_queued : rack < length p.queues.items
  rack_queued = let c = t.queue_count in let low = t.in_racks m inside in omega (arith, c, low)

  last_queued : last < length p.queues.items
  last_queued = let c = t.queue_count in omega (arith, c)

  -- a unit stands at a place exactly where its entry is in that queue
  queue_at : (place : ℕ) → place < length p.queues.items → IsQueueAt map_of (get_or p.queues.items place any_queue) slots place (t.kept.lists place)
  queue_at place h = t.kept.queues_stand place any_queue h

  there : (place : ℕ) → place < length p.queues.items → (e : Entry) → HasEntry e (t.kept.lists place) → entry_in map_of (slot_in slots (number_of e) place) ≡ Some e
  there place h e g = ap (entry_in map_of) ((queue_at place h).noted (g.0, e) g.1) ∙ member_entry law map_of (get_or p.queues.items place any_queue) (t.kept.lists place) (queue_at place h).stands (g.0, e) g.1

  stands_there : (place : ℕ) → place < length p.queues.items → (e : Entry) → HasEntry e (t.kept.lists place) → is_some (slot_in slots (number_of e) place) ≡ true
  stands_there place h e g = ap is_some ((queue_at place h).noted (g.0, e) g.1)

  waits : (place : ℕ) → place < length p.queues.items → (e : Entry) → HasEntry e (t.kept.lists place) → entry_in map_of (slot_in slots (number_of e) last) ≡ Some e
  waits place h e g = (t.one_entry (number_of e) place e (there place h e g)).1

  in_cluster : (e : Entry) → entry_in map_of (slot_in slots (number_of e) last) ≡ Some e → HasEntry e (t.kept.lists last)
  in_cluster e h = let l = listed law map_of p.pool.spare p.queues.items slots sets t.kept (number_of e) last e h in (l.slot, l.among)

  in_queue : (place : ℕ) → place < length p.queues.items → (e : Entry) → entry_in map_of (slot_in slots (number_of e) last) ≡ Some e → is_some (slot_in slots (number_of e) place) ≡ true → HasEntry e (t.kept.lists place)
  in_queue place h e w s =
      let o = some_is (slot_in slots (number_of e) place) s in
      let i = (queue_at place h).all (number_of e) o.0 o.1 in
      let own : entry_in map_of (slot_in slots (number_of e) place) ≡ Some i.0 = ap (entry_in map_of) o.1 ∙ member_entry law map_of (get_or p.queues.items place any_queue) (t.kept.lists place) (queue_at place h).stands (o.0, i.0) i.1 in
      let same : i.0 ≡ e = same_entry (entry_in map_of (slot_in slots (number_of e) last)) i.0 e (t.one_entry (number_of e) place i.0 own).1 w in
      (o.0, subst (λ (a : Entry). In (o.0, a) (t.kept.lists place)) same i.1)

  -- the level, by the slots and by the sets
  abbrev pub level : Entry → ℕ
  level e = cond (is_some (slot_in slots (number_of e) m)) 0 (cond (is_some (slot_in slots (number_of e) rack)) 1 2)

  near_skips : (e : Entry) → is_at_either sets m m e ≡ is_some (slot_in slots (number_of e) m)
  near_skips e = ap (λ b. b || b) (t.kept.marked (number_of e) m near_queued) ∙ twice (is_some (slot_in slots (number_of e) m))
    where
      twice : (b : Bool) → (b || b) ≡ b
      twice true = refl
      twice false = refl

  either_skips : (e : Entry) → is_at_either sets m rack e ≡ (is_some (slot_in slots (number_of e) m) || is_some (slot_in slots (number_of e) rack))
  either_skips e = ap (λ b. b || is_marked sets (number_of e) rack) (t.kept.marked (number_of e) m near_queued) ∙ ap (λ b. is_some (slot_in slots (number_of e) m) || b) (t.kept.marked (number_of e) rack rack_queued)

  abbrev pub all_pairs : List RankedEntry
  all_pairs = pairs_of sets m rack (t.kept.lists m) (t.kept.lists rack) (t.kept.lists last)

  -- Each pair of the three queues is one of the cluster's queue at its level.
  into_levels : (q : RankedEntry) → In q all_pairs → In q (with_levels level (t.kept.lists last))
  into_levels q g = elim (in_append q (unskipped nothing 0 (t.kept.lists m)) (unskipped (is_at_either sets m m) 1 (t.kept.lists rack) ++ unskipped (is_at_either sets m rack) 2 (t.kept.lists last)) g) as (λ _. In q (with_levels level (t.kept.lists last))) [
    | inl h ↦
        let o = unskipped_out nothing 0 (t.kept.lists m) q h in
        let l : level q.0 ≡ 0 = ap (λ b. cond b 0 (cond (is_some (slot_in slots (number_of q.0) rack)) 1 2)) (stands_there m near_queued q.0 o.0) in
        at_level q (l ∙ sym o.2) (in_cluster q.0 (waits m near_queued q.0 o.0))
    | inr h ↦ elim (in_append q (unskipped (is_at_either sets m m) 1 (t.kept.lists rack)) (unskipped (is_at_either sets m rack) 2 (t.kept.lists last)) h) as (λ _. In q (with_levels level (t.kept.lists last))) [
      | inl k ↦
          let o = unskipped_out (is_at_either sets m m) 1 (t.kept.lists rack) q k in
          let l : level q.0 ≡ 1 = ap (λ b. cond b 0 (cond (is_some (slot_in slots (number_of q.0) rack)) 1 2)) (sym (near_skips q.0) ∙ o.1) ∙ ap (λ b. cond b 1 2) (stands_there rack rack_queued q.0 o.0) in
          at_level q (l ∙ sym o.2) (in_cluster q.0 (waits rack rack_queued q.0 o.0))
      | inr k ↦
          let o = unskipped_out (is_at_either sets m rack) 2 (t.kept.lists last) q k in
          let none = both_false (is_some (slot_in slots (number_of q.0) m)) (is_some (slot_in slots (number_of q.0) rack)) (sym (either_skips q.0) ∙ o.1) in
          let l : level q.0 ≡ 2 = ap (λ b. cond b 0 (cond (is_some (slot_in slots (number_of q.0) rack)) 1 2)) none.0 ∙ ap (λ b. cond b 1 2) none.1 in
          at_level q (l ∙ sym o.2) o.0
    ]
  ]
    where
      at_level : (q : RankedEntry) → level q.0 ≡ q.1 → HasEntry q.0 (t.kept.lists last) → In q (with_levels level (t.kept.lists last))
      at_level q l h = subst (λ (k : ℕ). In (q.0, k) (with_levels level (t.kept.lists last))) l (levels_in level (t.kept.lists last) q.0 h)

  from_levels : (q : RankedEntry) → In q (with_levels level (t.kept.lists last)) → In q all_pairs
  from_levels q g =
      let o = levels_out level (t.kept.lists last) q g in
      let w = waits last last_queued q.0 o.0 in
      subst (λ (k : ℕ). In (q.0, k) all_pairs) (sym o.1) ((elim (is_some (slot_in slots (number_of q.0) m)) as (λ b. is_some (slot_in slots (number_of q.0) m) ≡ b → In (q.0, cond b 0 (cond (is_some (slot_in slots (number_of q.0) rack)) 1 2)) all_pairs) [
        | true ↦ λ f. in_left (q.0, 0) (unskipped nothing 0 (t.kept.lists m)) (unskipped (is_at_either sets m m) 1 (t.kept.lists rack) ++ unskipped (is_at_either sets m rack) 2 (t.kept.lists last)) (unskipped_in nothing 0 (t.kept.lists m) q.0 refl (in_queue m near_queued q.0 w f))
        | false ↦ λ f. (elim (is_some (slot_in slots (number_of q.0) rack)) as (λ b. is_some (slot_in slots (number_of q.0) rack) ≡ b → In (q.0, cond b 1 2) all_pairs) [
          | true ↦ λ r. in_right (q.0, 1) (unskipped nothing 0 (t.kept.lists m)) (unskipped (is_at_either sets m m) 1 (t.kept.lists rack) ++ unskipped (is_at_either sets m rack) 2 (t.kept.lists last))
              (in_left (q.0, 1) (unskipped (is_at_either sets m m) 1 (t.kept.lists rack)) (unskipped (is_at_either sets m rack) 2 (t.kept.lists last)) (unskipped_in (is_at_either sets m m) 1 (t.kept.lists rack) q.0 (near_skips q.0 ∙ f) (in_queue rack rack_queued q.0 w r)))
          | false ↦ λ r. in_right (q.0, 2) (unskipped nothing 0 (t.kept.lists m)) (unskipped (is_at_either sets m m) 1 (t.kept.lists rack) ++ unskipped (is_at_either sets m rack) 2 (t.kept.lists last))
              (in_right (q.0, 2) (unskipped (is_at_either sets m m) 1 (t.kept.lists rack)) (unskipped (is_at_either sets m rack) 2 (t.kept.lists last)) (unskipped_in (is_at_either sets m rack) 2 (t.kept.lists last) q.0 (either_skips q.0 ∙ ap (λ b. b || is_some (slot_in slots (number_of q.0) rack)) f ∙ r) o.0))
        ]) refl
      ]) refl)

  level_is : (a u : ℕ) → level_at (tree_record racks p) a u m ≡ cond (is_some (slot_in slots (8 * a + u) m)) 0 (cond (is_some (slot_in slots (8 * a + u) rack)) 1 2)
  level_is a u =
      let at_rack : Bool = get_or (unit_at (tree_record racks p) a u).stands rack false in
      ap (λ b. cond b 0 (cond at_rack 1 2)) (stands_of racks p (8 * a + u) m) ∙ ap (λ b. cond (is_some (slot_in slots (8 * a + u) m)) 0 (cond b 1 2)) (stands_of racks p (8 * a + u) rack)

  in_order : IsInOrder true (t.kept.lists last)
  in_order = subst (λ (b : Bool). IsInOrder b (t.kept.lists last)) (queue_at last last_queued).by_priority (queue_at last last_queued).stands.ordered

  -- for whatever leads over the pairs of the three queues
  pub has_path : (Leads : List RankedEntry → Type 0) → ((pairs : List RankedEntry) → IsRanking pairs all_pairs → Leads pairs) → HasPath (tree_record racks p) m Leads
  has_path Leads leads =
      let s = sorted level (t.kept.lists last) in_order in
      let r = s.ranking in
      record {
        pairs = s.pairs;
        is_path = record {
          ranked = r.ranked;
          waiting = λ e l g.
              let o = levels_out level (t.kept.lists last) (e, l) (r.sound (e, l) g) in
              (entry_of racks p (number_of e) ∙ waits last last_queued e o.0, o.1 ∙ sym (level_is e.app.0 e.unit.0));
          all = λ a u e h.
              let here : entry_in map_of (slot_in slots (8 * a + u) last) ≡ Some e = sym (entry_of racks p (8 * a + u)) ∙ h in
              let number : 8 * a + u ≡ number_of e = (t.one_entry (8 * a + u) last e here).0 in
              let own : entry_in map_of (slot_in slots (number_of e) last) ≡ Some e = subst (λ (n : ℕ). entry_in map_of (slot_in slots n last) ≡ Some e) number here in
              let same : level e ≡ level_at (tree_record racks p) a u m = ap (λ (n : ℕ). cond (is_some (slot_in slots n m)) 0 (cond (is_some (slot_in slots n rack)) 1 2)) (sym number) ∙ sym (level_is a u) in
              subst (λ (l : ℕ). In (e, l) s.pairs) same (r.complete (e, level e) (levels_in level (t.kept.lists last) e (in_cluster e own)));
        };
        leads = leads s.pairs (record { ranked = r.ranked; sound = λ q g. from_levels q (r.sound q g); complete = λ q g. r.complete q (into_levels q g) });
      }
