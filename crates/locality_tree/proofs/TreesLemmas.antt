-- What a change of a layout leaves of a tree, and what a contract sees of it.
use Rattle.std.proofs.Common.{◌≡◌, ◌≢◌, ◌⊎◌, ℕ, zero, suc, ◌+◌, ◌*◌, ◌<◌, ◌≤◌, Bool, true, false, cond, List, [], ◌∷◌, Option, Some, None, is_some, length, map, get_or, set, replicate, option_map, refl, sym, ap, subst, ◌∙◌, inl, inr, arith}
use Rattle.std.proofs.lemmas.Bool.{cases_eq, cases_lt}
use Rattle.std.proofs.lemmas.Bool.Decides.{nat_tests}
use Rattle.std.proofs.lemmas.List.{map-set, length-map, length-set, length-replicate, get_or-set_same, get_or-set_other, get_or_past, ext_get_or}
use Rattle.std.specs.Prelude.{IsTrue, Result, Ok, Err, OnOk, OnErr}
use Rattle.fuxi_terms.proofs.IndexedLists.{repeated_at}
use Rattle.slot_pool.specs.declared.pool.Slot.{Slot}
use Rattle.slot_pool.specs.Pools.{value_at}
use Rattle.wait_queue.specs.declared.node.Entry.{Entry}
use Rattle.wait_queue.specs.declared.node.Node.{Node}
use Rattle.wait_queue.specs.declared.queue.Queue.{Queue}
use Rattle.locality_tree.specs.declared.layout.Layout.{Layout}
use Rattle.locality_tree.specs.Trees.{UnitState, TreeRecord, all_units, no_unit, idle, with_idle, unit_at, is_admitted, with_unit, cluster_place, place_count, refreshed, MayWait}
use Rattle.locality_tree.specs.Layouts.{Slots, slots_of, sets_of, slot_in, with_vacant, number_of, entry_in, AreKeptIn, EntryFitsIn, TurnedIn, LeftIn, Admits, state_of, states_in, tree_record, IsOwn, IsTree}
use Rattle.locality_tree.proofs.LayoutsLemmas.{read_same, unit_inside, listed}
use Rattle.locality_tree.proofs.VacantLemmas.{vacant_reads, vacant_count}
use Rattle.locality_tree.proofs.QueueLaws.{Entries, same_entry, none_some}

state_in : (at : Slot → Option Node) (last : ℕ) (slots : Slots) (n : ℕ) → get_or (map (state_of at last) slots) n no_unit ≡ state_of at last (get_or slots n [])
state_in at last [] n = refl
state_in at last (r ∷ rs) zero = refl
state_in at last (r ∷ rs) (suc n) = state_in at last rs n

-- the state of a unit
pub state_at : (racks : List ℕ) (p : Layout) (n : ℕ) → get_or (states_in racks p) n no_unit ≡ state_of (value_at p.pool) (cluster_place racks) (get_or (slots_of p) n [])
state_at racks p n = state_in (value_at p.pool) (cluster_place racks) (slots_of p) n

pub entry_of : (racks : List ℕ) (p : Layout) (n : ℕ) → (get_or (states_in racks p) n no_unit).entry ≡ entry_in (value_at p.pool) (slot_in (slots_of p) n (cluster_place racks))
entry_of racks p n = ap (λ (u : UnitState). u.entry) (state_at racks p n)

stood_at : (places : List (Option Slot)) (k : ℕ) → get_or (map is_some places) k false ≡ is_some (get_or places k None)
stood_at [] k = refl
stood_at (o ∷ os) zero = refl
stood_at (o ∷ os) (suc k) = stood_at os k

-- a unit stands exactly where it has a slot
pub stands_of : (racks : List ℕ) (p : Layout) (n k : ℕ) → get_or (get_or (states_in racks p) n no_unit).stands k false ≡ is_some (slot_in (slots_of p) n k)
stands_of racks p n k = ap (λ (u : UnitState). get_or u.stands k false) (state_at racks p n) ∙ stood_at (get_or (slots_of p) n []) k

states_same : (a b : UnitState) → a.entry ≡ b.entry → a.stands ≡ b.stands → a ≡ b
states_same a b e f =
    let one : Option Entry → UnitState = λ x. record { entry = x; stands = a.stands } in
    let two : List Bool → UnitState = λ x. record { entry = b.entry; stands = x } in ap one e ∙ ap two f

-- the states where one unit alone changes
unit_changed : (at after : Slot → Option Node) (last : ℕ) (olds slots : Slots) (n : ℕ) (state : UnitState) → length slots ≡ length olds → n < length olds → ((m : ℕ) → m ≢ n → get_or slots m [] ≡ get_or olds m []) →
    ((m : ℕ) → m ≢ n → entry_in after (slot_in slots m last) ≡ entry_in at (slot_in olds m last)) → state_of after last (get_or slots n []) ≡ state → map (state_of after last) slots ≡ set (map (state_of at last) olds) n state
unit_changed at after last olds slots n state count inside others entries is =
    let units : List UnitState = map (state_of at last) olds in
    let long : n < length units = let m = length-map olds (state_of at last) in omega (arith, m) in
    let lengths : length (map (state_of after last) slots) ≡ length (set units n state) = length-map slots (state_of after last) ∙ count ∙ sym (length-map olds (state_of at last)) ∙ sym (length-set units n state) in
    ext_get_or no_unit (map (state_of after last) slots) (set units n state) lengths (λ m _. state_in after last slots m ∙ (elim (cases_eq m n) as (λ _. state_of after last (get_or slots m []) ≡ get_or (set units n state) m no_unit) [
      | inl a ↦ ap (λ (k : ℕ). state_of after last (get_or slots k [])) a ∙ is ∙ sym (get_or-set_same units n state no_unit long) ∙ ap (λ (k : ℕ). get_or (set units n state) k no_unit) (sym a)
      | inr a ↦ states_same (state_of after last (get_or slots m [])) (state_of at last (get_or olds m [])) (entries m a) (ap (map is_some) (others m a)) ∙ sym (state_in at last olds m) ∙ sym (get_or-set_other units n m state no_unit a)
    ]))

abbrev pub with_units : List ℕ → List UnitState → TreeRecord
with_units racks us = record { racks = racks; units = us }

-- an entry that waits fits every place
pub waiting_fits : Entries → (racks : List ℕ) (p : Layout) (t : IsTree racks p) (e : Entry) (place : ℕ) → entry_in (value_at p.pool) (slot_in (slots_of p) (number_of e) (cluster_place racks)) ≡ Some e → place < length p.queues.items → EntryFitsIn p e place
waiting_fits law racks p t e place there queued =
    let d : Queue = record { key_first = true; first = None; ends = [] } in
    let last : ℕ = cluster_place racks in
    let count = t.queue_count in
    let l = listed law (value_at p.pool) p.pool.spare p.queues.items (slots_of p) (sets_of p.slots.items) t.kept (number_of e) last e there in
    record {
      number = (t.kept.queues_stand last d (omega arith)).numbers (l.slot, e) l.among;
      inside = elim (t.kept.full (number_of e)) as (λ _. place < length (get_or (slots_of p) (number_of e) [])) [
        | inl z ↦ absurd (empty (get_or (slots_of p) (number_of e) []) last z there)
        | inr z ↦ subst (λ (k : ℕ). place < k) (sym z) queued
      ];
      queued = queued;
      same = λ k f h. same_entry (entry_in (value_at p.pool) (slot_in (slots_of p) (number_of e) last)) f e (t.one_entry (number_of e) k f h).1 there;
      alone = λ m k f h q. t.turns m (number_of e) f e (t.one_entry m k f h).1 there q;
    }
  where
    empty : (r : List (Option Slot)) (k : ℕ) → length r ≡ 0 → entry_in (value_at p.pool) (get_or r k None) ≡ Some e → ⊥
    empty [] k z h = none_some (entry_in (value_at p.pool) None) e refl h
    empty (o ∷ os) k z h = omega arith

-- an entry that may wait fits every place
pub may_wait_fits : (racks : List ℕ) (p : Layout) (t : IsTree racks p) (e : Entry) → IsTrue (is_admitted (tree_record racks p) e.app.0 e.unit.0) → MayWait (tree_record racks p) e → (place : ℕ) → place < length p.queues.items → EntryFitsIn p e place
may_wait_fits racks p t e admitted m place queued =
    let slots : Slots = slots_of p in
    let n : ℕ = number_of e in
    record {
      number = (m.app, m.unit);
      inside = elim (t.kept.full n) as (λ _. place < length (get_or slots n [])) [
        | inl z ↦ absurd (not_empty (ap (λ (u : UnitState). length u.stands) (state_at racks p n) ∙ length-map (get_or slots n []) is_some ∙ z))
        | inr z ↦ subst (λ (k : ℕ). place < k) (sym z) queued
      ];
      queued = queued;
      same = λ k f h. m.same f (entry_of racks p n ∙ (t.one_entry n k f h).1);
      alone = λ j k f h q. m.alone j f (entry_of racks p j ∙ (t.one_entry j k f h).1) q;
    }
  where
    not_empty : length (unit_at (tree_record racks p) e.app.0 e.unit.0).stands ≡ 0 → ⊥
    not_empty z = let a : 0 < length (unit_at (tree_record racks p) e.app.0 e.unit.0).stands = grind (arith, nat_tests, admitted) in omega (arith, a, z)

module _ (racks : List ℕ) (p p2 : Layout) (e : Entry) (place : ℕ) (stands : Bool) (t : IsTree racks p) (kept : AreKeptIn p2) (count : length p2.queues.items ≡ length p.queues.items) (turned : TurnedIn p p2 e place stands)
    (inside : place < length (get_or (slots_of p) (number_of e) [])) where
  abbrev pub last_of : ℕ
  last_of = cluster_place racks

  turned_length : length (slots_of p2) ≡ length (slots_of p)
  turned_length = ap length turned.noted ∙ length-set (slots_of p) (number_of e) (set (get_or (slots_of p) (number_of e) []) place turned.slot)

  -- The tree is kept where the unit's own entries afterwards are this one and stand in the cluster's queue too, and no other unit has its turn.
  pub tree_turned : ((k : ℕ) (f : Entry) → entry_in (value_at p2.pool) (slot_in (slots_of p2) (number_of e) k) ≡ Some f → (f ≡ e) × (entry_in (value_at p2.pool) (slot_in (slots_of p2) (number_of e) last_of) ≡ Some e)) →
      ((m : ℕ) (f : Entry) → entry_in (value_at p.pool) (slot_in (slots_of p) m last_of) ≡ Some f → f.turn ≡ e.turn → m ≡ number_of e) → IsTree racks p2
  tree_turned own alone =
      let n : ℕ = number_of e in
      let at2 : Slot → Option Node = value_at p2.pool in
      let slots2 : Slots = slots_of p2 in
      record {
        kept = kept;
        machines = t.machines;
        in_racks = t.in_racks;
        queue_count = count ∙ t.queue_count;
        unit_count = turned_length ∙ t.unit_count;
        one_entry = λ m k f h. elim (cases_eq m n) as (λ _. IsOwn at2 slots2 last_of m f) [
          | inl a ↦
              let o = own k f (subst (λ (i : ℕ). entry_in at2 (slot_in slots2 i k) ≡ Some f) a h) in
              (a ∙ ap number_of (sym o.0), subst (λ (i : ℕ). entry_in at2 (slot_in slots2 i last_of) ≡ Some f) (sym a) (o.1 ∙ ap Some (sym o.0)))
          | inr a ↦ let o = t.one_entry m k f (sym (turned.others m k (λ g _. a g)) ∙ h) in (o.0, turned.others m last_of (λ g _. a g) ∙ o.1)
        ];
        turns = λ m j f g h i q. elim (cases_eq m n) as (λ _. m ≡ j) [
          | inl a ↦
              let o = own last_of f (subst (λ (k : ℕ). entry_in at2 (slot_in slots2 k last_of) ≡ Some f) a h) in
              elim (cases_eq j n) as (λ _. m ≡ j) [
                | inl b ↦ a ∙ sym b
                | inr b ↦ absurd (b (alone j g (sym (turned.others j last_of (λ r _. b r)) ∙ i) (sym q ∙ ap (λ (x : Entry). x.turn) o.0)))
              ]
          | inr a ↦ elim (cases_eq j n) as (λ _. m ≡ j) [
            | inl b ↦
                let o = own last_of g (subst (λ (k : ℕ). entry_in at2 (slot_in slots2 k last_of) ≡ Some g) b i) in
                absurd (a (alone m f (sym (turned.others m last_of (λ r _. a r)) ∙ h) (q ∙ ap (λ (x : Entry). x.turn) o.0)))
            | inr b ↦ t.turns m j f g (sym (turned.others m last_of (λ r _. a r)) ∙ h) (sym (turned.others j last_of (λ r _. b r)) ∙ i) q
          ]
        ];
      }

  pub turned_view : tree_record racks p2 ≡ with_unit (tree_record racks p) e (record { entry = entry_in (value_at p2.pool) (slot_in (slots_of p2) (number_of e) last_of); stands = set (unit_at (tree_record racks p) e.app.0 e.unit.0).stands place stands })
  turned_view =
      let n : ℕ = number_of e in
      let slots : Slots = slots_of p in
      let r : List (Option Slot) = get_or slots n [] in
      let within : n < length slots = unit_inside slots n place inside in
      let state : UnitState = record { entry = entry_in (value_at p2.pool) (slot_in (slots_of p2) n last_of); stands = set (unit_at (tree_record racks p) e.app.0 e.unit.0).stands place stands } in
      let now : get_or (slots_of p2) n [] ≡ set r place turned.slot = ap (λ (s : Slots). get_or s n []) turned.noted ∙ get_or-set_same slots n (set r place turned.slot) [] within in
      let stand : map is_some (get_or (slots_of p2) n []) ≡ state.stands = ap (map is_some) now ∙ map-set is_some r place turned.slot ∙ ap (set (map is_some r) place) turned.marked ∙ sym (ap (λ (u : UnitState). set u.stands place stands) (state_at racks p n)) in
      ap (with_units racks) (unit_changed (value_at p.pool) (value_at p2.pool) last_of slots (slots_of p2) n state turned_length within
      (λ m d. ap (λ (s : Slots). get_or s m []) turned.noted ∙ get_or-set_other slots n m (set r place turned.slot) [] d)
      (λ m d. turned.others m last_of (λ g _. d g))
      (states_same (state_of (value_at p2.pool) last_of (get_or (slots_of p2) n [])) state refl stand))

  -- A unit that waits is marked at a place that is not the cluster's.
  module _ (there : entry_in (value_at p.pool) (slot_in (slots_of p) (number_of e) last_of) ≡ Some e) (differs : place ≢ last_of) where
    still : entry_in (value_at p2.pool) (slot_in (slots_of p2) (number_of e) last_of) ≡ Some e
    still = turned.others (number_of e) last_of (λ _ g. differs (sym g)) ∙ there

    pub tree_marked : IsTree racks p2
    tree_marked = tree_turned
        (λ k f h. (
          elim (cases_eq k place) as (λ _. f ≡ e) [
            | inl a ↦
                let here : entry_in (value_at p2.pool) (slot_in (slots_of p2) (number_of e) k) ≡ cond stands (Some e) None = ap (λ (i : ℕ). entry_in (value_at p2.pool) (slot_in (slots_of p2) (number_of e) i)) a
                ∙ ap (λ (s : Slots). entry_in (value_at p2.pool) (slot_in s (number_of e) place)) turned.noted ∙ ap (entry_in (value_at p2.pool)) (read_same (slots_of p) (number_of e) place turned.slot inside) ∙ turned.here in
                by stands f (sym here ∙ h)
            | inr a ↦ same_entry (entry_in (value_at p.pool) (slot_in (slots_of p) (number_of e) last_of)) f e (t.one_entry (number_of e) k f (sym (turned.others (number_of e) k (λ _ g. a g)) ∙ h)).1 there
          ],
          still,
        ))
        (λ m f h q. t.turns m (number_of e) f e h there q)
      where
        by : (b : Bool) (f : Entry) → cond b (Some e) None ≡ Some f → f ≡ e
        by true f g = cc
        by false f g = absurd (cc)

    pub marked_view : tree_record racks p2 ≡ with_unit (tree_record racks p) e (record { entry = (unit_at (tree_record racks p) e.app.0 e.unit.0).entry; stands = set (unit_at (tree_record racks p) e.app.0 e.unit.0).stands place stands })
    marked_view = turned_view ∙ ap (λ (x : Option Entry). with_unit (tree_record racks p) e (record { entry = x; stands = set (unit_at (tree_record racks p) e.app.0 e.unit.0).stands place stands })) (still ∙ sym there ∙ sym (entry_of racks p (number_of e)))

-- A unit begins to wait, or waits on: it stands in the cluster's queue.
module _ (racks : List ℕ) (p p2 : Layout) (e : Entry) (t : IsTree racks p) (kept : AreKeptIn p2) (count : length p2.queues.items ≡ length p.queues.items) (turned : TurnedIn p p2 e (cluster_place racks) true)
    (inside : cluster_place racks < length (get_or (slots_of p) (number_of e) [])) where
  now_waits : entry_in (value_at p2.pool) (slot_in (slots_of p2) (number_of e) (cluster_place racks)) ≡ Some e
  now_waits =
      ap (λ (s : Slots). entry_in (value_at p2.pool) (slot_in s (number_of e) (cluster_place racks))) turned.noted
      ∙ ap (entry_in (value_at p2.pool)) (read_same (slots_of p) (number_of e) (cluster_place racks) turned.slot inside) ∙ turned.here

  pub tree_begun : MayWait (tree_record racks p) e → IsTree racks p2
  tree_begun m = tree_turned racks p p2 e (cluster_place racks) true t kept count turned inside
      (λ k f h. (
        elim (cases_eq k (cluster_place racks)) as (λ _. f ≡ e) [
          | inl a ↦ same_entry (entry_in (value_at p2.pool) (slot_in (slots_of p2) (number_of e) (cluster_place racks))) f e (subst (λ (i : ℕ). entry_in (value_at p2.pool) (slot_in (slots_of p2) (number_of e) i) ≡ Some f) a h) now_waits
          | inr a ↦ m.same f (entry_of racks p (number_of e) ∙ (t.one_entry (number_of e) k f (sym (turned.others (number_of e) k (λ _ g. a g)) ∙ h)).1)
        ],
        now_waits,
      ))
      (λ j f h q. m.alone j f (entry_of racks p j ∙ h) q)

  pub begun_view : tree_record racks p2 ≡ refreshed (tree_record racks p) e true
  begun_view = turned_view racks p p2 e (cluster_place racks) true t kept count turned inside ∙ ap (λ (x : Option Entry). with_unit (tree_record racks p) e (record { entry = x; stands = set (unit_at (tree_record racks p) e.app.0 e.unit.0).stands (cluster_place racks) true })) now_waits

all_none : (places : List (Option Slot)) (count : ℕ) → length places ≡ count → ((k : ℕ) → get_or places k None ≡ None) → map is_some places ≡ replicate count false
all_none [] zero l h = refl
all_none [] (suc count) l h = absurd (omega arith)
all_none (o ∷ os) zero l h = absurd (omega arith)
all_none (o ∷ os) (suc count) l h =
    let first : is_some o ≡ false = ap is_some (h 0) in
    let rest : map is_some os ≡ replicate count false = all_none os count (omega arith) (λ k. h (suc k)) in
    ap (λ b. b ∷ map is_some os) first ∙ ap (λ (bs : List Bool). false ∷ bs) rest

-- A unit waits no more: it stands nowhere.
module _ (racks : List ℕ) (p p2 : Layout) (e : Entry) (t : IsTree racks p) (kept : AreKeptIn p2) (count : length p2.queues.items ≡ length p.queues.items) (left : LeftIn p p2 e (length p.queues.items))
    (inside : cluster_place racks < length (get_or (slots_of p) (number_of e) [])) where
  width_is : length (get_or (slots_of p2) (number_of e) []) ≡ length p.queues.items
  width_is = left.width ∙ (elim (t.kept.full (number_of e)) as (λ _. length (get_or (slots_of p) (number_of e) []) ≡ length p.queues.items) [ inl z ↦ absurd (omega (arith, inside, z)) | inr z ↦ z ])

  nowhere : (k : ℕ) → slot_in (slots_of p2) (number_of e) k ≡ None
  nowhere k = elim (cases_lt k (length p.queues.items)) as (λ _. slot_in (slots_of p2) (number_of e) k ≡ None) [
    | inl a ↦ left.gone k a
    | inr a ↦ get_or_past (get_or (slots_of p2) (number_of e) []) k None (let w = width_is in omega (arith, a, w))
  ]

  not_own : (k : ℕ) (f : Entry) → entry_in (value_at p2.pool) (slot_in (slots_of p2) (number_of e) k) ≡ Some f → ⊥
  not_own k f h = none_some (entry_in (value_at p2.pool) (slot_in (slots_of p2) (number_of e) k)) f (ap (entry_in (value_at p2.pool)) (nowhere k)) h

  other_unit : (m k : ℕ) (f : Entry) → entry_in (value_at p2.pool) (slot_in (slots_of p2) m k) ≡ Some f → m ≢ number_of e
  other_unit m k f h a = not_own k f (subst (λ (i : ℕ). entry_in (value_at p2.pool) (slot_in (slots_of p2) i k) ≡ Some f) a h)

  was : (m k : ℕ) (f : Entry) → entry_in (value_at p2.pool) (slot_in (slots_of p2) m k) ≡ Some f → entry_in (value_at p.pool) (slot_in (slots_of p) m k) ≡ Some f
  was m k f h = sym (left.entries m k (other_unit m k f h)) ∙ h

  pub tree_left : IsTree racks p2
  tree_left = record {
    kept = kept;
    machines = t.machines;
    in_racks = t.in_racks;
    queue_count = count ∙ t.queue_count;
    unit_count = left.count ∙ t.unit_count;
    one_entry = λ m k f h. let o = t.one_entry m k f (was m k f h) in (o.0, left.entries m (cluster_place racks) (other_unit m k f h) ∙ o.1);
    turns = λ m j f g h i q. t.turns m j f g (was m (cluster_place racks) f h) (was j (cluster_place racks) g i) q;
  }

  pub left_view : tree_record racks p2 ≡ refreshed (tree_record racks p) e false
  left_view =
      let n : ℕ = number_of e in
      let last : ℕ = cluster_place racks in
      let within : n < length (slots_of p) = unit_inside (slots_of p) n last inside in
      ap (with_units racks) (unit_changed (value_at p.pool) (value_at p2.pool) last (slots_of p) (slots_of p2) n (idle (place_count racks)) left.count within left.others (λ m d. left.entries m last d)
      (states_same (state_of (value_at p2.pool) last (get_or (slots_of p2) n [])) (idle (place_count racks)) (ap (entry_in (value_at p2.pool)) (nowhere last)) (all_none (get_or (slots_of p2) n []) (place_count racks) (width_is ∙ t.queue_count) nowhere)))

no_states : (at : Slot → Option Node) (last count : ℕ) → map (state_of at last) (replicate count []) ≡ replicate count no_unit
no_states at last zero = refl
no_states at last (suc count) = ap (λ (us : List UnitState). no_unit ∷ us) (no_states at last count)

-- the tree without a job
module _ (racks : List ℕ) (p : Layout) (is : slots_of p ≡ replicate all_units []) where
  no_entry : (n k : ℕ) (e : Entry) → entry_in (value_at p.pool) (slot_in (slots_of p) n k) ≡ Some e → ⊥
  no_entry n k e h = none_some (entry_in (value_at p.pool) (slot_in (slots_of p) n k)) e (ap (λ (s : Slots). entry_in (value_at p.pool) (slot_in s n k)) is ∙ ap (λ (r : List (Option Slot)). entry_in (value_at p.pool) (get_or r k None)) (repeated_at [] all_units n)) h

  pub tree_started : AreKeptIn p → length racks ≤ 256 → ((m : ℕ) → m < length racks → get_or racks m 0 < 64) → length p.queues.items ≡ place_count racks → IsTree racks p
  tree_started kept few low count = record {
    kept = kept;
    machines = few;
    in_racks = low;
    queue_count = count;
    unit_count = ap length is ∙ length-replicate all_units [];
    one_entry = λ n k e h. absurd (no_entry n k e h);
    turns = λ n m e f h g q. absurd (no_entry n (cluster_place racks) e h);
  }

  pub started_view : tree_record racks p ≡ record { racks = racks; units = replicate all_units no_unit }
  started_view = ap (with_units racks) (ap (map (state_of (value_at p.pool) (cluster_place racks))) is ∙ no_states (value_at p.pool) (cluster_place racks) all_units)

-- The tree with a job more: no unit's entry changes.
module _ (racks : List ℕ) (p p2 : Layout) (first units : ℕ) (t : IsTree racks p) (a : Admits p p2 first units)
    (long : first + units ≤ length (slots_of p)) (new : (k : ℕ) → k < units → length (get_or (slots_of p) (first + k) []) ≡ 0) where
  entry_same : (o : Option Slot) → entry_in (value_at p2.pool) o ≡ entry_in (value_at p.pool) o
  entry_same None = refl
  entry_same (Some s) = ap (option_map (λ (n : Node). n.entry)) (a.same.values s)

  entry_stays : (m k : ℕ) → entry_in (value_at p2.pool) (slot_in (slots_of p2) m k) ≡ entry_in (value_at p.pool) (slot_in (slots_of p) m k)
  entry_stays m k = ap (λ (s : Slots). entry_in (value_at p2.pool) (slot_in s m k)) a.slots ∙ ap (entry_in (value_at p2.pool)) (vacant_reads (slots_of p) first (length p.queues.items) units long new m k) ∙ entry_same (slot_in (slots_of p) m k)

  pub tree_admitted : IsTree racks p2
  tree_admitted = record {
    kept = a.kept;
    machines = t.machines;
    in_racks = t.in_racks;
    queue_count = a.count ∙ t.queue_count;
    unit_count = ap length a.slots ∙ vacant_count (slots_of p) first (length p.queues.items) units ∙ t.unit_count;
    one_entry = λ n k e h. let o = t.one_entry n k e (sym (entry_stays n k) ∙ h) in (o.0, entry_stays n (cluster_place racks) ∙ o.1);
    turns = λ n m e f h g q. t.turns n m e f (sym (entry_stays n (cluster_place racks)) ∙ h) (sym (entry_stays m (cluster_place racks)) ∙ g) q;
  }

  states_stay : (last : ℕ) (slots : Slots) → map (state_of (value_at p2.pool) last) slots ≡ map (state_of (value_at p.pool) last) slots
  states_stay last [] = refl
  states_stay last (r ∷ rs) =
      ap (λ (u : UnitState). u ∷ map (state_of (value_at p2.pool) last) rs) (states_same (state_of (value_at p2.pool) last r) (state_of (value_at p.pool) last r) (entry_same (get_or r last None)) refl)
      ∙ ap (λ (us : List UnitState). state_of (value_at p.pool) last r ∷ us) (states_stay last rs)

  vacant_state : (last places : ℕ) → state_of (value_at p2.pool) last (replicate places None) ≡ idle places
  vacant_state last places = states_same (state_of (value_at p2.pool) last (replicate places None)) (idle places) (ap (entry_in (value_at p2.pool)) (repeated_at {A = Option Slot} None places last)) (all_none (replicate places None) places (length-replicate places None) (repeated_at {A = Option Slot} None places))

  states_vacant : (last places n : ℕ) (slots : Slots) → map (state_of (value_at p2.pool) last) (with_vacant slots first places n) ≡ with_idle (map (state_of (value_at p.pool) last) slots) first places n
  states_vacant last places zero slots = states_stay last slots
  states_vacant last places (suc n) slots =
      map-set (state_of (value_at p2.pool) last) (with_vacant slots first places n) (first + n) (replicate places None)
      ∙ ap (set (map (state_of (value_at p2.pool) last) (with_vacant slots first places n)) (first + n)) (vacant_state last places)
      ∙ ap (λ (us : List UnitState). set us (first + n) (idle places)) (states_vacant last places n slots)

  pub admitted_view : tree_record racks p2 ≡ record (tree_record racks p) { units = with_idle (states_in racks p) first (place_count racks) units }
  admitted_view =
      let last : ℕ = cluster_place racks in
      ap (with_units racks) (ap (map (state_of (value_at p2.pool) last)) a.slots ∙ states_vacant last (length p.queues.items) units (slots_of p)
      ∙ ap (λ (k : ℕ). with_idle (map (state_of (value_at p.pool) last) (slots_of p)) first k units) t.queue_count)

-- a unit that is not admitted has no place
pub not_admitted : (racks : List ℕ) (p : Layout) (a u : ℕ) → is_admitted (tree_record racks p) a u ≡ false → length (get_or (slots_of p) (8 * a + u) []) ≡ 0
not_admitted racks p a u h =
    let none : length (unit_at (tree_record racks p) a u).stands ≡ 0 = grind (arith, nat_tests, h) in
    sym (length-map (get_or (slots_of p) (8 * a + u) []) is_some) ∙ sym (ap (λ (x : UnitState). length x.stands) (state_at racks p (8 * a + u))) ∙ none

-- what a result tells
pub ok_or_err : {A E : Type 0} (r : Result A E) (P Q : Type 0) → OnOk r P → OnErr r Q → P ⊎ Q
ok_or_err (Ok x) P Q h g = inl h
ok_or_err (Err x) P Q h g = inr g

pub on_err : {A E : Type 0} (r : Result A E) (P Q : Type 0) → (P → Q) → OnErr r P → OnErr r Q
on_err (Ok x) P Q f h = h
on_err (Err x) P Q f h = f h

pub on_ok : {A E : Type 0} (r : Result A E) (P Q : Type 0) → (P → Q) → OnOk r P → OnOk r Q
on_ok (Ok x) P Q f h = f h
on_ok (Err x) P Q f h = h

-- what is so anyway
pub if_err : {A E : Type 0} (r : Result A E) {P : Type 0} → P → OnErr r P
if_err (Ok x) h = tt
if_err (Err x) h = h
