-- A layout in which units got places, or in which there are more units without.
use Rattle.std.proofs.Common.{◌≡◌, ℕ, ◌+◌, ◌<◌, ◌≤◌, false, List, [], None, is_some, length, get_or, refl, sym, ap, subst, ◌∙◌, arith}
use Rattle.std.proofs.lemmas.List.{get_or_past}
use Rattle.std.specs.Global.{Vec}
use Rattle.slot_pool.specs.Pools.{PoolRecord, SameSlots, value_at}
use Rattle.wait_queue.specs.declared.node.Node.{Node}
use Rattle.locality_tree.specs.declared.layout.Layout.{Layout}
use Rattle.locality_tree.specs.declared.layout.UnitSlots.{UnitSlots}
use Rattle.locality_tree.specs.declared.place_set.PlaceSet.{PlaceSet}
use Rattle.locality_tree.specs.Trees.{all_units}
use Rattle.locality_tree.specs.PlaceSets.{is_marked}
use Rattle.locality_tree.specs.Layouts.{Places, Slots, slots_of, slots_seen, numbers_of, sets_of, with_places, with_vacant, vacancies, AreKept, AreKeptIn, IsGrown, Admits}
use Rattle.locality_tree.proofs.NumbersLemmas.{seen_same, seen_vacant}
use Rattle.locality_tree.proofs.QueueLaws.{Stays}
use Rattle.locality_tree.proofs.VacantLemmas.{kept_admitted}

module _ (stays : Stays) (old : Layout) (kept : AreKeptIn old) (first : ℕ) where
  abbrev pub count : ℕ
  count = length old.queues.items

  pub admits : (pool : PoolRecord Node) (slots : Vec UnitSlots) (grown : List UnitSlots) (units : ℕ) → IsGrown old.slots.items grown → SameSlots old.pool pool → numbers_of slots.items ≡ with_places 0 (numbers_of grown) first count units → sets_of slots.items ≡ sets_of grown →
      first + units ≤ length (slots_of old) → ((k : ℕ) → k < units → length (get_or (slots_of old) (first + k) []) ≡ 0) → vacancies (with_vacant (slots_of old) first count units) ≤ pool.spare → Admits old (record old { pool = pool; slots = slots }) first units
  admits pool slots grown units more same put sets long new room =
      let olds : List UnitSlots = old.slots.items in
      let marks : (n k : ℕ) → is_marked (sets_of slots.items) n k ≡ is_marked (sets_of olds) n k = λ n k. ap (λ (ss : List PlaceSet). is_marked ss n k) sets ∙ more.sets n k in
      let none : (j k : ℕ) → j < units → k < count → is_marked (sets_of olds) (first + j) k ≡ false = λ j k h g. kept.marked (first + j) k g ∙ ap is_some (get_or_past (get_or (slots_of old) (first + j) []) k None (let z = new j h in omega (arith, z))) in
      let seen : slots_seen pool (sets_of slots.items) (numbers_of slots.items) ≡ with_vacant (slots_of old) first count units =
      seen_same old.pool pool (sets_of olds) (sets_of slots.items) same.generations marks (numbers_of slots.items)
      ∙ ap (slots_seen old.pool (sets_of olds)) (put ∙ ap (λ (rows : Places ℕ). with_places 0 rows first count units) more.numbers)
      ∙ seen_vacant old.pool (sets_of olds) (numbers_of olds) first count units none in
      record {
        kept =
            subst (λ (s : Slots). AreKept (value_at pool) pool.spare old.queues.items s (sets_of slots.items)) (sym seen)
            (kept_admitted stays (value_at old.pool) (value_at pool) old.pool.spare pool.spare old.queues.items (slots_of old) (sets_of olds) (sets_of slots.items) first units kept marks same.values long new room);
        count = refl;
        slots = seen;
        same = same;
      }

  -- after a refusal
  pub admits_none : (pool : PoolRecord Node) (slots : Vec UnitSlots) (units : ℕ) → IsGrown old.slots.items slots.items → SameSlots old.pool pool → old.pool.spare ≤ pool.spare → length (slots_of old) ≡ all_units → first + units ≤ all_units → Admits old (record old { pool = pool; slots = slots }) first 0
  admits_none pool slots units more same room all inside =
      admits pool slots slots.items 0 more same refl refl (omega (arith, all, inside)) (λ k h. absurd (omega arith)) (let less = kept.room in omega (arith, less, room))
