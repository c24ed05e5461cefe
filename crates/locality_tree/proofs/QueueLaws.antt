-- The laws of queues that the lemmas take, as `wait_queue` tells them, and what follows of members.
use Rattle.std.proofs.Common.{◌≡◌, ◌≢◌, ◌<◌, Bool, true, List, ◌∷◌, ◌++◌, Option, Some, None, IsSome, refl, ap, subst}
use Rattle.std.specs.List.{AllByRecursion}
use Rattle.fuxi_terms.proofs.Members.{In}
use Rattle.slot_pool.specs.declared.pool.Slot.{Slot}
use Rattle.wait_queue.specs.declared.node.Entry.{Entry}
use Rattle.wait_queue.specs.declared.node.Node.{Node}
use Rattle.wait_queue.specs.declared.queue.Queue.{Queue}
use Rattle.wait_queue.specs.Queues.{Item, Stands, HasPlace, MayEnter, IsOutside, Apart, AreBehind, IsInOrder, IsInRange, is_before, rank, entry_at}
use Rattle.locality_tree.specs.Layouts.{AreApart}
use Rattle.locality_tree.proofs.MembersLemmas.{all_in, all_from}

abbrev pub Entries : Type 0
Entries = (at : Slot → Option Node) (q : Queue) (items : List Item) → Stands at q items → AllByRecursion (λ (i : Item). entry_at at i.0 ≡ Some i.1) items

abbrev pub Distinct : Type 0
Distinct = (at : Slot → Option Node) (q : Queue) (front back : List Item) (slot : Slot) (entry : Entry) → Stands at q (front ++ (slot, entry) ∷ back) → IsOutside slot (front ++ back)

abbrev pub Absent : Type 0
Absent = (at : Slot → Option Node) (q : Queue) (items : List Item) (slot : Slot) → Stands at q items → at slot ≡ None → IsOutside slot items

abbrev pub Stays : Type 0
Stays = (at after : Slot → Option Node) (q : Queue) (items : List Item) → Stands at q items → ((slot : Slot) → after slot ≡ at slot) → Stands after q items

abbrev pub HavePlaces : Type 0
HavePlaces = (at : Slot → Option Node) (q : Queue) (e : Entry) → MayEnter at q e → HasPlace at q e

abbrev pub Parts : Type 0
Parts = (key_first : Bool) (front back : List Item) → IsInOrder key_first (front ++ back) → IsInOrder key_first front × IsInOrder key_first back × AllByRecursion (λ (i : Item). AreBehind key_first i.1 back) front

abbrev pub Rises : Type 0
Rises = (key_first : Bool) (one other : Entry) → IsInRange one → IsInRange other → is_before key_first one other ≡ true → rank key_first one < rank key_first other

-- at the slot of a member its entry stands
pub member_entry : Entries → (at : Slot → Option Node) (q : Queue) (items : List Item) → Stands at q items → (i : Item) → In i items → entry_at at i.0 ≡ Some i.1
member_entry law at q items h i g = all_in (λ (j : Item). entry_at at j.0 ≡ Some j.1) items i (law at q items h) g

-- a slot outside is no member's
pub not_outside : (s : Slot) (items : List Item) (e : Entry) → IsOutside s items → In (s, e) items → ⊥
not_outside s items e h g = all_in (λ (j : Item). j.0 ≢ s) items (s, e) h g refl

pub are_apart : (items theirs : List Item) → AreApart items theirs → Apart items theirs
are_apart items theirs h = all_from (λ (j : Item). IsOutside j.0 items) theirs (λ j g. all_from (λ (i : Item). i.0 ≢ j.0) items (λ i f e. let pair : Slot → Item = λ s. (s, i.1) in h j.0 i.1 j.1 (subst (λ (k : Item). In k items) (ap pair e) f) g))

pub live : (at : Slot → Option Node) (s : Slot) (e : Entry) → entry_at at s ≡ Some e → IsSome (at s)
live at s e h = by (at s) h
  where
    by : (o : Option Node) → Rattle.std.proofs.Common.option_map (λ (n : Node). n.entry) o ≡ Some e → IsSome o
    by None g = absurd (cc)
    by (Some n) g = refl

pub same_entry : (o : Option Entry) (a b : Entry) → o ≡ Some a → o ≡ Some b → a ≡ b
same_entry o a b h g = cc

pub same_slot : (a b : Slot) → Some a ≡ Some b → a ≡ b
same_slot a b h = cc

pub none_some : {A : Type 0} (o : Option A) (x : A) → o ≡ None → o ≡ Some x → ⊥
none_some o x h g = cc
