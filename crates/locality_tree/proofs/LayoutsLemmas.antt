-- What one unit's entering and leaving a queue keeps of a layout.
use Rattle.std.proofs.Common.{◌≡◌, ◌≢◌, ◌⊎◌, ℕ, ◌+◌, ◌<◌, ◌≤◌, zero, suc, Bool, true, false, cond, nat_eq, List, [], ◌∷◌, ◌++◌, Option, Some, None, is_some, length, get_or, set, count_by, refl, sym, ap, subst, ◌∙◌, inl, inr, arith}
use Rattle.std.proofs.lemmas.Bool.{cases_eq}
use Rattle.std.specs.Option.{is_none}
use Rattle.std.proofs.lemmas.Bool.Decides.{eqb_tells}
use Rattle.std.proofs.lemmas.List.{set-get_or, get_or-set_same, get_or-set_other, length-set}
use Rattle.std.proofs.lemmas.List.Sums.{sum_by-set}
use Rattle.fuxi_terms.proofs.Members.{In}
use Rattle.slot_pool.specs.declared.pool.Slot.{Slot}
use Rattle.wait_queue.specs.declared.node.Entry.{Entry}
use Rattle.wait_queue.specs.declared.node.Node.{Node}
use Rattle.wait_queue.specs.declared.queue.Queue.{Queue}
use Rattle.wait_queue.specs.Queues.{Item, Stands, IsIn, MayEnter, HasPlace, IsPlace, Apart, entry_at}
use Rattle.locality_tree.specs.declared.place_set.PlaceSet.{PlaceSet}
use Rattle.locality_tree.specs.PlaceSets.{is_marked}
use Rattle.locality_tree.specs.Layouts.{Places, Slots, slot_in, with_slot, number_of, HasNumber, vacancies, entry_in, AreApart, IsQueueAt, AreKept, EntryFits, Turned, IsNoted}
use Rattle.locality_tree.proofs.MembersLemmas.{in_here, in_wider, in_middle, Parted, parted, all_from}
use Rattle.locality_tree.proofs.QueueLaws.{Entries, Distinct, Absent, HavePlaces, member_entry, not_outside, are_apart, same_entry, same_slot, none_some}

-- reads after a slot is noted
pub unit_inside : {A : Type 0} (slots : Places A) (n k : ℕ) → k < length (get_or slots n []) → n < length slots
unit_inside [] n k h = absurd (omega arith)
unit_inside (r ∷ rs) zero k h = omega arith
unit_inside (r ∷ rs) (suc n) k h = omega (arith, unit_inside rs n k h)

pub place_same : {A : Type 0} (none : A) (slots : Places A) (n k : ℕ) (x : A) → k < length (get_or slots n []) → get_or (get_or (with_slot slots n k x) n []) k none ≡ x
place_same {A} none slots n k x h = ap (λ (r : List A). get_or r k none) (get_or-set_same slots n (set (get_or slots n []) k x) [] (unit_inside slots n k h)) ∙ get_or-set_same (get_or slots n []) k x none h

pub place_other : {A : Type 0} (none : A) (slots : Places A) (n k m p : ℕ) (x : A) → k < length (get_or slots n []) → (m ≡ n → p ≡ k → ⊥) → get_or (get_or (with_slot slots n k x) m []) p none ≡ get_or (get_or slots m []) p none
place_other {A} none slots n k m p x h d = elim (cases_eq m n) as (λ _. get_or (get_or (with_slot slots n k x) m []) p none ≡ get_or (get_or slots m []) p none) [
  | inl e ↦ ap (λ (i : ℕ). get_or (get_or (with_slot slots n k x) i []) p none) e
      ∙ ap (λ (r : List A). get_or r p none) (get_or-set_same slots n (set (get_or slots n []) k x) [] (unit_inside slots n k h))
      ∙ get_or-set_other (get_or slots n []) k p x none (λ f. d e f)
      ∙ ap (λ (i : ℕ). get_or (get_or slots i []) p none) (sym e)
  | inr f ↦ ap (λ (r : List A). get_or r p none) (get_or-set_other slots n m (set (get_or slots n []) k x) [] f)
]

pub read_same : (slots : Slots) (n k : ℕ) (x : Option Slot) → k < length (get_or slots n []) → slot_in (with_slot slots n k x) n k ≡ x
read_same = place_same None

pub read_other : (slots : Slots) (n k m p : ℕ) (x : Option Slot) → k < length (get_or slots n []) → (m ≡ n → p ≡ k → ⊥) → slot_in (with_slot slots n k x) m p ≡ slot_in slots m p
read_other = place_other None

pub unit_lengths : {A : Type 0} (slots : Places A) (n k m : ℕ) (x : A) → k < length (get_or slots n []) → length (get_or (with_slot slots n k x) m []) ≡ length (get_or slots m [])
unit_lengths slots n k m x h = elim (cases_eq m n) as (λ _. length (get_or (with_slot slots n k x) m []) ≡ length (get_or slots m [])) [
  | inl e ↦ ap (λ (i : ℕ). length (get_or (with_slot slots n k x) i [])) e
      ∙ ap length (get_or-set_same slots n (set (get_or slots n []) k x) [] (unit_inside slots n k h))
      ∙ length-set (get_or slots n []) k x
      ∙ ap (λ (i : ℕ). length (get_or slots i [])) (sym e)
  | inr f ↦ ap length (get_or-set_other slots n m (set (get_or slots n []) k x) [] f)
]

abbrev pub weight : Option Slot → ℕ
weight o = cond {A = ℕ} (is_none o) 1 0

vacancies_set : (slots : Slots) (n k : ℕ) (x : Option Slot) → k < length (get_or slots n []) → vacancies (with_slot slots n k x) + weight (slot_in slots n k) ≡ vacancies slots + weight x
vacancies_set slots n k x h =
    let outer = sum_by-set (λ (r : List (Option Slot)). count_by is_none r) slots n (set (get_or slots n []) k x) [] (unit_inside slots n k h) in
    let inner = sum_by-set (λ (o : Option Slot). cond {A = ℕ} (is_none o) 1 0) (get_or slots n []) k x None h in
    omega (arith, outer, inner)

-- a place at which a unit has a slot is one of the queues'
some_inside : (places : List (Option Slot)) (k : ℕ) (s : Slot) → get_or places k None ≡ Some s → k < length places
some_inside [] k s e = absurd (none_some (get_or [] k None) s refl e)
some_inside (o ∷ os) zero s e = omega arith
some_inside (o ∷ os) (suc k) s e = omega (arith, some_inside os k s e)

pub slot_queued : (at : Slot → Option Node) (spare : ℕ) (queues : List Queue) (slots : Slots) (sets : List PlaceSet) (kept : AreKept at spare queues slots sets) (n k : ℕ) (s : Slot) → slot_in slots n k ≡ Some s → k < length queues
slot_queued at spare queues slots sets kept n k s e =
    let within = some_inside (get_or slots n []) k s e in
    elim (kept.full n) as (λ _. k < length queues) [ inl z ↦ absurd (omega (arith, within, z)) | inr z ↦ omega (arith, within, z) ]

pub entry_queued : (at : Slot → Option Node) (spare : ℕ) (queues : List Queue) (slots : Slots) (sets : List PlaceSet) (kept : AreKept at spare queues slots sets) (n k : ℕ) (e : Entry) → entry_in at (slot_in slots n k) ≡ Some e → k < length queues
entry_queued at spare queues slots sets kept n k e h = by (slot_in slots n k) refl h
  where
    by : (o : Option Slot) → slot_in slots n k ≡ o → entry_in at o ≡ Some e → k < length queues
    by None f g = absurd (none_some (entry_in at None) e refl g)
    by (Some s) f g = slot_queued at spare queues slots sets kept n k s f

-- the entry at a unit's slot is in the queue there, and it is the unit's
pub record Listed (at : Slot → Option Node) (slots : Slots) (items : List Item) (n k : ℕ) (e : Entry) : Type 0 where
  pub slot : Slot
  pub noted : slot_in slots n k ≡ Some slot
  pub among : In (slot, e) items
  pub number : number_of e ≡ n

pub listed : Entries → (at : Slot → Option Node) (spare : ℕ) (queues : List Queue) (slots : Slots) (sets : List PlaceSet) (kept : AreKept at spare queues slots sets) (n k : ℕ) (e : Entry) → entry_in at (slot_in slots n k) ≡ Some e → Listed at slots (kept.lists k) n k e
listed law at spare queues slots sets kept n k e h = by (slot_in slots n k) refl h
  where
    by : (o : Option Slot) → slot_in slots n k ≡ o → entry_in at o ≡ Some e → Listed at slots (kept.lists k) n k e
    by None f g = absurd (none_some (entry_in at None) e refl g)
    by (Some s) f g =
        let d : Queue = record { key_first = true; first = None; ends = [] } in
        let q = kept.queues_stand k d (slot_queued at spare queues slots sets kept n k s f) in
        let i = q.all n s f in
        let same : i.0 ≡ e = same_entry (entry_at at s) i.0 e (member_entry law at (get_or queues k d) (kept.lists k) q.stands (s, i.0) i.1) g in
        record { slot = s; noted = f; among = subst (λ (a : Entry). In (s, a) (kept.lists k)) same i.1; number = subst (λ (a : Entry). number_of a ≡ n) same i.2 }

-- the lists after one of them is another
abbrev pub with_list : (ℕ → List Item) → ℕ → List Item → ℕ → List Item
with_list lists place items p = cond (nat_eq p place) items (lists p)

module _ (at0 at3 : Slot → Option Node) (queues : List Queue) (slots : Slots) (sets news : List PlaceSet) (n place : ℕ) (q : Queue) (x : Option Slot) (items : List Item) (spare after : ℕ) (kept : AreKept at0 spare queues slots sets)
    (inside : place < length (get_or slots n [])) (queued : place < length queues)
    (here : IsQueueAt at3 q (with_slot slots n place x) place items)
    (others : (p : ℕ) → p ≢ place → p < length queues → (d : Queue) → Stands at3 (get_or queues p d) (kept.lists p))
    (apart : (p : ℕ) → p ≢ place → p < length queues → AreApart items (kept.lists p))
    (room : vacancies (with_slot slots n place x) ≤ after)
    (noted : IsNoted sets news n place (is_some x)) where
  -- A change of one queue, one place of one unit, its set and the pool: what is asked of the changed queue, and that each other one still stands.
  pub kept_with : AreKept at3 after (set queues place q) (with_slot slots n place x) news
  kept_with = record {
    lists = with_list kept.lists place items;
    queues_stand = λ p d h. elim (eqb_tells p place) as (λ _. IsQueueAt at3 (get_or (set queues place q) p d) (with_slot slots n place x) p (with_list kept.lists place items p)) [
      | inl e ↦
          subst (λ (l : List Item). IsQueueAt at3 (get_or (set queues place q) p d) (with_slot slots n place x) p l) (sym (ap (λ b. cond b items (kept.lists p)) e.0))
          (subst (λ (r : ℕ). IsQueueAt at3 (get_or (set queues place q) r d) (with_slot slots n place x) r items) (sym e.1)
          (subst (λ (r : Queue). IsQueueAt at3 r (with_slot slots n place x) place items) (sym (get_or-set_same queues place q d queued)) here))
      | inr e ↦
          let within : p < length queues = subst (λ (m : ℕ). p < m) (length-set queues place q) h in
          let old = kept.queues_stand p d within in
          subst (λ (l : List Item). IsQueueAt at3 (get_or (set queues place q) p d) (with_slot slots n place x) p l) (sym (ap (λ b. cond b items (kept.lists p)) e.0))
          (subst (λ (r : Queue). IsQueueAt at3 r (with_slot slots n place x) p (kept.lists p)) (sym (get_or-set_other queues place p q d e.1)) (record {
            stands = others p e.1 within d;
            by_priority = old.by_priority;
            numbers = old.numbers;
            noted = λ i g. read_other slots n place (number_of i.1) p x inside (λ _ f. e.1 f) ∙ old.noted i g;
            all = λ m s g. old.all m s (sym (read_other slots n place m p x inside (λ _ f. e.1 f)) ∙ g);
          }))
    ];
    apart = λ p o h g d. both_apart p o (subst (λ (m : ℕ). p < m) (length-set queues place q) h) (subst (λ (m : ℕ). o < m) (length-set queues place q) g) d;
    room = room;
    full = λ m. elim (kept.full m) as (λ _. (length (get_or (with_slot slots n place x) m []) ≡ 0) ⊎ (length (get_or (with_slot slots n place x) m []) ≡ length (set queues place q))) [
      | inl e ↦ inl (unit_lengths slots n place m x inside ∙ e)
      | inr e ↦ inr (unit_lengths slots n place m x inside ∙ e ∙ sym (length-set queues place q))
    ];
    few = subst (λ (k : ℕ). k ≤ 384) (sym (length-set queues place q)) kept.few;
    marked = λ m p h. marks m p (subst (λ (k : ℕ). p < k) (length-set queues place q) h);
  }
    where
      both_apart : (p o : ℕ) → p < length queues → o < length queues → p ≢ o → AreApart (with_list kept.lists place items p) (with_list kept.lists place items o)
      both_apart p o h g d = elim (eqb_tells p place) as (λ _. AreApart (with_list kept.lists place items p) (with_list kept.lists place items o)) [
        | inl e ↦ elim (eqb_tells o place) as (λ _. AreApart (with_list kept.lists place items p) (with_list kept.lists place items o)) [
          | inl f ↦ absurd (d (e.1 ∙ sym f.1))
          | inr f ↦ subst (λ (l : List Item). AreApart l (with_list kept.lists place items o)) (sym (ap (λ b. cond b items (kept.lists p)) e.0)) (subst (λ (l : List Item). AreApart items l) (sym (ap (λ b. cond b items (kept.lists o)) f.0)) (apart o f.1 g))
        ]
        | inr e ↦ elim (eqb_tells o place) as (λ _. AreApart (with_list kept.lists place items p) (with_list kept.lists place items o)) [
          | inl f ↦ subst (λ (l : List Item). AreApart (with_list kept.lists place items p) l) (sym (ap (λ b. cond b items (kept.lists o)) f.0)) (subst (λ (l : List Item). AreApart l items) (sym (ap (λ b. cond b items (kept.lists p)) e.0)) (λ s a b i j. apart p e.1 h s b a j i))
          | inr f ↦ subst (λ (l : List Item). AreApart l (with_list kept.lists place items o)) (sym (ap (λ b. cond b items (kept.lists p)) e.0)) (subst (λ (l : List Item). AreApart (kept.lists p) l) (sym (ap (λ b. cond b items (kept.lists o)) f.0)) (kept.apart p o h g d))
        ]
      ]

      marks : (m p : ℕ) → p < length queues → is_marked news m p ≡ is_some (slot_in (with_slot slots n place x) m p)
      marks m p h = elim (cases_eq m n) as (λ _. is_marked news m p ≡ is_some (slot_in (with_slot slots n place x) m p)) [
        | inl e ↦ elim (cases_eq p place) as (λ _. is_marked news m p ≡ is_some (slot_in (with_slot slots n place x) m p)) [
          | inl f ↦ subst (λ (i : ℕ). is_marked news i p ≡ is_some (slot_in (with_slot slots n place x) i p)) (sym e) (subst (λ (i : ℕ). is_marked news n i ≡ is_some (slot_in (with_slot slots n place x) n i)) (sym f) (noted.here ∙ sym (ap is_some (read_same slots n place x inside))))
          | inr f ↦ noted.others m p (λ _ g. f g) ∙ kept.marked m p h ∙ sym (ap is_some (read_other slots n place m p x inside (λ _ g. f g)))
        ]
        | inr e ↦ noted.others m p (λ g _. e g) ∙ kept.marked m p h ∙ sym (ap is_some (read_other slots n place m p x inside (λ g _. e g)))
      ]

abbrev pub StaysApart : (Slot → Option Node) → (Slot → Option Node) → Queue → Type 0
StaysApart at0 at3 q = (items theirs : List Item) (other : Queue) → Stands at0 q items → Stands at0 other theirs → Apart items theirs → Stands at3 other theirs

module _ (entries : Entries) (at0 : Slot → Option Node) (queues : List Queue) (slots : Slots) (sets : List PlaceSet) (place : ℕ) (q0 : Queue) (e : Entry) (spare : ℕ) (kept : AreKept at0 spare queues slots sets) (fits : EntryFits at0 (length queues) slots e place) (is_q : q0 ≡ get_or queues place q0) where
  -- the queue before a change
  pub queue_was : IsQueueAt at0 q0 slots place (kept.lists place)
  queue_was = subst (λ (q : Queue). IsQueueAt at0 q slots place (kept.lists place)) (sym is_q) (kept.queues_stand place q0 fits.queued)

  pub may_enter : slot_in slots (number_of e) place ≡ None → MayEnter at0 q0 e
  may_enter none = record {
    items = kept.lists place;
    stands = queue_was.stands;
    new = all_from (λ (i : Item). i.1.turn ≢ e.turn) (kept.lists place) (λ i g t.
        let noted = queue_was.noted i g in
        let here : entry_in at0 (slot_in slots (number_of i.1) place) ≡ Some i.1 = ap (entry_in at0) noted ∙ member_entry entries at0 q0 (kept.lists place) queue_was.stands i g in
        let unit = fits.alone (number_of i.1) place i.1 here t in
        none_some (slot_in slots (number_of e) place) i.0 none (subst (λ (m : ℕ). slot_in slots m place ≡ Some i.0) unit noted));
  }

  -- the item of a unit that stands there
  module _ (s : Slot) (some : slot_in slots (number_of e) place ≡ Some s) where
    abbrev pub item_was : (f : Entry) × In (s, f) (kept.lists place) × (number_of f ≡ number_of e)
    item_was = queue_was.all (number_of e) s some

    abbrev pub parts_were : Parted (s, item_was.0) (kept.lists place)
    parts_were = parted (s, item_was.0) (kept.lists place) item_was.1

    pub stood_before : Stands at0 q0 (parts_were.front ++ (s, item_was.0) ∷ parts_were.back)
    stood_before = subst (λ (l : List Item). Stands at0 q0 l) parts_were.is queue_was.stands

    pub stands_in : IsIn at0 q0 s
    stands_in = record { front = parts_were.front; entry = item_was.0; back = parts_were.back; stands = stood_before }

  module _ (at3 : Slot → Option Node) (q3 : Queue) (news : List PlaceSet) (after : ℕ) (others : StaysApart at0 at3 q0) (order : q3.key_first ≡ q0.key_first) where
    other_lists : (p : ℕ) → p ≢ place → p < length queues → (d : Queue) → Stands at3 (get_or queues p d) (kept.lists p)
    other_lists p d h w = others (kept.lists place) (kept.lists p) (get_or queues p w) queue_was.stands (kept.queues_stand p w h).stands (are_apart (kept.lists place) (kept.lists p) (kept.apart place p fits.queued h (λ g. d (sym g))))

    -- At every other place the entry stays: its item stands in both pools.
    entries_stay : (x : Option Slot) (items : List Item) → Stands at3 q3 items → ((t : Slot) (f : Entry) → In (t, f) (kept.lists place) → number_of f ≢ number_of e → In (t, f) items) →
        (m p : ℕ) → (m ≡ number_of e → p ≡ place → ⊥) → entry_in at3 (slot_in (with_slot slots (number_of e) place x) m p) ≡ entry_in at0 (slot_in slots m p)
    entries_stay x items stood moved m p other = ap (entry_in at3) (read_other slots (number_of e) place m p x fits.inside other) ∙ stays (slot_in slots m p) refl
      where
        stays : (o : Option Slot) → slot_in slots m p ≡ o → entry_in at3 o ≡ entry_in at0 o
        stays None f = refl
        stays (Some t) f =
            let within : p < length queues = slot_queued at0 spare queues slots sets kept m p t f in
            let was = kept.queues_stand p q0 within in
            let i = was.all m t f in
            let before : entry_at at0 t ≡ Some i.0 = member_entry entries at0 (get_or queues p q0) (kept.lists p) was.stands (t, i.0) i.1 in
            elim (cases_eq p place) as (λ _. entry_in at3 (Some t) ≡ entry_in at0 (Some t)) [
              | inl g ↦
                  let among : In (t, i.0) items = moved t i.0 (subst (λ (k : ℕ). In (t, i.0) (kept.lists k)) g i.1) (λ h. other (sym i.2 ∙ h) g) in
                  member_entry entries at3 q3 items stood (t, i.0) among ∙ sym before
              | inr g ↦ member_entry entries at3 (get_or queues p q0) (kept.lists p) (other_lists p g within q0) (t, i.0) i.1 ∙ sym before
            ]

    -- A unit enters.
    module _ (one : (items theirs : List Item) → Stands at0 q0 items → Stands at0 q0 theirs → items ≡ theirs) (places : HavePlaces) (none : slot_in slots (number_of e) place ≡ None) (s : Slot) (placed : (front back : List Item) → IsPlace at0 q0 e front back → Stands at3 q3 (front ++ (s, e) ∷ back)) where
      there : HasPlace at0 q0 e
      there = places at0 q0 e (may_enter none)

      same_list : kept.lists place ≡ there.front ++ there.back
      same_list = one (kept.lists place) (there.front ++ there.back) queue_was.stands there.is_place.stands

      was_in : (i : Item) → In i (there.front ++ there.back) → In i (kept.lists place)
      was_in i g = subst (λ (l : List Item). In i l) (sym same_list) g

      stood : Stands at3 q3 (there.front ++ (s, e) ∷ there.back)
      stood = placed there.front there.back there.is_place

      pub kept_entered : Absent → at0 s ≡ None → after + 1 ≡ spare → IsNoted sets news (number_of e) place true → AreKept at3 after (set queues place q3) (with_slot slots (number_of e) place (Some s)) news
      kept_entered absent free room noted =
          let was = queue_was in
          let n : ℕ = number_of e in
          let front : List Item = there.front in
          let back : List Item = there.back in
          let vac = vacancies_set slots n place (Some s) fits.inside in
          let one_less : weight (slot_in slots n place) ≡ 1 = ap weight none in
          let no_more : weight (Some s) ≡ 0 = refl in
          let less = kept.room in
          kept_with at0 at3 queues slots sets news n place q3 (Some s) (front ++ (s, e) ∷ back) spare after kept fits.inside fits.queued
          (record {
            stands = stood;
            by_priority = order ∙ was.by_priority;
            numbers = λ i g. elim (in_middle i front (s, e) back g) as (λ _. HasNumber i.1) [ inl f ↦ subst (λ (j : Item). HasNumber j.1) (sym f) fits.number | inr f ↦ was.numbers i (was_in i f) ];
            noted = λ i g. elim (in_middle i front (s, e) back g) as (λ _. slot_in (with_slot slots n place (Some s)) (number_of i.1) place ≡ Some i.0) [
              | inl f ↦ subst (λ (j : Item). slot_in (with_slot slots n place (Some s)) (number_of j.1) place ≡ Some j.0) (sym f) (read_same slots n place (Some s) fits.inside)
              | inr f ↦
                  let old = was.noted i (was_in i f) in
                  read_other slots n place (number_of i.1) place (Some s) fits.inside (λ m _. none_some (slot_in slots n place) i.0 none (subst (λ (k : ℕ). slot_in slots k place ≡ Some i.0) m old)) ∙ old
            ];
            all = λ m t g. elim (cases_eq m n) as (λ _. (f : Entry) × In (t, f) (front ++ (s, e) ∷ back) × (number_of f ≡ m)) [
              | inl h ↦
                  let is_s : s ≡ t = same_slot s t (sym (read_same slots n place (Some s) fits.inside) ∙ subst (λ (k : ℕ). slot_in (with_slot slots n place (Some s)) k place ≡ Some t) h g) in
                  (e, subst (λ (r : Slot). In (r, e) (front ++ (s, e) ∷ back)) is_s (in_here front (s, e) back), sym h)
              | inr h ↦
                  let old = was.all m t (sym (read_other slots n place m place (Some s) fits.inside (λ f _. h f)) ∙ g) in
                  (old.0, in_wider (t, old.0) front (s, e) back (subst (λ (l : List Item). In (t, old.0) l) same_list old.1), old.2)
            ];
          })
          other_lists
          (λ o d h t a b g i. elim (in_middle (t, a) front (s, e) back g) as (λ _. ⊥) [
            | inl f ↦
                let is_s : t ≡ s = ap (λ (j : Item). j.0) f in
                not_outside s (kept.lists o) b (absent at0 (get_or queues o q0) (kept.lists o) s (kept.queues_stand o q0 h).stands free) (subst (λ (r : Slot). In (r, b) (kept.lists o)) is_s i)
            | inr f ↦ kept.apart place o fits.queued h (λ r. d (sym r)) t a b (was_in (t, a) f) i
          ])
          (omega (arith, vac, one_less, no_more, less, room))
          noted

      pub turned_entered : Turned at0 slots at3 (with_slot slots (number_of e) place (Some s)) e place true
      turned_entered = record {
        slot = Some s;
        noted = refl;
        marked = refl;
        here = member_entry entries at3 q3 (there.front ++ (s, e) ∷ there.back) stood (s, e) (in_here there.front (s, e) there.back);
        others = entries_stay (Some s) (there.front ++ (s, e) ∷ there.back) stood (λ t f g _. in_wider (t, f) there.front (s, e) there.back (subst (λ (l : List Item). In (t, f) l) same_list g));
      }

    -- A unit leaves.
    module _ (s : Slot) (some : slot_in slots (number_of e) place ≡ Some s) (removed : (front back : List Item) (g : Entry) → Stands at0 q0 (front ++ (s, g) ∷ back) → Stands at3 q3 (front ++ back)) where
      abbrev pub left_item : Entry
      left_item = (item_was s some).0

      abbrev pub parts : Parted (s, left_item) (kept.lists place)
      parts = parts_were s some

      pub kept_left : Distinct → after ≡ spare + 1 → IsNoted sets news (number_of e) place false → AreKept at3 after (set queues place q3) (with_slot slots (number_of e) place None) news
      kept_left distinct room noted =
          let was = queue_was in
          let n : ℕ = number_of e in
          let f : Entry = left_item in
          let front : List Item = parts.front in
          let back : List Item = parts.back in
          let outside = distinct at0 q0 front back s f (stood_before s some) in
          let was_in : (i : Item) → In i (front ++ back) → In i (kept.lists place) = λ i g. subst (λ (l : List Item). In i l) (sym parts.is) (in_wider i front (s, f) back g) in
          let vac = vacancies_set slots n place None fits.inside in
          let none_less : weight (slot_in slots n place) ≡ 0 = ap weight some in
          let one_more : weight None ≡ 1 = refl in
          let less = kept.room in
          kept_with at0 at3 queues slots sets news n place q3 None (front ++ back) spare after kept fits.inside fits.queued
          (record {
            stands = removed front back f (stood_before s some);
            by_priority = order ∙ was.by_priority;
            numbers = λ i g. was.numbers i (was_in i g);
            noted = λ i g.
                let old = was.noted i (was_in i g) in
                read_other slots n place (number_of i.1) place None fits.inside (λ m _.
                let is_s : i.0 ≡ s = same_slot i.0 s (sym (subst (λ (k : ℕ). slot_in slots k place ≡ Some i.0) m old) ∙ some) in
                not_outside s (front ++ back) i.1 outside (subst (λ (r : Slot). In (r, i.1) (front ++ back)) is_s g)) ∙ old;
            all = λ m t g. elim (cases_eq m n) as (λ _. (a : Entry) × In (t, a) (front ++ back) × (number_of a ≡ m)) [
              | inl h ↦ absurd (none_some (slot_in (with_slot slots n place None) n place) t (read_same slots n place None fits.inside) (subst (λ (k : ℕ). slot_in (with_slot slots n place None) k place ≡ Some t) h g))
              | inr h ↦
                  let old = was.all m t (sym (read_other slots n place m place None fits.inside (λ i _. h i)) ∙ g) in
                  elim (in_middle (t, old.0) front (s, f) back (subst (λ (l : List Item). In (t, old.0) l) parts.is old.1)) as (λ _. (a : Entry) × In (t, a) (front ++ back) × (number_of a ≡ m)) [
                    | inl i ↦ absurd (h (sym old.2 ∙ ap (λ (j : Item). number_of j.1) i ∙ (item_was s some).2))
                    | inr i ↦ (old.0, i, old.2)
                  ]
            ];
          })
          other_lists
          (λ o d h t a b g i. kept.apart place o fits.queued h (λ r. d (sym r)) t a b (was_in (t, a) g) i)
          (omega (arith, vac, none_less, one_more, less, room))
          noted

      pub turned_left : Turned at0 slots at3 (with_slot slots (number_of e) place None) e place false
      turned_left = record {
        slot = None;
        noted = refl;
        marked = refl;
        here = refl;
        others = entries_stay None (parts.front ++ parts.back) (removed parts.front parts.back left_item (stood_before s some)) (λ t f g d. elim (in_middle (t, f) parts.front (s, left_item) parts.back (subst (λ (l : List Item). In (t, f) l) parts.is g)) as (λ _. In (t, f) (parts.front ++ parts.back)) [
          | inl i ↦ absurd (d (ap (λ (j : Item). number_of j.1) i ∙ (item_was s some).2))
          | inr i ↦ i
        ]);
      }

-- the sets count at the places of the queues alone
pub kept_marks : (at : Slot → Option Node) (spare : ℕ) (queues : List Queue) (slots : Slots) (sets news : List PlaceSet) → AreKept at spare queues slots sets → ((n place : ℕ) → place < length queues → is_marked news n place ≡ is_marked sets n place) → AreKept at spare queues slots news
kept_marks at spare queues slots sets news kept same = record {
  lists = kept.lists;
  queues_stand = kept.queues_stand;
  apart = kept.apart;
  room = kept.room;
  full = kept.full;
  few = kept.few;
  marked = λ n place h. same n place h ∙ kept.marked n place h;
}

-- a place at which nothing is to change
turned_not : (at : Slot → Option Node) (slots : Slots) (e : Entry) (place : ℕ) (stands : Bool) → is_some (slot_in slots (number_of e) place) ≡ stands → entry_in at (slot_in slots (number_of e) place) ≡ cond stands (Some e) None → Turned at slots at slots e place stands
turned_not at slots e place stands m h = record {
  slot = slot_in slots (number_of e) place;
  noted = sym (ap (set slots (number_of e)) (set-get_or (get_or slots (number_of e) []) place None) ∙ set-get_or slots (number_of e) []);
  marked = m;
  here = h;
  others = λ n k d. refl;
}

-- what stands at a unit's slot is its entry
entry_here : Entries → (at : Slot → Option Node) (spare : ℕ) (queues : List Queue) (slots : Slots) (sets : List PlaceSet) (e : Entry) (place : ℕ) (s : Slot) (kept : AreKept at spare queues slots sets) → EntryFits at (length queues) slots e place → slot_in slots (number_of e) place ≡ Some s → entry_in at (slot_in slots (number_of e) place) ≡ Some e
entry_here law at spare queues slots sets e place s kept fits some =
    let d : Queue = record { key_first = true; first = None; ends = [] } in
    let q = kept.queues_stand place d fits.queued in
    let i = q.all (number_of e) s some in
    let there : entry_in at (slot_in slots (number_of e) place) ≡ Some i.0 = ap (entry_in at) some ∙ member_entry law at (get_or queues place d) (kept.lists place) q.stands (s, i.0) i.1 in
    there ∙ ap Some (fits.same place i.0 there)

-- where a unit stands already, or stands no more, nothing is to change
pub turned_already : Entries → (at : Slot → Option Node) (spare : ℕ) (queues : List Queue) (slots : Slots) (sets : List PlaceSet) (e : Entry) (place : ℕ) (stands : Bool) → AreKept at spare queues slots sets → EntryFits at (length queues) slots e place → is_some (slot_in slots (number_of e) place) ≡ stands → Turned at slots at slots e place stands
turned_already law at spare queues slots sets e place stands kept fits is = by (slot_in slots (number_of e) place) refl
  where
    by : (o : Option Slot) → slot_in slots (number_of e) place ≡ o → Turned at slots at slots e place stands
    by None f = turned_not at slots e place stands is (ap (entry_in at) f ∙ ap (λ b. cond b (Some e) None) (sym (ap is_some f) ∙ is))
    by (Some s) f = turned_not at slots e place stands is (entry_here law at spare queues slots sets e place s kept fits f ∙ ap (λ b. cond b (Some e) None) (sym (ap is_some f) ∙ is))
