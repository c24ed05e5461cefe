-- A unit that leaves one place after another.
use Rattle.std.proofs.Common.{◌≡◌, ◌≢◌, ℕ, ◌+◌, ◌/◌, ◌%◌, ◌<◌, ◌≤◌, true, false, not, nat_eq, List, [], ◌∷◌, ◌++◌, Option, Some, None, is_some, length, get_or, set, refl, sym, ap, subst, ◌∙◌, inl, inr, arith}
use Rattle.std.proofs.lemmas.Bool.{cases_eq, cases_lt}
use Rattle.std.proofs.lemmas.List.{get_or-set_same, get_or-set_other, get_or_past, set-get_or, length-set}
use Rattle.std.proofs.lemmas.Nat.Bits.{bit_at-zero}
use Rattle.std.specs.Int.{bit_at}
use Rattle.fuxi_terms.proofs.Booleans.{not_both}
use Rattle.slot_pool.specs.Pools.{PoolRecord, value_at, slot_at}
use Rattle.slot_pool.specs.declared.pool.Slot.{Slot}
use Rattle.wait_queue.specs.declared.node.Entry.{Entry}
use Rattle.wait_queue.specs.declared.node.Node.{Node}
use Rattle.wait_queue.specs.declared.queue.Queue.{Queue}
use Rattle.wait_queue.specs.Queues.{Item, Stands, IsIn}
use Rattle.locality_tree.specs.declared.layout.UnitSlots.{UnitSlots}
use Rattle.locality_tree.specs.declared.place_set.PlaceSet.{PlaceSet}
use Rattle.locality_tree.specs.PlaceSets.{in_set, no_set, is_marked}
use Rattle.locality_tree.specs.Layouts.{Places, Slots, slot_in, number_in, with_slot, slot_under, slots_seen, number_of, entry_in, AreKept, EntryFits, Turned, Left, IsNoted, MayLeave, AreWithout, HasLeft}
use Rattle.locality_tree.proofs.LayoutsLemmas.{read_same, read_other, unit_lengths, entry_queued, StaysApart, stands_in, kept_left, turned_left, kept_marks}
use Rattle.locality_tree.proofs.NumbersLemmas.{seen_width, seen_slot, seen_none, seen_marks, noted_again}
use Rattle.locality_tree.proofs.PlaceSetsLemmas.{none_set, flipped, flipped_here, flipped_other}
use Rattle.locality_tree.proofs.QueueLaws.{Entries, Distinct, none_some}

pub left_start : (at : Slot → Option Node) (slots : Slots) (e : Entry) → ((k : ℕ) (f : Entry) → entry_in at (slot_in slots (number_of e) k) ≡ Some f → f ≡ e) → Left at slots at slots e 0
left_start at slots e own = record { count = refl; width = refl; gone = λ k h. absurd (omega arith); own = own; others = λ n d. refl; entries = λ n k d. refl }

is_none : (o : Option Slot) → is_some o ≡ false → o ≡ None
is_none None h = refl
is_none (Some s) h = absurd (cc)

pub left_more : (at0 at1 at2 : Slot → Option Node) (olds slots news : Slots) (e : Entry) (k : ℕ) → k < length (get_or slots (number_of e) []) → Left at0 olds at1 slots e k → Turned at1 slots at2 news e k false → Left at0 olds at2 news e (k + 1)
left_more at0 at1 at2 olds slots news e k inside l t =
    let n : ℕ = number_of e in
    record {
      count = ap length t.noted ∙ length-set slots n (set (get_or slots n []) k t.slot) ∙ l.count;
      width = ap (λ (s : Slots). length (get_or s n [])) t.noted ∙ unit_lengths slots n k n t.slot inside ∙ l.width;
      gone = λ j h. ap (λ (s : Slots). slot_in s n j) t.noted ∙ (elim (cases_eq j k) as (λ _. slot_in (with_slot slots n k t.slot) n j ≡ None) [
        | inl f ↦ ap (λ (i : ℕ). slot_in (with_slot slots n k t.slot) n i) f ∙ read_same slots n k t.slot inside ∙ is_none t.slot t.marked
        | inr f ↦ read_other slots n k n j t.slot inside (λ _ g. f g) ∙ l.gone j (omega arith)
      ]);
      own = λ j f h. elim (cases_eq j k) as (λ _. f ≡ e) [
        | inl g ↦
            let none : entry_in at2 (slot_in news n j) ≡ None = ap (λ (i : ℕ). entry_in at2 (slot_in news n i)) g ∙ ap (λ (s : Slots). entry_in at2 (slot_in s n k)) t.noted ∙ ap (entry_in at2) (read_same slots n k t.slot inside) ∙ t.here in
            absurd (none_some (entry_in at2 (slot_in news n j)) f none h)
        | inr g ↦ l.own j f (sym (t.others n j (λ _ i. g i)) ∙ h)
      ];
      others = λ m d. ap (λ (s : Slots). get_or s m []) t.noted ∙ get_or-set_other slots n m (set (get_or slots n []) k t.slot) [] d ∙ l.others m d;
      entries = λ m j d. t.others m j (λ g _. d g) ∙ l.entries m j d;
    }

-- places are passed at which it has no slot
pub left_passed : (at0 at1 : Slot → Option Node) (olds slots : Slots) (e : Entry) (k m : ℕ) → ((j : ℕ) → k ≤ j → j < m → slot_in slots (number_of e) j ≡ None) → Left at0 olds at1 slots e k → Left at0 olds at1 slots e m
left_passed at0 at1 olds slots e k m none l = record {
  count = l.count;
  width = l.width;
  gone = λ j h. elim (cases_lt j k) as (λ _. slot_in slots (number_of e) j ≡ None) [
    | inl lt ↦ l.gone j lt
    | inr ge ↦ none j ge h
  ];
  own = l.own;
  others = l.others;
  entries = l.entries;
}

pub fits_on : (at0 at1 : Slot → Option Node) (olds slots : Slots) (e : Entry) (k count now place : ℕ) → now ≡ count → EntryFits at0 count olds e place → Left at0 olds at1 slots e k → EntryFits at1 now slots e place
fits_on at0 at1 olds slots e k count now place same_count f l = record {
  number = f.number;
  inside = subst (λ (w : ℕ). place < w) (sym l.width) f.inside;
  queued = subst (λ (w : ℕ). place < w) (sym same_count) f.queued;
  same = l.own;
  alone = λ m j g h t. elim (cases_eq m (number_of e)) as (λ _. m ≡ number_of e) [ inl a ↦ a | inr a ↦ f.alone m j g (sym (l.entries m j a) ∙ h) t ];
}

-- A unit leaves one place: what is kept then, and seen, whatever the list of the sets is.
module _ (entries : Entries) (distinct : Distinct) (pool after : PoolRecord Node) (queues : List Queue) (rows : Places ℕ) (sets news : List PlaceSet) (e : Entry) (place : ℕ) (q0 q3 : Queue) (s : Slot) (kept : AreKept (value_at pool) pool.spare queues (slots_seen pool sets rows) sets)
    (fits : EntryFits (value_at pool) (length queues) (slots_seen pool sets rows) e place) (is_q : q0 ≡ get_or queues place q0) (some : slot_in (slots_seen pool sets rows) (number_of e) place ≡ Some s) (others : StaysApart (value_at pool) (value_at after) q0) (order : q3.key_first ≡ q0.key_first)
    (removed : (front back : List Item) (g : Entry) → Stands (value_at pool) q0 (front ++ (s, g) ∷ back) → Stands (value_at after) q3 (front ++ back)) (room : after.spare ≡ pool.spare + 1) (noted : IsNoted sets news (number_of e) place false) where
  without : AreKept (value_at after) after.spare (set queues place q3) (with_slot (slots_seen pool sets rows) (number_of e) place None) news
  without = kept_left entries (value_at pool) queues (slots_seen pool sets rows) sets place q0 e pool.spare kept fits is_q (value_at after) q3 news after.spare others order s some removed distinct room noted

  seen : slots_seen after news rows ≡ with_slot (slots_seen pool sets rows) (number_of e) place None
  seen =
      let n : ℕ = number_of e in
      let number : ℕ = number_in rows n place in
      let same : rows ≡ with_slot rows n place number = sym (ap (set rows n) (set-get_or (get_or rows n []) place 0) ∙ set-get_or rows n []) in
      let inside : place < length (get_or rows n []) = subst (λ (w : ℕ). place < w) (seen_width pool sets rows n) fits.inside in
      ap (slots_seen after news) same ∙ noted_again pool after sets news rows n place number None inside noted (λ t f. absurd (none_some None t refl f)) entries after.spare (set queues place q3) without

  pub kept_after : AreKept (value_at after) after.spare (set queues place q3) (slots_seen after news rows) news
  kept_after = subst (λ (slots : Slots). AreKept (value_at after) after.spare (set queues place q3) slots news) (sym seen) without

  pub turned_after : Turned (value_at pool) (slots_seen pool sets rows) (value_at after) (slots_seen after news rows) e place false
  turned_after = subst (λ (slots : Slots). Turned (value_at pool) (slots_seen pool sets rows) (value_at after) slots e place false) (sym seen)
      (turned_left entries (value_at pool) queues (slots_seen pool sets rows) sets place q0 e pool.spare kept fits is_q (value_at after) q3 news after.spare others order s some removed)

-- What is so of a unit that leaves its places one after another, when it has left all below this one.
pub record IsLeaving (old new : PoolRecord Node) (olds news : List Queue) (unit : UnitSlots) (m : MayLeave old olds unit) (place : ℕ) : Type 0 where
  pub sets : List PlaceSet
  pub so_far : HasLeft old new olds news unit m sets place
  pub ahead : (k : ℕ) → place ≤ k → is_marked sets (number_of m.entry) k ≡ is_marked m.sets (number_of m.entry) k
  pub others : (j k : ℕ) → j ≢ number_of m.entry → is_marked sets j k ≡ is_marked m.sets j k

-- the sets where one place is in a unit's no more
without_place : List PlaceSet → ℕ → ℕ → List PlaceSet
without_place sets n place = set sets n (record { words = flipped (get_or sets n no_set).words place })

without_noted : (sets : List PlaceSet) (n place : ℕ) → is_marked sets n place ≡ true → IsNoted sets (without_place sets n place) n place false
unfolding without_place
without_noted sets n place there =
    let s : PlaceSet = get_or sets n no_set in
    let t : PlaceSet = record { words = flipped s.words place } in
    let listed : n < length sets = elim (cases_lt n (length sets)) as (λ _. n < length sets) [
      | inl h ↦ h
      | inr h ↦ absurd (not_both (is_marked sets n place) there (ap (λ (p : PlaceSet). in_set p place) (get_or_past sets n no_set h) ∙ none_set [] 0 place refl))
    ] in
    let long : place / 64 < length s.words = elim (cases_lt (place / 64) (length s.words)) as (λ _. place / 64 < length s.words) [
      | inl h ↦ h
      | inr h ↦ absurd (not_both (in_set s place) there (ap (λ (w : ℕ). nat_eq (bit_at w (place % 64)) 1) (get_or_past s.words (place / 64) 0 h) ∙ ap (λ (b : ℕ). nat_eq b 1) (bit_at-zero (place % 64))))
    ] in
    record {
      here = ap (λ (p : PlaceSet). in_set p place) (get_or-set_same sets n t no_set listed) ∙ flipped_here s.words place long ∙ ap not there;
      others = λ j k d. elim (cases_eq j n) as (λ _. is_marked (set sets n t) j k ≡ is_marked sets j k) [
        | inl e ↦ ap (λ (i : ℕ). is_marked (set sets n t) i k) e ∙ ap (λ (p : PlaceSet). in_set p k) (get_or-set_same sets n t no_set listed) ∙ flipped_other s.words place k (λ f. d e f) ∙ ap (λ (i : ℕ). is_marked sets i k) (sym e)
        | inr f ↦ ap (λ (p : PlaceSet). in_set p k) (get_or-set_other sets n j t no_set f)
      ];
    }

module _ (entries : Entries) (old : PoolRecord Node) (olds : List Queue) (unit : UnitSlots) (m : MayLeave old olds unit) where
  abbrev pub unit_of : ℕ
  unit_of = number_of m.entry

  marks_unit : (k : ℕ) → is_marked m.sets unit_of k ≡ in_set unit.places k
  marks_unit k = ap (λ (s : PlaceSet). in_set s k) m.places

  pub wide : (k : ℕ) → k < length olds → k < length unit.numbers.items
  wide k h =
      let inside = (m.fits k h).inside in
      let seen = seen_width old m.sets m.rows unit_of in
      let same = ap length m.numbers in
      omega (arith, inside, seen, same)

  pub leaving_start : (place : ℕ) → ((k : ℕ) → k < place → in_set unit.places k ≡ false) → IsLeaving old old olds olds unit m place
  leaving_start place none =
      let slots : Slots = slots_seen old m.sets m.rows in
      record {
        sets = m.sets;
        so_far = record {
          kept = m.kept;
          count = refl;
          left = left_passed (value_at old) (value_at old) slots slots m.entry 0 place (λ k _ h. seen_none old m.sets m.rows unit_of k (marks_unit k ∙ none k h))
              (left_start (value_at old) slots m.entry (λ k f h. (m.fits k (entry_queued (value_at old) old.spare olds slots m.sets m.kept unit_of k f h)).same k f h));
        };
        ahead = λ k _. refl;
        others = λ j k _. refl;
      }

  -- at a place of its set it has the slot of the number there
  module _ (now : PoolRecord Node) (queues : List Queue) (place : ℕ) (l : IsLeaving old now olds queues unit m place) (queued : place < length olds) (there : in_set unit.places place ≡ true) where
    abbrev slots_now : Slots
    slots_now = slots_seen now l.sets m.rows

    still : is_marked l.sets unit_of place ≡ true
    still = l.ahead place (omega arith) ∙ marks_unit place ∙ there

    pub fits_now : EntryFits (value_at now) (length queues) slots_now m.entry place
    fits_now = fits_on (value_at old) (value_at now) (slots_seen old m.sets m.rows) slots_now m.entry place (length olds) (length queues) place l.so_far.count (m.fits place queued) l.so_far.left

    pub slot_now : (s : Slot) → s ≡ slot_at now (get_or unit.numbers.items place 0) → slot_in slots_now unit_of place ≡ Some s
    slot_now s is =
        let inside : place < length (get_or m.rows unit_of []) = let w = wide place queued in let same = ap length m.numbers in omega (arith, w, same) in
        seen_slot now l.sets m.rows unit_of place inside ∙ ap (λ b. slot_under now b (number_in m.rows unit_of place)) still
        ∙ ap (λ (row : List ℕ). let t : Option Slot = Some (slot_at now (get_or row place 0)) in t) m.numbers ∙ ap Some (sym is)

    pub in_queue : (q : Queue) (s : Slot) → q ≡ get_or queues place q → s ≡ slot_at now (get_or unit.numbers.items place 0) → IsIn (value_at now) q s
    in_queue q s is_q is = stands_in entries (value_at now) queues slots_now l.sets place q m.entry now.spare l.so_far.kept fits_now is_q s (slot_now s is)

    pub leaving_on : Distinct → (after : PoolRecord Node) (q0 q3 : Queue) (s : Slot) → q0 ≡ get_or queues place q0 → s ≡ slot_at now (get_or unit.numbers.items place 0) → StaysApart (value_at now) (value_at after) q0 → q3.key_first ≡ q0.key_first →
        ((front back : List Item) (g : Entry) → Stands (value_at now) q0 (front ++ (s, g) ∷ back) → Stands (value_at after) q3 (front ++ back)) → after.spare ≡ now.spare + 1 → (next : ℕ) → place < next → ((k : ℕ) → place < k → k < next → in_set unit.places k ≡ false) → IsLeaving old after olds (set queues place q3) unit m next
    leaving_on distinct after q0 q3 s is_q is others order removed room next further none =
        let news : List PlaceSet = without_place l.sets unit_of place in
        let noted = without_noted l.sets unit_of place still in
        let slots2 : Slots = slots_seen after news m.rows in
        let marks : (k : ℕ) → place < k → is_marked news unit_of k ≡ is_marked m.sets unit_of k = λ k h. noted.others unit_of k (λ _ f. omega (arith, f, h)) ∙ l.ahead k (omega (arith, h)) in
        record {
          sets = news;
          so_far = record {
            kept = kept_after entries distinct now after queues m.rows l.sets news m.entry place q0 q3 s l.so_far.kept fits_now is_q (slot_now s is) others order removed room noted;
            count = length-set queues place q3 ∙ l.so_far.count;
            left = left_passed (value_at old) (value_at after) (slots_seen old m.sets m.rows) slots2 m.entry (place + 1) next
                (λ k h g. seen_none after news m.rows unit_of k (marks k (omega (arith, h)) ∙ marks_unit k ∙ none k (omega (arith, h)) g))
                (left_more (value_at old) (value_at now) (value_at after) (slots_seen old m.sets m.rows) slots_now slots2 m.entry place fits_now.inside l.so_far.left
                (turned_after entries distinct now after queues m.rows l.sets news m.entry place q0 q3 s l.so_far.kept fits_now is_q (slot_now s is) others order removed room noted));
          };
          ahead = λ k h. marks k (omega (arith, h, further));
          others = λ j k d. noted.others j k (λ f _. d f) ∙ l.others j k d;
        }

  -- Behind the last place the unit stands at none, so its set may be empty.
  pub leaving_ends : (now : PoolRecord Node) (queues : List Queue) (place : ℕ) → IsLeaving old now olds queues unit m place → length olds ≤ place → (sets : List PlaceSet) → AreWithout m.sets sets unit_of → HasLeft old now olds queues unit m sets (length olds)
  leaving_ends now queues place l past sets w =
      let kept = l.so_far.kept in
      let left = l.so_far.left in
      let count = l.so_far.count in
      let gone : (k : ℕ) → k < length queues → is_marked l.sets unit_of k ≡ false = λ k h. kept.marked unit_of k h ∙ ap is_some (left.gone k (omega (arith, h, count, past))) in
      let marks : (n k : ℕ) → k < length queues → is_marked sets n k ≡ is_marked l.sets n k = λ n k h. elim (cases_eq n unit_of) as (λ _. is_marked sets n k ≡ is_marked l.sets n k) [
        | inl e ↦ ap (λ (i : ℕ). is_marked sets i k) e ∙ w.none k ∙ sym (gone k h) ∙ ap (λ (i : ℕ). is_marked l.sets i k) (sym e)
        | inr d ↦ w.others n k d ∙ sym (l.others n k d)
      ] in
      let same : slots_seen now sets m.rows ≡ slots_seen now l.sets m.rows = seen_marks now l.sets sets m.rows (λ n k h. marks n k (let width = seen_width now l.sets m.rows n in elim (kept.full n) as (λ _. k < length queues) [ inl z ↦ absurd (omega (arith, h, width, z)) | inr z ↦ omega (arith, h, width, z) ])) in
      record {
        kept = subst (λ (slots : Slots). AreKept (value_at now) now.spare queues slots sets) (sym same) (kept_marks (value_at now) now.spare queues (slots_seen now l.sets m.rows) l.sets sets kept marks);
        count = count;
        left = subst (λ (slots : Slots). Left (value_at old) (slots_seen old m.sets m.rows) (value_at now) slots m.entry (length olds)) (sym same)
            (record { count = left.count; width = left.width; gone = λ k h. left.gone k (omega (arith, h, past)); own = left.own; others = left.others; entries = left.entries });
      }
