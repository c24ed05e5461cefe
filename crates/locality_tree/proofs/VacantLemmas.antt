-- Units that get places without a slot, and a layout without a unit.
use Rattle.std.proofs.Common.{◌≡◌, ◌⊎◌, ℕ, ◌+◌, ◌*◌, ◌<◌, ◌≤◌, zero, suc, false, List, [], ◌∷◌, ◌++◌, Option, None, is_some, length, get_or, replicate, count_by, refl, sym, ap, ◌∙◌, inl, inr, arith}
use Rattle.std.proofs.lemmas.Bool.{cases_eq}
use Rattle.std.specs.List.{AllByRecursion}
use Rattle.std.specs.Option.{is_none}
use Rattle.std.specs.Global.{Vec}
use Rattle.std.proofs.lemmas.List.{get_or-set_same, get_or-set_other, get_or_past, length-set, length-replicate, length_push, map_push, same_from_push, replicate_more}
use Rattle.std.proofs.lemmas.List.Sums.{sum_by-cons, count_by-le-length}
use Rattle.fuxi_terms.proofs.IndexedLists.{repeated_at}
use Rattle.slot_pool.specs.declared.pool.Slot.{Slot}
use Rattle.wait_queue.specs.declared.node.Node.{Node}
use Rattle.wait_queue.specs.declared.queue.Queue.{Queue}
use Rattle.locality_tree.specs.declared.place_set.PlaceSet.{PlaceSet}
use Rattle.locality_tree.specs.Trees.{all_units}
use Rattle.locality_tree.specs.PlaceSets.{is_marked}
use Rattle.locality_tree.specs.Layouts.{Slots, rows_of, slot_in, with_vacant, vacancies, IsEmptyQueue, AreKept}
use Rattle.locality_tree.proofs.MembersLemmas.{all_get}
use Rattle.locality_tree.proofs.QueueLaws.{Stays, none_some}

pub vacant_count : (slots : Slots) (first places n : ℕ) → length (with_vacant slots first places n) ≡ length slots
vacant_count slots first places zero = refl
vacant_count slots first places (suc n) = length-set (with_vacant slots first places n) (first + n) (replicate places None) ∙ vacant_count slots first places n

-- a unit further on is as it was
vacant_later : (slots : Slots) (first places n m : ℕ) → first + n ≤ m → get_or (with_vacant slots first places n) m [] ≡ get_or slots m []
vacant_later slots first places zero m h = refl
vacant_later slots first places (suc n) m h = get_or-set_other (with_vacant slots first places n) (first + n) m (replicate places None) [] (λ e. omega arith) ∙ vacant_later slots first places n m (omega arith)

module _ (slots : Slots) (first places : ℕ) where
  -- where the units had no places, none has a slot now
  pub vacant_reads : (n : ℕ) → first + n ≤ length slots → ((k : ℕ) → k < n → length (get_or slots (first + k) []) ≡ 0) → (m k : ℕ) → slot_in (with_vacant slots first places n) m k ≡ slot_in slots m k
  vacant_reads zero long new m k = refl
  vacant_reads (suc n) long new m k = elim (cases_eq m (first + n)) as (λ _. slot_in (with_vacant slots first places (suc n)) m k ≡ slot_in slots m k) [
    | inl e ↦
        let within : first + n < length (with_vacant slots first places n) = let c = vacant_count slots first places n in omega (arith, c) in
        let none : slot_in slots (first + n) k ≡ None = get_or_past (get_or slots (first + n) []) k None (let z = new n (omega arith) in omega (arith, z)) in
        ap (λ (i : ℕ). slot_in (with_vacant slots first places (suc n)) i k) e
        ∙ ap (λ (r : List (Option Slot)). get_or r k None) (get_or-set_same (with_vacant slots first places n) (first + n) (replicate places None) [] within)
        ∙ repeated_at {A = Option Slot} None places k ∙ sym none ∙ ap (λ (i : ℕ). slot_in slots i k) (sym e)
    | inr d ↦
        ap (λ (r : List (Option Slot)). get_or r k None) (get_or-set_other (with_vacant slots first places n) (first + n) m (replicate places None) [] d)
        ∙ vacant_reads n (omega arith) (λ j h. new j (omega arith)) m k
  ]

  vacant_widths : (n : ℕ) → first + n ≤ length slots → (m : ℕ) → (length (get_or (with_vacant slots first places n) m []) ≡ length (get_or slots m [])) ⊎ (length (get_or (with_vacant slots first places n) m []) ≡ places)
  vacant_widths zero long m = inl refl
  vacant_widths (suc n) long m = elim (cases_eq m (first + n)) as (λ _. (length (get_or (with_vacant slots first places (suc n)) m []) ≡ length (get_or slots m [])) ⊎ (length (get_or (with_vacant slots first places (suc n)) m []) ≡ places)) [
    | inl e ↦
        let within : first + n < length (with_vacant slots first places n) = let c = vacant_count slots first places n in omega (arith, c) in
        inr (ap (λ (i : ℕ). length (get_or (with_vacant slots first places (suc n)) i [])) e ∙ ap length (get_or-set_same (with_vacant slots first places n) (first + n) (replicate places None) [] within) ∙ length-replicate places None)
    | inr d ↦
        let other = ap length (get_or-set_other (with_vacant slots first places n) (first + n) m (replicate places None) [] d) in
        elim (vacant_widths n (omega arith) m) as (λ _. (length (get_or (with_vacant slots first places (suc n)) m []) ≡ length (get_or slots m [])) ⊎ (length (get_or (with_vacant slots first places (suc n)) m []) ≡ places)) [ inl h ↦ inl (other ∙ h) | inr h ↦ inr (other ∙ h) ]
  ]

-- where so many units at most have places, no more than theirs are vacant
pub vacant_most : (slots : Slots) (count places : ℕ) → ((n : ℕ) → length (get_or slots n []) ≤ places) → ((n : ℕ) → count ≤ n → length (get_or slots n []) ≡ 0) → vacancies slots ≤ count * places
vacant_most [] count places few none = omega arith
vacant_most (r ∷ rs) zero places few none =
    let rest = vacant_most rs zero places (λ n. few (suc n)) (λ n _. none (suc n) (omega arith)) in
    let s = sum_by-cons (λ (u : List (Option Slot)). count_by is_none u) r rs in
    let own = count_by-le-length is_none r in
    let z = none zero (omega arith) in
    omega (arith, rest, s, own, z)
vacant_most (r ∷ rs) (suc count) places few none =
    let rest = vacant_most rs count places (λ n. few (suc n)) (λ n h. none (suc n) (omega (arith, h))) in
    let s = sum_by-cons (λ (u : List (Option Slot)). count_by is_none u) r rs in
    let own = count_by-le-length is_none r in
    let w = few zero in
    let more : suc count * places ≡ count * places + places = omega arith in
    omega (arith, rest, s, own, w, more)

-- as many as are listed, where the units that get places are
pub vacant_listed : (slots : Slots) (first places units count : ℕ) → ((n : ℕ) → (length (get_or slots n []) ≡ 0) ⊎ (length (get_or slots n []) ≡ places)) → ((n : ℕ) → count ≤ n → length (get_or slots n []) ≡ 0) → first + units ≤ length slots → first + units ≤ count → vacancies (with_vacant slots first places units) ≤ count * places
vacant_listed slots first places units count full none long listed =
    vacant_most (with_vacant slots first places units) count places
    (λ n. elim (vacant_widths slots first places units long n) as (λ _. length (get_or (with_vacant slots first places units) n []) ≤ places) [
      | inl h ↦ elim (full n) as (λ _. length (get_or (with_vacant slots first places units) n []) ≤ places) [ inl g ↦ omega (arith, h, g) | inr g ↦ omega (arith, h, g) ]
      | inr h ↦ omega (arith, h)
    ])
    (λ n h. ap length (vacant_later slots first places units n (omega (arith, h, listed))) ∙ none n h)

-- the layout of an admitted job
pub kept_admitted : Stays → (at after : Slot → Option Node) (spare room : ℕ) (queues : List Queue) (slots : Slots) (sets news : List PlaceSet) (first units : ℕ) → AreKept at spare queues slots sets → ((n k : ℕ) → is_marked news n k ≡ is_marked sets n k) → ((s : Slot) → after s ≡ at s) → first + units ≤ length slots →
    ((k : ℕ) → k < units → length (get_or slots (first + k) []) ≡ 0) → vacancies (with_vacant slots first (length queues) units) ≤ room → AreKept after room queues (with_vacant slots first (length queues) units) news
kept_admitted stays at after spare room queues slots sets news first units kept marks same long new more =
    let reads = vacant_reads slots first (length queues) units long new in
    record {
      lists = kept.lists;
      queues_stand = λ p d h.
          let q = kept.queues_stand p d h in
          record {
            stands = stays at after (get_or queues p d) (kept.lists p) q.stands same;
            by_priority = q.by_priority;
            numbers = q.numbers;
            noted = λ i g. reads _ p ∙ q.noted i g;
            all = λ n s g. q.all n s (sym (reads n p) ∙ g);
          };
      apart = kept.apart;
      room = more;
      full = λ n. elim (vacant_widths slots first (length queues) units long n) as (λ _. (length (get_or (with_vacant slots first (length queues) units) n []) ≡ 0) ⊎ (length (get_or (with_vacant slots first (length queues) units) n []) ≡ length queues)) [
        | inl h ↦ elim (kept.full n) as (λ _. (length (get_or (with_vacant slots first (length queues) units) n []) ≡ 0) ⊎ (length (get_or (with_vacant slots first (length queues) units) n []) ≡ length queues)) [ inl g ↦ inl (h ∙ g) | inr g ↦ inr (h ∙ g) ]
        | inr h ↦ inr h
      ];
      few = kept.few;
      marked = λ n p h. marks n p ∙ kept.marked n p h ∙ sym (ap is_some (reads n p));
    }

-- no unit has a place
none_vacant : (count : ℕ) → vacancies (replicate count []) ≡ 0
none_vacant zero = refl
none_vacant (suc count) = none_vacant count

pub kept_empty : (at : Slot → Option Node) (spare : ℕ) (queues : List Queue) (slots : Slots) (sets : List PlaceSet) (count : ℕ) → slots ≡ replicate count [] → AllByRecursion IsEmptyQueue queues → length queues ≤ 384 → ((n place : ℕ) → is_marked sets n place ≡ false) → AreKept at spare queues slots sets
kept_empty at spare queues slots sets count is empty few none =
    let unit : (n : ℕ) → get_or slots n [] ≡ [] = λ n. ap (λ (s : Slots). get_or s n []) is ∙ repeated_at [] count n in
    let read : (n k : ℕ) → slot_in slots n k ≡ None = λ n k. ap (λ (r : List (Option Slot)). get_or r k None) (unit n) in
    record {
      lists = λ _. [];
      queues_stand = λ p d h.
          let q = all_get IsEmptyQueue queues p d empty h in
          record { stands = q.0 at; by_priority = q.1; numbers = λ i g. absurd g; noted = λ i g. absurd g; all = λ n s g. absurd (none_some (slot_in slots n p) s (read n p) g) };
      apart = λ p o h g d s e f i j. absurd i;
      room = let z : vacancies slots ≡ 0 = ap vacancies is ∙ none_vacant count in omega (arith, z);
      full = λ n. inl (ap length (unit n));
      few = few;
      marked = λ n p h. none n p ∙ sym (ap is_some (read n p));
    }

-- what is left of alike rows when the last is taken
pub last_row : (left rest : List (Vec ℕ)) (v : Vec ℕ) (y : List ℕ) → left ≡ rest ++ v ∷ [] → rows_of left ≡ replicate (length left) y → (rows_of rest ≡ replicate (length rest) y) × (v.items ≡ y)
last_row left rest v y e h = same_from_push (rows_of rest) (replicate (length rest) y) v.items y (sym (map_push (λ (u : Vec ℕ). u.items) rest v) ∙ sym (ap rows_of e) ∙ h ∙ ap (λ (n : ℕ). replicate n y) (ap length e ∙ length_push rest v) ∙ sym (replicate_more (length rest) y))

pub units_are : all_units ≡ 2048
unfolding all_units
units_are = refl
