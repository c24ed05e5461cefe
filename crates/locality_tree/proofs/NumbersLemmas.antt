-- The slots of units, and the numbers and sets that a layout notes of them.
use Rattle.std.proofs.Common.{◌≡◌, ℕ, ◌+◌, ◌<◌, ◌≤◌, zero, suc, Bool, true, false, List, [], ◌∷◌, Option, Some, None, is_some, IsSome, length, get_or, set, replicate, cond, refl, sym, ap, subst, ◌∙◌, inl, inr, arith}
use Rattle.std.proofs.lemmas.Bool.{cases_eq, cases_lt}
use Rattle.std.proofs.lemmas.Bool.Decides.{eqb_tells}
use Rattle.std.proofs.lemmas.List.{length-set, get_or_past, ext_get_or}
use Rattle.slot_pool.specs.declared.pool.Slot.{Slot}
use Rattle.slot_pool.specs.Pools.{PoolRecord, value_at, generation_at, slot_at}
use Rattle.wait_queue.specs.declared.node.Entry.{Entry}
use Rattle.wait_queue.specs.declared.node.Node.{Node}
use Rattle.wait_queue.specs.declared.queue.Queue.{Queue}
use Rattle.locality_tree.specs.declared.layout.Layout.{Layout}
use Rattle.locality_tree.specs.declared.place_set.PlaceSet.{PlaceSet}
use Rattle.locality_tree.specs.PlaceSets.{is_marked}
use Rattle.locality_tree.specs.Layouts.{Places, Slots, slot_in, number_in, with_slot, with_places, with_vacant, numbers_of, slot_under, by_place, slots_seen, sets_of, number_of, AreKept, EntryFitsIn, IsNoted}
use Rattle.locality_tree.proofs.LayoutsLemmas.{slot_queued, place_same, place_other, read_same, read_other, unit_lengths}
use Rattle.locality_tree.proofs.QueueLaws.{Entries, member_entry, live}

-- what is seen of each of a list
module _ {A B : Type 0} (see : ℕ → A → B) where
  pub length_by : (k : ℕ) (xs : List A) → length (by_place see k xs) ≡ length xs
  length_by k [] = refl
  length_by k (x ∷ xs) = let r = length_by (suc k) xs in omega (arith, r)

  pub read_by : (k : ℕ) (xs : List A) (i at : ℕ) (d : B) (e : A) → k + i ≡ at → i < length xs → get_or (by_place see k xs) i d ≡ see at (get_or xs i e)
  read_by k [] i at d e q h = absurd (omega (arith, h))
  read_by k (x ∷ xs) zero at d e q h = ap (λ (m : ℕ). see m x) (omega (arith, q))
  read_by k (x ∷ xs) (suc i) at d e q h = read_by (suc k) xs i at d e (omega (arith, q)) (omega (arith, h))

  pub set_by : (k : ℕ) (xs : List A) (i at : ℕ) (x : A) → k + i ≡ at → by_place see k (set xs i x) ≡ set (by_place see k xs) i (see at x)
  set_by k [] i at x q = refl
  set_by k (y ∷ ys) zero at x q = ap (λ (m : ℕ). see m x ∷ by_place see (suc k) ys) (omega (arith, q))
  set_by k (y ∷ ys) (suc i) at x q = ap (λ (zs : List B). see k y ∷ zs) (set_by (suc k) ys i at x (omega (arith, q)))

  pub same_by : (other : ℕ → A → B) → ((k : ℕ) (x : A) → see k x ≡ other k x) → (k : ℕ) (xs : List A) → by_place see k xs ≡ by_place other k xs
  same_by other same k [] = refl
  same_by other same k (x ∷ xs) = ap (λ (y : B). y ∷ by_place see (suc k) xs) (same k x) ∙ ap (λ (ys : List B). other k x ∷ ys) (same_by other same (suc k) xs)

  pub alike_by : (x : A) (y : B) (k n : ℕ) → ((i : ℕ) → k ≤ i → i < k + n → see i x ≡ y) → by_place see k (replicate n x) ≡ replicate n y
  alike_by x y k zero h = refl
  alike_by x y k (suc n) h =
      ap (λ (z : B). z ∷ by_place see (suc k) (replicate n x)) (h k (omega arith) (omega arith))
      ∙ ap (λ (zs : List B). y ∷ zs) (alike_by x y (suc k) n (λ i l g. h i (omega (arith, l)) (omega (arith, g))))

-- what a pool and sets make of the numbers
module _ (pool : PoolRecord Node) (sets : List PlaceSet) where
  abbrev pub seen_at : ℕ → ℕ → ℕ → Option Slot
  seen_at n k x = slot_under pool (is_marked sets n k) x

  abbrev pub unit_seen : ℕ → List ℕ → List (Option Slot)
  unit_seen n row = by_place (seen_at n) 0 row

  pub seen_count : (rows : Places ℕ) → length (slots_seen pool sets rows) ≡ length rows
  seen_count rows = length_by unit_seen 0 rows

  seen_unit : (rows : Places ℕ) (n : ℕ) → get_or (slots_seen pool sets rows) n [] ≡ unit_seen n (get_or rows n [])
  seen_unit rows n = elim (cases_lt n (length rows)) as (λ _. get_or (slots_seen pool sets rows) n [] ≡ unit_seen n (get_or rows n [])) [
    | inl h ↦ read_by unit_seen 0 rows n n [] [] (omega arith) h
    | inr h ↦ get_or_past (slots_seen pool sets rows) n [] (let c = seen_count rows in omega (arith, h, c)) ∙ sym (ap (unit_seen n) (get_or_past rows n [] h))
  ]

  pub seen_width : (rows : Places ℕ) (n : ℕ) → length (get_or (slots_seen pool sets rows) n []) ≡ length (get_or rows n [])
  seen_width rows n = ap length (seen_unit rows n) ∙ length_by (seen_at n) 0 (get_or rows n [])

  pub seen_slot : (rows : Places ℕ) (n k : ℕ) → k < length (get_or rows n []) → slot_in (slots_seen pool sets rows) n k ≡ slot_under pool (is_marked sets n k) (number_in rows n k)
  seen_slot rows n k h = ap (λ (r : List (Option Slot)). get_or r k None) (seen_unit rows n) ∙ read_by (seen_at n) 0 (get_or rows n []) k k None 0 (omega arith) h

  -- where the set says that the unit does not stand it has no slot
  pub seen_none : (rows : Places ℕ) (n k : ℕ) → is_marked sets n k ≡ false → slot_in (slots_seen pool sets rows) n k ≡ None
  seen_none rows n k none = elim (cases_lt k (length (get_or rows n []))) as (λ _. slot_in (slots_seen pool sets rows) n k ≡ None) [
    | inl h ↦ seen_slot rows n k h ∙ ap (λ b. slot_under pool b (number_in rows n k)) none
    | inr h ↦ get_or_past (get_or (slots_seen pool sets rows) n []) k None (let w = seen_width rows n in omega (arith, h, w))
  ]

  -- units that get places where no set has them
  pub seen_vacant : (rows : Places ℕ) (first places n : ℕ) → ((j k : ℕ) → j < n → k < places → is_marked sets (first + j) k ≡ false) → slots_seen pool sets (with_places 0 rows first places n) ≡ with_vacant (slots_seen pool sets rows) first places n
  seen_vacant rows first places zero none = refl
  seen_vacant rows first places (suc n) none =
      set_by unit_seen 0 (with_places 0 rows first places n) (first + n) (first + n) (replicate places 0) (omega arith)
      ∙ ap (set (slots_seen pool sets (with_places 0 rows first places n)) (first + n)) (alike_by (seen_at (first + n)) 0 None 0 places (λ i _ g. ap (λ b. slot_under pool b 0) (none n i (omega arith) (omega (arith, g)))))
      ∙ ap (λ (s : Slots). set s (first + n) (replicate places None)) (seen_vacant rows first places n (λ j k h g. none j k (omega (arith, h)) g))

  pub seen_empty : (count : ℕ) → slots_seen pool sets (replicate count []) ≡ replicate count []
  seen_empty count = alike_by unit_seen [] [] 0 count (λ _ _ _. refl)

-- a place that an entry fits is one of the unit's numbers too
pub fits_number : (p : Layout) (e : Entry) (place : ℕ) → EntryFitsIn p e place → place < length (get_or (numbers_of p.slots.items) (number_of e) [])
fits_number p e place fits = subst (λ (w : ℕ). place < w) (seen_width p.pool (sets_of p.slots.items) (numbers_of p.slots.items) (number_of e)) fits.inside

-- where no generation and no set changes, each number leads to the same slot
pub seen_same : (before after : PoolRecord Node) (sets news : List PlaceSet) → ((n : ℕ) → generation_at after n ≡ generation_at before n) → ((n k : ℕ) → is_marked news n k ≡ is_marked sets n k) → (rows : Places ℕ) → slots_seen after news rows ≡ slots_seen before sets rows
seen_same before after sets news same marks rows =
    same_by (unit_seen after news) (unit_seen before sets) (λ n row. same_by (seen_at after news n) (seen_at before sets n) (λ k x. ap (λ b. slot_under after b x) (marks n k) ∙ under x (is_marked sets n k)) 0 row) 0 rows
  where
    under : (x : ℕ) (b : Bool) → slot_under after b x ≡ slot_under before b x
    under x false = refl
    under x true = ap (λ (g : ℕ). let t : Option Slot = Some (record { number = x; generation = g }) in t) (same x)

-- a slot that is live has the present generation
live_again : (pool : PoolRecord Node) (s : Slot) → IsSome (value_at pool s) → slot_at pool s.number ≡ s
live_again pool s h = elim (eqb_tells (generation_at pool s.number) s.generation) as (λ _. slot_at pool s.number ≡ s) [
  | inl e ↦ ap (λ (g : ℕ). let t : Slot = record { number = s.number; generation = g } in t) e.1
  | inr e ↦ absurd (not_some (get_or pool.values s.number None) (subst (λ b. IsSome (cond b (get_or pool.values s.number None) None)) e.0 h))
]
  where
    not_some : (o : Option Node) → IsSome (cond false o None) → ⊥
    not_some o g = absurd (cc)

-- all slots that are kept are live
kept_again : Entries → (pool : PoolRecord Node) (spare : ℕ) (queues : List Queue) (slots : Slots) (sets : List PlaceSet) → AreKept (value_at pool) spare queues slots sets → (n k : ℕ) (s : Slot) → slot_in slots n k ≡ Some s → slot_at pool s.number ≡ s
kept_again law pool spare queues slots sets kept n k s h =
    let d : Queue = record { key_first = true; first = None; ends = [] } in
    let q = kept.queues_stand k d (slot_queued (value_at pool) spare queues slots sets kept n k s h) in
    let i = q.all n s h in
    live_again pool s (live (value_at pool) s i.0 (member_entry law (value_at pool) (get_or queues k d) (kept.lists k) q.stands (s, i.0) i.1))

-- two tables with the same at each place
places_same : (one other : Slots) → length one ≡ length other → ((n : ℕ) → length (get_or one n []) ≡ length (get_or other n [])) → ((n k : ℕ) → k < length (get_or one n []) → slot_in one n k ≡ slot_in other n k) → one ≡ other
places_same one other count widths reads = ext_get_or [] one other count (λ n _. ext_get_or None (get_or one n []) (get_or other n []) (widths n) (λ k h. reads n k h))

-- where no set changes at a place that its unit has, all is seen as before
pub seen_marks : (pool : PoolRecord Node) (sets news : List PlaceSet) (rows : Places ℕ) → ((n k : ℕ) → k < length (get_or rows n []) → is_marked news n k ≡ is_marked sets n k) → slots_seen pool news rows ≡ slots_seen pool sets rows
seen_marks pool sets news rows same = places_same (slots_seen pool news rows) (slots_seen pool sets rows)
    (seen_count pool news rows ∙ sym (seen_count pool sets rows))
    (λ n. seen_width pool news rows n ∙ sym (seen_width pool sets rows n))
    (λ n k h.
    let there : k < length (get_or rows n []) = let w = seen_width pool news rows n in omega (arith, h, w) in
    seen_slot pool news rows n k there ∙ ap (λ b. slot_under pool b (number_in rows n k)) (same n k there) ∙ sym (seen_slot pool sets rows n k there))

module _ (before after : PoolRecord Node) (sets news : List PlaceSet) (rows : Places ℕ) (n place number : ℕ) (x : Option Slot) (inside : place < length (get_or rows n [])) (noted : IsNoted sets news n place (is_some x)) (here : (s : Slot) → x ≡ Some s → number ≡ s.number) where
  abbrev olds : Slots
  olds = slots_seen before sets rows

  abbrev now : Places ℕ
  now = with_slot rows n place number

  within : place < length (get_or olds n [])
  within = let w = seen_width before sets rows n in omega (arith, inside, w)

  module _ (again : (m k : ℕ) (s : Slot) → slot_in (with_slot olds n place x) m k ≡ Some s → slot_at after s.number ≡ s) where
    seen_here : slot_under after (is_marked news n place) (number_in now n place) ≡ slot_in (with_slot olds n place x) n place
    seen_here =
        ap (λ b. slot_under after b (number_in now n place)) noted.here ∙ ap (slot_under after (is_some x)) (place_same 0 rows n place number inside) ∙ by x refl
        ∙ sym (read_same olds n place x within)
      where
        by : (o : Option Slot) → x ≡ o → slot_under after (is_some o) number ≡ o
        by None e = refl
        by (Some s) e = ap (λ (k : ℕ). let t : Option Slot = Some (slot_at after k) in t) (here s e) ∙ ap Some (again n place s (read_same olds n place x within ∙ e))

    seen_other : (m k : ℕ) → k < length (get_or rows m []) → (m ≡ n → k ≡ place → ⊥) → slot_under after (is_marked news m k) (number_in now m k) ≡ slot_in (with_slot olds n place x) m k
    seen_other m k h d =
        ap (λ b. slot_under after b (number_in now m k)) (noted.others m k d) ∙ ap (slot_under after (is_marked sets m k)) (place_other 0 rows n place m k number inside d)
        ∙ by (is_marked sets m k) (read_other olds n place m k x within d ∙ seen_slot before sets rows m k h)
      where
        by : (b : Bool) → slot_in (with_slot olds n place x) m k ≡ slot_under before b (number_in rows m k) → slot_under after b (number_in rows m k) ≡ slot_in (with_slot olds n place x) m k
        by false e = sym e
        by true e = ap Some (again m k (slot_at before (number_in rows m k)) e) ∙ sym e

    -- One slot is noted, or is no more: at every other place all is seen as before.
    seen_with : slots_seen after news now ≡ with_slot olds n place x
    seen_with = places_same (slots_seen after news now) (with_slot olds n place x)
        (seen_count after news now ∙ length-set rows n (set (get_or rows n []) place number) ∙ sym (seen_count before sets rows) ∙ sym (length-set olds n (set (get_or olds n []) place x)))
        (λ m. seen_width after news now m ∙ unit_lengths rows n place m number inside ∙ sym (seen_width before sets rows m) ∙ sym (unit_lengths olds n place m x within))
        (λ m k h.
        let there : k < length (get_or now m []) = let w = seen_width after news now m in omega (arith, h, w) in
        let was : k < length (get_or rows m []) = let w = unit_lengths rows n place m number inside in omega (arith, there, w) in
        seen_slot after news now m k there ∙ (elim (cases_eq m n) as (λ _. slot_under after (is_marked news m k) (number_in now m k) ≡ slot_in (with_slot olds n place x) m k) [
          | inl e ↦ elim (cases_eq k place) as (λ _. slot_under after (is_marked news m k) (number_in now m k) ≡ slot_in (with_slot olds n place x) m k) [
            | inl f ↦
                subst (λ (i : ℕ). slot_under after (is_marked news i k) (number_in now i k) ≡ slot_in (with_slot olds n place x) i k) (sym e)
                (subst (λ (i : ℕ). slot_under after (is_marked news n i) (number_in now n i) ≡ slot_in (with_slot olds n place x) n i) (sym f) seen_here)
            | inr f ↦ seen_other m k was (λ _ g. f g)
          ]
          | inr e ↦ seen_other m k was (λ g _. e g)
        ]))

  -- the same where the slots that are noted then are kept
  pub noted_again : Entries → (spare : ℕ) (queues : List Queue) → AreKept (value_at after) spare queues (with_slot olds n place x) news → slots_seen after news now ≡ with_slot olds n place x
  noted_again law spare queues kept = seen_with (kept_again law after spare queues (with_slot olds n place x) news kept)
