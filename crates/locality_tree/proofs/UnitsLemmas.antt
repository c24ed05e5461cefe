-- The numbers and the sets of a list of units: what one unit's change is to them, and that more units change nothing.
use Rattle.std.proofs.Common.{◌≡◌, ◌≢◌, ◌⊎◌, ℕ, zero, suc, ◌+◌, ◌-◌, ◌<◌, ◌≤◌, Bool, false, List, [], ◌∷◌, ◌++◌, length, map, get_or, set, replicate, refl, sym, ap, subst, ◌∙◌, inl, inr, arith}
use Rattle.std.proofs.lemmas.Bool.{cases_eq, cases_lt}
use Rattle.std.proofs.lemmas.List.{append_assoc, map-set, map_push, length-map, length-set, length_push, get_or-map, get_or-set_same, get_or-set_other, set-get_or, get_or_past, get_or_append_left, get_or-append_right, set-append_left}
use Rattle.locality_tree.specs.declared.layout.UnitSlots.{UnitSlots}
use Rattle.locality_tree.specs.declared.place_set.PlaceSet.{PlaceSet}
use Rattle.locality_tree.specs.Trees.{all_units}
use Rattle.locality_tree.specs.PlaceSets.{in_set, no_set, is_marked}
use Rattle.locality_tree.specs.Layouts.{Places, numbers_of, sets_of, IsNoted, AreWithout, IsGrown}
use Rattle.locality_tree.proofs.PlaceSetsLemmas.{none_set}
use Rattle.fuxi_terms.proofs.IndexedLists.{repeated_at}

abbrev numbers_in : UnitSlots → List ℕ
numbers_in u = u.numbers.items

abbrev set_in : UnitSlots → PlaceSet
set_in u = u.places

module _ (units : List UnitSlots) (n : ℕ) where
  beyond : length units ≤ n → get_or (numbers_of units) n [] ≡ []
  beyond h = get_or-append_right (map numbers_in units) (replicate (all_units - length units) []) (length units) n [] (length-map units numbers_in) h ∙ repeated_at [] (all_units - length units) (n - length units)

  -- a unit that is not listed has no place
  pub none_beyond : length units ≤ n → length (get_or (numbers_of units) n []) ≡ 0
  none_beyond h = ap length (beyond h)

  -- a unit that has a place is one of the list
  pub unit_listed : (k : ℕ) → k < length (get_or (numbers_of units) n []) → n < length units
  unit_listed k h = elim (cases_lt n (length units)) as (λ _. n < length units) [
    | inl lt ↦ lt
    | inr ge ↦ absurd (let none = ap length (beyond ge) in omega (arith, h, none))
  ]

  module _ (u : UnitSlots) (inside : n < length units) where
    pub numbers_set : numbers_of (set units n u) ≡ set (numbers_of units) n u.numbers.items
    numbers_set =
        let long : n < length (map numbers_in units) = let m = length-map units numbers_in in omega (arith, inside, m) in
        ap (λ (k : ℕ). map numbers_in (set units n u) ++ replicate (all_units - k) []) (length-set units n u)
        ∙ ap (λ (rows : Places ℕ). rows ++ replicate (all_units - length units) []) (map-set numbers_in units n u)
        ∙ sym (set-append_left (map numbers_in units) (replicate (all_units - length units) []) n u.numbers.items long)

    pub sets_set : sets_of (set units n u) ≡ set (sets_of units) n u.places
    sets_set = map-set set_in units n u

    -- what the lists have of the unit that stands there
    module _ (is : u ≡ get_or units n u) where
      pub numbers_at : get_or (numbers_of units) n [] ≡ u.numbers.items
      numbers_at =
          let long : n < length (map numbers_in units) = let m = length-map units numbers_in in omega (arith, inside, m) in
          get_or_append_left (map numbers_in units) (replicate (all_units - length units) []) [] n long ∙ get_or-map numbers_in units n u [] inside ∙ ap numbers_in (sym is)

      pub set_at : get_or (sets_of units) n no_set ≡ u.places
      set_at = get_or-map set_in units n u no_set inside ∙ ap set_in (sym is)

      pub same_numbers : set (numbers_of units) n u.numbers.items ≡ numbers_of units
      same_numbers = ap (set (numbers_of units) n) (sym numbers_at) ∙ set-get_or (numbers_of units) n []

      pub same_sets : set (sets_of units) n u.places ≡ sets_of units
      same_sets = ap (set (sets_of units) n) (sym set_at) ∙ set-get_or (sets_of units) n no_set

      -- one place of its set changes
      pub set_noted : (s : PlaceSet) (place : ℕ) (stands : Bool) → in_set s place ≡ stands → ((k : ℕ) → k ≢ place → in_set s k ≡ in_set u.places k) → IsNoted (sets_of units) (set (sets_of units) n s) n place stands
      set_noted s place stands here others =
          let long : n < length (sets_of units) = let m = length-map units set_in in omega (arith, inside, m) in
          record {
            here = ap (λ (t : PlaceSet). in_set t place) (get_or-set_same (sets_of units) n s no_set long) ∙ here;
            others = λ m k d. elim (cases_eq m n) as (λ _. is_marked (set (sets_of units) n s) m k ≡ is_marked (sets_of units) m k) [
              | inl e ↦
                  ap (λ (i : ℕ). is_marked (set (sets_of units) n s) i k) e ∙ ap (λ (t : PlaceSet). in_set t k) (get_or-set_same (sets_of units) n s no_set long)
                  ∙ others k (λ f. d e f) ∙ ap (λ (t : PlaceSet). in_set t k) (sym set_at) ∙ ap (λ (i : ℕ). is_marked (sets_of units) i k) (sym e)
              | inr f ↦ ap (λ (t : PlaceSet). in_set t k) (get_or-set_other (sets_of units) n m s no_set f)
            ];
          }

-- one unit's set is another
module _ (units : List UnitSlots) (n : ℕ) (unit after : UnitSlots) (inside : n < length units) where
  pub rows_stay : unit ≡ get_or units n unit → after.numbers.items ≡ unit.numbers.items → numbers_of (set units n after) ≡ numbers_of units
  rows_stay is same = numbers_set units n after inside ∙ ap (set (numbers_of units) n) same ∙ same_numbers units n unit inside is

  pub emptied : ((k : ℕ) → in_set after.places k ≡ false) → AreWithout (sets_of units) (sets_of (set units n after)) n
  emptied none =
      let long : n < length (sets_of units) = let m = length-map units set_in in omega (arith, inside, m) in
      subst (λ (sets : List PlaceSet). AreWithout (sets_of units) sets n) (sym (sets_set units n after inside)) (record {
        none = λ k. ap (λ (s : PlaceSet). in_set s k) (get_or-set_same (sets_of units) n after.places no_set long) ∙ none k;
        others = λ m k d. ap (λ (s : PlaceSet). in_set s k) (get_or-set_other (sets_of units) n m after.places no_set d);
      })

pub grown_start : (units : List UnitSlots) → IsGrown units units
grown_start units = record { numbers = refl; sets = λ n k. refl }

-- a unit more that has no place
pub grown_more : (olds units : List UnitSlots) (u : UnitSlots) → length units < all_units → u.numbers.items ≡ [] → ((k : ℕ) → in_set u.places k ≡ false) → IsGrown olds units → IsGrown olds (units ++ u ∷ [])
grown_more olds units u room no_numbers none grown = record {
  numbers = same_numbers ∙ grown.numbers;
  sets = λ n k. ap (λ (ss : List PlaceSet). is_marked ss n k) (map_push set_in units u) ∙ marks n k (cases_lt n (length (sets_of units))) ∙ grown.sets n k;
}
  where
    left : ℕ
    left = all_units - (length units + 1)

    same_numbers : numbers_of (units ++ u ∷ []) ≡ numbers_of units
    same_numbers =
        ap (λ (k : ℕ). map numbers_in (units ++ u ∷ []) ++ replicate (all_units - k) []) (length_push units u)
        ∙ ap (λ (rows : Places ℕ). rows ++ replicate left []) (map_push numbers_in units u)
        ∙ append_assoc (map numbers_in units) (u.numbers.items ∷ []) (replicate left [])
        ∙ ap (λ (row : List ℕ). map numbers_in units ++ row ∷ replicate left []) no_numbers
        ∙ ap (λ (k : ℕ). map numbers_in units ++ replicate k []) (let one : suc left ≡ all_units - length units = omega (arith, room) in one)

    last : (i k : ℕ) → in_set (get_or (u.places ∷ []) i no_set) k ≡ false
    last zero k = none k
    last (suc i) k = none_set [] 0 k refl

    marks : (n k : ℕ) → (n < length (sets_of units)) ⊎ (length (sets_of units) ≤ n) → is_marked (sets_of units ++ u.places ∷ []) n k ≡ is_marked (sets_of units) n k
    marks n k (inl h) = ap (λ (t : PlaceSet). in_set t k) (get_or_append_left (sets_of units) (u.places ∷ []) no_set n h)
    marks n k (inr h) =
        ap (λ (t : PlaceSet). in_set t k) (get_or-append_right (sets_of units) (u.places ∷ []) (length (sets_of units)) n no_set refl h)
        ∙ last (n - length (sets_of units)) k ∙ sym (ap (λ (t : PlaceSet). in_set t k) (get_or_past (sets_of units) n no_set h) ∙ none_set [] 0 k refl)
