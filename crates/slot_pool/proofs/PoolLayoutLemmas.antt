-- What each call leaves of the layout of a pool.
use Rattle.std.proofs.Common.{◌≡◌, ◌≢◌, ℕ, zero, suc, ◌<◌, ◌≤◌, cond, List, [], ◌∷◌, ◌++◌, length, get_or, set, map, Option, Some, None, refl, sym, ap, subst, ◌∙◌, arith}
use Rattle.std.specs.Prelude.{option_to_list, is_none, count_by, All}
use Rattle.std.proofs.lemmas.List.{get_or-set_same, get_or-set_other, length-set, get_or_append_left, get_or_push, length_push}
use Rattle.std.proofs.lemmas.List.Elements.{All-push}
use Rattle.std.proofs.lemmas.List.Quantifiers.{all_pairs_push}
use Rattle.std.proofs.lemmas.List.Sums.{sum_by-set, count_by-le-length}
use Rattle.slot_pool.specs.declared.cell.Cell.{Cell}
use Rattle.slot_pool.specs.declared.cell.Cell.TheVariants.{Vacant}
use Rattle.slot_pool.specs.PoolLayout.{value_of, IsPool}

module _ {T : Type 0} where
  -- what is read under a number of the cells is what is read of their values
  pub read_value : (cells : List (Cell T)) (n : ℕ) → get_or (map value_of cells) n None ≡ value_of (get_or cells n Vacant)
  read_value [] n = refl
  read_value (c ∷ cs) zero = refl
  read_value (c ∷ cs) (suc n) = read_value cs n

  -- nothing is read past the end, so a value is inside
  pub value_inside : (values : List (Option T)) (n : ℕ) (v : T) → get_or values n None ≡ Some v → n < length values
  value_inside [] n v e = absurd (cc)
  value_inside (x ∷ xs) zero v e = omega arith
  value_inside (x ∷ xs) (suc n) v e = omega (arith, value_inside xs n v e)

  abbrev weight : Option T → ℕ
  weight o = cond {A = ℕ} (is_none o) 1 0

  -- where a value stands, some number of the room is not free
  pub live_room : (values : List (Option T)) (generations free : List ℕ) (n room : ℕ) (v : T) → IsPool values generations free room → get_or values n None ≡ Some v → length free < room
  live_room values generations free n room v p is =
      let inside = value_inside values n v is in
      let sums = sum_by-set weight values n None None inside in
      let here : weight (get_or values n None) ≡ 0 = ap weight is in
      let most : count_by is_none (set values n None) ≤ length values = omega (arith, count_by-le-length is_none (set values n None), length-set values n None) in
      let c = p.counted in let w = p.within in omega arith

  -- a value stands under none of the free numbers
  live_apart : (values : List (Option T)) (generations free : List ℕ) (n room : ℕ) (v : T) → IsPool values generations free room → get_or values n None ≡ Some v → All (λ m. m ≢ n) free
  live_apart values generations free n room v p is = λ k d h e.
      let none : get_or values n None ≡ None = subst (λ (m : ℕ). get_or values m None ≡ None) e (p.vacant k d h).1 in cc

  -- nothing comes to stand under the free numbers by a write under another one
  still_vacant : (values : List (Option T)) (free : List ℕ) (n : ℕ) (x : Option T) → All (λ m. (m < length values) × (get_or values m None ≡ None)) free → All (λ m. m ≢ n) free → All (λ m. (m < length (set values n x)) × (get_or (set values n x) m None ≡ None)) free
  still_vacant values free n x vacant apart = λ k d h. (rw length-set (vacant k d h).0, get_or-set_other values n (get_or free k d) x None (apart k d h) ∙ (vacant k d h).1)

  -- another value under a number where one stands
  pub rewritten : (values : List (Option T)) (generations free : List ℕ) (n room : ℕ) (v w : T) → IsPool values generations free room → get_or values n None ≡ Some v → IsPool (set values n (Some w)) generations free room
  rewritten values generations free n room v w p is =
      let inside = value_inside values n v is in
      let sums = sum_by-set weight values n (Some w) None inside in
      let here : weight (get_or values n None) ≡ 0 = ap weight is in
      record {
        numbered = p.numbered ∙ sym (length-set values n (Some w));
        within = rw length-set p.within;
        counted = let c = p.counted in omega arith;
        vacant = still_vacant values free n (Some w) p.vacant (live_apart values generations free n room v p is);
        apart = p.apart;
      }

  -- the last of the free numbers, as it is taken off the others
  pub last_free : (values : List (Option T)) (generations free front : List ℕ) (n room : ℕ) (popped : Option ℕ) → IsPool values generations free room → free ≡ front ++ option_to_list popped → popped ≡ Some n → IsPool values generations (front ++ n ∷ []) room
  last_free values generations free front n room popped p e some = subst (λ (ns : List ℕ). IsPool values generations ns room) (e ∙ ap (λ (o : Option ℕ). front ++ option_to_list o) some) p

  -- a value comes under the last of the free numbers
  pub refilled : (values : List (Option T)) (generations front : List ℕ) (n room : ℕ) (v : T) → IsPool values generations (front ++ n ∷ []) room → IsPool (set values n (Some v)) generations front room
  refilled values generations front n room v p =
      let longer = length_push front n in
      let last = p.vacant (length front) n (omega arith) in
      let is_last : get_or (front ++ n ∷ []) (length front) n ≡ n = get_or_push front n n (length front) refl in
      let here : (n < length values) × (get_or values n None ≡ None) = subst (λ (m : ℕ). (m < length values) × (get_or values m None ≡ None)) is_last last in
      let sums = sum_by-set weight values n (Some v) None here.0 in
      let was : weight (get_or values n None) ≡ 1 = ap weight here.1 in
      let same : (k d : ℕ) → k < length front → get_or (front ++ n ∷ []) k d ≡ get_or front k d = λ k d h. get_or_append_left front (n ∷ []) d k h in
      record {
        numbered = p.numbered ∙ sym (length-set values n (Some v));
        within = rw length-set p.within;
        counted = let c = p.counted in omega arith;
        vacant = still_vacant values front n (Some v)
            (λ k d h. subst (λ (m : ℕ). (m < length values) × (get_or values m None ≡ None)) (same k d h) (p.vacant k d (omega arith)))
            (λ k d h e. p.apart k (length front) d h (omega arith) (same k d h ∙ e ∙ sym (get_or_push front n d (length front) refl)));
        apart = λ i j d h k e. p.apart i j d h (omega arith) (same i d (omega arith) ∙ e ∙ sym (same j d k));
      }

  -- the last of the free numbers is in use and nothing stands there
  pub last_vacant : (values : List (Option T)) (generations front : List ℕ) (n room : ℕ) → IsPool values generations (front ++ n ∷ []) room → (n < length values) × (get_or values n None ≡ None)
  last_vacant values generations front n room p =
      let longer = length_push front n in
      subst (λ (m : ℕ). (m < length values) × (get_or values m None ≡ None)) (get_or_push front n n (length front) refl) (p.vacant (length front) n (omega arith))

  -- a value goes, and its number is free again
  pub emptied : (values : List (Option T)) (generations free : List ℕ) (n room g : ℕ) (v : T) → IsPool values generations free room → get_or values n None ≡ Some v → IsPool (set values n None) (set generations n g) (free ++ n ∷ []) room
  emptied values generations free n room g v p is =
      let longer = length_push free n in
      let inside = value_inside values n v is in
      let sums = sum_by-set weight values n None None inside in
      let here : weight (get_or values n None) ≡ 0 = ap weight is in
      let apart = live_apart values generations free n room v p is in
      record {
        numbered = length-set generations n g ∙ p.numbered ∙ sym (length-set values n None);
        within = rw length-set p.within;
        counted = let c = p.counted in omega arith;
        vacant = All-push (λ m. (m < length (set values n None)) × (get_or (set values n None) m None ≡ None)) free n (still_vacant values free n None p.vacant apart) (rw length-set inside, get_or-set_same values n None None inside);
        apart = all_pairs_push (λ m k. m ≢ k) free n p.apart apart;
      }
