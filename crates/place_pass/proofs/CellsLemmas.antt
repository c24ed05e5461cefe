-- What is asked at a key after a demand is taken over.
use Rattle.std.proofs.Common.{◌≡◌, ◌≢◌, ℕ, zero, suc, ◌+◌, ◌<◌, ◌≤◌, Bool, true, false, cond, nat_eq, nat_lt, List, [], ◌∷◌, length, get_or, min, set, refl, sym, ◌∙◌, ap, subst, arith, inl, inr, length-set}
use Rattle.std.specs.Prelude.{◌&&◌, not, replicate}
use Rattle.std.proofs.lemmas.Bool.{cases_eq}
use Rattle.std.proofs.lemmas.Bool.Decides.{nat_tests}
use Rattle.std.proofs.lemmas.List.{ext_get_or, get_or-map, get_or-set_same, get_or-set_other, length-map, length-replicate}
use Rattle.fuxi_terms.specs.Cluster.{ClusterRecord, UnitRecord, has_rack}
use Rattle.fuxi_terms.specs.declared.Key.{Key}
use Rattle.fuxi_terms.specs.Keys.{key_cmp}
use Rattle.fuxi_terms.specs.Counts.{count, AreCounts}
use Rattle.fuxi_terms.proofs.CountsLemmas.{count_le}
use Rattle.fuxi_terms.specs.TallyKeys.{greatest_demand, is_place, where_holds, key}
use Rattle.fuxi_terms.specs.Jobs.{no_unit}
use Rattle.place_pass.specs.Cells.{Cell, AreWishes, AreAbove, IsWish, cell_at, fresh_cell, fresh_cells, is_gone, no_cell, ones_in, taken, taken_all}
use Rattle.locality_tree.specs.declared.place_set.PlaceSet.{PlaceSet}
use Rattle.locality_tree.specs.PlaceSets.{in_set}
use Rattle.fuxi_terms.specs.Vectors.{fits}
use Rattle.fuxi_terms.proofs.VectorLaws.{fits-trans, fits_places}
use Rattle.fuxi_terms.proofs.ByPlace.{at_place-get_or}
use Rattle.fuxi_terms.proofs.KeyOrders.{key_total, same_key}
use Rattle.place_pass.proofs.Places.{counted_at, counted_long}
use Rattle.fuxi_terms.proofs.IndexedLists.{one_set, repeated_at, slot_within}

-- a number that is asked for is small
pub asked_small : (es : List (Key × ℕ)) (what unit number : ℕ) → what < 5 → AreCounts key_cmp greatest_demand es → count key_cmp es (key what unit number) ≤ 100000
asked_small es what unit number lt h =
    let le = count_le key_total same_key greatest_demand es (key what unit number) h.within in
    let g : greatest_demand (key what unit number) ≤ 100000 = by (is_place (key what unit number)) what number lt in
    omega (arith, le, g)
  where
    kinds : (what number : ℕ) → what < 5 → cond (nat_eq what 1) (where_holds (nat_eq number 0) 100000) (cond (nat_eq what 2) 100000 (cond (nat_eq what 3) (where_holds (nat_lt number 64) 100000) (cond (nat_eq what 4) 1 (where_holds (nat_eq what 5) 1000000000000)))) ≤ 100000
    kinds what number lt = grind (arith, nat_tests)

    by : (b : Bool) (what number : ℕ) → what < 5 → where_holds b (cond (nat_eq what 1) (where_holds (nat_eq number 0) 100000) (cond (nat_eq what 2) 100000 (cond (nat_eq what 3) (where_holds (nat_lt number 64) 100000) (cond (nat_eq what 4) 1 (where_holds (nat_eq what 5) 1000000000000))))) ≤ 100000
    by true what number lt = kinds what number lt
    by false what number lt = omega arith

-- an admitted unit has one of 8 places for each job
pub placed : (c : ClusterRecord) (cells : List (List Cell)) (o : List Bool) → AreWishes c cells o → (a u : ℕ) → u < length (get_or cells a []) → (a < 256) × (u < 8)
placed c cells o h a u lt =
    let within = slot_within cells a u lt in
    let places = h.places in
    let few = h.few a in
    (omega (arith, within, places), omega (arith, lt, few))

-- ---- the units of a job
pub length-taken_all : (c : ClusterRecord) (es : List (Key × ℕ)) (n : ℕ) (xs : List Cell) → length (taken_all c es n xs) ≡ length xs
length-taken_all c es n [] = refl
length-taken_all c es n (x ∷ xs) = ap suc (length-taken_all c es (n + 1) xs)

pub get_or-taken_all : (c : ClusterRecord) (es : List (Key × ℕ)) (n u k : ℕ) (xs : List Cell) → k ≡ n + u → u < length xs → get_or (taken_all c es n xs) u no_cell ≡ taken c es k (get_or xs u no_cell)
get_or-taken_all c es n u k [] e lt = absurd (omega (arith, lt))
get_or-taken_all c es n zero k (x ∷ xs) e lt = let same : n ≡ k = omega (arith, e) in ap (λ m. taken c es m x) same
get_or-taken_all c es n (suc u) k (x ∷ xs) e lt = get_or-taken_all c es (n + 1) u k xs (omega (arith, e)) (omega (arith, lt))

-- ---- wishes stay wishes
pub wishes_set : (c : ClusterRecord) (cells : List (List Cell)) (o : List Bool) (a : ℕ) (xs : List Cell) → AreWishes c cells o → a < length cells → length xs ≤ 8
    → ((u : ℕ) → u < length xs → IsWish c (get_or xs 0 no_cell) (get_or xs u no_cell)) → AreWishes c (set cells a xs) o
wishes_set c cells o a xs h lt few each = record {
  places = length-set cells a xs ∙ h.places;
  few = λ b. subst (λ ys. length ys ≤ 8) (sym (one_set cells a b xs [] lt)) (by_few (nat_eq a b) b);
  unit = λ b u l.
      let row = one_set cells a b xs [] lt in
      subst (λ ys. IsWish c (get_or ys 0 no_cell) (get_or ys u no_cell)) (sym row) (by_unit (nat_eq a b) b u (subst (λ ys. u < length ys) row l));
  opened = h.opened;
}
  where
    by_few : (t : Bool) (b : ℕ) → length (cond t xs (get_or cells b [])) ≤ 8
    by_few true b = few
    by_few false b = h.few b

    by_unit : (t : Bool) (b u : ℕ) → u < length (cond t xs (get_or cells b [])) → IsWish c (get_or (cond t xs (get_or cells b [])) 0 no_cell) (get_or (cond t xs (get_or cells b [])) u no_cell)
    by_unit true b u l = each u l
    by_unit false b u l = h.unit b u l

pub taken_wishes : (c : ClusterRecord) (es : List (Key × ℕ)) (xs : List Cell) → AreCounts key_cmp greatest_demand es → ((u : ℕ) → u < length xs → IsWish c (get_or xs 0 no_cell) (get_or xs u no_cell))
    → (u : ℕ) → u < length (taken_all c es 0 xs) → IsWish c (get_or (taken_all c es 0 xs) 0 no_cell) (get_or (taken_all c es 0 xs) u no_cell)
taken_wishes c es xs counts h u l =
    let n = length-taken_all c es 0 xs in
    let lt : u < length xs = omega (arith, n, l) in
    let some : 0 < length xs = omega (arith, lt) in
    let x = h u lt in
    subst (λ y. IsWish c y (get_or (taken_all c es 0 xs) u no_cell)) (sym (get_or-taken_all c es 0 0 0 xs (omega arith) some))
    (subst (IsWish c (taken c es 0 (get_or xs 0 no_cell))) (sym (get_or-taken_all c es 0 u u xs (omega arith) lt)) (record {
      group = x.group;
      size = x.size;
      want = asked_small es 1 u 0 (omega arith) counts;
      near = counted_long (λ m. count key_cmp es (key 2 u m)) (length c.machines);
      racks = counted_long (λ r. cond (has_rack c r) (count key_cmp es (key 3 u r)) 0) 64;
      avoided = counted_long (λ m. count key_cmp es (key 4 u m)) (length c.machines);
    }))

pub fresh_wishes : (c : ClusterRecord) (g : ℕ) (us : List UnitRecord) → ((u : ℕ) → u < length us → length (get_or us u no_unit).size ≡ 8) → (u : ℕ) → u < length (fresh_cells g (length c.machines) us) → IsWish c (get_or (fresh_cells g (length c.machines) us) 0 no_cell) (get_or (fresh_cells g (length c.machines) us) u no_cell)
fresh_wishes c g us eight u l =
    let n = length-map us (fresh_cell g (length c.machines)) in
    let lt : u < length us = omega (arith, n, l) in
    subst (λ y. IsWish c y (get_or (fresh_cells g (length c.machines) us) u no_cell)) (sym (get_or-map (fresh_cell g (length c.machines)) us 0 no_unit no_cell (omega (arith, lt))))
    (subst (IsWish c (fresh_cell g (length c.machines) (get_or us 0 no_unit))) (sym (get_or-map (fresh_cell g (length c.machines)) us u no_unit no_cell lt)) (record {
      group = refl;
      size = eight u lt;
      want = omega arith;
      near = length-replicate {A = ℕ} (length c.machines) 0;
      racks = length-replicate {A = ℕ} 64 0;
      avoided = length-replicate {A = ℕ} (length c.machines) 0;
    }))

pub no_wishes : (c : ClusterRecord) (cells : List (List Cell)) (o : List Bool) → cells ≡ replicate 256 [] → length o ≡ length c.machines → AreWishes c cells o
no_wishes c cells o e n = record {
  places = ap length e ∙ length-replicate {A = List Cell} 256 [];
  few = λ a. let z = none a in omega (arith, z);
  unit = λ a u lt. let z = none a in absurd (omega (arith, z, lt));
  opened = n;
}
  where
    by : (k a : ℕ) → length (get_or {A = List Cell} (replicate k []) a []) ≡ 0
    by zero a = refl
    by (suc k) zero = refl
    by (suc k) (suc a) = by k a

    none : (a : ℕ) → length (get_or cells a []) ≡ 0
    none a = ap (λ xs. length (get_or xs a [])) e ∙ by 256 a

-- ---- what no unit needs less of
pub none_above : (least : List ℕ) (cells : List (List Cell)) → cells ≡ replicate 256 [] → AreAbove least cells
none_above least cells e = record { above = λ a u lt. let z : u < length (get_or {A = List Cell} (replicate 256 []) a []) = subst (λ (xs : List (List Cell)). u < length (get_or xs a [])) e lt in let n = by 256 a in absurd (omega (arith, z, n)) }
  where
    by : (k a : ℕ) → length (get_or {A = List Cell} (replicate k []) a []) ≡ 0
    by zero a = refl
    by (suc k) zero = refl
    by (suc k) (suc a) = by k a

pub above_lower : (least lower : List ℕ) (cells : List (List Cell)) → fits lower least ≡ true → AreAbove least cells → AreAbove lower cells
above_lower least lower cells f h = record { above = λ a u lt. fits-trans lower least (cell_at cells a u).unit.size f (h.above a u lt) }

pub above_set : (least : List ℕ) (cells : List (List Cell)) (a : ℕ) (xs : List Cell) → AreAbove least cells → a < length cells → ((u : ℕ) → u < length xs → fits least (get_or xs u no_cell).unit.size ≡ true) → AreAbove least (set cells a xs)
above_set least cells a xs h lt each = record {
  above = λ b u l.
      let row = one_set cells a b xs [] lt in
      subst (λ ys. fits least (get_or ys u no_cell).unit.size ≡ true) (sym row) (by (nat_eq a b) b u (subst (λ ys. u < length ys) row l));
}
  where
    by : (t : Bool) (b u : ℕ) → u < length (cond t xs (get_or cells b [])) → fits least (get_or (cond t xs (get_or cells b [])) u no_cell).unit.size ≡ true
    by true b u l = each u l
    by false b u l = h.above b u l

pub above_taken : (c : ClusterRecord) (es : List (Key × ℕ)) (least : List ℕ) (cells : List (List Cell)) (a : ℕ) → AreAbove least cells → a < length cells → AreAbove least (set cells a (taken_all c es 0 (get_or cells a [])))
above_taken c es least cells a h lt = above_set least cells a (taken_all c es 0 (get_or cells a [])) h lt (λ u l.
    let xs = get_or cells a [] in
    let n = length-taken_all c es 0 xs in
    let here : u < length xs = omega (arith, n, l) in
    ap (λ (x : Cell). fits least x.unit.size) (get_or-taken_all c es 0 u u xs (omega arith) here) ∙ h.above a u here)

-- the lesser of each resource fits both
pub lesser_fits : (q a b : List ℕ) → ((i : ℕ) → get_or q i 0 ≡ min (get_or a i 0) (get_or b i 0)) → (fits q a ≡ true) × (fits q b ≡ true)
lesser_fits q a b is = (
  (fits_places q a).1 (λ i. let e = is i in let x = at_place-get_or q i in let y = at_place-get_or a i in omega (arith, e, x, y)),
  (fits_places q b).1 (λ i. let e = is i in let x = at_place-get_or q i in let y = at_place-get_or b i in omega (arith, e, x, y)),
)

-- ---- the machines that are avoided, by number
pub avoided_once : (es : List (Key × ℕ)) (unit number : ℕ) → AreCounts key_cmp greatest_demand es → count key_cmp es (key 4 unit number) ≤ 1
avoided_once es unit number h =
    let le = count_le key_total same_key greatest_demand es (key 4 unit number) h.within in
    let g : greatest_demand (key 4 unit number) ≤ 1 = by (is_place (key 4 unit number)) in
    omega (arith, le, g)
  where
    by : (b : Bool) → where_holds b 1 ≤ 1
    by true = omega arith
    by false = omega arith

pub one_where : (n m : ℕ) (s : PlaceSet) → m < n → nat_lt 0 (get_or (ones_in n s) m 0) ≡ in_set s m
one_where n m s lt = ap (nat_lt 0) (counted_at (λ k. cond (in_set s k) 1 0) n m lt) ∙ by (in_set s m)
  where
    by : (b : Bool) → nat_lt 0 (cond b 1 0) ≡ b
    by true = refl
    by false = refl

-- a number that is at most 1 is 1 exactly where the set has it
one_is : (b : Bool) (x : ℕ) → x ≤ 1 → b ≡ nat_lt 0 x → cond b 1 0 ≡ x
one_is b zero le e = ap (λ t. cond t 1 0) e
one_is b (suc zero) le e = ap (λ t. cond t 1 0) e
one_is b (suc (suc x)) le e = absurd (omega (arith, le))

pub ones_are : (n : ℕ) (s : PlaceSet) (xs : List ℕ) → length xs ≡ n → ((m : ℕ) → m < n → get_or xs m 0 ≤ 1) → ((m : ℕ) → m < n → in_set s m ≡ nat_lt 0 (get_or xs m 0)) → ones_in n s ≡ xs
ones_are n s xs long small is =
    let f : ℕ → ℕ = λ m. cond (in_set s m) 1 0 in
    let all = counted_long f n in
    ext_get_or 0 (ones_in n s) xs (all ∙ sym long) (λ m lt. let l : m < n = omega (arith, lt, all) in counted_at f n m l ∙ one_is (in_set s m) (get_or xs m 0) (small m l) (is m l))

pub ones_none : (n : ℕ) (s : PlaceSet) → ((m : ℕ) → in_set s m ≡ false) → ones_in n s ≡ replicate n 0
ones_none n s none = ones_are n s (replicate n 0) (length-replicate n 0)
    (λ m lt. let z = repeated_at {A = ℕ} 0 n m in omega (arith, z)) (λ m lt. none m ∙ sym (ap (nat_lt 0) (repeated_at {A = ℕ} 0 n m)))

pub ones_set : (n m x : ℕ) (s t : PlaceSet) → m < n → x ≤ 1 → in_set t m ≡ nat_lt 0 x → ((k : ℕ) → k ≢ m → in_set t k ≡ in_set s k) → ones_in n t ≡ set (ones_in n s) m x
ones_set n m x s t lt small here others =
    let f : ℕ → ℕ = λ k. cond (in_set s k) 1 0 in
    let all = counted_long f n in
    let read : (k : ℕ) → get_or (set (ones_in n s) m x) k 0 ≡ cond (nat_eq m k) x (get_or (ones_in n s) k 0) = λ k. one_set (ones_in n s) m k x 0 (omega (arith, lt, all)) in
    ones_are n t (set (ones_in n s) m x) (length-set (ones_in n s) m x ∙ all)
    (λ k l. subst (λ z. z ≤ 1) (sym (read k)) (few (nat_eq m k) (get_or (ones_in n s) k 0) (subst (λ z. z ≤ 1) (sym (counted_at f n k l)) (one (in_set s k)))))
    (λ k l. elim (cases_eq k m) as (λ _. in_set t k ≡ nat_lt 0 (get_or (set (ones_in n s) m x) k 0)) [
      | inl e ↦ ap (in_set t) e ∙ here ∙ ap (nat_lt 0) (sym (get_or-set_same (ones_in n s) m x 0 (omega (arith, lt, all))) ∙ ap (λ j. get_or (set (ones_in n s) m x) j 0) (sym e))
      | inr d ↦ others k d ∙ sym (one_where n k s l) ∙ ap (nat_lt 0) (sym (get_or-set_other (ones_in n s) m k x 0 d))
    ])
  where
    few : (b : Bool) (y : ℕ) → y ≤ 1 → cond b x y ≤ 1
    few true y le = small
    few false y le = le

    one : (b : Bool) → cond b 1 0 ≤ 1
    one true = omega arith
    one false = omega arith

-- nothing is left of a number exactly where the set has the machine and the new number is 0
pub gone_where : (n m x : ℕ) (s : PlaceSet) → m < n → is_gone (get_or (ones_in n s) m 0) x ≡ (in_set s m && not (nat_lt 0 x))
gone_where n m x s lt = ap (λ b. b && nat_eq x 0) (one_where n m s lt) ∙ ap (λ b. in_set s m && b) (by x)
  where
    by : (x : ℕ) → nat_eq x 0 ≡ not (nat_lt 0 x)
    by zero = refl
    by (suc x) = let some : nat_lt 0 (suc x) ≡ true = grind (arith, nat_tests) in let more : nat_eq (suc x) 0 ≡ false = grind (arith, nat_tests) in more ∙ sym (ap not some)
