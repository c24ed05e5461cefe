-- What is placeable, and how early, after the number at one spot of a table is set.
use Rattle.std.proofs.Common.{◌≡◌, ℕ, ◌+◌, ◌*◌, ◌≤◌, Bool, true, false, cond, not, nat_eq, nat_lt, List, get_or, refl, sym, ◌∙◌, ap, subst, arith, Option, None, Some}
use Rattle.std.specs.Prelude.{◌&&◌, T}
use Rattle.std.specs.Ordering.{eq_by_cmp}
use Rattle.std.specs.FinMap.Entries.{is_sorted}
use Rattle.std.proofs.Math.Nat.{mul-le-mul_right}
use Rattle.std.proofs.lemmas.Bool.Decides.{nat_tests}
use Rattle.fuxi_terms.specs.Cluster.{ClusterRecord, has_at, limit_at, rack_of, is_narrow, in_each}
use Rattle.fuxi_terms.specs.Counts.{count, set_count}
use Rattle.fuxi_terms.specs.Keys.{Spot, spot_cmp, Pair}
use Rattle.fuxi_terms.specs.Tables.{spot, held_on, held_in, total_by, usage_by, Table}
use Rattle.fuxi_terms.specs.TallyKeys.{near_key, rack_key}
use Rattle.fuxi_terms.proofs.Booleans.{both_true, and_true, number_is, no_times_either, nat_itself, zero_either}
use Rattle.fuxi_terms.proofs.CountsLemmas.{tied, count-set_count}
use Rattle.fuxi_terms.proofs.KeyOrders.{spot_total, same_spot}
use Rattle.fuxi_terms.proofs.Members.{each_place, each_from}
use Rattle.fuxi_terms.proofs.Sums.{sum_set}
use Rattle.spec_roles.specs.Masters.{level_of}
use Rattle.spec_roles.specs.Placing.{Board, accepts_in, has_room_in, is_allowed_in}
use Rattle.place_pass.specs.Bounds.{MarkRecord, IsBounded, lowered, lowered_mark, reset_mark, no_groups, after_taking, is_nearer_in}
use Rattle.place_pass.proofs.BoundsLemmas.{NoEarlier, accepts_less, bounded_later, bounded_apart, lowered_bounds, reset_bounds}
use Rattle.place_pass.proofs.SearchCountsLemmas.{none_noted}

-- ---- tests that hold of fewer
room_less : (c : ClusterRecord) (sizes : ℕ → ℕ → ℕ → ℕ) (es es' : Table) (a u m : ℕ) → ((i : ℕ) → total_by sizes m i es ≤ total_by sizes m i es') → has_room_in c sizes es' a u m ≡ true → has_room_in c sizes es a u m ≡ true
room_less c sizes es es' a u m le h =
    let then : ℕ → Bool = λ i. not (nat_lt (has_at c m i) (total_by sizes m i es' + sizes a u i)) in
    let before : ℕ → Bool = λ i. not (nat_lt (has_at c m i) (total_by sizes m i es + sizes a u i)) in
    let x = both_true (is_narrow c (sizes a u)) (in_each c then) h in
    and_true (is_narrow c (sizes a u)) (in_each c before) x.0 (each_from c.resources before (λ i lt. at_most (has_at c m i) (total_by sizes m i es) (total_by sizes m i es') (sizes a u i) (le i) (each_place c.resources then i x.1 lt)))
  where
    at_most : (limit x y z : ℕ) → x ≤ y → not (nat_lt limit (y + z)) ≡ true → not (nat_lt limit (x + z)) ≡ true
    at_most limit x y z le e = grind (arith, nat_tests, le, e)

allowed_less : (c : ClusterRecord) (groups : ℕ → ℕ) (sizes : ℕ → ℕ → ℕ → ℕ) (es es' : Table) (a u : ℕ) → ((i : ℕ) → usage_by groups sizes (groups a) i es ≤ usage_by groups sizes (groups a) i es') → is_allowed_in c groups sizes es' a u ≡ true → is_allowed_in c groups sizes es a u ≡ true
allowed_less c groups sizes es es' a u le h =
    let then : ℕ → Bool = λ i. not (nat_lt (limit_at c (groups a) i) (usage_by groups sizes (groups a) i es' + sizes a u i)) in
    let before : ℕ → Bool = λ i. not (nat_lt (limit_at c (groups a) i) (usage_by groups sizes (groups a) i es + sizes a u i)) in
    let x = both_true (is_narrow c (sizes a u)) (in_each c then) h in
    and_true (is_narrow c (sizes a u)) (in_each c before) x.0 (each_from c.resources before (λ i lt. at_most (limit_at c (groups a) i) (usage_by groups sizes (groups a) i es) (usage_by groups sizes (groups a) i es') (sizes a u i) (le i) (each_place c.resources then i x.1 lt)))
  where
    at_most : (limit x y z : ℕ) → x ≤ y → not (nat_lt limit (y + z)) ≡ true → not (nat_lt limit (x + z)) ≡ true
    at_most limit x y z le e = grind (arith, nat_tests, le, e)

pub levels_le : (x y x' y' : Bool) → (x' ≡ true → x ≡ true) → (y' ≡ true → y ≡ true) → ◌≤◌ (cond x 0 (cond y 1 2)) (cond x' 0 (cond y' 1 2))
levels_le true y x' y' f g = omega arith
levels_le false y true y' f g = let t = f refl in cc
levels_le false true false true f g = omega arith
levels_le false true false false f g = omega arith
levels_le false false false true f g = let t = g refl in cc
levels_le false false false false f g = omega arith

fewer_wanted : (h h' n : ℕ) → h ≤ h' → nat_lt h' n ≡ true → nat_lt h n ≡ true
fewer_wanted h h' n le e = grind (arith, nat_tests, le, e)

module _ (es : Table) (s : Spot) (n : ℕ) (sorted : T (is_sorted spot_cmp es)) where
  abbrev then : Table
  then = set_count spot_cmp es s n

  total_then : (sizes : ℕ → ℕ → ℕ → ℕ) (m i : ℕ) → total_by sizes m i then + cond (nat_eq s.machine m) (count spot_cmp es s * sizes s.job s.unit i) 0 ≡ total_by sizes m i es + cond (nat_eq s.machine m) (n * sizes s.job s.unit i) 0
  total_then sizes m i = sum_set (λ q k. cond (nat_eq q.machine m) (k * sizes q.job q.unit i) 0) (λ q. no_times_either (nat_eq q.machine m) (sizes q.job q.unit i)) s n es sorted

  usage_then : (groups : ℕ → ℕ) (sizes : ℕ → ℕ → ℕ → ℕ) (g i : ℕ) → usage_by groups sizes g i then + cond (nat_eq (groups s.job) g) (count spot_cmp es s * sizes s.job s.unit i) 0 ≡ usage_by groups sizes g i es + cond (nat_eq (groups s.job) g) (n * sizes s.job s.unit i) 0
  usage_then groups sizes g i = sum_set (λ q k. cond (nat_eq (groups q.job) g) (k * sizes q.job q.unit i) 0) (λ q. no_times_either (nat_eq (groups q.job) g) (sizes q.job q.unit i)) s n es sorted

  rack_then : (c : ClusterRecord) (a u r : ℕ) → held_in c then a u r + cond (nat_eq s.job a && (nat_eq s.unit u && nat_eq (rack_of c s.machine) r)) (count spot_cmp es s) 0 ≡ held_in c es a u r + cond (nat_eq s.job a && (nat_eq s.unit u && nat_eq (rack_of c s.machine) r)) n 0
  rack_then c a u r = sum_set (λ q k. cond (nat_eq q.job a && (nat_eq q.unit u && nat_eq (rack_of c q.machine) r)) k 0) (λ q. zero_either (nat_eq q.job a && (nat_eq q.unit u && nat_eq (rack_of c q.machine) r))) s n es sorted

  at_other : (q : Spot) → eq_by_cmp spot_cmp q s ≡ false → count spot_cmp then q ≡ count spot_cmp es q
  at_other q f = count-set_count spot_total es s n q ∙ ap (λ b. cond b n (count spot_cmp es q)) f

  apart : (q : Spot) → (q ≡ s → ⊥) → eq_by_cmp spot_cmp q s ≡ false
  apart q ne = elim (eq_by_cmp spot_cmp q s) as (λ b. eq_by_cmp spot_cmp q s ≡ b → b ≡ false) [
    | true ↦ λ e. absurd (ne (same_spot q s (tied _ e)))
    | false ↦ λ _. refl
  ] refl

  -- the count at another spot, and what another unit holds in a rack or the unit in another rack, stay
  pub count_stays : (q : Spot) → (q ≡ s → ⊥) → count spot_cmp then q ≡ count spot_cmp es q
  count_stays q ne = at_other q (apart q ne)

  pub rack_stays : (c : ClusterRecord) (a u r : ℕ) → (nat_eq s.job a && (nat_eq s.unit u && nat_eq (rack_of c s.machine) r)) ≡ false → held_in c then a u r ≡ held_in c es a u r
  rack_stays c a u r f =
      let e = rack_then c a u r in
      let x = ap (λ b. cond b (count spot_cmp es s) 0) f in
      let y = ap (λ b. cond b n 0) f in
      omega (arith, e, x, y)

  with_more : (b : Bool) (x y k : ℕ) → x * k ≤ y * k → cond b (x * k) 0 ≤ cond b (y * k) 0
  with_more true x y k le = le
  with_more false x y k le = omega arith

  more_in : (b : Bool) (x y : ℕ) → x ≤ y → cond b x 0 ≤ cond b y 0
  more_in true x y le = le
  more_in false x y le = omega arith

  -- ---- a grant
  module _ (more : count spot_cmp es s ≤ n) where
    total_grown : (sizes : ℕ → ℕ → ℕ → ℕ) (m i : ℕ) → total_by sizes m i es ≤ total_by sizes m i then
    total_grown sizes m i =
        let e = total_then sizes m i in
        let w = with_more (nat_eq s.machine m) (count spot_cmp es s) n (sizes s.job s.unit i) (mul-le-mul_right (sizes s.job s.unit i) more) in
        omega (arith, e, w)

    usage_grown : (groups : ℕ → ℕ) (sizes : ℕ → ℕ → ℕ → ℕ) (g i : ℕ) → usage_by groups sizes g i es ≤ usage_by groups sizes g i then
    usage_grown groups sizes g i =
        let e = usage_then groups sizes g i in
        let w = with_more (nat_eq (groups s.job) g) (count spot_cmp es s) n (sizes s.job s.unit i) (mul-le-mul_right (sizes s.job s.unit i) more) in
        omega (arith, e, w)

    rack_grown : (c : ClusterRecord) (a u r : ℕ) → held_in c es a u r ≤ held_in c then a u r
    rack_grown c a u r =
        let e = rack_then c a u r in
        let w = more_in (nat_eq s.job a && (nat_eq s.unit u && nat_eq (rack_of c s.machine) r)) (count spot_cmp es s) n more in
        omega (arith, e, w)

    count_grown : (q : Spot) → count spot_cmp es q ≤ count spot_cmp then q
    count_grown q = subst (λ k. count spot_cmp es q ≤ k) (sym (count-set_count spot_total es s n q)) (elim (eq_by_cmp spot_cmp q s) as (λ b. eq_by_cmp spot_cmp q s ≡ b → count spot_cmp es q ≤ cond b n (count spot_cmp es q)) [
      | true ↦ λ e. subst (λ k. count spot_cmp es k ≤ n) (sym (same_spot q s (tied _ e))) more
      | false ↦ λ _. omega arith
    ] refl)

    pub granted_later : (b : Board) (p : Pair) (m : ℕ) → NoEarlier b b es then p m
    granted_later b p m = record {
      priority = refl;
      group = refl;
      accepts = accepts_less (b.may_use p.0 p.1 m) (nat_lt (held_on es p.0 p.1 m) (b.mosts p.0 p.1)) (b.may_use p.0 p.1 m) (nat_lt (held_on then p.0 p.1 m) (b.mosts p.0 p.1)) (λ u. u)
          (fewer_wanted (held_on es p.0 p.1 m) (held_on then p.0 p.1 m) (b.mosts p.0 p.1) (count_grown (spot p.0 p.1 m)));
      room = room_less b.cluster b.sizes es then p.0 p.1 m (λ i. total_grown b.sizes m i);
      allowed = allowed_less b.cluster b.groups b.sizes es then p.0 p.1 (λ i. usage_grown b.groups b.sizes (b.groups p.0) i);
      level = levels_le (nat_lt (held_on es p.0 p.1 m) (b.asks p.0 (near_key p.1 m))) (nat_lt (held_in b.cluster es p.0 p.1 (rack_of b.cluster m)) (b.asks p.0 (rack_key p.1 (rack_of b.cluster m))))
          (nat_lt (held_on then p.0 p.1 m) (b.asks p.0 (near_key p.1 m))) (nat_lt (held_in b.cluster then p.0 p.1 (rack_of b.cluster m)) (b.asks p.0 (rack_key p.1 (rack_of b.cluster m))))
          (fewer_wanted (held_on es p.0 p.1 m) (held_on then p.0 p.1 m) (b.asks p.0 (near_key p.1 m)) (count_grown (spot p.0 p.1 m)))
          (fewer_wanted (held_in b.cluster es p.0 p.1 (rack_of b.cluster m)) (held_in b.cluster then p.0 p.1 (rack_of b.cluster m)) (b.asks p.0 (rack_key p.1 (rack_of b.cluster m))) (rack_grown b.cluster p.0 p.1 (rack_of b.cluster m)));
    }

  -- ---- a taking, on another machine than its own
  module _ (m : ℕ) (away : nat_eq m s.machine ≡ false) where
    not_here : nat_eq s.machine m ≡ false
    not_here = grind (arith, nat_tests, away)

    total_same : (sizes : ℕ → ℕ → ℕ → ℕ) (i : ℕ) → total_by sizes m i es ≤ total_by sizes m i then
    total_same sizes i =
        let e = total_then sizes m i in
        let x = ap (λ b. cond b (count spot_cmp es s * sizes s.job s.unit i) 0) not_here in
        let y = ap (λ b. cond b (n * sizes s.job s.unit i) 0) not_here in
        omega (arith, e, x, y)

    room_away : (b : Board) (p : Pair) → has_room_in b.cluster b.sizes then p.0 p.1 m ≡ true → has_room_in b.cluster b.sizes es p.0 p.1 m ≡ true
    room_away b p = room_less b.cluster b.sizes es then p.0 p.1 m (λ i. total_same b.sizes i)

    held_away : (a u : ℕ) → held_on then a u m ≡ held_on es a u m
    held_away a u = at_other (spot a u m) (apart (spot a u m) (λ e. let x = ap (λ (q : Spot). q.machine) e in let f : false ≡ true = sym away ∙ grind (arith, nat_tests, x) in cc))

    accepts_away : (b : Board) (p : Pair) → accepts_in b then p.0 p.1 m ≡ true → accepts_in b es p.0 p.1 m ≡ true
    accepts_away b p u = sym (ap (λ k. b.may_use p.0 p.1 m && nat_lt k (b.mosts p.0 p.1)) (held_away p.0 p.1)) ∙ u

    -- another unit has in its rack what it had, and one of another group may have what it might
    rack_other : (c : ClusterRecord) (a u r : ℕ) → (nat_eq s.job a && nat_eq s.unit u) ≡ false → held_in c then a u r ≡ held_in c es a u r
    rack_other c a u r f =
        let e = rack_then c a u r in
        let x = ap (λ b. cond b (count spot_cmp es s) 0) (three (nat_eq s.job a) (nat_eq s.unit u) (nat_eq (rack_of c s.machine) r) f) in
        let y = ap (λ b. cond b n 0) (three (nat_eq s.job a) (nat_eq s.unit u) (nat_eq (rack_of c s.machine) r) f) in
        omega (arith, e, x, y)
      where
        three : (x y z : Bool) → (x && y) ≡ false → (x && (y && z)) ≡ false
        three true true z e = cc
        three true false z e = refl
        three false y z e = refl

    rack_apart : (c : ClusterRecord) (a u r : ℕ) → nat_eq (rack_of c s.machine) r ≡ false → held_in c then a u r ≡ held_in c es a u r
    rack_apart c a u r f =
        let e = rack_then c a u r in
        let x = ap (λ b. cond b (count spot_cmp es s) 0) (three (nat_eq s.job a) (nat_eq s.unit u) (nat_eq (rack_of c s.machine) r) f) in
        let y = ap (λ b. cond b n 0) (three (nat_eq s.job a) (nat_eq s.unit u) (nat_eq (rack_of c s.machine) r) f) in
        omega (arith, e, x, y)
      where
        three : (x y z : Bool) → z ≡ false → (x && (y && z)) ≡ false
        three true true z e = e
        three true false z e = refl
        three false y z e = refl

    usage_other : (groups : ℕ → ℕ) (sizes : ℕ → ℕ → ℕ → ℕ) (g i : ℕ) → nat_eq (groups s.job) g ≡ false → usage_by groups sizes g i es ≤ usage_by groups sizes g i then
    usage_other groups sizes g i f =
        let e = usage_then groups sizes g i in
        let x = ap (λ b. cond b (count spot_cmp es s * sizes s.job s.unit i) 0) f in
        let y = ap (λ b. cond b (n * sizes s.job s.unit i) 0) f in
        omega (arith, e, x, y)

    level_same : (b : Board) (p : Pair) → held_in b.cluster then p.0 p.1 (rack_of b.cluster m) ≡ held_in b.cluster es p.0 p.1 (rack_of b.cluster m) → level_of b.cluster b.asks es p.0 p.1 m ≤ level_of b.cluster b.asks then p.0 p.1 m
    level_same b p e = levels_le (nat_lt (held_on es p.0 p.1 m) (b.asks p.0 (near_key p.1 m))) (nat_lt (held_in b.cluster es p.0 p.1 (rack_of b.cluster m)) (b.asks p.0 (rack_key p.1 (rack_of b.cluster m))))
        (nat_lt (held_on then p.0 p.1 m) (b.asks p.0 (near_key p.1 m))) (nat_lt (held_in b.cluster then p.0 p.1 (rack_of b.cluster m)) (b.asks p.0 (rack_key p.1 (rack_of b.cluster m))))
        (λ t. sym (ap (λ k. nat_lt k (b.asks p.0 (near_key p.1 m))) (held_away p.0 p.1)) ∙ t)
        (λ t. sym (ap (λ k. nat_lt k (b.asks p.0 (rack_key p.1 (rack_of b.cluster m)))) e) ∙ t)

    -- the unit itself, where it wants no more in the rack than it has now
    level_far : (b : Board) (p : Pair) → nat_lt (held_in b.cluster then p.0 p.1 (rack_of b.cluster m)) (b.asks p.0 (rack_key p.1 (rack_of b.cluster m))) ≡ false → level_of b.cluster b.asks es p.0 p.1 m ≤ level_of b.cluster b.asks then p.0 p.1 m
    level_far b p f = levels_le (nat_lt (held_on es p.0 p.1 m) (b.asks p.0 (near_key p.1 m))) (nat_lt (held_in b.cluster es p.0 p.1 (rack_of b.cluster m)) (b.asks p.0 (rack_key p.1 (rack_of b.cluster m))))
        (nat_lt (held_on then p.0 p.1 m) (b.asks p.0 (near_key p.1 m))) (nat_lt (held_in b.cluster then p.0 p.1 (rack_of b.cluster m)) (b.asks p.0 (rack_key p.1 (rack_of b.cluster m))))
        (λ t. sym (ap (λ k. nat_lt k (b.asks p.0 (near_key p.1 m))) (held_away p.0 p.1)) ∙ t)
        (λ t. let no : false ≡ true = sym f ∙ t in cc)

    other_later : (b : Board) (p : Pair) → nat_eq (b.groups s.job) (b.groups p.0) ≡ false → NoEarlier b b es then p m
    other_later b p f = record {
      priority = refl;
      group = refl;
      accepts = accepts_away b p;
      room = room_away b p;
      allowed = allowed_less b.cluster b.groups b.sizes es then p.0 p.1 (λ i. usage_other b.groups b.sizes (b.groups p.0) i f);
      level = level_same b p (rack_other b.cluster p.0 p.1 (rack_of b.cluster m) (elim (nat_eq s.job p.0) as (λ t. nat_eq s.job p.0 ≡ t → (t && nat_eq s.unit p.1) ≡ false) [
        | true ↦ λ t. let no : false ≡ true = sym f ∙ subst (λ z. nat_eq (b.groups s.job) (b.groups z) ≡ true) (number_is s.job p.0 t) (nat_itself (b.groups s.job)) in cc
        | false ↦ λ _. refl
      ] refl));
    }

    -- a pair of the unit's group, on a machine that does not note the group
    same_group : (b : Board) (p : Pair) (bound : Option (List ℕ)) (groups : List Bool) (turn : ℕ) → get_or groups (b.groups p.0) false ≡ false
        → ((nat_eq s.job p.0 && nat_eq s.unit p.1) ≡ true → nat_eq (rack_of b.cluster m) (rack_of b.cluster s.machine) ≡ true → nat_lt (held_in b.cluster then p.0 p.1 (rack_of b.cluster m)) (b.asks p.0 (rack_key p.1 (rack_of b.cluster m))) ≡ false)
        → IsBounded b es bound groups turn p m → IsBounded b then bound groups turn p m
    same_group b p bound groups turn g far h = bounded_apart b b es then p m bound groups turn refl (accepts_away b p) (room_away b p) level g h
      where
        level : level_of b.cluster b.asks es p.0 p.1 m ≤ level_of b.cluster b.asks then p.0 p.1 m
        level = elim (nat_eq s.job p.0 && nat_eq s.unit p.1) as (λ t. (nat_eq s.job p.0 && nat_eq s.unit p.1) ≡ t → level_of b.cluster b.asks es p.0 p.1 m ≤ level_of b.cluster b.asks then p.0 p.1 m) [
          | true ↦ λ t. elim (nat_eq (rack_of b.cluster m) (rack_of b.cluster s.machine)) as (λ r. nat_eq (rack_of b.cluster m) (rack_of b.cluster s.machine) ≡ r → level_of b.cluster b.asks es p.0 p.1 m ≤ level_of b.cluster b.asks then p.0 p.1 m) [
            | true ↦ λ r. level_far b p (far t r)
            | false ↦ λ r. let f : nat_eq (rack_of b.cluster s.machine) (rack_of b.cluster m) ≡ false = grind (arith, nat_tests, r) in level_same b p (rack_apart b.cluster p.0 p.1 (rack_of b.cluster m) f)
          ] refl
          | false ↦ λ f. level_same b p (rack_other b.cluster p.0 p.1 (rack_of b.cluster m) f)
        ] refl

  -- what a mark says after a taking
  abbrev is_nearer : Board → Bool
  is_nearer b = is_nearer_in b then s

  pub taken_bounds : (b : Board) (p : Pair) (m : ℕ) (k : MarkRecord) (turn : ℕ) → IsBounded b es k.bound k.groups turn p m
      → IsBounded b then (after_taking b.cluster (b.groups s.job) s.machine (is_nearer b) m k).bound (after_taking b.cluster (b.groups s.job) s.machine (is_nearer b) m k).groups turn p m
  taken_bounds b p m k turn h = elim (nat_eq m s.machine) as (λ x. nat_eq m s.machine ≡ x → Says x (get_or k.groups (b.groups s.job) false) (is_nearer b && nat_eq (rack_of b.cluster m) (rack_of b.cluster s.machine))) [
    | true ↦ λ _. reset_bounds b then (reset_mark k.until).groups turn p m
    | false ↦ λ away. elim (get_or k.groups (b.groups s.job) false) as (λ x. get_or k.groups (b.groups s.job) false ≡ x → Says false x (is_nearer b && nat_eq (rack_of b.cluster m) (rack_of b.cluster s.machine))) [
      | true ↦ λ _. reset_bounds b then (reset_mark k.until).groups turn p m
      | false ↦ λ clear. elim (is_nearer b && nat_eq (rack_of b.cluster m) (rack_of b.cluster s.machine)) as (λ x. (is_nearer b && nat_eq (rack_of b.cluster m) (rack_of b.cluster s.machine)) ≡ x → Says false false x) [
        | true ↦ λ _. low away clear
        | false ↦ λ far. elim (nat_eq (b.groups s.job) (b.groups p.0)) as (λ x. nat_eq (b.groups s.job) (b.groups p.0) ≡ x → IsBounded b then k.bound k.groups turn p m) [
          | true ↦ λ same. same_group m away b p k.bound k.groups turn (sym (ap (λ g. get_or k.groups g false) (number_is (b.groups s.job) (b.groups p.0) same)) ∙ clear) (λ it r. is_far it r far) h
          | false ↦ λ f. bounded_later b b es then p m (other_later m away b p f) k.bound k.groups turn h
        ] refl
      ] refl
    ] refl
  ] refl
    where
      Says : Bool → Bool → Bool → Type 0
      Says x y z = IsBounded b then (cond x (reset_mark k.until) (cond y (reset_mark k.until) (cond z (lowered_mark k) k))).bound (cond x (reset_mark k.until) (cond y (reset_mark k.until) (cond z (lowered_mark k) k))).groups turn p m

      more : (bound : Option (List ℕ)) → IsBounded b then bound k.groups turn p m → IsBounded b then (lowered bound) k.groups turn p m
      more None h = h
      more (Some x) h = reset_bounds b then k.groups turn p m

      low : nat_eq m s.machine ≡ false → get_or k.groups (b.groups s.job) false ≡ false → IsBounded b then (lowered k.bound) k.groups turn p m
      low away clear = elim (nat_eq (b.groups s.job) (b.groups p.0)) as (λ x. nat_eq (b.groups s.job) (b.groups p.0) ≡ x → IsBounded b then (lowered k.bound) k.groups turn p m) [
        | true ↦ λ same. lowered_bounds b b es then p m k.bound k.groups turn (accepts_away m away b p) (room_away m away b p) (sym (ap (λ g. get_or k.groups g false) (number_is (b.groups s.job) (b.groups p.0) same)) ∙ clear) h
        | false ↦ λ f. more k.bound (bounded_later b b es then p m (other_later m away b p f) k.bound k.groups turn h)
      ] refl

      first_false : (x y : Bool) → y ≡ true → (x && y) ≡ false → x ≡ false
      first_false true true e f = f
      first_false true false e f = cc
      first_false false y e f = refl

      is_far : (nat_eq s.job p.0 && nat_eq s.unit p.1) ≡ true → nat_eq (rack_of b.cluster m) (rack_of b.cluster s.machine) ≡ true → (is_nearer b && nat_eq (rack_of b.cluster m) (rack_of b.cluster s.machine)) ≡ false
          → nat_lt (held_in b.cluster then p.0 p.1 (rack_of b.cluster m)) (b.asks p.0 (rack_key p.1 (rack_of b.cluster m))) ≡ false
      is_far it r far =
          let e = both_true (nat_eq s.job p.0) (nat_eq s.unit p.1) it in
          let x = number_is s.job p.0 e.0 in
          let y = number_is s.unit p.1 e.1 in
          let z = number_is (rack_of b.cluster m) (rack_of b.cluster s.machine) r in
          (λ i. nat_lt (held_in b.cluster then (sym x i) (sym y i) (z i)) (b.asks (sym x i) (rack_key (sym y i) (z i)))) ∙ first_false (is_nearer b) _ r far

  -- the same of a unit that begins to wait later, for which no group counts
  pub taken_later : (b : Board) (p : Pair) (m : ℕ) (k : MarkRecord) (turn : ℕ) → IsBounded b es k.bound no_groups turn p m → IsBounded b then (after_taking b.cluster (b.groups s.job) s.machine (is_nearer b) m k).bound no_groups turn p m
  taken_later b p m k turn h =
      by (nat_eq m s.machine) (get_or k.groups (b.groups s.job) false) (get_or no_groups (b.groups s.job) false) (is_nearer b && nat_eq (rack_of b.cluster m) (rack_of b.cluster s.machine)) (none_noted (b.groups s.job)) (taken_bounds b p m clear turn h)
    where
      clear : MarkRecord
      clear = record k { groups = no_groups }

      After : Bool → Bool → Bool → MarkRecord → MarkRecord
      After x y z c = cond x (reset_mark c.until) (cond y (reset_mark c.until) (cond z (lowered_mark c) c))

      by : (x y y' z : Bool) → y' ≡ false → IsBounded b then (After x y' z clear).bound (After x y' z clear).groups turn p m → IsBounded b then (After x y z k).bound no_groups turn p m
      by true y y' z e h = reset_bounds b then no_groups turn p m
      by false true y' z e h = reset_bounds b then no_groups turn p m
      by false false true z e h = cc
      by false false false true e h = h
      by false false false false e h = h
