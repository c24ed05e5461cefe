-- The computed numbers are those that the walks take and keep.
use Rattle.std.proofs.Common.{◌≡◌, ℕ, ◌+◌, ◌*◌, ◌<◌, ◌≤◌, Bool, true, false, cond, not, nat_eq, nat_lt, List, [], ◌++◌, refl, sym, ◌∙◌, ap, subst, arith}
use Rattle.std.specs.Prelude.{◌&&◌}
use Rattle.std.proofs.lemmas.List.{append-nil}
use Rattle.std.proofs.lemmas.Bool.Decides.{nat_tests}
use Rattle.fuxi_terms.specs.Keys.{Spot}
use Rattle.fuxi_terms.specs.Cluster.{has_at, limit_at, quota_at, is_narrow}
use Rattle.fuxi_terms.specs.Tables.{total_by, usage_by, Table}
use Rattle.fuxi_terms.proofs.Members.{each_from}
use Rattle.fuxi_terms.proofs.Booleans.{and_false, and_true}
use Rattle.spec_roles.specs.Placing.{Board}
use Rattle.spec_roles.specs.Preemption.{so_many, set_by, part_by, is_enough_in, is_guaranteed_in, is_spared_in, may_take_in}
use Rattle.preempt.specs.Counted.{times_to_reach, least_of, own_size, enough_at, enough_times, spared_at, may_times, taken_count}
use Rattle.preempt.proofs.Runs.{is_open, IsTake}
use Rattle.preempt.proofs.RunsLeft.{IsKeep}
use Rattle.preempt.proofs.Numbers.{at_least, too_small, each_false, reach_most, reached, not_reached, within, not_within, greatest_most, greatest_at, Reaches, greatest_some, least_most, least_at, least_some, times_le}
use Rattle.preempt.proofs.Sums.{set_run, part_run, enough_by, narrow_enough, not_fit, not_allowed}

module _ (B : Board) (table : Table) (t : Spot) where
  at_most : (set : List Spot) (s : Spot) (most i : ℕ) → enough_at B table t set s most i ≤ most
  at_most set s most i =
      let g = B.groups t.job in
      let x = reach_most (has_at B.cluster t.machine i + set_by B.sizes i set) (total_by B.sizes t.machine i table + B.sizes t.job t.unit i) (B.sizes s.job s.unit i) most in
      let y = reach_most (limit_at B.cluster g i + part_by B.groups B.sizes g i set) (usage_by B.groups B.sizes g i table + B.sizes t.job t.unit i) (own_size B g s i) most in
      omega (arith, x, y)

  pub enough_most : (set : List Spot) (s : Spot) (most : ℕ) → enough_times B table t set s most ≤ most
  enough_most set s most = greatest_most B.cluster.resources (enough_at B table t set s most) most (λ i _. at_most set s most i)

  -- from so many on the set is enough, where that is below the most
  pub enough_from : (a b : List Spot) (s : Spot) (most j : ℕ) → is_narrow B.cluster (B.sizes t.job t.unit) ≡ true → enough_times B table t (a ++ b) s most ≤ j → enough_times B table t (a ++ b) s most < most → is_enough_in B table t (a ++ (so_many j s ++ b)) ≡ true
  enough_from a b s most j narrow le lt = enough_by B table t (a ++ (so_many j s ++ b)) narrow (record {
    fits = λ i i_lt.
        let set = a ++ b in
        let have = has_at B.cluster t.machine i + set_by B.sizes i set in
        let want = total_by B.sizes t.machine i table + B.sizes t.job t.unit i in
        let size = B.sizes s.job s.unit i in
        let n = times_to_reach have want size most in
        let at = greatest_at B.cluster.resources (enough_at B table t set s most) i i_lt in
        let here : n ≤ enough_at B table t set s most i = omega arith in
        let r = reached have want size most (omega (arith, at, here, lt)) in
        let m = times_le n j size (omega (arith, at, here, le)) in
        let e = set_run B i j s a b in
        omega (arith, r, m, e);
    allowed = λ i i_lt.
        let set = a ++ b in
        let g = B.groups t.job in
        let have = limit_at B.cluster g i + part_by B.groups B.sizes g i set in
        let want = usage_by B.groups B.sizes g i table + B.sizes t.job t.unit i in
        let size = own_size B g s i in
        let n = times_to_reach have want size most in
        let at = greatest_at B.cluster.resources (enough_at B table t set s most) i i_lt in
        let here : n ≤ enough_at B table t set s most i = omega arith in
        let r = reached have want size most (omega (arith, at, here, lt)) in
        let m = times_le n j size (omega (arith, at, here, le)) in
        let e = part_run B g i j s a b in
        omega (arith, r, m, e);
  })

  -- and with fewer it is not
  pub not_enough_below : (a b : List Spot) (s : Spot) (most j : ℕ) → j < enough_times B table t (a ++ b) s most → is_enough_in B table t (a ++ (so_many j s ++ b)) ≡ false
  not_enough_below a b s most j lt = by (nat_lt j n) refl
    where
      r : Reaches B.cluster.resources (enough_at B table t (a ++ b) s most) j
      r = greatest_some B.cluster.resources (enough_at B table t (a ++ b) s most) j lt

      i : ℕ
      i = r.place

      n : ℕ
      n = times_to_reach (has_at B.cluster t.machine i + set_by B.sizes i (a ++ b)) (total_by B.sizes t.machine i table + B.sizes t.job t.unit i) (B.sizes s.job s.unit i) most

      l : ℕ
      l = times_to_reach (limit_at B.cluster (B.groups t.job) i + part_by B.groups B.sizes (B.groups t.job) i (a ++ b)) (usage_by B.groups B.sizes (B.groups t.job) i table + B.sizes t.job t.unit i) (own_size B (B.groups t.job) s i) most

      by : (d : Bool) → nat_lt j n ≡ d → is_enough_in B table t (a ++ (so_many j s ++ b)) ≡ false
      by true e =
          let less : j < n = grind (arith, nat_tests) in
          let x = not_reached (has_at B.cluster t.machine i + set_by B.sizes i (a ++ b)) (total_by B.sizes t.machine i table + B.sizes t.job t.unit i) (B.sizes s.job s.unit i) most j less in
          let e = set_run B i j s a b in
          not_fit B table t (a ++ (so_many j s ++ b)) i r.inside (omega (arith, x, e))
      by false e =
          let le : n ≤ j = grind (arith, nat_tests) in
          let m = r.more in
          let less : j < l = omega (arith, le, m) in
          let g = B.groups t.job in
          let x = not_reached (limit_at B.cluster g i + part_by B.groups B.sizes g i (a ++ b)) (usage_by B.groups B.sizes g i table + B.sizes t.job t.unit i) (own_size B g s i) most j less in
          let e = part_run B g i j s a b in
          not_allowed B table t (a ++ (so_many j s ++ b)) i r.inside (omega (arith, x, e))

  -- Kept
  pub keep_is : (before after : List Spot) (s : Spot) (n : ℕ) → is_enough_in B table t (before ++ (so_many n s ++ after)) ≡ true → IsKeep B table t before after s n (enough_times B table t (before ++ after) s n)
  keep_is before after s n whole = record {
    most = enough_most (before ++ after) s n;
    rest = λ j le lt. enough_from before after s n j (narrow_enough B table t (before ++ (so_many n s ++ after)) whole) le (omega (arith, le, lt));
    stops = λ j e. not_enough_below before after s n j (omega (arith, e));
  }

  -- Taken
  set_some : (gr i j : ℕ) (s : Spot) (set : List Spot) → B.groups s.job ≡ gr → part_by B.groups B.sizes gr i (set ++ so_many j s) ≡ part_by B.groups B.sizes gr i set + j * B.sizes s.job s.unit i
  set_some gr i j s set e =
      let same : nat_eq (B.groups s.job) gr ≡ true = grind (arith, nat_tests) in
      let own : own_size B gr s i ≡ B.sizes s.job s.unit i = ap (λ d. cond d (B.sizes s.job s.unit i) 0) same in
      let p = part_run B gr i j s set [] in
      let p' : part_by B.groups B.sizes gr i (set ++ so_many j s) ≡ part_by B.groups B.sizes gr i set + j * own_size B gr s i = subst (λ x. part_by B.groups B.sizes gr i (set ++ x) ≡ part_by B.groups B.sizes gr i set + j * own_size B gr s i) (append-nil (so_many j s)) (subst (λ y. part_by B.groups B.sizes gr i (set ++ (so_many j s ++ [])) ≡ part_by B.groups B.sizes gr i y + j * own_size B gr s i) (append-nil set) p) in
      p' ∙ ap (λ k. part_by B.groups B.sizes gr i set + j * k) own

  abbrev pub spare_test : List Spot → Spot → ℕ → Bool
  spare_test set s i = not (nat_lt (usage_by B.groups B.sizes (B.groups s.job) i table) (quota_at B.cluster (B.groups s.job) i + part_by B.groups B.sizes (B.groups s.job) i set + B.sizes s.job s.unit i))

  pub spared_below : (set : List Spot) (s : Spot) (k j : ℕ) → j < least_of k B.cluster.resources (spared_at B table set s k) → is_spared_in B table (set ++ so_many j s) s ≡ true
  spared_below set s k j lt = each_from B.cluster.resources (spare_test (set ++ so_many j s) s) (λ i i_lt.
      let gr = B.groups s.job in
      let size = B.sizes s.job s.unit i in
      let base = quota_at B.cluster gr i + part_by B.groups B.sizes gr i set in
      let at = least_at k B.cluster.resources (spared_at B table set s k) i i_lt in
      let x = within base (usage_by B.groups B.sizes gr i table) size k j (omega (arith, at, lt)) in
      let p = set_some gr i j s set refl in
      at_least _ _ (omega (arith, x, p)))

  not_spared_at : (set : List Spot) (s : Spot) (k : ℕ) → least_of k B.cluster.resources (spared_at B table set s k) < k → is_spared_in B table (set ++ so_many (least_of k B.cluster.resources (spared_at B table set s k)) s) s ≡ false
  not_spared_at set s k lt =
      let f = least_some k B.cluster.resources (spared_at B table set s k) lt in
      let i = f.place in
      let gr = B.groups s.job in
      let size = B.sizes s.job s.unit i in
      let base = quota_at B.cluster gr i + part_by B.groups B.sizes gr i set in
      let e = f.same in
      let x = not_within base (usage_by B.groups B.sizes gr i table) size k (omega (arith, e, lt)) in
      let y : usage_by B.groups B.sizes gr i table < base + least_of k B.cluster.resources (spared_at B table set s k) * size + size = subst (λ n. usage_by B.groups B.sizes gr i table < base + n * size + size) (sym e) x in
      let p = set_some gr i (least_of k B.cluster.resources (spared_at B table set s k)) s set refl in
      each_false B.cluster.resources (spare_test (set ++ so_many (least_of k B.cluster.resources (spared_at B table set s k)) s) s) i f.inside (too_small _ _ (omega (arith, y, p)))

  -- so many may be taken
  pub record IsMay (set : List Spot) (s : Spot) (k q : ℕ) : Type 0 where
    pub most : q ≤ k
    pub below : (j : ℕ) → j < q → may_take_in B table t (set ++ so_many j s) s ≡ true
    pub stops : q < k → may_take_in B table t (set ++ so_many q s) s ≡ false

  pub may_is : (set : List Spot) (s : Spot) (k : ℕ) → IsMay set s k (may_times B table t set s k)
  may_is set s k = by (nat_eq (B.groups s.job) (B.groups t.job)) refl (nat_lt (B.priorities s.job s.unit) (B.priorities t.job t.unit)) refl (is_guaranteed_in B table t) refl
    where
      least : ℕ
      least = least_of k B.cluster.resources (spared_at B table set s k)

      made : (x : List Spot) (a b d : Bool) → nat_eq (B.groups s.job) (B.groups t.job) ≡ a → nat_lt (B.priorities s.job s.unit) (B.priorities t.job t.unit) ≡ b → is_guaranteed_in B table t ≡ d → may_take_in B table t x s ≡ cond a b (is_spared_in B table x s && d)
      made x a b d ea eb ed = λ i. cond (ea i) (eb i) (is_spared_in B table x s && ed i)

      at : (q q' : ℕ) → q ≡ q' → IsMay set s k q' → IsMay set s k q
      at q q' e h = subst (λ n. IsMay set s k n) (sym e) h

      by : (a : Bool) → nat_eq (B.groups s.job) (B.groups t.job) ≡ a → (b : Bool) → nat_lt (B.priorities s.job s.unit) (B.priorities t.job t.unit) ≡ b → (d : Bool) → is_guaranteed_in B table t ≡ d → IsMay set s k (may_times B table t set s k)
      by true ea true eb d ed = at _ k (λ i. cond (ea i) (cond (eb i) k 0) (cond (is_guaranteed_in B table t) least 0)) (record {
        most = omega arith;
        below = λ j lt. made (set ++ so_many j s) true true d ea eb ed;
        stops = λ lt. absurd (omega (arith, lt));
      })
      by true ea false eb d ed = at _ 0 (λ i. cond (ea i) (cond (eb i) k 0) (cond (is_guaranteed_in B table t) least 0)) (record {
        most = omega arith;
        below = λ j lt. absurd (omega (arith, lt));
        stops = λ lt. made (set ++ so_many 0 s) true false d ea eb ed;
      })
      by false ea b eb true ed = at _ least (λ i. cond (ea i) (cond (eb i) k 0) (cond (ed i) least 0)) (record {
        most = least_most k B.cluster.resources (spared_at B table set s k);
        below = λ j lt. made (set ++ so_many j s) false b true ea eb ed ∙ and_true (is_spared_in B table (set ++ so_many j s) s) true (spared_below set s k j lt) refl;
        stops = λ lt. made (set ++ so_many least s) false b true ea eb ed ∙ ap (λ x. x && true) (not_spared_at set s k lt);
      })
      by false ea b eb false ed = at _ 0 (λ i. cond (ea i) (cond (eb i) k 0) (cond (ed i) least 0)) (record {
        most = omega arith;
        below = λ j lt. absurd (omega (arith, lt));
        stops = λ lt. made (set ++ so_many 0 s) false b false ea eb ed ∙ and_false (is_spared_in B table (set ++ so_many 0 s) s);
      })

  -- Taken
  pub take_is : is_narrow B.cluster (B.sizes t.job t.unit) ≡ true → (set : List Spot) (s : Spot) (k : ℕ) → IsTake B table t set s k (taken_count B table t set s k)
  take_is narrow set s k = record {
    most = let x = m.most in let y = enough_most set s q in omega (arith, x, y);
    takes = λ j lt. let y = enough_most set s q in opens (set ++ so_many j s) (bare j (not_enough_below set [] s q j (subst (λ x. j < enough_times B table t x s q) (sym (append-nil set)) lt))) (m.below j (omega (arith, lt, y)));
    stops = λ lt. by (nat_lt r q) refl lt;
  }
    where
      q : ℕ
      q = may_times B table t set s k

      r : ℕ
      r = enough_times B table t set s q

      m : IsMay set s k q
      m = may_is set s k

      bare : {v : Bool} (j : ℕ) → is_enough_in B table t (set ++ (so_many j s ++ [])) ≡ v → is_enough_in B table t (set ++ so_many j s) ≡ v
      bare {v = v} j h = subst (λ x. is_enough_in B table t (set ++ x) ≡ v) (append-nil (so_many j s)) h

      opens : (x : List Spot) → is_enough_in B table t x ≡ false → may_take_in B table t x s ≡ true → is_open B table t x s ≡ true
      opens x e f = λ i. not (e i) && f i

      by : (b : Bool) → nat_lt r q ≡ b → r < k → is_open B table t (set ++ so_many r s) s ≡ false
      by true e lt =
          let less : r < q = grind (arith, nat_tests) in
          let same : enough_times B table t (set ++ []) s q ≡ r = ap (λ x. enough_times B table t x s q) (append-nil set) in
          let enough = bare r (enough_from set [] s q r narrow (omega (arith, same)) (omega (arith, same, less))) in
          ap (λ x. not x && may_take_in B table t (set ++ so_many r s) s) enough
      by false e lt =
          let le : q ≤ r = grind (arith, nat_tests) in
          let most = enough_most set s q in
          let same : r ≡ q = omega (arith, le, most) in
          let no : may_take_in B table t (set ++ so_many r s) s ≡ false = subst (λ n. may_take_in B table t (set ++ so_many n s) s ≡ false) (sym same) (m.stops (omega (arith, same, lt))) in
          ap (λ x. not (is_enough_in B table t (set ++ so_many r s)) && x) no ∙ and_false (not (is_enough_in B table t (set ++ so_many r s)))
