-- What taking victims unit by unit leaves.
use Rattle.std.proofs.Common.{◌≡◌, ℕ, zero, suc, ◌+◌, ◌-◌, ◌*◌, ◌<◌, ◌≤◌, Bool, true, false, cond, nat_eq, nat_lt, List, [], ◌∷◌, ◌++◌, length, refl, sym, ◌∙◌, ap, arith, inl, inr}
use Rattle.std.specs.Prelude.{◌&&◌, ◌||◌}
use Rattle.std.specs.List.{AllByRecursion, IsDistinct}
use Rattle.std.specs.Ordering.{eq_by_cmp, is_eq}
use Rattle.std.specs.Cmp.{tied_itself}
use Rattle.std.proofs.lemmas.Bool.{cases_lt}
use Rattle.std.proofs.lemmas.Bool.Decides.{nat_tests}
use Rattle.std.proofs.lemmas.List.Sums.{sum_by-append}
use Rattle.std.proofs.Math.ListN.{get_or-eq_default}
use Rattle.fuxi_terms.specs.Cluster.{has_at}
use Rattle.fuxi_terms.specs.Counts.{count, set_count, AreCounts}
use Rattle.fuxi_terms.specs.Jobs.{KnownJob, size_at, unit_of}
use Rattle.fuxi_terms.specs.Keys.{Spot, spot_cmp}
use Rattle.fuxi_terms.specs.Limits.{greatest_count}
use Rattle.fuxi_terms.specs.Tables.{spot, held_on, total_at, without_grants, Table}
use Rattle.fuxi_terms.proofs.Alls.{all_more}
use Rattle.fuxi_terms.proofs.Booleans.{both_true, and_true, number_is, nat_itself, or_true}
use Rattle.fuxi_terms.proofs.ByPlace.{at_place-get_or}
use Rattle.fuxi_terms.proofs.CountsLemmas.{tied, count-set_count, counts-set_count, same_counts, set_twice, count_le}
use Rattle.fuxi_terms.proofs.KeyOrders.{spot_total, same_spot}
use Rattle.fuxi_terms.proofs.Members.{each_place}
use Rattle.fuxi_terms.proofs.Sums.{sum_set}
use Rattle.spec_roles.specs.Preemption.{so_many, set_by, is_enough_in}
use Rattle.grant_table.specs.GrantTables.{TableRecord, IsSound, as_known, without_count}
use Rattle.preempt.specs.declared.plan.Victim.{Victim}
use Rattle.preempt.specs.Given.{board_of}
use Rattle.preempt.specs.Plans.{losers_of, without_victims, is_unit, same_unit, IsTakable, AreTakable}
use Rattle.preempt.proofs.Sums.{sum_many, by_enough, narrow_enough}
use Rattle.preempt.proofs.Admitted.{size_short}

-- counts of a table, whatever its greatest number is
abbrev AreNumbers : Table → Type 0
AreNumbers es = AreCounts spot_cmp (λ s. greatest_count) es

fewer_counts : (es : Table) (s : Spot) (k : ℕ) → AreNumbers es → AreNumbers (without_count es s k)
fewer_counts es s k h = let le = count_le spot_total same_spot (λ s. greatest_count) es s h.within in counts-set_count spot_total (λ s. greatest_count) same_spot es s (count spot_cmp es s - k) (omega (arith, le)) h

-- another unit keeps its numbers
other_spot : (s x : Spot) → (nat_eq x.job s.job && nat_eq x.unit s.unit) ≡ false → eq_by_cmp spot_cmp s x ≡ false
other_spot s x f = by (eq_by_cmp spot_cmp s x) refl
  where
    by : (b : Bool) → eq_by_cmp spot_cmp s x ≡ b → eq_by_cmp spot_cmp s x ≡ false
    by false e = e
    by true e =
        let same : s ≡ x = same_spot s x (tied _ e) in
        let a : nat_eq x.job s.job ≡ true = ap (λ (y : Spot). nat_eq x.job y.job) same ∙ nat_itself x.job in
        let b : nat_eq x.unit s.unit ≡ true = ap (λ (y : Spot). nat_eq x.unit y.unit) same ∙ nat_itself x.unit in
        let t : (nat_eq x.job s.job && nat_eq x.unit s.unit) ≡ true = and_true (nat_eq x.job s.job) (nat_eq x.unit s.unit) a b in
        absurd (let y : ⊥ = cc in y)

kept_one : (es : Table) (m n a u : ℕ) (v : Victim) → is_unit a u v ≡ false → held_on (without_count es (spot v.app.0 v.unit.0 m) v.count) a u n ≡ held_on es a u n
kept_one es m n a u v f =
    let x = spot v.app.0 v.unit.0 m in
    count-set_count spot_total es x (count spot_cmp es x - v.count) (spot a u n) ∙ ap (λ b. cond b (count spot_cmp es x - v.count) (count spot_cmp es (spot a u n))) (other_spot (spot a u n) x f)

pub kept_others : (vs : List Victim) (es : Table) (m n a u : ℕ) → AllByRecursion (λ v. is_unit a u v ≡ false) vs → held_on (without_victims es m vs) a u n ≡ held_on es a u n
kept_others [] es m n a u h = refl
kept_others (v ∷ vs) es m n a u h = kept_others vs (without_count es (spot v.app.0 v.unit.0 m) v.count) m n a u h.1 ∙ kept_one es m n a u v h.0

-- ---- one by one
set_same : (es : Table) (s : Spot) → AreNumbers es → set_count spot_cmp es s (count spot_cmp es s) ≡ es
set_same es s h =
    let le = count_le spot_total same_spot (λ s. greatest_count) es s h.within in
    same_counts spot_total same_spot (λ s. greatest_count) (set_count spot_cmp es s (count spot_cmp es s)) es (counts-set_count spot_total (λ s. greatest_count) same_spot es s (count spot_cmp es s) le h) h
    (λ q. count-set_count spot_total es s (count spot_cmp es s) q ∙ by q (eq_by_cmp spot_cmp q s) refl)
  where
    by : (q : Spot) (b : Bool) → eq_by_cmp spot_cmp q s ≡ b → cond b (count spot_cmp es s) (count spot_cmp es q) ≡ count spot_cmp es q
    by q true e = ap (count spot_cmp es) (sym (same_spot q s (tied _ e)))
    by q false e = refl

run_without : (n : ℕ) (es : Table) (s : Spot) (ss : List Spot) → AreNumbers es → without_grants es (so_many n s ++ ss) ≡ without_grants (without_count es s n) ss
run_without zero es s ss h = ap (λ fs. without_grants fs ss) (sym (set_same es s h) ∙ ap (set_count spot_cmp es s) (let e : count spot_cmp es s ≡ count spot_cmp es s - 0 = omega arith in e))
run_without (suc n) es s ss h =
    let one = set_count spot_cmp es s (count spot_cmp es s - 1) in
    let le = count_le spot_total same_spot (λ s. greatest_count) es s h.within in
    let itself : eq_by_cmp spot_cmp s s ≡ true = ap is_eq (tied_itself spot_total s) in
    let now : count spot_cmp one s ≡ count spot_cmp es s - 1 = count-set_count spot_total es s (count spot_cmp es s - 1) s ∙ ap (λ b. cond b (count spot_cmp es s - 1) (count spot_cmp es s)) itself in
    let left : count spot_cmp one s - n ≡ count spot_cmp es s - suc n = omega (arith, now) in
    run_without n one s ss (fewer_counts es s 1 h)
    ∙ ap (λ k. without_grants (set_count spot_cmp one s k) ss) left
    ∙ ap (λ fs. without_grants fs ss) (set_twice spot_total same_spot (λ s. greatest_count) es s (count spot_cmp es s - 1) (count spot_cmp es s - suc n) h (omega (arith, le)) (omega (arith, le)))

pub taken_singly : (vs : List Victim) (es : Table) (m : ℕ) → AreNumbers es → without_victims es m vs ≡ without_grants es (losers_of m vs)
taken_singly [] es m h = refl
taken_singly (v ∷ vs) es m h =
    taken_singly vs (without_count es (spot v.app.0 v.unit.0 m) v.count) m (fewer_counts es (spot v.app.0 v.unit.0 m) v.count h)
    ∙ sym (run_without v.count es (spot v.app.0 v.unit.0 m) (losers_of m vs) h)

-- ---- what is left on the machine
module _ (jobs : List KnownJob) (m i : ℕ) where
  abbrev size_of : Spot → ℕ
  size_of s = size_at jobs s.job s.unit i

  total_one : (es : Table) (v : Victim) → AreNumbers es → v.count ≤ held_on es v.app.0 v.unit.0 m
      → total_at jobs m i (without_count es (spot v.app.0 v.unit.0 m) v.count) + v.count * size_at jobs v.app.0 v.unit.0 i ≡ total_at jobs m i es
  total_one es v h le =
      let s = spot v.app.0 v.unit.0 m in
      let n = count spot_cmp es s in
      let w : Spot → ℕ → ℕ = λ s n. cond (nat_eq s.machine m) (n * size_at jobs s.job s.unit i) 0 in
      let e = sum_set w (λ s. none (nat_eq s.machine m) (size_at jobs s.job s.unit i)) s (n - v.count) es h.sorted in
      let on : (k : ℕ) → w s k ≡ k * size_at jobs v.app.0 v.unit.0 i = λ k. ap (λ b. cond b (k * size_at jobs v.app.0 v.unit.0 i) 0) (nat_itself m) in
      let a = on n in
      let b = on (n - v.count) in
      let split : n ≡ (n - v.count) + v.count = omega (arith, le) in
      let c : n * size_at jobs v.app.0 v.unit.0 i ≡ (n - v.count) * size_at jobs v.app.0 v.unit.0 i + v.count * size_at jobs v.app.0 v.unit.0 i = ap (λ k. k * size_at jobs v.app.0 v.unit.0 i) split ∙ spread (n - v.count) v.count (size_at jobs v.app.0 v.unit.0 i) in
      omega (arith, e, a, b, c)
    where
      none : (b : Bool) (k : ℕ) → cond b (0 * k) 0 ≡ 0
      none true k = omega arith
      none false k = refl

      spread : (x y k : ℕ) → (x + y) * k ≡ x * k + y * k
      spread x y k = omega arith

  total_without : (vs : List Victim) (es : Table) → AreNumbers es → AllByRecursion (λ (v : Victim). v.count ≤ held_on es v.app.0 v.unit.0 m) vs → IsDistinct same_unit vs
      → total_at jobs m i (without_victims es m vs) + set_by (size_at jobs) i (losers_of m vs) ≡ total_at jobs m i es
  unfolding IsDistinct
  total_without [] es h held once = let z : set_by (size_at jobs) i [] ≡ 0 = refl in omega (arith, z)
  total_without (v ∷ vs) es h held once =
      let s = spot v.app.0 v.unit.0 m in
      let fs = without_count es s v.count in
      let still = left vs held.1 once.0 in
      let r = total_without vs fs (fewer_counts es s v.count h) still once.1 in
      let one = total_one es v h held.0 in
      let a = sum_by-append size_of (so_many v.count s) (losers_of m vs) in
      let b = sum_many size_of v.count s in
      omega (arith, r, one, a, b)
    where
      left : (ws : List Victim) → AllByRecursion (λ (w : Victim). w.count ≤ held_on es w.app.0 w.unit.0 m) ws → AllByRecursion (λ w. same_unit v w ≡ false) ws
          → AllByRecursion (λ (w : Victim). w.count ≤ held_on (without_count es (spot v.app.0 v.unit.0 m) v.count) w.app.0 w.unit.0 m) ws
      left [] k o = tt
      left (w ∷ ws) k o = (let e = kept_one es m m w.app.0 w.unit.0 v (turned w o.0) in let le = k.0 in omega (arith, e, le), left ws k.1 o.1)
        where
          turned : (w : Victim) → same_unit v w ≡ false → is_unit w.app.0 w.unit.0 v ≡ false
          turned w f = by (is_unit w.app.0 w.unit.0 v) refl
            where
              by : (b : Bool) → is_unit w.app.0 w.unit.0 v ≡ b → is_unit w.app.0 w.unit.0 v ≡ false
              by false e = e
              by true e =
                  let p = both_true (nat_eq v.app.0 w.app.0) (nat_eq v.unit.0 w.unit.0) e in
                  let x = p.0 in let y = p.1 in
                  let t : (nat_eq w.app.0 v.app.0 && nat_eq w.unit.0 v.unit.0) ≡ true = and_true (nat_eq w.app.0 v.app.0) (nat_eq w.unit.0 v.unit.0) (grind (arith, nat_tests, x)) (grind (arith, nat_tests, y)) in
                  absurd (let z : ⊥ = cc in z)

pub room_after : (t : TableRecord) (s : Spot) (vs : List Victim) → IsSound t → s.machine < length t.cluster.machines → AreTakable t s.machine vs → is_enough_in (board_of t) t.entries s (losers_of s.machine vs) ≡ true
    → (i : ℕ) → total_at (as_known t.jobs) s.machine i (without_victims t.entries s.machine vs) + size_at (as_known t.jobs) s.job s.unit i ≤ has_at t.cluster s.machine i
room_after t s vs sound lt takable enough i = elim (cases_lt i t.cluster.resources) [
  | inl less ↦
      let f = (by_enough (board_of t) t.entries s (losers_of s.machine vs) enough).fits i less in
      omega (arith, f, whole)
  | inr ge ↦
      let z = past ge in
      let f = sound.fits s.machine i lt in
      omega (arith, z, f, whole)
]
  where
    whole : total_at (as_known t.jobs) s.machine i (without_victims t.entries s.machine vs) + set_by (size_at (as_known t.jobs)) i (losers_of s.machine vs) ≡ total_at (as_known t.jobs) s.machine i t.entries
    whole = total_without (as_known t.jobs) s.machine i vs t.entries sound.counts (all_more (IsTakable t s.machine) (λ (v : Victim). v.count ≤ held_on t.entries v.app.0 v.unit.0 s.machine) (λ v h. h.held) vs takable.each) takable.once

    past : t.cluster.resources ≤ i → size_at (as_known t.jobs) s.job s.unit i ≡ 0
    past ge = elim (cases_lt i 8) [
      | inl less ↦
          let test = each_place 8 (λ i. nat_lt i t.cluster.resources || nat_eq (size_at (as_known t.jobs) s.job s.unit i) 0) i (narrow_enough (board_of t) t.entries s (losers_of s.machine vs) enough) less in
          let f : nat_lt i t.cluster.resources ≡ false = grind (arith, nat_tests, ge) in
          number_is _ _ (or_true (nat_lt i t.cluster.resources) (nat_eq (size_at (as_known t.jobs) s.job s.unit i) 0) test f)
      | inr more ↦ let short = size_short t.jobs sound.in_order s.job s.unit in at_place-get_or (unit_of (as_known t.jobs) s.job s.unit).size i ∙ get_or-eq_default (unit_of (as_known t.jobs) s.job s.unit).size 0 (omega (arith, short, more))
    ]
