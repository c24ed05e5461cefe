-- Numbers of times: what a size, taken so often, reaches and stays within.
use Rattle.std.proofs.Common.{◌≡◌, ℕ, zero, suc, ◌+◌, ◌-◌, ◌*◌, ◌/◌, ◌<◌, ◌≤◌, Bool, true, false, cond, not, nat_eq, nat_lt, min, max, refl, sym, ◌∙◌, ap, subst, arith}
use Rattle.std.specs.Prelude.{◌%◌}
use Rattle.std.proofs.lemmas.Nat.{div-add-mod', mod_below}
use Rattle.std.proofs.Math.Nat.{mul-le-mul_right}
use Rattle.std.proofs.lemmas.Bool.Decides.{nat_tests}
use Rattle.fuxi_terms.specs.Lists.{below_each}
use Rattle.fuxi_terms.proofs.Members.{each_place}
use Rattle.preempt.specs.Counted.{times_to_reach, times_within, greatest_of, least_of}

-- Tests
pub at_least : (x y : ℕ) → y ≤ x → not (nat_lt x y) ≡ true
at_least x y h = grind (arith, nat_tests)

pub too_small : (x y : ℕ) → x < y → not (nat_lt x y) ≡ false
too_small x y h = grind (arith, nat_tests)

pub is_at_least : (x y : ℕ) → not (nat_lt x y) ≡ true → y ≤ x
is_at_least x y h = grind (arith, nat_tests)

pub each_false : (n : ℕ) (test : ℕ → Bool) (i : ℕ) → i < n → test i ≡ false → below_each n test ≡ false
each_false n test i lt f = by (below_each n test) refl
  where
    by : (b : Bool) → below_each n test ≡ b → below_each n test ≡ false
    by true e = let t = each_place n test i e lt in cc
    by false e = e

-- Times to reach
pub reach_most : (have want size most : ℕ) → times_to_reach have want size most ≤ most
reach_most have want size most = elim (nat_lt have want) as (λ b. cond b (cond (nat_eq size 0) most (min most ((want - have - 1) / size + 1))) 0 ≤ most) [
  | true ↦ elim (nat_eq size 0) as (λ b. cond b most (min most ((want - have - 1) / size + 1)) ≤ most) [ true ↦ omega arith | false ↦ omega arith ]
  | false ↦ omega arith
]

-- a quotient: as often as it says, and one more time is more
quotient : (n m : ℕ) → 0 < m → (n / m * m ≤ n) × (n < n / m * m + m)
quotient n m h = let e = div-add-mod' n m in let l : n % m < m = mod_below n m h in (omega (arith, e), omega (arith, e, l))

pub times_le : (j q m : ℕ) → j ≤ q → j * m ≤ q * m
times_le j q m h = mul-le-mul_right m h

pub reached : (have want size most : ℕ) → times_to_reach have want size most < most → want ≤ have + times_to_reach have want size most * size
reached have want size most lt = by (nat_lt have want) refl (nat_eq size 0) refl lt
  where
    by : (b : Bool) → nat_lt have want ≡ b → (d : Bool) → nat_eq size 0 ≡ d → cond b (cond d most (min most ((want - have - 1) / size + 1))) 0 < most → want ≤ have + cond b (cond d most (min most ((want - have - 1) / size + 1))) 0 * size
    by false e d f l = let le : want ≤ have = grind (arith, nat_tests) in omega (arith, le)
    by true e true f l = absurd (omega (arith, l))
    by true e false f l =
        let some : 0 < size = grind (arith, nat_tests) in
        let q = (quotient (want - have - 1) size some).1 in
        let same : min most ((want - have - 1) / size + 1) ≡ (want - have - 1) / size + 1 = omega (arith, l) in
        let x : want ≤ have + ((want - have - 1) / size + 1) * size = omega (arith, q) in
        subst (λ n. want ≤ have + n * size) (sym same) x

pub not_reached : (have want size most j : ℕ) → j < times_to_reach have want size most → have + j * size < want
not_reached have want size most j lt = by (nat_lt have want) refl (nat_eq size 0) refl lt
  where
    by : (b : Bool) → nat_lt have want ≡ b → (d : Bool) → nat_eq size 0 ≡ d → j < cond b (cond d most (min most ((want - have - 1) / size + 1))) 0 → have + j * size < want
    by false e d f l = absurd (omega (arith, l))
    by true e true f l =
        let less : have < want = grind (arith, nat_tests) in
        let none : size ≡ 0 = grind (arith, nat_tests) in
        let z : j * size ≡ 0 = ap (λ k. j * k) none ∙ omega arith in
        omega (arith, less, z)
    by true e false f l =
        let less : have < want = grind (arith, nat_tests) in
        let some : 0 < size = grind (arith, nat_tests) in
        let q = (quotient (want - have - 1) size some).0 in
        let m = times_le j ((want - have - 1) / size) size (omega (arith, l)) in
        omega (arith, less, q, m)

-- Times within
pub within_most : (base limit size most : ℕ) → times_within base limit size most ≤ most
within_most base limit size most = elim (nat_lt limit base) as (λ b. cond b 0 (cond (nat_eq size 0) most (min most ((limit - base) / size))) ≤ most) [
  | true ↦ omega arith
  | false ↦ elim (nat_eq size 0) as (λ b. cond b most (min most ((limit - base) / size)) ≤ most) [ true ↦ omega arith | false ↦ omega arith ]
]

pub within : (base limit size most j : ℕ) → j < times_within base limit size most → base + j * size + size ≤ limit
within base limit size most j lt = by (nat_lt limit base) refl (nat_eq size 0) refl lt
  where
    by : (b : Bool) → nat_lt limit base ≡ b → (d : Bool) → nat_eq size 0 ≡ d → j < cond b 0 (cond d most (min most ((limit - base) / size))) → base + j * size + size ≤ limit
    by true e d f l = absurd (omega (arith, l))
    by false e true f l =
        let le : base ≤ limit = grind (arith, nat_tests) in
        let none : size ≡ 0 = grind (arith, nat_tests) in
        let z : j * size ≡ 0 = ap (λ k. j * k) none ∙ omega arith in
        omega (arith, le, none, z)
    by false e false f l =
        let le : base ≤ limit = grind (arith, nat_tests) in
        let some : 0 < size = grind (arith, nat_tests) in
        let q = (quotient (limit - base) size some).0 in
        let m = times_le (j + 1) ((limit - base) / size) size (omega (arith, l)) in
        omega (arith, le, q, m)

pub not_within : (base limit size most : ℕ) → times_within base limit size most < most → limit < base + times_within base limit size most * size + size
not_within base limit size most lt = by (nat_lt limit base) refl (nat_eq size 0) refl lt
  where
    by : (b : Bool) → nat_lt limit base ≡ b → (d : Bool) → nat_eq size 0 ≡ d → cond b 0 (cond d most (min most ((limit - base) / size))) < most → limit < base + cond b 0 (cond d most (min most ((limit - base) / size))) * size + size
    by true e d f l = let less : limit < base = grind (arith, nat_tests) in omega (arith, less)
    by false e true f l = absurd (omega (arith, l))
    by false e false f l =
        let le : base ≤ limit = grind (arith, nat_tests) in
        let some : 0 < size = grind (arith, nat_tests) in
        let q = (quotient (limit - base) size some).1 in
        let same : min most ((limit - base) / size) ≡ (limit - base) / size = omega (arith, l) in
        let x : limit < base + (limit - base) / size * size + size = omega (arith, q, le) in
        subst (λ n. limit < base + n * size + size) (sym same) x

-- Greatest and least
pub greatest_most : (n : ℕ) (f : ℕ → ℕ) (most : ℕ) → ((i : ℕ) → i < n → f i ≤ most) → greatest_of n f ≤ most
greatest_most zero f most h = omega arith
greatest_most (suc n) f most h = let a = greatest_most n f most (λ i lt. h i (omega (arith, lt))) in let b = h n (omega arith) in omega (arith, a, b)

pub greatest_at : (n : ℕ) (f : ℕ → ℕ) (i : ℕ) → i < n → f i ≤ greatest_of n f
greatest_at zero f i lt = absurd (omega (arith, lt))
greatest_at (suc n) f i lt = by (nat_eq i n) refl (greatest_at n f i)
  where
    by : (b : Bool) → nat_eq i n ≡ b → (i < n → f i ≤ greatest_of n f) → f i ≤ max (greatest_of n f) (f n)
    by true e _ = let same : i ≡ n = grind (arith, nat_tests) in let v : f i ≡ f n = ap f same in omega (arith, v)
    by false e g = let other : i < n = grind (arith, nat_tests) in let a = g other in omega (arith, a)

-- some place is as great
pub record Reaches (n : ℕ) (f : ℕ → ℕ) (j : ℕ) : Type 0 where
  pub place : ℕ
  pub inside : place < n
  pub more : j < f place

pub greatest_some : (n : ℕ) (f : ℕ → ℕ) (j : ℕ) → j < greatest_of n f → Reaches n f j
greatest_some zero f j lt = absurd (omega (arith, lt))
greatest_some (suc n) f j lt = by (nat_lt j (f n)) refl (greatest_some n f j)
  where
    by : (b : Bool) → nat_lt j (f n) ≡ b → (j < greatest_of n f → Reaches n f j) → Reaches (suc n) f j
    by true e _ = record { place = n; inside = omega arith; more = grind (arith, nat_tests) }
    by false e g =
        let le : f n ≤ j = grind (arith, nat_tests) in
        let r = g (omega (arith, lt, le)) in
        record { place = r.place; inside = let i = r.inside in omega (arith, i); more = r.more }

pub least_most : (k n : ℕ) (f : ℕ → ℕ) → least_of k n f ≤ k
least_most k zero f = omega arith
least_most k (suc n) f = let a = least_most k n f in omega (arith, a)

pub least_at : (k n : ℕ) (f : ℕ → ℕ) (i : ℕ) → i < n → least_of k n f ≤ f i
least_at k zero f i lt = absurd (omega (arith, lt))
least_at k (suc n) f i lt = by (nat_eq i n) refl (least_at k n f i)
  where
    by : (b : Bool) → nat_eq i n ≡ b → (i < n → least_of k n f ≤ f i) → min (least_of k n f) (f n) ≤ f i
    by true e _ = let same : i ≡ n = grind (arith, nat_tests) in let v : f i ≡ f n = ap f same in omega (arith, v)
    by false e g = let other : i < n = grind (arith, nat_tests) in let a = g other in omega (arith, a)

pub record Falls (k n : ℕ) (f : ℕ → ℕ) : Type 0 where
  pub place : ℕ
  pub inside : place < n
  pub same : least_of k n f ≡ f place

pub least_some : (k n : ℕ) (f : ℕ → ℕ) → least_of k n f < k → Falls k n f
least_some k zero f lt = absurd (omega (arith, lt))
least_some k (suc n) f lt = by (nat_lt (f n) (least_of k n f)) refl (least_some k n f)
  where
    by : (b : Bool) → nat_lt (f n) (least_of k n f) ≡ b → (least_of k n f < k → Falls k n f) → Falls k (suc n) f
    by true e _ = let l : f n < least_of k n f = grind (arith, nat_tests) in record { place = n; inside = omega arith; same = omega (arith, l) }
    by false e g =
        let le : least_of k n f ≤ f n = grind (arith, nat_tests) in
        let r = g (omega (arith, lt, le)) in
        record { place = r.place; inside = let i = r.inside in omega (arith, i); same = let s = r.same in omega (arith, s, le) }
