-- Sets of numbers that grow.
use Rattle.std.proofs.Common.{◌≡◌, ℕ, Bool, true, false, cond, nat_eq, nat_lt, T, List, [], ◌∷◌, map, refl, sym, ◌∙◌, ap, subst, arith}
use Rattle.std.specs.Prelude.{◌||◌}
use Rattle.std.specs.List.{AllByRecursion}
use Rattle.std.specs.Ordering.{nat_cmp, eq_by_cmp, is_eq}
use Rattle.std.specs.Cmp.{nat_cmp_is, tied_itself}
use Rattle.std.specs.declared.cmp.Ordering.TheVariants.{Less, Equal, Greater}
use Rattle.std.specs.FinMap.Entries.{by_order, put, is_sorted, is_sorted-put}
use Rattle.std.proofs.lemmas.Cmp.{nat_cmp_total}
use Rattle.std.proofs.lemmas.Bool.Decides.{nat_tests}
use Rattle.std.proofs.lemmas.Map.Lookups.{exact_unsigned}
use Rattle.fuxi_terms.specs.Numbers.{has_number, with_number}
use Rattle.fuxi_terms.proofs.Booleans.{number_is, nat_itself}
use Rattle.fuxi_terms.proofs.CountsLemmas.{tied}

-- a number of a list has what all have
pub among : (P : ℕ → Type 0) (m : ℕ) (ms : List ℕ) → AllByRecursion P ms → has_number m ms ≡ true → P m
among P m [] h e = cc
among P m (k ∷ ks) h e = elim (nat_eq m k) as (λ b. nat_eq m k ≡ b → (b || has_number m ks) ≡ true → P m) [
  | true ↦ λ t _. subst P (sym (number_is m k t)) h.0
  | false ↦ λ _ e. among P m ks h.1 e
] refl e

-- which numbers there are once one is added
pub with_is : (n m : ℕ) (ms : List ℕ) → has_number n (with_number m ms) ≡ (nat_eq n m || has_number n ms)
with_is n m [] = refl
with_is n m (k ∷ ks) = by (with_is n m ks) (nat_lt m k) (nat_eq m k) refl
  where
    swap : (a b c : Bool) → (b || (a || c)) ≡ (a || (b || c))
    swap true true c = refl
    swap true false c = refl
    swap false b c = refl

    twice : (a c : Bool) → (a || c) ≡ (a || (a || c))
    twice true c = refl
    twice false c = refl

    by : has_number n (with_number m ks) ≡ (nat_eq n m || has_number n ks) → (x y : Bool) → nat_eq m k ≡ y → has_number n (cond x (m ∷ k ∷ ks) (cond y (k ∷ ks) (k ∷ with_number m ks))) ≡ (nat_eq n m || (nat_eq n k || has_number n ks))
    by rest true y e = refl
    by rest false true e = let same = number_is m k e in subst (λ j. (nat_eq n k || has_number n ks) ≡ (nat_eq n j || (nat_eq n k || has_number n ks))) (sym same) (twice (nat_eq n k) (has_number n ks))
    by rest false false e = ap (λ b. nat_eq n k || b) rest ∙ swap (nat_eq n m) (nat_eq n k) (has_number n ks)

pub with_all : (P : ℕ → Type 0) (m : ℕ) (ms : List ℕ) → P m → AllByRecursion P ms → AllByRecursion P (with_number m ms)
with_all P m [] p h = (p, tt)
with_all P m (k ∷ ks) p h = by (with_all P m ks p h.1) (nat_lt m k) (nat_eq m k)
  where
    by : AllByRecursion P (with_number m ks) → (x y : Bool) → AllByRecursion P (cond x (m ∷ k ∷ ks) (cond y (k ∷ ks) (k ∷ with_number m ks)))
    by rest true y = (p, h)
    by rest false true = h
    by rest false false = (h.0, rest)

-- they rise still
put_as : (m : ℕ) (ms : List ℕ) → put nat_cmp m 0 (map {B = ℕ × ℕ} (λ n. (n, 0)) ms) ≡ map {B = ℕ × ℕ} (λ n. (n, 0)) (with_number m ms)
put_as m [] = refl
put_as m (k ∷ ks) = by (put_as m ks) (nat_lt m k) (nat_eq m k) refl refl
  where
    by : put nat_cmp m 0 (map {B = ℕ × ℕ} (λ n. (n, 0)) ks) ≡ map {B = ℕ × ℕ} (λ n. (n, 0)) (with_number m ks) → (x y : Bool) → nat_lt m k ≡ x → nat_eq m k ≡ y
        → by_order (nat_cmp m k) ((m, 0) ∷ (k, 0) ∷ map {B = ℕ × ℕ} (λ n. (n, 0)) ks) ((k, 0) ∷ map {B = ℕ × ℕ} (λ n. (n, 0)) ks) ((k, 0) ∷ put nat_cmp m 0 (map {B = ℕ × ℕ} (λ n. (n, 0)) ks)) ≡ map {B = ℕ × ℕ} (λ n. (n, 0)) (cond x (m ∷ k ∷ ks) (cond y (k ∷ ks) (k ∷ with_number m ks)))
    by rest true y e f = let less : Less ≡ nat_cmp m k = nat_cmp_is m k Less (grind (arith, nat_tests, e)) in ap (λ r. by_order r ((m, 0) ∷ (k, 0) ∷ map {B = ℕ × ℕ} (λ n. (n, 0)) ks) ((k, 0) ∷ map {B = ℕ × ℕ} (λ n. (n, 0)) ks) ((k, 0) ∷ put nat_cmp m 0 (map {B = ℕ × ℕ} (λ n. (n, 0)) ks))) (sym less)
    by rest false true e f = let same : Equal ≡ nat_cmp m k = nat_cmp_is m k Equal (number_is m k f) in ap (λ r. by_order r ((m, 0) ∷ (k, 0) ∷ map {B = ℕ × ℕ} (λ n. (n, 0)) ks) ((k, 0) ∷ map {B = ℕ × ℕ} (λ n. (n, 0)) ks) ((k, 0) ∷ put nat_cmp m 0 (map {B = ℕ × ℕ} (λ n. (n, 0)) ks))) (sym same)
    by rest false false e f = let more : Greater ≡ nat_cmp m k = nat_cmp_is m k Greater (grind (arith, nat_tests, e, f)) in ap (λ r. by_order r ((m, 0) ∷ (k, 0) ∷ map {B = ℕ × ℕ} (λ n. (n, 0)) ks) ((k, 0) ∷ map {B = ℕ × ℕ} (λ n. (n, 0)) ks) ((k, 0) ∷ put nat_cmp m 0 (map {B = ℕ × ℕ} (λ n. (n, 0)) ks))) (sym more) ∙ ap (λ es. (k, 0) ∷ es) rest

pub with_rises : (m : ℕ) (ms : List ℕ) → T (is_sorted {X = ℕ} nat_cmp (map (λ n. (n, 0)) ms)) → T (is_sorted {X = ℕ} nat_cmp (map (λ n. (n, 0)) (with_number m ms)))
with_rises m ms h = subst (λ es. T (is_sorted {X = ℕ} nat_cmp es)) (put_as m ms) (is_sorted-put nat_cmp nat_cmp_total m 0 (map (λ n. (n, 0)) ms) h)

-- numbers that their order finds equal are the same
pub same_number : (a b : ℕ) → eq_by_cmp nat_cmp b a ≡ nat_eq a b
same_number a b = by (nat_eq a b) refl
  where
    other : (r : Bool) → nat_eq a b ≡ false → eq_by_cmp nat_cmp b a ≡ r → r ≡ false
    other false f e = refl
    other true f e = let s = exact_unsigned b a (tied _ e) in let t : nat_eq a b ≡ true = ap (nat_eq a) s ∙ nat_itself a in cc

    by : (r : Bool) → nat_eq a b ≡ r → eq_by_cmp nat_cmp b a ≡ nat_eq a b
    by true e = let s = number_is a b e in ap (λ x. eq_by_cmp nat_cmp x a) (sym s) ∙ ap is_eq (tied_itself nat_cmp_total a) ∙ sym e
    by false e = other (eq_by_cmp nat_cmp b a) e refl ∙ sym e
