-- The machines that are reported, as they are found by a test of each number.
use Rattle.std.proofs.Common.{◌≡◌, ℕ, zero, suc, ◌+◌, ◌<◌, ◌≤◌, Bool, true, false, cond, nat_eq, T, List, [], ◌∷◌, ◌++◌, map, filter, refl, sym, ◌∙◌, ap, subst, arith, add-one}
use Rattle.std.specs.Prelude.{◌||◌, ⊤}
use Rattle.std.specs.List.{AllByRecursion}
use Rattle.std.specs.Ordering.{nat_cmp, is_lt}
use Rattle.std.specs.declared.cmp.Ordering.TheVariants.{Less}
use Rattle.std.specs.FinMap.Entries.{is_sorted, below_all}
use Rattle.std.proofs.lemmas.Cmp.{ranked}
use Rattle.std.proofs.lemmas.Bool.Decides.{nat_tests}
use Rattle.fuxi_terms.specs.Lists.{numbers_from, below}
use Rattle.fuxi_terms.specs.Numbers.{has_number}
use Rattle.fuxi_terms.proofs.CountsLemmas.{both_true, lesser}
use Rattle.fuxi_terms.proofs.Lists.{one_more}
use Rattle.fuxi_terms.proofs.Booleans.{number_is}

-- numbers that rise from the first on
abbrev Rise : ℕ → List ℕ → Type 0
Rise first [] = ⊤
Rise first (m ∷ ms) = (first ≤ m) × Rise (suc m) ms

rise_from : (first : ℕ) (ms : List ℕ) → AllByRecursion (λ m. first ≤ m) ms → T (is_sorted {X = ℕ} nat_cmp (map {B = ℕ × ℕ} (λ m. (m, 0)) ms)) → Rise first ms
rise_from first [] h s = tt
rise_from first (m ∷ ms) h s =
    let parts = both_true (below_all nat_cmp m (map {B = ℕ × ℕ} (λ m. (m, 0)) ms)) (is_sorted {X = ℕ} nat_cmp (map {B = ℕ × ℕ} (λ m. (m, 0)) ms)) s in
    (h.0, rise_from (suc m) ms (over ms parts.0) parts.1)
  where
    over : (ks : List ℕ) → T (below_all nat_cmp m (map {B = ℕ × ℕ} (λ m. (m, 0)) ks)) → AllByRecursion (λ k. suc m ≤ k) ks
    over [] t = tt
    over (k ∷ ks) t =
        let parts = both_true (is_lt (nat_cmp m k)) (below_all nat_cmp m (map {B = ℕ × ℕ} (λ m. (m, 0)) ks)) t in
        let lt : m < k = ranked m k Less (sym (lesser (nat_cmp m k) parts.0)) in
        (omega (arith, lt), over ks parts.1)

lower_none : (first k : ℕ) (ms : List ℕ) → k < first → Rise first ms → has_number k ms ≡ false
lower_none first k [] lt h = refl
lower_none first k (m ∷ ms) lt h =
    let le = h.0 in
    let off : nat_eq k m ≡ false = grind (arith, nat_tests, lt, le) in
    ap (λ b. b || has_number k ms) off ∙ lower_none (suc m) k ms (omega (arith, lt, le)) h.1

-- a number that is not the first of those that rise from it on
later : (first m : ℕ) (ms : List ℕ) → nat_eq first m ≡ false → (first ≤ m) × Rise (suc m) ms → Rise (suc first) (m ∷ ms)
later first m ms off h = let le = h.0 in (grind (arith, nat_tests, off, le), h.1)

-- whatever tests for them finds them
kept_from : (p : ℕ → Bool) (n first : ℕ) (ms : List ℕ) → Rise first ms → AllByRecursion (λ m. m < first + n) ms → ((k : ℕ) → first ≤ k → p k ≡ has_number k ms) → filter p (numbers_from first n) ≡ ms
kept_from p zero first [] rise lt is = refl
kept_from p zero first (m ∷ ms) rise lt is = absurd (let ge = rise.0 in let l = lt.0 in omega (arith, ge, l))
kept_from p (suc n) first [] rise lt is =
    ap (λ b. cond b (first ∷ filter p (numbers_from (first + 1) n)) (filter p (numbers_from (first + 1) n))) (is first (omega arith))
    ∙ kept_from p n (first + 1) [] tt tt (λ k le. is k (omega (arith, le)))
kept_from p (suc n) first (m ∷ ms) rise lt is = elim (nat_eq first m) as (λ b. nat_eq first m ≡ b → cond (p first) (first ∷ filter p (numbers_from (first + 1) n)) (filter p (numbers_from (first + 1) n)) ≡ m ∷ ms) [
  | true ↦ λ t.
      let same = number_is first m t in
      let here : p first ≡ true = is first (omega arith) ∙ ap (λ b. b || has_number first ms) t in
      let up : suc m ≡ first + 1 = omega (arith, same) in
      ap (λ b. cond b (first ∷ filter p (numbers_from (first + 1) n)) (filter p (numbers_from (first + 1) n))) here
      ∙ (λ i. same i ∷ kept_from p n (first + 1) ms (subst (λ k. Rise k ms) up rise.1) (wider (first + suc n) (first + 1 + n) (omega arith) ms lt.1)
      (λ k le. is k (omega (arith, le)) ∙ ap (λ b. b || has_number k ms) (let off : nat_eq k m ≡ false = grind (arith, nat_tests, le, same) in off)) i)
  | false ↦ λ f.
      let rest = later first m ms f rise in
      let off : p first ≡ false = is first (omega arith) ∙ lower_none (suc first) first (m ∷ ms) (omega arith) rest in
      ap (λ b. cond b (first ∷ filter p (numbers_from (first + 1) n)) (filter p (numbers_from (first + 1) n))) off
      ∙ kept_from p n (first + 1) (m ∷ ms) (subst (λ k. Rise k (m ∷ ms)) (let up : suc first ≡ first + 1 = omega arith in up) rest) (wider (first + suc n) (first + 1 + n) (omega arith) (m ∷ ms) lt) (λ k le. is k (omega (arith, le)))
] refl
  where
    wider : (a b : ℕ) → a ≡ b → (ks : List ℕ) → AllByRecursion (λ k. k < a) ks → AllByRecursion (λ k. k < b) ks
    wider a b e ks h = subst (λ c. AllByRecursion (λ k. k < c) ks) e h

below_is : (n : ℕ) → below n ≡ numbers_from 0 n
below_is zero = refl
below_is (suc n) = ap (λ ks. ks ++ n ∷ []) (below_is n) ∙ ap (λ k. numbers_from 0 n ++ k ∷ []) (let z : n ≡ 0 + n = omega arith in z) ∙ sym (one_more 0 n) ∙ ap (numbers_from 0) (add-one n)

all_zero : (ms : List ℕ) → AllByRecursion (λ m. 0 ≤ m) ms
all_zero [] = tt
all_zero (m ∷ ms) = (omega arith, all_zero ms)

pub kept_below : (n : ℕ) (ms : List ℕ) → T (is_sorted {X = ℕ} nat_cmp (map {B = ℕ × ℕ} (λ m. (m, 0)) ms)) → AllByRecursion (λ m. m < n) ms → filter (λ m. has_number m ms) (below n) ≡ ms
kept_below n ms sorted lt = ap (filter (λ m. has_number m ms)) (below_is n) ∙ kept_from (λ m. has_number m ms) n 0 ms (rise_from 0 ms (all_zero ms) sorted) (subst (λ k. AllByRecursion (λ m. m < k) ms) (let z : n ≡ 0 + n = omega arith in z) lt) (λ k le. refl)
