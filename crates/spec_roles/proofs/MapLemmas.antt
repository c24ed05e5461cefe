-- Sets of numbers and maps by number, after one number is put in or taken out.
use Rattle.std.proofs.Common.{◌≡◌, ℕ, Bool, true, false, cond, not, nat_eq, nat_lt, List, [], ◌∷◌, Some, refl, sym, ◌∙◌, ap, arith}
use Rattle.std.specs.Prelude.{◌||◌}
use Rattle.std.specs.Option.{unwrap_or}
use Rattle.std.specs.Ordering.{nat_cmp, eq_by_cmp, is_eq}
use Rattle.std.specs.Cmp.{nat_cmp_total, tied_itself}
use Rattle.std.specs.FinMap.Entries.{find, put, find-put}
use Rattle.std.proofs.lemmas.Bool.Decides.{nat_tests}
use Rattle.std.proofs.lemmas.Map.Lookups.{exact_unsigned}
use Rattle.fuxi_terms.specs.Numbers.{has_number, with_number, without_number}
use Rattle.fuxi_terms.proofs.Booleans.{nat_itself, or_right}
use Rattle.fuxi_terms.proofs.CountsLemmas.{tied}

-- One entry of a map by numbers
pub found_put : {A : Type 0} (a : ℕ) (x d : A) (es : List (ℕ × A)) → unwrap_or (find nat_cmp a (put nat_cmp a x es)) d ≡ x
found_put a x d es = ap (λ o. unwrap_or o d) (find-put nat_cmp nat_cmp_total a a x es ∙ ap (λ r. cond (is_eq r) (Some x) (find nat_cmp a es)) (tied_itself nat_cmp_total a))

-- another entry of the map
pub put_beside : {A : Type 0} (a b : ℕ) (x : A) (es : List (ℕ × A)) → nat_eq b a ≡ false → find nat_cmp b (put nat_cmp a x es) ≡ find nat_cmp b es
put_beside a b x es e = find-put nat_cmp nat_cmp_total b a x es ∙ ap (λ t. cond t (Some x) (find nat_cmp b es)) (apart (eq_by_cmp nat_cmp b a) refl)
  where
    apart : (t : Bool) → eq_by_cmp nat_cmp b a ≡ t → eq_by_cmp nat_cmp b a ≡ false
    apart false t = t
    apart true t = let same : b ≡ a = exact_unsigned b a (tied _ t) in let yes : nat_eq b a ≡ true = grind (arith, nat_tests, same) in cc

-- a number that is added is there
pub with_here : (m : ℕ) (ms : List ℕ) → has_number m (with_number m ms) ≡ true
with_here m [] = ap (λ b. b || false) (nat_itself m)
with_here m (k ∷ ks) = by (with_here m ks) (nat_lt m k) (nat_eq m k) refl
  where
    by : has_number m (with_number m ks) ≡ true → (b d : Bool) → nat_eq m k ≡ d → has_number m (cond b (m ∷ k ∷ ks) (cond d (k ∷ ks) (k ∷ with_number m ks))) ≡ true
    by rest true d e = ap (λ b. b || has_number m (k ∷ ks)) (nat_itself m)
    by rest false true e = ap (λ b. b || has_number m ks) e
    by rest false false e = ap (λ b. nat_eq m k || b) rest ∙ or_right (nat_eq m k) true refl

-- one that was there stays
pub with_keeps : (n m : ℕ) (ms : List ℕ) → has_number n ms ≡ true → has_number n (with_number m ms) ≡ true
with_keeps n m [] h = cc
with_keeps n m (k ∷ ks) h = by (with_keeps n m ks) (nat_lt m k) (nat_eq m k)
  where
    by : (has_number n ks ≡ true → has_number n (with_number m ks) ≡ true) → (b d : Bool) → has_number n (cond b (m ∷ k ∷ ks) (cond d (k ∷ ks) (k ∷ with_number m ks))) ≡ true
    by rest true d = ap (λ x. nat_eq n m || x) h ∙ or_right (nat_eq n m) true refl
    by rest false true = h
    by rest false false = elim (nat_eq n k) as (λ s. (s || has_number n ks) ≡ true → (s || has_number n (with_number m ks)) ≡ true) [ true ↦ λ _. refl | false ↦ λ h. rest h ] h

-- a number that was not added was there
pub with_back : (n m : ℕ) (ms : List ℕ) → has_number n (with_number m ms) ≡ true → nat_eq n m ≡ false → has_number n ms ≡ true
with_back n m [] h e = let no : (nat_eq n m || false) ≡ false = ap (λ b. b || false) e in cc
with_back n m (k ∷ ks) h e = elim (nat_lt m k) as (λ b. has_number n (cond b (m ∷ k ∷ ks) (cond (nat_eq m k) (k ∷ ks) (k ∷ with_number m ks))) ≡ true → (nat_eq n k || has_number n ks) ≡ true) [
  | true ↦ λ h. ap (λ b. b || (nat_eq n k || has_number n ks)) (sym e) ∙ h
  | false ↦ elim (nat_eq m k) as (λ b. has_number n (cond b (k ∷ ks) (k ∷ with_number m ks)) ≡ true → (nat_eq n k || has_number n ks) ≡ true) [
    | true ↦ λ h. h
    | false ↦ elim (nat_eq n k) as (λ b. (b || has_number n (with_number m ks)) ≡ true → (b || has_number n ks) ≡ true) [ true ↦ λ h. h | false ↦ λ h. with_back n m ks h e ]
  ]
] h

-- what is there after one was taken out was there
pub without_back : (n m : ℕ) (ms : List ℕ) → has_number n (without_number m ms) ≡ true → has_number n ms ≡ true
without_back n m [] h = cc
without_back n m (k ∷ ks) h = elim (nat_eq k m) as (λ b. has_number n (cond (not b) (k ∷ without_number m ks) (without_number m ks)) ≡ true → (nat_eq n k || has_number n ks) ≡ true) [
  | true ↦ λ h. or_right (nat_eq n k) (has_number n ks) (without_back n m ks h)
  | false ↦ elim (nat_eq n k) as (λ b. (b || has_number n (without_number m ks)) ≡ true → (b || has_number n ks) ≡ true) [ true ↦ λ _. refl | false ↦ λ h. without_back n m ks h ]
] h
