-- New turns along the end of a line.
use Rattle.std.proofs.Common.{◌≡◌, ◌≢◌, ℕ, zero, suc, ◌+◌, ◌-◌, ◌*◌, ◌<◌, ◌≤◌, Bool, true, false, cond, not, nat_eq, nat_lt, filter, List, [], ◌∷◌, ◌++◌, length, get_or, set, slice_get, refl, sym, ◌∙◌, ap, subst, arith, Some}
use Rattle.std.specs.Prelude.{◌&&◌, ◌||◌}
use Rattle.std.specs.List.{IsDistinct}
use Rattle.std.proofs.lemmas.Bool.Decides.{nat_tests}
use Rattle.std.proofs.lemmas.List.{get_or-set_other}
use Rattle.fuxi_terms.specs.Keys.{Pair}
use Rattle.fuxi_terms.specs.Numbers.{has_number}
use Rattle.fuxi_terms.specs.declared.Key.{Key}
use Rattle.fuxi_terms.proofs.Booleans.{both_true, number_is}
use Rattle.fuxi_terms.proofs.Lists.{all_at}
use Rattle.spec_roles.specs.Placing.{has_pair, waiting_in}
use Rattle.spec_roles.specs.Masters.{out_of}
use Rattle.place_pass.specs.Best.{AreAdmitted}
use Rattle.place_pass.specs.Bounds.{Numbered}
use Rattle.place_pass.specs.Cells.{Cell}
use Rattle.place_pass.proofs.WaitingLinesLemmas.{has_filter, has_flat, pair_self}
use Rattle.place_pass.specs.WaitingLines.{same_pair}
use Rattle.fuxi_terms.proofs.IndexedLists.{slot_within}
use Rattle.fuxi_terms.specs.Tables.{Table}

pub two_places : (xs : List Pair) (i j : ℕ) (p q : Pair) → IsDistinct same_pair xs → i < j → slice_get xs i ≡ Some p → slice_get xs j ≡ Some q → same_pair p q ≡ false
unfolding IsDistinct
two_places [] i j p q h lt e g = cc
two_places (x ∷ xs) i zero p q h lt e g = absurd (omega (arith, lt))
two_places (x ∷ xs) zero (suc j) p q h lt e g = let same : x ≡ p = cc in subst (λ z. same_pair z q ≡ false) same (all_at (λ (y : Pair). same_pair x y ≡ false) xs j q h.0 g)
two_places (x ∷ xs) (suc i) (suc j) p q h lt e g = two_places xs i j p q h.1 (omega (arith, lt)) e g

pub other_slot : (xs : List ℕ) (a u b v y : ℕ) → u < 8 → v < 8 → (nat_eq a b && nat_eq u v) ≡ false → get_or (set xs (a * 8 + u) y) (b * 8 + v) 0 ≡ get_or xs (b * 8 + v) 0
other_slot xs a u b v y lu lv e = get_or-set_other xs (a * 8 + u) (b * 8 + v) y 0 (apart (nat_eq a b) refl e)
  where
    apart : (t : Bool) → nat_eq a b ≡ t → (t && nat_eq u v) ≡ false → (b * 8 + v) ≢ (a * 8 + u)
    apart true t f = let same = number_is a b t in let d : u ≢ v = grind (arith, nat_tests, f) in omega (arith, same, d)
    apart false t f = let d : a ≢ b = grind (arith, nat_tests, t) in omega (arith, d, lu, lv)

shifted : (xs ys : List Pair) (k : ℕ) → slice_get (xs ++ ys) (length xs + k) ≡ slice_get ys k
shifted [] ys k = ap (slice_get ys) (let e : 0 + k ≡ k = omega arith in e)
shifted (x ∷ xs) ys k = ap (slice_get (x ∷ (xs ++ ys))) (let e : suc (length xs) + k ≡ suc (length xs + k) = omega arith in e) ∙ shifted xs ys k

numbered_by : (f : Pair → ℕ) (n : ℕ) (ys : List Pair) → ((k : ℕ) (p : Pair) → slice_get ys k ≡ Some p → f p ≡ n + k) → Numbered f n ys
numbered_by f n [] h = tt
numbered_by f n (y ∷ ys) h = (let e = h 0 y refl in omega (arith, e), numbered_by f (n + 1) ys (λ k p e. let r = h (suc k) p e in omega (arith, r)))

pub numbered_end : (f : Pair → ℕ) (n from : ℕ) (xs ys all : List Pair) → all ≡ xs ++ ys → from ≡ length xs → ((k : ℕ) (p : Pair) → from ≤ k → slice_get all k ≡ Some p → f p ≡ n + (k - from)) → Numbered f n ys
numbered_end f n from xs ys all is e h = numbered_by f n ys (λ k p g. let r = h (length xs + k) p (omega (arith, e)) (ap (λ zs. slice_get zs (length xs + k)) is ∙ shifted xs ys k ∙ g) in omega (arith, r, e))

pub has_end : (from : ℕ) (xs ys all : List Pair) → all ≡ xs ++ ys → from ≡ length xs → (k : ℕ) (p : Pair) → from ≤ k → slice_get all k ≡ Some p → ((q : Pair) (i : ℕ) → slice_get ys i ≡ Some q → has_pair q ys ≡ true) → has_pair p ys ≡ true
has_end from xs ys all is e k p ge g has = has p (k - from) (sym (shifted xs ys (k - from)) ∙ ap (slice_get (xs ++ ys)) (let s : length xs + (k - from) ≡ k = omega (arith, e, ge) in s) ∙ ap (λ zs. slice_get zs k) (sym is) ∙ g)

-- an admitted pair is one of 256 jobs and 8 units
pub unit_small : (cells : List (List Cell)) (line : List Pair) (i : ℕ) (p : Pair) → AreAdmitted cells line → slice_get line i ≡ Some p → ((a : ℕ) → length (get_or cells a []) ≤ 8) → p.1 < 8
unit_small cells line i p h e few = let l = all_at (λ (p : Pair). p.1 < length (get_or cells p.0 [])) line i p h e in let f = few p.0 in omega (arith, l, f)

pub app_small : (cells : List (List Cell)) (line : List Pair) (i : ℕ) (p : Pair) → AreAdmitted cells line → slice_get line i ≡ Some p → length cells ≡ 256 → p.0 < 256
app_small cells line i p h e n = let l = slot_within cells p.0 p.1 (all_at (λ (p : Pair). p.1 < length (get_or cells p.0 [])) line i p h e) in omega (arith, l, n)

-- where each unit with something out stands in the line, none is appended
pub none_had : (xs : List Pair) → ((p : Pair) → has_pair p xs ≡ true → ⊥) → xs ≡ []
none_had [] h = refl
none_had (x ∷ xs) h = absurd (h x (ap (λ b. b || has_pair x xs) (pair_self x)))

pub none_joined : (line : List Pair) (numbers : List ℕ) (units : ℕ → ℕ) (asks : ℕ → Key → ℕ) (table : Table) → ((a u : ℕ) → u < units a → 0 < out_of asks table a u → has_pair (a, u) line ≡ true)
    → filter (λ p. not (has_pair p line)) (waiting_in numbers units asks table) ≡ []
none_joined line numbers units asks table h = none_had (filter (λ p. not (has_pair p line)) (waiting_in numbers units asks table)) (λ p has.
    let b = both_true (has_pair p (waiting_in numbers units asks table)) (not (has_pair p line)) (sym (has_filter (λ p. not (has_pair p line)) p (waiting_in numbers units asks table)) ∙ has) in
    let f = both_true (has_number p.0 numbers) _ (sym (has_flat units (λ a u. nat_lt 0 (out_of asks table a u)) p.0 p.1 numbers) ∙ b.0) in
    let g = both_true (nat_lt p.1 (units p.0)) (nat_lt 0 (out_of asks table p.0 p.1)) f.1 in
    let lt = g.0 in let some = g.1 in
    let l : has_pair p line ≡ true = h p.0 p.1 (grind (arith, nat_tests, lt)) (grind (arith, nat_tests, some)) in
    let no : false ≡ true = sym (ap not l) ∙ b.1 in
    let z : ⊥ = cc in z)

filter_most : (q : Pair → Bool) (xs : List Pair) → length (filter q xs) ≤ length xs
filter_most q [] = omega arith
filter_most q (x ∷ xs) = let le = filter_most q xs in elim (q x) as (λ b. length (cond b (x ∷ filter q xs) (filter q xs)) ≤ length (x ∷ xs)) [ true ↦ omega (arith, le) | false ↦ omega (arith, le) ]

-- where as many are left, all are
pub filter_whole : (q : Pair → Bool) (xs : List Pair) → length (filter q xs) ≡ length xs → filter q xs ≡ xs
filter_whole q [] e = refl
filter_whole q (x ∷ xs) e = elim (q x) as (λ b. length (cond b (x ∷ filter q xs) (filter q xs)) ≡ length (x ∷ xs) → cond b (x ∷ filter q xs) (filter q xs) ≡ x ∷ xs) [
  | true ↦ λ e. ap (λ ys. x ∷ ys) (filter_whole q xs (omega (arith, e)))
  | false ↦ λ e. let le = filter_most q xs in absurd (omega (arith, e, le))
] e
