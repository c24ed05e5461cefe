-- Of a line that is walked through once the pairs that pass a test are kept in their order, and the others leave.
use Rattle.std.proofs.Common.{◌≡◌, ℕ, zero, suc, inl, inr, ◌+◌, ◌≤◌, Bool, true, false, List, [], ◌∷◌, ◌++◌, length, filter, get_or, set, take, drop, swap, Some, slice_get, refl, sym, ◌∙◌, ap, subst, arith, add-one, append_assoc, take-append-drop}
use Rattle.std.specs.Prelude.{◌&&◌, ◌||◌}
use Rattle.std.specs.List.{IsDistinct}
use Rattle.std.proofs.lemmas.List.{drop-set-lt}
use Rattle.std.proofs.lemmas.List.Edits.{swap_is}
use Rattle.std.proofs.lemmas.Option.{get_or_from_slice_get, slice_get_within}
use Rattle.std.proofs.Math.Seq.{drop-cons}
use Rattle.fuxi_terms.specs.Keys.{Pair}
use Rattle.fuxi_terms.proofs.Booleans.{and_false, both_true, or_right}
use Rattle.spec_roles.specs.Placing.{has_pair}
use Rattle.place_pass.specs.WaitingLines.{same_pair}
use Rattle.place_pass.proofs.FirstKeysWait.{joined}
use Rattle.place_pass.proofs.FlagsTellWhoWaits.{none_left}
use Rattle.place_pass.proofs.WaitingLinesLemmas.{any_append, append_nil, dropped_whole, either_one, filter_append, has_filter, pair_is, pair_self, taken_whole}

-- who stays of the first n, and the pairs behind them
abbrev pub walked : (Pair → Bool) → ℕ → List Pair → List Pair
walked w n xs = filter w (take n xs) ++ drop n xs

-- ---- the next pair
take_next : (xs : List Pair) (n : ℕ) (p : Pair) → slice_get xs n ≡ Some p → take (suc n) xs ≡ take n xs ++ p ∷ []
take_next [] n p e = cc
take_next (x ∷ []) zero p e = let same : x ≡ p = cc in ap (λ y. y ∷ []) same
take_next (x ∷ y ∷ ys) zero p e = let same : x ≡ p = cc in ap (λ z. z ∷ []) same
take_next (x ∷ xs) (suc n) p e = ap (λ ys. x ∷ ys) (take_next xs n p e)

drop_next : (xs : List Pair) (n : ℕ) (p : Pair) → slice_get xs n ≡ Some p → drop n xs ≡ p ∷ drop (n + 1) xs
drop_next xs n p e = drop-cons xs n p (slice_get_within xs n p e) ∙ ap (λ x. x ∷ drop (suc n) xs) (get_or_from_slice_get xs n p p e) ∙ ap (λ k. p ∷ drop k xs) (sym (add-one n))

first_of : (xs : List Pair) (n : ℕ) → slice_get xs n ≡ slice_get (drop n xs) 0
first_of [] zero = refl
first_of [] (suc n) = refl
first_of (x ∷ xs) zero = refl
first_of (x ∷ xs) (suc n) = first_of xs n

-- lists that are the same from a place on have the same pair there
pub same_next : (xs ys : List Pair) (n : ℕ) (p : Pair) → drop n xs ≡ drop n ys → slice_get xs n ≡ Some p → slice_get ys n ≡ Some p
same_next xs ys n p e at = first_of ys n ∙ ap (λ l. slice_get l 0) (sym e) ∙ sym (first_of xs n) ∙ at

pub stays_next : (w : Pair → Bool) (xs : List Pair) (n : ℕ) (p : Pair) → slice_get xs n ≡ Some p → w p ≡ true → filter w (take (n + 1) xs) ≡ filter w (take n xs) ++ p ∷ []
stays_next w xs n p e t = ap (λ k. filter w (take k xs)) (add-one n) ∙ ap (filter w) (take_next xs n p e) ∙ filter_append w (take n xs) (p ∷ []) ∙ rw t refl

pub leaves_next : (w : Pair → Bool) (xs : List Pair) (n : ℕ) (p : Pair) → slice_get xs n ≡ Some p → w p ≡ false → filter w (take (n + 1) xs) ≡ filter w (take n xs)
leaves_next w xs n p e f = ap (λ k. filter w (take k xs)) (add-one n) ∙ ap (filter w) (take_next xs n p e) ∙ filter_append w (take n xs) (p ∷ []) ∙ rw f (append_nil (filter w (take n xs)))

-- ---- who is there
pub walked_none : (w : Pair → Bool) (xs : List Pair) → walked w 0 xs ≡ xs
walked_none w [] = refl
walked_none w (x ∷ xs) = refl

pub walked_all : (w : Pair → Bool) (xs : List Pair) (n : ℕ) → length xs ≤ n → walked w n xs ≡ filter w xs
walked_all w xs n h = ap (λ l. filter w (take n xs) ++ l) (dropped_whole xs n h) ∙ append_nil (filter w (take n xs)) ∙ ap (filter w) (taken_whole xs n h)

-- who stays changes nothing
pub walked_stays : (w : Pair → Bool) (xs : List Pair) (n : ℕ) (p : Pair) → slice_get xs n ≡ Some p → w p ≡ true → walked w (n + 1) xs ≡ walked w n xs
walked_stays w xs n p e t =
    ap (λ l. l ++ drop (n + 1) xs) (stays_next w xs n p e t) ∙ append_assoc (filter w (take n xs)) (p ∷ []) (drop (n + 1) xs) ∙ ap (λ l. filter w (take n xs) ++ l) (sym (drop_next xs n p e))

has_walked : (w : Pair → Bool) (xs : List Pair) (n : ℕ) (q : Pair) → has_pair q (walked w n xs) ≡ ((has_pair q (take n xs) && w q) || has_pair q (drop n xs))
has_walked w xs n q = any_append (same_pair q) (filter w (take n xs)) (drop n xs) ∙ ap (λ b. b || has_pair q (drop n xs)) (has_filter w q (take n xs))

-- who is walked through was there
pub walked_was : (w : Pair → Bool) (xs : List Pair) (n : ℕ) (q : Pair) → has_pair q (walked w n xs) ≡ true → has_pair q xs ≡ true
walked_was w xs n q has =
    ap (has_pair q) (sym (take-append-drop n xs)) ∙ any_append (same_pair q) (take n xs) (drop n xs) ∙ elim (either_one (has_pair q (take n xs) && w q) (has_pair q (drop n xs)) (sym (has_walked w xs n q) ∙ has)) as (λ _. (has_pair q (take n xs) || has_pair q (drop n xs)) ≡ true) [
      | inl a ↦ ap (λ b. b || has_pair q (drop n xs)) (both_true (has_pair q (take n xs)) (w q) a).0
      | inr b ↦ or_right (has_pair q (take n xs)) (has_pair q (drop n xs)) b
    ]

pub walked_has : (w : Pair → Bool) (xs : List Pair) (n : ℕ) (p : Pair) → slice_get xs n ≡ Some p → has_pair p (walked w n xs) ≡ true
walked_has w xs n p e =
    any_append (same_pair p) (filter w (take n xs)) (drop n xs)
    ∙ or_right (has_pair p (filter w (take n xs))) (has_pair p (drop n xs)) (ap (has_pair p) (drop_next xs n p e) ∙ ap (λ b. b || has_pair p (drop (n + 1) xs)) (pair_self p))

-- where one leaves the others stay
pub walked_others : (w : Pair → Bool) (xs : List Pair) (n : ℕ) (p q : Pair) → slice_get xs n ≡ Some p → w p ≡ false → same_pair q p ≡ false → has_pair q (walked w (n + 1) xs) ≡ has_pair q (walked w n xs)
walked_others w xs n p q e f apart =
    ap (λ l. has_pair q (l ++ drop (n + 1) xs)) (leaves_next w xs n p e f) ∙ any_append (same_pair q) (filter w (take n xs)) (drop (n + 1) xs)
    ∙ ap (λ b. has_pair q (filter w (take n xs)) || (b || has_pair q (drop (n + 1) xs))) (sym apart)
    ∙ sym (any_append (same_pair q) (filter w (take n xs)) (drop n xs) ∙ ap (λ l. has_pair q (filter w (take n xs)) || has_pair q l) (drop_next xs n p e))

-- of distinct pairs one is none of those behind it
distinct_behind : (xs : List Pair) (i : ℕ) (p : Pair) → slice_get xs i ≡ Some p → IsDistinct same_pair xs → has_pair p (drop (suc i) xs) ≡ false
unfolding IsDistinct
distinct_behind [] i p e h = cc
distinct_behind (x ∷ xs) zero p e h = let same : x ≡ p = cc in subst (λ (y : Pair). has_pair y xs ≡ false) same (none_left xs x h.0)
distinct_behind (x ∷ xs) (suc i) p e h = distinct_behind xs i p e h.1

pub walked_left : (w : Pair → Bool) (xs : List Pair) (n : ℕ) (p : Pair) → slice_get xs n ≡ Some p → w p ≡ false → IsDistinct same_pair xs → has_pair p (walked w (n + 1) xs) ≡ false
walked_left w xs n p e f distinct =
    has_walked w xs (n + 1) p ∙ ap (λ b. (has_pair p (take (n + 1) xs) && b) || has_pair p (drop (n + 1) xs)) f ∙ ap (λ b. b || has_pair p (drop (n + 1) xs)) (and_false (has_pair p (take (n + 1) xs)))
    ∙ ap (λ k. has_pair p (drop k xs)) (add-one n) ∙ distinct_behind xs n p e distinct

-- so each other is there yet, and none is the one that left
pub walked_apart : (w : Pair → Bool) (xs : List Pair) (n : ℕ) (p q : Pair) → slice_get xs n ≡ Some p → w p ≡ false → IsDistinct same_pair xs → has_pair q (walked w (n + 1) xs) ≡ true → (has_pair q (walked w n xs) ≡ true) × (same_pair q p ≡ false)
walked_apart w xs n p q e f distinct has = elim (same_pair q p) as (λ b. same_pair q p ≡ b → (has_pair q (walked w n xs) ≡ true) × (b ≡ false)) [
  | true ↦ λ t. absurd (let no : false ≡ true = sym (walked_left w xs n p e f distinct) ∙ subst (λ (x : Pair). has_pair x (walked w (n + 1) xs) ≡ true) (pair_is q p t) has in let z : ⊥ = cc in z)
  | false ↦ λ apart. (sym (walked_others w xs n p q e f apart) ∙ has, refl)
] refl

-- ---- the places
drop_one : (xs : List Pair) (n : ℕ) → drop (n + 1) xs ≡ drop 1 (drop n xs)
drop_one xs n = ap (λ k. drop k xs) (add-one n) ∙ by xs n
  where
    by : (xs : List Pair) (n : ℕ) → drop (suc n) xs ≡ drop 1 (drop n xs)
    by [] zero = refl
    by [] (suc n) = refl
    by (x ∷ xs) zero = refl
    by (x ∷ xs) (suc n) = by xs n

pub back_next : (xs ys : List Pair) (n : ℕ) → drop n xs ≡ drop n ys → drop (n + 1) xs ≡ drop (n + 1) ys
back_next xs ys n e = drop_one xs n ∙ ap (drop 1) e ∙ sym (drop_one ys n)

-- who is kept goes to the place behind those that were kept before it
pub front_swapped : (xs : List Pair) (n k : ℕ) (p : Pair) → k ≤ n → slice_get xs n ≡ Some p → take (k + 1) (swap xs n k) ≡ take k xs ++ p ∷ []
front_swapped xs n k p le e = joined xs n k p le (slice_get_within xs n p e) ∙ ap (λ q. take k xs ++ q ∷ []) (get_or_from_slice_get xs n p p e)

-- and the pairs behind its place stay where they are
pub back_swapped : (xs : List Pair) (n k : ℕ) (p : Pair) → k ≤ n → slice_get xs n ≡ Some p → drop (n + 1) (swap xs n k) ≡ drop (n + 1) xs
back_swapped xs n k p le e =
    let lt = slice_get_within xs n p e in
    let inner = set xs n (get_or xs k p) in
    ap (drop (n + 1)) (sym (swap_is xs n k p lt (omega (arith, le, lt))))
    ∙ drop-set-lt (n + 1) inner k (get_or xs n p) (omega (arith, le))
    ∙ drop-set-lt (n + 1) xs n (get_or xs k p) (omega arith)
