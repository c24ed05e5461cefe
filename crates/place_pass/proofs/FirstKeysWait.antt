-- The first of the keys wait: where one of the others joins these, where one of them leaves, where two change places, and where units are admitted.
use Rattle.std.proofs.Common.{◌≡◌, ℕ, zero, suc, ◌+◌, ◌<◌, ◌≤◌, Bool, true, false, cond, not, nat_lt, List, [], ◌∷◌, ◌++◌, length, filter, get_or, set, take, drop, insert, remove, swap, position, None, Some, slice_get, refl, sym, ◌∙◌, ap, subst, arith, inl, inr, length-set, length-append, length-drop, length-take-le, take-append-drop}
use Rattle.std.specs.Prelude.{◌||◌, if◌then◌else◌}
use Rattle.std.specs.Option.{option_map_or}
use Rattle.std.specs.List.{AllByRecursion, IsDistinct, list_any, position_or_len}
use Rattle.std.proofs.Math.Seq.{take-set-lt}
use Rattle.std.proofs.lemmas.List.Sorted.{IsPermutation-swap, list_any-IsPermutation}
use Rattle.std.proofs.lemmas.List.{get_or-take, take-take, take-append-le, take-set-le, take_more_set}
use Rattle.std.proofs.lemmas.List.Edits.{swap_is}
use Rattle.std.proofs.lemmas.List.Folds.{list_any-append}
use Rattle.std.proofs.lemmas.List.Sums.{passes_at_first}
use Rattle.std.proofs.lemmas.Bool.Decides.{nat_tests}
use Rattle.indexmap.specs.IndexSet.{move_index, insert_key}
use Rattle.fuxi_terms.specs.Limits.{most_jobs, most_units}
use Rattle.fuxi_terms.specs.Keys.{Pair}
use Rattle.fuxi_terms.proofs.Alls.{all_front}
use Rattle.fuxi_terms.proofs.Booleans.{both_false, or_right}
use Rattle.spec_roles.specs.Placing.{has_pair}
use Rattle.place_pass.specs.WaitingLines.{same_pair, AreFlags, AreIn, AreSameUnits, IsGrown, IsLine}
use Rattle.place_pass.proofs.FlagsTellWhoWaits.{has_at, others_at}
use Rattle.place_pass.proofs.WaitingLinesLemmas.{append_nil, dropped_whole, either_one, pair_is, pair_self}

-- ---- the first of the keys
-- who is among the first is there
pub had : (f : Pair → Bool) (xs : List Pair) (n : ℕ) → list_any f (take n xs) ≡ true → list_any f xs ≡ true
had f xs n e = ap (list_any f) (sym (take-append-drop n xs)) ∙ list_any-append f (take n xs) (drop n xs) ∙ ap (λ b. b || list_any f (drop n xs)) e

pub none_first : (f : Pair → Bool) (xs : List Pair) (n : ℕ) → list_any f xs ≡ false → list_any f (take n xs) ≡ false
none_first f xs n e = (both_false (list_any f (take n xs)) (list_any f (drop n xs)) (sym (list_any-append f (take n xs) (drop n xs)) ∙ ap (list_any f) (take-append-drop n xs) ∙ e)).0

-- the first that passes is among the first n where its place is below n
pub place_below : (f : Pair → Bool) (xs : List Pair) (n : ℕ) → nat_lt (position_or_len f xs) (length xs) ≡ true → nat_lt (position_or_len f xs) n ≡ list_any f (take n xs)
place_below f [] n e = cc
place_below f (x ∷ xs) zero e = grind (arith, nat_tests)
place_below f (x ∷ xs) (suc n) e = elim (f x) as (λ b. nat_lt (cond (not b) (1 + position_or_len f xs) 0) (suc (length xs)) ≡ true → nat_lt (cond (not b) (1 + position_or_len f xs) 0) (suc n) ≡ (b || list_any f (take n xs))) [
  | true ↦ λ _. grind (arith, nat_tests)
  | false ↦ λ h.
      let k = position_or_len f xs in
      let inner : nat_lt k (length xs) ≡ true = grind (arith, nat_tests, h) in
      let one : nat_lt (1 + k) (suc n) ≡ nat_lt k n = grind (arith, nat_tests) in
      one ∙ place_below f xs n inner
] e

-- what `position` answers
pub placed : (f : Pair → Bool) (xs : List Pair) (i : ℕ) → position f xs ≡ Some i → (position_or_len f xs ≡ i) × (nat_lt (position_or_len f xs) (length xs) ≡ true)
placed f xs i e = elim (nat_lt (position_or_len f xs) (length xs)) as (λ b. cond b (Some (position_or_len f xs)) None ≡ Some i → (position_or_len f xs ≡ i) × (b ≡ true)) [
  | true ↦ λ h. (let same : position_or_len f xs ≡ i = cc in same, refl)
  | false ↦ λ h. cc
] e

pub is_first : (f : Pair → Bool) (xs : List Pair) (i n : ℕ) → position f xs ≡ Some i → nat_lt i n ≡ list_any f (take n xs)
is_first f xs i n e = let at = placed f xs i e in ap (λ k. nat_lt k n) (sym at.0) ∙ place_below f xs n at.1

-- each of the first is there once
pub distinct_first : (n : ℕ) (xs : List Pair) → IsDistinct same_pair xs → IsDistinct same_pair (take n xs)
unfolding IsDistinct
distinct_first zero [] h = tt
distinct_first (suc n) [] h = tt
distinct_first zero (x ∷ xs) h = tt
distinct_first (suc n) (x ∷ xs) h =
    (all_front (λ y. same_pair x y ≡ false) (take n xs) (drop n xs) (subst (AllByRecursion (λ y. same_pair x y ≡ false)) (sym (take-append-drop n xs)) h.0), distinct_first n xs h.1)

-- ---- one joins: it changes places with the first behind the line
pub joined : (xs : List Pair) (i n : ℕ) (d : Pair) → n ≤ i → i < length xs → take (n + 1) (swap xs i n) ≡ take n xs ++ get_or xs i d ∷ []
joined xs i n d le lt =
    let inner = set xs i (get_or xs n d) in
    ap (take (n + 1)) (sym (swap_is xs i n d lt (omega (arith, le, lt))))
    ∙ take_more_set inner n (get_or xs i d) (omega (arith, le, lt, length-set xs i (get_or xs n d)))
    ∙ ap (λ l. l ++ get_or xs i d ∷ []) (take-set-le n xs i (get_or xs n d) le)

-- the key at the place that was found
pub found_pair : (p : Pair) (xs : List Pair) (i : ℕ) → position (same_pair p) xs ≡ Some i → (i < length xs) × (get_or xs i p ≡ p)
found_pair p xs i e =
    let at = placed (same_pair p) xs i e in
    let here = at.0 in
    let test = at.1 in
    let lt : position_or_len (same_pair p) xs < length xs = grind (arith, nat_tests, test) in
    let passes : same_pair p (get_or xs (position_or_len (same_pair p) xs) p) ≡ true = passes_at_first (same_pair p) xs p lt in
    (omega (arith, here, lt), sym (pair_is p (get_or xs i p) (subst (λ k. same_pair p (get_or xs k p) ≡ true) here passes)))

-- ---- two of the line change places
pub first_swapped : (xs : List Pair) (n i j : ℕ) (d : Pair) → i < n → j < n → n ≤ length xs → take n (swap xs i j) ≡ swap (take n xs) i j
first_swapped xs n i j d li lj le =
    let long = length-take-le n xs le in
    let inner = set xs i (get_or xs j d) in
    ap (take n) (sym (swap_is xs i j d (omega (arith, li, le)) (omega (arith, lj, le))))
    ∙ take-set-lt n inner j (get_or xs i d) lj
    ∙ ap (λ ys. set ys j (get_or xs i d)) (take-set-lt n xs i (get_or xs j d) li)
    ∙ (λ k. set (set (take n xs) i (sym (get_or-take n xs j d lj) k)) j (sym (get_or-take n xs i d li) k))
    ∙ swap_is (take n xs) i j d (omega (arith, long, li)) (omega (arith, long, lj))

pub has_swapped : (xs : List Pair) (i j : ℕ) (p : Pair) → i < length xs → j < length xs → has_pair p (swap xs i j) ≡ has_pair p xs
has_swapped xs i j p li lj = sym (list_any-IsPermutation (same_pair p) xs (swap xs i j) (IsPermutation-swap xs (swap xs i j) i j li lj refl))

-- ---- one leaves: it moves to the end of the line
gone : (xs : List Pair) (i n : ℕ) → i ≤ n → take n (take i xs ++ drop (suc i) xs) ≡ take i xs ++ drop (suc i) (take (suc n) xs)
gone [] zero zero le = refl
gone [] zero (suc n) le = refl
gone [] (suc i) zero le = refl
gone [] (suc i) (suc n) le = refl
gone (x ∷ xs) zero n le = refl
gone (x ∷ xs) (suc i) zero le = absurd (omega (arith, le))
gone (x ∷ xs) (suc i) (suc n) le = ap (λ l. x ∷ l) (gone xs i n (omega (arith, le)))

pub moved_behind : (xs : List Pair) (i n : ℕ) (p : Pair) → slice_get xs i ≡ Some p → i ≤ n → n < length xs → take n (move_index xs i n) ≡ take i (take (suc n) xs) ++ drop (suc i) (take (suc n) xs)
moved_behind xs i n p at le lt =
    let rest = take i xs ++ drop (suc i) xs in
    let long : n ≤ length rest = omega (arith, le, lt, length-append (take i xs) (drop (suc i) xs), length-take-le i xs (omega (arith, le, lt)), length-drop (suc i) xs) in
    ap (λ o. take n (option_map_or (λ y. insert (remove xs i) n y) o xs)) at
    ∙ take-append-le n (take n rest) (p ∷ drop n rest) (omega (arith, length-take-le n rest long))
    ∙ take-take n n rest (omega arith)
    ∙ gone xs i n le
    ∙ ap (λ l. l ++ drop (suc i) (take (suc n) xs)) (sym (take-take i (suc n) xs (omega (arith, le))))

-- what stands among the first stands there
pub at_first : (xs : List Pair) (n i : ℕ) (p : Pair) → slice_get (take n xs) i ≡ Some p → slice_get xs i ≡ Some p
at_first [] zero i p e = e
at_first [] (suc n) i p e = e
at_first (x ∷ xs) zero i p e = cc
at_first (x ∷ xs) (suc n) zero p e = e
at_first (x ∷ xs) (suc n) (suc i) p e = at_first xs n i p e

-- the line of one less, where one left
pub left_at : (xs : List Pair) (len i last : ℕ) (p : Pair) → len ≡ last + 1 → slice_get (take len xs) i ≡ Some p → i < len → len ≤ length xs → IsDistinct same_pair xs → take last (move_index xs i last) ≡ filter (λ q. not (same_pair q p)) (take len xs)
left_at xs len i last p e at lt le distinct =
    let is : suc last ≡ len = omega (arith, e) in
    moved_behind xs i last p (at_first xs len i p at) (omega (arith, e, lt)) (omega (arith, e, le))
    ∙ ap (λ k. take i (take k xs) ++ drop (suc i) (take k xs)) is
    ∙ others_at (take len xs) i p at (distinct_first len xs distinct)

-- and where the last one left
pub last_left : (xs : List Pair) (len last : ℕ) (p : Pair) → len ≡ last + 1 → slice_get (take len xs) last ≡ Some p → len ≤ length xs → IsDistinct same_pair xs → take last xs ≡ filter (λ q. not (same_pair q p)) (take len xs)
last_left xs len last p e at le distinct =
    sym (take-take last len xs (omega (arith, e)))
    ∙ sym (append_nil (take last (take len xs)))
    ∙ ap (λ l. take last (take len xs) ++ l) (sym (dropped_whole (take len xs) (suc last) (let long = length-take-le len xs le in omega (arith, e, long))))
    ∙ others_at (take len xs) last p at (distinct_first len xs distinct)

-- who stands in the line is of a job and a unit that there may be
pub may_be : (keys : List Pair) (len : ℕ) (waits : List Bool) → IsLine keys len waits → (i : ℕ) (p : Pair) → slice_get (take len keys) i ≡ Some p → (p.0 < most_jobs) × (p.1 < most_units)
may_be keys len waits h i p at = h.there p.0 p.1 (had (same_pair p) keys len (has_at (take len keys) i p at))

-- ---- units are admitted
none_new : (app : ℕ) (old : List Pair) → IsGrown app 0 old old
none_new app old = record {
  long = omega arith;
  first = λ n le. refl;
  kept = λ p e. e;
  only = λ p e. inl e;
}

pub grown_none : (app : ℕ) (old new : List Pair) → new ≡ old → IsGrown app 0 old new
grown_none app old new e = subst (IsGrown app 0 old) (sym e) (none_new app old)

-- a later count covers it
pub grown_less : (app n m : ℕ) (old new : List Pair) → n ≤ m → IsGrown app n old new → IsGrown app m old new
grown_less app n m old new le h = record {
  long = h.long;
  first = h.first;
  kept = h.kept;
  only = λ p e. elim (h.only p e) [
    | inl was ↦ inl was
    | inr one ↦ inr (one.0, let lt = one.1 in omega (arith, le, lt))
  ];
}

behind : (app n : ℕ) (old new : List Pair) → IsGrown app n old new → IsGrown app (n + 1) old (new ++ (app, n) ∷ [])
behind app n old new h = record {
  long = let l = h.long in omega (arith, l, length-append new ((app, n) ∷ []));
  first = λ m le. take-append-le m new ((app, n) ∷ []) (let l = h.long in omega (arith, l, le)) ∙ h.first m le;
  kept = λ p e. list_any-append (same_pair p) new ((app, n) ∷ []) ∙ ap (λ b. b || has_pair p ((app, n) ∷ [])) (h.kept p e);
  only = λ p e. elim (either_one (has_pair p new) (same_pair p (app, n) || false) (sym (list_any-append (same_pair p) new ((app, n) ∷ [])) ∙ e)) [
    | inl was ↦ (grown_less app n (n + 1) old new (omega arith) h).only p was
    | inr one ↦ inr (let is = pair_is p (app, n) (or_false (same_pair p (app, n)) one) in (ap (λ (q : Pair). q.0) is, let y = ap (λ (q : Pair). q.1) is in omega (arith, y)))
  ];
}
  where
    or_false : (t : Bool) → (t || false) ≡ true → t ≡ true
    or_false true e = refl
    or_false false e = e

pub grown_more : (app n : ℕ) (old new : List Pair) → IsGrown app n old new → IsGrown app (n + 1) old (insert_key same_pair new (app, n))
grown_more app n old new h = elim (has_pair (app, n) new) as (λ b. IsGrown app (n + 1) old (if b then new else new ++ (app, n) ∷ [])) [
  | true ↦ grown_less app n (n + 1) old new (omega arith) h
  | false ↦ behind app n old new h
]

kept_in : (new : List Pair) (p q : Pair) → has_pair q new ≡ true → has_pair q (insert_key same_pair new p) ≡ true
kept_in new p q e = elim (has_pair p new) as (λ b. has_pair q (if b then new else new ++ p ∷ []) ≡ true) [
  | true ↦ e
  | false ↦ list_any-append (same_pair q) new (p ∷ []) ∙ ap (λ b. b || has_pair q (p ∷ [])) e
]

put_in : (new : List Pair) (p : Pair) → has_pair p (insert_key same_pair new p) ≡ true
put_in new p = elim (has_pair p new) as (λ b. has_pair p new ≡ b → has_pair p (if b then new else new ++ p ∷ []) ≡ true) [
  | true ↦ λ e. e
  | false ↦ λ _. list_any-append (same_pair p) new (p ∷ []) ∙ or_right (has_pair p new) (same_pair p p || false) (ap (λ b. b || false) (pair_self p))
] refl

pub in_more : (app n : ℕ) (new : List Pair) → AreIn app n new → AreIn app (n + 1) (insert_key same_pair new (app, n))
in_more app n new h u lt = elim (nat_lt u n) as (λ b. nat_lt u n ≡ b → has_pair (app, u) (insert_key same_pair new (app, n)) ≡ true) [
  | true ↦ λ t. kept_in new (app, n) (app, u) (h u (grind (arith, nat_tests, t)))
  | false ↦ λ f. let is : n ≡ u = grind (arith, nat_tests, f, lt) in subst (λ k. has_pair (app, k) (insert_key same_pair new (app, n)) ≡ true) is (put_in new (app, n))
] refl

-- a line stays one where units are admitted
pub line_grown : (old new : List Pair) (len app count : ℕ) (waits : List Bool) → IsLine old len waits → IsGrown app count old new → app < most_jobs → count ≤ most_units → IsLine new len waits
line_grown old new len app count waits h g la lu = record {
  within = let w = h.within in let l = g.long in omega (arith, w, l);
  there = λ a u e. elim (g.only (a, u) e) [
    | inl was ↦ h.there a u was
    | inr one ↦ let x = one.0 in let y = one.1 in (omega (arith, x, la), omega (arith, y, lu))
  ];
  flags = subst (λ (l : List Pair). AreFlags l waits) (sym (g.first len h.within)) h.flags;
}

-- and where the keys only change places, with flags of those that are the line now
pub line_turned : (old new : List Pair) (len now : ℕ) (before waits : List Bool) → IsLine old len before → length new ≡ length old → AreSameUnits old new → now ≤ length old → AreFlags (take now new) waits → IsLine new now waits
line_turned old new len now before waits h long same le flags = record {
  within = omega (arith, long, le);
  there = λ a u e. h.there a u (sym (same (a, u)) ∙ e);
  flags = flags;
}

pub line_none : (keys : List Pair) (waits : List Bool) → keys ≡ [] → AreFlags [] waits → IsLine keys 0 waits
line_none keys waits e flags = subst (λ (ks : List Pair). IsLine ks 0 waits) (sym e) (record {
  within = omega arith;
  there = λ a u has. let f : false ≡ true = has in cc;
  flags = flags;
})
