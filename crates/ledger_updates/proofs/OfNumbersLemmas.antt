-- Entries of one number, runs of them, and numbers that stand once.
use Rattle.std.proofs.Common.{◌≡◌, ℕ, zero, suc, ◌+◌, ◌-◌, ◌<◌, ◌≤◌, Bool, true, false, cond, not, nat_eq, nat_lt, List, [], ◌∷◌, length, length-set, length-append, get_or, take, drop, map, slice_get, set, Some, None, refl, sym, ◌∙◌, ap, subst, arith}
use Rattle.std.specs.Prelude.{◌||◌, filter}
use Rattle.std.specs.Option.{unwrap_or}
use Rattle.std.specs.List.{AllByRecursion, list_any, dedup, dedup_from}
use Rattle.std.specs.List.Sorted.{IsPermutation, IsStableByKey, IsNonDecreasingBy, IsStrictlySortedBy, ties}
use Rattle.std.specs.Ordering.{nat_cmp, is_lt}
use Rattle.std.specs.declared.cmp.Ordering.TheVariants.{Less}
use Rattle.std.proofs.lemmas.Bool.Decides.{nat_tests}
use Rattle.std.proofs.lemmas.List.Elements.{filter_agree}
use Rattle.std.proofs.Math.Seq.{take-append-add}
use Rattle.std.proofs.lemmas.List.{get_or-map, get_or-take, get_or-append-add, length-take-le, length-map}
use Rattle.std.proofs.lemmas.List.Folds.{list_any-append, list_any_more, list_any_none, list_any_at}
use Rattle.std.proofs.lemmas.List.Sorted.{length_permutation}
use Rattle.std.proofs.lemmas.Option.{slice_get_read, slice_get_within}
use Rattle.fuxi_terms.specs.Numbers.{has_number}
use Rattle.fuxi_terms.proofs.Booleans.{both_false, eq_turned, number_is, or_false}
use Rattle.ledger_updates.specs.OfNumbers.{of_number, turn, turns, AreReached}

-- what stands before the run, and behind it, does not pass
module _ {X : Type 0} (p : X → Bool) where
  pub passed_over : (i : ℕ) (xs : List X) → ((k : ℕ) (d : X) → k < i → p (get_or xs k d) ≡ false) → filter p (drop i xs) ≡ filter p xs
  passed_over zero xs h = refl
  passed_over (suc i) [] h = refl
  passed_over (suc i) (x ∷ xs) h = passed_over i xs (λ k d lt. h (suc k) d (omega (arith, lt))) ∙ sym (ap (λ b. cond b (x ∷ filter p xs) (filter p xs)) (h 0 x (omega arith)))

  pub run_passes : (i : ℕ) (xs : List X) → ((k : ℕ) (d : X) → k < i → p (get_or xs k d) ≡ true) → ((k : ℕ) (d : X) → i ≤ k → k < length xs → p (get_or xs k d) ≡ false) → take i xs ≡ filter p xs
  run_passes zero [] h g = refl
  run_passes zero (x ∷ xs) h g = run_passes zero xs (λ k d lt. absurd (omega (arith, lt))) (λ k d le lt. g (suc k) d (omega arith) (omega (arith, lt))) ∙ sym (ap (λ b. cond b (x ∷ filter p xs) (filter p xs)) (g 0 x (omega arith) (omega arith)))
  run_passes (suc i) [] h g = refl
  run_passes (suc i) (x ∷ xs) h g = ap (λ ys. x ∷ ys) (run_passes i xs (λ k d lt. h (suc k) d (omega (arith, lt))) (λ k d le lt. g (suc k) d (omega (arith, le)) (omega (arith, lt)))) ∙ sym (ap (λ b. cond b (x ∷ filter p xs) (filter p xs)) (h 0 x (omega arith)))

-- what stands once passes a test where all does
module _ {X : Type 0} (E : X → X → Bool) (p : X → Bool) (alike : (x k : X) → E x k ≡ true → p x ≡ p k) where
  once_from : (k : X) (xs : List X) → list_any p (dedup_from E k xs) ≡ (p k || list_any p xs)
  once_from k [] = refl
  once_from k (x ∷ xs) = by (E x k) refl (once_from k xs) (once_from x xs)
    where
      twice : (b c : Bool) → (b || c) ≡ (b || (b || c))
      twice true c = refl
      twice false c = refl

      by : (c : Bool) → E x k ≡ c → list_any p (dedup_from E k xs) ≡ (p k || list_any p xs) → list_any p (dedup_from E x xs) ≡ (p x || list_any p xs) → list_any p (cond c (dedup_from E k xs) (k ∷ dedup_from E x xs)) ≡ (p k || (p x || list_any p xs))
      by true same rest other = rest ∙ twice (p k) (list_any p xs) ∙ ap (λ b. p k || (b || list_any p xs)) (sym (alike x k same))
      by false same rest other = ap (λ b. p k || b) other

  pub any_once : (xs : List X) → list_any p (dedup E xs) ≡ list_any p xs
  any_once [] = refl
  any_once (x ∷ xs) = once_from x xs

-- ---- the entries of one number
pub of_mapped : {Z X : Type 0} (n : ℕ) (number : Z → ℕ) (f : Z → X) (zs : List Z) → of_number n (map (λ z. (number z, f z)) zs) ≡ map f (filter (λ z. nat_eq (number z) n) zs)
of_mapped n number f [] = refl
of_mapped {Z} {X} n number f (z ∷ zs) = by (nat_eq (number z) n) (of_mapped n number f zs)
  where
    by : (b : Bool) → of_number n (map (λ z. (number z, f z)) zs) ≡ map f (filter (λ z. nat_eq (number z) n) zs)
        → map {A = ℕ × X} (λ e. e.1) (cond b ((number z, f z) ∷ filter (λ e. nat_eq e.0 n) (map (λ z. (number z, f z)) zs)) (filter (λ e. nat_eq e.0 n) (map (λ z. (number z, f z)) zs))) ≡ map f (cond b (z ∷ filter (λ z. nat_eq (number z) n) zs) (filter (λ z. nat_eq (number z) n) zs))
    by true rest = ap (λ xs. f z ∷ xs) rest
    by false rest = rest

pub none_of : {X : Type 0} (n : ℕ) (es : List (ℕ × X)) → has_number n (map (λ e. e.0) es) ≡ false → of_number n es ≡ []
none_of n [] h = refl
none_of n (e ∷ es) h =
    let p = both_false (nat_eq n e.0) (has_number n (map (λ e. e.0) es)) h in
    ap (λ b. map (λ e. e.1) (cond b (e ∷ filter (λ e. nat_eq e.0 n) es) (filter (λ e. nat_eq e.0 n) es))) (eq_turned e.0 n ∙ p.0) ∙ none_of n es p.1

-- a stable sort leaves them
pub sorted_of : {X : Type 0} (n : ℕ) (xs ys : List (ℕ × X)) → IsPermutation xs ys → IsStableByKey (λ e. e.0) nat_cmp xs ys → of_number n ys ≡ of_number n xs
sorted_of n [] [] p h = refl
sorted_of n [] (y ∷ ys) p h = absurd (omega (arith, length_permutation [] (y ∷ ys) p))
sorted_of {X} n (x ∷ xs) ys p h = ap (map (λ e. e.1)) (sym (tied ys) ∙ h (n, x.1) ∙ tied (x ∷ xs))
  where
    tied : (zs : List (ℕ × X)) → filter (ties (λ d e. is_lt (nat_cmp d.0 e.0)) (n, x.1)) zs ≡ filter (λ e. nat_eq e.0 n) zs
    tied zs = filter_agree _ _ (λ e. grind (arith, nat_tests)) zs

-- whether there is one
pub run_has : {X : Type 0} (n : ℕ) (es : List (ℕ × X)) → nat_eq (length (filter (λ e. nat_eq e.0 n) es)) 0 ≡ not (has_number n (map (λ e. e.0) es))
run_has n [] = refl
run_has {X} n (e ∷ es) = ap (λ b. nat_eq (length (cond b (e ∷ filter (λ e. nat_eq e.0 n) es) (filter (λ e. nat_eq e.0 n) es))) 0) (eq_turned e.0 n) ∙ by (nat_eq n e.0) (run_has n es)
  where
    by : (b : Bool) → nat_eq (length (filter (λ e. nat_eq e.0 n) es)) 0 ≡ not (has_number n (map (λ e. e.0) es))
        → nat_eq (length (cond b (e ∷ filter (λ e. nat_eq e.0 n) es) (filter (λ e. nat_eq e.0 n) es))) 0 ≡ not (b || has_number n (map (λ e. e.0) es))
    by true rest = grind (arith, nat_tests)
    by false rest = rest

-- of entries in the order of their numbers, one whose number is above that of the one before it is the first with it
module _ {X : Type 0} (es : List (ℕ × X)) (rising : IsNonDecreasingBy (λ e. e.0) es) (k : ℕ) (d f : ℕ × X) (next : k + 1 < length es) where
  abbrev keys : List ℕ
  keys = map (λ e. e.0) es

  abbrev key : ℕ
  key = get_or keys (k + 1) 0

  long : length (take (k + 1) keys) ≡ k + 1
  long = length-take-le (k + 1) keys (let l = length-map es (λ e. e.0) in omega (arith, l, next))

  pub first_is : (b : Bool) → nat_lt (get_or es k d).0 (get_or es (k + 1) f).0 ≡ b → b ≡ not (has_number key (take (k + 1) keys))
  first_is true is = ap not (sym (list_any_none (nat_eq key) (take (k + 1) keys) (λ j e lt.
      let read = get_or-take (k + 1) keys j e (omega (arith, lt, long)) ∙ get_or-map (λ e. e.0) es j d e (omega (arith, lt, long, next)) in
      let le = rising j k d (omega (arith, lt, long)) (omega (arith, next)) in
      let here = get_or-map (λ e. e.0) es (k + 1) f 0 next in
      grind (arith, nat_tests, is, read, le, here))))
  first_is false is = ap not (sym (list_any_at (nat_eq key) (take (k + 1) keys) k 0 (omega (arith, long)) (
      let read = get_or-take (k + 1) keys k 0 (omega arith) ∙ get_or-map (λ e. e.0) es k d 0 (omega (arith, next)) in
      let le = rising k (k + 1) d (omega arith) next in
      let here = get_or-map (λ e. e.0) es (k + 1) f 0 next in
      let same = get_or-map (λ e. e.0) es (k + 1) d 0 next in
      grind (arith, nat_tests, is, read, le, here, same))))

-- ---- turns
pub turns_length : {X : Type 0} (es : List (ℕ × X)) (others : List ℕ) → length (turns es others) ≡ length es + length others
turns_length es others = length-append (map (λ e. e.0) es) others ∙ ap (λ n. n + length others) (length-map es (λ e. e.0))

pub turn_of_other : {X : Type 0} (es : List (ℕ × X)) (others : List ℕ) (j : ℕ)
    → turn (length es + j) (turns es others) ≡ cond (has_number (get_or others j 0) (map (λ e. e.0) es) || has_number (get_or others j 0) (take j others)) None (Some (get_or others j 0))
turn_of_other es others j =
    let ns = map (λ e. e.0) es in
    let at : length es + j ≡ length ns + j = ap (λ n. n + j) (sym (length-map es (λ e. e.0))) in
    let got = get_or-append-add ns others j 0 in
    let front = take-append-add ns others j in
    ap (λ k. turn k (turns es others)) at ∙ (λ i. cond (has_number (got i) (front i)) None (Some (got i))) ∙ ap (λ b. cond b None (Some (get_or others j 0))) (list_any-append (nat_eq (get_or others j 0)) ns (take j others))

pub any_turned : (n : ℕ) (xs : List ℕ) → list_any (λ y. nat_eq y n) xs ≡ has_number n xs
any_turned n [] = refl
any_turned n (x ∷ xs) = ap (λ b. b || list_any (λ y. nat_eq y n) xs) (eq_turned x n) ∙ ap (λ b. nat_eq n x || b) (any_turned n xs)

pub other_turn : {X : Type 0} (es : List (ℕ × X)) (others : List ℕ) (k : ℕ) → length es ≤ k → (a b : Bool) → has_number (get_or others (k - length es) 0) (map (λ e. e.0) es) ≡ a → has_number (get_or others (k - length es) 0) (take (k - length es) others) ≡ b
    → turn k (turns es others) ≡ cond (a || b) None (Some (get_or others (k - length es) 0))
other_turn es others k le a b first second =
    let at : k ≡ length es + (k - length es) = omega (arith, le) in
    ap (λ k. turn k (turns es others)) at ∙ turn_of_other es others (k - length es) ∙ (λ i. cond (first i || second i) None (Some (get_or others (k - length es) 0)))

turn_some : (k : ℕ) (ns : List ℕ) (i : ℕ) → turn k ns ≡ Some i → (get_or ns k 0 ≡ i) × (has_number (get_or ns k 0) (take k ns) ≡ false)
turn_some k ns i is = by (has_number (get_or ns k 0) (take k ns)) refl is
  where
    by : (b : Bool) → has_number (get_or ns k 0) (take k ns) ≡ b → cond b None (Some (get_or ns k 0)) ≡ Some i → (get_or ns k 0 ≡ i) × (has_number (get_or ns k 0) (take k ns) ≡ false)
    by true has is = cc
    by false has is = (ap (λ o. unwrap_or o i) is, has)

turn_none : (k : ℕ) (ns : List ℕ) → turn k ns ≡ None → has_number (get_or ns k 0) (take k ns) ≡ true
turn_none k ns is = by (has_number (get_or ns k 0) (take k ns)) refl is
  where
    by : (b : Bool) → has_number (get_or ns k 0) (take k ns) ≡ b → cond b None (Some (get_or ns k 0)) ≡ None → has_number (get_or ns k 0) (take k ns) ≡ true
    by true has is = has
    by false has is = cc

-- ---- a number of those that rise is not among those before it
pub not_before : (ns : List ℕ) (i d : ℕ) → IsStrictlySortedBy nat_cmp ns → i < length ns → has_number (get_or ns i d) (take i ns) ≡ false
unfolding IsStrictlySortedBy
not_before [] i d h lt = absurd (omega (arith, lt))
not_before (n ∷ ns) zero d h lt = refl
not_before (n ∷ ns) (suc i) d h lt = ap (λ b. b || has_number (get_or ns i d) (take i ns)) (above ns i (omega (arith, lt)) h.0) ∙ not_before ns i d h.1 (omega (arith, lt))
  where
    above : (ms : List ℕ) (i : ℕ) → i < length ms → AllByRecursion (λ m. nat_cmp n m ≡ Less) ms → nat_eq (get_or ms i d) n ≡ false
    above [] i lt h = absurd (omega (arith, lt))
    above (m ∷ ms) zero lt h = let less = h.0 in grind (arith, nat_tests, less)
    above (m ∷ ms) (suc i) lt h = above ms i (omega (arith, lt)) h.1

-- ---- one place that is written
got_same : {X : Type 0} (xs : List X) (i : ℕ) (y : X) → i < length xs → slice_get (set xs i y) i ≡ Some y
got_same [] i y lt = absurd (omega (arith, lt))
got_same (x ∷ xs) zero y lt = refl
got_same (x ∷ xs) (suc i) y lt = got_same xs i y (omega (arith, lt))

got_other : {X : Type 0} (xs : List X) (i j : ℕ) (y : X) → nat_eq j i ≡ false → slice_get (set xs i y) j ≡ slice_get xs j
got_other [] i j y h = refl
got_other (x ∷ xs) zero zero y h = cc
got_other (x ∷ xs) zero (suc j) y h = refl
got_other (x ∷ xs) (suc i) zero y h = refl
got_other (x ∷ xs) (suc i) (suc j) y h = got_other xs i j y (let n : nat_eq (suc j) (suc i) ≡ false = h in grind (arith, nat_tests, n))

-- ---- a walk over peers
module _ {A : Type 0} (P : ℕ → A → A → Type 0) where
  pub none_reached : (old : List A) → AreReached P [] old old
  none_reached old = record { wide = refl; each = λ n x y h. cc; rest = λ n _. refl }

  -- the next peer
  module _ (ns : List ℕ) (k : ℕ) (next : k < length ns) (old new : List A) (h : AreReached P (take k ns) old new) where
    abbrev i : ℕ
    i = get_or ns k 0

    abbrev after : List ℕ
    after = take (k + 1) ns

    more : (n : ℕ) → has_number n after ≡ (has_number n (take k ns) || nat_eq n i)
    more n = list_any_more (nat_eq n) ns k 0 next

    pub untouched : (x : A) → has_number i (take k ns) ≡ false → i < length new → x ≡ get_or new i x → slice_get old i ≡ Some x
    untouched x is_new lt is = sym (h.rest i is_new) ∙ slice_get_read new (length new) i x refl lt is

    was_done : (n : ℕ) → nat_eq n i ≡ false → has_number n after ≡ true → has_number n (take k ns) ≡ true
    was_done n differs is = sym (or_false (has_number n (take k ns))) ∙ ap (λ b. has_number n (take k ns) || b) (sym differs) ∙ sym (more n) ∙ is

    not_done : (n : ℕ) → has_number n after ≡ false → (has_number n (take k ns) ≡ false) × (nat_eq n i ≡ false)
    not_done n is = both_false (has_number n (take k ns)) (nat_eq n i) (sym (more n) ∙ is)

    -- that had its turn
    pub reached_again : turn k ns ≡ None → AreReached P after old new
    reached_again is = record {
      wide = h.wide;
      each = λ n x y has was there. h.each n x y (sym (more_is n) ∙ has) was there;
      rest = λ n has. h.rest n (sym (more_is n) ∙ has);
    }
      where
        more_is : (n : ℕ) → has_number n after ≡ has_number n (take k ns)
        more_is n = more n ∙ elim (nat_eq n i) as (λ b. nat_eq n i ≡ b → (has_number n (take k ns) || b) ≡ has_number n (take k ns)) [
          | true ↦ λ same. let has : has_number n (take k ns) ≡ true = ap (λ n. has_number n (take k ns)) (number_is n i same) ∙ turn_none k ns is in ap (λ b. b || true) has ∙ sym has
          | false ↦ λ _. or_false (has_number n (take k ns))
        ] refl

    -- that is none
    pub reached_over : length old ≤ i → AreReached P after old new
    reached_over le = record {
      wide = h.wide;
      each = λ n x y is was there. elim (nat_eq n i) as (λ b. nat_eq n i ≡ b → P n x y) [
        | true ↦ λ same. let lt = slice_get_within old n x was in let here = number_is n i same in absurd (omega (arith, lt, here, le))
        | false ↦ λ differs. h.each n x y (was_done n differs is) was there
      ] refl;
      rest = λ n is. h.rest n (not_done n is).0;
    }

    -- that becomes another
    pub reached_next : (d e : A) → i < length new → slice_get old i ≡ Some d → P i d e → AreReached P after old (set new i e)
    reached_next d e lt was_here shows = record {
      wide = length-set new i e ∙ h.wide;
      each = λ n x y is was there. elim (nat_eq n i) as (λ b. nat_eq n i ≡ b → P n x y) [
        | true ↦ λ same.
            let at_i = number_is n i same in
            let first : Some d ≡ Some x = sym was_here ∙ ap (slice_get old) (sym at_i) ∙ was in
            let second : Some e ≡ Some y = sym (got_same new i e lt) ∙ ap (slice_get (set new i e)) (sym at_i) ∙ there in
            subst (λ k. P k x y) (sym at_i) (subst (λ y. P i x y) (ap (λ o. unwrap_or o e) second) (subst (λ x. P i x e) (ap (λ o. unwrap_or o d) first) shows))
        | false ↦ λ differs. h.each n x y (was_done n differs is) was (sym (got_other new i n e differs) ∙ there)
      ] refl;
      rest = λ n is. got_other new i n e (not_done n is).1 ∙ h.rest n (not_done n is).0;
    }

    -- a peer whose turn it is: as it was at the start, where there is none, and where it becomes another
    module _ (j : ℕ) (is : turn k ns ≡ Some j) where
      pub at_turn : (d : A) → j < length new → d ≡ get_or new j d → slice_get old j ≡ Some d
      at_turn d = let f = turn_some k ns j is in subst (λ j. j < length new → d ≡ get_or new j d → slice_get old j ≡ Some d) f.0 (λ lt here. untouched d f.1 lt here)

      pub no_turn : length old ≤ j → AreReached P after old new
      no_turn = subst (λ j. length old ≤ j → AreReached P after old new) (turn_some k ns j is).0 reached_over

      pub next_turn : (d e : A) → j < length new → d ≡ get_or new j d → P j d e → AreReached P after old (set new j e)
      next_turn d e =
          let f = turn_some k ns j is in
          subst (λ j. j < length new → d ≡ get_or new j d → P j d e → AreReached P after old (set new j e)) f.0 (λ lt here shows. reached_next d e lt (untouched d f.1 lt here) shows)

-- what is true of each peer that was looked at
pub reached_as : {A : Type 0} (P Q : ℕ → A → A → Type 0) (ns : List ℕ) (old new : List A) → ((n : ℕ) (x y : A) → slice_get old n ≡ Some x → P n x y → Q n x y) → AreReached P ns old new → AreReached Q ns old new
reached_as P Q ns old new go h = record { wide = h.wide; each = λ n x y is was there. go n x y was (h.each n x y is was there); rest = h.rest }
