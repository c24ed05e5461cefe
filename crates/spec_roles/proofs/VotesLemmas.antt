-- Which machines are judged, and in which order.
use Rattle.std.proofs.Common.{◌≡◌, ◌≢◌, inl, inr, ℕ, zero, suc, ◌+◌, ◌-◌, ◌<◌, ◌≤◌, Bool, true, false, not, ◌&&◌, cond, nat_eq, nat_lt, nat_le, List, [], ◌∷◌, ◌++◌, length, take, drop, filter, All, AllPairs, refl, sym, ap, ◌∙◌, subst, arith, IsPermutation}
use Rattle.std.specs.List.{AllByRecursion}
use Rattle.std.proofs.lemmas.Bool.{cases_Bool, cases_lt}
use Rattle.std.proofs.lemmas.Bool.Decides.{nat_tests}
use Rattle.std.proofs.lemmas.List.{get_or_past, length-take-le, take_all, take-append-drop}
use Rattle.std.proofs.lemmas.List.Elements.{All-from_recursion}
use Rattle.std.proofs.lemmas.List.Kept.{AllPairs-cons}
use Rattle.std.proofs.lemmas.List.Recursion.{is_count_by}
use Rattle.std.proofs.lemmas.List.Sorted.{sum_by-IsPermutation}
use Rattle.fuxi_terms.specs.Lists.{below}
use Rattle.fuxi_terms.specs.Numbers.{has_number}
use Rattle.fuxi_terms.proofs.Alls.{all_more, all_append, all_front, all_passed, all_filter}
use Rattle.fuxi_terms.proofs.Booleans.{number_is, nat_itself, both_false}
use Rattle.fuxi_terms.proofs.Lists.{all_push}
use Rattle.spec_roles.specs.ServedInOrder.{AreOrdered}
use Rattle.spec_roles.specs.Votes.{VotesRecord, GoesBefore, cap, is_marked, is_shut, judged, most_votes, number_shut, open_from, open_with, votes_of}
use Rattle.spec_roles.proofs.ServedInOrderLemmas.{below_rises, ordered_append, ordered_filter}

-- Lists, each of whose members stands so to all behind it
module _ {A : Type 0} where
  pub all_both : (P Q S : A → Type 0) → ((x : A) → P x → Q x → S x) → (xs : List A) → AllByRecursion P xs → AllByRecursion Q xs → AllByRecursion S xs
  all_both P Q S f [] h k = tt
  all_both P Q S f (x ∷ xs) h k = (f x h.0 k.0, all_both P Q S f xs h.1 k.1)

  ordered_front : (R : A → A → Type 0) (xs ys : List A) → AreOrdered R (xs ++ ys) → AreOrdered R xs
  ordered_front R [] ys h = tt
  ordered_front R (x ∷ xs) ys h = (all_front (R x) xs ys h.0, ordered_front R xs ys h.1)

  ordered_take : (R : A → A → Type 0) (n : ℕ) (xs : List A) → AreOrdered R xs → AreOrdered R (take n xs)
  ordered_take R n xs h = ordered_front R (take n xs) (drop n xs) (subst (λ l. AreOrdered R l) (sym (take-append-drop n xs)) h)

  all_take : (P : A → Type 0) (n : ℕ) (xs : List A) → AllByRecursion P xs → AllByRecursion P (take n xs)
  all_take P n xs h = all_front P (take n xs) (drop n xs) (subst (λ l. AllByRecursion P l) (sym (take-append-drop n xs)) h)

  -- by another relation, of members of which more is known
  ordered_of : (R S : A → A → Type 0) (Q : A → Type 0) → ((x y : A) → Q x → Q y → S x y → R x y) → (xs : List A) → AllByRecursion Q xs → AreOrdered S xs → AreOrdered R xs
  ordered_of R S Q f [] q h = tt
  ordered_of R S Q f (x ∷ xs) q h = (all_both Q (S x) (R x) (λ y. f x y q.0) xs q.1 h.0, ordered_of R S Q f xs q.1 h.1)

  pub pairs_ordered : (R : A → A → Type 0) (xs : List A) → AreOrdered R xs → AllPairs R xs
  pairs_ordered R [] h = λ i j d low high. absurd (omega (arith, high))
  pairs_ordered R (x ∷ xs) h = AllPairs-cons R x xs (All-from_recursion (R x) xs h.0) (pairs_ordered R xs h.1)

below_within : (n : ℕ) → AllByRecursion (λ m. m < n) (below n)
below_within zero = tt
below_within (suc n) = all_push (λ m. m < suc n) (below n) n (all_more (λ m. m < n) (λ m. m < suc n) (λ m h. omega (arith, h)) (below n) (below_within n)) (omega arith)

-- how many times a number stands in a list
abbrev pub times : ℕ → List ℕ → ℕ
times z [] = 0
times z (x ∷ xs) = cond (nat_eq z x) (1 + times z xs) (times z xs)

pub times_moved : (z : ℕ) (xs ys : List ℕ) → IsPermutation xs ys → times z ys ≡ times z xs
times_moved z xs ys moved =
    is_count_by (times z) (nat_eq z) refl (λ x xs. refl) ys ∙ sum_by-IsPermutation (λ x. cond (nat_eq z x) 1 0) xs ys moved ∙ sym (is_count_by (times z) (nat_eq z) refl (λ x xs. refl) xs)

pub times-append : (z : ℕ) (xs ys : List ℕ) → times z (xs ++ ys) ≡ times z xs + times z ys
times-append z [] ys = omega arith
times-append z (x ∷ xs) ys =
    let rest = times-append z xs ys in
    elim (nat_eq z x) as (λ b. cond b (1 + times z (xs ++ ys)) (times z (xs ++ ys)) ≡ cond b (1 + times z xs) (times z xs) + times z ys) [ true ↦ omega (arith, rest) | false ↦ rest ]

pub times-filter : (z : ℕ) (p : ℕ → Bool) (xs : List ℕ) → times z (filter p xs) ≡ cond (p z) (times z xs) 0
times-filter z p [] = elim (p z) as (λ b. ◌≡◌ {A = ℕ} 0 (cond b 0 0)) [ true ↦ refl | false ↦ refl ]
times-filter z p (x ∷ xs) =
    let rest = times-filter z p xs in
    elim (cases_Bool (nat_eq z x)) [
      | inl same ↦
          let is : z ≡ x = number_is z x same in
          elim (cases_Bool (p x)) [
            | inl kept ↦
                let here : p z ≡ true = ap p is ∙ kept in
                rw (kept, same, here) (ap (λ n. 1 + n) (rest ∙ ap (λ b. cond b (times z xs) 0) here))
            | inr cut ↦
                let here : p z ≡ false = ap p is ∙ cut in
                rw (cut, same, here) (rest ∙ ap (λ b. cond b (times z xs) 0) here)
          ]
      | inr other ↦
          elim (cases_Bool (p x)) [
            | inl kept ↦ rw (kept, other) rest
            | inr cut ↦ rw (cut, other) rest
          ]
    ]

opened : (b c : Bool) → (not b && c) ≡ true → (b ≡ false) × (c ≡ true)
opened true c h = cc
opened false c h = (refl, h)

-- what is split off at one number of votes
split : (unshut : Bool) (w least more t : ℕ) → cond (unshut && nat_eq w (least + more)) t 0 + cond (unshut && (nat_le least w && nat_lt w (least + more))) t 0 ≡ cond (unshut && (nat_le least w && nat_lt w (least + suc more))) t 0
split true w least more t = grind (arith, nat_tests)
split false w least more t = refl

empty : (unshut : Bool) (w least t : ℕ) → cond (unshut && (nat_le least w && nat_lt w (least + 0))) t 0 ≡ 0
empty true w least t = grind (arith, nat_tests)
empty false w least t = refl

all_tested : (w least : ℕ) → w ≤ most_votes → (nat_le least w && nat_lt w (least + (suc most_votes - least))) ≡ nat_le least w
all_tested w least h = grind (arith, nat_tests, h)

module _ (v : VotesRecord) where
  abbrev HasExactly : ℕ → ℕ → Type 0
  HasExactly n m = (m < length v.votes) × (is_shut v m ≡ false) × (votes_of v m ≡ n)

  abbrev pub HasBetween : ℕ → ℕ → ℕ → Type 0
  HasBetween least more m = (m < length v.votes) × (is_shut v m ≡ false) × (least ≤ votes_of v m) × (votes_of v m < least + more)

  exactly : (n : ℕ) → AllByRecursion (HasExactly n) (open_with v n)
  exactly n =
      let test : ℕ → Bool = λ m. not (is_shut v m) && nat_eq (votes_of v m) n in
      all_both (λ m. m < length v.votes) (λ m. test m ≡ true) (HasExactly n)
      (λ m low passed. let h = opened (is_shut v m) (nat_eq (votes_of v m) n) passed in (low, h.0, number_is (votes_of v m) n h.1))
      (open_with v n)
      (all_filter (λ m. m < length v.votes) test (below (length v.votes)) (below_within (length v.votes)))
      (all_passed (λ m. test m ≡ true) test (below (length v.votes)) (λ m e. e))

  pub between : (least more : ℕ) → AllByRecursion (HasBetween least more) (open_from v least more)
  between least zero = tt
  between least (suc more) =
      all_append (HasBetween least (suc more)) (open_with v (least + more)) (open_from v least more)
      (all_more (HasExactly (least + more)) (HasBetween least (suc more)) (λ m h. (h.0, h.1, omega (arith, h.2), omega (arith, h.2))) (open_with v (least + more)) (exactly (least + more)))
      (all_more (HasBetween least more) (HasBetween least (suc more)) (λ m h. (h.0, h.1, h.2, omega (arith, h.3))) (open_from v least more) (between least more))

  with_order : (n : ℕ) → AreOrdered (GoesBefore v) (open_with v n)
  with_order n =
      ordered_of (GoesBefore v) (λ x y. x < y) (HasExactly n) (λ x y h k low. inr (h.2 ∙ sym k.2, low)) (open_with v n) (exactly n)
      (ordered_filter (λ x y. x < y) (λ m. not (is_shut v m) && nat_eq (votes_of v m) n) (below (length v.votes)) (below_rises (length v.votes)))

  pub from_order : (least more : ℕ) → AreOrdered (GoesBefore v) (open_from v least more)
  from_order least zero = tt
  from_order least (suc more) =
      ordered_append (GoesBefore v) (open_with v (least + more)) (open_from v least more) (with_order (least + more)) (from_order least more)
      (all_more (HasExactly (least + more)) (λ m. AllByRecursion (GoesBefore v m) (open_from v least more))
      (λ m h. all_more (HasBetween least more) (GoesBefore v m) (λ n k. inl (omega (arith, h.2, k.3))) (open_from v least more) (between least more))
      (open_with v (least + more)) (exactly (least + more)))

  times_from : (z least more : ℕ) → times z (open_from v least more) ≡ cond (not (is_shut v z) && (nat_le least (votes_of v z) && nat_lt (votes_of v z) (least + more))) (times z (below (length v.votes))) 0
  times_from z least zero = sym (empty (not (is_shut v z)) (votes_of v z) least (times z (below (length v.votes))))
  times_from z least (suc more) =
      let one = times-filter z (λ m. not (is_shut v m) && nat_eq (votes_of v m) (least + more)) (below (length v.votes)) in
      let rest = times_from z least more in
      times-append z (open_with v (least + more)) (open_from v least more)
      ∙ (λ i. one i + rest i)
      ∙ split (not (is_shut v z)) (votes_of v z) least more (times z (below (length v.votes)))

  -- each machine that may be judged is one of all
  pub times_marked : (z least : ℕ) → votes_of v z ≤ most_votes → times z (open_from v least (suc most_votes - least)) ≡ cond (is_marked v least z) (times z (below (length v.votes))) 0
  times_marked z least h =
      times_from z least (suc most_votes - least)
      ∙ ap (λ b. cond (not (is_shut v z) && b) (times z (below (length v.votes))) 0) (all_tested (votes_of v z) least h)

  pub votes_within : All (λ n. n ≤ most_votes) v.votes → (m : ℕ) → votes_of v m ≤ most_votes
  votes_within all m = elim (cases_lt m (length v.votes)) [ inl low ↦ all m 0 low | inr past ↦ omega (arith, get_or_past v.votes m 0 past) ]

absent : (z : ℕ) (xs : List ℕ) → has_number z xs ≡ false → times z xs ≡ 0
absent z [] h = refl
absent z (x ∷ xs) h =
    let parts = both_false (nat_eq z x) (has_number z xs) h in
    ap (λ b. cond b (1 + times z xs) (times z xs)) parts.0 ∙ absent z xs parts.1

pub times_below : (n m : ℕ) → m < n → 0 < times m (below n)
times_below zero m low = absurd (omega (arith, low))
times_below (suc n) m low =
    let cut = times-append m (below n) (n ∷ []) in
    elim (cases_lt m n) [
      | inl less ↦ omega (arith, cut, times_below n m less)
      | inr same ↦
          let is : m ≡ n = omega (arith, low, same) in
          let last : times m (n ∷ []) ≡ 1 = subst (λ k. times m (k ∷ []) ≡ 1) is (ap (λ b. cond b 1 0) (nat_itself m)) in
          omega (arith, cut, last)
    ]

pub judged_between : (v : VotesRecord) (least percent : ℕ) → AllByRecursion (HasBetween v least (suc most_votes - least)) (judged v least percent)
judged_between v least percent = all_take (HasBetween v least (suc most_votes - least)) (cap v percent - number_shut v) (open_from v least (suc most_votes - least)) (between v least (suc most_votes - least))

pub judged_order : (v : VotesRecord) (least percent : ℕ) → AreOrdered (GoesBefore v) (judged v least percent)
judged_order v least percent = ordered_take (GoesBefore v) (cap v percent - number_shut v) (open_from v least (suc most_votes - least)) (from_order v least (suc most_votes - least))

pub apart : (v : VotesRecord) (m n : ℕ) → GoesBefore v m n → m ≢ n
apart v m n (inl more) = λ e. let same = ap (votes_of v) e in absurd (omega (arith, more, same))
apart v m n (inr tie) = λ e. absurd (omega (arith, tie.1, e))

-- where fewer are judged than may be, all are that may be judged
pub judged_all : (v : VotesRecord) (least percent m : ℕ) → m < length v.votes → votes_of v m ≤ most_votes → is_shut v m ≡ false → least ≤ votes_of v m → has_number m (judged v least percent) ≡ false → cap v percent ≤ length (judged v least percent) + number_shut v
judged_all v least percent m low within unshut enough out =
    let all = open_from v least (suc most_votes - least) in
    let left = cap v percent - number_shut v in
    elim (cases_lt (length all) left) [
      | inl fewer ↦
          let none : times m all ≡ 0 = absent m all (subst (λ l. has_number m l ≡ false) (take_all left all (omega (arith, fewer))) out) in
          let has : nat_le least (votes_of v m) ≡ true = grind (arith, nat_tests, enough) in
          let passes : is_marked v least m ≡ true = ap (λ b. not b && nat_le least (votes_of v m)) unshut ∙ has in
          let some : times m all ≡ times m (below (length v.votes)) = times_marked v m least within ∙ ap (λ b. cond b (times m (below (length v.votes))) 0) passes in
          absurd (omega (arith, none, some, times_below (length v.votes) m low))
      | inr full ↦ let long : length (judged v least percent) ≡ left = length-take-le left all full in omega (arith, long)
    ]

no_members : {A : Type 0} (P : A → Type 0) → ((x : A) → P x → ⊥) → (xs : List A) → AllByRecursion P xs → xs ≡ []
no_members P none [] h = refl
no_members P none (x ∷ xs) h = absurd (none x h.0)

pub judged_none : (v : VotesRecord) (least percent : ℕ) → All (λ n. n < least) v.votes → judged v least percent ≡ []
judged_none v least percent under =
    no_members (HasBetween v least (suc most_votes - least)) (λ m h. let few = under m 0 h.0 in omega (arith, few, h.2)) (judged v least percent) (judged_between v least percent)
