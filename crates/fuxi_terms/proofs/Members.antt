-- Members of lists, the numbers below a number, and sums over lists.
use Rattle.std.proofs.Common.{◌≡◌, ℕ, zero, suc, ◌<◌, ◌≤◌, Bool, true, false, cond, nat_eq, nat_lt, List, [], ◌∷◌, ◌++◌, map, filter, refl, sym, ◌∙◌, ap, subst, arith, ◌⊎◌, inl, inr}
use Rattle.std.specs.List.{sum_by}
use Rattle.std.proofs.lemmas.List.Sums.{sum_by-cons, sum_by-le-sum_by}
use Rattle.std.proofs.lemmas.Bool.Decides.{nat_tests}
use Rattle.fuxi_terms.specs.Lists.{below, below_each}
use Rattle.std.specs.Prelude.{◌||◌}
use Rattle.fuxi_terms.specs.Limits.{most_resources}
use Rattle.fuxi_terms.specs.Cluster.{ClusterRecord, in_each, is_narrow, in_each_place}
use Rattle.fuxi_terms.proofs.Booleans.{and_true, both_true}

-- a member
abbrev pub In : {A : Type 0} → A → List A → Type 0
In x [] = ⊥
In x (y ∷ ys) = (x ≡ y) ⊎ In x ys

pub in_left : {A : Type 0} (x : A) (xs ys : List A) → In x xs → In x (xs ++ ys)
in_left x [] ys h = absurd h
in_left x (z ∷ zs) ys (inl e) = inl e
in_left x (z ∷ zs) ys (inr h) = inr (in_left x zs ys h)

pub in_right : {A : Type 0} (x : A) (xs ys : List A) → In x ys → In x (xs ++ ys)
in_right x [] ys h = h
in_right x (z ∷ zs) ys h = inr (in_right x zs ys h)

pub sum_le : {A : Type 0} (f g : A → ℕ) (xs : List A) → ((y : A) → f y ≤ g y) → sum_by f xs ≤ sum_by g xs
sum_le f g xs h = sum_by-le-sum_by f g xs h

pub sum_lt : {A : Type 0} (f g : A → ℕ) (x : A) (xs : List A) → ((y : A) → f y ≤ g y) → In x xs → f x < g x → sum_by f xs < sum_by g xs
sum_lt f g x [] h i lt = absurd i
sum_lt f g x (y ∷ ys) h (inl e) lt = let r = sum_le f g ys h in let l : f y < g y = subst (λ z. f z < g z) e lt in rw (sum_by-cons f y ys, sum_by-cons g y ys) (omega (arith, r, l))
sum_lt f g x (y ∷ ys) h (inr i) lt = let r = sum_lt f g x ys h i lt in rw (sum_by-cons f y ys, sum_by-cons g y ys) (omega (arith, r, h y))

pub sum_filter : {A : Type 0} (f : A → ℕ) (q : A → Bool) (xs : List A) → sum_by f (filter q xs) ≤ sum_by f xs
sum_filter f q [] = omega arith
sum_filter f q (x ∷ xs) = let r = sum_filter f q xs in elim (q x) as (λ b. sum_by f (cond b (x ∷ filter q xs) (filter q xs)) ≤ sum_by f (x ∷ xs)) [
  | true ↦ rw (sum_by-cons f x (filter q xs), sum_by-cons f x xs) (omega (arith, r))
  | false ↦ rw (sum_by-cons f x xs) (omega (arith, r))
]

pub both_empty : {A : Type 0} (xs ys : List A) → xs ++ ys ≡ [] → (xs ≡ []) × (ys ≡ [])
both_empty [] ys e = (refl, e)
both_empty (x ∷ xs) ys e = cc

pub mapped_empty : {A B : Type 0} (f : A → B) (xs : List A) → map f xs ≡ [] → xs ≡ []
mapped_empty f [] e = refl
mapped_empty f (x ∷ xs) e = cc

pub none_passes : (q : ℕ → Bool) (m : ℕ) (ms : List ℕ) → filter q ms ≡ [] → In m ms → q m ≡ false
none_passes q m [] e i = absurd i
none_passes q m (n ∷ ms) e i = elim (q n) as (λ b. q n ≡ b → cond b (n ∷ filter q ms) (filter q ms) ≡ [] → q m ≡ false) [
  | true ↦ λ t e. cc
  | false ↦ λ t e. elim i [ inl same ↦ ap q same ∙ t | inr later ↦ none_passes q m ms e later ]
] refl e

pub in_front : (x : ℕ) (xs ys : List ℕ) → In x xs → In x (xs ++ ys)
in_front x [] ys i = absurd i
in_front x (z ∷ xs) ys (inl e) = inl e
in_front x (z ∷ xs) ys (inr i) = inr (in_front x xs ys i)

pub at_last : (x : ℕ) (xs : List ℕ) → In x (xs ++ x ∷ [])
at_last x [] = inl refl
at_last x (z ∷ xs) = inr (at_last x xs)

pub in_below : (n m : ℕ) → nat_lt m n ≡ true → In m (below n)
in_below zero m lt = absurd (let f : m < 0 = grind (arith, nat_tests, lt) in omega (arith, f))
in_below (suc n) m lt = elim (nat_lt m n) as (λ b. nat_lt m n ≡ b → In m (below n ++ n ∷ [])) [
  | true ↦ λ t. in_front m (below n) (n ∷ []) (in_below n m t)
  | false ↦ λ t. let same : m ≡ n = grind (arith, nat_tests, lt, t) in subst (λ k. In k (below n ++ n ∷ [])) (sym same) (at_last n (below n))
] refl

-- what is tested of each number below n
pub each_place : (n : ℕ) (test : ℕ → Bool) (i : ℕ) → below_each n test ≡ true → i < n → test i ≡ true
each_place zero test i h lt = absurd (omega (arith, lt))
each_place (suc n) test i h lt = let b = both_true (below_each n test) (test n) h in elim (nat_eq i n) as (λ t. nat_eq i n ≡ t → test i ≡ true) [
  | true ↦ λ e. let same : i ≡ n = grind (arith, nat_tests) in subst (λ k. test k ≡ true) (sym same) b.1
  | false ↦ λ e. each_place n test i b.0 (grind (arith, nat_tests))
] refl

pub each_from : (n : ℕ) (test : ℕ → Bool) → ((i : ℕ) → i < n → test i ≡ true) → below_each n test ≡ true
each_from zero test h = refl
each_from (suc n) test h = and_true (below_each n test) (test n) (each_from n test (λ i lt. h i (omega (arith, lt)))) (h n (omega arith))

-- a test in each place holds in each resource of the cluster, and the size is 0 in the other places
pub in_each_is : (c : ClusterRecord) (size : ℕ → ℕ) (test : ℕ → Bool) (i : ℕ) → in_each_place c size test ≡ true → i < c.resources → test i ≡ true
in_each_is c size test i h lt = each_place c.resources test i (both_true (is_narrow c size) (in_each c test) h).1 lt

pub narrow_is : (c : ClusterRecord) (size : ℕ → ℕ) (i : ℕ) → is_narrow c size ≡ true → c.resources ≤ i → i < most_resources → size i ≡ 0
narrow_is c size i h le lt = let t = each_place most_resources (λ i. nat_lt i c.resources || nat_eq (size i) 0) i h lt in grind (arith, nat_tests, t)

pub in_each_from : (c : ClusterRecord) (size : ℕ → ℕ) (test : ℕ → Bool) → ((i : ℕ) → i < c.resources → test i ≡ true) → ((i : ℕ) → c.resources ≤ i → i < most_resources → size i ≡ 0) → in_each_place c size test ≡ true
in_each_from c size test t z = and_true (is_narrow c size) (in_each c test)
    (each_from most_resources (λ i. nat_lt i c.resources || nat_eq (size i) 0) (λ i lt. elim (nat_lt i c.resources) as (λ b. nat_lt i c.resources ≡ b → (b || nat_eq (size i) 0) ≡ true) [
      | true ↦ λ _. refl
      | false ↦ λ e. let s : size i ≡ 0 = z i (grind (arith, nat_tests, e)) lt in grind (arith, nat_tests, s)
    ] refl))
    (each_from c.resources test t)
