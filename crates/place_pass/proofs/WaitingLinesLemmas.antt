-- The line: pairs that are new, and members of what stays and of what joins.
use Rattle.std.proofs.Common.{◌≡◌, ℕ, zero, suc, ◌+◌, ◌<◌, ◌≤◌, Bool, true, false, cond, nat_eq, nat_lt, List, [], ◌∷◌, ◌++◌, length, map, filter, take, drop, refl, sym, ◌∙◌, ap, subst, arith, ◌⊎◌, inl, inr, append_assoc, add-one, Some, slice_get}
use Rattle.std.specs.Prelude.{◌&&◌, ◌||◌}
use Rattle.std.specs.List.{AllByRecursion, IsDistinct, list_any, flat_map}
use Rattle.std.proofs.lemmas.Bool.Decides.{nat_tests}
use Rattle.std.specs.Option.{option_map, unwrap_or}
use Rattle.fuxi_terms.specs.Cluster.{JobRecord}
use Rattle.fuxi_terms.specs.Jobs.{KnownJob, job_of, unit_count}
use Rattle.grant_table.specs.GrantTables.{as_known}
use Rattle.fuxi_terms.specs.Lists.{below}
use Rattle.fuxi_terms.specs.Numbers.{has_number}
use Rattle.fuxi_terms.proofs.Booleans.{both_true, number_is, nat_itself, or_right, and_false, both_false}
use Rattle.fuxi_terms.specs.Keys.{Pair}
use Rattle.spec_roles.specs.Placing.{has_pair}
use Rattle.place_pass.specs.WaitingLines.{same_pair}

-- ---- pairs
pub pair_is : (p q : Pair) → same_pair p q ≡ true → p ≡ q
pair_is p q e = let b = both_true (nat_eq p.0 q.0) (nat_eq p.1 q.1) e in let x = number_is p.0 q.0 b.0 in let y = number_is p.1 q.1 b.1 in λ i. (x i, y i)

pub pair_self : (p : Pair) → same_pair p p ≡ true
pair_self p = let x = nat_itself p.0 in let y = nat_itself p.1 in rw (x, y)

pub pair_turned : (p q : Pair) → same_pair p q ≡ same_pair q p
pair_turned p q = elim (same_pair p q) as (λ b. same_pair p q ≡ b → b ≡ same_pair q p) [
  | true ↦ λ t. let e = pair_is p q t in sym (subst (λ (x : Pair). same_pair q x ≡ true) (sym e) (pair_self q))
  | false ↦ λ f. elim (same_pair q p) as (λ b. same_pair q p ≡ b → false ≡ b) [
    | true ↦ λ t. let e = pair_is q p t in sym f ∙ subst (λ (x : Pair). same_pair p x ≡ true) (sym e) (pair_self p)
    | false ↦ λ _. refl
  ] refl
] refl

pub any_append : {A : Type 0} (f : A → Bool) (xs ys : List A) → list_any f (xs ++ ys) ≡ (list_any f xs || list_any f ys)
any_append f [] ys = refl
any_append f (x ∷ xs) ys = elim (f x) as (λ b. (b || list_any f (xs ++ ys)) ≡ ((b || list_any f xs) || list_any f ys)) [ true ↦ refl | false ↦ any_append f xs ys ]

pub either_one : (a b : Bool) → (a || b) ≡ true → (a ≡ true) ⊎ (b ≡ true)
either_one true b e = inl refl
either_one false b e = inr e

pub none_filter : {A : Type 0} (f q : A → Bool) (xs : List A) → list_any f xs ≡ false → list_any f (filter q xs) ≡ false
none_filter f q [] e = refl
none_filter f q (x ∷ xs) e = let n = both_false (f x) (list_any f xs) e in elim (q x) as (λ b. list_any f (cond b (x ∷ filter q xs) (filter q xs)) ≡ false) [
  | true ↦ ap (λ b. b || list_any f (filter q xs)) n.0 ∙ none_filter f q xs n.1
  | false ↦ none_filter f q xs n.1
]

-- what passes a test of its own has the member where it passes
pub has_filter : (q : Pair → Bool) (p : Pair) (xs : List Pair) → has_pair p (filter q xs) ≡ (has_pair p xs && q p)
has_filter q p [] = refl
has_filter q p (x ∷ xs) = elim (same_pair p x) as (λ b. same_pair p x ≡ b → has_pair p (cond (q x) (x ∷ filter q xs) (filter q xs)) ≡ ((b || has_pair p xs) && q p)) [
  | true ↦ λ t.
      let same : q x ≡ q p = ap q (sym (pair_is p x t)) in
      ap (λ b. has_pair p (cond b (x ∷ filter q xs) (filter q xs))) same ∙ elim (q p) as (λ b. q p ≡ b → has_pair p (cond b (x ∷ filter q xs) (filter q xs)) ≡ b) [
        | true ↦ λ _. ap (λ b. b || has_pair p (filter q xs)) t
        | false ↦ λ f. has_filter q p xs ∙ ap (λ b. has_pair p xs && b) f ∙ and_false (has_pair p xs)
      ] refl
  | false ↦ λ f. elim (q x) as (λ b. has_pair p (cond b (x ∷ filter q xs) (filter q xs)) ≡ (has_pair p xs && q p)) [
    | true ↦ ap (λ b. b || has_pair p (filter q xs)) f ∙ has_filter q p xs
    | false ↦ has_filter q p xs
  ]
] refl

pub filter_append : {A : Type 0} (q : A → Bool) (xs ys : List A) → filter q (xs ++ ys) ≡ filter q xs ++ filter q ys
filter_append q [] ys = refl
filter_append q (x ∷ xs) ys = elim (q x) as (λ b. cond b (x ∷ filter q (xs ++ ys)) (filter q (xs ++ ys)) ≡ cond b (x ∷ filter q xs) (filter q xs) ++ filter q ys) [ true ↦ ap (λ zs. x ∷ zs) (filter_append q xs ys) | false ↦ filter_append q xs ys ]

pub taken_whole : {A : Type 0} (xs : List A) (n : ℕ) → length xs ≤ n → take n xs ≡ xs
taken_whole [] zero h = refl
taken_whole [] (suc n) h = refl
taken_whole (x ∷ xs) zero h = absurd (omega (arith, h))
taken_whole (x ∷ xs) (suc n) h = ap (λ ys. x ∷ ys) (taken_whole xs n (omega (arith, h)))

pub dropped_whole : {A : Type 0} (xs : List A) (n : ℕ) → length xs ≤ n → drop n xs ≡ []
dropped_whole [] zero h = refl
dropped_whole [] (suc n) h = refl
dropped_whole (x ∷ xs) zero h = absurd (omega (arith, h))
dropped_whole (x ∷ xs) (suc n) h = dropped_whole xs n (omega (arith, h))

-- one of distinct pairs is none of those before it
pub distinct_at : (xs : List Pair) (i : ℕ) (p : Pair) → slice_get xs i ≡ Some p → IsDistinct same_pair xs → has_pair p (take i xs) ≡ false
unfolding IsDistinct
distinct_at [] i p e h = cc
distinct_at (x ∷ xs) zero p e h = refl
distinct_at (x ∷ xs) (suc i) p e h =
    let first : same_pair p x ≡ false = pair_turned p x ∙ at xs i h.0 e in
    ap (λ b. b || has_pair p (take i xs)) first ∙ distinct_at xs i p e h.1
  where
    at : (ys : List Pair) (i : ℕ) → AllByRecursion (λ y. same_pair x y ≡ false) ys → slice_get ys i ≡ Some p → same_pair x p ≡ false
    at [] i h e = cc
    at (y ∷ ys) zero h e = let same : y ≡ p = cc in subst (λ (z : Pair). same_pair x z ≡ false) same h.0
    at (y ∷ ys) (suc i) h e = at ys i h.1 e

-- ---- members of what waits
pub has_below : (n u : ℕ) → has_number u (below n) ≡ nat_lt u n
has_below zero u = grind (arith, nat_tests)
has_below (suc n) u = any_append (nat_eq u) (below n) (n ∷ []) ∙ ap (λ b. b || (nat_eq u n || false)) (has_below n u) ∙ last
  where
    last : (nat_lt u n || (nat_eq u n || false)) ≡ nat_lt u (suc n)
    last = grind (arith, nat_tests)

pub has_mapped : (a b u : ℕ) (w : ℕ → Bool) (vs : List ℕ) → has_pair (a, u) (map (λ v. (b, v)) (filter w vs)) ≡ (nat_eq a b && (has_number u vs && w u))
has_mapped a b u w [] = sym (none (nat_eq a b))
  where
    none : (e : Bool) → (e && (false && w u)) ≡ false
    none true = refl
    none false = refl
has_mapped a b u w (v ∷ vs) = elim (nat_eq u v) as (λ t. nat_eq u v ≡ t → has_pair (a, u) (map (λ v. (b, v)) (cond (w v) (v ∷ filter w vs) (filter w vs))) ≡ (nat_eq a b && ((t || has_number u vs) && w u))) [
  | true ↦ λ t.
      let same : w v ≡ w u = ap w (sym (number_is u v t)) in
      ap (λ x. has_pair (a, u) (map (λ v. (b, v)) (cond x (v ∷ filter w vs) (filter w vs)))) same
      ∙ elim (w u) as (λ x. w u ≡ x → has_pair (a, u) (map (λ v. (b, v)) (cond x (v ∷ filter w vs) (filter w vs))) ≡ (nat_eq a b && (true && x))) [
        | true ↦ λ x. ap (λ s. (nat_eq a b && s) || has_pair (a, u) (map (λ v. (b, v)) (filter w vs))) t ∙ ap (λ r. (nat_eq a b && true) || r) (has_mapped a b u w vs) ∙ ap (λ y. (nat_eq a b && true) || (nat_eq a b && (has_number u vs && y))) x ∙ both (nat_eq a b) (has_number u vs)
        | false ↦ λ x. has_mapped a b u w vs ∙ ap (λ y. nat_eq a b && (has_number u vs && y)) x ∙ nor (nat_eq a b) (has_number u vs)
      ] refl
  | false ↦ λ f. elim (w v) as (λ x. has_pair (a, u) (map (λ v. (b, v)) (cond x (v ∷ filter w vs) (filter w vs))) ≡ (nat_eq a b && (has_number u vs && w u))) [
    | true ↦ ap (λ s. (nat_eq a b && s) || has_pair (a, u) (map (λ v. (b, v)) (filter w vs))) f ∙ skip (nat_eq a b) _ ∙ has_mapped a b u w vs
    | false ↦ has_mapped a b u w vs
  ]
] refl
  where
    both : (e h : Bool) → ((e && true) || (e && (h && true))) ≡ (e && (true && true))
    both true h = refl
    both false h = refl

    nor : (e h : Bool) → (e && (h && false)) ≡ (e && (true && false))
    nor true true = refl
    nor true false = refl
    nor false h = refl

    skip : (e r : Bool) → ((e && false) || r) ≡ r
    skip true r = refl
    skip false r = refl

-- a pair waits where its job is one of these and its unit has something out
pub has_flat : (units : ℕ → ℕ) (w : ℕ → ℕ → Bool) (a u : ℕ) (numbers : List ℕ) → has_pair (a, u) (flat_map (λ b. map (λ v. (b, v)) (filter (w b) (below (units b)))) numbers) ≡ (has_number a numbers && (nat_lt u (units a) && w a u))
has_flat units w a u [] = refl
has_flat units w a u (b ∷ bs) =
    any_append (same_pair (a, u)) (map (λ v. (b, v)) (filter (w b) (below (units b)))) (flat_map (λ b. map (λ v. (b, v)) (filter (w b) (below (units b)))) bs)
    ∙ (λ i. (has_mapped a b u (w b) (below (units b)) ∙ ap (λ x. nat_eq a b && (x && w b u)) (has_below (units b) u)) i || has_flat units w a u bs i)
    ∙ elim (nat_eq a b) as (λ t. nat_eq a b ≡ t → ((t && (nat_lt u (units b) && w b u)) || (has_number a bs && (nat_lt u (units a) && w a u))) ≡ ((t || has_number a bs) && (nat_lt u (units a) && w a u))) [
      | true ↦ λ t. ap (λ x. (nat_lt u (units x) && w x u) || (has_number a bs && (nat_lt u (units a) && w a u))) (sym (number_is a b t)) ∙ absorbed (nat_lt u (units a) && w a u) (has_number a bs)
      | false ↦ λ f. refl
    ] refl
  where
    absorbed : (x h : Bool) → (x || (h && x)) ≡ x
    absorbed true h = refl
    absorbed false true = refl
    absorbed false false = refl

pub append_nil : {A : Type 0} (xs : List A) → xs ++ [] ≡ xs
append_nil [] = refl
append_nil (x ∷ xs) = ap (λ ys. x ∷ ys) (append_nil xs)

-- ---- one unit more of a job
map_last : {A B : Type 0} (f : A → B) (q : A → Bool) (xs : List A) (x : A) → map f (filter q (xs ++ x ∷ [])) ≡ map f (filter q xs) ++ cond (q x) (f x ∷ []) []
map_last f q [] x = elim (q x) as (λ b. map f (cond b (x ∷ []) []) ≡ cond b (f x ∷ []) []) [ true ↦ refl | false ↦ refl ]
map_last f q (y ∷ ys) x = elim (q y) as (λ b. map f (cond b (y ∷ filter q (ys ++ x ∷ [])) (filter q (ys ++ x ∷ []))) ≡ map f (cond b (y ∷ filter q ys) (filter q ys)) ++ cond (q x) (f x ∷ []) []) [
  | true ↦ ap (λ zs. f y ∷ zs) (map_last f q ys x)
  | false ↦ map_last f q ys x
]

pub joined_more : (old : List Pair) (r : Pair → Bool) (w : ℕ → Bool) (a n : ℕ) (b : Bool) → (w n && r (a, n)) ≡ b
    → (old ++ filter r (map (λ u. (a, u)) (filter w (below n)))) ++ cond b ((a, n) ∷ []) [] ≡ old ++ filter r (map (λ u. (a, u)) (filter w (below (n + 1))))
joined_more old r w a n b e =
    let f : ℕ → Pair = λ u. (a, u) in
    append_assoc old (filter r (map f (filter w (below n)))) (cond b ((a, n) ∷ []) [])
    ∙ ap (λ xs. old ++ xs) (sym (ap (λ k. filter r (map f (filter w (below k)))) (add-one n) ∙ ap (filter r) (map_last f w (below n) n) ∙ filter_append r (map f (filter w (below n))) (cond (w n) ((a, n) ∷ []) []) ∙ ap (λ xs. filter r (map f (filter w (below n))) ++ xs) (one (w n) ∙ ap (λ t. cond t ((a, n) ∷ []) []) e)))
  where
    one : (x : Bool) → filter r (cond x ((a, n) ∷ []) []) ≡ cond (x && r (a, n)) ((a, n) ∷ []) []
    one true = refl
    one false = refl

pub none_yet : (a n : ℕ) (w : ℕ → Bool) → has_pair (a, n) (map (λ v. (a, v)) (filter w (below n))) ≡ false
none_yet a n w = has_mapped a a n w (below n) ∙ ap (λ b. nat_eq a a && (b && w n)) (has_below n n ∙ below_itself) ∙ off (nat_eq a a)
  where
    below_itself : nat_lt n n ≡ false
    below_itself = grind (arith, nat_tests)

    off : (e : Bool) → (e && (false && w n)) ≡ false
    off true = refl
    off false = refl

-- ---- the numbers of jobs
-- a job with a unit is among the numbers
pub known_number : (js : List JobRecord) (a : ℕ) → 0 < unit_count (as_known js) a → has_number a (map (λ (k : JobRecord). k.number) js) ≡ true
known_number [] a lt = absurd (omega (arith, lt))
known_number (k ∷ ks) a lt = elim (nat_eq k.number a) as (λ t. nat_eq k.number a ≡ t → 0 < length (unwrap_or (option_map (λ (j : KnownJob). j.job.units) (cond t (Some (record { job = k; ended = false })) (job_of (as_known ks) a))) []) → (nat_eq a k.number || has_number a (map (λ (k : JobRecord). k.number) ks)) ≡ true) [
  | true ↦ λ t _. let f : nat_eq a k.number ≡ true = grind (arith, nat_tests, t) in ap (λ b. b || has_number a (map (λ (k : JobRecord). k.number) ks)) f
  | false ↦ λ _ some. or_right (nat_eq a k.number) (has_number a (map (λ (k : JobRecord). k.number) ks)) (known_number ks a some)
] refl lt

-- tests that agree keep the same
pub filter_same : (q r : Pair → Bool) (xs : List Pair) → AllByRecursion (λ p. q p ≡ r p) xs → filter q xs ≡ filter r xs
filter_same q r [] h = refl
filter_same q r (x ∷ xs) h = ap (λ b. cond b (x ∷ filter q xs) (filter q xs)) h.0 ∙ ap (λ zs. cond (r x) (x ∷ zs) zs) (filter_same q r xs h.1)
