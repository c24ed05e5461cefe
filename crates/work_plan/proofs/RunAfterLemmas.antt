-- Who runs after a change of the plan or of the count.
use Rattle.std.proofs.Common.{◌≡◌, ℕ, zero, suc, ◌+◌, ◌-◌, ◌≤◌, Bool, true, false, cond, not, nat_eq, min, List, [], ◌∷◌, ◌++◌, length, take, filter, refl, sym, ◌∙◌, ap, subst, arith, append-nil, length-append}
use Rattle.std.specs.Prelude.{◌||◌}
use Rattle.std.specs.List.{AllByRecursion}
use Rattle.std.proofs.lemmas.List.{length-take, take_all}
use Rattle.std.proofs.lemmas.Bool.Decides.{nat_tests}
use Rattle.fuxi_terms.specs.Numbers.{has_number}
use Rattle.fuxi_terms.proofs.Alls.{all_append, all_filter}
use Rattle.fuxi_terms.proofs.Booleans.{number_is, nat_itself}
use Rattle.work_plan.specs.Crews.{Distinct}
use Rattle.work_plan.specs.RunAfter.{staying, missing, run_after}

abbrev pub Within : List ℕ → List ℕ → Type 0
Within plan ns = AllByRecursion (λ n. has_number n plan ≡ true) ns

neither : (a b : Bool) → (a || b) ≡ false → (a ≡ false) × (b ≡ false)
neither true b e = cc
neither false b e = (refl, e)

none_of : (a b : Bool) → a ≡ false → b ≡ false → (a || b) ≡ false
none_of a b e f = rw (e, f) refl

other_way : (n x : ℕ) → nat_eq n x ≡ false → nat_eq x n ≡ false
other_way n x h = grind (arith, nat_tests)

has_append : (n : ℕ) (xs ys : List ℕ) → has_number n (xs ++ ys) ≡ (has_number n xs || has_number n ys)
has_append n [] ys = refl
has_append n (x ∷ xs) ys = elim (nat_eq n x) as (λ b. (b || has_number n (xs ++ ys)) ≡ ((b || has_number n xs) || has_number n ys)) [ true ↦ refl | false ↦ has_append n xs ys ]

not_taken : (n k : ℕ) (xs : List ℕ) → has_number n xs ≡ false → has_number n (take k xs) ≡ false
not_taken n zero xs h = refl
not_taken n (suc k) [] h = refl
not_taken n (suc k) (x ∷ xs) h = let b = neither (nat_eq n x) (has_number n xs) h in none_of (nat_eq n x) _ b.0 (not_taken n k xs b.1)

not_filtered : (n : ℕ) (p : ℕ → Bool) (xs : List ℕ) → has_number n xs ≡ false → has_number n (filter p xs) ≡ false
not_filtered n p [] h = refl
not_filtered n p (x ∷ xs) h = let b = neither (nat_eq n x) (has_number n xs) h in elim (p x) as (λ t. has_number n (cond t (x ∷ filter p xs) (filter p xs)) ≡ false) [
  | true ↦ none_of (nat_eq n x) _ b.0 (not_filtered n p xs b.1)
  | false ↦ not_filtered n p xs b.1
]

distinct_filter : (p : ℕ → Bool) (xs : List ℕ) → Distinct xs → Distinct (filter p xs)
distinct_filter p [] d = tt
distinct_filter p (x ∷ xs) d = elim (p x) as (λ t. Distinct (cond t (x ∷ filter p xs) (filter p xs))) [ true ↦ (not_filtered x p xs d.0, distinct_filter p xs d.1) | false ↦ distinct_filter p xs d.1 ]

distinct_take : (n : ℕ) (xs : List ℕ) → Distinct xs → Distinct (take n xs)
distinct_take zero xs d = tt
distinct_take (suc n) [] d = tt
distinct_take (suc n) (x ∷ xs) d = (not_taken x n xs d.0, distinct_take n xs d.1)

-- two lists with nothing in common
distinct_both : (xs ys : List ℕ) → Distinct xs → Distinct ys → AllByRecursion (λ y. has_number y xs ≡ false) ys → Distinct (xs ++ ys)
distinct_both [] ys d e a = e
distinct_both (x ∷ xs) ys d e a = (has_append x xs ys ∙ none_of (has_number x xs) _ d.0 (apart ys a), distinct_both xs ys d.1 e (rest ys a))
  where
    apart : (ys : List ℕ) → AllByRecursion (λ y. has_number y (x ∷ xs) ≡ false) ys → has_number x ys ≡ false
    apart [] a = refl
    apart (y ∷ ys) a = none_of (nat_eq x y) _ (other_way y x (neither (nat_eq y x) _ a.0).0) (apart ys a.1)

    rest : (ys : List ℕ) → AllByRecursion (λ y. has_number y (x ∷ xs) ≡ false) ys → AllByRecursion (λ y. has_number y xs ≡ false) ys
    rest [] a = tt
    rest (y ∷ ys) a = ((neither (nat_eq y x) _ a.0).1, rest ys a.1)

all_take : {A : Type 0} (P : A → Type 0) (n : ℕ) (xs : List A) → AllByRecursion P xs → AllByRecursion P (take n xs)
all_take P zero xs h = tt
all_take P (suc n) [] h = tt
all_take P (suc n) (x ∷ xs) h = (h.0, all_take P n xs h.1)

passes : (p : ℕ → Bool) (xs : List ℕ) → AllByRecursion (λ n. p n ≡ true) (filter p xs)
passes p [] = tt
passes p (x ∷ xs) = elim (p x) as (λ t. p x ≡ t → AllByRecursion (λ n. p n ≡ true) (cond t (x ∷ filter p xs) (filter p xs))) [ true ↦ λ t. (t, passes p xs) | false ↦ λ t. passes p xs ] refl

itself_within : (front xs : List ℕ) → Within (front ++ xs) xs
itself_within front [] = tt
itself_within front (x ∷ xs) = (has_append x front (x ∷ xs) ∙ here (has_number x front) ∙ refl, subst (λ ys. Within ys xs) (moved front) (itself_within (front ++ x ∷ []) xs))
  where
    here : (b : Bool) → (b || (nat_eq x x || has_number x xs)) ≡ true
    here true = refl
    here false = ap (λ t. t || has_number x xs) (nat_itself x)

    moved : (front : List ℕ) → (front ++ x ∷ []) ++ xs ≡ front ++ x ∷ xs
    moved [] = refl
    moved (y ∷ ys) = ap (λ zs. y ∷ zs) (moved ys)

-- of the wanted ones as many are missing as there are more than those that stay
missing_many : (stay plan : List ℕ) → Distinct stay → Distinct plan → Within plan stay → length (missing stay plan) + length stay ≡ length plan
missing_many [] plan d e w = ap (λ n. n + 0) (all_missing plan) ∙ plus_none (length plan)
  where
    all_missing : (plan : List ℕ) → length (missing [] plan) ≡ length plan
    all_missing [] = refl
    all_missing (x ∷ xs) = ap suc (all_missing xs)

    plus_none : (n : ℕ) → n + 0 ≡ n
    plus_none n = omega arith
missing_many (s ∷ stay) plan d e w =
    let r = missing_many stay plan d.1 e w.1 in
    let one = one_less plan e w.0 in
    omega (arith, r, one)
  where
    unchanged : (plan : List ℕ) → has_number s plan ≡ false → length (missing (s ∷ stay) plan) ≡ length (missing stay plan)
    unchanged [] h = refl
    unchanged (x ∷ xs) h = let b = neither (nat_eq s x) (has_number s xs) h in
        ap (λ t. length (cond (not (t || has_number x stay)) (x ∷ missing (s ∷ stay) xs) (missing (s ∷ stay) xs))) (other_way s x b.0)
        ∙ (elim (has_number x stay) as (λ t. length (cond (not t) (x ∷ missing (s ∷ stay) xs) (missing (s ∷ stay) xs)) ≡ length (cond (not t) (x ∷ missing stay xs) (missing stay xs))) [ true ↦ unchanged xs b.1 | false ↦ ap suc (unchanged xs b.1) ])

    one_less : (plan : List ℕ) → Distinct plan → has_number s plan ≡ true → length (missing (s ∷ stay) plan) + 1 ≡ length (missing stay plan)
    one_less [] e h = cc
    one_less (x ∷ xs) e h = elim (nat_eq s x) as (λ t. nat_eq s x ≡ t → length (missing (s ∷ stay) (x ∷ xs)) + 1 ≡ length (missing stay (x ∷ xs))) [
      | true ↦ λ t.
          let same = number_is s x t in
          let back : nat_eq x s ≡ true = ap (λ k. nat_eq x k) same ∙ nat_itself x in
          let fresh : has_number x stay ≡ false = ap (λ k. has_number k stay) (sym same) ∙ d.0 in
          let u = unchanged xs (ap (λ k. has_number k xs) same ∙ e.0) in
          let left = ap (λ b. length (cond (not (b || has_number x stay)) (x ∷ missing (s ∷ stay) xs) (missing (s ∷ stay) xs))) back in
          let right = ap (λ b. length (cond (not b) (x ∷ missing stay xs) (missing stay xs))) fresh in
          omega (arith, u, left, right)
      | false ↦ λ t.
          let back = other_way s x t in
          let there : has_number s xs ≡ true = sym (ap (λ b. b || has_number s xs) t) ∙ h in
          let r = one_less xs e.1 there in
          let left = ap (λ b. length (cond (not (b || has_number x stay)) (x ∷ missing (s ∷ stay) xs) (missing (s ∷ stay) xs))) back in
          let both : length (cond (not (has_number x stay)) (x ∷ missing (s ∷ stay) xs) (missing (s ∷ stay) xs)) + 1 ≡ length (cond (not (has_number x stay)) (x ∷ missing stay xs) (missing stay xs)) =
          elim (has_number x stay) as (λ b. length (cond (not b) (x ∷ missing (s ∷ stay) xs) (missing (s ∷ stay) xs)) + 1 ≡ length (cond (not b) (x ∷ missing stay xs) (missing stay xs))) [ true ↦ r | false ↦ omega (arith, r) ] in
          omega (arith, left, both)
    ] refl

module _ (running plan : List ℕ) (n : ℕ) (distinct : Distinct running) (once : Distinct plan) where
  abbrev stay : List ℕ
  stay = staying running plan n

  stay_distinct : Distinct stay
  stay_distinct = distinct_take n (filter (λ w. has_number w plan) running) (distinct_filter (λ w. has_number w plan) running distinct)

  stay_within : Within plan stay
  stay_within = all_take (λ k. has_number k plan ≡ true) n (filter (λ w. has_number w plan) running) (passes (λ w. has_number w plan) running)

  not_false : (b : Bool) → not b ≡ true → b ≡ false
  not_false true h = cc
  not_false false h = refl

  missing_apart : AllByRecursion (λ y. has_number y stay ≡ false) (missing stay plan)
  missing_apart = by (missing stay plan) (passes (λ w. not (has_number w stay)) plan)
    where
      by : (ys : List ℕ) → AllByRecursion (λ y. not (has_number y stay) ≡ true) ys → AllByRecursion (λ y. has_number y stay ≡ false) ys
      by [] h = tt
      by (y ∷ ys) h = (not_false (has_number y stay) h.0, by ys h.1)

  pub runs_distinct : Distinct (run_after running plan n)
  runs_distinct = distinct_both stay (take (n - length stay) (missing stay plan)) stay_distinct
      (distinct_take (n - length stay) (missing stay plan) (distinct_filter (λ w. not (has_number w stay)) plan once))
      (all_take (λ y. has_number y stay ≡ false) (n - length stay) (missing stay plan) missing_apart)

  pub runs_within : Within plan (run_after running plan n)
  runs_within = all_append (λ k. has_number k plan ≡ true) stay (take (n - length stay) (missing stay plan)) stay_within
      (all_take (λ k. has_number k plan ≡ true) (n - length stay) (missing stay plan) (all_filter (λ k. has_number k plan ≡ true) (λ w. not (has_number w stay)) plan (itself_within [] plan)))

  pub runs_many : length (run_after running plan n) ≡ min n (length plan)
  runs_many =
      let more = missing_many stay plan stay_distinct once stay_within in
      let long = length-append stay (take (n - length stay) (missing stay plan)) in
      let started = length-take (n - length stay) (missing stay plan) in
      let kept = length-take n (filter (λ w. has_number w plan) running) in
      omega (arith, more, long, started, kept)

-- those that run as planned run on
all_pass : (plan ns : List ℕ) → Within plan ns → filter (λ w. has_number w plan) ns ≡ ns
all_pass plan [] w = refl
all_pass plan (n ∷ ns) w = ap (λ t. cond t (n ∷ filter (λ w. has_number w plan) ns) (filter (λ w. has_number w plan) ns)) w.0 ∙ ap (λ ms. n ∷ ms) (all_pass plan ns w.1)

none_long : {A : Type 0} (xs : List A) → length xs ≡ 0 → xs ≡ []
none_long [] h = refl
none_long (x ∷ xs) h = absurd (omega (arith, h))

take_none : {A : Type 0} (n : ℕ) (xs : List A) → n ≡ 0 → take n xs ≡ []
take_none n xs h = ap (λ k. take k xs) h

-- when a count falls the newest stop first
pub the_newest_stop : (running plan : List ℕ) (n : ℕ) → Within plan running → n ≤ length running → run_after running plan n ≡ take n running
the_newest_stop running plan n w le =
    let stay : staying running plan n ≡ take n running = ap (take n) (all_pass plan running w) in
    let full = length-take n running in
    ap (λ s. s ++ take (n - length s) (missing s plan)) stay ∙ ap (λ ms. take n running ++ ms) (take_none (n - length (take n running)) (missing (take n running) plan) (omega (arith, full, le))) ∙ append-nil (take n running)

pub runs_on : (running plan : List ℕ) (n : ℕ) → Distinct running → Distinct plan → Within plan running → length running ≡ min n (length plan) → run_after running plan n ≡ running
runs_on running plan n d e w many =
    let stay : staying running plan n ≡ running = ap (take n) (all_pass plan running w) ∙ take_all n running (omega (arith, many)) in
    let more = missing_many running plan d e w in
    let rest : take (n - length running) (missing running plan) ≡ [] = none_long _ (let l = length-take (n - length running) (missing running plan) in omega (arith, l, more, many)) in
    ap (λ s. s ++ take (n - length s) (missing s plan)) stay ∙ ap (λ ms. running ++ ms) rest ∙ append-nil running
