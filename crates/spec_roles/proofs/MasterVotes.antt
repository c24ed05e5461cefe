-- What is judged of the votes of a master's jobs, and how many machines are banned with it.
use Rattle.std.proofs.Common.{◌≡◌, ◌≢◌, ℕ, zero, suc, ◌+◌, ◌*◌, ◌/◌, ◌-◌, ◌<◌, ◌≤◌, inl, inr, Bool, true, false, cond, nat_eq, List, [], ◌∷◌, length, get_or, map, refl, sym, ap, ◌∙◌, subst, arith, true≢false}
use Rattle.std.specs.Prelude.{◌||◌, count_by, fold}
use Rattle.std.specs.List.{AllByRecursion}
use Rattle.std.proofs.lemmas.Bool.{cases_lt}
use Rattle.std.proofs.lemmas.Bool.Decides.{nat_tests}
use Rattle.std.proofs.lemmas.List.{get_or_append_left, get_or_push, length-map, map-append}
use Rattle.std.proofs.lemmas.List.Sums.{count_by-le-length, sum_by-cons}
use Rattle.fuxi_terms.specs.Cluster.{ClusterRecord, has_machine}
use Rattle.fuxi_terms.specs.Lists.{below}
use Rattle.fuxi_terms.specs.Numbers.{has_number}
use Rattle.fuxi_terms.proofs.Alls.{all_more}
use Rattle.fuxi_terms.proofs.Booleans.{eq_turned, number_is, or_false}
use Rattle.fuxi_terms.proofs.Lists.{length-below}
use Rattle.spec_roles.specs.Masters.{Master}
use Rattle.spec_roles.specs.ServedInOrder.{AreOrdered}
use Rattle.spec_roles.specs.Votes.{GoesBefore, cap, is_shut, judged, marks, most_votes, number_shut, votes_in, votes_of}
use Rattle.spec_roles.proofs.ServedInOrderLemmas.{ordered_more}
use Rattle.spec_roles.proofs.VotesLemmas.{HasBetween, all_both, apart, judged_all, judged_between, judged_order, times, times_below}

-- Counting. A number that is not counted yet counts one more
counts_one : (a b : Bool) (counted often : ℕ) → (b ≡ true → a ≡ false) → cond (a || b) 1 0 + (counted + often) ≡ cond a 1 0 + counted + cond b (1 + often) often
counts_one true true counted often h = absurd (true≢false (h refl))
counts_one true false counted often h = omega arith
counts_one false true counted often h = omega arith
counts_one false false counted often h = omega arith

one_more_counted : (p : ℕ → Bool) (x : ℕ) (ms : List ℕ) → p x ≡ false → count_by (λ m. p m || nat_eq m x) ms ≡ count_by p ms + times x ms
one_more_counted p x [] new = refl
one_more_counted p x (m ∷ ms) new =
    let counted : ℕ = count_by p ms in
    let often : ℕ = times x ms in
    sum_by-cons (λ m. cond (p m || nat_eq m x) 1 0) m ms
    ∙ ap (λ n. cond (p m || nat_eq m x) 1 0 + n) (one_more_counted p x ms new)
    ∙ counts_one (p m) (nat_eq m x) counted often (λ t. ap p (number_is m x t) ∙ new)
    ∙ ap (λ b. cond (p m) 1 0 + counted + cond b (1 + often) often) (eq_turned m x)
    ∙ ap (λ n. n + times x (m ∷ ms)) (sym (sum_by-cons (λ m. cond (p m) 1 0) m ms))

or_moved : (a b c : Bool) → ((a || b) || c) ≡ (a || (b || c))
or_moved true b c = refl
or_moved false b c = refl

pub is_other : (m n : ℕ) → n ≢ m → nat_eq m n ≡ false
is_other m n other = by (nat_eq m n) refl
  where
    by : (b : Bool) → nat_eq m n ≡ b → nat_eq m n ≡ false
    by true t = absurd (other (sym (number_is m n t)))
    by false t = t

-- so do distinct numbers, each of which is there and not counted yet
pub more_counted : (n : ℕ) (p : ℕ → Bool) (ms : List ℕ) → AllByRecursion (λ m. m < n) ms → AllByRecursion (λ m. p m ≡ false) ms → AreOrdered (λ m k. m ≢ k) ms → count_by p (below n) + length ms ≤ count_by (λ m. p m || has_number m ms) (below n)
more_counted n p [] low new distinct =
    let same : count_by (λ m. p m || has_number m []) (below n) ≡ count_by p (below n) = (λ i. count_by (λ m. or_false (p m) i) (below n)) in
    subst (λ k. count_by p (below n) + 0 ≤ k) (sym same) (omega arith)
more_counted n p (m ∷ ms) low new distinct =
    let one = one_more_counted p m (below n) new.0 in
    let some = times_below n m low.0 in
    let others = all_both (λ k. p k ≡ false) (λ k. m ≢ k) (λ k. (p k || nat_eq k m) ≡ false) (λ k e other. ap (λ b. b || nat_eq k m) e ∙ is_other k m other) ms new.1 distinct.0 in
    let rest = more_counted n (λ k. p k || nat_eq k m) ms low.1 others distinct.1 in
    let same : count_by (λ k. (p k || nat_eq k m) || has_number k ms) (below n) ≡ count_by (λ k. p k || has_number k (m ∷ ms)) (below n) = (λ i. count_by (λ k. or_moved (p k) (nat_eq k m) (has_number k ms) i) (below n)) in
    subst (λ k. count_by p (below n) + suc (length ms) ≤ k) same (omega (arith, one, some, rest))

-- distinct numbers below n are at most n
pub few_numbers : (n : ℕ) (ms : List ℕ) → AllByRecursion (λ m. m < n) ms → AreOrdered (λ m k. m ≢ k) ms → length ms ≤ n
few_numbers n ms low distinct =
    let more = more_counted n (λ _. false) ms low (all_more (λ m. m < n) (λ m. false ≡ false) (λ m h. refl) ms low) distinct in
    let most = count_by-le-length (λ m. false || has_number m ms) (below n) in
    let long = length-below n in
    omega (arith, more, most, long)

-- those that pass among what a function makes of a list
count_mapped : (f : ℕ → Bool) (ms : List ℕ) → count_by (λ b. b) (map f ms) ≡ count_by f ms
count_mapped f ms = along 0 ms
  where
    along : (n : ℕ) (ms : List ℕ) → fold (λ a b. a + cond b 1 0) n (map f ms) ≡ fold (λ a m. a + cond (f m) 1 0) n ms
    along n [] = refl
    along n (m ∷ ms) = along (n + cond (f m) 1 0) ms

-- what stands at a number
read_below : {A : Type 0} (f : ℕ → A) (n m : ℕ) (d : A) → m < n → get_or (map f (below n)) m d ≡ f m
read_below f zero m d low = absurd (omega (arith, low))
read_below f (suc n) m d low =
    let long : length (map f (below n)) ≡ n = length-map (below n) f ∙ length-below n in
    ap (λ xs. get_or xs m d) (map-append f (below n) (n ∷ [])) ∙ elim (cases_lt m n) [
      | inl less ↦ get_or_append_left (map f (below n)) (f n ∷ []) d m (omega (arith, long, less)) ∙ read_below f n m d less
      | inr same ↦ let is : n ≡ m = omega (arith, low, same) in get_or_push (map f (below n)) (f n) d m (long ∙ is) ∙ ap f is
    ]

-- The votes of a master's jobs
module _ (c : ClusterRecord) (M : Master) where
  machines : length (votes_in c M).votes ≡ length c.machines
  machines = length-map (below (length c.machines)) (λ m. count_by (λ j. marks M j m) M.jobs) ∙ length-below (length c.machines)

  shut : (m : ℕ) → m < length c.machines → is_shut (votes_in c M) m ≡ has_number m M.bans
  shut m low = read_below (λ m. has_number m M.bans) (length c.machines) m false low

  few_votes : (m : ℕ) → m < length c.machines → votes_of (votes_in c M) m ≤ length M.jobs
  few_votes m low = subst (λ n. n ≤ length M.jobs) (sym (read_below (λ m. count_by (λ j. marks M j m) M.jobs) (length c.machines) m 0 low)) (count_by-le-length (λ j. marks M j m) M.jobs)

  module _ (least percent : ℕ) where
    -- no machine is judged twice
    pub judged_distinct : AreOrdered (λ m k. m ≢ k) (judged (votes_in c M) least percent)
    judged_distinct = ordered_more (GoesBefore (votes_in c M)) (λ m k. m ≢ k) (apart (votes_in c M)) (judged (votes_in c M) least percent) (judged_order (votes_in c M) least percent)

    -- what is judged is there, and not banned
    pub judged_free : AllByRecursion (λ m. (has_machine c m ≡ true) × (has_number m M.bans ≡ false)) (judged (votes_in c M) least percent)
    judged_free = all_more (HasBetween (votes_in c M) least (suc most_votes - least)) (λ m. (has_machine c m ≡ true) × (has_number m M.bans ≡ false)) (λ m h. free m (subst (λ n. m < n) machines h.0) h.1) (judged (votes_in c M) least percent) (judged_between (votes_in c M) least percent)
      where
        free : (m : ℕ) → m < length c.machines → is_shut (votes_in c M) m ≡ false → (has_machine c m ≡ true) × (has_number m M.bans ≡ false)
        free m low unshut = (grind (arith, nat_tests, low), sym (shut m low) ∙ unshut)

    -- where a machine with the least votes is left, as many as the percentage allows are banned
    pub judged_left : length M.jobs ≤ most_votes → (m : ℕ) → has_machine c m ≡ true → least ≤ votes_of (votes_in c M) m → has_number m M.bans ≡ false → has_number m (judged (votes_in c M) least percent) ≡ false
        → length c.machines * percent / 100 ≤ count_by (λ m. has_number m M.bans || has_number m (judged (votes_in c M) least percent)) (below (length c.machines))
    judged_left few m there enough unbanned out =
        let low : m < length c.machines = grind (arith, nat_tests, there) in
        let within : votes_of (votes_in c M) m ≤ most_votes = (let v = few_votes m low in omega (arith, v, few)) in
        let full = judged_all (votes_in c M) least percent m (subst (λ n. m < n) (sym machines) low) within (shut m low ∙ unbanned) enough out in
        let all : cap (votes_in c M) percent ≡ length c.machines * percent / 100 = ap (λ n. n * percent / 100) machines in
        let before : number_shut (votes_in c M) ≡ count_by (λ m. has_number m M.bans) (below (length c.machines)) = count_mapped (λ m. has_number m M.bans) (below (length c.machines)) in
        let more = more_counted (length c.machines) (λ m. has_number m M.bans) (judged (votes_in c M) least percent)
        (all_more (λ m. (has_machine c m ≡ true) × (has_number m M.bans ≡ false)) (λ m. m < length c.machines) (λ m h. let t = h.0 in grind (arith, nat_tests, t)) (judged (votes_in c M) least percent) judged_free)
        (all_more (λ m. (has_machine c m ≡ true) × (has_number m M.bans ≡ false)) (λ m. has_number m M.bans ≡ false) (λ m h. h.1) (judged (votes_in c M) least percent) judged_free) judged_distinct in
        omega (arith, full, all, before, more)
