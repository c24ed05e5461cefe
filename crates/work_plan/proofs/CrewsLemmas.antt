-- Lists of distinct numbers, and squads with one member more or fewer.
use Rattle.std.proofs.Common.{◌≡◌, ◌≢◌, ℕ, zero, suc, ◌+◌, ◌-◌, ◌<◌, ◌≤◌, Bool, true, false, cond, not, nat_eq, List, [], ◌∷◌, ◌++◌, length, map, filter, take, drop, set, get_or, replicate, Some, None, refl, sym, ◌∙◌, ap, subst, arith, add-one, append_assoc, append-nil, length-append, drop-cons}
use Rattle.std.specs.Prelude.{◌||◌}
use Rattle.std.specs.List.{AllByRecursion}
use Rattle.std.proofs.Math.Seq.{take-suc, take-nil}
use Rattle.std.proofs.lemmas.List.{get_or-set_same, get_or-set_other, length-map, map-append, length-take-le, take_more_set, drop-set-lt}
use Rattle.std.proofs.lemmas.List.Elements.{filter-append, filter_more}
use Rattle.std.proofs.lemmas.Bool.Decides.{nat_tests}
use Rattle.fuxi_terms.specs.Numbers.{has_number}
use Rattle.fuxi_terms.proofs.Alls.{all_append, all_front, all_back, all_more}
use Rattle.fuxi_terms.proofs.Booleans.{number_is, nat_itself}
use Rattle.slot_pool.specs.Pools.{PoolRecord, value_at}
use Rattle.slot_pool.specs.declared.pool.Slot.{Slot}
use Rattle.work_plan.specs.PlanKeys.{most_workers}
use Rattle.work_plan.specs.RunAfter.{staying, missing, run_after}
use Rattle.work_plan.specs.Crews.{workers_of, Distinct, IsSquad, Starts, Marks, stay, Settled}
use Rattle.work_plan.specs.declared.squad.Member.{Member}

-- Numbers in lists
pub has_append : (n : ℕ) (xs ys : List ℕ) → has_number n (xs ++ ys) ≡ (has_number n xs || has_number n ys)
has_append n [] ys = refl
has_append n (x ∷ xs) ys = elim (nat_eq n x) as (λ b. (b || has_number n (xs ++ ys)) ≡ ((b || has_number n xs) || has_number n ys)) [ true ↦ refl | false ↦ has_append n xs ys ]

neither : (a b : Bool) → (a || b) ≡ false → (a ≡ false) × (b ≡ false)
neither true b e = cc
neither false b e = (refl, e)

none_of : (a b : Bool) → a ≡ false → b ≡ false → (a || b) ≡ false
none_of a b e f = rw (e, f) refl

pub not_taken : (n k : ℕ) (xs : List ℕ) → has_number n xs ≡ false → has_number n (take k xs) ≡ false
not_taken n zero xs h = refl
not_taken n (suc k) [] h = refl
not_taken n (suc k) (x ∷ xs) h = let b = neither (nat_eq n x) (has_number n xs) h in none_of (nat_eq n x) _ b.0 (not_taken n k xs b.1)

pub not_filtered : (n : ℕ) (p : ℕ → Bool) (xs : List ℕ) → has_number n xs ≡ false → has_number n (filter p xs) ≡ false
not_filtered n p [] h = refl
not_filtered n p (x ∷ xs) h = let b = neither (nat_eq n x) (has_number n xs) h in elim (p x) as (λ t. has_number n (cond t (x ∷ filter p xs) (filter p xs)) ≡ false) [
  | true ↦ none_of (nat_eq n x) _ b.0 (not_filtered n p xs b.1)
  | false ↦ not_filtered n p xs b.1
]

other_way : (n x : ℕ) → nat_eq n x ≡ false → nat_eq x n ≡ false
other_way n x h = grind (arith, nat_tests)

pub distinct_with : (xs : List ℕ) (x : ℕ) → Distinct xs → has_number x xs ≡ false → Distinct (xs ++ x ∷ [])
distinct_with [] x d h = (refl, tt)
distinct_with (y ∷ ys) x d h = let b = neither (nat_eq x y) (has_number x ys) h in
    (has_append y ys (x ∷ []) ∙ none_of (has_number y ys) _ d.0 (none_of (nat_eq y x) false (other_way x y b.0) refl), distinct_with ys x d.1 b.1)

pub distinct_without : (xs : List ℕ) (y : ℕ) (ys : List ℕ) → Distinct (xs ++ y ∷ ys) → Distinct (xs ++ ys)
distinct_without [] y ys d = d.1
distinct_without (x ∷ xs) y ys d =
    let b = neither (has_number x xs) (has_number x (y ∷ ys)) (sym (has_append x xs (y ∷ ys)) ∙ d.0) in
    let e = neither (nat_eq x y) (has_number x ys) b.1 in
    (has_append x xs ys ∙ none_of (has_number x xs) _ b.0 e.1, distinct_without xs y ys d.1)

-- a number of the middle is none of the rest
pub apart_from : (xs : List ℕ) (y : ℕ) (ys : List ℕ) → Distinct (xs ++ y ∷ ys) → has_number y (xs ++ ys) ≡ false
apart_from [] y ys d = d.0
apart_from (x ∷ xs) y ys d =
    let b = neither (has_number x xs) (has_number x (y ∷ ys)) (sym (has_append x xs (y ∷ ys)) ∙ d.0) in
    let e = neither (nat_eq x y) (has_number x ys) b.1 in
    none_of (nat_eq y x) _ (other_way x y e.0) (apart_from xs y ys d.1)

-- Distinct numbers below n are at most n
abbrev others : ℕ → List ℕ → List ℕ
others n xs = filter (λ m. not (nat_eq m n)) xs

others_distinct : (n : ℕ) (xs : List ℕ) → Distinct xs → Distinct (others n xs)
others_distinct n [] d = tt
others_distinct n (x ∷ xs) d = elim (nat_eq x n) as (λ t. Distinct (cond (not t) (x ∷ others n xs) (others n xs))) [
  | true ↦ others_distinct n xs d.1
  | false ↦ (not_filtered x (λ m. not (nat_eq m n)) xs d.0, others_distinct n xs d.1)
]

others_same : (n : ℕ) (xs : List ℕ) → has_number n xs ≡ false → length (others n xs) ≡ length xs
others_same n [] h = refl
others_same n (x ∷ xs) h = let b = neither (nat_eq n x) (has_number n xs) h in
    ap (λ t. length (cond (not t) (x ∷ others n xs) (others n xs))) (other_way n x b.0) ∙ ap suc (others_same n xs b.1)

others_long : (n : ℕ) (xs : List ℕ) → Distinct xs → length xs ≤ length (others n xs) + 1
others_long n [] d = omega arith
others_long n (x ∷ xs) d = let r = others_long n xs d.1 in elim (nat_eq x n) as (λ t. nat_eq x n ≡ t → length (x ∷ xs) ≤ length (cond (not t) (x ∷ others n xs) (others n xs)) + 1) [
  | true ↦ λ e. let same = number_is x n e in let s = others_same n xs (subst (λ k. has_number k xs ≡ false) same d.0) in omega (arith, s)
  | false ↦ λ e. omega (arith, r)
] refl

others_below : (n : ℕ) (xs : List ℕ) → AllByRecursion (λ m. m < n + 1) xs → AllByRecursion (λ m. m < n) (others n xs)
others_below n [] h = tt
others_below n (x ∷ xs) h = elim (nat_eq x n) as (λ t. nat_eq x n ≡ t → AllByRecursion (λ m. m < n) (cond (not t) (x ∷ others n xs) (others n xs))) [
  | true ↦ λ e. others_below n xs h.1
  | false ↦ λ e. (let lt = h.0 in let r : x < n = grind (arith, nat_tests) in r, others_below n xs h.1)
] refl

pub few_distinct : (n : ℕ) (xs : List ℕ) → Distinct xs → AllByRecursion (λ m. m < n) xs → length xs ≤ n
few_distinct zero [] d h = omega arith
few_distinct zero (x ∷ xs) d h = let lt = h.0 in absurd (omega (arith, lt))
few_distinct (suc n) xs d h =
    let below = all_more (λ m. m < suc n) (λ m. m < n + 1) (λ m lt. omega (arith, lt)) xs h in
    let r = few_distinct n (others n xs) (others_distinct n xs d) (others_below n xs below) in
    let l = others_long n xs d in
    omega (arith, r, l)

-- Marks
unmarked_at : (k n : ℕ) → get_or (replicate k false) n false ≡ false
unmarked_at zero n = refl
unmarked_at (suc k) zero = refl
unmarked_at (suc k) (suc n) = unmarked_at k n

pub unmarked : (k : ℕ) → Marks (replicate k false) []
unmarked k = record { each = λ n h. unmarked_at k n }

pub marked_more : (marks : List Bool) (x : ℕ) (front : List ℕ) → length marks ≡ 256 → x < 256 → Marks marks front → Marks (set marks x true) (front ++ x ∷ [])
marked_more marks x front long lt m = record {
  each = λ n h. elim (nat_eq n x) as (λ t. nat_eq n x ≡ t → get_or (set marks x true) n false ≡ has_number n (front ++ x ∷ [])) [
    | true ↦ λ e. let same = number_is n x e in
        let here : x < length marks = omega (arith, long, lt) in
        ap (λ k. get_or (set marks x true) k false) same ∙ get_or-set_same marks x true false here ∙ sym (has_append n front (x ∷ []) ∙ ap (λ b. has_number n front || (b || false)) e ∙ either (has_number n front))
    | false ↦ λ e. let ne : n ≢ x = grind (arith, nat_tests) in
        get_or-set_other marks x n true false ne ∙ m.each n h ∙ sym (has_append n front (x ∷ []) ∙ ap (λ b. has_number n front || (b || false)) e ∙ or_false (has_number n front))
  ] refl;
}
  where
    either : (b : Bool) → (b || true) ≡ true
    either true = refl
    either false = refl

    or_false : (b : Bool) → (b || false) ≡ b
    or_false true = refl
    or_false false = refl

-- the first ones with one more
pub front_more : {A B : Type 0} (f : A → B) (xs : List A) (i : ℕ) (d : A) → i < length xs → map f (take (i + 1) xs) ≡ map f (take i xs) ++ f (get_or xs i d) ∷ []
front_more f xs i d lt = ap (λ k. map f (take k xs)) (add-one i) ∙ ap (map f) (take-suc xs i d lt) ∙ map-append f (take i xs) (get_or xs i d ∷ [])

pub all_get : {A : Type 0} (P : A → Type 0) (xs : List A) (i : ℕ) (d : A) → i < length xs → AllByRecursion P xs → P (get_or xs i d)
all_get P [] i d lt h = absurd (omega (arith, lt))
all_get P (x ∷ xs) zero d lt h = h.0
all_get P (x ∷ xs) (suc i) d lt h = all_get P xs i d (omega (arith, lt)) h.1

pub mapped_get : {A B : Type 0} (P : B → Type 0) (f : A → B) (xs : List A) (i : ℕ) (d : A) → i < length xs → AllByRecursion P (map f xs) → P (f (get_or xs i d))
mapped_get P f [] i d lt h = absurd (omega (arith, lt))
mapped_get P f (x ∷ xs) zero d lt h = h.0
mapped_get P f (x ∷ xs) (suc i) d lt h = mapped_get P f xs i d (omega (arith, lt)) h.1

-- a number that comes later is none of the first ones
pub later_apart : {A : Type 0} (f : A → ℕ) (xs : List A) (i : ℕ) (d : A) → i < length xs → Distinct (map f xs) → has_number (f (get_or xs i d)) (map f (take i xs)) ≡ false
later_apart f [] i d lt h = absurd (omega (arith, lt))
later_apart f (x ∷ xs) zero d lt h = refl
later_apart f (x ∷ xs) (suc i) d lt h = none_of (nat_eq (f (get_or xs i d)) (f x)) _ (other_way (f x) (f (get_or xs i d)) (is_none (f x) xs i d (omega (arith, lt)) h.0)) (later_apart f xs i d (omega (arith, lt)) h.1)
  where
    is_none : (n : ℕ) (xs : List _) (i : ℕ) (d : _) → i < length xs → has_number n (map f xs) ≡ false → nat_eq n (f (get_or xs i d)) ≡ false
    is_none n [] i d lt h = absurd (omega (arith, lt))
    is_none n (x ∷ xs) zero d lt h = (neither (nat_eq n (f x)) _ h).0
    is_none n (x ∷ xs) (suc i) d lt h = is_none n xs i d (omega (arith, lt)) (neither (nat_eq n (f x)) _ h).1

-- The first n, of a list with one item more
pub take_room : {A : Type 0} (n : ℕ) (xs : List A) (x : A) → length (take n xs) < n → take n (xs ++ x ∷ []) ≡ take n xs ++ x ∷ []
take_room zero xs x lt = absurd (omega (arith, lt))
take_room (suc n) [] x lt = ap (λ ys. x ∷ ys) (take-nil n)
take_room (suc n) (y ∷ ys) x lt = ap (λ zs. y ∷ zs) (take_room n ys x (omega (arith, lt)))

pub take_full : {A : Type 0} (n : ℕ) (xs ys : List A) → n ≤ length (take n xs) → take n (xs ++ ys) ≡ take n xs
take_full zero xs ys le = refl
take_full (suc n) [] ys le = absurd (omega (arith, le))
take_full (suc n) (x ∷ xs) ys le = ap (λ zs. x ∷ zs) (take_full n xs ys (omega (arith, le)))

-- Squads
module _ (pool after : PoolRecord ℕ) (slot : Slot) (others_stay : (other : Slot) → other ≢ slot → value_at after other ≡ value_at pool other) where
  -- those with other numbers than the one in this slot stand as they did
  stay_placed : (worker : ℕ) (members : List Member) → value_at pool slot ≡ Some worker → has_number worker (workers_of members) ≡ false
      → AllByRecursion (λ (m : Member). value_at pool m.slot ≡ Some m.worker) members → AllByRecursion (λ (m : Member). value_at after m.slot ≡ Some m.worker) members
  stay_placed worker [] here free h = tt
  stay_placed worker (m ∷ ms) here free h =
      let b = neither (nat_eq worker m.worker) (has_number worker (workers_of ms)) free in (
        others_stay m.slot (λ same. let e : Some m.worker ≡ Some worker = sym h.0 ∙ ap (value_at pool) same ∙ here in let k : m.worker ≡ worker = cc in let f = sym b.0 ∙ ap (λ n. nat_eq worker n) k ∙ nat_itself worker in let g : false ≡ true = f in cc) ∙ h.0,
        stay_placed worker ms here b.1 h.1,
      )

  -- those that are placed while this slot is not live stand as they did
  stay_while_absent : (members : List Member) → value_at pool slot ≡ None → AllByRecursion (λ (m : Member). value_at pool m.slot ≡ Some m.worker) members → AllByRecursion (λ (m : Member). value_at after m.slot ≡ Some m.worker) members
  stay_while_absent [] absent h = tt
  stay_while_absent (m ∷ ms) absent h =
      (others_stay m.slot (λ same. let e : Some m.worker ≡ None = sym h.0 ∙ ap (value_at pool) same ∙ absent in cc) ∙ h.0, stay_while_absent ms absent h.1)

  pub squad_without : (front back : List Member) (worker : ℕ) → let m : Member = record { worker = worker; slot = slot } in IsSquad pool (front ++ m ∷ back) → after.spare ≡ pool.spare + 1 → IsSquad after (front ++ back)
  squad_without front back worker s spare =
      let m : Member = record { worker = worker; slot = slot } in
      let ws = map-append (λ (m : Member). m.worker) front (m ∷ back) in
      let d = subst Distinct ws s.distinct in
      let rest = map-append (λ (m : Member). m.worker) front back in
      let whole = length-append front (m ∷ back) in
      let less = length-append front back in
      let here = all_back (λ (m : Member). value_at pool m.slot ≡ Some m.worker) front (m ∷ back) s.placed in
      let room = s.room in
      record {
        placed = stay_placed worker (front ++ back) here.0 (ap (has_number worker) rest ∙ apart_from (workers_of front) worker (workers_of back) d)
            (all_append (λ (m : Member). value_at pool m.slot ≡ Some m.worker) front back (all_front (λ (m : Member). value_at pool m.slot ≡ Some m.worker) front (m ∷ back) s.placed) here.1);
        within = subst (AllByRecursion (λ n. n < most_workers)) (sym rest)
            (all_append (λ n. n < most_workers) (workers_of front) (workers_of back) (all_front (λ n. n < most_workers) (workers_of front) (worker ∷ workers_of back) (subst (AllByRecursion (λ n. n < most_workers)) ws s.within))
            (all_back (λ n. n < most_workers) (workers_of front) (worker ∷ workers_of back) (subst (AllByRecursion (λ n. n < most_workers)) ws s.within)).1);
        distinct = subst Distinct (sym rest) (distinct_without (workers_of front) worker (workers_of back) d);
        room = omega (arith, room, whole, less, spare);
      }

  pub squad_with : (members : List Member) (worker : ℕ) → let m : Member = record { worker = worker; slot = slot } in IsSquad pool members → value_at pool slot ≡ None → value_at after slot ≡ Some worker → after.spare + 1 ≡ pool.spare
      → has_number worker (workers_of members) ≡ false → worker < most_workers → IsSquad after (members ++ m ∷ [])
  squad_with members worker s absent put spare free lt =
      let m : Member = record { worker = worker; slot = slot } in
      let ws = map-append (λ (m : Member). m.worker) members (m ∷ []) in
      let whole = length-append members (m ∷ []) in
      let room = s.room in
      record {
        placed = all_append (λ (m : Member). value_at after m.slot ≡ Some m.worker) members (m ∷ []) (stay_while_absent members absent s.placed) (put, tt);
        within = subst (AllByRecursion (λ n. n < most_workers)) (sym ws) (all_append (λ n. n < most_workers) (workers_of members) (worker ∷ []) s.within (lt, tt));
        distinct = subst Distinct (sym ws) (distinct_with (workers_of members) worker s.distinct free);
        room = omega (arith, room, whole, spare);
      }

-- there is room for one whose number runs in no slot yet
pub squad_has_room : (pool : PoolRecord ℕ) (members : List Member) (worker : ℕ) → IsSquad pool members → has_number worker (workers_of members) ≡ false → worker < most_workers → (0 < pool.spare) × (length members < most_workers)
squad_has_room pool members worker s free lt =
    let few = few_distinct most_workers (worker ∷ workers_of members) (free, s.distinct) (lt, s.within) in
    let long = length-map members (λ (m : Member). m.worker) in
    let room = s.room in
    (omega (arith, few, long, room), omega (arith, few, long))

-- Starting, number by number
missing_more : (rest xs : List ℕ) (x : ℕ) → missing rest (xs ++ x ∷ []) ≡ missing rest xs ++ missing rest (x ∷ [])
missing_more rest xs x = filter-append (λ w. not (has_number w rest)) xs (x ∷ [])

one_missing : (rest : List ℕ) (x : ℕ) (b : Bool) → has_number x rest ≡ b → missing rest (x ∷ []) ≡ cond (not b) (x ∷ []) []
one_missing rest x b e = ap (λ t. cond (not t) (x ∷ []) []) e

long_after : (before after : List Member) (numbers : List ℕ) → Starts before after numbers → length after ≡ length before + length numbers
long_after before after numbers s = ap length s.behind ∙ length-append before s.started ∙ ap (λ n. length before + n) (sym (length-map s.started (λ (m : Member). m.worker)) ∙ ap length s.are)

module _ (before after : List Member) (rest xs : List ℕ) (most : ℕ) (s : Starts before after (take (most - length before) (missing rest xs))) (x : ℕ) where
  abbrev k : ℕ
  k = most - length before

  -- there are enough
  pub starts_full : most ≤ length after → Starts before after (take k (missing rest (xs ++ x ∷ [])))
  starts_full le =
      let long = long_after before after _ s in
      let full : k ≤ length (take k (missing rest xs)) = omega (arith, long, le) in
      subst (Starts before after) (sym (ap (take k) (missing_more rest xs x) ∙ take_full k (missing rest xs) (missing rest (x ∷ [])) full)) s

  -- it runs already
  pub starts_known : has_number x rest ≡ true → Starts before after (take k (missing rest (xs ++ x ∷ [])))
  starts_known h = subst (Starts before after) (sym (ap (take k) (missing_more rest xs x ∙ ap (λ ys. missing rest xs ++ ys) (one_missing rest x true h) ∙ append-nil (missing rest xs)))) s

  -- it starts
  pub starts_one : has_number x rest ≡ false → length after < most → (slot : Slot) → Starts before (after ++ record { worker = x; slot = slot } ∷ []) (take k (missing rest (xs ++ x ∷ [])))
  starts_one h lt slot =
      let long = long_after before after _ s in
      let m : Member = record { worker = x; slot = slot } in
      let room : length (take k (missing rest xs)) < k = omega (arith, long, lt) in
      record {
        started = s.started ++ m ∷ [];
        behind = ap (λ ms. ms ++ m ∷ []) s.behind ∙ append_assoc before s.started (m ∷ []);
        are = map-append (λ (m : Member). m.worker) s.started (m ∷ []) ∙ ap (λ ns. ns ++ x ∷ []) s.are ∙ sym (take_room k (missing rest xs) x room)
            ∙ sym (ap (take k) (missing_more rest xs x ∙ ap (λ ys. missing rest xs ++ ys) (one_missing rest x false h)));
      }

  -- it does not run yet
  pub not_started : rest ≡ workers_of before → has_number x rest ≡ false → has_number x xs ≡ false → has_number x (workers_of after) ≡ false
  not_started same h j =
      let ws : workers_of after ≡ workers_of before ++ take k (missing rest xs) = ap workers_of s.behind ∙ map-append (λ (m : Member). m.worker) before s.started ∙ ap (λ ns. workers_of before ++ ns) s.are in
      ap (has_number x) ws ∙ has_append x (workers_of before) (take k (missing rest xs)) ∙ none_of (has_number x (workers_of before)) _ (subst (λ ns. has_number x ns ≡ false) same h) (not_taken x k (missing rest xs) (not_filtered x (λ w. not (has_number w rest)) xs j))

-- Stopping, member by member: what stands from the index on is as it was, and before the other index those that stay
module _ (p : Member → Bool) (old now : List Member) (kept i most : ℕ) (m : Member) (front : take kept now ≡ take most (filter p (take i old))) (rest : drop i now ≡ drop i old) (behind : kept ≤ i) (long : length now ≡ length old) (lt : i < length old) (here : m ≡ get_or now i m) where
  lt_now : i < length now
  lt_now = omega (arith, long, lt)

  cut_now : drop i now ≡ m ∷ drop (i + 1) now
  cut_now = drop-cons now i m lt_now ∙ ap (λ (x : Member). x ∷ drop (suc i) now) (sym here) ∙ ap (λ k. m ∷ drop k now) (sym (add-one i))

  both : m ∷ drop (i + 1) now ≡ get_or old i m ∷ drop (i + 1) old
  both = sym cut_now ∙ rest ∙ drop-cons old i m lt ∙ ap (λ k. get_or old i m ∷ drop k old) (sym (add-one i))

  pub same_here : get_or old i m ≡ m
  same_here = let b = both in cc

  pub same_behind : drop (i + 1) now ≡ drop (i + 1) old
  same_behind = let b = both in cc

  more : (b : Bool) → p m ≡ b → filter p (take (i + 1) old) ≡ filter p (take i old) ++ cond b (m ∷ []) []
  more b e = filter_more p old i m lt ∙ ap (λ (x : Member). filter p (take i old) ++ cond (p x) (x ∷ []) []) same_here ∙ ap (λ t. filter p (take i old) ++ cond t (m ∷ []) []) e

  kept_are : length (take most (filter p (take i old))) ≡ kept
  kept_are = ap length (sym front) ∙ length-take-le kept now (omega (arith, behind, lt_now))

  pub goes_on : take kept now ++ drop i now ≡ take kept now ++ m ∷ drop (i + 1) now
  goes_on = ap (λ ms. take kept now ++ ms) cut_now

  -- it stays
  pub front_stays : p m ≡ true → kept < most → take (kept + 1) (set now kept m) ≡ take most (filter p (take (i + 1) old))
  front_stays t room =
      let few : length (take most (filter p (take i old))) < most = omega (arith, kept_are, room) in
      take_more_set now kept m (omega (arith, behind, lt_now)) ∙ ap (λ ms. ms ++ m ∷ []) front ∙ sym (take_room most (filter p (take i old)) m few) ∙ ap (take most) (sym (more true t))

  pub rest_stays : drop (i + 1) (set now kept m) ≡ drop (i + 1) old
  rest_stays = drop-set-lt (i + 1) now kept m (omega (arith, behind)) ∙ same_behind

  pub all_stay : take (kept + 1) (set now kept m) ++ drop (i + 1) (set now kept m) ≡ take kept now ++ drop i now
  all_stay =
      ap (λ ms. ms ++ drop (i + 1) (set now kept m)) (take_more_set now kept m (omega (arith, behind, lt_now)))
      ∙ append_assoc (take kept now) (m ∷ []) (drop (i + 1) (set now kept m))
      ∙ ap (λ ms. take kept now ++ m ∷ ms) (drop-set-lt (i + 1) now kept m (omega (arith, behind)))
      ∙ sym goes_on

  -- it stops
  pub front_full : most ≤ kept → take kept now ≡ take most (filter p (take (i + 1) old))
  front_full le =
      let full : most ≤ length (take most (filter p (take i old))) = omega (arith, kept_are, le) in
      front ∙ sym (ap (take most) (filter_more p old i m lt) ∙ take_full most (filter p (take i old)) (cond (p (get_or old i m)) (get_or old i m ∷ []) []) full)

  pub front_fails : p m ≡ false → take kept now ≡ take most (filter p (take (i + 1) old))
  front_fails f = front ∙ sym (ap (take most) (more false f ∙ append-nil (filter p (take i old))))

pub middle_below : (pool : PoolRecord ℕ) (front : List Member) (m : Member) (back : List Member) → IsSquad pool (front ++ m ∷ back) → m.worker < most_workers
middle_below pool front m back s = (all_back (λ n. n < most_workers) (workers_of front) (workers_of (m ∷ back)) (subst (AllByRecursion (λ n. n < most_workers)) (map-append (λ (m : Member). m.worker) front (m ∷ back)) s.within)).0

-- Who stays, by the marks of what is wanted, and by their numbers
pub marked_stay : (members : List Member) (marks : List Bool) (wanted : List ℕ) (n : ℕ) → Marks marks wanted → AllByRecursion (λ k. k < most_workers) (workers_of members)
    → take n (filter (λ (m : Member). get_or marks m.worker false) members) ≡ stay members wanted n
marked_stay members marks wanted n m within = ap (take n) (same members within)
  where
    same : (ms : List Member) → AllByRecursion (λ k. k < most_workers) (workers_of ms) → filter (λ (m : Member). get_or marks m.worker false) ms ≡ filter (λ (m : Member). has_number m.worker wanted) ms
    same [] h = refl
    same (x ∷ xs) h = ap (λ t. cond t (x ∷ filter (λ (m : Member). get_or marks m.worker false) xs) (filter (λ (m : Member). get_or marks m.worker false) xs)) (m.each x.worker h.0)
        ∙ ap (λ ys. cond (has_number x.worker wanted) (x ∷ ys) ys) (same xs h.1)

taken_workers : (n : ℕ) (ms : List Member) → workers_of (take n ms) ≡ take n (workers_of ms)
taken_workers zero ms = refl
taken_workers (suc n) [] = refl
taken_workers (suc n) (m ∷ ms) = ap (λ ns. m.worker ∷ ns) (taken_workers n ms)

wanted_workers : (wanted : List ℕ) (ms : List Member) → workers_of (filter (λ (m : Member). has_number m.worker wanted) ms) ≡ filter (λ w. has_number w wanted) (workers_of ms)
wanted_workers wanted [] = refl
wanted_workers wanted (m ∷ ms) = elim (has_number m.worker wanted) as (λ t. workers_of (cond t (m ∷ filter (λ (m : Member). has_number m.worker wanted) ms) (filter (λ (m : Member). has_number m.worker wanted) ms)) ≡ cond t (m.worker ∷ filter (λ w. has_number w wanted) (workers_of ms)) (filter (λ w. has_number w wanted) (workers_of ms))) [
  | true ↦ ap (λ ns. m.worker ∷ ns) (wanted_workers wanted ms)
  | false ↦ wanted_workers wanted ms
]

pub stay_is : (members : List Member) (wanted : List ℕ) (n : ℕ) → workers_of (stay members wanted n) ≡ staying (workers_of members) wanted n
stay_is members wanted n = taken_workers n (filter (λ (m : Member). has_number m.worker wanted) members) ∙ ap (take n) (wanted_workers wanted members)

pub settled_runs : (before after : List Member) (wanted : List ℕ) (n : ℕ) → Settled before after wanted n → workers_of after ≡ run_after (workers_of before) wanted n
settled_runs before after wanted n s =
    let rest = stay before wanted n in
    let is = stay_is before wanted n in
    let long = sym (length-map rest (λ (m : Member). m.worker)) in
    ap workers_of s.behind ∙ map-append (λ (m : Member). m.worker) rest s.started ∙ ap (λ ns. workers_of rest ++ ns) s.are
    ∙ ap (λ k. workers_of rest ++ take (n - k) (missing (workers_of rest) wanted)) long
    ∙ ap (λ ns. ns ++ take (n - length ns) (missing ns wanted)) is
