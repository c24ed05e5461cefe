-- Jobs of which nothing was told: none of their units leaves the line, and none is appended.
use Rattle.std.proofs.Common.{◌≡◌, ℕ, ◌+◌, ◌-◌, ◌<◌, ◌≤◌, Bool, true, false, cond, not, nat_eq, nat_lt, List, [], ◌∷◌, ◌++◌, append_assoc, map, filter, get_or, refl, sym, ◌∙◌, ap, subst, arith}
use Rattle.std.specs.Prelude.{◌&&◌, ◌||◌}
use Rattle.std.specs.List.{AllByRecursion, flat_map}
use Rattle.std.proofs.lemmas.Bool.Decides.{nat_tests}
use Rattle.fuxi_terms.specs.Cluster.{JobRecord}
use Rattle.fuxi_terms.proofs.Alls.{all_more}
use Rattle.fuxi_terms.specs.Counts.{count}
use Rattle.fuxi_terms.specs.Jobs.{unit_count}
use Rattle.fuxi_terms.specs.Keys.{spot_cmp, Pair}
use Rattle.fuxi_terms.specs.declared.Key.{Key}
use Rattle.fuxi_terms.specs.Numbers.{has_number}
use Rattle.fuxi_terms.specs.TallyKeys.{want_key}
use Rattle.fuxi_terms.specs.Tables.{spot, held, Table}
use Rattle.fuxi_terms.proofs.Booleans.{both_true, number_is, or_right, not_true, and_with_true, zero_either}
use Rattle.fuxi_terms.proofs.Sums.{sum_set}
use Rattle.spec_roles.specs.Masters.{out_of}
use Rattle.spec_roles.specs.Placing.{has_pair, waiting_in}
use Rattle.grant_table.specs.GrantTables.{TableRecord, as_known, AreJobs}
use Rattle.place_pass.specs.Cells.{Cell, asks_in}
use Rattle.place_pass.specs.WaitingLines.{same_pair}
use Rattle.place_pass.specs.Placers.{IsSetFrom, IsStill}
use Rattle.place_pass.proofs.WaitingLinesLemmas.{append_nil, filter_append, has_filter, has_flat, pair_self}

-- ---- a job less is calm
pub still_calm : (calm calm' : List Bool) (n a : ℕ) → get_or calm' a false ≡ (not (nat_eq n a) && get_or calm a false) → get_or calm' a false ≡ true → (nat_eq n a ≡ false) × (get_or calm a false ≡ true)
still_calm calm calm' n a is t = let b = both_true (not (nat_eq n a)) (get_or calm a false) (sym is ∙ t) in (not_true (nat_eq n a) b.0, b.1)

-- ---- who leaves
pub filter_all : (q : Pair → Bool) (xs : List Pair) → ((p : Pair) → has_pair p xs ≡ true → q p ≡ true) → filter q xs ≡ xs
filter_all q [] h = refl
filter_all q (x ∷ xs) h =
    ap (λ b. cond b (x ∷ filter q xs) (filter q xs)) (h x (ap (λ b. b || has_pair x xs) (pair_self x)))
    ∙ ap (λ ys. x ∷ ys) (filter_all q xs (λ p e. h p (or_right (same_pair p x) (has_pair p xs) e)))

-- who stands in the line of a calm job has something out
pub calm_out : (cells : List (List Cell)) (line : List Pair) (calm : List Bool) (t : TableRecord) → IsStill cells line calm t → (p : Pair) → get_or calm p.0 false ≡ true → has_pair p line ≡ true → nat_lt 0 (out_of (asks_in cells) t.entries p.0 p.1) ≡ true
calm_out cells line calm t h p c has = (both_true (nat_lt p.1 (unit_count (as_known t.jobs) p.0)) (nat_lt 0 (out_of (asks_in cells) t.entries p.0 p.1)) (sym (h.still p.0 p.1 c) ∙ has)).1

-- tests that agree on whom the list has keep the same
pub filter_alike : (q r : Pair → Bool) (xs : List Pair) → ((p : Pair) → has_pair p xs ≡ true → q p ≡ r p) → filter q xs ≡ filter r xs
filter_alike q r [] h = refl
filter_alike q r (x ∷ xs) h =
    ap (λ b. cond b (x ∷ filter q xs) (filter q xs)) (h x (ap (λ b. b || has_pair x xs) (pair_self x)))
    ∙ ap (λ ys. cond (r x) (x ∷ ys) ys) (filter_alike q r xs (λ p e. h p (or_right (same_pair p x) (has_pair p xs) e)))

pub still_left : (cells : List (List Cell)) (line : List Pair) (calm : List Bool) (t : TableRecord) → IsStill cells line calm t → IsStill cells (filter (λ p. nat_lt 0 (out_of (asks_in cells) t.entries p.0 p.1)) line) calm t
still_left cells line calm t h = record {
  still = λ a u c.
      let w = nat_lt 0 (out_of (asks_in cells) t.entries a u) in
      has_filter (λ p. nat_lt 0 (out_of (asks_in cells) t.entries p.0 p.1)) (a, u) line ∙ ap (λ x. x && w) (h.still a u c) ∙ twice (nat_lt u (unit_count (as_known t.jobs) a)) w;
}
  where
    twice : (x w : Bool) → ((x && w) && w) ≡ (x && w)
    twice true true = refl
    twice true false = refl
    twice false w = refl

-- ---- who joins
pub paired_same : (r s : Pair → Bool) (a : ℕ) (vs : List ℕ) → ((u : ℕ) → r (a, u) ≡ s (a, u)) → filter r (map (λ u. (a, u)) vs) ≡ filter s (map (λ u. (a, u)) vs)
paired_same r s a [] e = refl
paired_same r s a (v ∷ vs) e =
    ap (λ b. cond b ((a, v) ∷ filter r (map (λ u. (a, u)) vs)) (filter r (map (λ u. (a, u)) vs))) (e v) ∙ ap (λ zs. cond (s (a, v)) ((a, v) ∷ zs) zs) (paired_same r s a vs e)

-- the pairs of jobs that stand in order, of which each job is walked by its number
module _ (r : Pair → Bool) (v : ℕ → List ℕ) (n : ℕ) where
  abbrev pairs_of : ℕ → List Pair
  pairs_of b = map (λ u. (b, u)) (v b)

  abbrev pairs_in : List JobRecord → List Pair
  pairs_in js = flat_map pairs_of (map (λ (j : JobRecord). j.number) js)

  abbrev under : ℕ → Pair → Bool
  under k p = nat_lt p.0 k && r p

  none_at : (k b : ℕ) → nat_lt b k ≡ false → (vs : List ℕ) → filter (under k) (map (λ u. (b, u)) vs) ≡ []
  none_at k b f [] = refl
  none_at k b f (x ∷ xs) = ap (λ t. cond (t && r (b, x)) ((b, x) ∷ filter (under k) (map (λ u. (b, u)) xs)) (filter (under k) (map (λ u. (b, u)) xs))) f ∙ none_at k b f xs

  none_beyond : (k : ℕ) (js : List JobRecord) → AllByRecursion (λ (j : JobRecord). nat_lt j.number k ≡ false) js → filter (under k) (pairs_in js) ≡ []
  none_beyond k [] h = refl
  none_beyond k (j ∷ js) h = filter_append (under k) (pairs_of j.number) (pairs_in js) ∙ (λ i. none_at k j.number h.0 (v j.number) i ++ none_beyond k js h.1 i)

  not_among : (js : List JobRecord) → AllByRecursion (λ (j : JobRecord). n < j.number) js → has_number n (map (λ (j : JobRecord). j.number) js) ≡ false
  not_among [] h = refl
  not_among (j ∷ js) h = let lt = h.0 in let f : nat_eq n j.number ≡ false = grind (arith, nat_tests, lt) in ap (λ b. b || has_number n (map (λ (j : JobRecord). j.number) js)) f ∙ not_among js h.1

  -- below the next number are those below this one, and then its own
  pub one_job_more : (js : List JobRecord) → AreJobs js → (has_number n (map (λ (j : JobRecord). j.number) js) ≡ false → v n ≡ []) → filter (under (n + 1)) (pairs_in js) ≡ filter (under n) (pairs_in js) ++ filter r (pairs_of n)
  one_job_more [] h none = sym (ap (λ vs. filter r (map (λ u. (n, u)) vs)) (none refl))
  one_job_more (j ∷ js) h none =
      filter_append (under (n + 1)) (pairs_of j.number) (pairs_in js)
      ∙ by (nat_lt j.number n) (nat_eq j.number n) refl refl (λ earlier. one_job_more js h.1.1 earlier)
      ∙ ap (λ xs. xs ++ filter r (pairs_of n)) (sym (filter_append (under n) (pairs_of j.number) (pairs_in js)))
    where
      later : (k : ℕ) → k ≤ j.number + 1 → AllByRecursion (λ (i : JobRecord). nat_lt i.number k ≡ false) js
      later k le = all_more (λ (i : JobRecord). j.number < i.number) (λ (i : JobRecord). nat_lt i.number k ≡ false) (λ i lt. grind (arith, nat_tests, lt, le)) js h.1.0

      by : (less same : Bool) → nat_lt j.number n ≡ less → nat_eq j.number n ≡ same
          → ((has_number n (map (λ (j : JobRecord). j.number) js) ≡ false → v n ≡ []) → filter (under (n + 1)) (pairs_in js) ≡ filter (under n) (pairs_in js) ++ filter r (pairs_of n))
          → filter (under (n + 1)) (pairs_of j.number) ++ filter (under (n + 1)) (pairs_in js) ≡ (filter (under n) (pairs_of j.number) ++ filter (under n) (pairs_in js)) ++ filter r (pairs_of n)
      by true same t _ rest =
          let below_next : nat_lt j.number (n + 1) ≡ nat_lt j.number n = grind (arith, nat_tests, t) in
          let apart : nat_eq n j.number ≡ false = grind (arith, nat_tests, t) in
          (λ i. paired_same (under (n + 1)) (under n) j.number (v j.number) (λ u. ap (λ b. b && r (j.number, u)) below_next) i
          ++ rest (λ f. none (ap (λ b. b || has_number n (map (λ (j : JobRecord). j.number) js)) apart ∙ f)) i)
          ∙ sym (append_assoc (filter (under n) (pairs_of j.number)) (filter (under n) (pairs_in js)) (filter r (pairs_of n)))
      by false true f t _ =
          let next : nat_lt j.number (n + 1) ≡ true = grind (arith, nat_tests, t) in
          let is = number_is j.number n t in
          (λ i. (paired_same (under (n + 1)) r j.number (v j.number) (λ u. ap (λ b. b && r (j.number, u)) next) ∙ ap (λ b. filter r (pairs_of b)) is) i ++ none_beyond (n + 1) js (later (n + 1) (omega (arith, is))) i)
          ∙ append_nil (filter r (pairs_of n))
          ∙ sym (λ i. (none_at n j.number f (v j.number) i ++ none_beyond n js (later n (omega (arith, is))) i) ++ filter r (pairs_of n))
      by false false f g _ =
          let gt : n < j.number = grind (arith, nat_tests, f, g) in
          let next : nat_lt j.number (n + 1) ≡ false = grind (arith, nat_tests, gt) in
          let apart : nat_eq n j.number ≡ false = grind (arith, nat_tests, gt) in
          let among = ap (λ b. b || has_number n (map (λ (j : JobRecord). j.number) js)) apart
          ∙ not_among js (all_more (λ (i : JobRecord). j.number < i.number) (λ (i : JobRecord). n < i.number) (λ i lt. omega (arith, lt, gt)) js h.1.0) in
          (λ i. none_at (n + 1) j.number next (v j.number) i ++ none_beyond (n + 1) js (later (n + 1) (omega (arith, gt))) i)
          ∙ sym (λ i. (none_at n j.number f (v j.number) i ++ none_beyond n js (later n (omega (arith, gt))) i) ++ filter r (map (λ u. (n, u)) (none among i)))

-- who waits of a calm job stands in the line
pub calm_waits : (cells : List (List Cell)) (line : List Pair) (calm : List Bool) (t : TableRecord) (numbers : List ℕ) → IsStill cells line calm t → (p : Pair) → get_or calm p.0 false ≡ true
    → has_pair p (waiting_in numbers (unit_count (as_known t.jobs)) (asks_in cells) t.entries) ≡ true → has_pair p line ≡ true
calm_waits cells line calm t numbers h p c has =
    h.still p.0 p.1 c ∙ (both_true (has_number p.0 numbers) (nat_lt p.1 (unit_count (as_known t.jobs) p.0) && nat_lt 0 (out_of (asks_in cells) t.entries p.0 p.1))
    (sym (has_flat (unit_count (as_known t.jobs)) (λ a u. nat_lt 0 (out_of (asks_in cells) t.entries a u)) p.0 p.1 numbers) ∙ has)).1

-- of those that wait none has nothing out, so who was in the line is in what is left of it
pub waiting_waits : (numbers : List ℕ) (units : ℕ → ℕ) (asks : ℕ → Key → ℕ) (table : Table) (p : Pair) → has_pair p (waiting_in numbers units asks table) ≡ true → nat_lt 0 (out_of asks table p.0 p.1) ≡ true
waiting_waits numbers units asks table p has =
    let f = both_true (has_number p.0 numbers) (nat_lt p.1 (units p.0) && nat_lt 0 (out_of asks table p.0 p.1)) (sym (has_flat units (λ a u. nat_lt 0 (out_of asks table a u)) p.0 p.1 numbers) ∙ has) in
    (both_true (nat_lt p.1 (units p.0)) (nat_lt 0 (out_of asks table p.0 p.1)) f.1).1

joined_same : (line front : List Pair) (q : Pair → Bool) (all : List Pair) → front ≡ filter q line → ((p : Pair) → has_pair p all ≡ true → q p ≡ true) → filter (λ p. not (has_pair p front)) all ≡ filter (λ p. not (has_pair p line)) all
joined_same line front q [] is w = refl
joined_same line front q (x ∷ xs) is w =
    let here : has_pair x front ≡ has_pair x line = ap (has_pair x) is ∙ has_filter q x line ∙ ap (λ b. has_pair x line && b) (w x (ap (λ b. b || has_pair x xs) (pair_self x))) ∙ and_with_true (has_pair x line) in
    ap (λ b. cond (not b) (x ∷ filter (λ p. not (has_pair p front)) xs) (filter (λ p. not (has_pair p front)) xs)) here
    ∙ ap (λ zs. cond (not (has_pair x line)) (x ∷ zs) zs) (joined_same line front q xs is (λ p e. w p (or_right (same_pair p x) (has_pair p xs) e)))

pub joined_is : (line front all next : List Pair) (q : Pair → Bool) → front ≡ filter q line → ((p : Pair) → has_pair p all ≡ true → q p ≡ true) → next ≡ front ++ filter (λ p. not (has_pair p front)) all → next ≡ front ++ filter (λ p. not (has_pair p line)) all
joined_is line front all next q is w next_is = next_is ∙ ap (λ xs. front ++ xs) (joined_same line front q all is w)

-- ---- what is told of one job leaves the others as they are
module _ (calm calm' : List Bool) (a : ℕ) (less : (b : ℕ) → get_or calm' b false ≡ (not (nat_eq a b) && get_or calm b false)) where
  pub still_told : (cells : List (List Cell)) (line line' : List Pair) (before after : TableRecord) (u m : ℕ) → IsSetFrom before after (spot a u m) → ((b v : ℕ) → nat_eq a b ≡ false → has_pair (b, v) line' ≡ has_pair (b, v) line)
      → IsStill cells line calm before → IsStill cells line' calm' after
  still_told cells line line' before after u m is same h = record {
    still = λ b v c.
        let s = still_calm calm calm' a b (less b) c in
        same b v s.0 ∙ h.still b v s.1 ∙ (λ i. nat_lt v (sym (units_then b) i) && nat_lt 0 (sym (out_then b v s.0) i));
  }
    where
      units_then : (b : ℕ) → unit_count (as_known after.jobs) b ≡ unit_count (as_known before.jobs) b
      units_then b = ap (λ (t : TableRecord). unit_count (as_known t.jobs) b) is.is

      held_then : (b v : ℕ) → held after.entries b v + cond (nat_eq a b && nat_eq u v) (count spot_cmp before.entries (spot a u m)) 0 ≡ held before.entries b v + cond (nat_eq a b && nat_eq u v) is.number 0
      held_then b v = subst (λ (t : TableRecord). held t.entries b v + cond (nat_eq a b && nat_eq u v) (count spot_cmp before.entries (spot a u m)) 0 ≡ held before.entries b v + cond (nat_eq a b && nat_eq u v) is.number 0) (sym is.is)
          (sum_set (λ s n. cond (nat_eq s.job b && nat_eq s.unit v) n 0) (λ s. zero_either (nat_eq s.job b && nat_eq s.unit v)) (spot a u m) is.number before.entries is.sound.counts.sorted)

      out_then : (b v : ℕ) → nat_eq a b ≡ false → out_of (asks_in cells) after.entries b v ≡ out_of (asks_in cells) before.entries b v
      out_then b v f =
          let h : held after.entries b v + 0 ≡ held before.entries b v + 0 = subst (λ t. held after.entries b v + cond (t && nat_eq u v) (count spot_cmp before.entries (spot a u m)) 0 ≡ held before.entries b v + cond (t && nat_eq u v) is.number 0) f (held_then b v) in
          omega (arith, h)

  pub still_asked : (cells cells' : List (List Cell)) (line : List Pair) (before after : TableRecord) → ((b : ℕ) (k : Key) → nat_eq a b ≡ false → asks_in cells' b k ≡ asks_in cells b k) → after.entries ≡ before.entries
      → ((b : ℕ) → nat_eq a b ≡ false → unit_count (as_known after.jobs) b ≡ unit_count (as_known before.jobs) b) → IsStill cells line calm before → IsStill cells' line calm' after
  still_asked cells cells' line before after asks entries units h = record {
    still = λ b v c.
        let s = still_calm calm calm' a b (less b) c in
        h.still b v s.1 ∙ (λ i. nat_lt v (sym (units b s.0) i) && nat_lt 0 (sym (asks b (want_key v) s.0) i - held (sym entries i) b v));
  }

-- of the line loses only pairs of the job
pub others_stay : (line : List Pair) (a u b v : ℕ) → nat_eq a b ≡ false → has_pair (b, v) (filter (λ p. not (nat_eq p.0 a && nat_eq p.1 u)) line) ≡ has_pair (b, v) line
others_stay line a u b v f =
    let g : nat_eq b a ≡ false = grind (arith, nat_tests, f) in
    has_filter (λ p. not (nat_eq p.0 a && nat_eq p.1 u)) (b, v) line ∙ ap (λ t. has_pair (b, v) line && not (t && nat_eq v u)) g ∙ and_with_true (has_pair (b, v) line)
