-- What nested counts stand for has their counts, in order, and a count that is written is a count that is set.
use Rattle.std.proofs.Common.{◌≡◌, ℕ, zero, suc, ◌+◌, ◌<◌, ◌≤◌, true, false, cond, List, [], ◌∷◌, get_or, refl, sym, ◌∙◌, ap, subst, arith}
use Rattle.std.specs.Ordering.{eq_by_cmp, is_eq}
use Rattle.std.specs.Cmp.{tied_itself}
use Rattle.fuxi_terms.specs.Limits.{greatest_count}
use Rattle.fuxi_terms.specs.Keys.{Spot, spot_cmp}
use Rattle.fuxi_terms.specs.Counts.{count, set_count, AreCounts}
use Rattle.fuxi_terms.proofs.CountsLemmas.{tied, count-set_count, counts-set_count, same_counts}
use Rattle.fuxi_terms.specs.Tables.{spot, Table}
use Rattle.fuxi_terms.proofs.KeyOrders.{spot_total, same_spot}
use Rattle.grant_table.specs.Nested.{counts_into, units_into, jobs_into, entries_of, count_at}

pub apart : (q k : Spot) → (q ≡ k → ⊥) → eq_by_cmp spot_cmp q k ≡ false
apart q k ne = elim (eq_by_cmp spot_cmp q k) as (λ b. eq_by_cmp spot_cmp q k ≡ b → b ≡ false) [
  | true ↦ λ t. absurd (ne (same_spot q k (tied _ t)))
  | false ↦ λ _. refl
] refl

pub itself : (q : Spot) → eq_by_cmp spot_cmp q q ≡ true
itself q = ap is_eq (tied_itself spot_total q)

pub set_here : (t : Table) (s : Spot) (n : ℕ) → count spot_cmp (set_count spot_cmp t s n) s ≡ n
set_here t s n = count-set_count spot_total t s n s ∙ ap (λ b. cond b n (count spot_cmp t s)) (itself s)

pub set_there : (t : Table) (s : Spot) (n : ℕ) (q : Spot) → (q ≡ s → ⊥) → count spot_cmp (set_count spot_cmp t s n) q ≡ count spot_cmp t q
set_there t s n q ne = count-set_count spot_total t s n q ∙ ap (λ b. cond b n (count spot_cmp t q)) (apart q s ne)

counts_other : (a u m : ℕ) (ns : List ℕ) (t : Table) (q : Spot) → ((k : ℕ) → q ≡ spot a u k → ⊥) → count spot_cmp (counts_into a u m ns t) q ≡ count spot_cmp t q
counts_other a u m [] t q ne = refl
counts_other a u m (n ∷ ns) t q ne = set_there (counts_into a u (m + 1) ns t) (spot a u m) n q (ne m) ∙ counts_other a u (m + 1) ns t q ne

counts_here : (a u m : ℕ) (ns : List ℕ) (t : Table) (k j : ℕ) → j ≡ m + k → count spot_cmp t (spot a u j) ≡ 0 → count spot_cmp (counts_into a u m ns t) (spot a u j) ≡ get_or ns k 0
counts_here a u m [] t k j e z = z
counts_here a u m (n ∷ ns) t zero j e z =
    let same : m ≡ j = omega arith in
    subst (λ x. count spot_cmp (set_count spot_cmp (counts_into a u (m + 1) ns t) (spot a u m) n) (spot a u x) ≡ n) same (set_here (counts_into a u (m + 1) ns t) (spot a u m) n)
counts_here a u m (n ∷ ns) t (suc k) j e z =
    set_there (counts_into a u (m + 1) ns t) (spot a u m) n (spot a u j) (λ p. let q : j ≡ m = ap (λ (s : Spot). s.machine) p in omega arith)
    ∙ counts_here a u (m + 1) ns t k j (omega arith) z

units_other : (a u : ℕ) (hs : List (List ℕ)) (t : Table) (q : Spot) → (q.job ≡ a → ⊥) → count spot_cmp (units_into a u hs t) q ≡ count spot_cmp t q
units_other a u [] t q ne = refl
units_other a u (h ∷ hs) t q ne = counts_other a u 0 h (units_into a (u + 1) hs t) q (λ k p. ne (ap (λ (s : Spot). s.job) p)) ∙ units_other a (u + 1) hs t q ne

units_before : (a u : ℕ) (hs : List (List ℕ)) (t : Table) (j m : ℕ) → j < u → count spot_cmp (units_into a u hs t) (spot a j m) ≡ count spot_cmp t (spot a j m)
units_before a u [] t j m lt = refl
units_before a u (h ∷ hs) t j m lt =
    counts_other a u 0 h (units_into a (u + 1) hs t) (spot a j m) (λ k p. let q : j ≡ u = ap (λ (s : Spot). s.unit) p in omega arith)
    ∙ units_before a (u + 1) hs t j m (omega arith)

units_here : (a u : ℕ) (hs : List (List ℕ)) (t : Table) (k j m : ℕ) → j ≡ u + k → count spot_cmp t (spot a j m) ≡ 0 → count spot_cmp (units_into a u hs t) (spot a j m) ≡ get_or (get_or hs k []) m 0
units_here a u [] t k j m e z = z
units_here a u (h ∷ hs) t zero j m e z =
    let same : u ≡ j = omega arith in
    let none : count spot_cmp (units_into a (u + 1) hs t) (spot a u m) ≡ 0 = units_before a (u + 1) hs t u m (omega arith) ∙ ap (λ x. count spot_cmp t (spot a x m)) same ∙ z in
    subst (λ x. count spot_cmp (counts_into a u 0 h (units_into a (u + 1) hs t)) (spot a x m) ≡ get_or h m 0) same (counts_here a u 0 h (units_into a (u + 1) hs t) m m (omega arith) none)
units_here a u (h ∷ hs) t (suc k) j m e z =
    counts_other a u 0 h (units_into a (u + 1) hs t) (spot a j m) (λ x p. let q : j ≡ u = ap (λ (s : Spot). s.unit) p in omega arith)
    ∙ units_here a (u + 1) hs t k j m (omega arith) z

jobs_before : (a : ℕ) (vs : List (List (List ℕ))) (t : Table) (q : Spot) → q.job < a → count spot_cmp (jobs_into a vs t) q ≡ count spot_cmp t q
jobs_before a [] t q lt = refl
jobs_before a (v ∷ vs) t q lt = units_other a 0 v (jobs_into (a + 1) vs t) q (λ e. omega arith) ∙ jobs_before (a + 1) vs t q (omega arith)

jobs_here : (a : ℕ) (vs : List (List (List ℕ))) (t : Table) (k j u m : ℕ) → j ≡ a + k → count spot_cmp t (spot j u m) ≡ 0 → count spot_cmp (jobs_into a vs t) (spot j u m) ≡ count_at vs k u m
jobs_here a [] t k j u m e z = z
jobs_here a (v ∷ vs) t zero j u m e z =
    let same : a ≡ j = omega arith in
    let none : count spot_cmp (jobs_into (a + 1) vs t) (spot a u m) ≡ 0 = jobs_before (a + 1) vs t (spot a u m) (omega arith) ∙ ap (λ x. count spot_cmp t (spot x u m)) same ∙ z in
    subst (λ x. count spot_cmp (units_into a 0 v (jobs_into (a + 1) vs t)) (spot x u m) ≡ get_or (get_or v u []) m 0) same (units_here a 0 v (jobs_into (a + 1) vs t) u u m (omega arith) none)
jobs_here a (v ∷ vs) t (suc k) j u m e z =
    units_other a 0 v (jobs_into (a + 1) vs t) (spot j u m) (λ p. omega arith) ∙ jobs_here (a + 1) vs t k j u m (omega arith) z

-- the counts of the map are those that are kept
pub count_is : (rows : List (List (List ℕ))) (a u m : ℕ) → count spot_cmp (entries_of rows) (spot a u m) ≡ count_at rows a u m
unfolding entries_of
count_is rows a u m = jobs_here 0 rows [] a a u m (omega arith) refl

-- it is in order, without zeros, and within
abbrev pub limit : Spot → ℕ
limit s = greatest_count

counts_are : (a u m : ℕ) (ns : List ℕ) (t : Table) → ((k : ℕ) → get_or ns k 0 ≤ greatest_count) → AreCounts spot_cmp limit t → AreCounts spot_cmp limit (counts_into a u m ns t)
counts_are a u m [] t h k = k
counts_are a u m (n ∷ ns) t h k = counts-set_count spot_total limit same_spot (counts_into a u (m + 1) ns t) (spot a u m) n (h 0) (counts_are a u (m + 1) ns t (λ i. h (suc i)) k)

units_are : (a u : ℕ) (hs : List (List ℕ)) (t : Table) → ((k m : ℕ) → get_or (get_or hs k []) m 0 ≤ greatest_count) → AreCounts spot_cmp limit t → AreCounts spot_cmp limit (units_into a u hs t)
units_are a u [] t h k = k
units_are a u (x ∷ xs) t h k = counts_are a u 0 x (units_into a (u + 1) xs t) (h 0) (units_are a (u + 1) xs t (λ i. h (suc i)) k)

jobs_are : (a : ℕ) (vs : List (List (List ℕ))) (t : Table) → ((k u m : ℕ) → count_at vs k u m ≤ greatest_count) → AreCounts spot_cmp limit t → AreCounts spot_cmp limit (jobs_into a vs t)
jobs_are a [] t h k = k
jobs_are a (v ∷ vs) t h k = units_are a 0 v (jobs_into (a + 1) vs t) (h 0) (jobs_are (a + 1) vs t (λ i. h (suc i)) k)

pub are_counts : (rows : List (List (List ℕ))) → ((a u m : ℕ) → count_at rows a u m ≤ greatest_count) → AreCounts spot_cmp limit (entries_of rows)
unfolding entries_of
are_counts rows h = jobs_are 0 rows [] h (record { sorted = tt; positive = tt; within = tt })

-- one count that is written is one that is set
pub entries_set : (rows rows' : List (List (List ℕ))) (s : Spot) (n : ℕ) → n ≤ greatest_count
    → ((a u m : ℕ) → count_at rows a u m ≤ greatest_count) → ((a u m : ℕ) → count_at rows' a u m ≤ greatest_count)
    → count_at rows' s.job s.unit s.machine ≡ n
    → ((q : Spot) → (q ≡ s → ⊥) → count_at rows' q.job q.unit q.machine ≡ count_at rows q.job q.unit q.machine)
    → entries_of rows' ≡ set_count spot_cmp (entries_of rows) s n
entries_set rows rows' s n le h h' here there =
    same_counts spot_total same_spot limit (entries_of rows') (set_count spot_cmp (entries_of rows) s n) (are_counts rows' h')
    (counts-set_count spot_total limit same_spot (entries_of rows) s n le (are_counts rows h))
    (λ q. count_is rows' q.job q.unit q.machine ∙ at q ∙ sym (count-set_count spot_total (entries_of rows) s n q))
  where
    at : (q : Spot) → count_at rows' q.job q.unit q.machine ≡ cond (eq_by_cmp spot_cmp q s) n (count spot_cmp (entries_of rows) q)
    at q = elim (eq_by_cmp spot_cmp q s) as (λ b. eq_by_cmp spot_cmp q s ≡ b → count_at rows' q.job q.unit q.machine ≡ cond b n (count spot_cmp (entries_of rows) q)) [
      | true ↦ λ t. ap (λ (x : Spot). count_at rows' x.job x.unit x.machine) (same_spot q s (tied _ t)) ∙ here
      | false ↦ λ f. there q (λ e. let t = ap (λ x. eq_by_cmp spot_cmp x s) e ∙ itself s in cc) ∙ sym (count_is rows q.job q.unit q.machine)
    ] refl
