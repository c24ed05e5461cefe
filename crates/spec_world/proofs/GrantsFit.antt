-- What grants say of a job's units fits each machine.
use Rattle.std.proofs.Common.{◌≡◌, ℕ, zero, suc, ◌+◌, ◌*◌, ◌≤◌, Bool, true, false, cond, not, nat_eq, nat_lt, List, [], ◌∷◌, ◌++◌, Option, Some, None, slice_get, refl, sym, ◌∙◌, ap, arith}
use Rattle.std.specs.Prelude.{is_some}
use Rattle.std.specs.Option.{option_map, unwrap_or}
use Rattle.std.specs.List.{sum_by}
use Rattle.std.specs.Ordering.{eq_by_cmp}
use Rattle.std.specs.FinMap.Entries.{find}
use Rattle.std.proofs.lemmas.Bool.Decides.{nat_tests}
use Rattle.std.proofs.lemmas.List.Sums.{sum_by-cons, sum_by-append}
use Rattle.fuxi_terms.specs.Cluster.{ClusterRecord}
use Rattle.fuxi_terms.specs.Vectors.{at_place}
use Rattle.fuxi_terms.specs.Keys.{Spot, spot_cmp}
use Rattle.fuxi_terms.proofs.CountsLemmas.{tied}
use Rattle.spec_net.specs.Ledgers.{Ledger, nothing, at_key}
use Rattle.fuxi_terms.specs.TallyKeys.{count_key}
use Rattle.fuxi_terms.specs.Jobs.{KnownJob, job_of, is_known, is_live, no_unit, units_of, size_at}
use Rattle.fuxi_terms.specs.Lists.{below}
use Rattle.spec_roles.specs.Masters.{Master}
use Rattle.fuxi_terms.specs.Tables.{spot, held_on, total_at, Table}
use Rattle.spec_roles.specs.MasterSteps.{grants}
use Rattle.spec_world.specs.Safe.{units_total_at}
use Rattle.fuxi_terms.proofs.KeyOrders.{same_spot}
use Rattle.fuxi_terms.proofs.Booleans.{number_is}
use Rattle.spec_world.proofs.TotalsLemmas.{load}
use Rattle.spec_world.proofs.GrantsLemmas.{grants_counts, nothing_held}
use Rattle.spec_world.specs.Good.{FitsMachines, GrantHolds, IsInOrder, KnowsMore}

-- Sums over the units of a job
pub sum_le : (f g : ℕ → ℕ) (n : ℕ) → ((u : ℕ) → f u ≤ g u) → sum_by f (below n) ≤ sum_by g (below n)
sum_le f g zero h = omega arith
sum_le f g (suc n) h =
    let a = sum_by-append f (below n) (n ∷ []) in
    let b = sum_by-append g (below n) (n ∷ []) in
    let c = sum_by-cons f n [] in
    let d = sum_by-cons g n [] in
    let z = empty_sum f in
    let y = empty_sum g in
    let rest = sum_le f g n h in
    let here = h n in
    omega (arith, a, b, c, d, z, y, rest, here)
  where
    empty_sum : (f : ℕ → ℕ) → sum_by f [] ≡ 0
    empty_sum f = refl

sum_plus : (f g : ℕ → ℕ) (n : ℕ) → sum_by (λ u. f u + g u) (below n) ≡ sum_by f (below n) + sum_by g (below n)
sum_plus f g zero = refl
sum_plus f g (suc n) =
    let k : ℕ → ℕ = λ u. f u + g u in
    let a = sum_by-append f (below n) (n ∷ []) in
    let b = sum_by-append g (below n) (n ∷ []) in
    let e = sum_by-append k (below n) (n ∷ []) in
    let c = sum_by-cons f n [] in
    let d = sum_by-cons g n [] in
    let i = sum_by-cons k n [] in
    let z = empty_sum f in
    let y = empty_sum g in
    let x = empty_sum k in
    let rest = sum_plus f g n in
    omega (arith, a, b, c, d, e, i, z, y, x, rest)
  where
    empty_sum : (f : ℕ → ℕ) → sum_by f [] ≡ 0
    empty_sum f = refl

-- a sum in which one unit counts at most
one_unit : (f : ℕ → ℕ) (k : ℕ) (n : ℕ) → ((u : ℕ) → nat_eq u k ≡ false → f u ≡ 0) → sum_by f (below n) ≡ cond (nat_lt k n) (f k) 0
one_unit f k zero h = let no : nat_lt k 0 ≡ false = grind (arith, nat_tests) in sym (ap (λ b. cond b (f k) 0) no)
one_unit f k (suc n) h =
    let a = sum_by-append f (below n) (n ∷ []) in
    let c = sum_by-cons f n [] in
    let z : sum_by f [] ≡ 0 = refl in
    let rest = one_unit f k n h in
    elim (nat_eq n k) as (λ b. nat_eq n k ≡ b → sum_by f (below n ++ n ∷ []) ≡ cond (nat_lt k (suc n)) (f k) 0) [
      | true ↦ λ t.
          let same = number_is n k t in
          let before : nat_lt k n ≡ false = grind (arith, nat_tests, same) in
          let now : nat_lt k (suc n) ≡ true = grind (arith, nat_tests, same) in
          let none : sum_by f (below n) ≡ 0 = rest ∙ ap (λ b. cond b (f k) 0) before in
          let here : f n ≡ f k = ap f same in
          let goal : sum_by f (below n ++ n ∷ []) ≡ f k = omega (arith, a, c, z, none, here) in
          goal ∙ sym (ap (λ b. cond b (f k) 0) now)
      | false ↦ λ t.
          let same : nat_lt k (suc n) ≡ nat_lt k n = tests t in
          let here = h n t in
          let goal : sum_by f (below n ++ n ∷ []) ≡ sum_by f (below n) = omega (arith, a, c, z, here) in
          goal ∙ rest ∙ sym (ap (λ b. cond b (f k) 0) same)
    ] refl
  where
    tests : nat_eq n k ≡ false → nat_lt k (suc n) ≡ nat_lt k n
    tests t = by (nat_lt k n) refl
      where
        by : (b : Bool) → nat_lt k n ≡ b → nat_lt k (suc n) ≡ nat_lt k n
        by true e = let more : nat_lt k (suc n) ≡ true = grind (arith, nat_tests, e) in more ∙ sym e
        by false e = let more : nat_lt k (suc n) ≡ false = grind (arith, nat_tests, e, t) in more ∙ sym e

-- one entry of a table counts for one unit of one job on one machine
entry_share : (jobs : List KnownJob) (a m i n : ℕ) (e : Spot × ℕ) → sum_by (λ u. cond (eq_by_cmp spot_cmp (spot a u m) e.0) e.1 0 * size_at jobs a u i) (below n) ≤ load jobs m i e.0 e.1
entry_share jobs a m i n e = by (nat_eq e.0.job a) refl (nat_eq e.0.machine m) refl
  where
    f : ℕ → ℕ
    f u = cond (eq_by_cmp spot_cmp (spot a u m) e.0) e.1 0 * size_at jobs a u i

    other : (u : ℕ) (b : Bool) → eq_by_cmp spot_cmp (spot a u m) e.0 ≡ b → (spot a u m ≡ e.0 → ⊥) → f u ≡ 0
    other u false t differs = let z = ap (λ b. cond b e.1 0 * size_at jobs a u i) t in zero_of z
      where
        zero_of : f u ≡ 0 * size_at jobs a u i → f u ≡ 0
        zero_of z = omega (arith, z)
    other u true t differs = absurd (differs (same_spot (spot a u m) e.0 (tied _ t)))

    none : ((u : ℕ) → spot a u m ≡ e.0 → ⊥) → sum_by f (below n) ≤ load jobs m i e.0 e.1
    none differs =
        let z = one_unit f 0 n (λ u _. other u (eq_by_cmp spot_cmp (spot a u m) e.0) refl (differs u)) in
        let y = other 0 (eq_by_cmp spot_cmp (spot a 0 m) e.0) refl (differs 0) in
        let c : cond (nat_lt 0 n) (f 0) 0 ≡ 0 = elim (nat_lt 0 n) as (λ b. cond b (f 0) 0 ≡ 0) [ true ↦ y | false ↦ refl ] in
        let s = z ∙ c in
        omega (arith, s)

    by : (x : Bool) → nat_eq e.0.job a ≡ x → (y : Bool) → nat_eq e.0.machine m ≡ y → sum_by f (below n) ≤ load jobs m i e.0 e.1
    by false s y t = none (λ u k. let j : a ≡ e.0.job = ap (λ (q : Spot). q.job) k in let yes : nat_eq e.0.job a ≡ true = grind (arith, nat_tests, j) in cc)
    by true s false t = none (λ u k. let j : m ≡ e.0.machine = ap (λ (q : Spot). q.machine) k in let yes : nat_eq e.0.machine m ≡ true = grind (arith, nat_tests, j) in cc)
    by true s true t =
        let job : e.0.job ≡ a = number_is e.0.job a s in
        let k = e.0.unit in
        let sum = one_unit f k n (λ u d. other u (eq_by_cmp spot_cmp (spot a u m) e.0) refl (λ q. let j : u ≡ e.0.unit = ap (λ (r : Spot). r.unit) q in let yes : nat_eq u k ≡ true = grind (arith, nat_tests, j) in cc)) in
        let most : f k ≤ e.1 * size_at jobs a k i = elim (eq_by_cmp spot_cmp (spot a k m) e.0) as (λ b. cond b e.1 0 * size_at jobs a k i ≤ e.1 * size_at jobs a k i) [ true ↦ omega arith | false ↦ omega arith ] in
        let c : cond (nat_lt k n) (f k) 0 ≤ e.1 * size_at jobs a k i = elim (nat_lt k n) as (λ b. cond b (f k) 0 ≤ e.1 * size_at jobs a k i) [ true ↦ most | false ↦ omega arith ] in
        let here : load jobs m i e.0 e.1 ≡ e.1 * size_at jobs a k i = ap (λ b. cond b (e.1 * size_at jobs e.0.job k i) 0) t ∙ ap (λ j. e.1 * size_at jobs j k i) job in
        omega (arith, sum, c, here)

-- what a table says of a job's units on a machine is at most what it takes there
pub units_share : (jobs : List KnownJob) (a m i n : ℕ) (table : Table) → units_total_at jobs a n (λ u. held_on table a u m) i ≤ total_at jobs m i table
units_share jobs a m i n [] =
    let z = one_unit (λ u. 0 * size_at jobs a u i) 0 n (λ u _. refl_zero (size_at jobs a u i)) in
    let c : cond (nat_lt 0 n) (0 * size_at jobs a 0 i) 0 ≡ 0 = elim (nat_lt 0 n) as (λ b. cond b (0 * size_at jobs a 0 i) 0 ≡ 0) [ true ↦ omega arith | false ↦ refl ] in
    let s = z ∙ c in
    omega (arith, s)
  where
    refl_zero : (k : ℕ) → 0 * k ≡ 0
    refl_zero k = omega arith
units_share jobs a m i n (e ∷ es) =
    let f : ℕ → ℕ = λ u. cond (eq_by_cmp spot_cmp (spot a u m) e.0) e.1 0 * size_at jobs a u i in
    let g : ℕ → ℕ = λ u. held_on es a u m * size_at jobs a u i in
    let rest = units_share jobs a m i n es in
    let here = entry_share jobs a m i n e in
    let both = sum_plus f g n in
    let most = sum_le (λ u. held_on (e ∷ es) a u m * size_at jobs a u i) (λ u. f u + g u) n (λ u. term u (eq_by_cmp spot_cmp (spot a u m) e.0)) in
    let sum = sum_by-cons (λ (x : Spot × ℕ). load jobs m i x.0 x.1) e es in
    omega (arith, rest, here, both, most, sum)
  where
    term : (u : ℕ) (b : Bool) → unwrap_or (cond b (Some e.1) (find spot_cmp (spot a u m) es)) 0 * size_at jobs a u i ≤ cond b e.1 0 * size_at jobs a u i + held_on es a u m * size_at jobs a u i
    term u true = omega arith
    term u false = omega arith

-- no number, no share
pub no_share : (jobs : List KnownJob) (a n i : ℕ) (number : ℕ → ℕ) → ((u : ℕ) → number u ≡ 0) → units_total_at jobs a n number i ≡ 0
no_share jobs a n i number h =
    let z = one_unit (λ u. number u * size_at jobs a u i) 0 n (λ u _. gone u) in
    let c : cond (nat_lt 0 n) (number 0 * size_at jobs a 0 i) 0 ≡ 0 = elim (nat_lt 0 n) as (λ b. cond b (number 0 * size_at jobs a 0 i) 0 ≡ 0) [ true ↦ gone 0 | false ↦ refl ] in
    z ∙ c
  where
    gone : (u : ℕ) → number u * size_at jobs a u i ≡ 0
    gone u = ap (λ k. k * size_at jobs a u i) (h u) ∙ zero_times (size_at jobs a u i)
      where
        zero_times : (k : ℕ) → 0 * k ≡ 0
        zero_times k = omega arith

-- sums depend on the units of a job alone
units_alike : (jobs jobs' : List KnownJob) (a n i : ℕ) (number : ℕ → ℕ) → units_of jobs' a ≡ units_of jobs a → units_total_at jobs' a n number i ≡ units_total_at jobs a n number i
units_alike jobs jobs' a n i number same = ap (λ us. sum_by (λ u. number u * at_place (unwrap_or (slice_get us u) no_unit).size i) (below n)) same

-- grants hold for more jobs
pub grant_wider : (c : ClusterRecord) (jobs jobs' : List KnownJob) (a : ℕ) (l : Ledger) → KnowsMore jobs jobs' → GrantHolds c jobs a l → GrantHolds c jobs' a l
grant_wider c jobs jobs' a l more h = by (is_known jobs a) refl
  where
    by : (b : Bool) → is_known jobs a ≡ b → GrantHolds c jobs' a l
    by true t = let k = more.known a t in record {
      fits = λ n m i lt. let e = units_alike jobs jobs' a n i (λ u. at_key l (count_key u m)) k.1 in let f = h.fits n m i lt in omega (arith, e, f);
      none = λ not_known. let yes = k.0 in cc;
    }
    by false t = record {
      fits = λ n m i lt. let z = no_share jobs' a n i (λ u. at_key l (count_key u m)) (λ u. h.none t u m) in omega (arith, z);
      none = λ _. h.none t;
    }

not_live : (jobs : List KnownJob) (a : ℕ) → is_known jobs a ≡ false → is_live jobs a ≡ false
not_live jobs a e = by (job_of jobs a) e
  where
    by : (o : Option KnownJob) → is_some o ≡ false → unwrap_or (option_map (λ (j : KnownJob). not j.ended) o) false ≡ false
    by None e = refl
    by (Some j) e = cc

-- what a master grants to a job: of one that it does not know its table has nothing
pub grants_hold : (c : ClusterRecord) (jobs : List KnownJob) (M : Master) (boot a : ℕ) → IsInOrder M → KnowsMore M.jobs jobs → FitsMachines c M → GrantHolds c jobs a (grants M boot a)
grants_hold c jobs M boot a tabled more h = by (is_known M.jobs a) refl
  where
    counts : (u m : ℕ) → at_key (grants M boot a) (count_key u m) ≡ held_on M.table a u m
    counts u m = grants_counts M boot a tabled u m

    by : (b : Bool) → is_known M.jobs a ≡ b → GrantHolds c jobs a (grants M boot a)
    by true known = let k = more.known a known in record {
      fits = λ n m i lt.
          let e = units_alike M.jobs jobs a n i (λ u. at_key (grants M boot a) (count_key u m)) k.1 in
          let s = sum_le (λ u. at_key (grants M boot a) (count_key u m) * size_at M.jobs a u i) (λ u. held_on M.table a u m * size_at M.jobs a u i) n (λ u. let x = ap (λ n. n * size_at M.jobs a u i) (counts u m) in omega (arith, x)) in
          let t = units_share M.jobs a m i n M.table in
          let f = h.fits m i lt in
          omega (arith, e, s, t, f);
      none = λ not_known. let yes = k.0 in cc;
    }
    by false unknown =
        let dead : is_live M.jobs a ≡ false = not_live M.jobs a unknown in
        let zero_at : (u m : ℕ) → at_key (grants M boot a) (count_key u m) ≡ 0 = λ u m. counts u m ∙ nothing_held M a u m tabled dead in
        record {
          fits = λ n m i lt. let z = no_share jobs a n i (λ u. at_key (grants M boot a) (count_key u m)) (λ u. zero_at u m) in omega (arith, z);
          none = λ _. zero_at;
        }

-- the empty grants
pub nothing_granted : (c : ClusterRecord) (jobs : List KnownJob) (a : ℕ) → GrantHolds c jobs a nothing
nothing_granted c jobs a = record { fits = λ n m i lt. let z = no_share jobs a n i (λ u. 0) (λ u. refl) in omega (arith, z); none = λ _ u m. refl }
