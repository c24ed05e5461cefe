-- The votes of a master's jobs, one job after the other.
use Rattle.std.proofs.Common.{◌≡◌, ℕ, zero, suc, ◌+◌, ◌<◌, ◌≤◌, Bool, true, false, cond, not, nat_eq, nat_lt, List, [], ◌∷◌, ◌++◌, length, get_or, map, filter, set, take, replicate, Option, Some, None, slice_get, refl, sym, ◌∙◌, ap, subst, arith, add-one}
use Rattle.std.specs.Prelude.{◌&&◌, ◌||◌, count_by}
use Rattle.std.specs.List.{AllByRecursion, list_all, list_any}
use Rattle.std.specs.Option.{option_map, unwrap_or}
use Rattle.std.proofs.lemmas.Bool.Decides.{nat_tests}
use Rattle.std.proofs.lemmas.List.{append-nil, get_or-replicate, get_or-set_other, get_or-set_same, length-map, length-replicate, length-set, length-take-le, map_push, take_all}
use Rattle.std.proofs.lemmas.List.Elements.{filter-append}
use Rattle.std.proofs.lemmas.List.Folds.{list_all-map}
use Rattle.std.proofs.lemmas.List.Sums.{count_by-le-length, sum_by_push}
use Rattle.fuxi_terms.specs.Cluster.{ClusterRecord, JobRecord}
use Rattle.fuxi_terms.specs.Jobs.{KnownJob, has_ended, job_of, unit_count}
use Rattle.fuxi_terms.specs.Lists.{below}
use Rattle.fuxi_terms.specs.Numbers.{has_number}
use Rattle.fuxi_terms.proofs.Alls.{all_filter, all_map, all_more}
use Rattle.fuxi_terms.proofs.Booleans.{and_true, false_and, false_right, number_is, numbers_differ}
use Rattle.fuxi_terms.proofs.Lists.{all_push, take_last}
use Rattle.schedule_unit.specs.declared.party.UnitNo.{UnitNo}
use Rattle.spec_roles.specs.Masters.{avoids}
use Rattle.spec_roles.specs.MasterRoles.{MasterRole}
use Rattle.spec_roles.specs.Votes.{VotesRecord, is_wanted, marks, most_votes, votes_in, votes_of}
use Rattle.allotment.specs.PlacingReads.{IsPlacing}
use Rattle.fuxi_master.specs.Cores.{CoreRecord, IsCore, StandsFor}
use Rattle.fuxi_master.specs.VoteCounts.{AddsVotes, HasCounted, IsCounted, all_avoid, is_asked}
use Rattle.fuxi_master.proofs.Below.{all_below, by_places, fails_below, none_below, same_below}

-- ---- one vote more on each machine that passes a test
pub none_marked : (p : ℕ → Bool) (v : VotesRecord) → ((m : ℕ) → p m ≡ false) → AddsVotes p v v
none_marked p v none = record { long = refl; votes = λ m lt. by (p m) (votes_of v m) (none m); shut = refl }
  where
    by : (b : Bool) (n : ℕ) → b ≡ false → n ≡ n + cond b 1 0
    by false n e = omega arith
    by true n e = cc

module _ (p : ℕ → Bool) (n : ℕ) (v w : VotesRecord) (h : AddsVotes (λ m. nat_lt m n && p m) v w) where
  one_up : (x y : ℕ) (b c : Bool) → b ≡ false → c ≡ true → x ≡ y + cond b 1 0 → x + 1 ≡ y + cond c 1 0
  one_up x y false true e f is = omega (arith, is)
  one_up x y true c e f is = cc
  one_up x y false false e f is = cc

  itself : (nat_lt n n && p n) ≡ false
  itself = false_and (nat_lt n n) (p n) (let t : nat_lt n n ≡ false = grind (arith, nat_tests) in t)

  -- the next machine still has the votes that it had
  pub still_few : n < length v.votes → votes_of v n < most_votes → votes_of w n < most_votes
  still_few low few = let same : votes_of w n ≡ votes_of v n + 0 = h.votes n low ∙ ap (λ b. votes_of v n + cond b 1 0) itself in omega (arith, same, few)

  pub one_marked : (new : VotesRecord) → n < length v.votes → p n ≡ true → new ≡ record w { votes = set w.votes n (votes_of w n + 1) } → AddsVotes (λ m. nat_lt m (n + 1) && p m) v new
  one_marked new low passes e = record {
    long = ap (λ (x : VotesRecord). length x.votes) e ∙ length-set w.votes n (votes_of w n + 1) ∙ h.long;
    votes = λ m lt. ap (λ (x : VotesRecord). votes_of x m) e ∙ at m lt (nat_eq m n) refl;
    shut = ap (λ (x : VotesRecord). x.shut) e ∙ h.shut;
  }
    where
      here : get_or (set w.votes n (votes_of w n + 1)) n 0 ≡ votes_of v n + cond (nat_lt n (n + 1) && p n) 1 0
      here =
          let long = h.long in
          get_or-set_same w.votes n (votes_of w n + 1) 0 (omega (arith, low, long))
          ∙ one_up (votes_of w n) (votes_of v n) (nat_lt n n && p n) (nat_lt n (n + 1) && p n) itself (and_true (nat_lt n (n + 1)) (p n) (let t : nat_lt n (n + 1) ≡ true = grind (arith, nat_tests) in t) passes) (h.votes n low)

      at : (m : ℕ) → m < length v.votes → (b : Bool) → nat_eq m n ≡ b → get_or (set w.votes n (votes_of w n + 1)) m 0 ≡ votes_of v m + cond (nat_lt m (n + 1) && p m) 1 0
      at m lt true same = subst (λ k. get_or (set w.votes n (votes_of w n + 1)) k 0 ≡ votes_of v k + cond (nat_lt k (n + 1) && p k) 1 0) (sym (number_is m n same)) here
      at m lt false other = get_or-set_other w.votes n m (votes_of w n + 1) 0 (numbers_differ m n other) ∙ h.votes m lt ∙ ap (λ b. votes_of v m + cond (b && p m) 1 0) (same_below m n other)

  pub one_unmarked : p n ≡ false → AddsVotes (λ m. nat_lt m (n + 1) && p m) v w
  one_unmarked fails = record { long = h.long; votes = λ m lt. h.votes m lt ∙ ap (λ b. votes_of v m + cond b 1 0) (fails_below p n m fails); shut = h.shut }

  pub all_marked : length v.votes ≤ n → AddsVotes p v w
  all_marked past = record { long = h.long; votes = λ m lt. h.votes m lt ∙ ap (λ b. votes_of v m + cond b 1 0) (all_below m n (p m) (omega (arith, lt, past))); shut = h.shut }

pub none_yet : (p : ℕ → Bool) (v : VotesRecord) → AddsVotes (λ m. nat_lt m 0 && p m) v v
none_yet p v = none_marked (λ m. nat_lt m 0 && p m) v (λ m. none_below m (p m))

-- ---- what a job marks, by the units of it that were found to be wanted
abbrev pub number_of : UnitNo → ℕ
number_of u = u.0

any_found : (p : ℕ → Bool) (xs : List ℕ) → list_any p xs ≡ nat_lt 0 (length (filter p xs))
any_found p [] = refl
any_found p (x ∷ xs) = by (p x) (any_found p xs)
  where
    by : (b : Bool) → list_any p xs ≡ nat_lt 0 (length (filter p xs)) → (b || list_any p xs) ≡ nat_lt 0 (length (cond b (x ∷ filter p xs) (filter p xs)))
    by true rest = let t : true ≡ nat_lt 0 (suc (length (filter p xs))) = grind (arith, nat_tests) in t
    by false rest = rest

all_found : (p q : ℕ → Bool) (xs : List ℕ) → list_all (λ x. not (p x) || q x) xs ≡ list_all q (filter p xs)
all_found p q [] = refl
all_found p q (x ∷ xs) = by (p x) (all_found p q xs)
  where
    by : (b : Bool) → list_all (λ y. not (p y) || q y) xs ≡ list_all q (filter p xs) → ((not b || q x) && list_all (λ y. not (p y) || q y) xs) ≡ list_all q (cond b (x ∷ filter p xs) (filter p xs))
    by true rest = ap (λ b. q x && b) rest
    by false rest = rest

all_three : (b c d e : Bool) → b ≡ true → c ≡ true → d ≡ e → (b && (c && d)) ≡ e
all_three true true d e p q r = r
all_three true false d e p q r = cc
all_three false c d e p q r = cc

each_below : (n : ℕ) → AllByRecursion (λ u. u < n) (below n)
each_below zero = tt
each_below (suc n) = all_push (λ u. u < suc n) (below n) n (all_more (λ u. u < n) (λ u. u < suc n) (λ u h. omega (arith, h)) (below n) (each_below n)) (omega arith)

-- one unit more was looked at: it passes, or it does not
next_found : (p : ℕ → Bool) (n : ℕ) (b : Bool) → p n ≡ b → filter p (below (n + 1)) ≡ filter p (below n) ++ cond b (n ∷ []) []
next_found p n b e = ap (λ k. filter p (below k)) (add-one n) ∙ filter-append p (below n) (n ∷ []) ∙ ap (λ t. filter p (below n) ++ cond t (n ∷ []) []) e

pub unit_passes : (p : ℕ → Bool) (n : ℕ) (units new : List UnitNo) → p n ≡ true → new ≡ units ++ record { 0 = n } ∷ [] → map number_of units ≡ filter p (below n) → map number_of new ≡ filter p (below (n + 1))
unit_passes p n units new e grown is = ap (map number_of) grown ∙ map_push number_of units (record { 0 = n }) ∙ ap (λ ns. ns ++ n ∷ []) is ∙ sym (next_found p n true e)

pub unit_fails : (p : ℕ → Bool) (n : ℕ) (units : List UnitNo) → p n ≡ false → map number_of units ≡ filter p (below n) → map number_of units ≡ filter p (below (n + 1))
unit_fails p n units e is = is ∙ sym (append-nil (filter p (below n))) ∙ sym (next_found p n false e)

-- each unit that was found is there
pub found_there : (p : ℕ → Bool) (n k : ℕ) (units : List UnitNo) → map number_of units ≡ filter p (below n) → n ≡ k → AllByRecursion (λ (u : UnitNo). u.0 < k) units
found_there p n k units found e =
    subst (λ l. AllByRecursion (λ (u : UnitNo). u.0 < l) units) e
    (all_map (λ u. u < n) number_of units (subst (λ us. AllByRecursion (λ u. u < n) us) (sym found) (all_filter (λ u. u < n) p (below n) (each_below n))))

module _ (x : CoreRecord) (r : MasterRole) (s : StandsFor x r) (j : KnownJob) (units : List UnitNo) (found : map number_of units ≡ filter (is_asked x j.job.number) (below (length j.job.units))) where
  placed : IsPlacing x.allotment.table x.allotment.placer.seen r.cluster r.state
  placed = s.stands.allots.placing

  wanted_found : filter (is_wanted r.state j.job.number) (below (length j.job.units)) ≡ map number_of units
  wanted_found = (λ i. filter (λ u. nat_lt 0 (sym (placed.wants j.job.number u) i)) (below (length j.job.units))) ∙ sym found

  any_wanted : list_any (is_wanted r.state j.job.number) (below (length j.job.units)) ≡ nat_lt 0 (length units)
  any_wanted = any_found (is_wanted r.state j.job.number) (below (length j.job.units)) ∙ ap (λ us. nat_lt 0 (length us)) wanted_found ∙ ap (nat_lt 0) (length-map units number_of)

  nothing_marked : length units ≡ 0 → (m : ℕ) → marks r.state j m ≡ false
  nothing_marked none m =
      let off : nat_lt 0 (length units) ≡ false = grind (arith, nat_tests, none) in
      let units_all = list_all (λ u. not (is_wanted r.state j.job.number u) || avoids r.state j.job.number u m) (below (length j.job.units)) in
      false_right (not j.ended) (list_any (is_wanted r.state j.job.number) (below (length j.job.units)) && units_all) (false_and (list_any (is_wanted r.state j.job.number) (below (length j.job.units))) units_all (any_wanted ∙ off))

  avoided_marked : j.ended ≡ false → 0 < length units → (m : ℕ) → marks r.state j m ≡ all_avoid x j.job.number units m
  avoided_marked live some m =
      let on : nat_lt 0 (length units) ≡ true = grind (arith, nat_tests, some) in
      let a = j.job.number in
      all_three (not j.ended) (list_any (is_wanted r.state a) (below (length j.job.units))) (list_all (λ u. not (is_wanted r.state a u) || avoids r.state a u m) (below (length j.job.units))) (all_avoid x a units m)
      (ap not live) (any_wanted ∙ on)
      (all_found (is_wanted r.state a) (λ u. avoids r.state a u m) (below (length j.job.units))
      ∙ ap (list_all (λ u. avoids r.state a u m)) wanted_found
      ∙ list_all-map (λ u. avoids r.state a u m) number_of units
      ∙ (λ i. list_all (λ (u : UnitNo). nat_lt 0 (sym (placed.avoids a u.0 m) i)) units))

-- ---- one job more
counted_more : (r : MasterRole) (n : ℕ) (j : KnownJob) (v w : VotesRecord) → slice_get r.state.jobs n ≡ Some j → AddsVotes (marks r.state j) v w → IsCounted n r v → IsCounted (n + 1) r w
counted_more r n j v w at adds h =
    let long = adds.long in
    let p : KnownJob → ℕ → Bool = marks r.state in
    record {
      long = adds.long ∙ h.long;
      votes = λ m lt. let low : m < length v.votes = omega (arith, lt, long) in
          adds.votes m low ∙ ap (λ k. k + cond (p j m) 1 0) (h.votes m low)
          ∙ sym (ap (count_by (λ k. p k m)) (take_last r.state.jobs n j at) ∙ sum_by_push (λ k. cond (p k m) 1 0) (take n r.state.jobs) j);
      shut = adds.shut ∙ h.shut;
    }

found_at : (job : JobRecord) (o : Option KnownJob) → option_map (λ (k : KnownJob). k.job) o ≡ Some job → (k : KnownJob) × (o ≡ Some k) × (k.job ≡ job)
found_at job None e = cc
found_at job (Some k) e = let same : k.job ≡ job = cc in (k, refl, same)

-- a job of the order of submission, which is found by its number
module _ (x : CoreRecord) (n : ℕ) (job : JobRecord) (a : ℕ) (at : option_map (λ (k : KnownJob). k.job) (slice_get x.known.jobs n) ≡ Some job) (found : job_of x.known.jobs job.number ≡ slice_get x.known.jobs n) (named : a ≡ job.number) where
  own : (k : KnownJob) × (slice_get x.known.jobs n ≡ Some k) × (k.job ≡ job)
  own = found_at job (slice_get x.known.jobs n) at

  looked_up : job_of x.known.jobs a ≡ Some own.0
  looked_up = ap (job_of x.known.jobs) named ∙ found ∙ own.1

  ended_is : has_ended x.known.jobs a ≡ own.0.ended
  ended_is = ap (λ (o : Option KnownJob). unwrap_or (option_map (λ (k : KnownJob). k.ended) o) false) looked_up

  pub units_are : length job.units ≡ unit_count x.known.jobs a
  units_are = sym (ap (λ (o : Option KnownJob). length (unwrap_or (option_map (λ (k : KnownJob). k.job.units) o) [])) looked_up ∙ ap (λ (k : JobRecord). length k.units) own.2)

  there : (r : MasterRole) → StandsFor x r → slice_get r.state.jobs n ≡ Some own.0
  there r s = ap (λ js. slice_get js n) s.stands.jobs ∙ own.1

  pub ended_counted : (v : VotesRecord) → HasCounted x n v → has_ended x.known.jobs a ≡ true → HasCounted x (n + 1) v
  ended_counted v counted ended r s =
      counted_more r n own.0 v v (there r s) (none_marked (marks r.state own.0) v (λ m. false_and (not own.0.ended) _ (ap not (sym ended_is ∙ ended)))) (counted r s)

  module _ (units : List UnitNo) (wanted : map number_of units ≡ filter (is_asked x a) (below (length job.units))) where
    wanted_own : map number_of units ≡ filter (is_asked x own.0.job.number) (below (length own.0.job.units))
    wanted_own = wanted ∙ ap (λ b. filter (is_asked x b) (below (length job.units))) named ∙ ap (λ (k : JobRecord). filter (is_asked x k.number) (below (length k.units))) (sym own.2)

    pub unwanted_counted : (v : VotesRecord) → HasCounted x n v → length units ≡ 0 → HasCounted x (n + 1) v
    unwanted_counted v counted none r s = counted_more r n own.0 v v (there r s) (none_marked (marks r.state own.0) v (nothing_marked x r s own.0 units wanted_own none)) (counted r s)

    pub marked_counted : (v w : VotesRecord) → HasCounted x n v → has_ended x.known.jobs a ≡ false → 0 < length units → AddsVotes (all_avoid x a units) v w → HasCounted x (n + 1) w
    marked_counted v w counted live some adds r s =
        let same : (m : ℕ) → marks r.state own.0 m ≡ all_avoid x a units m =
        λ m. avoided_marked x r s own.0 units wanted_own (sym ended_is ∙ live) some m ∙ ap (λ b. all_avoid x b units m) (ap (λ (k : JobRecord). k.number) own.2 ∙ sym named) in
        counted_more r n own.0 v w (there r s) (record { long = adds.long; votes = λ m lt. adds.votes m lt ∙ ap (λ b. votes_of v m + cond b 1 0) (sym (same m)); shut = adds.shut }) (counted r s)

-- ---- the bounds while jobs are left, the beginning, and the end
pub few_counted : (x : CoreRecord) → IsCore x → (n : ℕ) (v : VotesRecord) → HasCounted x n v → n < length x.known.jobs → length x.known.jobs ≤ 256 → (m : ℕ) → m < length v.votes → votes_of v m < most_votes
few_counted x core n v counted left few m low =
    let r = core.near.role in
    let s = core.near.stands in
    let is = (counted r s).votes m low in
    let most = count_by-le-length (λ j. marks r.state j m) (take n r.state.jobs) in
    let jobs = ap (λ (js : List KnownJob). length js) s.stands.jobs in
    let taken = length-take-le n r.state.jobs (omega (arith, left, jobs)) in
    omega (arith, is, most, taken, left, few)

pub as_machines : (x : CoreRecord) → IsCore x → (n : ℕ) (v : VotesRecord) → HasCounted x n v → length v.votes ≡ length x.allotment.table.cluster.machines
as_machines x core n v counted = (counted core.near.role core.near.stands).long ∙ ap (λ (c : ClusterRecord). length c.machines) (sym core.near.stands.stands.cluster)

pub none_counted : (x : CoreRecord) (c : ClusterRecord) (bans : List ℕ) (v : VotesRecord) → c ≡ x.allotment.table.cluster → bans ≡ x.known.bans
    → v ≡ record { votes = replicate (length c.machines) 0; shut = map (λ m. has_number m bans) (below (length c.machines)) } → HasCounted x 0 v
none_counted x c bans v here known e r s =
    let cluster : c ≡ r.cluster = here ∙ s.stands.cluster in
    let banned : bans ≡ r.state.bans = known ∙ sym s.stands.bans in
    let wide : length v.votes ≡ length c.machines = ap (λ (y : VotesRecord). length y.votes) e ∙ length-replicate (length c.machines) 0 in
    record {
      long = wide ∙ ap (λ (k : ClusterRecord). length k.machines) cluster;
      votes = λ m lt. ap (λ (y : VotesRecord). votes_of y m) e ∙ get_or-replicate (length c.machines) m 0 0 (omega (arith, lt, wide));
      shut = ap (λ (y : VotesRecord). y.shut) e ∙ (λ i. map (λ m. has_number m (banned i)) (below (length (cluster i).machines)));
    }

pub all_counted : (x : CoreRecord) (n : ℕ) (v : VotesRecord) → length x.known.jobs ≤ n → HasCounted x n v → (r : MasterRole) → StandsFor x r → v ≡ votes_in r.cluster r.state
all_counted x n v past counted r s =
    let h = counted r s in
    let long = h.long in
    let jobs = ap (λ (js : List KnownJob). length js) s.stands.jobs in
    let numbers : v.votes ≡ map (λ m. count_by (λ j. marks r.state j m) r.state.jobs) (below (length r.cluster.machines)) =
    by_places (length r.cluster.machines) (λ m. count_by (λ j. marks r.state j m) r.state.jobs) v.votes 0 h.long
    (λ m lt. h.votes m (omega (arith, lt, long)) ∙ ap (count_by (λ j. marks r.state j m)) (take_all n r.state.jobs (omega (arith, past, jobs)))) in
    λ i. record { votes = numbers i; shut = h.shut i }
