-- A count rises only by a grant that is allowed.
use Rattle.std.proofs.Common.{◌≡◌, ℕ, zero, suc, ◌+◌, ◌-◌, ◌*◌, ◌<◌, ◌≤◌, Bool, true, false, cond, not, nat_eq, nat_lt, List, [], ◌∷◌, Option, Some, None, Ok, length, refl, sym, ◌∙◌, ap, subst, arith}
use Rattle.std.specs.Prelude.{◌&&◌}
use Rattle.std.specs.Option.{unwrap_or, option_map}
use Rattle.std.specs.List.{sum_by}
use Rattle.std.specs.Ordering.{nat_cmp, eq_by_cmp, is_eq}
use Rattle.std.specs.Cmp.{tied_itself}
use Rattle.std.specs.FinMap.Entries.{find, put, is_sorted-where_key, find-where_key}
use Rattle.std.proofs.lemmas.Bool.Decides.{nat_tests}
use Rattle.std.proofs.lemmas.List.Sums.{sum_by-cons}
use Rattle.fuxi_terms.specs.Cluster.{ClusterRecord, JobRecord, limit_at}
use Rattle.fuxi_terms.specs.Counts.{count, set_count}
use Rattle.fuxi_terms.specs.Jobs.{KnownJob, job_of, is_live, unit_count, group_of, size_at}
use Rattle.fuxi_terms.specs.Keys.{key_cmp, Spot, spot_cmp}
use Rattle.fuxi_terms.specs.Numbers.{has_number}
use Rattle.fuxi_terms.specs.TallyKeys.{want_key, avoid_key}
use Rattle.fuxi_terms.specs.Tables.{spot, held, held_on, usage_by, usage_at, with_grant, without_grants, Table}
use Rattle.fuxi_terms.proofs.Booleans.{both_true, either, number_is, or_left, nat_itself}
use Rattle.fuxi_terms.proofs.CountsLemmas.{tied, count-set_count}
use Rattle.fuxi_terms.proofs.KeyOrders.{spot_total, same_spot, same_key}
use Rattle.fuxi_terms.proofs.Lists.{all_at}
use Rattle.fuxi_terms.proofs.Members.{in_each_is}
use Rattle.fuxi_terms.proofs.Sums.{sum_set}
use Rattle.spec_net.specs.Net.{Id}
use Rattle.spec_net.specs.Ledgers.{Ledger, nothing, at_key}
use Rattle.spec_net.specs.Channels.{is_agent}
use Rattle.spec_roles.specs.HardState.{with_job, with_ended}
use Rattle.spec_roles.specs.Losses.{often, one_if}
use Rattle.spec_roles.specs.Masters.{Master, asked, out, avoids, credited_of}
use Rattle.spec_roles.specs.MasterSteps.{is_there, counted, said, phased, ready, adopted, adopts, credit, raise_credited, take_demand, meet_app, told_of, ended_in, banned_in, MasterChange, Changed, change_of}
use Rattle.spec_roles.specs.Placing.{first_placeable, granted, settle, settled, all_out, line_up, placeable, may_grow, accepts, has_room, is_usable, is_allowed}
use Rattle.spec_roles.specs.Preemption.{Plan, plan_of, preempted, tried, part_by}
use Rattle.spec_roles.specs.ServedInOrder.{IsUsable}
use Rattle.spec_roles.specs.Transitions.{IsOrderly, MayBeGranted, GrowsAsAllowed}
use Rattle.spec_roles.proofs.LossesLemmas.{plan_loss}
use Rattle.spec_roles.proofs.MapLemmas.{found_put, put_beside, with_here}
use Rattle.spec_roles.proofs.PlacingEnds.{is_placeable}
use Rattle.spec_roles.proofs.TakenByQuotaLemmas.{plan_by_quota}
use Rattle.spec_roles.proofs.TransitionsLemmas.{EachChange, changed_has, EachHeard, heard_has, reported_in, count_granted, count_left, count_without, adopted_beside, credit_falls, IsSorted, sorted_set, sorted_without, sorted_adopted, sorted_credit, plan_tried}

-- Sums of a table with one grant more, and without some
module _ (g : Spot → ℕ → ℕ) (w : Spot → ℕ) (nothing : (s : Spot) → g s 0 ≡ 0) (one : (s : Spot) (n : ℕ) → g s (n + 1) ≡ g s n + w s) where
  abbrev weighed : Spot × ℕ → ℕ
  weighed e = g e.0 e.1

  sum_granted : (table : Table) (s : Spot) → IsSorted table → sum_by weighed (with_grant table s) ≡ sum_by weighed table + w s
  sum_granted table s k =
      let n = count spot_cmp table s in
      let x = sum_set g nothing s (n + 1) table k in
      let y = one s n in
      omega (arith, x, y)

  sum_without : (ss : List Spot) (table : Table) → IsSorted table → ((q : Spot) → often q ss ≤ count spot_cmp table q) → sum_by weighed (without_grants table ss) + sum_by w ss ≡ sum_by weighed table
  sum_without [] table k few = omega arith
  sum_without (s ∷ ss) table k few =
      let n = count spot_cmp table s in
      let x = sum_set g nothing s (n - 1) table k in
      let f = few s in
      let mine : one_if s s ≡ 1 = ap (λ b. cond b 1 0) (ap is_eq (tied_itself spot_total s)) in
      let all = sum_by-cons (one_if s) s ss in
      let some : 1 ≤ n = omega (arith, f, mine, all) in
      let last : g s n ≡ g s (n - 1) + w s = (let e : n - 1 + 1 ≡ n = omega (arith, some) in subst (λ k. g s k ≡ g s (n - 1) + w s) e (one s (n - 1))) in
      let rest = sum_without ss (set_count spot_cmp table s (n - 1)) (sorted_set table s (n - 1) k) (λ q. fewer q (eq_by_cmp spot_cmp q s) refl) in
      let sum = sum_by-cons w s ss in
      omega (arith, rest, x, last, sum)
    where
      fewer : (q : Spot) (b : Bool) → eq_by_cmp spot_cmp q s ≡ b → often q ss ≤ count spot_cmp (set_count spot_cmp table s (count spot_cmp table s - 1)) q
      fewer q true e =
          let all = sum_by-cons (one_if q) s ss in
          let f = few q in
          let one : one_if q s ≡ 1 = ap (λ b. cond b 1 0) e in
          let is : count spot_cmp (set_count spot_cmp table s (count spot_cmp table s - 1)) q ≡ count spot_cmp table s - 1 = count-set_count spot_total table s (count spot_cmp table s - 1) q ∙ ap (λ b. cond b (count spot_cmp table s - 1) (count spot_cmp table q)) e in
          let same : count spot_cmp table q ≡ count spot_cmp table s = ap (count spot_cmp table) (same_spot q s (tied _ e)) in
          omega (arith, all, f, one, is, same)
      fewer q false e =
          let all = sum_by-cons (one_if q) s ss in
          let f = few q in
          let is : count spot_cmp (set_count spot_cmp table s (count spot_cmp table s - 1)) q ≡ count spot_cmp table q = count-set_count spot_total table s (count spot_cmp table s - 1) q ∙ ap (λ b. cond b (count spot_cmp table s - 1) (count spot_cmp table q)) e in
          omega (arith, all, f, is)

-- what a unit holds
abbrev unit_here : ℕ → ℕ → Spot → Bool
unit_here a u s = nat_eq s.job a && nat_eq s.unit u

none_at : (b : Bool) (z : ℕ) → z ≡ 0 → cond b z 0 ≡ 0
none_at true z e = e
none_at false z e = refl

none_held : (a u : ℕ) (s : Spot) → cond {A = ℕ} (unit_here a u s) 0 0 ≡ 0
none_held a u s = none_at (unit_here a u s) 0 refl

one_held : (a u : ℕ) (s : Spot) (n : ℕ) → cond (unit_here a u s) (n + 1) 0 ≡ cond (unit_here a u s) n 0 + cond (unit_here a u s) 1 0
one_held a u s n = by (unit_here a u s)
  where
    by : (b : Bool) → cond b (n + 1) 0 ≡ cond b n 0 + cond b 1 0
    by true = refl
    by false = refl

held_granted : (table : Table) (s : Spot) (a u : ℕ) → IsSorted table → held (with_grant table s) a u ≡ held table a u + cond (unit_here a u s) 1 0
held_granted table s a u k = sum_granted (λ s n. cond (unit_here a u s) n 0) (λ s. cond (unit_here a u s) 1 0) (none_held a u) (one_held a u) table s k

held_without : (ss : List Spot) (table : Table) (a u : ℕ) → IsSorted table → ((q : Spot) → often q ss ≤ count spot_cmp table q) → held (without_grants table ss) a u ≤ held table a u
held_without ss table a u k few = let x = sum_without (λ s n. cond (unit_here a u s) n 0) (λ s. cond (unit_here a u s) 1 0) (none_held a u) (one_held a u) ss table k few in omega (arith, x)

-- what a group uses
module _ (groups : ℕ → ℕ) (sizes : ℕ → ℕ → ℕ → ℕ) (p i : ℕ) where
  none_used : (s : Spot) → cond (nat_eq (groups s.job) p) (0 * sizes s.job s.unit i) 0 ≡ 0
  none_used s = elim (nat_eq (groups s.job) p) as (λ b. cond b (0 * sizes s.job s.unit i) 0 ≡ 0) [ true ↦ omega arith | false ↦ refl ]

  one_used : (s : Spot) (n : ℕ) → cond (nat_eq (groups s.job) p) ((n + 1) * sizes s.job s.unit i) 0 ≡ cond (nat_eq (groups s.job) p) (n * sizes s.job s.unit i) 0 + cond (nat_eq (groups s.job) p) (sizes s.job s.unit i) 0
  one_used s n = elim (nat_eq (groups s.job) p) as (λ b. cond b ((n + 1) * sizes s.job s.unit i) 0 ≡ cond b (n * sizes s.job s.unit i) 0 + cond b (sizes s.job s.unit i) 0) [ true ↦ omega arith | false ↦ refl ]

  usage_granted : (table : Table) (s : Spot) → IsSorted table → usage_by groups sizes p i (with_grant table s) ≡ usage_by groups sizes p i table + cond (nat_eq (groups s.job) p) (sizes s.job s.unit i) 0
  usage_granted table s k = sum_granted (λ s n. cond (nat_eq (groups s.job) p) (n * sizes s.job s.unit i) 0) (λ s. cond (nat_eq (groups s.job) p) (sizes s.job s.unit i) 0) none_used one_used table s k

  usage_without : (ss : List Spot) (table : Table) → IsSorted table → ((q : Spot) → often q ss ≤ count spot_cmp table q) → usage_by groups sizes p i (without_grants table ss) + part_by groups sizes p i ss ≡ usage_by groups sizes p i table
  usage_without ss table k few = sum_without (λ s n. cond (nat_eq (groups s.job) p) (n * sizes s.job s.unit i) 0) (λ s. cond (nat_eq (groups s.job) p) (sizes s.job s.unit i) 0) none_used one_used ss table k few

-- what is wanted is of a live job and of a unit that it has
abbrev pub Wanted : Master → Type 0
Wanted M = (a u : ℕ) → 0 < asked M a (want_key u) → (is_live M.jobs a ≡ true) × (u < unit_count M.jobs a)

turned : (b : Bool) → not b ≡ true → b ≡ false
turned true e = cc
turned false e = refl

-- Settling. What placing tests of a pair
record IsOffered (c : ClusterRecord) (M : Master) (s : Spot) : Type 0 where
  serves : M.serving ≡ true
  out : 0 < out M s.job s.unit
  limit : (i : ℕ) → i < c.resources → usage_at M.jobs (group_of M.jobs s.job) i M.table + size_at M.jobs s.job s.unit i ≤ limit_at c (group_of M.jobs s.job) i
  reported : has_number s.machine M.reported ≡ true
  banned : has_number s.machine M.bans ≡ false
  avoided : asked M s.job (avoid_key s.unit s.machine) ≡ 0

placeable_offered : (c : ClusterRecord) (M : Master) (s : Spot) → placeable c M s.job s.unit s.machine ≡ true → IsOffered c M s
placeable_offered c M s e =
    let parts = both_true (may_grow c M s.job s.unit) (accepts c M s.job s.unit s.machine && has_room c M s.job s.unit s.machine) e in
    let grows = both_true M.serving (nat_lt 0 (out M s.job s.unit) && is_allowed c M s.job s.unit) parts.0 in
    let some = both_true (nat_lt 0 (out M s.job s.unit)) (is_allowed c M s.job s.unit) grows.1 in
    let usable = (both_true (is_usable M s.job s.unit s.machine) _ (both_true (accepts c M s.job s.unit s.machine) (has_room c M s.job s.unit s.machine) parts.1).0).0 in
    let may = both_true (has_number s.machine M.reported) (not (has_number s.machine M.bans) && not (avoids M s.job s.unit s.machine)) usable in
    let free = both_true (not (has_number s.machine M.bans)) (not (avoids M s.job s.unit s.machine)) may.1 in
    let p = group_of M.jobs s.job in
    record {
      serves = grows.0;
      out = (let t = some.0 in grind (arith, nat_tests, t));
      limit = λ i lt. (let t = in_each_is c (size_at M.jobs s.job s.unit) (λ i. not (nat_lt (limit_at c p i) (usage_at M.jobs p i M.table + size_at M.jobs s.job s.unit i))) i some.1 lt in grind (arith, nat_tests, t));
      reported = may.0;
      banned = turned (has_number s.machine M.bans) free.0;
      avoided = (let t = turned (nat_lt 0 (asked M s.job (avoid_key s.unit s.machine))) free.1 in grind (arith, nat_tests, t));
    }

-- a table W with one grant more of what was offered, of which a sum was so before
unit_fits : (table : Table) (s : Spot) (a u most : ℕ) → IsSorted table → (unit_here a u s ≡ true → held table a u + 1 ≤ most) → (unit_here a u s ≡ false → held table a u ≤ most) → held (with_grant table s) a u ≤ most
unit_fits table s a u most k here there = by (unit_here a u s) refl (held_granted table s a u k)
  where
    by : (b : Bool) → unit_here a u s ≡ b → held (with_grant table s) a u ≡ held table a u + cond b 1 0 → held (with_grant table s) a u ≤ most
    by true t e = let x = here t in omega (arith, x, e)
    by false t e = let x = there t in omega (arith, x, e)

group_fits : (groups : ℕ → ℕ) (sizes : ℕ → ℕ → ℕ → ℕ) (p i : ℕ) (table : Table) (s : Spot) (most : ℕ) → IsSorted table → (nat_eq (groups s.job) p ≡ true → usage_by groups sizes p i table + sizes s.job s.unit i ≤ most) → (nat_eq (groups s.job) p ≡ false → usage_by groups sizes p i table ≤ most)
    → usage_by groups sizes p i (with_grant table s) ≤ most
group_fits groups sizes p i table s most k here there = by (nat_eq (groups s.job) p) refl (usage_granted groups sizes p i table s k)
  where
    by : (b : Bool) → nat_eq (groups s.job) p ≡ b → usage_by groups sizes p i (with_grant table s) ≡ usage_by groups sizes p i table + cond b (sizes s.job s.unit i) 0 → usage_by groups sizes p i (with_grant table s) ≤ most
    by true t e = let x = here t in omega (arith, x, e)
    by false t e = let x = there t in omega (arith, x, e)

wants_more : (M : Master) (a u : ℕ) → 0 < out M a u → held M.table a u + 1 ≤ asked M a (want_key u)
wants_more M a u h = omega (arith, h)

clash : (b : Bool) → b ≡ true → b ≡ false → ⊥
clash true e f = cc
clash false e f = cc

here_itself : (s : Spot) → unit_here s.job s.unit s ≡ true
here_itself s = ap (λ b. b && nat_eq s.unit s.unit) (nat_itself s.job) ∙ nat_itself s.unit

-- what is granted is allowed
granted_allowed : (c : ClusterRecord) (M : Master) (s : Spot) → IsSorted M.table → Wanted M → IsOffered c M s → MayBeGranted c (granted M s) s.job s.unit s.machine
granted_allowed c M s k wanted o =
    let more = wants_more M s.job s.unit o.out in
    let there = wanted s.job s.unit (omega (arith, more)) in
    record {
      serves = o.serves;
      live = there.0;
      unit = there.1;
      banned = o.banned;
      avoided = o.avoided;
      wanted = unit_fits M.table s s.job s.unit (asked M s.job (want_key s.unit)) k (λ _. more) (λ f. absurd (clash (unit_here s.job s.unit s) (here_itself s) f));
      limit = λ i lt. group_fits (group_of M.jobs) (size_at M.jobs) (group_of M.jobs s.job) i M.table s (limit_at c (group_of M.jobs s.job) i) k (λ _. o.limit i lt) (λ f. absurd (clash (nat_eq (group_of M.jobs s.job) (group_of M.jobs s.job)) (nat_itself (group_of M.jobs s.job)) f));
    }

-- and what was allowed stays so
still_allowed : (c : ClusterRecord) (M : Master) (s : Spot) (a u m : ℕ) → IsSorted M.table → IsOffered c M s → MayBeGranted c M a u m → MayBeGranted c (granted M s) a u m
still_allowed c M s a u m k o h = record {
  serves = h.serves;
  live = h.live;
  unit = h.unit;
  banned = h.banned;
  avoided = h.avoided;
  wanted = unit_fits M.table s a u (asked M a (want_key u)) k (λ t. here (number_is s.job a (both_true (nat_eq s.job a) (nat_eq s.unit u) t).0) (number_is s.unit u (both_true (nat_eq s.job a) (nat_eq s.unit u) t).1)) (λ _. h.wanted);
  limit = λ i lt. group_fits (group_of M.jobs) (size_at M.jobs) (group_of M.jobs a) i M.table s (limit_at c (group_of M.jobs a) i) k (λ t. subst (λ p. usage_at M.jobs p i M.table + size_at M.jobs s.job s.unit i ≤ limit_at c p i) (number_is (group_of M.jobs s.job) (group_of M.jobs a) t) (o.limit i lt)) (λ _. h.limit i lt);
}
  where
    here : s.job ≡ a → s.unit ≡ u → held M.table a u + 1 ≤ asked M a (want_key u)
    here x y = subst (λ b. held M.table b u + 1 ≤ asked M b (want_key u)) x (subst (λ v. held M.table s.job v + 1 ≤ asked M s.job (want_key v)) y (wants_more M s.job s.unit o.out))

grant_grows : (c : ClusterRecord) (M N : Master) (s : Spot) → IsSorted N.table → Wanted N → IsOffered c N s → GrowsAsAllowed c M N → GrowsAsAllowed c M (granted N s)
grant_grows c M N s k wanted o g = record {
  reported = λ a u m r lt. grown a u m r (eq_by_cmp spot_cmp (spot a u m) s) refl (subst (λ n. held_on M.table a u m < n) (count_granted N.table s (spot a u m)) lt);
  adopted = λ a u m r lt. new a u m r (eq_by_cmp spot_cmp (spot a u m) s) refl (subst (λ n. held_on M.table a u m < n) (count_granted N.table s (spot a u m)) lt);
}
  where
    grown : (a u m : ℕ) → has_number m M.reported ≡ true → (b : Bool) → eq_by_cmp spot_cmp (spot a u m) s ≡ b → held_on M.table a u m < cond b (count spot_cmp N.table s + 1) (held_on N.table a u m) → MayBeGranted c (granted N s) a u m
    grown a u m r true e lt = subst (λ (q : Spot). MayBeGranted c (granted N s) q.job q.unit q.machine) (sym (same_spot (spot a u m) s (tied _ e))) (granted_allowed c N s k wanted o)
    grown a u m r false e lt = still_allowed c N s a u m k o (g.reported a u m r lt)

    new : (a u m : ℕ) → has_number m M.reported ≡ false → (b : Bool) → eq_by_cmp spot_cmp (spot a u m) s ≡ b → held_on M.table a u m < cond b (count spot_cmp N.table s + 1) (held_on N.table a u m) → has_number m N.reported ≡ true
    new a u m r true e lt = subst (λ (q : Spot). has_number q.machine N.reported ≡ true) (sym (same_spot (spot a u m) s (tied _ e))) o.reported
    new a u m r false e lt = g.adopted a u m r lt

settle_grows : (c : ClusterRecord) (fuel : ℕ) (M N : Master) → IsSorted N.table → Wanted N → GrowsAsAllowed c M N → GrowsAsAllowed c M (settle c fuel N)
settle_grows c zero M N k wanted g = g
settle_grows c (suc fuel) M N k wanted g = elim (first_placeable c N) as (λ o. first_placeable c N ≡ o → GrowsAsAllowed c M (elim o as (λ _. Master) [ None ↦ N | Some s ↦ settle c fuel (granted N s) ])) [
  | None ↦ λ _. g
  | Some s ↦ λ e. settle_grows c fuel M (granted N s) (sorted_set N.table s _ k) wanted (grant_grows c M N s k wanted (placeable_offered c N s (is_placeable c N s e)) g)
] refl

-- the end of a step
pub ready_grows : (c : ClusterRecord) (M N : Master) → IsSorted N.table → Wanted N → GrowsAsAllowed c M N → GrowsAsAllowed c M (ready c N)
ready_grows c M N k wanted g =
    let X = line_up (phased c N) in
    let h : GrowsAsAllowed c M X = record { reported = λ a u m r lt. phased_allowed a u m (g.reported a u m r lt); adopted = g.adopted } in
    elim X.serving as (λ b. GrowsAsAllowed c M (elim b as (λ _. Master) [ true ↦ settled c X | false ↦ X ])) [ true ↦ settle_grows c (all_out X) M X k wanted h | false ↦ h ]
  where
    phased_allowed : (a u m : ℕ) → MayBeGranted c N a u m → MayBeGranted c (line_up (phased c N)) a u m
    phased_allowed a u m h = record { serves = or_left N.serving _ h.serves; live = h.live; unit = h.unit; banned = h.banned; avoided = h.avoided; wanted = h.wanted; limit = h.limit }

-- Changes and what is heard: where no count rises, all is allowed
pub fewer_grow : (c : ClusterRecord) (M N : Master) → ((a u m : ℕ) → held_on N.table a u m ≤ held_on M.table a u m) → GrowsAsAllowed c M N
fewer_grow c M N h = record { reported = λ a u m r lt. absurd (let x = h a u m in omega (arith, x, lt)); adopted = λ a u m r lt. absurd (let x = h a u m in omega (arith, x, lt)) }

-- a master before the end of its step
pub record IsReadied (c : ClusterRecord) (M N : Master) : Type 0 where
  pub sorted : IsSorted N.table
  pub wanted : Wanted N
  pub grows : GrowsAsAllowed c M N

abbrev pub ChangedGrows : ClusterRecord → Master → MasterChange → Master → Type 0
ChangedGrows c M x N = IsReadied c M N

-- a job more, and a job that ends, leave the others
pub added_job : (jobs : List KnownJob) (j : JobRecord) (a : ℕ) → is_live jobs a ≡ true → job_of (with_job j jobs) a ≡ job_of jobs a
added_job [] j a e = cc
added_job (k ∷ ks) j a e = elim (nat_eq k.job.number a) as (λ b. unwrap_or (option_map (λ (i : KnownJob). not i.ended) (cond b (Some k) (job_of ks a))) false ≡ true → cond b (Some k) (job_of (with_job j ks) a) ≡ cond b (Some k) (job_of ks a)) [ true ↦ λ _. refl | false ↦ λ e. added_job ks j a e ] e

pub ended_job : (jobs : List KnownJob) (a b : ℕ) → nat_eq b a ≡ false → job_of (with_ended a jobs) b ≡ job_of jobs b
ended_job [] a b n = refl
ended_job (k ∷ ks) a b n = elim (nat_eq k.job.number a) as (λ t. nat_eq k.job.number a ≡ t → (let k' : KnownJob = cond t (record { job = k.job; ended = true }) k in cond (nat_eq k'.job.number b) (Some k') (job_of (with_ended a ks) b)) ≡ cond (nat_eq k.job.number b) (Some k) (job_of ks b)) [
  | true ↦ λ t. let other : nat_eq k.job.number b ≡ false = grind (arith, nat_tests, t, n) in
      ap (λ s. cond s (Some (record { job = k.job; ended = true })) (job_of (with_ended a ks) b)) other ∙ ended_job ks a b n ∙ sym (ap (λ s. cond s (Some k) (job_of ks b)) other)
  | false ↦ λ _. ap (λ o. cond (nat_eq k.job.number b) (Some k) o) (ended_job ks a b n)
] refl

abbrev live_in : Option KnownJob → Bool
live_in o = unwrap_or (option_map (λ (j : KnownJob). not j.ended) o) false

-- a demand put for a job
put_wanted : (M N : Master) (a : ℕ) (d : Ledger) → N.jobs ≡ M.jobs → N.demands ≡ put nat_cmp a d M.demands → ((u : ℕ) → 0 < at_key d (want_key u) → (is_live M.jobs a ≡ true) × (u < unit_count M.jobs a)) → Wanted M → Wanted N
put_wanted M N a d jobs demands new old b u some = by (nat_eq b a) refl
  where
    at : (x : Ledger) → unwrap_or (find nat_cmp b (put nat_cmp a d M.demands)) nothing ≡ x → 0 < at_key x (want_key u)
    at x e = subst (λ (l : Ledger). 0 < at_key l (want_key u)) (ap (λ ds. unwrap_or (find nat_cmp b ds) nothing) demands ∙ e) some

    of : (js : List KnownJob) → N.jobs ≡ js → (is_live js b ≡ true) × (u < unit_count js b) → (is_live N.jobs b ≡ true) × (u < unit_count N.jobs b)
    of js e h = subst (λ (ks : List KnownJob). (is_live ks b ≡ true) × (u < unit_count ks b)) (sym e) h

    by : (t : Bool) → nat_eq b a ≡ t → (is_live N.jobs b ≡ true) × (u < unit_count N.jobs b)
    by true t =
        let same : b ≡ a = number_is b a t in
        let some : 0 < at_key d (want_key u) = at d (ap (λ n. unwrap_or (find nat_cmp n (put nat_cmp a d M.demands)) nothing) same ∙ found_put a d nothing M.demands) in
        of M.jobs jobs (subst (λ n. (is_live M.jobs n ≡ true) × (u < unit_count M.jobs n)) (sym same) (new u some))
    by false t = of M.jobs jobs (old b u (at (unwrap_or (find nat_cmp b M.demands) nothing) (ap (λ o. unwrap_or o nothing) (put_beside a b d M.demands t))))

no_wants : (jobs : List KnownJob) (a u : ℕ) → 0 < at_key nothing (want_key u) → (is_live jobs a ≡ true) × (u < unit_count jobs a)
no_wants jobs a u h = absurd (omega (arith, h))

left_fewer : (p : Spot → Bool) (table : Table) (q : Spot) → cond (p q) (count spot_cmp table q) 0 ≤ count spot_cmp table q
left_fewer p table q = elim (p q) as (λ b. cond b (count spot_cmp table q) 0 ≤ count spot_cmp table q) [ true ↦ omega arith | false ↦ omega arith ]

-- each change
pub each_change : (c : ClusterRecord) (M : Master) → IsOrderly M → EachChange c M (ChangedGrows c M)
each_change c M h = record {
  admits = λ j. record { sorted = h.sorted; wanted = λ a u some. (let w = h.wanted a u some in (ap live_in (added_job M.jobs j a w.0) ∙ w.0, subst (λ (o : Option KnownJob). u < units_in o) (sym (added_job M.jobs j a w.0)) w.1)); grows = fewer_grow c M (record M { jobs = with_job j M.jobs }) (λ a u m. omega arith) };
  ends = λ a. record { sorted = is_sorted-where_key spot_cmp _ M.table h.sorted; wanted = λ b u some. ended a b u some (nat_eq b a) refl; grows = fewer_grow c M (ended_in M a) (λ b u m. (let x = count_left (λ s. not (nat_eq s.job a)) M.table (spot b u m) in let y = left_fewer (λ s. not (nat_eq s.job a)) M.table (spot b u m) in omega (arith, x, y))) };
  bans = λ n. record { sorted = is_sorted-where_key spot_cmp _ M.table h.sorted; wanted = h.wanted; grows = fewer_grow c M (banned_in M n) (λ a u m. (let x = count_left (λ s. not (nat_eq s.machine n)) M.table (spot a u m) in let y = left_fewer (λ s. not (nat_eq s.machine n)) M.table (spot a u m) in omega (arith, x, y))) };
  unbans = λ n. record { sorted = h.sorted; wanted = h.wanted; grows = fewer_grow c M _ (λ a u m. omega arith) };
  begins = record { sorted = h.sorted; wanted = h.wanted; grows = fewer_grow c M (record M { serving = true }) (λ a u m. omega arith) };
  preempts = λ p serves e. record { sorted = sorted_set (without_grants M.table p.losers) p.served _ (sorted_without p.losers M.table h.sorted); wanted = h.wanted; grows = served p serves e };
}
  where
    units_in : Option KnownJob → ℕ
    units_in o = length (unwrap_or (option_map (λ (j : KnownJob). j.job.units) o) [])

    ended : (a b u : ℕ) → 0 < asked (ended_in M a) b (want_key u) → (t : Bool) → nat_eq b a ≡ t → (is_live (with_ended a M.jobs) b ≡ true) × (u < unit_count (with_ended a M.jobs) b)
    ended a b u some true t =
        let none : asked (ended_in M a) b (want_key u) ≡ 0 = ap (λ (l : Ledger). at_key l (want_key u)) (ap (λ n. unwrap_or (find nat_cmp n (put nat_cmp a nothing M.demands)) nothing) (number_is b a t) ∙ found_put a nothing nothing M.demands) in
        absurd (omega (arith, some, none))
    ended a b u some false t =
        let same : asked (ended_in M a) b (want_key u) ≡ asked M b (want_key u) = ap (λ o. at_key (unwrap_or o nothing) (want_key u)) (put_beside a b nothing M.demands t) in
        let w = h.wanted b u (omega (arith, some, same)) in
        (ap live_in (ended_job M.jobs a b t) ∙ w.0, subst (λ (o : Option KnownJob). u < units_in o) (sym (ended_job M.jobs a b t)) w.1)

    served : (p : Plan) → M.serving ≡ true → plan_of c M ≡ Some p → GrowsAsAllowed c M (preempted M p)
    served p serves e = record {
      reported = λ a u m r lt. grown a u m (eq_by_cmp spot_cmp (spot a u m) p.served) refl (subst (λ n. held_on M.table a u m < n) (count_granted W p.served (spot a u m)) lt);
      adopted = λ a u m r lt. new a u m (eq_by_cmp spot_cmp (spot a u m) p.served) refl (subst (λ n. held_on M.table a u m < n) (count_granted W p.served (spot a u m)) lt);
    }
      where
        W : Table
        W = without_grants M.table p.losers

        sorted : IsSorted W
        sorted = sorted_without p.losers M.table h.sorted

        few : (q : Spot) → often q p.losers ≤ count spot_cmp M.table q
        few = (plan_loss (tried c M) c M p h.sorted e).drawn.few

        usable : IsUsable M p.served.job p.served.unit p.served.machine
        usable = (plan_tried c M p e).candidate.usable

        more : held M.table p.served.job p.served.unit + 1 ≤ asked M p.served.job (want_key p.served.unit)
        more = wants_more M p.served.job p.served.unit (all_at (λ q. 0 < out M q.0 q.1) M.line (plan_tried c M p e).place (p.served.job, p.served.unit) h.waits (plan_tried c M p e).candidate.there)

        allowed : MayBeGranted c (preempted M p) p.served.job p.served.unit p.served.machine
        allowed = record {
          serves = serves;
          live = (h.wanted p.served.job p.served.unit (let x = more in omega (arith, x))).0;
          unit = (h.wanted p.served.job p.served.unit (let x = more in omega (arith, x))).1;
          banned = usable.banned;
          avoided = usable.avoided;
          wanted = unit_fits W p.served p.served.job p.served.unit (asked M p.served.job (want_key p.served.unit)) sorted (λ _. (let x = more in let y = held_without p.losers M.table p.served.job p.served.unit h.sorted few in omega (arith, x, y))) (λ f. absurd (clash (unit_here p.served.job p.served.unit p.served) (here_itself p.served) f));
          limit = λ i lt. (let g = group_of M.jobs p.served.job in
              let x = (plan_by_quota (tried c M) c M p e).limit i lt in
              let y = usage_without (group_of M.jobs) (size_at M.jobs) g i p.losers M.table h.sorted few in
              group_fits (group_of M.jobs) (size_at M.jobs) g i W p.served (limit_at c g i) sorted (λ _. omega (arith, x, y)) (λ f. absurd (clash (nat_eq g g) (nat_itself g) f)));
        }

        grown : (a u m : ℕ) (b : Bool) → eq_by_cmp spot_cmp (spot a u m) p.served ≡ b → held_on M.table a u m < cond b (count spot_cmp W p.served + 1) (held_on W a u m) → MayBeGranted c (preempted M p) a u m
        grown a u m true t lt = subst (λ (q : Spot). MayBeGranted c (preempted M p) q.job q.unit q.machine) (sym (same_spot (spot a u m) p.served (tied _ t))) allowed
        grown a u m false t lt = absurd (let x = count_without p.losers M.table (spot a u m) in omega (arith, x, lt))

        new : (a u m : ℕ) (b : Bool) → eq_by_cmp spot_cmp (spot a u m) p.served ≡ b → held_on M.table a u m < cond b (count spot_cmp W p.served + 1) (held_on W a u m) → has_number m M.reported ≡ true
        new a u m true t lt = subst (λ (q : Spot). has_number q.machine M.reported ≡ true) (sym (same_spot (spot a u m) p.served (tied _ t))) usable.reported
        new a u m false t lt = absurd (let x = count_without p.losers M.table (spot a u m) in omega (arith, x, lt))

pub changes_grow : (c : ClusterRecord) (M : Master) (x : MasterChange) (d : Changed) → IsOrderly M → change_of c M x ≡ Ok d → GrowsAsAllowed c M (ready c d.state)
changes_grow c M x d h e = let k = changed_has c M (ChangedGrows c M) (each_change c M h) x d e in ready_grows c M d.state k.sorted k.wanted k.grows

-- what is counted of a demand is of units that are there
counted_units : (c : ClusterRecord) (jobs : List KnownJob) (a u : ℕ) (d : Ledger) → 0 < at_key (counted c jobs a d) (want_key u) → u < unit_count jobs a
counted_units c jobs a u d some = by (nat_lt u (unit_count jobs a)) refl
  where
    at : at_key (counted c jobs a d) (want_key u) ≡ unwrap_or (cond (is_there c (unit_count jobs a) (want_key u)) (find key_cmp (want_key u) d.entries) None) 0
    at = ap (λ o. unwrap_or o 0) (find-where_key key_cmp (is_there c (unit_count jobs a)) (want_key u) (λ x t. ap (is_there c (unit_count jobs a)) (sym (same_key (want_key u) x t))) d.entries)

    by : (b : Bool) → nat_lt u (unit_count jobs a) ≡ b → u < unit_count jobs a
    by true t = grind (arith, nat_tests, t)
    by false t = let none : is_there c (unit_count jobs a) (want_key u) ≡ false = ap (λ b. b && true) t in
        let zero : at_key (counted c jobs a d) (want_key u) ≡ 0 = at ∙ ap (λ b. unwrap_or (cond b (find key_cmp (want_key u) d.entries) None) 0) none in
        absurd (omega (arith, some, zero))

each_heard : (c : ClusterRecord) (M : Master) (fresh : Bool) (from : Id) (l : Ledger) → IsOrderly M → (is_agent from ≡ false → (u : ℕ) → 0 < at_key l (want_key u) → u < unit_count M.jobs from.number) → EachHeard M fresh from l (IsReadied c M)
each_heard c M fresh from l h units = record {
  same = λ _. record { sorted = h.sorted; wanted = h.wanted; grows = fewer_grow c M M (λ a u m. omega arith) };
  reports = λ _ ad. record { sorted = either IsSorted (has_number from.number M.bans) M.table (adopted M.jobs from.number l.rows M.table) (λ _. h.sorted) (λ _. sorted_adopted M.jobs from.number l.rows M.table h.sorted); wanted = h.wanted; grows = reported ad };
  meets = λ _. met fresh;
  demands = λ app. taken app (meet_app fresh M from.number) (met fresh) (met_jobs fresh) (met_table fresh);
}
  where
    met : (fresh : Bool) → IsReadied c M (meet_app fresh M from.number)
    met true = record { sorted = h.sorted; wanted = put_wanted M (meet_app true M from.number) from.number nothing refl refl (no_wants M.jobs from.number) h.wanted; grows = fewer_grow c M (meet_app true M from.number) (λ a u m. omega arith) }
    met false = record { sorted = h.sorted; wanted = h.wanted; grows = fewer_grow c M M (λ a u m. omega arith) }

    met_jobs : (fresh : Bool) → (meet_app fresh M from.number).jobs ≡ M.jobs
    met_jobs true = refl
    met_jobs false = refl

    met_table : (fresh : Bool) → (meet_app fresh M from.number).table ≡ M.table
    met_table true = refl
    met_table false = refl

    beside : (a u m : ℕ) → nat_eq m from.number ≡ false → held_on (reported_in M from.number l).table a u m ≤ held_on M.table a u m
    beside a u m other = either (λ t. held_on t a u m ≤ held_on M.table a u m) (has_number from.number M.bans) M.table (adopted M.jobs from.number l.rows M.table) (λ _. omega arith) (λ _. let x = adopted_beside M.jobs from.number l.rows M.table (spot a u m) other in omega (arith, x))

    reported : adopts M from.number l ≡ true → GrowsAsAllowed c M (reported_in M from.number l)
    reported ad = record {
      reported = λ a u m r lt. absurd (known a u m r (nat_eq m from.number) refl lt);
      adopted = λ a u m r lt. new a u m (nat_eq m from.number) refl lt;
    }
      where
        known : (a u m : ℕ) → has_number m M.reported ≡ true → (b : Bool) → nat_eq m from.number ≡ b → held_on M.table a u m < held_on (reported_in M from.number l).table a u m → ⊥
        known a u m r true t lt =
            let none = turned (has_number from.number M.reported) (both_true (nat_eq l.head M.epoch) (not (has_number from.number M.reported)) ad).1 in
            clash (has_number m M.reported) r (ap (λ n. has_number n M.reported) (number_is m from.number t) ∙ none)
        known a u m r false t lt = let x = beside a u m t in omega (arith, x, lt)

        new : (a u m : ℕ) (b : Bool) → nat_eq m from.number ≡ b → held_on M.table a u m < held_on (reported_in M from.number l).table a u m → has_number m (reported_in M from.number l).reported ≡ true
        new a u m true t lt = subst (λ n. has_number n (reported_in M from.number l).reported ≡ true) (sym (number_is m from.number t)) (with_here from.number M.reported)
        new a u m false t lt = absurd (let x = beside a u m t in omega (arith, x, lt))

    taken : is_agent from ≡ false → (N : Master) → IsReadied c M N → N.jobs ≡ M.jobs → N.table ≡ M.table → IsReadied c M (take_demand N from.number l)
    taken app N k same table = either (IsReadied c M) (nat_eq l.head N.epoch && is_live N.jobs from.number)
        (record N { demands = put nat_cmp from.number l N.demands; table = credit from.number (credited_of N from.number) l.entries N.table; credited = put nat_cmp from.number (raise_credited (credited_of N from.number) l.entries) N.credited })
        (record N { demands = put nat_cmp from.number nothing N.demands })
        (λ t. record {
          sorted = sorted_credit from.number (credited_of N from.number) l.entries N.table k.sorted;
          wanted = put_wanted N (record N { demands = put nat_cmp from.number l N.demands; table = credit from.number (credited_of N from.number) l.entries N.table; credited = put nat_cmp from.number (raise_credited (credited_of N from.number) l.entries) N.credited }) from.number l refl refl
              (λ u some. ((both_true (nat_eq l.head N.epoch) (is_live N.jobs from.number) t).1, subst (λ (js : List KnownJob). u < unit_count js from.number) (sym same) (units app u some))) k.wanted;
          grows = fewer_grow c M _ (λ a u m. (let x = credit_falls from.number (credited_of N from.number) l.entries N.table (spot a u m) in let y = held_same a u m in omega (arith, x, y)));
        })
        (λ _. record { sorted = k.sorted; wanted = put_wanted N (record N { demands = put nat_cmp from.number nothing N.demands }) from.number nothing refl refl (no_wants N.jobs from.number) k.wanted; grows = fewer_grow c M _ (λ a u m. (let y = held_same a u m in omega (arith, y))) })
      where
        held_same : (a u m : ℕ) → held_on N.table a u m ≡ held_on M.table a u m
        held_same a u m = ap (λ t. held_on t a u m) table

pub hearing_grows : (c : ClusterRecord) (M : Master) (fresh taken : Bool) (from : Id) (l : Ledger) → IsOrderly M → GrowsAsAllowed c M (ready c (told_of M fresh taken from (said c M from l)))
hearing_grows c M fresh taken from l h =
    let k = heard_has M fresh taken from (said c M from l) (IsReadied c M) (each_heard c M fresh from (said c M from l) h
    (λ app u some. counted_units c M.jobs from.number u l (subst (λ (d : Ledger). 0 < at_key d (want_key u)) (ap (λ b. cond b l (counted c M.jobs from.number l)) app) some))) in
    ready_grows c M (told_of M fresh taken from (said c M from l)) k.sorted k.wanted k.grows
