-- A master's table is in order and has grants of jobs that have not ended alone, whatever the master does.
use Rattle.std.proofs.Common.{◌≡◌, ℕ, zero, suc, ◌-◌, ◌<◌, Bool, true, false, cond, not, nat_eq, nat_lt, List, [], ◌∷◌, length, map, filter, Some, None, refl, sym, ◌∙◌, ap, subst, arith, min}
use Rattle.std.specs.Prelude.{◌&&◌, ◌||◌, T}
use Rattle.std.specs.Option.{option_map, unwrap_or}
use Rattle.std.specs.List.{AllByRecursion, flat_map}
use Rattle.std.specs.Ordering.{nat_cmp}
use Rattle.std.specs.FinMap.Entries.{find, put, where_key, is_sorted, is_sorted-put, is_sorted-where_key, find-put}
use Rattle.std.proofs.lemmas.Bool.Decides.{nat_tests}
use Rattle.fuxi_terms.specs.declared.Key.{Key}
use Rattle.fuxi_terms.specs.Cluster.{ClusterRecord, JobRecord}
use Rattle.fuxi_terms.specs.Keys.{key_cmp, RowKey, Spot, spot_cmp, Pair}
use Rattle.fuxi_terms.specs.Counts.{count, set_count}
use Rattle.spec_net.specs.Net.{Id, Heard, is_taken}
use Rattle.spec_net.specs.Ledgers.{Ledger, nothing, at_key}
use Rattle.fuxi_terms.specs.TallyKeys.{count_key, want_key, credited_key, is_back}
use Rattle.spec_net.specs.Channels.{is_agent}
use Rattle.fuxi_terms.specs.Jobs.{KnownJob, job_of, is_live, unit_count, priority_of, job_numbers}
use Rattle.fuxi_terms.specs.Lists.{below}
use Rattle.fuxi_terms.specs.Numbers.{has_number}
use Rattle.spec_roles.specs.Masters.{Master, asked, out, credited_of}
use Rattle.fuxi_terms.specs.Tables.{spot, without_grants, Table}
use Rattle.spec_roles.specs.Placing.{first_placeable, granted, settle, settled, all_out, waiting_pairs, has_pair, line_up, accepts, is_allowed, has_room, may_grow, placeable}
use Rattle.spec_roles.specs.Preemption.{Plan, falling_priorities, by_priority, tried, plan_of, preempted}
use Rattle.spec_roles.specs.HardState.{with_job, with_ended}
use Rattle.spec_roles.specs.MasterSteps.{phased, ready, is_kept, adopted, adopts, take_report, credit, raise_credited, take_demand, meet_app, ended_in, banned_in}
use Rattle.spec_world.specs.Parties.{told}
use Rattle.fuxi_terms.proofs.Spots.{each_put, each_where, each_found, each_set}
use Rattle.fuxi_terms.proofs.Alls.{all_append, all_mapped, all_flat, all_passed, all_filter}
use Rattle.fuxi_terms.proofs.Booleans.{both_true, either, number_is}
use Rattle.fuxi_terms.proofs.KeyOrders.{key_total, spot_total}
use Rattle.spec_roles.proofs.PlacingEnds.{is_placeable}
use Rattle.spec_world.specs.Good.{AllWait, IsInOrder}
use Rattle.spec_roles.proofs.MapLemmas.{found_put, put_beside}
use Rattle.spec_roles.proofs.TransitionsLemmas.{planned, sorted_set}

abbrev IsSorted : Table → Type 0
IsSorted table = T (is_sorted spot_cmp table)

abbrev IsLive : List KnownJob → Table → Type 0
IsLive jobs table = AllByRecursion (λ e. is_live jobs e.0.job ≡ true) table

clash : (b : Bool) → b ≡ true → b ≡ false → ⊥
clash true e f = cc
clash false e f = cc

-- Entries of a table
abbrev IsOfLive : List KnownJob → Spot → Type 0
IsOfLive jobs s = is_live jobs s.job ≡ true

-- what is found is of a live job
pub live_found : (jobs : List KnownJob) (s : Spot) (es : Table) → 0 < count spot_cmp es s → IsLive jobs es → is_live jobs s.job ≡ true
live_found jobs s es some h = each_found (IsOfLive jobs) s es some h

-- what is out is asked for, so its job has not ended
out_live : (M : Master) (a u : ℕ) → IsInOrder M → nat_lt 0 (out M a u) ≡ true → is_live M.jobs a ≡ true
out_live M a u h e = by (is_live M.jobs a) refl
  where
    by : (b : Bool) → is_live M.jobs a ≡ b → is_live M.jobs a ≡ true
    by true t = t
    by false t =
        let none : asked M a (want_key u) ≡ 0 = ap (λ (d : Ledger). at_key d (want_key u)) (h.empty a t) in
        let some : 0 < out M a u = grind (arith, nat_tests, e) in
        absurd (omega (arith, none, some))

-- what is placeable is out
pub placeable_out : (c : ClusterRecord) (M : Master) (a u m : ℕ) → placeable c M a u m ≡ true → nat_lt 0 (out M a u) ≡ true
placeable_out c M a u m e =
    (both_true (nat_lt 0 (out M a u)) (is_allowed c M a u) (both_true M.serving (nat_lt 0 (out M a u) && is_allowed c M a u) (both_true (may_grow c M a u) (accepts c M a u m && has_room c M a u m) e).0).1).0

-- Placing
settle_in_order : (c : ClusterRecord) (fuel : ℕ) (M : Master) → IsInOrder M → IsInOrder (settle c fuel M)
settle_in_order c zero M h = h
settle_in_order c (suc fuel) M h = elim (first_placeable c M) as (λ o. first_placeable c M ≡ o → IsInOrder (elim o as (λ _. Master) [ None ↦ M | Some s ↦ settle c fuel (granted M s) ])) [
  | None ↦ λ _. h
  | Some s ↦ λ e. settle_in_order c fuel (granted M s) (record {
    sorted = sorted_set M.table s _ h.sorted;
    alive = each_set (IsOfLive M.jobs) s _ M.table (λ _. out_live M s.job s.unit h (placeable_out c M s.job s.unit s.machine (is_placeable c M s e))) h.alive;
    empty = h.empty;
    plain = h.plain;
  })
] refl

-- the end of a step
pub ready_in_order : (c : ClusterRecord) (M : Master) → IsInOrder M → IsInOrder (ready c M)
ready_in_order c M h = let N = line_up (phased c M) in let k : IsInOrder N = record { sorted = h.sorted; alive = h.alive; empty = h.empty; plain = h.plain } in
    elim N.serving as (λ b. IsInOrder (elim b as (λ _. Master) [ true ↦ settled c N | false ↦ N ])) [ true ↦ settle_in_order c (all_out N) N k | false ↦ k ]

-- The line of a master that is ready
waiting : (M : Master) → AllWait M (waiting_pairs M)
waiting M = all_flat (λ p. nat_lt 0 (out M p.0 p.1) ≡ true) _ (job_numbers M.jobs)
    (λ a. all_mapped (λ (p : Pair). nat_lt 0 (out M p.0 p.1) ≡ true) (λ u. (a, u)) _ (all_passed (λ u. nat_lt 0 (out M a u) ≡ true) (λ u. nat_lt 0 (out M a u)) (below (unit_count M.jobs a)) (λ u e. e)))

-- a pair that is one of those that wait waits
pub waits_too : (M : Master) (p : Pair) (pairs : List Pair) → AllWait M pairs → has_pair p pairs ≡ true → nat_lt 0 (out M p.0 p.1) ≡ true
waits_too M p [] h e = cc
waits_too M p (q ∷ qs) h e = elim (nat_eq p.0 q.0 && nat_eq p.1 q.1) as (λ b. (nat_eq p.0 q.0 && nat_eq p.1 q.1) ≡ b → (b || has_pair p qs) ≡ true → nat_lt 0 (out M p.0 p.1) ≡ true) [
  | true ↦ λ t _. let b = both_true (nat_eq p.0 q.0) (nat_eq p.1 q.1) t in let x = number_is p.0 q.0 b.0 in let y = number_is p.1 q.1 b.1 in (λ i. nat_lt 0 (out M (x i) (y i))) ∙ h.0
  | false ↦ λ _ e. waits_too M p qs h.1 e
] refl e

lined_waits : (M : Master) → AllWait M (line_up M).line
lined_waits M = all_append (λ p. nat_lt 0 (out M p.0 p.1) ≡ true) (filter (λ p. has_pair p (waiting_pairs M)) M.line) (filter (λ p. not (has_pair p M.line)) (waiting_pairs M))
    (all_passed (λ p. nat_lt 0 (out M p.0 p.1) ≡ true) (λ p. has_pair p (waiting_pairs M)) M.line (λ p e. waits_too M p (waiting_pairs M) (waiting M) e))
    (all_filter (λ p. nat_lt 0 (out M p.0 p.1) ≡ true) (λ p. not (has_pair p M.line)) (waiting_pairs M) (waiting M))

record Waits (M : Master) : Type 0 where
  all : AllWait M M.line

settle_waits : (c : ClusterRecord) (fuel : ℕ) (M : Master) → Waits M → Waits (settle c fuel M)
settle_waits c zero M h = h
settle_waits c (suc fuel) M h = elim (first_placeable c M) as (λ o. Waits (elim o as (λ _. Master) [ None ↦ M | Some s ↦ settle c fuel (granted M s) ])) [
  | None ↦ h
  | Some s ↦ settle_waits c fuel (granted M s) (record { all = all_passed (λ p. nat_lt 0 (out (granted M s) p.0 p.1) ≡ true) (λ p. nat_lt 0 (out (granted M s) p.0 p.1)) M.line (λ p e. e) })
]

-- each pair of the line then waits
pub ready_waits : (c : ClusterRecord) (M : Master) → AllWait (ready c M) (ready c M).line
ready_waits c M =
    let N = line_up (phased c M) in
    let k : Waits N = record { all = lined_waits (phased c M) } in
    (elim N.serving as (λ b. Waits (elim b as (λ _. Master) [ true ↦ settled c N | false ↦ N ])) [ true ↦ settle_waits c (all_out N) N k | false ↦ k ]).all

-- Preempting
without_in_order : (jobs : List KnownJob) (table : Table) (ss : List Spot) → IsSorted table × IsLive jobs table → IsSorted (without_grants table ss) × IsLive jobs (without_grants table ss)
without_in_order jobs table [] h = h
without_in_order jobs table (s ∷ ss) h =
    let n = count spot_cmp table s - 1 in
    without_in_order jobs (set_count spot_cmp table s n) ss (sorted_set table s n h.0, each_set (IsOfLive jobs) s n table (λ e. live_found jobs s table (let some : 0 < n = grind (arith, nat_tests, e) in omega (arith, some)) h.1) h.1)

-- a preemption
pub preempted_in_order : (c : ClusterRecord) (M : Master) (p : Plan) → plan_of c M ≡ Some p → AllWait M M.line → IsInOrder M → IsInOrder (preempted M p)
preempted_in_order c M p e w h =
    let live : is_live M.jobs p.served.job ≡ true = planned (λ s. is_live M.jobs s.job ≡ true) (tried c M) c M p
    (all_spots (by_priority M) (all_flat (λ q. nat_lt 0 (out M q.0 q.1) ≡ true) (λ n. filter (λ q. nat_eq (priority_of M.jobs q.0 q.1) n) M.line) falling_priorities (λ n. all_filter (λ q. nat_lt 0 (out M q.0 q.1) ≡ true) (λ q. nat_eq (priority_of M.jobs q.0 q.1) n) M.line w))) e in
    let t = without_in_order M.jobs M.table p.losers (h.sorted, h.alive) in
    record {
      sorted = sorted_set (without_grants M.table p.losers) p.served _ t.0;
      alive = each_set (IsOfLive M.jobs) p.served _ (without_grants M.table p.losers) (λ _. live) t.1;
      empty = h.empty;
      plain = h.plain;
    }
  where
    all_spots : (qs : List Pair) → AllWait M qs → AllByRecursion (λ (s : Spot). is_live M.jobs s.job ≡ true) (flat_map (λ q. map (spot q.0 q.1) (filter (accepts c M q.0 q.1) (below (length c.machines)))) qs)
    all_spots [] k = tt
    all_spots (q ∷ qs) k = all_append (λ (s : Spot). is_live M.jobs s.job ≡ true) (map (spot q.0 q.1) (filter (accepts c M q.0 q.1) (below (length c.machines)))) _
        (each (filter (accepts c M q.0 q.1) (below (length c.machines))) (out_live M q.0 q.1 h k.0)) (all_spots qs k.1)
      where
        each : (ms : List ℕ) → is_live M.jobs q.0 ≡ true → AllByRecursion (λ (s : Spot). is_live M.jobs s.job ≡ true) (map (spot q.0 q.1) ms)
        each [] l = tt
        each (m ∷ ms) l = (l, each ms l)

-- Ends of jobs, new jobs, bans, and a change of the phase
pub banned_in_order : (M : Master) (m : ℕ) → IsInOrder M → IsInOrder (banned_in M m)
banned_in_order M m h = record { sorted = is_sorted-where_key spot_cmp _ M.table h.sorted; alive = each_where (IsOfLive M.jobs) _ M.table h.alive; empty = h.empty; plain = h.plain }

-- a master with the same table
pub same_in_order : (M N : Master) → N.table ≡ M.table → N.jobs ≡ M.jobs → N.demands ≡ M.demands → N.credited ≡ M.credited → IsInOrder M → IsInOrder N
same_in_order M N t j d c h = record {
  sorted = subst IsSorted (sym t) h.sorted;
  alive = subst (λ js. IsLive js N.table) (sym j) (subst (IsLive M.jobs) (sym t) h.alive);
  empty = λ a e. ap (λ ds. unwrap_or (find nat_cmp a ds) nothing) d ∙ h.empty a (subst (λ js. is_live js a ≡ false) j e);
  plain = λ a u m. ap (λ cs. find key_cmp (count_key u m) (unwrap_or (find nat_cmp a cs) [])) c ∙ h.plain a u m;
}

-- a new master
pub new_in_order : (M : Master) → M.table ≡ [] → M.demands ≡ [] → M.credited ≡ [] → IsInOrder M
new_in_order M t d c = record {
  sorted = subst IsSorted (sym t) tt;
  alive = subst (IsLive M.jobs) (sym t) tt;
  empty = λ a e. ap (λ ds. unwrap_or (find nat_cmp a ds) nothing) d;
  plain = λ a u m. ap (λ cs. find key_cmp (count_key u m) (unwrap_or (find nat_cmp a cs) [])) c;
}

all_live : (jobs jobs' : List KnownJob) → ((a : ℕ) → is_live jobs a ≡ true → is_live jobs' a ≡ true) → (es : Table) → IsLive jobs es → IsLive jobs' es
all_live jobs jobs' f [] h = tt
all_live jobs jobs' f (e ∷ es) h = (f e.0.job h.0, all_live jobs jobs' f es h.1)

not_live : (b d : Bool) → (b ≡ true → d ≡ true) → d ≡ false → b ≡ false
not_live true d f e = let t = f refl in cc
not_live false d f e = refl

added_live : (jobs : List KnownJob) (j : JobRecord) (a : ℕ) → is_live jobs a ≡ true → is_live (with_job j jobs) a ≡ true
added_live [] j a e = cc
added_live (k ∷ ks) j a e = elim (nat_eq k.job.number a) as (λ b. unwrap_or (option_map (λ (i : KnownJob). not i.ended) (cond b (Some k) (job_of ks a))) false ≡ true → unwrap_or (option_map (λ (i : KnownJob). not i.ended) (cond b (Some k) (job_of (with_job j ks) a))) false ≡ true) [ true ↦ λ e. e | false ↦ λ e. added_live ks j a e ] e

-- a job more
pub added_in_order : (M : Master) (j : JobRecord) → IsInOrder M → IsInOrder (record M { jobs = with_job j M.jobs })
added_in_order M j h = record {
  sorted = h.sorted;
  alive = all_live M.jobs (with_job j M.jobs) (added_live M.jobs j) M.table h.alive;
  empty = λ a e. h.empty a (not_live (is_live M.jobs a) (is_live (with_job j M.jobs) a) (added_live M.jobs j a) e);
  plain = h.plain;
}

-- another job than the one that ends stays as it is
other_live : (a : ℕ) (jobs : List KnownJob) (b : ℕ) → nat_eq b a ≡ false → is_live (with_ended a jobs) b ≡ is_live jobs b
other_live a [] b n = refl
other_live a (k ∷ ks) b n = elim (nat_eq k.job.number a) as (λ t. nat_eq k.job.number a ≡ t → unwrap_or (option_map (λ (j : KnownJob). not j.ended) (let k' : KnownJob = cond t (record { job = k.job; ended = true }) k in cond (nat_eq k'.job.number b) (Some k') (job_of (with_ended a ks) b))) false
    ≡ unwrap_or (option_map (λ (j : KnownJob). not j.ended) (cond (nat_eq k.job.number b) (Some k) (job_of ks b))) false) [
      | true ↦ λ t. let other : nat_eq k.job.number b ≡ false = grind (arith, nat_tests, t, n) in
          ap (λ s. unwrap_or (option_map (λ (j : KnownJob). not j.ended) (cond s (Some (record { job = k.job; ended = true })) (job_of (with_ended a ks) b))) false) other ∙ other_live a ks b n
          ∙ sym (ap (λ s. unwrap_or (option_map (λ (j : KnownJob). not j.ended) (cond s (Some k) (job_of ks b))) false) other)
      | false ↦ λ _. one (other_live a ks b n) (nat_eq k.job.number b)
    ] refl
  where
    one : is_live (with_ended a ks) b ≡ is_live ks b → (s : Bool) → unwrap_or (option_map (λ (j : KnownJob). not j.ended) (cond s (Some k) (job_of (with_ended a ks) b))) false ≡ unwrap_or (option_map (λ (j : KnownJob). not j.ended) (cond s (Some k) (job_of ks b))) false
    one before true = refl
    one before false = before

-- a demand that is put for a job that has not ended, or an empty one
put_demand : (jobs : List KnownJob) (a : ℕ) (d : Ledger) (ds : List (ℕ × Ledger)) → (is_live jobs a ≡ false → d ≡ nothing) → (b : ℕ) → is_live jobs b ≡ false → (nat_eq b a ≡ false → unwrap_or (find nat_cmp b ds) nothing ≡ nothing) → unwrap_or (find nat_cmp b (put nat_cmp a d ds)) nothing ≡ nothing
put_demand jobs a d ds f b e h = elim (nat_eq b a) as (λ t. nat_eq b a ≡ t → unwrap_or (find nat_cmp b (put nat_cmp a d ds)) nothing ≡ nothing) [
  | true ↦ λ t. let same = number_is b a t in ap (λ n. unwrap_or (find nat_cmp n (put nat_cmp a d ds)) nothing) same ∙ found_put a d nothing ds ∙ f (ap (is_live jobs) (sym same) ∙ e)
  | false ↦ λ t. ap (λ o. unwrap_or o nothing) (put_beside a b d ds t) ∙ h t
] refl

-- a job that ends
pub ended_in_order : (M : Master) (a : ℕ) → IsInOrder M → IsInOrder (ended_in M a)
ended_in_order M a h = record {
  sorted = is_sorted-where_key spot_cmp _ M.table h.sorted;
  alive = kept M.table h.alive;
  empty = λ b e. put_demand (with_ended a M.jobs) a nothing M.demands (λ _. refl) b e (λ n. h.empty b (sym (other_live a M.jobs b n) ∙ e));
  plain = h.plain;
}
  where
    kept : (es : Table) → IsLive M.jobs es → IsLive (with_ended a M.jobs) (where_key spot_cmp (λ s. not (nat_eq s.job a)) es)
    kept [] k = tt
    kept (e ∷ es) k = elim (nat_eq e.0.job a) as (λ b. nat_eq e.0.job a ≡ b → IsLive (with_ended a M.jobs) (cond (not b) (e ∷ where_key spot_cmp (λ s. not (nat_eq s.job a)) es) (where_key spot_cmp (λ s. not (nat_eq s.job a)) es))) [
      | true ↦ λ _. kept es k.1
      | false ↦ λ n. (other_live a M.jobs e.0.job n ∙ k.0, kept es k.1)
    ] refl

-- Reports and demands
kept_live : (jobs : List KnownJob) (k : RowKey) → is_kept jobs k ≡ true → is_live jobs k.job ≡ true
kept_live jobs k e = (both_true (is_live jobs k.job) _ e).0

adopted_in_order : (jobs : List KnownJob) (m : ℕ) (es : List (RowKey × ℕ)) (table : Table) → IsSorted table × IsLive jobs table → IsSorted (adopted jobs m es table) × IsLive jobs (adopted jobs m es table)
adopted_in_order jobs m [] table h = h
adopted_in_order jobs m (e ∷ es) table h = adopted_in_order jobs m es _ (either (λ t. IsSorted t × IsLive jobs t) (is_kept jobs e.0) (put spot_cmp (spot e.0.job e.0.unit m) e.1 table) table
    (λ k. (is_sorted-put spot_cmp spot_total _ e.1 table h.0, each_put (IsOfLive jobs) (spot e.0.job e.0.unit m) e.1 table (kept_live jobs e.0 k) h.1)) (λ _. h))

credit_in_order : (jobs : List KnownJob) (a : ℕ) (credited es : List (Key × ℕ)) (table : Table) → is_live jobs a ≡ true → IsSorted table × IsLive jobs table → IsSorted (credit a credited es table) × IsLive jobs (credit a credited es table)
credit_in_order jobs a credited [] table l h = h
credit_in_order jobs a credited (e ∷ es) table l h =
    let s = spot a e.0.unit e.0.number in
    let here = count spot_cmp table s in
    let more = e.1 - count key_cmp credited (credited_key e.0.unit e.0.number) in
    credit_in_order jobs a credited es _ l (either (λ t. IsSorted t × IsLive jobs t) (is_back e.0) (set_count spot_cmp table s (here - min more here)) table (λ _. (sorted_set table s _ h.0, each_set (IsOfLive jobs) s _ table (λ _. l) h.1)) (λ _. h))

-- what is credited has keys of its own
raised_plain : (cs es : List (Key × ℕ)) (u m : ℕ) → find key_cmp (count_key u m) cs ≡ None → find key_cmp (count_key u m) (raise_credited cs es) ≡ None
raised_plain cs [] u m h = h
raised_plain cs (e ∷ es) u m h = let k = credited_key e.0.unit e.0.number in
    raised_plain (cond (is_back e.0 && nat_lt (count key_cmp cs k) e.1) (put key_cmp k e.1 cs) cs) es u m (either (λ t. find key_cmp (count_key u m) t ≡ None) (is_back e.0 && nat_lt (count key_cmp cs k) e.1) (put key_cmp k e.1 cs) cs (λ _. find-put key_cmp key_total (count_key u m) k e.1 cs ∙ h) (λ _. h))

plain_put : (a : ℕ) (cs : List (Key × ℕ)) (all : List (ℕ × List (Key × ℕ))) (b u m : ℕ) → find key_cmp (count_key u m) cs ≡ None → find key_cmp (count_key u m) (unwrap_or (find nat_cmp b all) []) ≡ None → find key_cmp (count_key u m) (unwrap_or (find nat_cmp b (put nat_cmp a cs all)) []) ≡ None
plain_put a cs all b u m new old = elim (nat_eq b a) as (λ t. nat_eq b a ≡ t → find key_cmp (count_key u m) (unwrap_or (find nat_cmp b (put nat_cmp a cs all)) []) ≡ None) [
  | true ↦ λ t. ap (λ n. find key_cmp (count_key u m) (unwrap_or (find nat_cmp n (put nat_cmp a cs all)) [])) (number_is b a t) ∙ ap (find key_cmp (count_key u m)) (found_put a cs [] all) ∙ new
  | false ↦ λ t. ap (λ o. find key_cmp (count_key u m) (unwrap_or o [])) (put_beside a b cs all t) ∙ old
] refl

-- a new boot
pub met_in_order : (M : Master) (fresh : Bool) (a : ℕ) → IsInOrder M → IsInOrder (meet_app fresh M a)
met_in_order M true a t = record {
  sorted = t.sorted;
  alive = t.alive;
  empty = λ b f. put_demand M.jobs a nothing M.demands (λ _. refl) b f (λ _. t.empty b f);
  plain = λ b u m. plain_put a [] M.credited b u m refl (t.plain b u m);
}
met_in_order M false a t = t

-- a report or a demand
pub told_in_order : (M : Master) (h : Heard) (from : Id) (l : Ledger) → IsInOrder M → IsInOrder (told M h from l)
told_in_order M h from l t =
    let N = meet_app h.fresh M from.number in
    either IsInOrder (is_agent from) (cond (is_taken h.what) (take_report M from.number l) M) (cond (is_taken h.what) (take_demand N from.number l) N)
    (λ _. either IsInOrder (is_taken h.what) (take_report M from.number l) M (λ _. reported from.number l) (λ _. t))
    (λ _. either IsInOrder (is_taken h.what) (take_demand N from.number l) N (λ _. demanded N from.number l (met h.fresh)) (λ _. met h.fresh))
  where
    reported : (m : ℕ) (report : Ledger) → IsInOrder (take_report M m report)
    reported m report = either IsInOrder (adopts M m report) _ M
        (λ _. let k = either (λ t. IsSorted t × IsLive M.jobs t) (has_number m M.bans) M.table (adopted M.jobs m report.rows M.table) (λ _. (t.sorted, t.alive)) (λ _. adopted_in_order M.jobs m report.rows M.table (t.sorted, t.alive)) in record { sorted = k.0; alive = k.1; empty = t.empty; plain = t.plain })
        (λ _. t)

    demanded : (N : Master) (a : ℕ) (d : Ledger) → IsInOrder N → IsInOrder (take_demand N a d)
    demanded N a d k = either IsInOrder (nat_eq d.head N.epoch && is_live N.jobs a) _ _
        (λ e.
        let live = (both_true (nat_eq d.head N.epoch) (is_live N.jobs a) e).1 in
        let c = credit_in_order N.jobs a (credited_of N a) d.entries N.table live (k.sorted, k.alive) in
        record {
          sorted = c.0;
          alive = c.1;
          empty = λ b f. put_demand N.jobs a d N.demands (λ dead. absurd (clash (is_live N.jobs a) live dead)) b f (λ _. k.empty b f);
          plain = λ b u m. plain_put a (raise_credited (credited_of N a) d.entries) N.credited b u m (raised_plain (credited_of N a) d.entries u m (k.plain a u m)) (k.plain b u m);
        })
        (λ _. record { sorted = k.sorted; alive = k.alive; empty = λ b f. put_demand N.jobs a nothing N.demands (λ _. refl) b f (λ _. k.empty b f); plain = k.plain })

    met : (fresh : Bool) → IsInOrder (meet_app fresh M from.number)
    met fresh = met_in_order M fresh from.number t
