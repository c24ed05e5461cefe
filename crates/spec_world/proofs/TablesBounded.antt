-- A master's own state is in order and in range: its table, the machines that are reported, the demands that it has taken, and what it credited.
use Rattle.std.proofs.Common.{◌≡◌, ℕ, zero, suc, ◌+◌, ◌-◌, ◌<◌, ◌≤◌, Bool, true, false, cond, not, nat_eq, nat_lt, List, [], ◌∷◌, length, map, filter, Some, None, refl, sym, ◌∙◌, ap, subst, arith, min}
use Rattle.std.specs.Prelude.{◌&&◌, ◌||◌, T}
use Rattle.std.specs.Option.{unwrap_or}
use Rattle.std.specs.List.{AllByRecursion, flat_map}
use Rattle.std.specs.Ordering.{nat_cmp, eq_by_cmp, is_eq}
use Rattle.std.specs.FinMap.Entries.{by_order, below_all, find, put, where_key, is_sorted, is_sorted-put, find-where_key}
use Rattle.std.specs.Cmp.{tied_itself}
use Rattle.std.specs.declared.cmp.Ordering.TheVariants.{Less, Equal, Greater}
use Rattle.std.proofs.lemmas.Bool.Decides.{nat_tests}
use Rattle.std.proofs.lemmas.List.Sums.{sum_by-cons}
use Rattle.fuxi_terms.specs.declared.Key.{Key}
use Rattle.fuxi_terms.specs.Cluster.{ClusterRecord, JobRecord, has_machine}
use Rattle.fuxi_terms.specs.Limits.{greatest_count}
use Rattle.fuxi_terms.specs.Keys.{key_cmp, RowKey, row_cmp, Spot, spot_cmp, Pair}
use Rattle.fuxi_terms.specs.Counts.{count, set_count, AreCounts}
use Rattle.spec_net.specs.Net.{Id, Heard, is_taken}
use Rattle.spec_net.specs.Ledgers.{Ledger, nothing}
use Rattle.fuxi_terms.specs.TallyKeys.{key, reported_key, want_key, credited_key, is_back, where_holds}
use Rattle.spec_net.specs.Channels.{is_agent}
use Rattle.fuxi_terms.specs.Jobs.{KnownJob, is_live, unit_count, priority_of}
use Rattle.fuxi_terms.specs.Lists.{below}
use Rattle.fuxi_terms.specs.Numbers.{has_number, with_number}
use Rattle.spec_roles.specs.Masters.{Master, demand_of, asked, out, credited_of}
use Rattle.fuxi_terms.specs.Tables.{spot, held, with_grant, without_grants, Table}
use Rattle.spec_roles.specs.Placing.{first_placeable, granted, settle, settled, all_out, line_up, accepts}
use Rattle.spec_roles.specs.Preemption.{Plan, falling_priorities, by_priority, tried, plan_of, preempted}
use Rattle.spec_roles.specs.HardState.{with_job, with_ended}
use Rattle.spec_roles.specs.MasterSteps.{phased, ready, counted, is_kept, is_there, adopted, adopts, take_report, credit, raise_credited, take_demand, meet_app, ended_in, banned_in}
use Rattle.spec_world.specs.Parties.{told}
use Rattle.spec_world.specs.Good.{greatest_in_demand, greatest_in_credits, greatest_in_table, IsTidy, IsRanged, AllWait, IsBounded, reported_entries}
use Rattle.fuxi_terms.proofs.Alls.{all_append, all_flat, all_filter}
use Rattle.fuxi_terms.proofs.CountsLemmas.{both_true as both, below_none, tied, count_le, count-set_count, counts-set_count, counts-where_key}
use Rattle.fuxi_terms.proofs.Booleans.{both_true, either, number_is}
use Rattle.fuxi_terms.proofs.KeyOrders.{key_total, same_key, spot_total, same_spot}
use Rattle.spec_roles.proofs.PlacingEnds.{is_placeable}
use Rattle.spec_world.proofs.DemandsLemmas.{more_units, ranged_wider}
use Rattle.spec_world.proofs.KnownJobsLemmas.{job_added}
use Rattle.spec_world.proofs.SettledKept.{ended_units}
use Rattle.spec_world.proofs.TablesInOrder.{placeable_out}
use Rattle.spec_world.proofs.CountsLemmas.{counts_wider, counts_put}
use Rattle.spec_roles.proofs.MapLemmas.{found_put, put_beside, with_back}
use Rattle.spec_roles.proofs.TransitionsLemmas.{planned}

-- Placing
count_held : (es : Table) (s : Spot) → count spot_cmp es s ≤ held es s.job s.unit
count_held [] s = omega arith
count_held (e ∷ es) s =
    let sum = sum_by-cons (λ (e : Spot × ℕ). cond (nat_eq e.0.job s.job && nat_eq e.0.unit s.unit) e.1 0) e es in
    let rest = count_held es s in
    elim (eq_by_cmp spot_cmp s e.0) as (λ b. eq_by_cmp spot_cmp s e.0 ≡ b → unwrap_or (cond b (Some e.1) (find spot_cmp s es)) 0 ≤ held (e ∷ es) s.job s.unit) [
      | true ↦ λ t.
          let same = same_spot s e.0 (tied _ t) in
          let one : (nat_eq e.0.job s.job && nat_eq e.0.unit s.unit) ≡ true = subst (λ (q : Spot). (nat_eq q.job s.job && nat_eq q.unit s.unit) ≡ true) same (itself s.job s.unit) in
          let here : cond (nat_eq e.0.job s.job && nat_eq e.0.unit s.unit) e.1 0 ≡ e.1 = ap (λ b. cond b e.1 0) one in
          omega (arith, sum, here)
      | false ↦ λ _. omega (arith, sum, rest)
    ] refl
  where
    itself : (a u : ℕ) → (nat_eq a a && nat_eq u u) ≡ true
    itself a u = let x : nat_eq a a ≡ true = grind (arith, nat_tests) in let y : nat_eq u u ≡ true = grind (arith, nat_tests) in rw (x, y)

-- what is out is of a unit of the job, and is wanted within bounds
record IsOut (M : Master) (a u : ℕ) : Type 0 where
  unit : nat_lt u (unit_count M.jobs a) ≡ true
  few : held M.table a u < greatest_count

out_bounded : (c : ClusterRecord) (M : Master) (a u : ℕ) → IsBounded c M → nat_lt 0 (out M a u) ≡ true → IsOut M a u
out_bounded c M a u h e =
    let d = h.demands a in
    let some : 0 < out M a u = grind (arith, nat_tests, e) in
    let le : asked M a (want_key u) ≤ greatest_count = count_le key_total same_key greatest_in_demand (demand_of M a).entries (want_key u) d.0.within in
    record { unit = by (nat_lt u (unit_count M.jobs a)) refl; few = omega (arith, some, le) }
  where
    by : (b : Bool) → nat_lt u (unit_count M.jobs a) ≡ b → nat_lt u (unit_count M.jobs a) ≡ true
    by true t = t
    by false t =
        let gone : is_there c (unit_count M.jobs a) (want_key u) ≡ false = ap (λ b. b && (nat_eq 1 1 || has_machine c 0)) t in
        let none : asked M a (want_key u) ≡ 0 = (h.demands a).1 (want_key u) gone in
        let some : 0 < out M a u = grind (arith, nat_tests, e) in
        absurd (omega (arith, some, none))

-- a grant of what is out, in a table with no more of it
grant_counts : (jobs : List KnownJob) (table : Table) (s : Spot) → nat_lt s.unit (unit_count jobs s.job) ≡ true → count spot_cmp table s < greatest_count → AreCounts spot_cmp (greatest_in_table jobs) table → AreCounts spot_cmp (greatest_in_table jobs) (with_grant table s)
grant_counts jobs table s there lt k =
    let most : greatest_in_table jobs s ≡ greatest_count = ap (λ b. where_holds b greatest_count) there in
    counts-set_count spot_total (greatest_in_table jobs) same_spot table s (count spot_cmp table s + 1) (omega (arith, most, lt)) k

settle_bounded : (c : ClusterRecord) (fuel : ℕ) (M : Master) → IsBounded c M → IsBounded c (settle c fuel M)
settle_bounded c zero M h = h
settle_bounded c (suc fuel) M h = elim (first_placeable c M) as (λ o. first_placeable c M ≡ o → IsBounded c (elim o as (λ _. Master) [ None ↦ M | Some s ↦ settle c fuel (granted M s) ])) [
  | None ↦ λ _. h
  | Some s ↦ λ e.
      let o = out_bounded c M s.job s.unit h (placeable_out c M s.job s.unit s.machine (is_placeable c M s e)) in
      let few = o.few in
      let less = count_held M.table s in
      settle_bounded c fuel (granted M s) (record { counts = grant_counts M.jobs M.table s o.unit (omega (arith, few, less)) h.counts; reported = h.reported; rising = h.rising; demands = h.demands; credits = h.credits })
] refl

-- the end of a step
pub ready_bounded : (c : ClusterRecord) (M : Master) → IsBounded c M → IsBounded c (ready c M)
ready_bounded c M h = let N = line_up (phased c M) in let k : IsBounded c N = record { counts = h.counts; reported = h.reported; rising = h.rising; demands = h.demands; credits = h.credits } in
    elim N.serving as (λ b. IsBounded c (elim b as (λ _. Master) [ true ↦ settled c N | false ↦ N ])) [ true ↦ settle_bounded c (all_out N) N k | false ↦ k ]

-- Preempting
record Lessened (jobs : List KnownJob) (old new : Table) : Type 0 where
  counts : AreCounts spot_cmp (greatest_in_table jobs) new
  less : (s : Spot) → count spot_cmp new s ≤ count spot_cmp old s

without_bounded : (jobs : List KnownJob) (table : Table) (ss : List Spot) → AreCounts spot_cmp (greatest_in_table jobs) table → Lessened jobs table (without_grants table ss)
without_bounded jobs table [] k = record { counts = k; less = λ s. omega arith }
without_bounded jobs table (s ∷ ss) k =
    let n = count spot_cmp table s - 1 in
    let most = count_le spot_total same_spot (greatest_in_table jobs) table s k.within in
    let next = set_count spot_cmp table s n in
    let rest = without_bounded jobs next ss (counts-set_count spot_total (greatest_in_table jobs) same_spot table s n (omega (arith, most)) k) in
    record { counts = rest.counts; less = λ q. let r = rest.less q in let f = fewer q (eq_by_cmp spot_cmp q s) refl in omega (arith, r, f) }
  where
    fewer : (q : Spot) (b : Bool) → eq_by_cmp spot_cmp q s ≡ b → count spot_cmp (set_count spot_cmp table s (count spot_cmp table s - 1)) q ≤ count spot_cmp table q
    fewer q false e = let is = count-set_count spot_total table s (count spot_cmp table s - 1) q ∙ ap (λ b. cond b (count spot_cmp table s - 1) (count spot_cmp table q)) e in omega (arith, is)
    fewer q true e =
        let is = count-set_count spot_total table s (count spot_cmp table s - 1) q ∙ ap (λ b. cond b (count spot_cmp table s - 1) (count spot_cmp table q)) e in
        let same : count spot_cmp table q ≡ count spot_cmp table s = ap (count spot_cmp table) (same_spot q s (tied _ e)) in
        omega (arith, is, same)

-- a preemption
pub preempted_bounded : (c : ClusterRecord) (M : Master) (p : Plan) → plan_of c M ≡ Some p → AllWait M M.line → IsBounded c M → IsBounded c (preempted M p)
preempted_bounded c M p e w h =
    let waits : nat_lt 0 (out M p.served.job p.served.unit) ≡ true = planned (λ s. nat_lt 0 (out M s.job s.unit) ≡ true) (tried c M) c M p
    (all_spots (by_priority M) (all_flat (λ q. nat_lt 0 (out M q.0 q.1) ≡ true) (λ n. filter (λ q. nat_eq (priority_of M.jobs q.0 q.1) n) M.line) falling_priorities (λ n. all_filter (λ q. nat_lt 0 (out M q.0 q.1) ≡ true) (λ q. nat_eq (priority_of M.jobs q.0 q.1) n) M.line w))) e in
    let o = out_bounded c M p.served.job p.served.unit h waits in
    let l = without_bounded M.jobs M.table p.losers h.counts in
    let few = o.few in
    let less = count_held M.table p.served in
    let fewer = l.less p.served in
    record { counts = grant_counts M.jobs (without_grants M.table p.losers) p.served o.unit (omega (arith, few, less, fewer)) l.counts; reported = h.reported; rising = h.rising; demands = h.demands; credits = h.credits }
  where
    all_spots : (qs : List Pair) → AllWait M qs → AllByRecursion (λ (s : Spot). nat_lt 0 (out M s.job s.unit) ≡ true) (flat_map (λ q. map (spot q.0 q.1) (filter (accepts c M q.0 q.1) (below (length c.machines)))) qs)
    all_spots [] k = tt
    all_spots (q ∷ qs) k = all_append (λ (s : Spot). nat_lt 0 (out M s.job s.unit) ≡ true) (map (spot q.0 q.1) (filter (accepts c M q.0 q.1) (below (length c.machines)))) _
        (each (filter (accepts c M q.0 q.1) (below (length c.machines))) k.0) (all_spots qs k.1)
      where
        each : (ms : List ℕ) → nat_lt 0 (out M q.0 q.1) ≡ true → AllByRecursion (λ (s : Spot). nat_lt 0 (out M s.job s.unit) ≡ true) (map (spot q.0 q.1) ms)
        each [] l = tt
        each (m ∷ ms) l = (l, each ms l)

-- A new master, a change of bans or of the phase, new jobs, ended jobs and bans
nothing_tidy : IsTidy nothing
nothing_tidy = record { sorted = tt; positive = tt; within = tt }

-- a new master
pub new_bounded : (c : ClusterRecord) (M : Master) → M.table ≡ [] → M.reported ≡ [] → M.demands ≡ [] → M.credited ≡ [] → IsBounded c M
new_bounded c M t r d k = record {
  counts = subst (AreCounts spot_cmp (greatest_in_table M.jobs)) (sym t) (record { sorted = tt; positive = tt; within = tt });
  reported = λ m h. let e : has_number m M.reported ≡ false = ap (has_number m) r in let f : ⊥ = cc in absurd f;
  rising = subst (λ rs. T (is_sorted key_cmp (reported_entries rs))) (sym r) tt;
  demands = λ a. subst (λ ds. IsTidy (unwrap_or (find nat_cmp a ds) nothing) × IsRanged c (unit_count M.jobs a) (unwrap_or (find nat_cmp a ds) nothing)) (sym d) (nothing_tidy, λ k _. refl);
  credits = λ a. subst (λ cs. AreCounts key_cmp (greatest_in_credits c (unit_count M.jobs a)) (unwrap_or (find nat_cmp a cs) [])) (sym k) (record { sorted = tt; positive = tt; within = tt });
}

-- a master with the same parts
pub same_bounded : (c : ClusterRecord) (M N : Master) → N.table ≡ M.table → N.jobs ≡ M.jobs → N.reported ≡ M.reported → N.demands ≡ M.demands → N.credited ≡ M.credited → IsBounded c M → IsBounded c N
same_bounded c M N t j r d k h = record {
  counts = (subst (λ (x : List KnownJob × Table). AreCounts spot_cmp (greatest_in_table x.0) x.1) (λ i. (sym j i, sym t i)) h.counts);
  reported = λ m e. h.reported m (subst (λ rs. has_number m rs ≡ true) r e);
  rising = subst (λ rs. T (is_sorted key_cmp (reported_entries rs))) (sym r) h.rising;
  demands = λ a. subst (λ (x : List KnownJob × List (ℕ × Ledger)). IsTidy (unwrap_or (find nat_cmp a x.1) nothing) × IsRanged c (unit_count x.0 a) (unwrap_or (find nat_cmp a x.1) nothing)) (λ i. (sym j i, sym d i)) (h.demands a);
  credits = λ a. subst (λ (x : List KnownJob × List (ℕ × List (Key × ℕ))). AreCounts key_cmp (greatest_in_credits c (unit_count x.0 a)) (unwrap_or (find nat_cmp a x.1) [])) (λ i. (sym j i, sym k i)) (h.credits a);
}

-- bounds with more units
pub holds_more : (m n u : ℕ) (rest : Bool) (k v : ℕ) → m ≤ n → v ≤ where_holds (nat_lt u m && rest) k → v ≤ where_holds (nat_lt u n && rest) k
holds_more m n u rest k v le h = by (nat_lt u m) refl h
  where
    by : (b : Bool) → nat_lt u m ≡ b → v ≤ where_holds (b && rest) k → v ≤ where_holds (nat_lt u n && rest) k
    by true t h = let more : nat_lt u n ≡ true = grind (arith, nat_tests, t, le) in subst (λ b. v ≤ where_holds (b && rest) k) (sym more) h
    by false t h = omega (arith, h)

-- what is credited within fewer units is within more
pub credits_wider : (c : ClusterRecord) (m n : ℕ) (cs : List (Key × ℕ)) → m ≤ n → AreCounts key_cmp (greatest_in_credits c m) cs → AreCounts key_cmp (greatest_in_credits c n) cs
credits_wider c m n cs le h = counts_wider key_cmp (greatest_in_credits c m) (greatest_in_credits c n) (λ k v _ w. holds_more m n k.unit (has_machine c k.number) _ v le w) cs h

table_wider : (jobs jobs' : List KnownJob) (es : Table) → ((a : ℕ) → unit_count jobs a ≤ unit_count jobs' a) → AreCounts spot_cmp (greatest_in_table jobs) es → AreCounts spot_cmp (greatest_in_table jobs') es
table_wider jobs jobs' es le h = counts_wider spot_cmp (greatest_in_table jobs) (greatest_in_table jobs') (λ s v _ w. more s v (nat_lt s.unit (unit_count jobs s.job)) refl w) es h
  where
    more : (s : Spot) (v : ℕ) (b : Bool) → nat_lt s.unit (unit_count jobs s.job) ≡ b → v ≤ where_holds b greatest_count → v ≤ greatest_in_table jobs' s
    more s v true t w = let l = le s.job in let yes : nat_lt s.unit (unit_count jobs' s.job) ≡ true = grind (arith, nat_tests, t, l) in subst (λ b. v ≤ where_holds b greatest_count) (sym yes) w
    more s v false t w = omega (arith, w)

-- a job more
pub added_bounded : (c : ClusterRecord) (M : Master) (j : JobRecord) → IsBounded c M → IsBounded c (record M { jobs = with_job j M.jobs })
added_bounded c M j h =
    let more : (a : ℕ) → unit_count M.jobs a ≤ unit_count (with_job j M.jobs) a = more_units M.jobs (with_job j M.jobs) (job_added M.jobs j) in
    record {
      counts = table_wider M.jobs (with_job j M.jobs) M.table more h.counts;
      reported = h.reported;
      rising = h.rising;
      demands = λ a. ((h.demands a).0, ranged_wider c (unit_count M.jobs a) (unit_count (with_job j M.jobs) a) (demand_of M a) (more a) (h.demands a).1);
      credits = λ a. credits_wider c (unit_count M.jobs a) (unit_count (with_job j M.jobs) a) (credited_of M a) (more a) (h.credits a);
    }

-- an entry of a map by jobs after one was put
put_is : {A : Type 0} (P : ℕ → A → Type 0) (a : ℕ) (x d : A) (es : List (ℕ × A)) → P a x → (b : ℕ) → P b (unwrap_or (find nat_cmp b es) d) → P b (unwrap_or (find nat_cmp b (put nat_cmp a x es)) d)
put_is P a x d es new b old = elim (nat_eq b a) as (λ t. nat_eq b a ≡ t → P b (unwrap_or (find nat_cmp b (put nat_cmp a x es)) d)) [
  | true ↦ λ t. subst (λ k. P k (unwrap_or (find nat_cmp k (put nat_cmp a x es)) d)) (sym (number_is b a t)) (subst (P a) (sym (found_put a x d es)) new)
  | false ↦ λ t. subst (λ o. P b (unwrap_or o d)) (sym (put_beside a b x es t)) old
] refl

record IsFit (c : ClusterRecord) (jobs : List KnownJob) (a : ℕ) (d : Ledger) : Type 0 where
  it : IsTidy d × IsRanged c (unit_count jobs a) d

record IsWithinCredits (c : ClusterRecord) (jobs : List KnownJob) (a : ℕ) (cs : List (Key × ℕ)) : Type 0 where
  it : AreCounts key_cmp (greatest_in_credits c (unit_count jobs a)) cs

put_demands : (c : ClusterRecord) (jobs : List KnownJob) (a : ℕ) (d : Ledger) (ds : List (ℕ × Ledger)) → IsTidy d × IsRanged c (unit_count jobs a) d → ((b : ℕ) → IsTidy (unwrap_or (find nat_cmp b ds) nothing) × IsRanged c (unit_count jobs b) (unwrap_or (find nat_cmp b ds) nothing))
    → (b : ℕ) → IsTidy (unwrap_or (find nat_cmp b (put nat_cmp a d ds)) nothing) × IsRanged c (unit_count jobs b) (unwrap_or (find nat_cmp b (put nat_cmp a d ds)) nothing)
put_demands c jobs a d ds new old b = (put_is (IsFit c jobs) a d nothing ds (record { it = new }) b (record { it = old b })).it

put_credits : (c : ClusterRecord) (jobs : List KnownJob) (a : ℕ) (cs : List (Key × ℕ)) (all : List (ℕ × List (Key × ℕ))) → AreCounts key_cmp (greatest_in_credits c (unit_count jobs a)) cs → ((b : ℕ) → AreCounts key_cmp (greatest_in_credits c (unit_count jobs b)) (unwrap_or (find nat_cmp b all) []))
    → (b : ℕ) → AreCounts key_cmp (greatest_in_credits c (unit_count jobs b)) (unwrap_or (find nat_cmp b (put nat_cmp a cs all)) [])
put_credits c jobs a cs all new old b = (put_is (IsWithinCredits c jobs) a cs [] all (record { it = new }) b (record { it = old b })).it

empty_demand : (c : ClusterRecord) (units : ℕ) → IsTidy nothing × IsRanged c units nothing
empty_demand c units = (nothing_tidy, λ k _. refl)

-- a job that ends
pub ended_bounded : (c : ClusterRecord) (M : Master) (a : ℕ) → IsBounded c M → IsBounded c (ended_in M a)
ended_bounded c M a h = record {
  counts = table_wider M.jobs (with_ended a M.jobs) (where_key spot_cmp (λ s. not (nat_eq s.job a)) M.table) same (counts-where_key spot_total (greatest_in_table M.jobs) (λ s. not (nat_eq s.job a)) M.table h.counts);
  reported = h.reported;
  rising = h.rising;
  demands = put_demands c (with_ended a M.jobs) a nothing M.demands (empty_demand c _) (λ b. ((h.demands b).0, ranged_wider c (unit_count M.jobs b) (unit_count (with_ended a M.jobs) b) (demand_of M b) (same b) (h.demands b).1));
  credits = λ b. credits_wider c (unit_count M.jobs b) (unit_count (with_ended a M.jobs) b) (credited_of M b) (same b) (h.credits b);
}
  where
    same : (b : ℕ) → unit_count M.jobs b ≤ unit_count (with_ended a M.jobs) b
    same b = let e = ended_units M.jobs a b in omega (arith, e)

-- a ban
pub banned_bounded : (c : ClusterRecord) (M : Master) (m : ℕ) → IsBounded c M → IsBounded c (banned_in M m)
banned_bounded c M m h = record { counts = counts-where_key spot_total (greatest_in_table M.jobs) (λ s. not (nat_eq s.machine m)) M.table h.counts; reported = h.reported; rising = h.rising; demands = h.demands; credits = h.credits }

-- Reports. The machines that are reported stay in order
reported_put : (m : ℕ) (ms : List ℕ) → reported_entries (with_number m ms) ≡ put key_cmp (reported_key m) 1 (reported_entries ms)
reported_put m [] = refl
reported_put m (k ∷ ks) = by (reported_put m ks) (nat_lt m k) refl (nat_eq m k) refl
  where
    by : reported_entries (with_number m ks) ≡ put key_cmp (reported_key m) 1 (reported_entries ks) → (b : Bool) → nat_lt m k ≡ b → (d : Bool) → nat_eq m k ≡ d → reported_entries (cond b (m ∷ k ∷ ks) (cond d (k ∷ ks) (k ∷ with_number m ks))) ≡ put key_cmp (reported_key m) 1 (reported_entries (k ∷ ks))
    by rest true t d s = let less : nat_cmp m k ≡ Less = grind (arith, nat_tests, t) in ap (λ r. by_order r ((reported_key m, 1) ∷ reported_entries (k ∷ ks)) ((reported_key k, 1) ∷ reported_entries ks) ((reported_key k, 1) ∷ put key_cmp (reported_key m) 1 (reported_entries ks))) (sym less)
    by rest false t true s = let same : nat_cmp m k ≡ Equal = grind (arith, nat_tests, s) in ap (λ r. by_order r ((reported_key m, 1) ∷ reported_entries (k ∷ ks)) ((reported_key k, 1) ∷ reported_entries ks) ((reported_key k, 1) ∷ put key_cmp (reported_key m) 1 (reported_entries ks))) (sym same)
    by rest false t false s = let more : nat_cmp m k ≡ Greater = grind (arith, nat_tests, t, s) in ap (λ es. (reported_key k, 1) ∷ es) rest ∙ ap (λ r. by_order r ((reported_key m, 1) ∷ reported_entries (k ∷ ks)) ((reported_key k, 1) ∷ reported_entries ks) ((reported_key k, 1) ∷ put key_cmp (reported_key m) 1 (reported_entries ks))) (sym more)

adopted_counts : (jobs : List KnownJob) (m : ℕ) (rows : List (RowKey × ℕ)) (es : Table) → AllByRecursion (λ e. 0 < e.1) rows → AllByRecursion (λ e. e.1 ≤ greatest_count) rows → AreCounts spot_cmp (greatest_in_table jobs) es → AreCounts spot_cmp (greatest_in_table jobs) (adopted jobs m rows es)
adopted_counts jobs m [] es p q h = h
adopted_counts jobs m (r ∷ rows) es p q h =
    let s = spot r.0.job r.0.unit m in
    adopted_counts jobs m rows (cond (is_kept jobs r.0) (put spot_cmp s r.1 es) es) p.1 q.1
    (either (AreCounts spot_cmp (greatest_in_table jobs)) (is_kept jobs r.0) (put spot_cmp s r.1 es) es
    (λ k.
    let there = (both_true (nat_lt r.0.unit (unit_count jobs r.0.job)) _ (both_true (is_live jobs r.0.job) _ k).1).0 in
    let most : greatest_in_table jobs s ≡ greatest_count = ap (λ b. where_holds b greatest_count) there in
    let le = q.0 in
    counts_put spot_total (greatest_in_table jobs) same_spot es s r.1 p.0 (omega (arith, most, le)) h)
    (λ _. h))

report_bounded : (c : ClusterRecord) (M : Master) (m : ℕ) (l : Ledger) → has_machine c m ≡ true → AreCounts row_cmp (λ k. greatest_count) l.rows → IsBounded c M → IsBounded c (take_report M m l)
report_bounded c M m l there rows h = either (IsBounded c) (adopts M m l) (record M { reported = with_number m M.reported; table = cond (has_number m M.bans) M.table (adopted M.jobs m l.rows M.table) }) M
    (λ _. record {
      counts = either (AreCounts spot_cmp (greatest_in_table M.jobs)) (has_number m M.bans) M.table (adopted M.jobs m l.rows M.table) (λ _. h.counts) (λ _. adopted_counts M.jobs m l.rows M.table rows.positive rows.within h.counts);
      reported = λ k e. elim (nat_eq k m) as (λ b. nat_eq k m ≡ b → has_machine c k ≡ true) [
        | true ↦ λ t. subst (λ x. has_machine c x ≡ true) (sym (number_is k m t)) there
        | false ↦ λ t. h.reported k (with_back k m M.reported e t)
      ] refl;
      rising = subst (λ es. T (is_sorted key_cmp es)) (sym (reported_put m M.reported)) (is_sorted-put key_cmp key_total (reported_key m) 1 (reported_entries M.reported) h.rising);
      demands = h.demands;
      credits = h.credits;
    })
    (λ _. h)

-- Demands
credit_counts : (jobs : List KnownJob) (a : ℕ) (credited es : List (Key × ℕ)) (table : Table) → AreCounts spot_cmp (greatest_in_table jobs) table → AreCounts spot_cmp (greatest_in_table jobs) (credit a credited es table)
credit_counts jobs a credited [] table h = h
credit_counts jobs a credited (e ∷ es) table h =
    let s = spot a e.0.unit e.0.number in
    let here = count spot_cmp table s in
    let more = e.1 - count key_cmp credited (credited_key e.0.unit e.0.number) in
    let most = count_le spot_total same_spot (greatest_in_table jobs) table s h.within in
    credit_counts jobs a credited es (cond (is_back e.0) (set_count spot_cmp table s (here - min more here)) table)
    (either (AreCounts spot_cmp (greatest_in_table jobs)) (is_back e.0) (set_count spot_cmp table s (here - min more here)) table
    (λ _. counts-set_count spot_total (greatest_in_table jobs) same_spot table s (here - min more here) (omega (arith, most)) h) (λ _. h))

-- what a number given back may be credited as
abbrev IsBackThere : (c : ClusterRecord) (units : ℕ) → Key × ℕ → Type 0
IsBackThere c units e = is_back e.0 ≡ true → e.1 ≤ greatest_in_credits c units (credited_key e.0.unit e.0.number)

raised_counts : (c : ClusterRecord) (units : ℕ) (cs es : List (Key × ℕ)) → AllByRecursion (IsBackThere c units) es → AreCounts key_cmp (greatest_in_credits c units) cs → AreCounts key_cmp (greatest_in_credits c units) (raise_credited cs es)
raised_counts c units cs [] b h = h
raised_counts c units cs (e ∷ es) b h =
    let k = credited_key e.0.unit e.0.number in
    let up = is_back e.0 && nat_lt (count key_cmp cs k) e.1 in
    raised_counts c units (cond up (put key_cmp k e.1 cs) cs) es b.1
    (either (AreCounts key_cmp (greatest_in_credits c units)) up (put key_cmp k e.1 cs) cs
    (λ t. let p = both_true (is_back e.0) (nat_lt (count key_cmp cs k) e.1) t in let above : count key_cmp cs k < e.1 = (let x = p.1 in grind (arith, nat_tests, x)) in
    counts_put key_total (greatest_in_credits c units) same_key cs k e.1 (omega (arith, above)) (b.0 p.0) h) (λ _. h))

-- entries of which none is of a key that is not there are all of keys that are
abbrev EntriesRanged : ClusterRecord → ℕ → List (Key × ℕ) → Type 0
EntriesRanged c units es = (k : Key) → is_there c units k ≡ false → count key_cmp es k ≡ 0

all_there : (c : ClusterRecord) (units : ℕ) (es : List (Key × ℕ)) → T (is_sorted key_cmp es) → AllByRecursion (λ e. 0 < e.1) es → EntriesRanged c units es → AllByRecursion (λ e. is_there c units e.0 ≡ true) es
all_there c units [] s p r = tt
all_there c units (e ∷ es) s p r =
    let b = both (below_all key_cmp e.0 es) (is_sorted key_cmp es) s in
    (here (is_there c units e.0) refl, all_there c units es b.1 p.1 (λ k out. rest b.0 k out (eq_by_cmp key_cmp k e.0) refl))
  where
    here : (b : Bool) → is_there c units e.0 ≡ b → is_there c units e.0 ≡ true
    here true t = t
    here false t =
        let none = r e.0 t in
        let is : count key_cmp (e ∷ es) e.0 ≡ e.1 = ap (λ b. unwrap_or (cond b (Some e.1) (find key_cmp e.0 es)) 0) (ap is_eq (tied_itself key_total e.0)) in
        let some = p.0 in
        absurd (omega (arith, none, is, some))

    rest : T (below_all key_cmp e.0 es) → (k : Key) → is_there c units k ≡ false → (b : Bool) → eq_by_cmp key_cmp k e.0 ≡ b → count key_cmp es k ≡ 0
    rest below k out true t = ap (count key_cmp es) (same_key k e.0 (tied _ t)) ∙ ap (λ o. unwrap_or o 0) (below_none key_cmp e.0 es below)
    rest below k out false t = sym (ap (λ b. unwrap_or (cond b (Some e.1) (find key_cmp k es)) 0) t) ∙ r k out

-- the greatest number of a demand at a key that is there
abbrev pub greatest_asked : ClusterRecord → ℕ → Key → ℕ
greatest_asked c units k = where_holds (is_there c units k) (greatest_in_demand k)

-- a demand in range
pub asked_counts : (c : ClusterRecord) (units : ℕ) (d : Ledger) → IsTidy d → IsRanged c units d → AreCounts key_cmp (greatest_asked c units) d.entries
asked_counts c units d t r = record { sorted = t.sorted; positive = t.positive; within = within d.entries (all_there c units d.entries t.sorted t.positive r) t.within }
  where
    within : (es : List (Key × ℕ)) → AllByRecursion (λ e. is_there c units e.0 ≡ true) es → AllByRecursion (λ e. e.1 ≤ greatest_in_demand e.0) es → AllByRecursion (λ e. e.1 ≤ greatest_asked c units e.0) es
    within [] a w = tt
    within (e ∷ es) a w = (subst (λ b. e.1 ≤ where_holds b (greatest_in_demand e.0)) (sym a.0) w.0, within es a.1 w.1)

backs_there : (c : ClusterRecord) (units : ℕ) (es : List (Key × ℕ)) → AllByRecursion (λ e. e.1 ≤ greatest_asked c units e.0) es → AllByRecursion (IsBackThere c units) es
backs_there c units [] h = tt
backs_there c units (e ∷ es) h = ((λ b. one e.0.what e.0.unit e.0.number e.1 b h.0), backs_there c units es h.1)
  where
    one : (w u m v : ℕ) → nat_eq w 5 ≡ true → v ≤ greatest_asked c units (key w u m) → v ≤ greatest_in_credits c units (credited_key u m)
    one w u m v b h = subst (λ w. v ≤ greatest_asked c units (key w u m)) (number_is w 5 b) h

demand_bounded : (c : ClusterRecord) (M : Master) (a : ℕ) (d : Ledger) → IsTidy d × IsRanged c (unit_count M.jobs a) d → IsBounded c M → IsBounded c (take_demand M a d)
demand_bounded c M a d f h = either (IsBounded c) (nat_eq d.head M.epoch && is_live M.jobs a) _ _
    (λ _. record {
      counts = credit_counts M.jobs a (credited_of M a) d.entries M.table h.counts;
      reported = h.reported;
      rising = h.rising;
      demands = put_demands c M.jobs a d M.demands f h.demands;
      credits = put_credits c M.jobs a (raise_credited (credited_of M a) d.entries) M.credited (raised_counts c (unit_count M.jobs a) (credited_of M a) d.entries (backs_there c (unit_count M.jobs a) d.entries (asked_counts c (unit_count M.jobs a) d f.0 f.1).within) (h.credits a)) h.credits;
    })
    (λ _. record { counts = h.counts; reported = h.reported; rising = h.rising; demands = put_demands c M.jobs a nothing M.demands (empty_demand c _) h.demands; credits = h.credits })

-- a new boot
meet_bounded : (c : ClusterRecord) (fresh : Bool) (M : Master) (a : ℕ) → IsBounded c M → IsBounded c (meet_app fresh M a)
meet_bounded c true M a h = record {
  counts = h.counts;
  reported = h.reported;
  rising = h.rising;
  demands = put_demands c M.jobs a nothing M.demands (empty_demand c _) h.demands;
  credits = put_credits c M.jobs a [] M.credited (record { sorted = tt; positive = tt; within = tt }) h.credits;
}
meet_bounded c false M a h = h

meet_jobs : (fresh : Bool) (M : Master) (a : ℕ) → (meet_app fresh M a).jobs ≡ M.jobs
meet_jobs true M a = refl
meet_jobs false M a = refl

-- a report or a demand
pub told_bounded : (c : ClusterRecord) (M : Master) (h : Heard) (from : Id) (l : Ledger) → (is_agent from ≡ true → (has_machine c from.number ≡ true) × AreCounts row_cmp (λ k. greatest_count) l.rows) → (is_agent from ≡ false → IsTidy l × IsRanged c (unit_count M.jobs from.number) l) → IsBounded c M → IsBounded c (told M h from l)
told_bounded c M h from l rows fit k =
    let N = meet_app h.fresh M from.number in
    either (IsBounded c) (is_agent from) (cond (is_taken h.what) (take_report M from.number l) M) (cond (is_taken h.what) (take_demand N from.number l) N)
    (λ agent. either (IsBounded c) (is_taken h.what) (take_report M from.number l) M (λ _. report_bounded c M from.number l (rows agent).0 (rows agent).1 k) (λ _. k))
    (λ no. either (IsBounded c) (is_taken h.what) (take_demand N from.number l) N
    (λ _. demand_bounded c N from.number l (subst (λ js. IsTidy l × IsRanged c (unit_count js from.number) l) (sym (meet_jobs h.fresh M from.number)) (fit no)) (meet_bounded c h.fresh M from.number k))
    (λ _. meet_bounded c h.fresh M from.number k))

-- what is counted of a demand is there
pub counted_ranged : (c : ClusterRecord) (jobs : List KnownJob) (a : ℕ) (d : Ledger) → IsRanged c (unit_count jobs a) (counted c jobs a d)
counted_ranged c jobs a d k out =
    let p = is_there c (unit_count jobs a) in
    ap (λ o. unwrap_or o 0) (find-where_key key_cmp p k (λ x t. ap p (sym (same_key k x t))) d.entries) ∙ ap (λ b. unwrap_or (cond b (find key_cmp k d.entries) None) 0) out
