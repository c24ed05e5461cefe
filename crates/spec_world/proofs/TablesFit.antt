-- A master's grants on each machine are within what the machine has, whatever the master does.
use Rattle.std.proofs.Common.{◌≡◌, ℕ, zero, suc, ◌+◌, ◌-◌, ◌*◌, ◌<◌, ◌≤◌, Bool, true, false, cond, not, nat_eq, nat_lt, List, [], ◌∷◌, length, map, filter, Some, None, refl, sym, ◌∙◌, ap, subst, arith, min}
use Rattle.std.specs.Prelude.{◌&&◌, T}
use Rattle.std.specs.List.{AllByRecursion, flat_map}
use Rattle.std.specs.Ordering.{eq_by_cmp, is_eq}
use Rattle.std.specs.Cmp.{tied_itself}
use Rattle.std.specs.FinMap.Entries.{put, where_key, is_sorted}
use Rattle.std.proofs.lemmas.Bool.Decides.{nat_tests}
use Rattle.std.proofs.lemmas.List.Sums.{sum_by-cons}
use Rattle.fuxi_terms.specs.declared.Key.{Key}
use Rattle.fuxi_terms.specs.Cluster.{ClusterRecord, JobRecord, has_at, in_each_place}
use Rattle.fuxi_terms.specs.Keys.{key_cmp, RowKey, Spot, spot_cmp, Pair}
use Rattle.fuxi_terms.specs.Counts.{count, set_count}
use Rattle.fuxi_terms.proofs.CountsLemmas.{tied, count-set_count}
use Rattle.spec_net.specs.Net.{Id, Heard, is_taken}
use Rattle.spec_net.specs.Ledgers.{Ledger}
use Rattle.fuxi_terms.specs.TallyKeys.{credited_key, is_back}
use Rattle.spec_net.specs.Channels.{is_agent}
use Rattle.fuxi_terms.specs.Jobs.{KnownJob, is_live, size_at}
use Rattle.fuxi_terms.specs.Lists.{below}
use Rattle.fuxi_terms.specs.Numbers.{has_number, with_number}
use Rattle.spec_roles.specs.Masters.{Master, credited_of}
use Rattle.fuxi_terms.specs.Tables.{spot, total_at, with_grant, without_grants, Table}
use Rattle.spec_roles.specs.Placing.{first_placeable, granted, settle, settled, all_out, line_up, is_usable, accepts, has_room, may_grow, placeable}
use Rattle.spec_roles.specs.Preemption.{Plan, set_at_place, tried, plan_of, by_priority, preempted}
use Rattle.spec_roles.specs.HardState.{with_job}
use Rattle.spec_roles.specs.MasterSteps.{phased, ready, row, is_kept, adopted, adopts, take_report, credit, take_demand, meet_app, ended_in, banned_in}
use Rattle.spec_world.specs.Parties.{told}
use Rattle.spec_world.specs.Safe.{RowsFit, row_total_at}
use Rattle.spec_roles.specs.Settling.{IsWithin}
use Rattle.fuxi_terms.proofs.Alls.{all_append}
use Rattle.fuxi_terms.proofs.Members.{in_each_is}
use Rattle.spec_roles.proofs.PlacingFits.{settled_fits}
use Rattle.fuxi_terms.proofs.Booleans.{both_true, either, number_is}
use Rattle.fuxi_terms.proofs.KeyOrders.{spot_total, same_spot}
use Rattle.spec_roles.proofs.PlacingEnds.{is_placeable}
use Rattle.fuxi_terms.proofs.Spots.{Each, each_put, each_where, each_found, each_set}
use Rattle.spec_world.proofs.TotalsLemmas.{load, load_more, set_exact, where_less, nothing_there, added_loads, ended_loads, adopted_loads, row_loads}
use Rattle.spec_roles.proofs.LossesLemmas.{plan_loss}
use Rattle.spec_roles.specs.Losses.{often, one_if, AreGrantsOn, IsLoss}
use Rattle.spec_world.specs.Good.{FitsMachines, IsInOrder}
use Rattle.spec_roles.proofs.TransitionsLemmas.{planned, sorted_set, sorted_without}
use Rattle.spec_roles.proofs.MapLemmas.{with_here, with_keeps}

abbrev IsReported : List ℕ → Spot → Type 0
IsReported rs s = has_number s.machine rs ≡ true

-- The row of each machine fits it
pub row_fits : (c : ClusterRecord) (M : Master) (m : ℕ) → FitsMachines c M → RowsFit c m (row M m).rows
row_fits c M m h i lt = let e = row_loads M.jobs m i M.table in let f = h.fits m i lt in omega (arith, e, f)

-- Placing
record AllReported (M : Master) : Type 0 where
  all : Each (IsReported M.reported) M.table

settle_reported : (c : ClusterRecord) (fuel : ℕ) (M : Master) → AllReported M → AllReported (settle c fuel M)
settle_reported c zero M h = h
settle_reported c (suc fuel) M h = elim (first_placeable c M) as (λ o. first_placeable c M ≡ o → AllReported (elim o as (λ _. Master) [ None ↦ M | Some s ↦ settle c fuel (granted M s) ])) [
  | None ↦ λ _. h
  | Some s ↦ λ e. settle_reported c fuel (granted M s) (record { all = each_set (IsReported M.reported) s _ M.table (λ _. usable s (is_placeable c M s e)) h.all })
] refl
  where
    usable : (s : Spot) → placeable c M s.job s.unit s.machine ≡ true → has_number s.machine M.reported ≡ true
    usable s p = (both_true (has_number s.machine M.reported) _ (both_true (is_usable M s.job s.unit s.machine) _ (both_true (accepts c M s.job s.unit s.machine) (has_room c M s.job s.unit s.machine) (both_true (may_grow c M s.job s.unit) (accepts c M s.job s.unit s.machine && has_room c M s.job s.unit s.machine) p).1).0).0).0

record ReadyFits (c : ClusterRecord) (M : Master) : Type 0 where
  it : FitsMachines c M

-- the end of a step
pub ready_fits_machines : (c : ClusterRecord) (M : Master) → IsInOrder M → FitsMachines c M → FitsMachines c (ready c M)
ready_fits_machines c M t h =
    let N = line_up (phased c M) in
    let within : IsWithin c N = record { sorted = t.sorted; fits = h.fits } in
    (elim N.serving as (λ b. ReadyFits c (elim b as (λ _. Master) [ true ↦ settled c N | false ↦ N ])) [
      | true ↦ record { it = record { fits = (settled_fits c N within).fits; reported = (settle_reported c (all_out N) N (record { all = h.reported })).all } }
      | false ↦ record { it = record { fits = h.fits; reported = h.reported } }
    ]).it

-- A new master, a change of bans or of the phase, new jobs, ended jobs and bans
pub new_fits_machines : (c : ClusterRecord) (M : Master) → M.table ≡ [] → FitsMachines c M
new_fits_machines c M t = record {
  fits = λ m i lt. let z : total_at M.jobs m i M.table ≡ 0 = ap (total_at M.jobs m i) t in omega (arith, z);
  reported = subst (Each (IsReported M.reported)) (sym t) tt;
}

-- a master with the same table
pub same_fits_machines : (c : ClusterRecord) (M N : Master) → N.table ≡ M.table → N.jobs ≡ M.jobs → N.reported ≡ M.reported → FitsMachines c M → FitsMachines c N
same_fits_machines c M N t j r h = record {
  fits = λ m i lt. let e : total_at N.jobs m i N.table ≡ total_at M.jobs m i M.table = (λ k. total_at (j k) m i (t k)) in let f = h.fits m i lt in omega (arith, e, f);
  reported = subst (λ rs. Each (IsReported rs) N.table) (sym r) (subst (Each (IsReported M.reported)) (sym t) h.reported);
}

-- a job more
pub added_fits_machines : (c : ClusterRecord) (M : Master) (j : JobRecord) → IsInOrder M → FitsMachines c M → FitsMachines c (record M { jobs = with_job j M.jobs })
added_fits_machines c M j t h = record {
  fits = λ m i lt. let e = added_loads M.jobs j m i M.table t.alive in let f = h.fits m i lt in omega (arith, e, f);
  reported = h.reported;
}

-- a job that ends
pub ended_fits_machines : (c : ClusterRecord) (M : Master) (a : ℕ) → FitsMachines c M → FitsMachines c (ended_in M a)
ended_fits_machines c M a h = record {
  fits = λ m i lt.
      let e = ended_loads M.jobs a m i (where_key spot_cmp (λ s. not (nat_eq s.job a)) M.table) in
      let l = where_less M.jobs m i (λ s. not (nat_eq s.job a)) M.table in
      let f = h.fits m i lt in
      omega (arith, e, l, f);
  reported = each_where (IsReported M.reported) (λ s. not (nat_eq s.job a)) M.table h.reported;
}

-- a ban
pub banned_fits_machines : (c : ClusterRecord) (M : Master) (k : ℕ) → FitsMachines c M → FitsMachines c (banned_in M k)
banned_fits_machines c M k h = record {
  fits = λ m i lt. let l = where_less M.jobs m i (λ s. not (nat_eq s.machine k)) M.table in let f = h.fits m i lt in omega (arith, l, f);
  reported = each_where (IsReported M.reported) (λ s. not (nat_eq s.machine k)) M.table h.reported;
}

-- Reports
adopted_reported : (jobs : List KnownJob) (m : ℕ) (rs : List ℕ) (rows : List (RowKey × ℕ)) (es : Table) → has_number m rs ≡ true → Each (IsReported rs) es → Each (IsReported rs) (adopted jobs m rows es)
adopted_reported jobs m rs [] es here h = h
adopted_reported jobs m rs (r ∷ rows) es here h = adopted_reported jobs m rs rows (cond (is_kept jobs r.0) (put spot_cmp (spot r.0.job r.0.unit m) r.1 es) es) here
    (either (Each (IsReported rs)) (is_kept jobs r.0) (put spot_cmp (spot r.0.job r.0.unit m) r.1 es) es (λ _. each_put (IsReported rs) (spot r.0.job r.0.unit m) r.1 es here h) (λ _. h))

more_reported : (m : ℕ) (rs : List ℕ) (es : Table) → Each (IsReported rs) es → Each (IsReported (with_number m rs)) es
more_reported m rs [] h = tt
more_reported m rs (e ∷ es) h = (with_keeps e.0.machine m rs h.0, more_reported m rs es h.1)

report_fits_machines : (c : ClusterRecord) (M : Master) (m : ℕ) (l : Ledger) → IsInOrder M → RowsFit c m l.rows → FitsMachines c M → FitsMachines c (take_report M m l)
report_fits_machines c M m l t rows h = either (FitsMachines c) (adopts M m l) (record M { reported = with_number m M.reported; table = cond (has_number m M.bans) M.table (adopted M.jobs m l.rows M.table) }) M
    (λ a. record {
      fits = λ n i lt. either (λ table. total_at M.jobs n i table ≤ has_at c n i) (has_number m M.bans) M.table (adopted M.jobs m l.rows M.table) (λ _. h.fits n i lt) (λ _. fits (both_true (nat_eq l.head M.epoch) (not (has_number m M.reported)) a).1 n i lt);
      reported = either (Each (IsReported (with_number m M.reported))) (has_number m M.bans) M.table (adopted M.jobs m l.rows M.table) (λ _. more_reported m M.reported M.table h.reported)
          (λ _. adopted_reported M.jobs m (with_number m M.reported) l.rows M.table (with_here m M.reported) (more_reported m M.reported M.table h.reported));
    })
    (λ _. h)
  where
    turned : (b : Bool) → not b ≡ true → b ≡ false
    turned true e = cc
    turned false e = refl

    -- the machine had no entry before
    fits : not (has_number m M.reported) ≡ true → (n i : ℕ) → i < c.resources → total_at M.jobs n i (adopted M.jobs m l.rows M.table) ≤ has_at c n i
    fits absent n i lt =
        let a = adopted_loads M.jobs m n i l.rows M.table t.sorted in
        elim (nat_eq m n) as (λ b. nat_eq m n ≡ b → total_at M.jobs n i (adopted M.jobs m l.rows M.table) ≤ total_at M.jobs n i M.table + cond b (row_total_at i l.rows) 0 → total_at M.jobs n i (adopted M.jobs m l.rows M.table) ≤ has_at c n i) [
          | true ↦ λ e a.
              let same = number_is m n e in
              let z : total_at M.jobs n i M.table ≡ 0 = subst (λ k. total_at M.jobs k i M.table ≡ 0) same (nothing_there M.jobs m i M.reported M.table h.reported (turned (has_number m M.reported) absent)) in
              let r : row_total_at i l.rows ≤ has_at c n i = subst (λ k. row_total_at i l.rows ≤ has_at c k i) same (rows i lt) in
              omega (arith, a, z, r)
          | false ↦ λ _ a. let f = h.fits n i lt in omega (arith, a, f)
        ] refl a

-- Demands: crediting only lowers
credit_loads : (jobs : List KnownJob) (a : ℕ) (credited es : List (Key × ℕ)) (table : Table) (m i : ℕ) → T (is_sorted spot_cmp table) → total_at jobs m i (credit a credited es table) ≤ total_at jobs m i table
credit_loads jobs a credited [] table m i k = omega arith
credit_loads jobs a credited (e ∷ es) table m i k =
    let s = spot a e.0.unit e.0.number in
    let here = count spot_cmp table s in
    let more = e.1 - count key_cmp credited (credited_key e.0.unit e.0.number) in
    let next = cond (is_back e.0) (set_count spot_cmp table s (here - min more here)) table in
    let sorted : T (is_sorted spot_cmp next) = either (λ t. T (is_sorted spot_cmp t)) (is_back e.0) (set_count spot_cmp table s (here - min more here)) table (λ _. sorted_set table s (here - min more here) k) (λ _. k) in
    let rest = credit_loads jobs a credited es next m i sorted in
    let step : total_at jobs m i next ≤ total_at jobs m i table = either (λ t. total_at jobs m i t ≤ total_at jobs m i table) (is_back e.0) (set_count spot_cmp table s (here - min more here)) table
    (λ _. let x = set_exact jobs m i s (here - min more here) table k in let l = load_more jobs m i s (here - min more here) here (omega arith) in omega (arith, x, l)) (λ _. omega arith) in
    omega (arith, rest, step)

credit_reported : (a : ℕ) (rs : List ℕ) (credited es : List (Key × ℕ)) (table : Table) → Each (IsReported rs) table → Each (IsReported rs) (credit a credited es table)
credit_reported a rs credited [] table h = h
credit_reported a rs credited (e ∷ es) table h =
    let s = spot a e.0.unit e.0.number in
    let here = count spot_cmp table s in
    let more = e.1 - count key_cmp credited (credited_key e.0.unit e.0.number) in
    credit_reported a rs credited es (cond (is_back e.0) (set_count spot_cmp table s (here - min more here)) table)
    (either (Each (IsReported rs)) (is_back e.0) (set_count spot_cmp table s (here - min more here)) table
    (λ _. each_set (IsReported rs) s (here - min more here) table (λ some. each_found (IsReported rs) s table (let n : 0 < here - min more here = grind (arith, nat_tests, some) in omega (arith, n)) h) h) (λ _. h))

demand_fits_machines : (c : ClusterRecord) (M : Master) (a : ℕ) (d : Ledger) → IsInOrder M → FitsMachines c M → FitsMachines c (take_demand M a d)
demand_fits_machines c M a d t h = either (FitsMachines c) (nat_eq d.head M.epoch && is_live M.jobs a) _ _
    (λ _. record {
      fits = λ m i lt. let l = credit_loads M.jobs a (credited_of M a) d.entries M.table m i t.sorted in let f = h.fits m i lt in omega (arith, l, f);
      reported = credit_reported a M.reported (credited_of M a) d.entries M.table h.reported;
    })
    (λ _. record { fits = h.fits; reported = h.reported })

-- a report or a demand
pub told_fits_machines : (c : ClusterRecord) (M : Master) (h : Heard) (from : Id) (l : Ledger) → (is_agent from ≡ true → is_taken h.what ≡ true → RowsFit c from.number l.rows) → (IsInOrder M × IsInOrder (meet_app h.fresh M from.number)) → FitsMachines c M → FitsMachines c (told M h from l)
told_fits_machines c M h from l rows t k =
    let N = meet_app h.fresh M from.number in
    either (FitsMachines c) (is_agent from) (cond (is_taken h.what) (take_report M from.number l) M) (cond (is_taken h.what) (take_demand N from.number l) N)
    (λ agent. either (FitsMachines c) (is_taken h.what) (take_report M from.number l) M (λ taken. report_fits_machines c M from.number l t.0 (rows agent taken) k) (λ _. k))
    (λ _. either (FitsMachines c) (is_taken h.what) (take_demand N from.number l) N (λ _. demand_fits_machines c N from.number l t.1 (met h.fresh)) (λ _. met h.fresh))
  where
    met : (fresh : Bool) → FitsMachines c (meet_app fresh M from.number)
    met true = record { fits = k.fits; reported = k.reported }
    met false = k

-- Preempting: what the losers took goes, and there is room for what is served
loads_without : (jobs : List KnownJob) (m i : ℕ) (ss : List Spot) (table : Table) → T (is_sorted spot_cmp table) → AreGrantsOn table m ss → total_at jobs m i (without_grants table ss) + set_at_place jobs i ss ≡ total_at jobs m i table
loads_without jobs m i [] table k d = omega arith
loads_without jobs m i (s ∷ ss) table k d =
    let n = count spot_cmp table s in
    let x = set_exact jobs m i s (n - 1) table k in
    let few = d.few s in
    let mine : one_if s s ≡ 1 = ap (λ b. cond b 1 0) (ap is_eq (tied_itself spot_total s)) in
    let all = sum_by-cons (one_if s) s ss in
    let some : 1 ≤ n = omega (arith, few, mine, all) in
    let here : nat_eq s.machine m ≡ true = let e = d.on.0 in grind (arith, nat_tests, e) in
    let before : load jobs m i s n ≡ n * size_at jobs s.job s.unit i = ap (λ b. cond b (n * size_at jobs s.job s.unit i) 0) here in
    let after : load jobs m i s (n - 1) ≡ (n - 1) * size_at jobs s.job s.unit i = ap (λ b. cond b ((n - 1) * size_at jobs s.job s.unit i) 0) here in
    let one : n * size_at jobs s.job s.unit i ≡ (n - 1) * size_at jobs s.job s.unit i + size_at jobs s.job s.unit i = let e : n ≡ n - 1 + 1 = omega (arith, some) in omega (arith, ap (λ k. k * size_at jobs s.job s.unit i) e) in
    let rest = loads_without jobs m i ss (set_count spot_cmp table s (n - 1)) (sorted_set table s (n - 1) k) (record { few = λ q. fewer q (eq_by_cmp spot_cmp q s) refl; on = d.on.1 }) in
    let sum = sum_by-cons (λ (t : Spot). size_at jobs t.job t.unit i) s ss in
    omega (arith, rest, x, before, after, one, sum)
  where
    fewer : (q : Spot) (b : Bool) → eq_by_cmp spot_cmp q s ≡ b → often q ss ≤ count spot_cmp (set_count spot_cmp table s (count spot_cmp table s - 1)) q
    fewer q b e =
        let all = sum_by-cons (one_if q) s ss in
        let few = d.few q in
        let now = count-set_count spot_total table s (count spot_cmp table s - 1) q in
        elim b as (λ b. eq_by_cmp spot_cmp q s ≡ b → often q ss ≤ count spot_cmp (set_count spot_cmp table s (count spot_cmp table s - 1)) q) [
          | true ↦ λ e.
              let one : one_if q s ≡ 1 = ap (λ b. cond b 1 0) e in
              let is : count spot_cmp (set_count spot_cmp table s (count spot_cmp table s - 1)) q ≡ count spot_cmp table s - 1 = now ∙ ap (λ b. cond b (count spot_cmp table s - 1) (count spot_cmp table q)) e in
              let same : count spot_cmp table q ≡ count spot_cmp table s = ap (count spot_cmp table) (same_spot q s (tied _ e)) in
              omega (arith, all, few, one, is, same)
          | false ↦ λ e.
              let is : count spot_cmp (set_count spot_cmp table s (count spot_cmp table s - 1)) q ≡ count spot_cmp table q = now ∙ ap (λ b. cond b (count spot_cmp table s - 1) (count spot_cmp table q)) e in
              omega (arith, all, few, is)
        ] e

loads_fall : (jobs : List KnownJob) (m i : ℕ) (ss : List Spot) (table : Table) → T (is_sorted spot_cmp table) → total_at jobs m i (without_grants table ss) ≤ total_at jobs m i table
loads_fall jobs m i [] table k = omega arith
loads_fall jobs m i (s ∷ ss) table k =
    let n = count spot_cmp table s in
    let x = set_exact jobs m i s (n - 1) table k in
    let l = load_more jobs m i s (n - 1) n (omega arith) in
    let rest = loads_fall jobs m i ss (set_count spot_cmp table s (n - 1)) (sorted_set table s (n - 1) k) in
    omega (arith, rest, x, l)

reported_without : (rs : List ℕ) (ss : List Spot) (table : Table) → Each (IsReported rs) table → Each (IsReported rs) (without_grants table ss)
reported_without rs [] table h = h
reported_without rs (s ∷ ss) table h =
    let n = count spot_cmp table s - 1 in
    reported_without rs ss (set_count spot_cmp table s n) (each_set (IsReported rs) s n table (λ some. each_found (IsReported rs) s table (let k : 0 < n = grind (arith, nat_tests, some) in omega (arith, k)) h) h)

-- one grant more at a spot
one_load : (jobs : List KnownJob) (m i : ℕ) (s : Spot) (table : Table) → T (is_sorted spot_cmp table) → total_at jobs m i (with_grant table s) ≡ total_at jobs m i table + cond (nat_eq s.machine m) (size_at jobs s.job s.unit i) 0
one_load jobs m i s table k =
    let n = count spot_cmp table s in
    let x = set_exact jobs m i s (n + 1) table k in
    by (nat_eq s.machine m) n (total_at jobs m i (with_grant table s)) (total_at jobs m i table) (size_at jobs s.job s.unit i) x
  where
    by : (b : Bool) (n new old size : ℕ) → new + cond b (n * size) 0 ≡ old + cond b ((n + 1) * size) 0 → new ≡ old + cond b size 0
    by true n new old size e = omega (arith, e)
    by false n new old size e = omega (arith, e)

-- a preemption
pub preempted_fits_machines : (c : ClusterRecord) (M : Master) (p : Plan) → plan_of c M ≡ Some p → IsInOrder M → FitsMachines c M → FitsMachines c (preempted M p)
preempted_fits_machines c M p e t h = record {
  fits = λ m i lt.
      let one = one_load M.jobs m i p.served W (sorted_without p.losers M.table t.sorted) in
      let fall = loads_fall M.jobs m i p.losers M.table t.sorted in
      elim (nat_eq p.served.machine m) as (λ b. nat_eq p.served.machine m ≡ b → total_at M.jobs m i (with_grant W p.served) ≡ total_at M.jobs m i W + cond b (size_at M.jobs p.served.job p.served.unit i) 0 → total_at M.jobs m i (with_grant W p.served) ≤ has_at c m i) [
        | true ↦ λ s one.
            let r : total_at M.jobs m i W + size_at M.jobs p.served.job p.served.unit i ≤ has_at c m i = subst (λ k. total_at M.jobs k i W + size_at M.jobs p.served.job p.served.unit i ≤ has_at c k i) (number_is p.served.machine m s) (room i lt) in
            omega (arith, one, r)
        | false ↦ λ _ one. let f = h.fits m i lt in omega (arith, one, fall, f)
      ] refl one;
  reported = each_set (IsReported M.reported) p.served _ W (λ _. usable) (reported_without M.reported p.losers M.table h.reported);
}
  where
    W : Table
    W = without_grants M.table p.losers

    loss : IsLoss c M p.served p.losers
    loss = plan_loss (tried c M) c M p t.sorted e

    room : (i : ℕ) → i < c.resources → total_at M.jobs p.served.machine i (without_grants M.table p.losers) + size_at M.jobs p.served.job p.served.unit i ≤ has_at c p.served.machine i
    room i lt =
        let test = in_each_is c (size_at M.jobs p.served.job p.served.unit) (λ i. not (nat_lt (has_at c p.served.machine i + set_at_place M.jobs i p.losers) (total_at M.jobs p.served.machine i M.table + size_at M.jobs p.served.job p.served.unit i))) i
        (both_true (in_each_place c (size_at M.jobs p.served.job p.served.unit) (λ i. not (nat_lt (has_at c p.served.machine i + set_at_place M.jobs i p.losers) (total_at M.jobs p.served.machine i M.table + size_at M.jobs p.served.job p.served.unit i)))) _ loss.enough).0 lt in
        let enough : total_at M.jobs p.served.machine i M.table + size_at M.jobs p.served.job p.served.unit i ≤ has_at c p.served.machine i + set_at_place M.jobs i p.losers = grind (arith, nat_tests, test) in
        let gone = loads_without M.jobs p.served.machine i p.losers M.table t.sorted loss.drawn in
        omega (arith, enough, gone)

    -- what is served is on a machine that is reported
    usable : has_number p.served.machine M.reported ≡ true
    usable = planned (λ s. has_number s.machine M.reported ≡ true) (tried c M) c M p (all_spots (by_priority M)) e
      where
        each : (q : Pair) (ms : List ℕ) → AllByRecursion (λ (s : Spot). has_number s.machine M.reported ≡ true) (map (spot q.0 q.1) (filter (accepts c M q.0 q.1) ms))
        each q [] = tt
        each q (m ∷ ms) = elim (accepts c M q.0 q.1 m) as (λ b. accepts c M q.0 q.1 m ≡ b → AllByRecursion (λ (s : Spot). has_number s.machine M.reported ≡ true) (map (spot q.0 q.1) (cond b (m ∷ filter (accepts c M q.0 q.1) ms) (filter (accepts c M q.0 q.1) ms)))) [
          | true ↦ λ u. ((both_true (has_number m M.reported) _ (both_true (is_usable M q.0 q.1 m) _ u).0).0, each q ms)
          | false ↦ λ _. each q ms
        ] refl

        all_spots : (qs : List Pair) → AllByRecursion (λ (s : Spot). has_number s.machine M.reported ≡ true) (flat_map (λ q. map (spot q.0 q.1) (filter (accepts c M q.0 q.1) (below (length c.machines)))) qs)
        all_spots [] = tt
        all_spots (q ∷ qs) = all_append (λ (s : Spot). has_number s.machine M.reported ≡ true) (map (spot q.0 q.1) (filter (accepts c M q.0 q.1) (below (length c.machines)))) _ (each q (below (length c.machines))) (all_spots qs)
