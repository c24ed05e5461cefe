-- The cases of a master's step, and what each leaves of the counts of its table.
use Rattle.std.proofs.Common.{◌≡◌, ℕ, zero, suc, ◌+◌, ◌-◌, ◌≤◌, Bool, true, false, cond, not, nat_eq, List, [], ◌∷◌, Option, Some, None, Result, Ok, Err, refl, sym, ◌∙◌, ap, subst, arith, min}
use Rattle.std.specs.Prelude.{T}
use Rattle.std.specs.Option.{unwrap_or}
use Rattle.std.specs.List.{AllByRecursion}
use Rattle.std.specs.Ordering.{eq_by_cmp}
use Rattle.std.specs.FinMap.Entries.{find, put, where_key, is_sorted, is_sorted-put, is_sorted-where_key, find-put}
use Rattle.std.proofs.lemmas.Bool.Decides.{nat_tests}
use Rattle.fuxi_terms.specs.declared.Key.{Key}
use Rattle.fuxi_terms.specs.Cluster.{ClusterRecord, JobRecord}
use Rattle.fuxi_terms.specs.Counts.{count, set_count}
use Rattle.fuxi_terms.specs.Jobs.{KnownJob}
use Rattle.fuxi_terms.specs.Keys.{key_cmp, RowKey, Spot, spot_cmp}
use Rattle.fuxi_terms.specs.Numbers.{has_number, with_number, without_number}
use Rattle.fuxi_terms.specs.TallyKeys.{credited_key, is_back}
use Rattle.fuxi_terms.specs.Tables.{spot, with_grant, without_grants, Table}
use Rattle.fuxi_terms.proofs.Alls.{all_mapped, all_more}
use Rattle.fuxi_terms.proofs.Booleans.{either, not_false}
use Rattle.fuxi_terms.proofs.CountsLemmas.{count_where, count-set_count, tied}
use Rattle.fuxi_terms.proofs.KeyOrders.{spot_total, same_spot}
use Rattle.spec_net.specs.Net.{Id}
use Rattle.spec_net.specs.Ledgers.{Ledger}
use Rattle.spec_net.specs.Channels.{app_id, is_agent}
use Rattle.spec_roles.specs.HardState.{with_job}
use Rattle.spec_roles.specs.Masters.{Master}
use Rattle.spec_roles.specs.MasterSteps.{phased, ready, is_kept, adopted, adopts, take_report, credit, take_demand, meet_app, told_of, ended_in, banned_in, MasterChange, Admits, Ends, Bans, Unbans, Begins, Preempts, Changed, changed_to, change_of}
use Rattle.spec_roles.specs.Placing.{first_placeable, granted, settle, settled, all_out, line_up}
use Rattle.spec_roles.specs.Preemption.{Plan, victims, tried, first_plan, plan_of, preempted}
use Rattle.spec_roles.specs.Refusals.{Refusal, AlreadyServing, NotServing, NothingToPreempt, first_refusal, with_found}
use Rattle.spec_roles.specs.ServedInOrder.{IsCandidate}
use Rattle.spec_roles.proofs.ServedInOrderLemmas.{all_candidates, candidates_are, candidates_spots}

-- Changes: what holds of each that is made holds of every one that is not refused
pub record EachChange (c : ClusterRecord) (M : Master) (P : MasterChange → Master → Type 0) : Type 0 where
  pub admits : (j : JobRecord) → P (Admits j) (record M { jobs = with_job j M.jobs })
  pub ends : (a : ℕ) → P (Ends a) (ended_in M a)
  pub bans : (m : ℕ) → P (Bans m) (banned_in M m)
  pub unbans : (m : ℕ) → P (Unbans m) (record M { bans = without_number m M.bans })
  pub begins : P Begins (record M { serving = true })
  pub preempts : (p : Plan) → M.serving ≡ true → plan_of c M ≡ Some p → P Preempts (preempted M p)

ok_state : (P : Master → Type 0) (d k : Changed) (r : Result Changed Refusal) → r ≡ Ok d → r ≡ Ok k → P d.state → P k.state
ok_state P d k r made e h = let same : d ≡ k = cc in subst (λ (x : Changed). P x.state) same h

passed : (b : Bool) (r : Refusal) → first_refusal ((b, r) ∷ []) ≡ None → b ≡ false
passed true r e = cc
passed false r e = refl

pub changed_has : (c : ClusterRecord) (M : Master) (P : MasterChange → Master → Type 0) → EachChange c M P → (x : MasterChange) (d : Changed) → change_of c M x ≡ Ok d → P x d.state
changed_has c M P h (Admits j) d e = ok_state (P (Admits j)) (record { state = record M { jobs = with_job j M.jobs }; even_if_equal = app_id j.number ∷ [] }) d (change_of c M (Admits j)) refl e (h.admits j)
changed_has c M P h (Ends a) d e = ok_state (P (Ends a)) (record { state = ended_in M a; even_if_equal = [] }) d (change_of c M (Ends a)) refl e (h.ends a)
changed_has c M P h (Bans m) d e = ok_state (P (Bans m)) (record { state = banned_in M m; even_if_equal = [] }) d (change_of c M (Bans m)) refl e (h.bans m)
changed_has c M P h (Unbans m) d e = ok_state (P (Unbans m)) (record { state = record M { bans = without_number m M.bans }; even_if_equal = [] }) d (change_of c M (Unbans m)) refl e (h.unbans m)
changed_has c M P h Begins d e = by (first_refusal ((M.serving, AlreadyServing) ∷ [])) e
  where
    N : Master
    N = record M { serving = true }

    by : (o : Option Refusal) → (elim o as (λ _. Result Changed Refusal) [ None ↦ changed_to N | Some r ↦ Err r ]) ≡ Ok d → P Begins d.state
    by None e = ok_state (P Begins) (record { state = N; even_if_equal = [] }) d (changed_to N) refl e h.begins
    by (Some r) e = cc
changed_has c M P h Preempts d e = by (first_refusal ((not M.serving, NotServing) ∷ [])) refl e
  where
    found : (o : Option Plan) → plan_of c M ≡ o → M.serving ≡ true → with_found o (Err NothingToPreempt) (λ p. changed_to (preempted M p)) ≡ Ok d → P Preempts d.state
    found None f s e = cc
    found (Some p) f s e = ok_state (P Preempts) (record { state = preempted M p; even_if_equal = [] }) d (changed_to (preempted M p)) refl e (h.preempts p s f)

    by : (o : Option Refusal) → first_refusal ((not M.serving, NotServing) ∷ []) ≡ o → (elim o as (λ _. Result Changed Refusal) [ None ↦ with_found (plan_of c M) (Err NothingToPreempt) (λ p. changed_to (preempted M p)) | Some r ↦ Err r ]) ≡ Ok d → P Preempts d.state
    by None t e = found (plan_of c M) refl (not_false M.serving (passed (not M.serving) NotServing t)) e
    by (Some r) t e = cc

-- Hearing: what holds of a master that hears nothing new, adopts a report, meets an application, and takes a demand, holds of one that hears
abbrev pub reported_in : Master → ℕ → Ledger → Master
reported_in M m l = record M { reported = with_number m M.reported; table = cond (has_number m M.bans) M.table (adopted M.jobs m l.rows M.table) }

pub record EachHeard (M : Master) (fresh : Bool) (from : Id) (l : Ledger) (P : Master → Type 0) : Type 0 where
  pub same : is_agent from ≡ true → P M
  pub reports : is_agent from ≡ true → adopts M from.number l ≡ true → P (reported_in M from.number l)
  pub meets : is_agent from ≡ false → P (meet_app fresh M from.number)
  pub demands : is_agent from ≡ false → P (take_demand (meet_app fresh M from.number) from.number l)

pub heard_has : (M : Master) (fresh taken : Bool) (from : Id) (l : Ledger) (P : Master → Type 0) → EachHeard M fresh from l P → P (told_of M fresh taken from l)
heard_has M fresh taken from l P h =
    let N = meet_app fresh M from.number in
    either P (is_agent from) (cond taken (take_report M from.number l) M) (cond taken (take_demand N from.number l) N)
    (λ a. either P taken (take_report M from.number l) M (λ _. either P (adopts M from.number l) (reported_in M from.number l) M (λ t. h.reports a t) (λ _. h.same a)) (λ _. h.same a))
    (λ a. either P taken (take_demand N from.number l) N (λ _. h.demands a) (λ _. h.meets a))

-- The end of a step changes the table, the line and the phase alone
pub record SameBesides (M N : Master) : Type 0 where
  pub jobs : N.jobs ≡ M.jobs
  pub bans : N.bans ≡ M.bans
  pub reported : N.reported ≡ M.reported
  pub demands : N.demands ≡ M.demands
  pub credited : N.credited ≡ M.credited
  pub serving : N.serving ≡ M.serving

settle_besides : (c : ClusterRecord) (fuel : ℕ) (M : Master) → SameBesides M (settle c fuel M)
settle_besides c zero M = record { jobs = refl; bans = refl; reported = refl; demands = refl; credited = refl; serving = refl }
settle_besides c (suc fuel) M = elim (first_placeable c M) as (λ o. SameBesides M (elim o as (λ _. Master) [ None ↦ M | Some s ↦ settle c fuel (granted M s) ])) [
  | None ↦ record { jobs = refl; bans = refl; reported = refl; demands = refl; credited = refl; serving = refl }
  | Some s ↦ let k = settle_besides c fuel (granted M s) in record { jobs = k.jobs; bans = k.bans; reported = k.reported; demands = k.demands; credited = k.credited; serving = k.serving }
]

pub ready_besides : (c : ClusterRecord) (M : Master) → SameBesides (phased c M) (ready c M)
ready_besides c M = let N = line_up (phased c M) in
    elim N.serving as (λ b. SameBesides (phased c M) (elim b as (λ _. Master) [ true ↦ settled c N | false ↦ N ])) [
      | true ↦ let k = settle_besides c (all_out N) N in record { jobs = k.jobs; bans = k.bans; reported = k.reported; demands = k.demands; credited = k.credited; serving = k.serving }
      | false ↦ record { jobs = refl; bans = refl; reported = refl; demands = refl; credited = refl; serving = refl }
    ]

-- Counts. One grant more
pub count_granted : (table : Table) (s q : Spot) → count spot_cmp (with_grant table s) q ≡ cond (eq_by_cmp spot_cmp q s) (count spot_cmp table s + 1) (count spot_cmp table q)
count_granted table s q = count-set_count spot_total table s (count spot_cmp table s + 1) q

pub count_rises : (table : Table) (s q : Spot) → count spot_cmp table q ≤ count spot_cmp (with_grant table s) q
count_rises table s q = subst (λ n. count spot_cmp table q ≤ n) (sym (count_granted table s q)) (by (eq_by_cmp spot_cmp q s) refl)
  where
    by : (b : Bool) → eq_by_cmp spot_cmp q s ≡ b → count spot_cmp table q ≤ cond b (count spot_cmp table s + 1) (count spot_cmp table q)
    by true e = let same : count spot_cmp table q ≡ count spot_cmp table s = ap (count spot_cmp table) (same_spot q s (tied _ e)) in omega (arith, same)
    by false e = omega arith

settle_rises : (c : ClusterRecord) (fuel : ℕ) (M : Master) (q : Spot) → count spot_cmp M.table q ≤ count spot_cmp (settle c fuel M).table q
settle_rises c zero M q = omega arith
settle_rises c (suc fuel) M q = elim (first_placeable c M) as (λ o. count spot_cmp M.table q ≤ count spot_cmp (elim o as (λ _. Master) [ None ↦ M | Some s ↦ settle c fuel (granted M s) ]).table q) [
  | None ↦ omega arith
  | Some s ↦ let a = count_rises M.table s q in let b = settle_rises c fuel (granted M s) q in omega (arith, a, b)
]

-- the end of a step takes nothing
pub ready_rises : (c : ClusterRecord) (M : Master) (q : Spot) → count spot_cmp M.table q ≤ count spot_cmp (ready c M).table q
ready_rises c M q = let N = line_up (phased c M) in
    elim N.serving as (λ b. count spot_cmp M.table q ≤ count spot_cmp (elim b as (λ _. Master) [ true ↦ settled c N | false ↦ N ]).table q) [ true ↦ settle_rises c (all_out N) N q | false ↦ omega arith ]

-- grants that are left out
pub count_left : (p : Spot → Bool) (table : Table) (q : Spot) → count spot_cmp (where_key spot_cmp p table) q ≡ cond (p q) (count spot_cmp table q) 0
count_left p table q = count_where spot_cmp same_spot p table q

-- losers
pub count_without : (ss : List Spot) (table : Table) (q : Spot) → count spot_cmp (without_grants table ss) q ≤ count spot_cmp table q
count_without [] table q = omega arith
count_without (s ∷ ss) table q =
    let n = count spot_cmp table s - 1 in
    let rest = count_without ss (set_count spot_cmp table s n) q in
    let one : count spot_cmp (set_count spot_cmp table s n) q ≤ count spot_cmp table q = subst (λ k. k ≤ count spot_cmp table q) (sym (count-set_count spot_total table s n q)) (by (eq_by_cmp spot_cmp q s) refl) in
    omega (arith, rest, one)
  where
    by : (b : Bool) → eq_by_cmp spot_cmp q s ≡ b → cond b (count spot_cmp table s - 1) (count spot_cmp table q) ≤ count spot_cmp table q
    by true e = let same : count spot_cmp table q ≡ count spot_cmp table s = ap (count spot_cmp table) (same_spot q s (tied _ e)) in omega (arith, same)
    by false e = omega arith

-- a spot that differs
pub other_machine : (q s : Spot) → nat_eq q.machine s.machine ≡ false → eq_by_cmp spot_cmp q s ≡ false
other_machine q s n = by (eq_by_cmp spot_cmp q s) refl
  where
    by : (b : Bool) → eq_by_cmp spot_cmp q s ≡ b → eq_by_cmp spot_cmp q s ≡ false
    by true t = let same : q.machine ≡ s.machine = ap (λ (x : Spot). x.machine) (same_spot q s (tied _ t)) in let yes : nat_eq q.machine s.machine ≡ true = grind (arith, nat_tests, same) in absurd (let f : ⊥ = cc in f)
    by false t = t

pub other_job : (q s : Spot) → nat_eq q.job s.job ≡ false → eq_by_cmp spot_cmp q s ≡ false
other_job q s n = by (eq_by_cmp spot_cmp q s) refl
  where
    by : (b : Bool) → eq_by_cmp spot_cmp q s ≡ b → eq_by_cmp spot_cmp q s ≡ false
    by true t = let same : q.job ≡ s.job = ap (λ (x : Spot). x.job) (same_spot q s (tied _ t)) in let yes : nat_eq q.job s.job ≡ true = grind (arith, nat_tests, same) in absurd (let f : ⊥ = cc in f)
    by false t = t

-- a report changes its machine alone
pub adopted_beside : (jobs : List KnownJob) (m : ℕ) (es : List (RowKey × ℕ)) (table : Table) (q : Spot) → nat_eq q.machine m ≡ false → count spot_cmp (adopted jobs m es table) q ≡ count spot_cmp table q
adopted_beside jobs m [] table q n = refl
adopted_beside jobs m (e ∷ es) table q n =
    adopted_beside jobs m es (cond (is_kept jobs e.0) (put spot_cmp (spot e.0.job e.0.unit m) e.1 table) table) q n
    ∙ either (λ t. count spot_cmp t q ≡ count spot_cmp table q) (is_kept jobs e.0) (put spot_cmp (spot e.0.job e.0.unit m) e.1 table) table
    (λ _. ap (λ o. unwrap_or o 0) (find-put spot_cmp spot_total q (spot e.0.job e.0.unit m) e.1 table) ∙ ap (λ b. unwrap_or (cond b (Some e.1) (find spot_cmp q table)) 0) (other_machine q (spot e.0.job e.0.unit m) n)) (λ _. refl)

-- crediting a job takes nothing of others, and gives nothing
abbrev pub credit_one : ℕ → List (Key × ℕ) → Key × ℕ → Table → Table
credit_one a credited e table =
    let s = spot a e.0.unit e.0.number in
    let here = count spot_cmp table s in
    let more = e.1 - count key_cmp credited (credited_key e.0.unit e.0.number) in
    cond (is_back e.0) (set_count spot_cmp table s (here - min more here)) table

pub credit_falls : (a : ℕ) (credited es : List (Key × ℕ)) (table : Table) (q : Spot) → count spot_cmp (credit a credited es table) q ≤ count spot_cmp table q
credit_falls a credited [] table q = omega arith
credit_falls a credited (e ∷ es) table q =
    let s = spot a e.0.unit e.0.number in
    let here = count spot_cmp table s in
    let n = here - min (e.1 - count key_cmp credited (credited_key e.0.unit e.0.number)) here in
    let rest = credit_falls a credited es (credit_one a credited e table) q in
    let one : count spot_cmp (credit_one a credited e table) q ≤ count spot_cmp table q = either (λ t. count spot_cmp t q ≤ count spot_cmp table q) (is_back e.0) (set_count spot_cmp table s n) table
    (λ _. subst (λ k. k ≤ count spot_cmp table q) (sym (count-set_count spot_total table s n q)) (by s n (omega arith) (eq_by_cmp spot_cmp q s) refl)) (λ _. omega arith) in
    omega (arith, rest, one)
  where
    by : (s : Spot) (n : ℕ) → n ≤ count spot_cmp table s → (b : Bool) → eq_by_cmp spot_cmp q s ≡ b → cond b n (count spot_cmp table q) ≤ count spot_cmp table q
    by s n le true e = let same : count spot_cmp table q ≡ count spot_cmp table s = ap (count spot_cmp table) (same_spot q s (tied _ e)) in omega (arith, same, le)
    by s n le false e = omega arith

pub credit_beside : (a : ℕ) (credited es : List (Key × ℕ)) (table : Table) (q : Spot) → nat_eq q.job a ≡ false → count spot_cmp (credit a credited es table) q ≡ count spot_cmp table q
credit_beside a credited [] table q n = refl
credit_beside a credited (e ∷ es) table q n =
    let s = spot a e.0.unit e.0.number in
    let here = count spot_cmp table s in
    let k = here - min (e.1 - count key_cmp credited (credited_key e.0.unit e.0.number)) here in
    credit_beside a credited es (credit_one a credited e table) q n
    ∙ either (λ t. count spot_cmp t q ≡ count spot_cmp table q) (is_back e.0) (set_count spot_cmp table s k) table
    (λ _. count-set_count spot_total table s k q ∙ ap (λ b. cond b k (count spot_cmp table q)) (other_job q s n)) (λ _. refl)

-- Tables in order stay so
abbrev pub IsSorted : Table → Type 0
IsSorted table = T (is_sorted spot_cmp table)

-- a number set keeps the order
pub sorted_set : (table : Table) (s : Spot) (n : ℕ) → IsSorted table → IsSorted (set_count spot_cmp table s n)
sorted_set table s n h = either IsSorted (nat_eq n 0) (where_key spot_cmp (λ x. not (eq_by_cmp spot_cmp s x)) table) (put spot_cmp s n table) (λ _. is_sorted-where_key spot_cmp _ table h) (λ _. is_sorted-put spot_cmp spot_total s n table h)

-- so do losers
pub sorted_without : (ss : List Spot) (table : Table) → IsSorted table → IsSorted (without_grants table ss)
sorted_without [] table k = k
sorted_without (s ∷ ss) table k = sorted_without ss (set_count spot_cmp table s (count spot_cmp table s - 1)) (sorted_set table s _ k)

pub sorted_adopted : (jobs : List KnownJob) (m : ℕ) (es : List (RowKey × ℕ)) (table : Table) → IsSorted table → IsSorted (adopted jobs m es table)
sorted_adopted jobs m [] table h = h
sorted_adopted jobs m (e ∷ es) table h = sorted_adopted jobs m es _ (either IsSorted (is_kept jobs e.0) (put spot_cmp (spot e.0.job e.0.unit m) e.1 table) table (λ _. is_sorted-put spot_cmp spot_total (spot e.0.job e.0.unit m) e.1 table h) (λ _. h))

pub sorted_credit : (a : ℕ) (credited es : List (Key × ℕ)) (table : Table) → IsSorted table → IsSorted (credit a credited es table)
sorted_credit a credited [] table h = h
sorted_credit a credited (e ∷ es) table h =
    let s = spot a e.0.unit e.0.number in
    let here = count spot_cmp table s in
    let n = here - min (e.1 - count key_cmp credited (credited_key e.0.unit e.0.number)) here in
    sorted_credit a credited es (credit_one a credited e table) (either IsSorted (is_back e.0) (set_count spot_cmp table s n) table (λ _. sorted_set table s n h) (λ _. h))

-- What is served is a candidate. What holds of all that are tried holds of it
pub planned : (P : Spot → Type 0) (ss : List Spot) (c : ClusterRecord) (M : Master) (p : Plan) → AllByRecursion P ss → first_plan ss c M ≡ Some p → P p.served
planned P [] c M p h e = cc
planned P (s ∷ ss) c M p h e = elim (victims c M s) as (λ o. (elim o as (λ _. Option Plan) [ None ↦ first_plan ss c M | Some vs ↦ Some (record { served = s; losers = vs }) ]) ≡ Some p → P p.served) [
  | None ↦ λ e. planned P ss c M p h.1 e
  | Some vs ↦ λ e. served vs e
] e
  where
    plan : List Spot → Plan
    plan vs = record { served = s; losers = vs }

    served : (vs : List Spot) → Some (plan vs) ≡ Some p → P p.served
    served vs e = let same : plan vs ≡ p = cc in subst (λ (q : Plan). P q.served) same h.0

-- a candidate with some place in the line
pub record IsTried (c : ClusterRecord) (M : Master) (s : Spot) : Type 0 where
  pub place : ℕ
  pub candidate : IsCandidate c M (place, s)

pub plan_tried : (c : ClusterRecord) (M : Master) (p : Plan) → plan_of c M ≡ Some p → IsTried c M p.served
plan_tried c M p e = planned (IsTried c M) (tried c M) c M p
    (subst (AllByRecursion (IsTried c M)) (candidates_spots c M) (all_mapped (IsTried c M) (λ (x : ℕ × Spot). x.1) (all_candidates c M) (all_more (IsCandidate c M) (λ (x : ℕ × Spot). IsTried c M x.1) (λ x h. record { place = x.0; candidate = h }) (all_candidates c M) (candidates_are c M)))) e
