-- A machine that is not reported has no grant, whatever a step changes.
use Rattle.std.proofs.Common.{◌≡◌, ℕ, ◌+◌, ◌-◌, min, Bool, true, false, cond, nat_eq, List, [], ◌∷◌, length, map, filter, Option, Some, None, refl, sym, ◌∙◌, ap, subst, arith}
use Rattle.std.specs.List.{AllByRecursion}
use Rattle.std.specs.Option.{unwrap_or}
use Rattle.std.specs.Ordering.{eq_by_cmp}
use Rattle.std.specs.FinMap.Entries.{put, where_key, find, find-put, find-where_key}
use Rattle.fuxi_terms.specs.declared.Key.{Key}
use Rattle.fuxi_terms.specs.Cluster.{ClusterRecord}
use Rattle.fuxi_terms.specs.Counts.{count, set_count}
use Rattle.fuxi_terms.specs.Jobs.{KnownJob}
use Rattle.fuxi_terms.specs.Keys.{RowKey, Spot, spot_cmp, key_cmp}
use Rattle.fuxi_terms.specs.Lists.{below}
use Rattle.fuxi_terms.specs.Numbers.{has_number, with_number}
use Rattle.fuxi_terms.specs.Tables.{spot, without_grants, Table}
use Rattle.fuxi_terms.specs.TallyKeys.{credited_key, is_back}
use Rattle.fuxi_terms.proofs.Alls.{all_mapped, all_flat, all_passed}
use Rattle.fuxi_terms.proofs.Booleans.{both_true, both_false, nat_itself}
use Rattle.fuxi_terms.proofs.CountsLemmas.{count-set_count, tied}
use Rattle.fuxi_terms.proofs.KeyOrders.{spot_total, same_spot}
use Rattle.spec_roles.specs.Masters.{Master}
use Rattle.spec_roles.specs.MasterSteps.{adopted, credit, is_kept}
use Rattle.spec_roles.specs.Placing.{Board, board, accepts, is_usable}
use Rattle.spec_roles.specs.Preemption.{Plan, by_priority_in, tried, victims_in, first_plan_in, plan_of, preempted}
use Rattle.fuxi_master.specs.Cores.{IsTidy}
use Rattle.fuxi_terms.proofs.NumbersLemmas.{with_is}

fewer_none : (table : Table) (s : Spot) (n : ℕ) → (count spot_cmp table s ≡ 0 → n ≡ 0) → (t : Spot) → count spot_cmp table t ≡ 0 → count spot_cmp (set_count spot_cmp table s n) t ≡ 0
fewer_none table s n less t none =
    count-set_count spot_total table s n t
    ∙ elim (eq_by_cmp spot_cmp t s) as (λ b. eq_by_cmp spot_cmp t s ≡ b → cond b n (count spot_cmp table t) ≡ 0) [
      | true ↦ λ e. less (ap (count spot_cmp table) (sym (same_spot t s (tied _ e))) ∙ none)
      | false ↦ λ _. none
    ] refl

-- crediting takes grants
pub credit_none : (a : ℕ) (cs es : List (Key × ℕ)) (table : Table) (t : Spot) → count spot_cmp table t ≡ 0 → count spot_cmp (credit a cs es table) t ≡ 0
credit_none a cs [] table t none = none
credit_none a cs (e ∷ es) table t none =
    let s = spot a e.0.unit e.0.number in
    let n = count spot_cmp table s - min (e.1 - count key_cmp cs (credited_key e.0.unit e.0.number)) (count spot_cmp table s) in
    credit_none a cs es (cond (is_back e.0) (set_count spot_cmp table s n) table) t
    (elim (is_back e.0) as (λ b. count spot_cmp (cond b (set_count spot_cmp table s n) table) t ≡ 0) [
      | true ↦ fewer_none table s n (λ z. omega (arith, z)) t none
      | false ↦ none
    ])

-- grants that are filtered
pub where_none : (p : Spot → Bool) (table : Table) (t : Spot) → count spot_cmp table t ≡ 0 → count spot_cmp (where_key spot_cmp p table) t ≡ 0
where_none p table t none =
    ap (λ o. unwrap_or o 0) (find-where_key spot_cmp p t (λ x e. ap p (sym (same_spot t x e))) table)
    ∙ elim (p t) as (λ b. unwrap_or (cond b (find spot_cmp t table) None) 0 ≡ 0) [ true ↦ none | false ↦ refl ]

-- a report adds grants on its machine alone
pub adopted_none : (jobs : List KnownJob) (m : ℕ) (rows : List (RowKey × ℕ)) (table : Table) (t : Spot) → nat_eq t.machine m ≡ false → count spot_cmp table t ≡ 0 → count spot_cmp (adopted jobs m rows table) t ≡ 0
adopted_none jobs m [] table t other none = none
adopted_none jobs m (e ∷ es) table t other none =
    let s = spot e.0.job e.0.unit m in
    adopted_none jobs m es (cond (is_kept jobs e.0) (put spot_cmp s e.1 table) table) t other
    (elim (is_kept jobs e.0) as (λ b. count spot_cmp (cond b (put spot_cmp s e.1 table) table) t ≡ 0) [
      | true ↦ ap (λ o. unwrap_or o 0) (find-put spot_cmp spot_total t s e.1 table) ∙ elim (eq_by_cmp spot_cmp t s) as (λ b. eq_by_cmp spot_cmp t s ≡ b → unwrap_or (cond b (Some e.1) (find spot_cmp t table)) 0 ≡ 0) [
        | true ↦ λ q. absurd (let same = same_spot t s (tied _ q) in let f : true ≡ false = sym (nat_itself m) ∙ ap (λ (x : Spot). nat_eq x.machine m) (sym same) ∙ other in cc)
        | false ↦ λ _. none
      ] refl
      | false ↦ none
    ])

pub adopting_tidy : (M : Master) (m : ℕ) (rows : List (RowKey × ℕ)) → IsTidy M → IsTidy (record M { reported = with_number m M.reported; table = cond (has_number m M.bans) M.table (adopted M.jobs m rows M.table) })
adopting_tidy M m rows tidy t unreported =
    let parts = both_false (nat_eq t.machine m) (has_number t.machine M.reported) (sym (with_is t.machine m M.reported) ∙ unreported) in
    elim (has_number m M.bans) as (λ b. count spot_cmp (cond b M.table (adopted M.jobs m rows M.table)) t ≡ 0) [
      | true ↦ tidy t parts.1
      | false ↦ adopted_none M.jobs m rows M.table t parts.0 (tidy t parts.1)
    ]

-- preemption takes grants, and makes one on a machine that is reported
without_none : (ss : List Spot) (table : Table) (t : Spot) → count spot_cmp table t ≡ 0 → count spot_cmp (without_grants table ss) t ≡ 0
without_none [] table t none = none
without_none (s ∷ ss) table t none = without_none ss (set_count spot_cmp table s (count spot_cmp table s - 1)) t (fewer_none table s (count spot_cmp table s - 1) (λ z. omega (arith, z)) t none)

first_among : (P : Spot → Type 0) (ss : List Spot) (b : Board) (table : Table) (p : Plan) → AllByRecursion P ss → first_plan_in ss b table ≡ Some p → P p.served
first_among P [] b table p all e = cc
first_among P (s ∷ ss) b table p all e = elim (victims_in b table s) as (λ o. elim o as (λ _. Option Plan) [ None ↦ first_plan_in ss b table | Some vs ↦ Some (record { served = s; losers = vs }) ] ≡ Some p → P p.served) [
  | None ↦ λ e. first_among P ss b table p all.1 e
  | Some vs ↦ λ e. let same : record { served = s; losers = vs } ≡ p = cc in subst (λ (q : Plan). P q.served) same all.0
] e

pub served_reported : (c : ClusterRecord) (M : Master) (p : Plan) → plan_of c M ≡ Some p → has_number p.served.machine M.reported ≡ true
served_reported c M p planned = first_among (λ s. has_number s.machine M.reported ≡ true) (tried c M) (board c M) M.table p
    (all_flat (λ (s : Spot). has_number s.machine M.reported ≡ true) (λ q. map (spot q.0 q.1) (filter (accepts c M q.0 q.1) (below (length c.machines)))) (by_priority_in (board c M).priorities M.line)
    (λ q. all_mapped (λ (s : Spot). has_number s.machine M.reported ≡ true) (spot q.0 q.1) (filter (accepts c M q.0 q.1) (below (length c.machines)))
    (all_passed (λ m. has_number m M.reported ≡ true) (accepts c M q.0 q.1) (below (length c.machines)) (λ m may. (both_true (has_number m M.reported) _ (both_true (is_usable M q.0 q.1 m) _ may).0).0))))
    planned

pub preempted_tidy : (M : Master) (p : Plan) → has_number p.served.machine M.reported ≡ true → IsTidy M → IsTidy (preempted M p)
preempted_tidy M p there tidy t unreported =
    let table = without_grants M.table p.losers in
    count-set_count spot_total table p.served (count spot_cmp table p.served + 1) t
    ∙ elim (eq_by_cmp spot_cmp t p.served) as (λ b. eq_by_cmp spot_cmp t p.served ≡ b → cond b (count spot_cmp table p.served + 1) (count spot_cmp table t) ≡ 0) [
      | true ↦ λ e. absurd (let f : true ≡ false = sym there ∙ ap (λ (x : Spot). has_number x.machine M.reported) (sym (same_spot t p.served (tied _ e))) ∙ unreported in cc)
      | false ↦ λ _. without_none p.losers M.table t (tidy t unreported)
    ] refl
