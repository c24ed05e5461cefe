-- Preemption: which grants on a machine are taken for a unit that waits. It reads a board, a table and a line, and of a master these.
use Rattle.std.specs.Prelude.{ℕ, zero, suc, ◌+◌, Bool, true, false, cond, not, nat_eq, nat_lt, ◌&&◌, ◌||◌, List, [], ◌∷◌, ◌++◌, length, map, filter, Option, Some, None}
use Rattle.std.specs.List.{sum_by, flat_map}
use Rattle.fuxi_terms.specs.Cluster.{ClusterRecord, has_at, limit_at, quota_at, in_each, in_each_place}
use Rattle.fuxi_terms.specs.Keys.{Spot, Pair}
use Rattle.fuxi_terms.specs.Jobs.{KnownJob, priority_of, group_of, size_at}
use Rattle.fuxi_terms.specs.Lists.{below}
use Rattle.fuxi_terms.specs.Tables.{spot, total_by, usage_by, with_grant, without_grants, Table}
use Rattle.spec_roles.specs.Masters.{Master}
use Rattle.spec_roles.specs.Placing.{Board, board, accepts_in}

-- Walk. A grant goes before another by lower priority, then greater job, then greater unit
abbrev pub goes_before_by : (ℕ → ℕ → ℕ) → Spot → Spot → Bool
goes_before_by priorities s t =
    let p = priorities s.job s.unit in
    let q = priorities t.job t.unit in
    nat_lt p q || (nat_eq p q && (nat_lt t.job s.job || (nat_eq t.job s.job && nat_lt t.unit s.unit)))

abbrev pub goes_before : List KnownJob → Spot → Spot → Bool
goes_before jobs s t = goes_before_by (priority_of jobs) s t

abbrev pub put_grant_by : (ℕ → ℕ → ℕ) → Spot × ℕ → Table → Table
put_grant_by priorities e [] = e ∷ []
put_grant_by priorities e (f ∷ fs) = cond (goes_before_by priorities e.0 f.0) (e ∷ f ∷ fs) (f ∷ put_grant_by priorities e fs)

abbrev pub put_grant : List KnownJob → Spot × ℕ → Table → Table
put_grant jobs e es = put_grant_by (priority_of jobs) e es

abbrev pub in_walk_order_by : (ℕ → ℕ → ℕ) → Table → Table
in_walk_order_by priorities [] = []
in_walk_order_by priorities (e ∷ es) = put_grant_by priorities e (in_walk_order_by priorities es)

abbrev pub in_walk_order : List KnownJob → Table → Table
in_walk_order jobs es = in_walk_order_by (priority_of jobs) es

abbrev pub so_many : ℕ → Spot → List Spot
so_many zero s = []
so_many (suc n) s = s ∷ so_many n s

-- the single grants on a machine, in that order
abbrev pub walk_in : (ℕ → ℕ → ℕ) → Table → ℕ → List Spot
walk_in priorities table m = flat_map (λ e. so_many e.1 e.0) (in_walk_order_by priorities (filter (λ e. nat_eq e.0.machine m) table))

abbrev pub walk : Master → ℕ → List Spot
walk M m = walk_in (priority_of M.jobs) M.table m

-- what a set of single grants takes in one resource, and the part of it that is of one group
abbrev pub set_by : (ℕ → ℕ → ℕ → ℕ) → ℕ → List Spot → ℕ
set_by sizes i set = sum_by (λ s. sizes s.job s.unit i) set

abbrev pub set_at_place : List KnownJob → ℕ → List Spot → ℕ
set_at_place jobs i set = set_by (size_at jobs) i set

abbrev pub part_by : (ℕ → ℕ) → (ℕ → ℕ → ℕ → ℕ) → ℕ → ℕ → List Spot → ℕ
part_by groups sizes g i set = sum_by (λ s. cond (nat_eq (groups s.job) g) (sizes s.job s.unit i) 0) set

abbrev pub part_at : List KnownJob → ℕ → ℕ → List Spot → ℕ
part_at jobs g i set = part_by (group_of jobs) (size_at jobs) g i set

-- a set is enough for one more of the unit at t: it fits what is free and the set, and the group stays within its limit without its part of the set
abbrev pub is_enough_in : Board → Table → Spot → List Spot → Bool
is_enough_in b table t set = let g = b.groups t.job in
    in_each_place b.cluster (b.sizes t.job t.unit) (λ i. not (nat_lt (has_at b.cluster t.machine i + set_by b.sizes i set) (total_by b.sizes t.machine i table + b.sizes t.job t.unit i)))
    && in_each b.cluster (λ i. not (nat_lt (limit_at b.cluster g i + part_by b.groups b.sizes g i set) (usage_by b.groups b.sizes g i table + b.sizes t.job t.unit i)))

abbrev pub is_enough : ClusterRecord → Master → Spot → List Spot → Bool
is_enough c M t set = is_enough_in (board c M) M.table t set

-- the group of the unit at t has quota left for one more
abbrev pub is_guaranteed_in : Board → Table → Spot → Bool
is_guaranteed_in b table t = let g = b.groups t.job in
    in_each_place b.cluster (b.sizes t.job t.unit) (λ i. not (nat_lt (quota_at b.cluster g i) (usage_by b.groups b.sizes g i table + b.sizes t.job t.unit i)))

abbrev pub is_guaranteed : ClusterRecord → Master → Spot → Bool
is_guaranteed c M t = is_guaranteed_in (board c M) M.table t

-- the group of a grant keeps its quota without it and without the set, in each resource
abbrev pub is_spared_in : Board → Table → List Spot → Spot → Bool
is_spared_in b table set s = let g = b.groups s.job in
    in_each b.cluster (λ i. not (nat_lt (usage_by b.groups b.sizes g i table) (quota_at b.cluster g i + part_by b.groups b.sizes g i set + b.sizes s.job s.unit i)))

abbrev pub is_spared : ClusterRecord → Master → List Spot → Spot → Bool
is_spared c M set s = is_spared_in (board c M) M.table set s

-- a grant is taken: of the same group where its priority is lower, of another where that keeps its quota and this one is within its own
abbrev pub may_take_in : Board → Table → Spot → List Spot → Spot → Bool
may_take_in b table t set s =
    cond (nat_eq (b.groups s.job) (b.groups t.job))
    (nat_lt (b.priorities s.job s.unit) (b.priorities t.job t.unit))
    (is_spared_in b table set s && is_guaranteed_in b table t)

abbrev pub may_take : ClusterRecord → Master → Spot → List Spot → Spot → Bool
may_take c M t set s = may_take_in (board c M) M.table t set s

-- Taken: the walk stops as soon as the set is enough
abbrev pub taken_in : List Spot → Board → Table → Spot → List Spot → List Spot
taken_in [] b table t set = set
taken_in (s ∷ ss) b table t set = elim (is_enough_in b table t set) [ true ↦ set | false ↦ taken_in ss b table t (cond (may_take_in b table t set s) (set ++ s ∷ []) set) ]

abbrev pub taken_of : List Spot → ClusterRecord → Master → Spot → List Spot → List Spot
taken_of ss c M t set = taken_in ss (board c M) M.table t set

-- a set without one of the grants at a spot
abbrev pub without_one : Spot → List Spot → List Spot
without_one s [] = []
without_one s (t ∷ ts) = cond (nat_eq s.job t.job && nat_eq s.unit t.unit) ts (t ∷ without_one s ts)

-- Victims: tried in the same order, each grant without which the rest is enough is left out
abbrev pub needed_in : List Spot → Board → Table → Spot → List Spot → List Spot
needed_in [] b table t set = set
needed_in (s ∷ ss) b table t set = needed_in ss b table t (cond (is_enough_in b table t (without_one s set)) (without_one s set) set)

abbrev pub needed_of : List Spot → ClusterRecord → Master → Spot → List Spot → List Spot
needed_of ss c M t set = needed_in ss (board c M) M.table t set

abbrev pub is_some_set : List Spot → Bool
is_some_set [] = false
is_some_set (s ∷ ss) = true

-- a pair has victims where what is taken is enough and not empty
abbrev pub victims_in : Board → Table → Spot → Option (List Spot)
victims_in b table t = let set = taken_in (walk_in b.priorities table t.machine) b table t [] in
    elim (is_enough_in b table t set && is_some_set set) [ true ↦ Some (needed_in set b table t set) | false ↦ None ]

abbrev pub victims : ClusterRecord → Master → Spot → Option (List Spot)
victims c M t = victims_in (board c M) M.table t

-- the waiting pairs by greater priority, and then by place in the line
abbrev pub falling_priorities : List ℕ
falling_priorities = 9 ∷ 8 ∷ 7 ∷ 6 ∷ 5 ∷ 4 ∷ 3 ∷ 2 ∷ 1 ∷ 0 ∷ []

abbrev pub by_priority_in : (ℕ → ℕ → ℕ) → List Pair → List Pair
by_priority_in priorities line = flat_map (λ n. filter (λ p. nat_eq (priorities p.0 p.1) n) line) falling_priorities

abbrev pub by_priority : Master → List Pair
by_priority M = by_priority_in (priority_of M.jobs) M.line

-- the candidates: each with every machine that accepts one more grant of it, the smaller machine first
abbrev pub tried_in : Board → Table → List Pair → List Spot
tried_in b table line = flat_map (λ p. map (spot p.0 p.1) (filter (accepts_in b table p.0 p.1) (below (length b.cluster.machines)))) (by_priority_in b.priorities line)

abbrev pub tried : ClusterRecord → Master → List Spot
tried c M = tried_in (board c M) M.table M.line

-- what is served, and its victims
pub record Plan : Type 0 where
  pub served : Spot
  pub losers : List Spot

abbrev pub first_plan_in : List Spot → Board → Table → Option Plan
first_plan_in [] b table = None
first_plan_in (s ∷ ss) b table = elim (victims_in b table s) [ None ↦ first_plan_in ss b table | Some vs ↦ Some (record { served = s; losers = vs }) ]

abbrev pub first_plan : List Spot → ClusterRecord → Master → Option Plan
first_plan ss c M = first_plan_in ss (board c M) M.table

abbrev pub plan_in : Board → Table → List Pair → Option Plan
plan_in b table line = first_plan_in (tried_in b table line) b table

abbrev pub plan_of : ClusterRecord → Master → Option Plan
plan_of c M = plan_in (board c M) M.table M.line

-- the victims go and one grant is made. The line is brought up to date, and the master settles, at the end of the step
abbrev pub preempted : Master → Plan → Master
preempted M p = record M { table = with_grant (without_grants M.table p.losers) p.served }
