-- The losers of a preemption are single grants of the table, and what they leave has room for what is served.
use Rattle.std.proofs.Common.{◌≡◌, ℕ, zero, suc, ◌+◌, ◌≤◌, Bool, true, false, cond, nat_eq, List, [], ◌∷◌, ◌++◌, filter, Option, Some, None, refl, ◌∙◌, ap, subst, arith, not, nat_lt}
use Rattle.std.specs.Prelude.{◌&&◌, T}
use Rattle.std.proofs.lemmas.Bool.Decides.{nat_tests}
use Rattle.std.specs.Option.{unwrap_or}
use Rattle.std.specs.List.{AllByRecursion, flat_map, sum_by}
use Rattle.std.specs.Ordering.{eq_by_cmp}
use Rattle.std.specs.FinMap.Entries.{below_all, find, is_sorted}
use Rattle.std.proofs.lemmas.List.Sums.{sum_by-cons, sum_by-append}
use Rattle.fuxi_terms.specs.Cluster.{ClusterRecord, has_at, in_each_place}
use Rattle.fuxi_terms.specs.Keys.{Spot, spot_cmp}
use Rattle.fuxi_terms.specs.Counts.{count}
use Rattle.fuxi_terms.proofs.CountsLemmas.{both_true as both, tied, below_none}
use Rattle.fuxi_terms.specs.Jobs.{KnownJob, size_at}
use Rattle.spec_roles.specs.Masters.{Master}
use Rattle.spec_roles.specs.Preemption.{goes_before, put_grant, in_walk_order, so_many, walk, is_enough, may_take, taken_of, without_one, needed_of, is_some_set, victims, Plan, first_plan, set_at_place}
use Rattle.fuxi_terms.proofs.Alls.{all_append, all_passed}
use Rattle.fuxi_terms.proofs.Booleans.{both_true, either, number_is}
use Rattle.fuxi_terms.proofs.KeyOrders.{same_spot}
use Rattle.spec_roles.specs.Losses.{often, AreGrantsOn, IsLoss, one_if, LeavesRoom}
use Rattle.fuxi_terms.specs.Tables.{total_at, Table}
use Rattle.fuxi_terms.proofs.Members.{in_each_is}

-- what entries say of a spot
abbrev pub amount : Spot → Table → ℕ
amount s es = sum_by (λ e. cond (eq_by_cmp spot_cmp s e.0) e.1 0) es

often_many : (s : Spot) (n : ℕ) (t : Spot) → often s (so_many n t) ≡ cond (eq_by_cmp spot_cmp s t) n 0
often_many s zero t = let none : ℕ = 0 in elim (eq_by_cmp spot_cmp s t) as (λ b. none ≡ cond b none 0) [ true ↦ refl | false ↦ refl ]
often_many s (suc n) t =
    let rest = often_many s n t in
    rw (sum_by-cons (one_if s) t (so_many n t)) (elim (eq_by_cmp spot_cmp s t) as (λ b. often s (so_many n t) ≡ cond b n 0 → cond b 1 0 + often s (so_many n t) ≡ cond b (suc n) 0) [ true ↦ λ r. omega (arith, r) | false ↦ λ r. omega (arith, r) ] rest)

pub often_flat : (s : Spot) (es : Table) → often s (flat_map (λ e. so_many e.1 e.0) es) ≡ amount s es
often_flat s [] = refl
often_flat s (e ∷ es) =
    let rest = often_flat s es in
    let here = often_many s e.1 e.0 in
    let a = sum_by-append (one_if s) (so_many e.1 e.0) (flat_map (λ e. so_many e.1 e.0) es) in
    rw (sum_by-cons (λ (e : Spot × ℕ). cond (eq_by_cmp spot_cmp s e.0) e.1 0) e es) (omega (arith, rest, here, a))

put_amount : (jobs : List KnownJob) (s : Spot) (e : Spot × ℕ) (es : Table) → amount s (put_grant jobs e es) ≡ amount s (e ∷ es)
put_amount jobs s e [] = refl
put_amount jobs s e (f ∷ fs) =
    let g : Spot × ℕ → ℕ = λ e. cond (eq_by_cmp spot_cmp s e.0) e.1 0 in
    let rest = put_amount jobs s e fs in
    elim (goes_before jobs e.0 f.0) as (λ b. amount s (cond b (e ∷ f ∷ fs) (f ∷ put_grant jobs e fs)) ≡ amount s (e ∷ f ∷ fs)) [
      | true ↦ refl
      | false ↦
          let a = sum_by-cons g f (put_grant jobs e fs) in
          let b = sum_by-cons g e (f ∷ fs) in
          let c = sum_by-cons g f fs in
          let d = sum_by-cons g e fs in
          omega (arith, rest, a, b, c, d)
    ]

pub walk_amount : (jobs : List KnownJob) (s : Spot) (es : Table) → amount s (in_walk_order jobs es) ≡ amount s es
walk_amount jobs s [] = refl
walk_amount jobs s (e ∷ es) =
    let g : Spot × ℕ → ℕ = λ e. cond (eq_by_cmp spot_cmp s e.0) e.1 0 in
    let rest = walk_amount jobs s es in
    let here = put_amount jobs s e (in_walk_order jobs es) in
    let a = sum_by-cons g e (in_walk_order jobs es) in
    let b = sum_by-cons g e es in
    omega (arith, rest, here, a, b)

filter_amount : (s : Spot) (p : Spot × ℕ → Bool) (es : Table) → amount s (filter p es) ≤ amount s es
filter_amount s p [] = omega arith
filter_amount s p (e ∷ es) =
    let g : Spot × ℕ → ℕ = λ e. cond (eq_by_cmp spot_cmp s e.0) e.1 0 in
    let rest = filter_amount s p es in
    let b = sum_by-cons g e es in
    elim (p e) as (λ t. amount s (cond t (e ∷ filter p es) (filter p es)) ≤ amount s (e ∷ es)) [
      | true ↦ let a = sum_by-cons g e (filter p es) in omega (arith, rest, a, b)
      | false ↦ omega (arith, rest, b)
    ]

-- keys that rise stand once
pub table_amount : (s : Spot) (es : Table) → T (is_sorted spot_cmp es) → amount s es ≡ count spot_cmp es s
table_amount s [] k = refl
table_amount s (e ∷ es) k =
    let parts = both (below_all spot_cmp e.0 es) (is_sorted spot_cmp es) k in
    let rest = table_amount s es parts.1 in
    rw (sum_by-cons (λ (e : Spot × ℕ). cond (eq_by_cmp spot_cmp s e.0) e.1 0) e es)
    (elim (eq_by_cmp spot_cmp s e.0) as (λ b. eq_by_cmp spot_cmp s e.0 ≡ b → cond b e.1 0 + amount s es ≡ unwrap_or (cond b (Some e.1) (find spot_cmp s es)) 0) [
      | true ↦ λ t. let gone : count spot_cmp es s ≡ 0 = ap (λ q. count spot_cmp es q) (same_spot s e.0 (tied _ t)) ∙ ap (λ o. unwrap_or o 0) (below_none spot_cmp e.0 es parts.0) in omega (arith, rest, gone)
      | false ↦ λ _. omega (arith, rest)
    ] refl)

walk_on : (jobs : List KnownJob) (m : ℕ) (es : Table) → AllByRecursion (λ e. e.0.machine ≡ m) es → AllByRecursion (λ s. s.machine ≡ m) (flat_map (λ e. so_many e.1 e.0) (in_walk_order jobs es))
walk_on jobs m es h = flat (in_walk_order jobs es) (ordered es h)
  where
    put_on : (e : Spot × ℕ) (fs : Table) → e.0.machine ≡ m → AllByRecursion (λ e. e.0.machine ≡ m) fs → AllByRecursion (λ e. e.0.machine ≡ m) (put_grant jobs e fs)
    put_on e [] x k = (x, tt)
    put_on e (f ∷ fs) x k = elim (goes_before jobs e.0 f.0) as (λ b. AllByRecursion (λ e. e.0.machine ≡ m) (cond b (e ∷ f ∷ fs) (f ∷ put_grant jobs e fs))) [ true ↦ (x, k) | false ↦ (k.0, put_on e fs x k.1) ]

    ordered : (es : Table) → AllByRecursion (λ e. e.0.machine ≡ m) es → AllByRecursion (λ e. e.0.machine ≡ m) (in_walk_order jobs es)
    ordered [] k = tt
    ordered (e ∷ es) k = put_on e (in_walk_order jobs es) k.0 (ordered es k.1)

    many : (n : ℕ) (s : Spot) → s.machine ≡ m → AllByRecursion (λ (s : Spot). s.machine ≡ m) (so_many n s)
    many zero s x = tt
    many (suc n) s x = (x, many n s x)

    flat : (es : Table) → AllByRecursion (λ e. e.0.machine ≡ m) es → AllByRecursion (λ (s : Spot). s.machine ≡ m) (flat_map (λ e. so_many e.1 e.0) es)
    flat [] k = tt
    flat (e ∷ es) k = all_append (λ (s : Spot). s.machine ≡ m) (so_many e.1 e.0) (flat_map (λ e. so_many e.1 e.0) es) (many e.1 e.0 k.0) (flat es k.1)

walk_drawn : (M : Master) (m : ℕ) → T (is_sorted spot_cmp M.table) → AreGrantsOn M.table m (walk M m)
walk_drawn M m k = record {
  few = λ s.
      let here = filter (λ (e : Spot × ℕ). nat_eq e.0.machine m) M.table in
      let a = often_flat s (in_walk_order M.jobs here) in
      let b = walk_amount M.jobs s here in
      let c = filter_amount s (λ e. nat_eq e.0.machine m) M.table in
      let d = table_amount s M.table k in
      omega (arith, a, b, c, d);
  on = walk_on M.jobs m (filter (λ e. nat_eq e.0.machine m) M.table) (all_passed (λ (e : Spot × ℕ). e.0.machine ≡ m) (λ e. nat_eq e.0.machine m) M.table (λ e t. number_is e.0.machine m t));
}

nothing_in : (s : Spot) → often s [] ≡ 0
nothing_in s = refl

-- what is taken of a walk is drawn where the walk is
taken_drawn : (ss : List Spot) (c : ClusterRecord) (M : Master) (t : Spot) (m : ℕ) (set : List Spot) → ((s : Spot) → often s set + often s ss ≤ count spot_cmp M.table s) → AllByRecursion (λ s. s.machine ≡ m) set → AllByRecursion (λ s. s.machine ≡ m) ss → AreGrantsOn M.table m (taken_of ss c M t set)
taken_drawn [] c M t m set few on more = record { few = λ s. let f = few s in let z = nothing_in s in omega (arith, f, z); on = on }
taken_drawn (x ∷ xs) c M t m set few on more = elim (is_enough c M t set) as (λ b. AreGrantsOn M.table m (elim b as (λ _. List Spot) [ true ↦ set | false ↦ taken_of xs c M t (cond (may_take c M t set x) (set ++ x ∷ []) set) ])) [
  | true ↦ record { few = λ s. let f = few s in let n : ℕ = often s (x ∷ xs) in omega (arith, f); on = on }
  | false ↦ elim (may_take c M t set x) as (λ d. AreGrantsOn M.table m (taken_of xs c M t (cond d (set ++ x ∷ []) set))) [
    | true ↦ taken_drawn xs c M t m (set ++ x ∷ []) (λ s. let f = few s in let a = sum_by-append (one_if s) set (x ∷ []) in let b = sum_by-cons (one_if s) x [] in let d = sum_by-cons (one_if s) x xs in let z = nothing_in s in omega (arith, f, a, b, d, z))
        (all_append (λ (s : Spot). s.machine ≡ m) set (x ∷ []) on (more.0, tt)) more.1
    | false ↦ taken_drawn xs c M t m set (λ s. let f = few s in let d = sum_by-cons (one_if s) x xs in omega (arith, f, d)) on more.1
  ]
]

-- leaving one out makes no sum greater, and leaves none that was not there
pub fewer : (f : Spot → ℕ) (t : Spot) (set : List Spot) → sum_by f (without_one t set) ≤ sum_by f set
fewer f t [] = omega arith
fewer f t (x ∷ xs) =
    let rest = fewer f t xs in
    let a = sum_by-cons f x xs in
    elim (nat_eq t.job x.job && nat_eq t.unit x.unit) as (λ b. sum_by f (cond b xs (x ∷ without_one t xs)) ≤ sum_by f (x ∷ xs)) [
      | true ↦ omega (arith, a)
      | false ↦ let d = sum_by-cons f x (without_one t xs) in omega (arith, a, d, rest)
    ]

pub all_fewer : (P : Spot → Type 0) (t : Spot) (set : List Spot) → AllByRecursion P set → AllByRecursion P (without_one t set)
all_fewer P t [] h = tt
all_fewer P t (x ∷ xs) h = elim (nat_eq t.job x.job && nat_eq t.unit x.unit) as (λ b. AllByRecursion P (cond b xs (x ∷ without_one t xs))) [ true ↦ h.1 | false ↦ (h.0, all_fewer P t xs h.1) ]

-- what a set has, and keeps where one is left out and the rest is enough, is left at the end
pub needed_has : (P : List Spot → Type 0) (ss : List Spot) (c : ClusterRecord) (M : Master) (t : Spot) (set : List Spot) → ((s : Spot) (set : List Spot) → P set → is_enough c M t (without_one s set) ≡ true → P (without_one s set)) → P set → P (needed_of ss c M t set)
needed_has P [] c M t set f h = h
needed_has P (s ∷ ss) c M t set f h = needed_has P ss c M t (cond (is_enough c M t (without_one s set)) (without_one s set) set) f
    (either P (is_enough c M t (without_one s set)) (without_one s set) set (f s set h) (λ _. h))

fewer_loss : (c : ClusterRecord) (M : Master) (t s : Spot) (set : List Spot) → IsLoss c M t set → is_enough c M t (without_one s set) ≡ true → IsLoss c M t (without_one s set)
fewer_loss c M t s set h e = record {
  drawn = record { few = λ q. let f = h.drawn.few q in let l = fewer (one_if q) s set in omega (arith, f, l); on = all_fewer (λ (s : Spot). s.machine ≡ t.machine) s set h.drawn.on };
  enough = e;
}

-- what is taken for a pair, before any is left out
abbrev pub taken : ClusterRecord → Master → Spot → List Spot
taken c M t = taken_of (walk M t.machine) c M t []

-- the losers of the first plan have what is left of a taken set that is enough
pub plan_has : (P : Spot → List Spot → Type 0) (ss : List Spot) (c : ClusterRecord) (M : Master) (p : Plan) → ((t : Spot) → is_enough c M t (taken c M t) ≡ true → P t (needed_of (taken c M t) c M t (taken c M t))) → first_plan ss c M ≡ Some p → P p.served p.losers
plan_has P [] c M p h e = cc
plan_has P (s ∷ ss) c M p h e = elim (victims c M s) as (λ o. victims c M s ≡ o → (elim o as (λ _. Option Plan) [ None ↦ first_plan ss c M | Some vs ↦ Some (record { served = s; losers = vs }) ]) ≡ Some p → P p.served p.losers) [
  | None ↦ λ _ e. plan_has P ss c M p h e
  | Some vs ↦ λ v e. served vs v e
] refl e
  where
    plan : List Spot → Plan
    plan vs = record { served = s; losers = vs }

    set : List Spot
    set = taken c M s

    by : (vs : List Spot) (b : Bool) → (is_enough c M s set && is_some_set set) ≡ b → (elim b as (λ _. Option (List Spot)) [ true ↦ Some (needed_of set c M s set) | false ↦ None ]) ≡ Some vs → P s vs
    by vs true b e = let same : needed_of set c M s set ≡ vs = cc in subst (P s) same (h s (both_true (is_enough c M s set) (is_some_set set) b).0)
    by vs false b e = cc

    served : (vs : List Spot) → victims c M s ≡ Some vs → Some (plan vs) ≡ Some p → P p.served p.losers
    served vs v e = let same : plan vs ≡ p = cc in subst (λ (q : Plan). P q.served q.losers) same (by vs (is_enough c M s set && is_some_set set) refl v)

-- they are grants of the table, and enough
pub plan_loss : (ss : List Spot) (c : ClusterRecord) (M : Master) (p : Plan) → T (is_sorted spot_cmp M.table) → first_plan ss c M ≡ Some p → IsLoss c M p.served p.losers
plan_loss ss c M p k e = plan_has (IsLoss c M) ss c M p (λ t enough. needed_has (IsLoss c M t) (taken c M t) c M t (taken c M t) (λ s set. fewer_loss c M t s set) (record { drawn = drawn t; enough = enough })) e
  where
    drawn : (t : Spot) → AreGrantsOn M.table t.machine (taken c M t)
    drawn t = let w = walk_drawn M t.machine k in taken_drawn (walk M t.machine) c M t t.machine [] (λ s. let f = w.few s in omega (arith, f)) tt w.on

-- and so there is room
pub loss_room : (c : ClusterRecord) (M : Master) (t : Spot) (set : List Spot) → IsLoss c M t set → LeavesRoom c M t set
loss_room c M t set l = record {
  room = λ i lt.
      let fits : ℕ → Bool = λ i. not (nat_lt (has_at c t.machine i + set_at_place M.jobs i set) (total_at M.jobs t.machine i M.table + size_at M.jobs t.job t.unit i)) in
      let e = in_each_is c (size_at M.jobs t.job t.unit) fits i (both_true (in_each_place c (size_at M.jobs t.job t.unit) fits) _ l.enough).0 lt in
      grind (arith, nat_tests, e);
}
