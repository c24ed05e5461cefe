-- Losers are taken by priority and by quota, and leave the group that is served within its limit.
use Rattle.std.proofs.Common.{◌≡◌, ◌⊎◌, inl, inr, ℕ, ◌+◌, ◌<◌, ◌≤◌, Bool, true, false, cond, not, nat_eq, nat_lt, List, [], ◌∷◌, ◌++◌, Some, refl, arith}
use Rattle.std.specs.Prelude.{◌&&◌}
use Rattle.std.specs.List.{AllByRecursion}
use Rattle.std.proofs.lemmas.Bool.Decides.{nat_tests}
use Rattle.fuxi_terms.specs.Cluster.{ClusterRecord, has_at, limit_at, quota_at, in_each, in_each_place}
use Rattle.fuxi_terms.specs.Jobs.{size_at, group_of, priority_of}
use Rattle.fuxi_terms.specs.Keys.{Spot}
use Rattle.fuxi_terms.specs.Tables.{total_at, usage_at}
use Rattle.fuxi_terms.proofs.Alls.{all_append}
use Rattle.fuxi_terms.proofs.Booleans.{both_true, either, either_case, number_is}
use Rattle.fuxi_terms.proofs.Members.{each_place, in_each_is}
use Rattle.spec_roles.specs.Masters.{Master}
use Rattle.spec_roles.specs.Preemption.{walk, is_enough, is_spared, is_guaranteed, may_take, taken_of, Plan, first_plan, part_at, set_at_place}
use Rattle.spec_roles.specs.Losses.{KeepsQuota}
use Rattle.spec_roles.specs.TakenByQuota.{HasQuotaLeft, IsTakenByQuota, AreTakenByQuota}
use Rattle.spec_roles.proofs.LossesLemmas.{all_fewer, needed_has, taken, plan_has}
use Rattle.spec_roles.proofs.LossesSpared.{plan_spared}

-- by what right one grant is taken, whatever the others are
record IsRightful (c : ClusterRecord) (M : Master) (t s : Spot) : Type 0 where
  own : group_of M.jobs s.job ≡ group_of M.jobs t.job → priority_of M.jobs s.job s.unit < priority_of M.jobs t.job t.unit
  other : (group_of M.jobs s.job ≡ group_of M.jobs t.job → ⊥) → HasQuotaLeft c M t

quota_left : (c : ClusterRecord) (M : Master) (t : Spot) → is_guaranteed c M t ≡ true → HasQuotaLeft c M t
quota_left c M t e = record {
  within = λ i lt.
      let g = group_of M.jobs t.job in
      let k = in_each_is c (size_at M.jobs t.job t.unit) (λ i. not (nat_lt (quota_at c g i) (usage_at M.jobs g i M.table + size_at M.jobs t.job t.unit i))) i e lt in
      grind (arith, nat_tests, k);
}

may_rightful : (c : ClusterRecord) (M : Master) (t : Spot) (set : List Spot) (x : Spot) → may_take c M t set x ≡ true → IsRightful c M t x
may_rightful c M t set x e = by (nat_eq (group_of M.jobs x.job) (group_of M.jobs t.job)) refl e
  where
    by : (b : Bool) → nat_eq (group_of M.jobs x.job) (group_of M.jobs t.job) ≡ b → cond b (nat_lt (priority_of M.jobs x.job x.unit) (priority_of M.jobs t.job t.unit)) (is_spared c M set x && is_guaranteed c M t) ≡ true → IsRightful c M t x
    by true same e = record { own = λ _. grind (arith, nat_tests, e); other = λ apart. absurd (apart (number_is (group_of M.jobs x.job) (group_of M.jobs t.job) same)) }
    by false apart e = record { own = λ same. absurd (let f : nat_eq (group_of M.jobs x.job) (group_of M.jobs t.job) ≡ true = grind (arith, nat_tests, same) in let g : ⊥ = cc in g); other = λ _. quota_left c M t (both_true (is_spared c M set x) (is_guaranteed c M t) e).1 }

taken_rightful : (ss : List Spot) (c : ClusterRecord) (M : Master) (t : Spot) (set : List Spot) → AllByRecursion (IsRightful c M t) set → AllByRecursion (IsRightful c M t) (taken_of ss c M t set)
taken_rightful [] c M t set h = h
taken_rightful (x ∷ xs) c M t set h = either_case (AllByRecursion (IsRightful c M t)) (is_enough c M t set) set (taken_of xs c M t (cond (may_take c M t set x) (set ++ x ∷ []) set)) (λ _. h)
    (λ _. taken_rightful xs c M t (cond (may_take c M t set x) (set ++ x ∷ []) set) (either (AllByRecursion (IsRightful c M t)) (may_take c M t set x) (set ++ x ∷ []) set
    (λ e. all_append (IsRightful c M t) set (x ∷ []) h (may_rightful c M t set x e, tt)) (λ _. h)))

-- a set that is rightful and enough
record IsRightfulSet (c : ClusterRecord) (M : Master) (t : Spot) (set : List Spot) : Type 0 where
  each : AllByRecursion (IsRightful c M t) set
  enough : is_enough c M t set ≡ true

plan_rightful : (ss : List Spot) (c : ClusterRecord) (M : Master) (p : Plan) → first_plan ss c M ≡ Some p → IsRightfulSet c M p.served p.losers
plan_rightful ss c M p e = plan_has (IsRightfulSet c M) ss c M p (λ t enough. needed_has (IsRightfulSet c M t) (taken c M t) c M t (taken c M t) (λ s set h e. record { each = all_fewer (IsRightful c M t) s set h.each; enough = e })
    (record { each = taken_rightful (walk M t.machine) c M t [] tt; enough = enough })) e

-- and its limit is kept
within_limit : (c : ClusterRecord) (M : Master) (t : Spot) (set : List Spot) → is_enough c M t set ≡ true → (i : ℕ) → i < c.resources
    → usage_at M.jobs (group_of M.jobs t.job) i M.table + size_at M.jobs t.job t.unit i ≤ limit_at c (group_of M.jobs t.job) i + part_at M.jobs (group_of M.jobs t.job) i set
within_limit c M t set e i lt =
    let g = group_of M.jobs t.job in
    let fits : ℕ → Bool = λ i. not (nat_lt (has_at c t.machine i + set_at_place M.jobs i set) (total_at M.jobs t.machine i M.table + size_at M.jobs t.job t.unit i)) in
    let keeps : ℕ → Bool = λ i. not (nat_lt (limit_at c g i + part_at M.jobs g i set) (usage_at M.jobs g i M.table + size_at M.jobs t.job t.unit i)) in
    let k = each_place c.resources keeps i (both_true (in_each_place c (size_at M.jobs t.job t.unit) fits) (in_each c keeps) e).1 lt in
    grind (arith, nat_tests, k)

joined : (c : ClusterRecord) (M : Master) (t : Spot) (set ss : List Spot) → AllByRecursion (IsRightful c M t) ss → AllByRecursion (λ s. (group_of M.jobs s.job ≡ group_of M.jobs t.job) ⊎ KeepsQuota c M set (group_of M.jobs s.job)) ss → AllByRecursion (IsTakenByQuota c M t set) ss
joined c M t set [] h k = tt
joined c M t set (s ∷ ss) h k = (one k.0, joined c M t set ss h.1 k.1)
  where
    one : (group_of M.jobs s.job ≡ group_of M.jobs t.job) ⊎ KeepsQuota c M set (group_of M.jobs s.job) → IsTakenByQuota c M t set s
    one (inl same) = record { own = h.0.own; other = λ apart. absurd (apart same) }
    one (inr keeps) = record { own = h.0.own; other = λ apart. (keeps, h.0.other apart) }

pub plan_by_quota : (ss : List Spot) (c : ClusterRecord) (M : Master) (p : Plan) → first_plan ss c M ≡ Some p → AreTakenByQuota c M p.served p.losers
plan_by_quota ss c M p e =
    let r = plan_rightful ss c M p e in
    record { each = joined c M p.served p.losers p.losers r.each (plan_spared ss c M p e).each; limit = within_limit c M p.served p.losers r.enough }
