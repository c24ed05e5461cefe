-- The groups that lose grants to another keep their quotas.
use Rattle.std.proofs.Common.{◌≡◌, ◌⊎◌, inl, inr, ℕ, ◌+◌, ◌≤◌, Bool, true, false, cond, nat_eq, List, [], ◌∷◌, ◌++◌, Some, refl, ap, subst, arith, not, nat_lt}
use Rattle.std.specs.Prelude.{◌&&◌}
use Rattle.std.proofs.lemmas.Bool.Decides.{nat_tests}
use Rattle.std.specs.List.{sum_by}
use Rattle.std.proofs.lemmas.List.Sums.{sum_by-cons, sum_by-append}
use Rattle.fuxi_terms.specs.Cluster.{ClusterRecord, quota_at}
use Rattle.fuxi_terms.specs.Keys.{Spot}
use Rattle.fuxi_terms.specs.Jobs.{size_at, group_of, priority_of}
use Rattle.fuxi_terms.specs.Tables.{usage_at}
use Rattle.fuxi_terms.proofs.Alls.{all_append, all_more}
use Rattle.fuxi_terms.proofs.Booleans.{both_true, either, either_case, number_is, nat_itself}
use Rattle.fuxi_terms.proofs.Members.{each_place}
use Rattle.spec_roles.specs.Masters.{Master}
use Rattle.spec_roles.specs.Preemption.{walk, is_enough, is_spared, is_guaranteed, may_take, taken_of, without_one, Plan, first_plan, part_at}
use Rattle.spec_roles.specs.Losses.{KeepsQuota, KeepsQuotas}
use Rattle.spec_roles.proofs.LossesLemmas.{fewer, all_fewer, needed_has, taken, plan_has}

abbrev group : Master → Spot → ℕ
group M s = group_of M.jobs s.job

abbrev IsSpared : ClusterRecord → Master → Spot → List Spot → Spot → Type 0
IsSpared c M t set s = (group M s ≡ group M t) ⊎ KeepsQuota c M set (group M s)

-- what is of a group in one grant
abbrev weight : Master → ℕ → ℕ → Spot → ℕ
weight M g i s = cond (nat_eq (group M s) g) (size_at M.jobs s.job s.unit i) 0

part_more : (M : Master) (g i : ℕ) (set : List Spot) (x : Spot) → part_at M.jobs g i (set ++ x ∷ []) ≡ part_at M.jobs g i set + weight M g i x
part_more M g i set x =
    let a = sum_by-append (weight M g i) set (x ∷ []) in
    let b = sum_by-cons (weight M g i) x [] in
    let z : sum_by (weight M g i) [] ≡ 0 = refl in
    omega (arith, a, b, z)

-- the group of a grant that is spared keeps its quota without it too
within : (u q p w : ℕ) → not (nat_lt u (q + p + w)) ≡ true → q + (p + w) ≤ u
within u q p w e = grind (arith, nat_tests, e)

spared_keeps : (c : ClusterRecord) (M : Master) (set : List Spot) (x : Spot) → is_spared c M set x ≡ true → KeepsQuota c M (set ++ x ∷ []) (group M x)
spared_keeps c M set x e = record {
  keeps = λ i lt.
      let g = group M x in
      let w : weight M g i x ≡ size_at M.jobs x.job x.unit i = ap (λ b. cond b (size_at M.jobs x.job x.unit i) 0) (nat_itself g) in
      let l = within (usage_at M.jobs g i M.table) (quota_at c g i) (part_at M.jobs g i set) (size_at M.jobs x.job x.unit i)
      (each_place c.resources (λ i. not (nat_lt (usage_at M.jobs g i M.table) (quota_at c g i + part_at M.jobs g i set + size_at M.jobs x.job x.unit i))) i e lt) in
      let p = part_more M g i set x in
      omega (arith, w, l, p);
}

-- a grant that may be taken is of the group that is served, or its group keeps its quota without it
taken_spared : (c : ClusterRecord) (M : Master) (t : Spot) (set : List Spot) (x : Spot) → may_take c M t set x ≡ true → IsSpared c M t (set ++ x ∷ []) x
taken_spared c M t set x e = by (nat_eq (group M x) (group M t)) refl e
  where
    by : (b : Bool) → nat_eq (group M x) (group M t) ≡ b → cond b (nat_lt (priority_of M.jobs x.job x.unit) (priority_of M.jobs t.job t.unit)) (is_spared c M set x && is_guaranteed c M t) ≡ true → IsSpared c M t (set ++ x ∷ []) x
    by true same e = inl (number_is (group M x) (group M t) same)
    by false same e = inr (spared_keeps c M set x (both_true (is_spared c M set x) (is_guaranteed c M t) e).0)

-- and so do the groups of those before it
spared_more : (c : ClusterRecord) (M : Master) (t : Spot) (set : List Spot) (x s : Spot) → IsSpared c M t (set ++ x ∷ []) x → IsSpared c M t set s → IsSpared c M t (set ++ x ∷ []) s
spared_more c M t set x s h (inl same) = inl same
spared_more c M t set x s h (inr k) = by (nat_eq (group M x) (group M s)) refl
  where
    by : (b : Bool) → nat_eq (group M x) (group M s) ≡ b → IsSpared c M t (set ++ x ∷ []) s
    by true e = subst (λ g. (g ≡ group M t) ⊎ KeepsQuota c M (set ++ x ∷ []) g) (number_is (group M x) (group M s) e) h
    by false e = inr (record {
      keeps = λ i lt.
          let l = k.keeps i lt in
          let w : weight M (group M s) i x ≡ 0 = ap (λ b. cond b (size_at M.jobs x.job x.unit i) 0) e in
          let p = part_more M (group M s) i set x in
          omega (arith, w, l, p);
    })

next_spared : (c : ClusterRecord) (M : Master) (t : Spot) (set : List Spot) (x : Spot) → KeepsQuotas c M t set → may_take c M t set x ≡ true → KeepsQuotas c M t (set ++ x ∷ [])
next_spared c M t set x h e =
    let new = taken_spared c M t set x e in
    record { each = all_append (IsSpared c M t (set ++ x ∷ [])) set (x ∷ []) (all_more (IsSpared c M t set) (IsSpared c M t (set ++ x ∷ [])) (λ s. spared_more c M t set x s new) set h.each) (new, tt) }

taken_quotas : (ss : List Spot) (c : ClusterRecord) (M : Master) (t : Spot) (set : List Spot) → KeepsQuotas c M t set → KeepsQuotas c M t (taken_of ss c M t set)
taken_quotas [] c M t set h = h
taken_quotas (x ∷ xs) c M t set h = either_case (KeepsQuotas c M t) (is_enough c M t set) set (taken_of xs c M t (cond (may_take c M t set x) (set ++ x ∷ []) set)) (λ _. h)
    (λ _. taken_quotas xs c M t (cond (may_take c M t set x) (set ++ x ∷ []) set) (either (KeepsQuotas c M t) (may_take c M t set x) (set ++ x ∷ []) set (next_spared c M t set x h) (λ _. h)))

-- a set with one left out takes no more of any group
fewer_spared : (c : ClusterRecord) (M : Master) (t x : Spot) (set : List Spot) → KeepsQuotas c M t set → KeepsQuotas c M t (without_one x set)
fewer_spared c M t x set h = record { each = all_fewer (IsSpared c M t (without_one x set)) x set (all_more (IsSpared c M t set) (IsSpared c M t (without_one x set)) less set h.each) }
  where
    less : (s : Spot) → IsSpared c M t set s → IsSpared c M t (without_one x set) s
    less s (inl same) = inl same
    less s (inr k) = inr (record { keeps = λ i lt. let l = k.keeps i lt in let f = fewer (weight M (group M s) i) x set in omega (arith, l, f) })

pub plan_spared : (ss : List Spot) (c : ClusterRecord) (M : Master) (p : Plan) → first_plan ss c M ≡ Some p → KeepsQuotas c M p.served p.losers
plan_spared ss c M p e = plan_has (KeepsQuotas c M) ss c M p (λ t _. needed_has (KeepsQuotas c M t) (taken c M t) c M t (taken c M t) (λ s set h _. fewer_spared c M t s set h) (taken_quotas (walk M t.machine) c M t [] (record { each = tt }))) e
