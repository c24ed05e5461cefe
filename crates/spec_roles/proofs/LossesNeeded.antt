-- The losers of a preemption are all needed.
use Rattle.std.proofs.Common.{◌≡◌, ◌⊎◌, inl, inr, ℕ, ◌+◌, ◌-◌, ◌≤◌, Bool, true, false, cond, nat_eq, List, [], ◌∷◌, Some, refl, ◌∙◌, ap, subst, arith, not, nat_lt}
use Rattle.std.specs.Prelude.{◌&&◌}
use Rattle.std.proofs.lemmas.Bool.Decides.{nat_tests}
use Rattle.std.specs.List.{AllByRecursion, sum_by}
use Rattle.std.proofs.lemmas.List.Sums.{sum_by-cons}
use Rattle.fuxi_terms.specs.Cluster.{ClusterRecord, has_at, limit_at, in_each, in_each_place, is_narrow}
use Rattle.fuxi_terms.specs.Keys.{Spot}
use Rattle.fuxi_terms.specs.Jobs.{size_at, group_of}
use Rattle.fuxi_terms.specs.Tables.{total_at, usage_at}
use Rattle.fuxi_terms.proofs.Booleans.{both_true, and_true, number_is, nat_itself}
use Rattle.fuxi_terms.proofs.Members.{each_place, each_from}
use Rattle.spec_roles.specs.Masters.{Master}
use Rattle.spec_roles.specs.Preemption.{is_enough, without_one, needed_of, Plan, first_plan, set_at_place, part_at}
use Rattle.spec_roles.specs.Losses.{IsNeeded}
use Rattle.spec_roles.proofs.LossesLemmas.{fewer, taken, plan_has}

-- a set whose every sum is at least as great is enough too
more_left : (h a b n : ℕ) → a ≤ b → not (nat_lt (h + a) n) ≡ true → not (nat_lt (h + b) n) ≡ true
more_left h a b n le e = grind (arith, nat_tests, le, e)

enough_more : (c : ClusterRecord) (M : Master) (t : Spot) (xs ys : List Spot) → ((f : Spot → ℕ) → sum_by f xs ≤ sum_by f ys) → is_enough c M t xs ≡ true → is_enough c M t ys ≡ true
enough_more c M t xs ys le e =
    and_true (in_each_place c size (fits ys)) (in_each c (stays ys))
    (and_true (is_narrow c size) (in_each c (fits ys)) first.0
    (each_from c.resources (fits ys) (λ i lt. more_left (has_at c t.machine i) (set_at_place M.jobs i xs) (set_at_place M.jobs i ys) (total_at M.jobs t.machine i M.table + size i) (le (λ s. size_at M.jobs s.job s.unit i)) (each_place c.resources (fits xs) i first.1 lt))))
    (each_from c.resources (stays ys) (λ i lt. more_left (limit_at c g i) (part_at M.jobs g i xs) (part_at M.jobs g i ys) (usage_at M.jobs g i M.table + size i) (le (λ s. cond (nat_eq (group_of M.jobs s.job) g) (size_at M.jobs s.job s.unit i) 0)) (each_place c.resources (stays xs) i parts.1 lt)))
  where
    g : ℕ
    g = group_of M.jobs t.job

    size : ℕ → ℕ
    size i = size_at M.jobs t.job t.unit i

    fits : List Spot → ℕ → Bool
    fits set i = not (nat_lt (has_at c t.machine i + set_at_place M.jobs i set) (total_at M.jobs t.machine i M.table + size i))

    stays : List Spot → ℕ → Bool
    stays set i = not (nat_lt (limit_at c g i + part_at M.jobs g i set) (usage_at M.jobs g i M.table + size i))

    parts : (in_each_place c size (fits xs) ≡ true) × (in_each c (stays xs) ≡ true)
    parts = both_true (in_each_place c size (fits xs)) (in_each c (stays xs)) e

    first : (is_narrow c size ≡ true) × (in_each c (fits xs) ≡ true)
    first = both_true (is_narrow c size) (in_each c (fits xs)) parts.0

not_enough : (c : ClusterRecord) (M : Master) (t : Spot) (xs ys : List Spot) → ((f : Spot → ℕ) → sum_by f xs ≤ sum_by f ys) → is_enough c M t ys ≡ false → is_enough c M t xs ≡ false
not_enough c M t xs ys le e = by (is_enough c M t xs) refl
  where
    by : (b : Bool) → is_enough c M t xs ≡ b → is_enough c M t xs ≡ false
    by false is = is
    by true is = let f : is_enough c M t ys ≡ true = enough_more c M t xs ys le is in absurd (let g : ⊥ = cc in g)

-- leaving out another one first makes no sum greater
fewer_after : (f : Spot → ℕ) (s u : Spot) (set : List Spot) → sum_by f (without_one s (without_one u set)) ≤ sum_by f (without_one s set)
fewer_after f s u [] = omega arith
fewer_after f s u (x ∷ xs) =
    let rest = fewer_after f s u xs in
    elim (nat_eq u.job x.job && nat_eq u.unit x.unit) as (λ b. sum_by f (without_one s (cond b xs (x ∷ without_one u xs))) ≤ sum_by f (without_one s (x ∷ xs))) [
      | true ↦
          let l = fewer f s xs in
          elim (nat_eq s.job x.job && nat_eq s.unit x.unit) as (λ d. sum_by f (without_one s xs) ≤ sum_by f (cond d xs (x ∷ without_one s xs))) [
            | true ↦ l
            | false ↦ let a = sum_by-cons f x (without_one s xs) in omega (arith, a)
          ]
      | false ↦
          let l = fewer f u xs in
          elim (nat_eq s.job x.job && nat_eq s.unit x.unit) as (λ d. sum_by f (cond d (without_one u xs) (x ∷ without_one s (without_one u xs))) ≤ sum_by f (cond d xs (x ∷ without_one s xs))) [
            | true ↦ l
            | false ↦ let a = sum_by-cons f x (without_one s xs) in let b = sum_by-cons f x (without_one s (without_one u xs)) in omega (arith, a, b, rest)
          ]
    ]

-- how often a unit stands in a set of grants on one machine
abbrev one_unit : Spot → Spot → ℕ
one_unit s x = cond (nat_eq s.job x.job && nat_eq s.unit x.unit) 1 0

abbrev times : Spot → List Spot → ℕ
times s set = sum_by (one_unit s) set

-- spots of the same unit are left out alike
same_left : (s x : Spot) (set : List Spot) → (nat_eq s.job x.job && nat_eq s.unit x.unit) ≡ true → without_one s set ≡ without_one x set
same_left s x [] e = refl
same_left s x (y ∷ ys) e =
    let b = both_true (nat_eq s.job x.job) (nat_eq s.unit x.unit) e in
    let j : s.job ≡ x.job = number_is s.job x.job b.0 in
    let u : s.unit ≡ x.unit = number_is s.unit x.unit b.1 in
    let t : (nat_eq s.job y.job && nat_eq s.unit y.unit) ≡ (nat_eq x.job y.job && nat_eq x.unit y.unit) = cc in
    let r = same_left s x ys e in
    cc

itself : (s : Spot) → (nat_eq s.job s.job && nat_eq s.unit s.unit) ≡ true
itself s = and_true (nat_eq s.job s.job) (nat_eq s.unit s.unit) (nat_itself s.job) (nat_itself s.unit)

-- leaving out one of a unit leaves one fewer of it, if there is any
one_fewer : (s : Spot) (set : List Spot) → times s (without_one s set) ≤ times s set - 1
one_fewer s [] = omega arith
one_fewer s (x ∷ xs) =
    let rest = one_fewer s xs in
    let a = sum_by-cons (one_unit s) x xs in
    rw a (elim (nat_eq s.job x.job && nat_eq s.unit x.unit) as (λ b. (nat_eq s.job x.job && nat_eq s.unit x.unit) ≡ b → times s (cond b xs (x ∷ without_one s xs)) ≤ cond b 1 0 + times s xs - 1) [
      | true ↦ λ _. omega arith
      | false ↦ λ e. let d = sum_by-cons (one_unit s) x (without_one s xs) in let z : one_unit s x ≡ 0 = ap (λ b. cond b 1 0) e in omega (arith, rest, d, z)
    ] refl)

-- a spot is needed, or all of its unit are still to be tried
abbrev Settled : ClusterRecord → Master → Spot → List Spot → List Spot → Spot → Type 0
Settled c M t ss set s = (times s set ≤ times s ss) ⊎ (is_enough c M t (without_one s set) ≡ false)

settled_next : (c : ClusterRecord) (M : Master) (t x : Spot) (ss set : List Spot) (s : Spot) → Settled c M t (x ∷ ss) set s → Settled c M t ss (cond (is_enough c M t (without_one x set)) (without_one x set) set) s
settled_next c M t x ss set s h = by (is_enough c M t (without_one x set)) refl (nat_eq s.job x.job && nat_eq s.unit x.unit) refl h
  where
    by : (b : Bool) → is_enough c M t (without_one x set) ≡ b → (d : Bool) → (nat_eq s.job x.job && nat_eq s.unit x.unit) ≡ d → Settled c M t (x ∷ ss) set s → Settled c M t ss (cond b (without_one x set) set) s
    by true e d same (inr f) = inr (not_enough c M t (without_one s (without_one x set)) (without_one s set) (λ f. fewer_after f s x set) f)
    by false e d same (inr f) = inr f
    by true e true same (inl le) =
        let a = sum_by-cons (one_unit s) x ss in
        let o : one_unit s x ≡ 1 = ap (λ b. cond b 1 0) same in
        let l : times s (without_one x set) ≤ times s set - 1 = subst (λ r. times s r ≤ times s set - 1) (same_left s x set same) (one_fewer s set) in
        inl (omega (arith, a, o, l, le))
    by true e false same (inl le) =
        let a = sum_by-cons (one_unit s) x ss in
        let o : one_unit s x ≡ 0 = ap (λ b. cond b 1 0) same in
        let l = fewer (one_unit s) x set in
        inl (omega (arith, a, o, l, le))
    by false e true same (inl le) = inr (ap (is_enough c M t) (same_left s x set same) ∙ e)
    by false e false same (inl le) =
        let a = sum_by-cons (one_unit s) x ss in
        let o : one_unit s x ≡ 0 = ap (λ b. cond b 1 0) same in
        inl (omega (arith, a, o, le))

settled_all : (ss : List Spot) (c : ClusterRecord) (M : Master) (t : Spot) (set : List Spot) → ((s : Spot) → Settled c M t ss set s) → (s : Spot) → Settled c M t [] (needed_of ss c M t set) s
settled_all [] c M t set h s = h s
settled_all (x ∷ ss) c M t set h s = settled_all ss c M t (cond (is_enough c M t (without_one x set)) (without_one x set) set) (λ s. settled_next c M t x ss set s (h s)) s

each_settled : (c : ClusterRecord) (M : Master) (t : Spot) (set xs : List Spot) → ((s : Spot) → Settled c M t [] set s) → ((s : Spot) → times s xs ≤ times s set) → AllByRecursion (λ s. is_enough c M t (without_one s set) ≡ false) xs
each_settled c M t set [] h le = tt
each_settled c M t set (x ∷ xs) h le = (here (h x), each_settled c M t set xs h (λ s. let l = le s in let a = sum_by-cons (one_unit s) x xs in omega (arith, l, a)))
  where
    here : Settled c M t [] set x → is_enough c M t (without_one x set) ≡ false
    here (inr f) = f
    here (inl none) =
        let z : times x [] ≡ 0 = refl in
        let l = le x in
        let a = sum_by-cons (one_unit x) x xs in
        let o : one_unit x x ≡ 1 = ap (λ b. cond b 1 0) (itself x) in
        absurd (omega (arith, none, z, l, a, o))

pub plan_needed : (ss : List Spot) (c : ClusterRecord) (M : Master) (p : Plan) → first_plan ss c M ≡ Some p → IsNeeded c M p.served p.losers
plan_needed ss c M p e = plan_has (IsNeeded c M) ss c M p (λ t _. record { each = left t }) e
  where
    left : (t : Spot) → AllByRecursion (λ s. is_enough c M t (without_one s (needed_of (taken c M t) c M t (taken c M t))) ≡ false) (needed_of (taken c M t) c M t (taken c M t))
    left t = let set = needed_of (taken c M t) c M t (taken c M t) in each_settled c M t set set (settled_all (taken c M t) c M t (taken c M t) (λ s. inl (omega arith))) (λ s. omega arith)
