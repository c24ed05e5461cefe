-- The pair that is placed comes first by its four numbers.
use Rattle.std.proofs.Common.{◌≡◌, ◌⊎◌, inl, inr, ℕ, zero, suc, ◌-◌, ◌<◌, ◌≤◌, Bool, true, false, cond, nat_eq, nat_lt, List, [], ◌∷◌, length, Some, slice_get, refl, arith}
use Rattle.std.specs.Option.{unwrap_or, option_map}
use Rattle.std.specs.List.{AllByRecursion, list_all}
use Rattle.std.specs.Ordering.{nat_cmp, is_lt, ordering_then}
use Rattle.std.specs.Cmp.Lexicographic.{slice_cmp}
use Rattle.std.specs.declared.cmp.Ordering.{Ordering}
use Rattle.std.specs.declared.cmp.Ordering.TheVariants.{Less, Equal, Greater}
use Rattle.std.proofs.lemmas.Bool.Decides.{nat_tests}
use Rattle.fuxi_terms.specs.Cluster.{ClusterRecord, UnitRecord, is_valid_job, is_valid_unit, is_between, is_priority}
use Rattle.fuxi_terms.specs.Jobs.{KnownJob, job_of, no_unit, priority_of}
use Rattle.fuxi_terms.specs.Keys.{Spot}
use Rattle.fuxi_terms.proofs.Booleans.{both_true}
use Rattle.fuxi_terms.proofs.ValidJobs.{units_valid}
use Rattle.spec_roles.specs.Masters.{Master}
use Rattle.spec_roles.specs.Placing.{first_placeable}
use Rattle.spec_roles.specs.PlacedInOrder.{AreValid, Precedence, precedence, IsNotBefore, IsPlacedInOrder}
use Rattle.spec_roles.proofs.PlacingFirst.{placed_first}

-- Priorities of valid jobs
unit_priority : (us : List UnitRecord) (u : ℕ) → list_all (is_valid_unit 8) us ≡ true → (unwrap_or (slice_get us u) no_unit).priority ≤ 9
unit_priority [] u h = omega arith
unit_priority (x ∷ xs) zero h = let t : nat_lt x.priority 10 ≡ true = (both_true (is_priority x.priority) _ (both_true (is_valid_unit 8 x) _ h).0).0 in grind (arith, nat_tests, t)
unit_priority (x ∷ xs) (suc u) h = unit_priority xs u (both_true (is_valid_unit 8 x) _ h).1

job_priority : (jobs : List KnownJob) → AllByRecursion (λ k. is_valid_job 8 k.job ≡ true) jobs → (a u : ℕ) → priority_of jobs a u ≤ 9
job_priority [] h a u = omega arith
job_priority (k ∷ ks) h a u = elim (nat_eq k.job.number a) as (λ b. (unwrap_or (slice_get (unwrap_or (option_map (λ (j : KnownJob). j.job.units) (cond b (Some k) (job_of ks a))) []) u) no_unit).priority ≤ 9) [
  | true ↦ unit_priority k.job.units u (both_true (is_between 1 8 (length k.job.units)) (list_all (is_valid_unit 8) k.job.units) (units_valid k.job h.0)).1
  | false ↦ job_priority ks h.1 a u
]

pub valid_priority : (jobs : List KnownJob) → AreValid jobs → (a u : ℕ) → priority_of jobs a u ≤ 9
valid_priority jobs v a u = job_priority jobs v.each a u

-- What is not less by a list of numbers is not less by its first one, or by the rest
tests : (x y : ℕ) (s t : Bool) → nat_lt x y ≡ s → nat_eq x y ≡ t → (r : Ordering) → is_lt (ordering_then (cond s Less (cond t Equal Greater)) r) ≡ false → (y < x) ⊎ ((x ≡ y) × (is_lt r ≡ false))
tests x y true t e f r h = cc
tests x y false true e f r h = inr (grind (arith, nat_tests, f), h)
tests x y false false e f r h = inl (grind (arith, nat_tests, e, f))

split : (x y : ℕ) (r : Ordering) → is_lt (ordering_then (nat_cmp x y) r) ≡ false → (y < x) ⊎ ((x ≡ y) × (is_lt r ≡ false))
split x y r h = tests x y (nat_lt x y) (nat_eq x y) refl refl r h

-- the four numbers, with priorities of at most 9
module _ (x y : Precedence) where
  by_machine : is_lt (slice_cmp nat_cmp (x.machine ∷ []) (y.machine ∷ [])) ≡ false → y.machine ≤ x.machine
  by_machine h = elim (split x.machine y.machine Equal h) [ inl lt ↦ omega (arith, lt) | inr e ↦ let same = e.0 in omega (arith, same) ]

  by_place : is_lt (slice_cmp nat_cmp (x.place ∷ x.machine ∷ []) (y.place ∷ y.machine ∷ [])) ≡ false → (y.place < x.place) ⊎ ((x.place ≡ y.place) × (y.machine ≤ x.machine))
  by_place h = elim (split x.place y.place (slice_cmp nat_cmp (x.machine ∷ []) (y.machine ∷ [])) h) [ inl lt ↦ inl lt | inr e ↦ inr (e.0, by_machine e.1) ]

  by_level : is_lt (slice_cmp nat_cmp (x.level ∷ x.place ∷ x.machine ∷ []) (y.level ∷ y.place ∷ y.machine ∷ [])) ≡ false → (y.level < x.level) ⊎ ((x.level ≡ y.level) × ((y.place < x.place) ⊎ ((x.place ≡ y.place) × (y.machine ≤ x.machine))))
  by_level h = elim (split x.level y.level (slice_cmp nat_cmp (x.place ∷ x.machine ∷ []) (y.place ∷ y.machine ∷ [])) h) [ inl lt ↦ inl lt | inr e ↦ inr (e.0, by_place e.1) ]

  pub by_numbers : x.priority ≤ 9 → y.priority ≤ 9 → is_lt (slice_cmp nat_cmp ((9 - x.priority) ∷ x.level ∷ x.place ∷ x.machine ∷ []) ((9 - y.priority) ∷ y.level ∷ y.place ∷ y.machine ∷ [])) ≡ false → IsNotBefore x y
  by_numbers few less h = elim (split (9 - x.priority) (9 - y.priority) (slice_cmp nat_cmp (x.level ∷ x.place ∷ x.machine ∷ []) (y.level ∷ y.place ∷ y.machine ∷ [])) h) [
    | inl lt ↦ inl (omega (arith, lt, few, less))
    | inr e ↦ inr ((let same = e.0 in omega (arith, same, few, less)), by_level e.1)
  ]

-- the pair that is placed
pub placed_in_order : (c : ClusterRecord) (M : Master) (s : Spot) → AreValid M.jobs → first_placeable c M ≡ Some s → IsPlacedInOrder c M s
placed_in_order c M s v e =
    let f = placed_first c M s e in
    record {
      place = f.place;
      there = f.there;
      may = f.may;
      first = λ n m p at on may. by_numbers (precedence c M n p m) (precedence c M f.place (s.job, s.unit) s.machine) (valid_priority M.jobs v p.0 p.1) (valid_priority M.jobs v s.job s.unit) (f.first n m p at on may);
    }
