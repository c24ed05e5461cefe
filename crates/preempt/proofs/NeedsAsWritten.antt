-- What a unit that waits needs is what the definitions say.
use Rattle.std.proofs.Common.{inl, inr, ◌-◌, ◌≡◌, ℕ, zero, suc, ◌+◌, ◌<◌, ◌≤◌, Bool, true, false, cond, not, nat_eq, nat_lt, List, [], ◌∷◌, length, get_or, drop, Some, sym, ◌∙◌, ap, arith}
use Rattle.std.specs.Prelude.{◌||◌, IfOk, Result, Ok, Err, slice_get, slice_index}
use Rattle.std.proofs.Math.ListN.{get_or-eq_default}
use Rattle.std.proofs.lemmas.Bool.{cases_lt}
use Rattle.std.proofs.lemmas.Bool.Decides.{nat_tests}
use Rattle.fuxi_terms.specs.Cluster.{JobRecord, is_narrow, quota_at}
use Rattle.fuxi_terms.specs.Jobs.{job_of, unit_count, size_at, group_of}
use Rattle.fuxi_terms.specs.Lists.{below_each}
use Rattle.fuxi_terms.specs.Tables.{spot, usage_at}
use Rattle.fuxi_terms.specs.Vectors.{fits, plus}
use Rattle.fuxi_terms.proofs.Booleans.{same_tests}
use Rattle.fuxi_terms.proofs.ByPlace.{fits_at, fits_from, get_or-plus}
use Rattle.fuxi_terms.proofs.Members.{in_each_from, in_each_is, narrow_is as nothing_beyond}
use Rattle.spec_roles.specs.Preemption.{is_guaranteed_in}
use Rattle.grant_table.specs.GrantTables.{TableRecord, IsSound, as_known}
use Rattle.preempt.specs.declared.entry.Entry.{Entry}
use Rattle.preempt.specs.declared.entry.Need.{Need}
use Rattle.preempt.specs.declared.entry.GroupUse.{GroupUse}
use Rattle.preempt.specs.declared.machine_grants.MachineGrants.{MachineGrants}
use Rattle.preempt.specs.Given.{board_of, IsEntry, IsGroup, IsNeed}
use Rattle.preempt.specs.GrantNumbers.{narrow_at}
use Rattle.preempt.specs.Shelves.{IsWanted, AreMachineGrants}
use Rattle.preempt.proofs.Admitted.{size_short}
use Rattle.preempt.proofs.UnitSteps.{units_counted}
use Rattle.preempt.proofs.CountedAsWritten.{each_same, size_is}

pub drop_job : (js : List JobRecord) (i : ℕ) (j : JobRecord) (a : ℕ) → slice_get js i ≡ Some j → nat_eq j.number a ≡ false → job_of (as_known (drop i js)) a ≡ job_of (as_known (drop (i + 1) js)) a
drop_job [] i j a e f = cc
drop_job (k ∷ ks) zero j a e f = let same : k ≡ j = cc in ap (λ b. cond b (Some (record { job = k; ended = false })) (job_of (as_known ks) a)) (ap (λ (x : JobRecord). nat_eq x.number a) same ∙ f)
drop_job (k ∷ ks) (suc i) j a e f = let n : suc (i + 1) ≡ suc i + 1 = omega arith in drop_job ks i j a e f ∙ ap (λ m. job_of (as_known (drop m (k ∷ ks))) a) n

pub unit_there : (t : TableRecord) → IsSound t → (i : ℕ) (j : JobRecord) → slice_get t.jobs i ≡ Some j → (a u : ℕ) → j.number ≡ a → u < unit_count (as_known t.jobs) a → u < length j.units
unit_there t s i j at a u is lt = let e : unit_count (as_known t.jobs) a ≡ length j.units = ap (unit_count (as_known t.jobs)) (sym is) ∙ units_counted t s i j at in omega (arith, e, lt)

module _ (t : TableRecord) (e : Entry) (h : IsEntry t e) where
  a : ℕ
  a = e.app.0

  u : ℕ
  u = e.unit.0

  pub narrow_is : (resources : ℕ) → resources ≡ t.cluster.resources → below_each 8 (narrow_at resources e.size.now.q) ≡ is_narrow t.cluster (size_at (as_known t.jobs) e.app.0 e.unit.0)
  narrow_is resources is = each_same 8 (narrow_at resources e.size.now.q) (λ i. nat_lt i t.cluster.resources || nat_eq (size_at (as_known t.jobs) e.app.0 e.unit.0 i) 0)
      (λ i lt. λ k. nat_lt i (is k) || nat_eq (size_is t e h i k) 0)

  pub guaranteed_is : IsSound t → (g : GroupUse) → IsGroup t e.group g → is_narrow t.cluster (size_at (as_known t.jobs) e.app.0 e.unit.0) ≡ true
      → fits (plus g.used.q e.size.now.q) g.bounds.now.quota.q ≡ is_guaranteed_in (board_of t) t.entries (spot e.app.0 e.unit.0 0)
  guaranteed_is sound g group narrow = same_tests (fits (plus g.used.q e.size.now.q) g.bounds.now.quota.q) (is_guaranteed_in (board_of t) t.entries (spot e.app.0 e.unit.0 0)) to from
    where
      gr : ℕ
      gr = group_of (as_known t.jobs) e.app.0

      size : ℕ → ℕ
      size = size_at (as_known t.jobs) e.app.0 e.unit.0

      test : ℕ → Bool
      test i = not (nat_lt (quota_at t.cluster gr i) (usage_at (as_known t.jobs) gr i t.entries + size i))

      sum_is : (i : ℕ) → get_or (plus g.used.q e.size.now.q) i 0 ≡ usage_at (as_known t.jobs) gr i t.entries + size i
      sum_is i =
          let sum = get_or-plus g.used.q e.size.now.q i in
          let used = group.used i ∙ ap (λ k. usage_at (as_known t.jobs) k i t.entries) h.group in
          let one = size_is t e h i in
          omega (arith, sum, used, one)

      quota_is : (i : ℕ) → get_or g.bounds.now.quota.q i 0 ≡ quota_at t.cluster gr i
      quota_is i = group.quota i ∙ ap (λ k. quota_at t.cluster k i) h.group

      -- it needs nothing of a resource that the cluster does not have
      none_past : (i : ℕ) → t.cluster.resources ≤ i → size i ≡ 0
      none_past i ge = elim (cases_lt i 8) [
        | inl lt ↦ nothing_beyond t.cluster size i narrow ge lt
        | inr past ↦
            let short = size_short t.jobs sound.in_order e.app.0 e.unit.0 in
            let long = ap (λ (xs : List ℕ). length xs) h.size in
            sym (size_is t e h i) ∙ get_or-eq_default e.size.now.q 0 (omega (arith, short, long, past))
      ]

      to : fits (plus g.used.q e.size.now.q) g.bounds.now.quota.q ≡ true → is_guaranteed_in (board_of t) t.entries (spot e.app.0 e.unit.0 0) ≡ true
      to f = in_each_from t.cluster size test
          (λ i lt.
          let at = fits_at (plus g.used.q e.size.now.q) g.bounds.now.quota.q f i in
          let sum = sum_is i in
          let quota = quota_is i in
          let le : usage_at (as_known t.jobs) gr i t.entries + size i ≤ quota_at t.cluster gr i = omega (arith, at, sum, quota) in
          grind (arith, nat_tests, le))
          (λ i ge _. none_past i ge)

      from : is_guaranteed_in (board_of t) t.entries (spot e.app.0 e.unit.0 0) ≡ true → fits (plus g.used.q e.size.now.q) g.bounds.now.quota.q ≡ true
      from is = fits_from (plus g.used.q e.size.now.q) g.bounds.now.quota.q (λ i _.
          let sum = sum_is i in
          let quota = quota_is i in
          elim (cases_lt i t.cluster.resources) [
            | inl lt ↦
                let at : not (nat_lt (quota_at t.cluster gr i) (usage_at (as_known t.jobs) gr i t.entries + size i)) ≡ true = in_each_is t.cluster size test i is lt in
                let le : usage_at (as_known t.jobs) gr i t.entries + size i ≤ quota_at t.cluster gr i = grind (arith, nat_tests, at) in
                omega (arith, le, sum, quota)
            | inr ge ↦
                let none = none_past i ge in
                let unused = sym (ap (λ k. usage_at (as_known t.jobs) k i t.entries) h.group) ∙ (group.beyond i ge).1 in
                omega (arith, sum, none, unused)
          ])

  pub need_on : (n on : Need) (m : ℕ) (s : MachineGrants) → IsWanted t e.app.0 e.unit.0 n → AreMachineGrants t m s → t.cluster.resources ≤ 8
      → on.resources ≡ n.resources → on.group ≡ n.group → on.priority ≡ n.priority → on.guaranteed ≡ n.guaranteed → on.has ≡ s.has → on.limit ≡ n.limit → on.allowed ≡ n.allowed
      → ((i : ℕ) → i < 8 → slice_index on.fits i ≡ slice_index s.has i - slice_index s.free i + slice_index e.size.now.q i) → IsNeed t (spot e.app.0 e.unit.0 m) on
  need_on n on m s w is few resources group priority guaranteed has limit allowed fits = record {
    resources = resources ∙ w.resources;
    narrow = w.narrow;
    group = group ∙ w.group;
    priority = priority ∙ w.priority;
    guaranteed = guaranteed ∙ w.guaranteed;
    has = λ i lt. ap (λ xs. get_or xs i 0) has ∙ is.has i lt;
    fits = λ i lt. let f = fits i (omega (arith, lt, few)) in let x = is.free i lt in let z = is.has i lt in let y = size_is t e h i in omega (arith, f, x, z, y);
    limit = λ i lt. ap (λ xs. get_or xs i 0) limit ∙ w.limit i lt;
    allowed = λ i lt. ap (λ xs. get_or xs i 0) allowed ∙ w.allowed i lt;
  }

pub if_ok : {A E : Type 0} (P Q : A → Type 0) → ((x : A) → P x → Q x) → (r : Result A E) → IfOk r P → IfOk r Q
if_ok P Q f (Ok x) h = f x h
if_ok P Q f (Err e) h = tt
