-- What is found is what the walk of single grants finds.
use Rattle.std.proofs.Common.{◌≡◌, ℕ, zero, suc, ◌+◌, ◌<◌, ◌≤◌, Bool, true, false, cond, not, nat_lt, List, [], ◌∷◌, ◌++◌, map, filter, Option, Some, None, refl, sym, ◌∙◌, ap, arith}
use Rattle.std.specs.Prelude.{◌&&◌, ◌||◌, T, slice_index}
use Rattle.std.specs.Option.{option_map}
use Rattle.std.specs.List.{AllByRecursion, list_any}
use Rattle.std.specs.FinMap.Entries.{is_sorted}
use Rattle.std.proofs.lemmas.Bool.Decides.{nat_tests}
use Rattle.fuxi_terms.specs.Jobs.{group_of, size_at}
use Rattle.fuxi_terms.specs.Keys.{Spot, spot_cmp}
use Rattle.fuxi_terms.specs.Lists.{below_each}
use Rattle.fuxi_terms.specs.Tables.{spot, Table}
use Rattle.fuxi_terms.proofs.Booleans.{and_false}
use Rattle.spec_roles.specs.Preemption.{so_many, is_enough_in, is_some_set, victims_in, part_by}
use Rattle.grant_table.specs.GrantTables.{TableRecord, as_known}
use Rattle.preempt.specs.Counted.{singles, counted_taken, counted_kept}
use Rattle.preempt.specs.declared.entry.Entry.{Entry}
use Rattle.preempt.specs.declared.entry.Need.{Need}
use Rattle.preempt.specs.declared.entry.GroupUse.{GroupUse}
use Rattle.preempt.specs.Given.{board_of, written, IsEntry, IsNeed, AreGiven, IsTaken, IsKept}
use Rattle.preempt.specs.GrantNumbers.{total_in, part_in, has_grants, reach_in, are_enough}
use Rattle.preempt.proofs.Whole.{victims_whole}
use Rattle.preempt.proofs.Sums.{fit_test, limit_test}
use Rattle.preempt.proofs.CountedAsWritten.{each_same, total_is, part_is}

-- entries without grants are no single grants
by_count : (n : ℕ) (b : Bool) → nat_lt 0 n ≡ b → (s : Spot) (xs : List Spot) → is_some_set (so_many n s ++ xs) ≡ (b || is_some_set xs)
by_count zero true e s xs = absurd (let lt : 0 < 0 = grind (arith, nat_tests) in omega (arith, lt))
by_count zero false e s xs = refl
by_count (suc n) true e s xs = refl
by_count (suc n) false e s xs = absurd (let le : suc n ≤ 0 = grind (arith, nat_tests) in omega (arith, le))

pub any_is : (m : ℕ) (es : List Entry) → list_any has_grants es ≡ is_some_set (singles (map (written m) es))
any_is m [] = refl
any_is m (e ∷ es) = ap (λ b. nat_lt 0 e.count || b) (any_is m es) ∙ sym (by_count e.count (nat_lt 0 e.count) refl (spot e.app.0 e.unit.0 m) (singles (map (written m) es)))

none : (n : ℕ) (s : Spot) → nat_lt 0 n ≡ false → so_many n s ≡ []
none zero s e = refl
none (suc n) s e = absurd (let le : suc n ≤ 0 = grind (arith, nat_tests) in omega (arith, le))

pub filtered : (m : ℕ) (es : List Entry) → singles (map (written m) (filter has_grants es)) ≡ singles (map (written m) es)
filtered m [] = refl
filtered m (e ∷ es) = elim (nat_lt 0 e.count) as (λ b. nat_lt 0 e.count ≡ b → singles (map (written m) (cond b (e ∷ filter has_grants es) (filter has_grants es))) ≡ so_many e.count (spot e.app.0 e.unit.0 m) ++ singles (map (written m) es)) [
  | true ↦ λ _. ap (λ xs. so_many e.count (spot e.app.0 e.unit.0 m) ++ xs) (filtered m es)
  | false ↦ λ f. filtered m es ∙ ap (λ xs. xs ++ singles (map (written m) es)) (sym (none e.count (spot e.app.0 e.unit.0 m) f))
] refl

module _ (tab : TableRecord) (t : Spot) where
  pub enough_is : (n : Need) (set : List Entry) (sums own : List ℕ) → IsNeed tab t n → AllByRecursion (IsEntry tab) set → n.resources ≤ 8
      → ((i : ℕ) → i < 8 → slice_index sums i ≡ total_in i set) → ((i : ℕ) → i < 8 → slice_index own i ≡ part_in n.group i set)
      → are_enough n sums own ≡ is_enough_in (board_of tab) tab.entries t (singles (map (written t.machine) set))
  enough_is n set sums own need each few a o =
      let res = need.resources in
      let s = singles (map (written t.machine) set) in
      let x = ap (λ k. below_each k (reach_in n.has sums n.fits)) res ∙ each_same tab.cluster.resources (reach_in n.has sums n.fits) (fit_test (board_of tab) tab.entries t s)
      (λ i lt. let e = a i (omega (arith, lt, few, res)) ∙ total_is tab t.machine i set lt each in λ j. not (nat_lt (need.has i lt j + e j) (need.fits i lt j))) in
      let y = ap (λ k. below_each k (reach_in n.limit own n.allowed)) res ∙ each_same tab.cluster.resources (reach_in n.limit own n.allowed) (limit_test (board_of tab) tab.entries t s)
      (λ i lt. let e = o i (omega (arith, lt, few, res)) ∙ (part_is tab t.machine n.group i set lt each ∙ ap (λ g. part_by (group_of (as_known tab.jobs)) (size_at (as_known tab.jobs)) g i s) need.group) in λ j. not (nat_lt (need.limit i lt j + e j) (need.allowed i lt j))) in
      (λ j. x j && y j) ∙ ap (λ b. (b && below_each tab.cluster.resources (fit_test (board_of tab) tab.entries t s)) && below_each tab.cluster.resources (limit_test (board_of tab) tab.entries t s)) (sym need.narrow)

  -- the victims by the set that was taken
  abbrev by_set : Table → Option (List Spot)
  by_set set = option_map singles (elim (is_enough_in (board_of tab) tab.entries t (singles set) && is_some_set (singles set)) as (λ _. Option Table) [ true ↦ Some (counted_kept set (board_of tab) tab.entries t []) | false ↦ None ])

  by_taken : (entries set : List Entry) (n : Need) (groups : List GroupUse) → AreGiven tab t entries n groups → T (is_sorted spot_cmp tab.entries) → IsTaken tab t entries set → victims_in (board_of tab) tab.entries t ≡ by_set (map (written t.machine) set)
  by_taken entries set n groups given k taken = victims_whole (board_of tab) tab.entries t given.need.narrow k ∙ ap by_set (sym (taken.counted ∙ ap (λ x. counted_taken x (board_of tab) tab.entries t []) given.walk))

  at_test : (b : Bool) (set : Table) → (is_enough_in (board_of tab) tab.entries t (singles set) && is_some_set (singles set)) ≡ b → by_set set ≡ option_map singles (elim b as (λ _. Option Table) [ true ↦ Some (counted_kept set (board_of tab) tab.entries t []) | false ↦ None ])
  at_test b set e = ap (λ b. option_map singles (elim b as (λ _. Option Table) [ true ↦ Some (counted_kept set (board_of tab) tab.entries t []) | false ↦ None ])) e

  module _ (entries set : List Entry) (n : Need) (groups : List GroupUse) (sums own : List ℕ) where
    -- what is known once all is taken
    pub record IsReady : Type 0 where
      pub few : n.resources ≤ 8
      pub sums_are : (i : ℕ) → i < 8 → slice_index sums i ≡ total_in i set
      pub own_are : (i : ℕ) → i < 8 → slice_index own i ≡ part_in n.group i set

    pub not_enough : IsReady → AreGiven tab t entries n groups → T (is_sorted spot_cmp tab.entries) → IsTaken tab t entries set → are_enough n sums own ≡ false → victims_in (board_of tab) tab.entries t ≡ None
    not_enough r given k taken h =
        let s = map (written t.machine) set in
        let e = sym (enough_is n set sums own given.need taken.each r.few r.sums_are r.own_are) ∙ h in
        by_taken entries set n groups given k taken ∙ at_test false s (ap (λ b. b && is_some_set (singles s)) e)

    pub none_taken : IsReady → AreGiven tab t entries n groups → T (is_sorted spot_cmp tab.entries) → IsTaken tab t entries set → list_any has_grants set ≡ false → victims_in (board_of tab) tab.entries t ≡ None
    none_taken r given k taken h =
        let s = map (written t.machine) set in
        let e = sym (any_is t.machine set) ∙ h in
        by_taken entries set n groups given k taken ∙ at_test false s (ap (λ b. is_enough_in (board_of tab) tab.entries t (singles s) && b) e ∙ and_false (is_enough_in (board_of tab) tab.entries t (singles s)))

    pub some_found : (kept : List Entry) → IsReady → AreGiven tab t entries n groups → T (is_sorted spot_cmp tab.entries) → IsTaken tab t entries set → are_enough n sums own ≡ true → list_any has_grants set ≡ true → IsKept tab t set kept
        → victims_in (board_of tab) tab.entries t ≡ Some (singles (map (written t.machine) (filter has_grants kept)))
    some_found kept r given k taken h any is_kept =
        let s = map (written t.machine) set in
        let e = sym (enough_is n set sums own given.need taken.each r.few r.sums_are r.own_are) ∙ h in
        let f = sym (any_is t.machine set) ∙ any in
        by_taken entries set n groups given k taken ∙ (at_test true s (λ j. e j && f j)
        ∙ ap (λ x. Some x) (ap singles (sym is_kept.counted) ∙ sym (filtered t.machine kept)))
