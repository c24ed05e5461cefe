-- The victims by counts are those of the walk of single grants.
use Rattle.std.proofs.Common.{◌≡◌, ℕ, zero, suc, ◌<◌, ◌≤◌, Bool, true, false, cond, nat_eq, nat_lt, List, [], ◌∷◌, ◌++◌, filter, Option, Some, None, refl, sym, ◌∙◌, ap, subst, arith, append_assoc}
use Rattle.std.specs.Prelude.{◌&&◌, T}
use Rattle.std.specs.Option.{option_map}
use Rattle.std.specs.List.{AllByRecursion}
use Rattle.std.specs.Ordering.{nat_cmp, ordering_then}
use Rattle.std.specs.declared.cmp.Ordering.TheVariants.{Equal}
use Rattle.std.specs.Cmp.{nat_cmp_total, tied_itself}
use Rattle.std.specs.Ordering.{is_lt}
use Rattle.std.specs.FinMap.Entries.{below_all, is_sorted}
use Rattle.std.proofs.lemmas.List.{append-nil}
use Rattle.std.proofs.lemmas.Bool.Decides.{nat_tests}
use Rattle.fuxi_terms.specs.Cluster.{is_narrow}
use Rattle.fuxi_terms.proofs.Alls.{all_append}
use Rattle.fuxi_terms.proofs.Booleans.{both_true, number_is}
use Rattle.fuxi_terms.specs.Keys.{Spot, spot_cmp}
use Rattle.fuxi_terms.specs.Tables.{Table}
use Rattle.spec_roles.specs.Placing.{Board}
use Rattle.spec_roles.specs.Preemption.{goes_before_by, put_grant_by, in_walk_order_by, so_many, is_enough_in, taken_in, needed_in, is_some_set, victims_in}
use Rattle.preempt.specs.Counted.{singles, enough_times, taken_count, counted_taken, counted_kept, entries_on, counted_victims}
use Rattle.preempt.proofs.Runs.{run_taken}
use Rattle.preempt.proofs.RunsLeft.{is_same_unit, IsApart, IsKeep, run_left}
use Rattle.preempt.proofs.Computed.{keep_is, take_is}

-- Lists of entries
pub singles_more : (es : Table) (s : Spot) (n : ℕ) → singles (es ++ (s, n) ∷ []) ≡ singles es ++ so_many n s
singles_more [] s n = append-nil (so_many n s)
singles_more (e ∷ es) s n = ap (λ xs. so_many e.1 e.0 ++ xs) (singles_more es s n) ∙ sym (append_assoc (so_many e.1 e.0) (singles es) (so_many n s))

-- Taken
module _ (B : Board) (table : Table) (t : Spot) where
  pub taken_whole : is_narrow B.cluster (B.sizes t.job t.unit) ≡ true → (es set : Table) → taken_in (singles es) B table t (singles set) ≡ singles (counted_taken es B table t set)
  taken_whole narrow [] set = refl
  taken_whole narrow (e ∷ es) set =
      let n = taken_count B table t (singles set) e.0 e.1 in
      run_taken B table t e.0 n e.1 (singles es) (singles set) (take_is B table t narrow (singles set) e.0 e.1)
      ∙ (ap (λ x. taken_in (singles es) B table t x) (sym (singles_more set e.0 n))
      ∙ taken_whole narrow es (set ++ (e.0, n) ∷ []))

-- Units that stand once
abbrev pub IsOther : Spot → Table → Type 0
IsOther s es = AllByRecursion (λ e. is_same_unit s e.0 ≡ false) es

abbrev pub AreDistinct : Table → Type 0
AreDistinct [] = Unit
AreDistinct (f ∷ fs) = AllByRecursion (λ e. is_same_unit e.0 f.0 ≡ false) fs × AreDistinct fs

other_many : (s x : Spot) (n : ℕ) → is_same_unit s x ≡ false → IsApart s (so_many n x)
other_many s x zero h = tt
other_many s x (suc n) h = (h, other_many s x n h)

other_apart : (s : Spot) (es : Table) → IsOther s es → IsApart s (singles es)
other_apart s [] h = tt
other_apart s (e ∷ es) h = all_append (λ x. is_same_unit s x ≡ false) (so_many e.1 e.0) (singles es) (other_many s e.0 e.1 h.0) (other_apart s es h.1)

-- none of these is among those kept
abbrev AreOthers : Table → Table → Type 0
AreOthers kept fs = AllByRecursion (λ f. IsOther f.0 kept) fs

others_more : (kept fs : Table) (s : Spot) (l : ℕ) → AreOthers kept fs → AllByRecursion (λ e. is_same_unit e.0 s ≡ false) fs → AreOthers (kept ++ (s, l) ∷ []) fs
others_more kept [] s l h k = tt
others_more kept (f ∷ fs) s l h k = (all_append (λ e. is_same_unit f.0 e.0 ≡ false) kept ((s, l) ∷ []) h.0 (k.0, tt), others_more kept fs s l h.1 k.1)

module _ (B : Board) (table : Table) (t : Spot) where
  pub kept_whole : (fs kept : Table) → AreOthers kept fs → AreDistinct fs → is_enough_in B table t (singles kept ++ singles fs) ≡ true → needed_in (singles fs) B table t (singles kept ++ singles fs) ≡ singles (counted_kept fs B table t kept)
  kept_whole [] kept others distinct enough = append-nil (singles kept)
  kept_whole (f ∷ fs) kept others distinct enough =
      let l = enough_times B table t (singles kept ++ singles fs) f.0 f.1 in
      let keep = keep_is B table t (singles kept) (singles fs) f.0 f.1 enough in
      let same : singles kept ++ (so_many l f.0 ++ singles fs) ≡ singles (kept ++ (f.0, l) ∷ []) ++ singles fs = sym (append_assoc (singles kept) (so_many l f.0) (singles fs)) ∙ ap (λ x. x ++ singles fs) (sym (singles_more kept f.0 l)) in
      run_left B table t f.0 f.1 l (singles fs) (singles kept) (singles fs) (other_apart f.0 kept others.0) keep
      ∙ (ap (λ x. needed_in (singles fs) B table t x) same
      ∙ kept_whole fs (kept ++ (f.0, l) ∷ []) (others_more kept fs f.0 l others.1 distinct.0) distinct.1
      (subst (λ x. is_enough_in B table t x ≡ true) same (still l (nat_lt l f.1) refl keep enough)))
    where
      still : (l : ℕ) (b : Bool) → nat_lt l f.1 ≡ b → IsKeep B table t (singles kept) (singles fs) f.0 f.1 l → is_enough_in B table t (singles kept ++ (so_many f.1 f.0 ++ singles fs)) ≡ true → is_enough_in B table t (singles kept ++ (so_many l f.0 ++ singles fs)) ≡ true
      still l true e keep enough = let lt : l < f.1 = grind (arith, nat_tests) in keep.rest l (omega arith) lt
      still l false e keep enough =
          let le : f.1 ≤ l = grind (arith, nat_tests) in
          let most = keep.most in
          let same : f.1 ≡ l = omega (arith, le, most) in
          subst (λ n. is_enough_in B table t (singles kept ++ (so_many n f.0 ++ singles fs)) ≡ true) same enough

-- The entries on a machine in the order of the walk
same_turned : (f s : Spot) → is_same_unit f s ≡ false → is_same_unit s f ≡ false
same_turned f s h = (λ i. turned s.job f.job i && turned s.unit f.unit i) ∙ h
  where
    turned : (a b : ℕ) → nat_eq a b ≡ nat_eq b a
    turned a b = by (nat_eq a b) refl (nat_eq b a) refl
      where
        by : (x : Bool) → nat_eq a b ≡ x → (y : Bool) → nat_eq b a ≡ y → nat_eq a b ≡ nat_eq b a
        by true e true f = e ∙ sym f
        by false e false f = e ∙ sym f
        by true e false f = grind (arith, nat_tests)
        by false e true f = grind (arith, nat_tests)

put_all : (P : Spot × ℕ → Type 0) (priorities : ℕ → ℕ → ℕ) (e : Spot × ℕ) (fs : Table) → P e → AllByRecursion P fs → AllByRecursion P (put_grant_by priorities e fs)
put_all P priorities e [] x h = (x, tt)
put_all P priorities e (f ∷ fs) x h = elim (goes_before_by priorities e.0 f.0) as (λ b. AllByRecursion P (cond b (e ∷ f ∷ fs) (f ∷ put_grant_by priorities e fs))) [ true ↦ (x, h) | false ↦ (h.0, put_all P priorities e fs x h.1) ]

walk_all : (P : Spot × ℕ → Type 0) (priorities : ℕ → ℕ → ℕ) (es : Table) → AllByRecursion P es → AllByRecursion P (in_walk_order_by priorities es)
walk_all P priorities [] h = tt
walk_all P priorities (e ∷ es) h = put_all P priorities e (in_walk_order_by priorities es) h.0 (walk_all P priorities es h.1)

put_distinct : (priorities : ℕ → ℕ → ℕ) (e : Spot × ℕ) (fs : Table) → AllByRecursion (λ f. is_same_unit f.0 e.0 ≡ false) fs → AreDistinct fs → AreDistinct (put_grant_by priorities e fs)
put_distinct priorities e [] h d = (tt, tt)
put_distinct priorities e (f ∷ fs) h d = elim (goes_before_by priorities e.0 f.0) as (λ b. AreDistinct (cond b (e ∷ f ∷ fs) (f ∷ put_grant_by priorities e fs))) [
  | true ↦ (h, d)
  | false ↦ (put_all (λ x. is_same_unit x.0 f.0 ≡ false) priorities e fs (same_turned f.0 e.0 h.0) d.0, put_distinct priorities e fs h.1 d.1)
]

walk_distinct : (priorities : ℕ → ℕ → ℕ) (es : Table) → AreDistinct es → AreDistinct (in_walk_order_by priorities es)
walk_distinct priorities [] d = tt
walk_distinct priorities (e ∷ es) d = put_distinct priorities e (in_walk_order_by priorities es) (walk_all (λ f. is_same_unit f.0 e.0 ≡ false) priorities es d.0) (walk_distinct priorities es d.1)

both : (a b : Bool) → T (a && b) → T a × T b
both true b p = (tt, p)
both false b p = absurd p

differ : (s f : Spot) (m : ℕ) → nat_eq s.machine m ≡ true → nat_eq f.machine m ≡ true → T (is_lt (spot_cmp s f)) → is_same_unit f s ≡ false
differ s f m a b lt = by (is_same_unit f s) refl
  where
    tied : (n : ℕ) → nat_cmp n n ≡ Equal
    tied n = tied_itself nat_cmp_total n

    by : (d : Bool) → is_same_unit f s ≡ d → is_same_unit f s ≡ false
    by false e = e
    by true e =
        let p = both_true (nat_eq f.job s.job) (nat_eq f.unit s.unit) e in
        let j = number_is f.job s.job p.0 in
        let u = number_is f.unit s.unit p.1 in
        let m : f.machine ≡ s.machine = number_is f.machine m b ∙ sym (number_is s.machine m a) in
        let equal : spot_cmp s f ≡ Equal = (λ i. ordering_then (nat_cmp s.job (j i)) (ordering_then (nat_cmp s.unit (u i)) (nat_cmp s.machine (m i)))) ∙ (λ i. ordering_then (tied s.job i) (ordering_then (tied s.unit i) (tied s.machine i))) in
        let no : T (is_lt Equal) = subst (λ r. T (is_lt r)) equal lt in
        absurd no

below_differ : (m : ℕ) (s : Spot) (es : Table) → nat_eq s.machine m ≡ true → T (below_all spot_cmp s es) → AllByRecursion (λ f. is_same_unit f.0 s ≡ false) (filter (λ e. nat_eq e.0.machine m) es)
below_differ m s [] h k = tt
below_differ m s (e ∷ es) h k =
    let p = both (is_lt (spot_cmp s e.0)) (below_all spot_cmp s es) k in
    let rest = below_differ m s es h p.1 in
    elim (nat_eq e.0.machine m) as (λ b. nat_eq e.0.machine m ≡ b → AllByRecursion (λ f. is_same_unit f.0 s ≡ false) (cond b (e ∷ filter (λ e. nat_eq e.0.machine m) es) (filter (λ e. nat_eq e.0.machine m) es))) [
      | true ↦ λ t. (differ s e.0 m h t p.0, rest)
      | false ↦ λ _. rest
    ] refl

on_distinct : (m : ℕ) (es : Table) → T (is_sorted spot_cmp es) → AreDistinct (filter (λ e. nat_eq e.0.machine m) es)
on_distinct m [] k = tt
on_distinct m (e ∷ es) k =
    let p = both (below_all spot_cmp e.0 es) (is_sorted spot_cmp es) k in
    let rest = on_distinct m es p.1 in
    elim (nat_eq e.0.machine m) as (λ b. nat_eq e.0.machine m ≡ b → AreDistinct (cond b (e ∷ filter (λ e. nat_eq e.0.machine m) es) (filter (λ e. nat_eq e.0.machine m) es))) [
      | true ↦ λ t. (below_differ m e.0 es t p.0, rest)
      | false ↦ λ _. rest
    ] refl

pub entries_distinct : (B : Board) (table : Table) (m : ℕ) → T (is_sorted spot_cmp table) → AreDistinct (entries_on B table m)
entries_distinct B table m k = walk_distinct B.priorities (filter (λ e. nat_eq e.0.machine m) table) (on_distinct m table k)

-- other counts change no keys
recount_all : (x : Spot) (s : Spot) (k n : ℕ) (set es : Table) → AllByRecursion (λ e. is_same_unit e.0 x ≡ false) (set ++ (s, k) ∷ es) → AllByRecursion (λ e. is_same_unit e.0 x ≡ false) ((set ++ (s, n) ∷ []) ++ es)
recount_all x s k n [] es h = h
recount_all x s k n (y ∷ ys) es h = (h.0, recount_all x s k n ys es h.1)

recount : (s : Spot) (k n : ℕ) (set es : Table) → AreDistinct (set ++ (s, k) ∷ es) → AreDistinct ((set ++ (s, n) ∷ []) ++ es)
recount s k n [] es d = d
recount s k n (x ∷ xs) es d = (recount_all x.0 s k n xs es d.0, recount s k n xs es d.1)

module _ (B : Board) (table : Table) (t : Spot) where
  taken_distinct : (es set : Table) → AreDistinct (set ++ es) → AreDistinct (counted_taken es B table t set)
  taken_distinct [] set d = subst AreDistinct (append-nil set) d
  taken_distinct (e ∷ es) set d = let n = taken_count B table t (singles set) e.0 e.1 in taken_distinct es (set ++ (e.0, n) ∷ []) (recount e.0 e.1 n set es d)

  no_others : (fs : Table) → AreOthers [] fs
  no_others [] = tt
  no_others (f ∷ fs) = (tt, no_others fs)

  pub victims_whole : is_narrow B.cluster (B.sizes t.job t.unit) ≡ true → T (is_sorted spot_cmp table) → victims_in B table t ≡ option_map singles (counted_victims B table t)
  victims_whole narrow k = ap of (taken_whole B table t narrow (entries_on B table t.machine) []) ∙ by (is_enough_in B table t (singles set) && is_some_set (singles set)) refl
    where
      of : List Spot → Option (List Spot)
      of x = elim (is_enough_in B table t x && is_some_set x) as (λ _. Option (List Spot)) [ true ↦ Some (needed_in x B table t x) | false ↦ None ]

      set : Table
      set = counted_taken (entries_on B table t.machine) B table t []

      first : (a b : Bool) → (a && b) ≡ true → a ≡ true
      first true b e = refl
      first false b e = cc

      by : (b : Bool) → (is_enough_in B table t (singles set) && is_some_set (singles set)) ≡ b → of (singles set) ≡ option_map singles (elim (is_enough_in B table t (singles set) && is_some_set (singles set)) as (λ _. Option Table) [ true ↦ Some (counted_kept set B table t []) | false ↦ None ])
      by true e =
          let kept = kept_whole B table t set [] (no_others set) (taken_distinct (entries_on B table t.machine) [] (entries_distinct B table t.machine k)) (first _ _ e) in
          ap (λ b. elim b as (λ _. Option (List Spot)) [ true ↦ Some (needed_in (singles set) B table t (singles set)) | false ↦ None ]) e
          ∙ (ap (λ x. Some x) kept
          ∙ sym (ap (λ b. option_map singles (elim b as (λ _. Option Table) [ true ↦ Some (counted_kept set B table t []) | false ↦ None ])) e))
      by false e =
          ap (λ b. elim b as (λ _. Option (List Spot)) [ true ↦ Some (needed_in (singles set) B table t (singles set)) | false ↦ None ]) e
          ∙ sym (ap (λ b. option_map singles (elim b as (λ _. Option Table) [ true ↦ Some (counted_kept set B table t []) | false ↦ None ])) e)
