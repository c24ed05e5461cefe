-- Victims are grants that stand on the machine, of each unit once.
use Rattle.std.proofs.Common.{◌≡◌, ℕ, ◌≤◌, true, false, cond, nat_lt, List, [], ◌∷◌, ◌++◌, filter, map, refl, sym, ◌∙◌, ap, subst, arith, append_assoc}
use Rattle.std.specs.List.{AllByRecursion, IsDistinct, flat_map}
use Rattle.std.proofs.lemmas.Bool.Decides.{nat_tests}
use Rattle.std.proofs.lemmas.List.{append-nil}
use Rattle.fuxi_terms.specs.Counts.{count}
use Rattle.fuxi_terms.specs.Jobs.{priority_of}
use Rattle.fuxi_terms.specs.Keys.{Spot, spot_cmp}
use Rattle.fuxi_terms.specs.Tables.{spot, Table}
use Rattle.fuxi_terms.proofs.Alls.{all_more}
use Rattle.spec_roles.specs.Placing.{Board}
use Rattle.grant_table.specs.GrantTables.{TableRecord, IsSound, as_known}
use Rattle.preempt.specs.Counted.{singles, enough_times, may_times, taken_count, counted_taken, counted_kept, entries_on}
use Rattle.preempt.specs.declared.entry.Entry.{Entry}
use Rattle.preempt.specs.declared.entry.Need.{Need}
use Rattle.preempt.specs.declared.entry.GroupUse.{GroupUse}
use Rattle.preempt.specs.declared.plan.Victim.{Victim}
use Rattle.preempt.specs.Given.{board_of, written, victim_of, IsEntry, AreGiven, IsTaken, IsKept}
use Rattle.preempt.specs.GrantNumbers.{has_grants}
use Rattle.preempt.specs.Plans.{AreTakable, IsTakable, same_unit, losers_of}
use Rattle.preempt.specs.Walks.{all_units, pairs_by_priority, entry_on}
use Rattle.preempt.proofs.RunsLeft.{is_same_unit}
use Rattle.preempt.proofs.Computed.{enough_most, may_is}
use Rattle.preempt.proofs.Whole.{AreDistinct, entries_distinct}
use Rattle.preempt.proofs.EntriesListed.{IsHeld, listed_held}
use Rattle.preempt.proofs.Admitted.{walk_is}

-- the same keys with counts that are no greater
abbrev IsBelow : Table → Table → Type 0
IsBelow [] [] = Unit
IsBelow [] (y ∷ ys) = ⊥
IsBelow (x ∷ xs) [] = ⊥
IsBelow (x ∷ xs) (y ∷ ys) = (x.0 ≡ y.0) × (x.1 ≤ y.1) × IsBelow xs ys

below_again : (xs ys zs : Table) → IsBelow xs ys → IsBelow ys zs → IsBelow xs zs
below_again [] [] zs h k = k
below_again [] (y ∷ ys) zs h k = absurd h
below_again (x ∷ xs) [] zs h k = absurd h
below_again (x ∷ xs) (y ∷ ys) [] h k = absurd k
below_again (x ∷ xs) (y ∷ ys) (z ∷ zs) h k = (h.0 ∙ k.0, let a = h.1 in let b = k.1 in omega (arith, a, b), below_again xs ys zs h.2 k.2)

below_all : (P : Spot → ℕ → Type 0) → ((s : Spot) (m n : ℕ) → m ≤ n → P s n → P s m) → (xs ys : Table) → IsBelow xs ys → AllByRecursion (λ y. P y.0 y.1) ys → AllByRecursion (λ x. P x.0 x.1) xs
below_all P fall [] ys h k = tt
below_all P fall (x ∷ xs) [] h k = absurd h
below_all P fall (x ∷ xs) (y ∷ ys) h k = (subst (λ s. P s x.1) (sym h.0) (fall y.0 x.1 y.1 h.1 k.0), below_all P fall xs ys h.2 k.1)

below_keys : (P : Spot → Type 0) (xs ys : Table) → IsBelow xs ys → AllByRecursion (λ y. P y.0) ys → AllByRecursion (λ x. P x.0) xs
below_keys P xs ys h k = below_all (λ s _. P s) (λ s m n le p. p) xs ys h k

below_distinct : (xs ys : Table) → IsBelow xs ys → AreDistinct ys → AreDistinct xs
below_distinct [] ys h d = tt
below_distinct (x ∷ xs) [] h d = absurd h
below_distinct (x ∷ xs) (y ∷ ys) h d = (subst (λ s. AllByRecursion (λ e. is_same_unit e.0 s ≡ false) xs) (sym h.0) (below_keys (λ s. is_same_unit s y.0 ≡ false) xs ys h.2 d.0), below_distinct xs ys h.2 d.1)

-- a walk adds to a set for each entry at most its count
record Adds (set es out : Table) : Type 0 where
  added : Table
  is : out ≡ set ++ added
  below : IsBelow added es

module _ (B : Board) (table : Table) (t : Spot) where
  taken_adds : (es set : Table) → Adds set es (counted_taken es B table t set)
  taken_adds [] set = record { added = []; is = sym (append-nil set); below = tt }
  taken_adds (e ∷ es) set =
      let n = taken_count B table t (singles set) e.0 e.1 in
      let r = taken_adds es (set ++ (e.0, n) ∷ []) in
      let a = (may_is B table t (singles set) e.0 e.1).most in
      let b = enough_most B table t (singles set) e.0 (may_times B table t (singles set) e.0 e.1) in
      record { added = (e.0, n) ∷ r.added; is = r.is ∙ append_assoc set ((e.0, n) ∷ []) r.added; below = (refl, omega (arith, a, b), r.below) }

  kept_adds : (fs kept : Table) → Adds kept fs (counted_kept fs B table t kept)
  kept_adds [] kept = record { added = []; is = sym (append-nil kept); below = tt }
  kept_adds (f ∷ fs) kept =
      let n = enough_times B table t (singles kept ++ singles fs) f.0 f.1 in
      let r = kept_adds fs (kept ++ (f.0, n) ∷ []) in
      record { added = (f.0, n) ∷ r.added; is = r.is ∙ append_assoc kept ((f.0, n) ∷ []) r.added; below = (refl, enough_most B table t (singles kept ++ singles fs) f.0 f.1, r.below) }

-- ---- of entries that are kept
record IsPart (t : TableRecord) (m : ℕ) (s : Spot) (n : ℕ) : Type 0 where
  held : n ≤ count spot_cmp t.entries s

parts_held : (t : TableRecord) → IsSound t → (m : ℕ) → AllByRecursion (λ x. IsPart t m x.0 x.1) (entries_on (board_of t) t.entries m)
parts_held t s m = subst (AllByRecursion (λ x. IsPart t m x.0 x.1)) (sym (walk_is t s m))
    (all_more (IsHeld t.entries m) (λ x. IsPart t m x.0 x.1) (λ x h. record { held = let e = h.is in omega (arith, e) })
    (flat_map (entry_on t.entries m) (pairs_by_priority (priority_of (as_known t.jobs)) (all_units t.jobs) 10)) (listed_held t.entries m (pairs_by_priority (priority_of (as_known t.jobs)) (all_units t.jobs) 10)))

takable_each : (t : TableRecord) (m : ℕ) (es : List Entry) → AllByRecursion (IsEntry t) es → AllByRecursion (λ x. IsPart t m x.0 x.1) (map (written m) es) → AllByRecursion (IsTakable t m) (map victim_of (filter has_grants es))
takable_each t m [] h k = tt
takable_each t m (e ∷ es) h k = elim (nat_lt 0 e.count) as (λ b. nat_lt 0 e.count ≡ b → AllByRecursion (IsTakable t m) (map victim_of (cond b (e ∷ filter has_grants es) (filter has_grants es)))) [
  | true ↦ λ s. (record { unit = h.0.unit; some = grind (arith, nat_tests, s); held = k.0.held }, takable_each t m es h.1 k.1)
  | false ↦ λ _. takable_each t m es h.1 k.1
] refl

once_apart : (m : ℕ) (e : Entry) (es : List Entry) → AllByRecursion (λ x. is_same_unit x.0 (spot e.app.0 e.unit.0 m) ≡ false) (map (written m) es) → AllByRecursion (λ v. same_unit (victim_of e) v ≡ false) (map victim_of (filter has_grants es))
once_apart m e [] h = tt
once_apart m e (x ∷ xs) h = elim (nat_lt 0 x.count) as (λ b. AllByRecursion (λ v. same_unit (victim_of e) v ≡ false) (map victim_of (cond b (x ∷ filter has_grants xs) (filter has_grants xs)))) [
  | true ↦ (h.0, once_apart m e xs h.1)
  | false ↦ once_apart m e xs h.1
]

once_each : (m : ℕ) (es : List Entry) → AreDistinct (map (written m) es) → IsDistinct same_unit (map victim_of (filter has_grants es))
unfolding IsDistinct
once_each m [] d = tt
once_each m (e ∷ es) d = elim (nat_lt 0 e.count) as (λ b. IsDistinct same_unit (map victim_of (cond b (e ∷ filter has_grants es) (filter has_grants es)))) [
  | true ↦ (once_apart m e es d.0, once_each m es d.1)
  | false ↦ once_each m es d.1
]

pub takable : (t : TableRecord) (s : Spot) (entries set kept : List Entry) (n : Need) (groups : List GroupUse) → IsSound t → AreGiven t s entries n groups → IsTaken t s entries set → IsKept t s set kept → AreTakable t s.machine (map victim_of (filter has_grants kept))
takable t s entries set kept n groups sound given taken is_kept =
    let m = s.machine in
    let a = taken_adds (board_of t) t.entries s (map (written m) entries) [] in
    let b = kept_adds (board_of t) t.entries s (map (written m) set) [] in
    let in_set : IsBelow (map (written m) set) (map (written m) entries) = subst (λ xs. IsBelow xs (map (written m) entries)) (sym (taken.counted ∙ a.is)) a.below in
    let in_kept : IsBelow (map (written m) kept) (map (written m) set) = subst (λ xs. IsBelow xs (map (written m) set)) (sym (is_kept.counted ∙ b.is)) b.below in
    let below = subst (IsBelow (map (written m) kept)) given.walk (below_again (map (written m) kept) (map (written m) set) (map (written m) entries) in_kept in_set) in
    record {
      each = takable_each t m kept is_kept.each (below_all (IsPart t m) (λ x k l le p. record { held = let h = p.held in omega (arith, le, h) }) (map (written m) kept) (entries_on (board_of t) t.entries m) below (parts_held t sound m));
      once = once_each m kept (below_distinct (map (written m) kept) (entries_on (board_of t) t.entries m) below (entries_distinct (board_of t) t.entries m sound.counts.sorted));
    }

-- the losers of victims are the single grants of what is kept
pub losers_are : (m : ℕ) (es : List Entry) → losers_of m (map victim_of es) ≡ singles (map (written m) es)
losers_are m es = ap singles (same es)
  where
    same : (xs : List Entry) → map (λ (v : Victim). (spot v.app.0 v.unit.0 m, v.count)) (map victim_of xs) ≡ map (written m) xs
    same [] = refl
    same (x ∷ xs) = ap (λ ys. written m x ∷ ys) (same xs)
