-- Priorities that no unit of a list has.
use Rattle.std.proofs.Common.{◌≡◌, ℕ, suc, ◌+◌, ◌<◌, Bool, true, false, cond, nat_eq, List, [], ◌∷◌, ◌++◌, length, map, filter, get_or, set, None, refl, sym, ◌∙◌, ap, arith}
use Rattle.std.specs.List.{AllByRecursion, flat_map}
use Rattle.std.proofs.lemmas.Grind.{flat_map-append}
use Rattle.std.proofs.lemmas.List.{append-nil, get_or-set_same}
use Rattle.fuxi_terms.specs.Jobs.{priority_of}
use Rattle.fuxi_terms.specs.Lists.{below}
use Rattle.fuxi_terms.proofs.Booleans.{number_is}
use Rattle.fuxi_terms.proofs.IndexedLists.{one_set}
use Rattle.spec_roles.specs.Preemption.{first_plan_in}
use Rattle.grant_table.specs.GrantTables.{TableRecord, as_known}
use Rattle.preempt.specs.declared.entry.Entry.{Entry}
use Rattle.preempt.specs.Given.{IsEntry, board_at, pair_of}
use Rattle.preempt.specs.Search.{IsFound, pairs_at, pairs_on}
use Rattle.preempt.specs.Walks.{HasItsPriority, backward, of_priority, entries_by_priority}

-- one priority more is present
pub present_more : (present : List Bool) (p : ℕ) → p < length present → (es : List Entry) → AllByRecursion (HasItsPriority present) es → AllByRecursion (HasItsPriority (set present p true)) es
present_more present p lt [] h = tt
present_more present p lt (e ∷ es) h = (record { is = one_set present p e.priority true false lt ∙ by (nat_eq p e.priority) }, present_more present p lt es h.1)
  where
    by : (b : Bool) → cond b true (get_or present e.priority false) ≡ true
    by true = refl
    by false = h.0.is

pub present_here : (present : List Bool) (e : Entry) → e.priority < length present → HasItsPriority (set present e.priority true) e
present_here present e lt = record { is = get_or-set_same present e.priority true false lt }

module _ (present : List Bool) (p : ℕ) (absent : get_or present p false ≡ false) where
  other : (n : ℕ) → get_or present n false ≡ true → nat_eq n p ≡ false
  other n here = by (nat_eq n p) refl
    where
      by : (b : Bool) → nat_eq n p ≡ b → b ≡ false
      by false e = refl
      by true e = let same = number_is n p e in let a : get_or present n false ≡ get_or present p false = ap (λ k. get_or present k false) same in cc

  none_backward : (es : List Entry) → AllByRecursion (HasItsPriority present) es → backward (of_priority p) es ≡ []
  none_backward [] h = refl
  none_backward (e ∷ es) h = let r = none_backward es h.1 in let o = other e.priority h.0.is in λ i. r i ++ cond (o i) (e ∷ []) []

  -- they are passed by the walk
  pub walk_without : (es : List Entry) → AllByRecursion (HasItsPriority present) es → entries_by_priority es p ≡ entries_by_priority es (p + 1)
  walk_without es h =
      let next : p + 1 ≡ suc p = omega arith in
      sym (ap (entries_by_priority es) next
      ∙ flat_map-append (λ k. backward (of_priority k) es) (below p) (p ∷ []) ∙ ap (λ xs. entries_by_priority es p ++ xs) (append-nil (backward (of_priority p) es))
      ∙ ap (λ xs. entries_by_priority es p ++ xs) (none_backward es h) ∙ append-nil (entries_by_priority es p))

  module _ (t : TableRecord) (usable : ℕ → ℕ → ℕ → Bool) where
    none_waits : (es : List Entry) → AllByRecursion (IsEntry t) es → AllByRecursion (HasItsPriority present) es → filter (λ q. nat_eq (priority_of (as_known t.jobs) q.0 q.1) p) (map pair_of es) ≡ []
    none_waits [] all h = refl
    none_waits (e ∷ es) all h =
        let o : nat_eq (priority_of (as_known t.jobs) e.app.0 e.unit.0) p ≡ false = ap (λ n. nat_eq n p) (sym all.0.priority) ∙ other e.priority h.0.is in
        let rest = filter (λ q. nat_eq (priority_of (as_known t.jobs) q.0 q.1) p) (map pair_of es) in
        ap (λ b. cond b (pair_of e ∷ rest) rest) o ∙ none_waits es all.1 h.1

    -- and by the search
    pub search_without : (es : List Entry) → AllByRecursion (IsEntry t) es → AllByRecursion (HasItsPriority present) es → IsFound t usable (pairs_at t usable p (map pair_of es)) None
    search_without es all h = record { is = sym (ap (λ ps. first_plan_in (flat_map (pairs_on t usable) ps) (board_at t usable) t.entries) (none_waits es all h)); made = tt }
