-- What is counted as spared is what the definitions spare, and so are the sums of what may be taken.
use Rattle.std.proofs.Common.{◌≡◌, ℕ, Bool, true, false, filter, ◌+◌, ◌*◌, ◌<◌, ◌≤◌, cond, not, nat_eq, nat_lt, List, [], ◌∷◌, ◌++◌, map, length, get_or, drop, refl, sym, ◌∙◌, ap, subst, arith, append_assoc}
use Rattle.std.specs.Prelude.{◌&&◌, slice_index}
use Rattle.std.specs.List.{AllByRecursion, sum_by}
use Rattle.std.proofs.lemmas.Bool.Decides.{nat_tests}
use Rattle.std.proofs.lemmas.List.{append-nil, map-append, at_drop_more}
use Rattle.std.proofs.lemmas.List.Sums.{sum_by-cons}
use Rattle.fuxi_terms.specs.Jobs.{group_of, priority_of, size_at}
use Rattle.fuxi_terms.specs.Keys.{Spot}
use Rattle.fuxi_terms.specs.Tables.{spot, Table}
use Rattle.fuxi_terms.proofs.Lists.{all_push}
use Rattle.spec_roles.specs.Placing.{Board}
use Rattle.spec_roles.specs.Preemption.{so_many, part_by, is_guaranteed_in}
use Rattle.grant_table.specs.GrantTables.{TableRecord, as_known}
use Rattle.preempt.specs.Counted.{singles, times_within, least_of, spared_at, all_spared, counts_some}
use Rattle.preempt.specs.declared.entry.Entry.{Entry}
use Rattle.preempt.specs.declared.entry.Need.{Need}
use Rattle.preempt.specs.declared.entry.GroupUse.{GroupUse}
use Rattle.preempt.specs.Given.{board_of, no_group, written, IsEntry, IsGroup, AreGroups, recounted}
use Rattle.preempt.specs.declared.machine_grants.Loose.TheVariants.{Nobody}
use Rattle.preempt.specs.Shelves.{IsLoose, IsUsed, is_loose}
use Rattle.preempt.specs.GrantNumbers.{spared_in_one, part_in, lower_in, spared_in}
use Rattle.preempt.proofs.CountedAsWritten.{least_same, size_is, part_is, at_index}
use Rattle.preempt.proofs.MostTaken.{lower_weight, spared_weight}
use Rattle.preempt.proofs.Whole.{singles_more}
use Rattle.preempt.proofs.Computed.{spared_below}
use Rattle.preempt.proofs.ShelvesLemmas.{spares_beside}

-- what is spared depends on the single grants of what was spared before
spared_same : (B : Board) (table : Table) (es a b : Table) → singles a ≡ singles b → all_spared es B table a ≡ all_spared es B table b
spared_same B table [] a b h = refl
spared_same B table (e ∷ es) a b h =
    let n : List Spot → ℕ = λ xs. least_of e.1 B.cluster.resources (spared_at B table xs e.0 e.1) in
    let same : n (singles a) ≡ n (singles b) = ap n h in
    let longer : singles (a ++ (e.0, n (singles a)) ∷ []) ≡ singles (b ++ (e.0, n (singles b)) ∷ []) = singles_more a e.0 (n (singles a)) ∙ (λ j. h j ++ so_many (same j) e.0) ∙ sym (singles_more b e.0 (n (singles b))) in
    let rest = spared_same B table es (a ++ (e.0, n (singles a)) ∷ []) (b ++ (e.0, n (singles b)) ∷ []) longer in
    λ j. (e.0, same j) ∷ rest j

-- entries without grants weigh nothing
pub some_weigh : (weight : Spot × ℕ → ℕ) → ((s : Spot) → weight (s, 0) ≡ 0) → (es : Table) → sum_by weight (filter counts_some es) ≡ sum_by weight es
some_weigh weight nothing [] = refl
some_weigh weight nothing (e ∷ es) = by (nat_lt 0 e.1) refl (some_weigh weight nothing es)
  where
    by : (b : Bool) → nat_lt 0 e.1 ≡ b → sum_by weight (filter counts_some es) ≡ sum_by weight es → sum_by weight (filter counts_some (e ∷ es)) ≡ sum_by weight (e ∷ es)
    by true is rest =
        let y = ap (λ b. sum_by weight (cond b (e ∷ filter counts_some es) (filter counts_some es))) is ∙ sum_by-cons weight e (filter counts_some es) in
        y ∙ ap (λ n. weight e + n) rest ∙ sym (sum_by-cons weight e es)
    by false is rest =
        let none : e.1 ≡ 0 = grind (arith, nat_tests, is) in
        let z : weight e ≡ 0 = ap (λ n. weight (e.0, n)) none ∙ nothing e.0 in
        let x = sum_by-cons weight e es in
        let same : sum_by weight es ≡ sum_by weight (e ∷ es) = omega (arith, x, z) in
        ap (λ b. sum_by weight (cond b (e ∷ filter counts_some es) (filter counts_some es))) is ∙ (rest ∙ same)

pub nothing_weighs : (B : Board) (table : Table) (t : Spot) (i : ℕ) (s : Spot) → spared_weight B table t i (s, 0) ≡ 0
nothing_weighs B table t i s = elim (is_guaranteed_in B table t && not (nat_eq (B.groups s.job) (B.groups t.job))) as (λ b. cond b 0 0 * B.sizes s.job s.unit i ≡ 0) [ true ↦ omega arith | false ↦ omega arith ]

module _ (tab : TableRecord) (m : ℕ) where
  abbrev entries_at : List Entry → Table
  entries_at es = map (written m) es

  -- what is spared of the rest, beside a set
  abbrev rest_spared : List Entry → Table → Table
  rest_spared es set = filter counts_some (all_spared (entries_at es) (board_of tab) tab.entries set)

  -- where no group is loose nothing is spared
  pub none_spared : (groups : List GroupUse) → AreGroups tab groups → (es : List Entry) → AllByRecursion (IsEntry tab) es → AllByRecursion (IsUsed groups) es → AllByRecursion (IsLoose groups Nobody) es → (set : Table) → singles set ≡ [] → rest_spared es set ≡ []
  none_spared groups are [] h within l set z = refl
  none_spared groups are (e ∷ es) h within l set z = closed ∙ none_spared groups are es h.1 within.1 l.1 (set ++ (s, n (singles set)) ∷ []) (singles_more set s (n (singles set)) ∙ (λ j. z j ++ so_many (none j) s))
    where
      s : Spot
      s = spot e.app.0 e.unit.0 m

      n : List Spot → ℕ
      n xs = least_of e.count tab.cluster.resources (spared_at (board_of tab) tab.entries xs s e.count)

      behind : Table
      behind = all_spared (entries_at es) (board_of tab) tab.entries (set ++ (s, n (singles set)) ∷ [])

      by : (b : Bool) → nat_lt 0 (n []) ≡ b → n [] ≡ 0
      by false f = grind (arith, nat_tests, f)
      by true some =
          let spares : is_loose Nobody e.group ≡ true = l.0.loosened (sym (spares_beside tab groups are m e h.0 within.0) ∙ spared_below (board_of tab) tab.entries s [] s e.count 0 (grind (arith, nat_tests, some))) in
          cc

      none : n (singles set) ≡ 0
      none = ap n z ∙ by (nat_lt 0 (n [])) refl

      closed : filter counts_some ((s, n (singles set)) ∷ behind) ≡ filter counts_some behind
      closed = ap (λ k. cond (nat_lt 0 k) ((s, n (singles set)) ∷ filter counts_some behind) (filter counts_some behind)) none

  -- before the entry at an index: what is spared so far, and of the rest
  pub record AtSpared (entries : List Entry) (k : ℕ) (set : List Entry) : Type 0 where
    pub each : AllByRecursion (IsEntry tab) set
    pub counted : entries_at set ++ rest_spared (drop k entries) (entries_at set) ≡ rest_spared entries []

  pub spared_starts : (entries : List Entry) → AtSpared entries 0 []
  spared_starts entries = record { each = tt; counted = refl }

  module _ (entries : List Entry) (k : ℕ) (set : List Entry) (resources : ℕ) (groups : List GroupUse) (d : Entry) (part : List ℕ) (n : ℕ)
      (all : AllByRecursion (IsEntry tab) entries) (are : AreGroups tab groups) (res : resources ≡ tab.cluster.resources) (at : AtSpared entries k set) (lt : k < length entries) (few : resources ≤ 8)
      (p : (i : ℕ) → i < 8 → slice_index part i ≡ part_in (get_or entries k d).group i set)
      (is : n ≡ least_of (get_or entries k d).count resources (spared_in_one (get_or groups (get_or entries k d).group no_group) part (get_or entries k d).size.now.q (get_or entries k d).count)) where
    abbrev e : Entry
    e = get_or entries k d

    abbrev s : Spot
    s = spot e.app.0 e.unit.0 m

    entry : IsEntry tab e
    entry = at_index (IsEntry tab) entries k d lt all

    -- the number that the definitions spare, and the rest behind it
    abbrev c : ℕ
    c = least_of e.count tab.cluster.resources (spared_at (board_of tab) tab.entries (singles (entries_at set)) s e.count)

    same : n ≡ c
    same =
        let x = get_or groups e.group no_group in
        let group : IsGroup tab (group_of (as_known tab.jobs) e.app.0) x = subst (λ g. IsGroup tab g x) entry.group (are.each e.group entry.small) in
        is ∙ ap (λ j. least_of e.count j (spared_in_one x part e.size.now.q e.count)) res
        ∙ least_same e.count tab.cluster.resources (spared_in_one x part e.size.now.q e.count) (spared_at (board_of tab) tab.entries (singles (entries_at set)) s e.count)
        (λ i i_lt.
        let q = p i (omega (arith, i_lt, few, res)) ∙ (part_is tab m e.group i set i_lt at.each ∙ ap (λ g. part_by (group_of (as_known tab.jobs)) (size_at (as_known tab.jobs)) g i (singles (entries_at set))) entry.group) in
        λ j. times_within (group.quota i j + q j) (group.used i j) (size_is tab e entry i j) e.count)

    abbrev behind : Table
    behind = all_spared (entries_at (drop (k + 1) entries)) (board_of tab) tab.entries (entries_at set ++ (s, c) ∷ [])

    split : entries_at set ++ filter counts_some ((s, c) ∷ behind) ≡ rest_spared entries []
    split = sym (at_drop_more (λ es. entries_at set ++ rest_spared es (entries_at set)) entries k d lt) ∙ at.counted

    pub spared_goes_on : 0 < n → AtSpared entries (k + 1) (set ++ recounted e n ∷ [])
    spared_goes_on some =
        let grown : entries_at (set ++ recounted e n ∷ []) ≡ entries_at set ++ (s, c) ∷ [] = map-append (written m) set (recounted e n ∷ []) ∙ ap (λ n. entries_at set ++ (s, n) ∷ []) same in
        let counts : nat_lt 0 c ≡ true = grind (arith, nat_tests, some, same) in
        record {
          each = all_push (IsEntry tab) set (recounted e n) at.each (record { unit = entry.unit; group = entry.group; small = entry.small; priority = entry.priority; size = entry.size });
          counted =
              ap (λ xs. xs ++ rest_spared (drop (k + 1) entries) xs) grown
              ∙ append_assoc (entries_at set) ((s, c) ∷ []) (filter counts_some behind)
              ∙ sym (ap (λ b. entries_at set ++ cond b ((s, c) ∷ filter counts_some behind) (filter counts_some behind)) counts)
              ∙ split;
        }

    pub spared_passes : n ≡ 0 → AtSpared entries (k + 1) set
    spared_passes none =
        let zero_c : c ≡ 0 = sym same ∙ none in
        let less : nat_lt 0 c ≡ false = ap (nat_lt 0) zero_c in
        let before : singles (entries_at set) ≡ singles (entries_at set ++ (s, c) ∷ []) = sym (singles_more (entries_at set) s c ∙ ap (λ j. singles (entries_at set) ++ so_many j s) zero_c ∙ append-nil (singles (entries_at set))) in
        record {
          each = at.each;
          counted =
              ap (λ xs. entries_at set ++ filter counts_some xs) (spared_same (board_of tab) tab.entries (entries_at (drop (k + 1) entries)) (entries_at set) (entries_at set ++ (s, c) ∷ []) before)
              ∙ sym (ap (λ b. entries_at set ++ cond b ((s, c) ∷ filter counts_some behind) (filter counts_some behind)) less)
              ∙ split;
        }

  -- the sums, for one more of the kind of a unit
  module _ (a u : ℕ) (n : Need) (i : ℕ) where
    pub lower_is : n.group ≡ group_of (as_known tab.jobs) a → n.priority ≡ priority_of (as_known tab.jobs) a u → (es : List Entry) → AllByRecursion (IsEntry tab) es
        → lower_in n i es ≡ sum_by (lower_weight (board_of tab) tab.entries (spot a u m) i) (entries_at es)
    lower_is group priority [] h = refl
    lower_is group priority (e ∷ es) h =
        let rest = lower_is group priority es h.1 in
        let x = sum_by-cons (λ (e : Entry). cond (nat_eq e.group n.group && nat_lt e.priority n.priority) e.count 0 * slice_index e.size.now.q i) e es in
        let y = sum_by-cons (lower_weight (board_of tab) tab.entries (spot a u m) i) (written m e) (entries_at es) in
        let here : cond (nat_eq e.group n.group && nat_lt e.priority n.priority) e.count 0 * slice_index e.size.now.q i ≡ lower_weight (board_of tab) tab.entries (spot a u m) i (written m e) =
        λ j. cond (nat_eq (h.0.group j) (group j) && nat_lt (h.0.priority j) (priority j)) e.count 0 * size_is tab e h.0 i j in
        omega (arith, rest, x, y, here)

    pub spared_is : n.group ≡ group_of (as_known tab.jobs) a → n.guaranteed ≡ is_guaranteed_in (board_of tab) tab.entries (spot a u m) → (es : List Entry) → AllByRecursion (IsEntry tab) es
        → spared_in n i es ≡ sum_by (spared_weight (board_of tab) tab.entries (spot a u m) i) (entries_at es)
    spared_is group guaranteed [] h = refl
    spared_is group guaranteed (e ∷ es) h =
        let rest = spared_is group guaranteed es h.1 in
        let x = sum_by-cons (λ (e : Entry). cond (n.guaranteed && not (nat_eq e.group n.group)) e.count 0 * slice_index e.size.now.q i) e es in
        let y = sum_by-cons (spared_weight (board_of tab) tab.entries (spot a u m) i) (written m e) (entries_at es) in
        let here : cond (n.guaranteed && not (nat_eq e.group n.group)) e.count 0 * slice_index e.size.now.q i ≡ spared_weight (board_of tab) tab.entries (spot a u m) i (written m e) =
        λ j. cond (guaranteed j && not (nat_eq (h.0.group j) (group j))) e.count 0 * size_is tab e h.0 i j in
        omega (arith, rest, x, y, here)
