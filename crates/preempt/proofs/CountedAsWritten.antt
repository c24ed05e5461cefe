-- What the code counts is what the definitions count.
use Rattle.std.proofs.Common.{◌≡◌, ◌^◌, set, length-append, ℕ, zero, suc, ◌+◌, ◌*◌, ◌<◌, ◌≤◌, Bool, true, false, cond, nat_eq, nat_lt, List, [], ◌∷◌, ◌++◌, map, length, get_or, drop, refl, sym, ◌∙◌, ap, subst, arith, min, max}
use Rattle.std.specs.Prelude.{◌&&◌, slice_index, replicate}
use Rattle.std.specs.List.{AllByRecursion, sum_by}
use Rattle.std.proofs.lemmas.Bool.Decides.{nat_tests}
use Rattle.std.proofs.lemmas.List.{map-append, at_drop_more, get_or-replicate}
use Rattle.std.proofs.lemmas.List.Sums.{sum_by-cons, sum_by-append}
use Rattle.fuxi_terms.specs.Jobs.{group_of, size_at, unit_of}
use Rattle.fuxi_terms.specs.Keys.{Spot}
use Rattle.fuxi_terms.specs.Lists.{below_each}
use Rattle.fuxi_terms.specs.Tables.{spot, Table}
use Rattle.fuxi_terms.proofs.ByPlace.{at_place-get_or}
use Rattle.fuxi_terms.proofs.Lists.{all_push}
use Rattle.spec_roles.specs.Preemption.{so_many, set_by, part_by}
use Rattle.grant_table.specs.GrantTables.{TableRecord, as_known}
use Rattle.preempt.specs.Counted.{singles, times_to_reach, times_within, greatest_of, least_of, own_size, enough_at, enough_times, spared_at, may_times, taken_count, counted_taken, counted_kept}
use Rattle.preempt.specs.declared.entry.Entry.{Entry}
use Rattle.preempt.specs.declared.entry.Need.{Need}
use Rattle.preempt.specs.declared.entry.GroupUse.{GroupUse}
use Rattle.preempt.specs.declared.entry.Sums.{Sums}
use Rattle.preempt.specs.Given.{board_of, no_group, written, IsEntry, IsNeed, IsGroup, AreGiven, recounted}
use Rattle.preempt.specs.GrantNumbers.{needed_in_one, spared_in_one, total_in, part_in, needed_number, may_number}
use Rattle.preempt.specs.GroupSums.{GroupParts, no_sums, taken_at, ArePlaces, ArePartsOf}
use Rattle.preempt.proofs.Sums.{sum_many}

pub greatest_same : (n : ℕ) (f g : ℕ → ℕ) → ((i : ℕ) → i < n → f i ≡ g i) → greatest_of n f ≡ greatest_of n g
greatest_same zero f g h = refl
greatest_same (suc n) f g h = let a = greatest_same n f g (λ i lt. h i (omega (arith, lt))) in let b = h n (omega arith) in λ k. max (a k) (b k)

pub least_same : (m n : ℕ) (f g : ℕ → ℕ) → ((i : ℕ) → i < n → f i ≡ g i) → least_of m n f ≡ least_of m n g
least_same m zero f g h = refl
least_same m (suc n) f g h = let a = least_same m n f g (λ i lt. h i (omega (arith, lt))) in let b = h n (omega arith) in λ k. min (a k) (b k)

pub each_same : (n : ℕ) (f g : ℕ → Bool) → ((i : ℕ) → i < n → f i ≡ g i) → below_each n f ≡ below_each n g
each_same zero f g h = refl
each_same (suc n) f g h = let a = each_same n f g (λ i lt. h i (omega (arith, lt))) in let b = h n (omega arith) in λ k. a k && b k

module _ (tab : TableRecord) where
  -- the size of an entry, in one resource
  pub size_is : (e : Entry) → IsEntry tab e → (i : ℕ) → slice_index e.size.now.q i ≡ size_at (as_known tab.jobs) e.app.0 e.unit.0 i
  size_is e h i = ap (λ xs. get_or xs i 0) h.size ∙ sym (at_place-get_or (unit_of (as_known tab.jobs) e.app.0 e.unit.0).size i)

  -- Sums
  pub total_is : (m i : ℕ) (set : List Entry) → i < tab.cluster.resources → AllByRecursion (IsEntry tab) set → total_in i set ≡ set_by (size_at (as_known tab.jobs)) i (singles (map (written m) set))
  total_is m i [] lt h = refl
  total_is m i (e ∷ es) lt h =
      let w : Spot → ℕ = λ s. size_at (as_known tab.jobs) s.job s.unit i in
      let rest = total_is m i es lt h.1 in
      let a = sum_by-cons (λ (e : Entry). e.count * slice_index e.size.now.q i) e es in
      let b = sum_by-append w (so_many e.count (spot e.app.0 e.unit.0 m)) (singles (map (written m) es)) in
      let d = sum_many w e.count (spot e.app.0 e.unit.0 m) in
      let s : e.count * slice_index e.size.now.q i ≡ e.count * size_at (as_known tab.jobs) e.app.0 e.unit.0 i = ap (λ k. e.count * k) (size_is e h.0 i) in
      omega (arith, rest, a, b, d, s)

  pub part_is : (m g i : ℕ) (set : List Entry) → i < tab.cluster.resources → AllByRecursion (IsEntry tab) set → part_in g i set ≡ part_by (group_of (as_known tab.jobs)) (size_at (as_known tab.jobs)) g i (singles (map (written m) set))
  part_is m g i [] lt h = refl
  part_is m g i (e ∷ es) lt h =
      let w : Spot → ℕ = λ s. own_size (board_of tab) g s i in
      let rest = part_is m g i es lt h.1 in
      let a = sum_by-cons (λ (e : Entry). cond (nat_eq e.group g) e.count 0 * slice_index e.size.now.q i) e es in
      let b = sum_by-append w (so_many e.count (spot e.app.0 e.unit.0 m)) (singles (map (written m) es)) in
      let d = sum_many w e.count (spot e.app.0 e.unit.0 m) in
      let s : cond (nat_eq e.group g) e.count 0 * slice_index e.size.now.q i ≡ cond (nat_eq (group_of (as_known tab.jobs) e.app.0) g) e.count 0 * size_at (as_known tab.jobs) e.app.0 e.unit.0 i = (λ k. cond (nat_eq (h.0.group k) g) e.count 0 * size_is e h.0 i k) in
      let t = within (nat_eq (group_of (as_known tab.jobs) e.app.0) g) e.count (size_at (as_known tab.jobs) e.app.0 e.unit.0 i) in
      omega (arith, rest, a, b, d, s, t)
    where
      within : (b : Bool) (n k : ℕ) → cond b n 0 * k ≡ n * cond b k 0
      within true n k = refl
      within false n k = omega arith

  pub needed_is : (t : Spot) (n : Need) (set : List Spot) (sums own : List ℕ) (e : Entry) (m most : ℕ) → IsNeed tab t n → IsEntry tab e
      → ((i : ℕ) → i < tab.cluster.resources → slice_index sums i ≡ set_by (size_at (as_known tab.jobs)) i set) → ((i : ℕ) → i < tab.cluster.resources → slice_index own i ≡ part_by (group_of (as_known tab.jobs)) (size_at (as_known tab.jobs)) (group_of (as_known tab.jobs) t.job) i set)
      → needed_number n sums own e most ≡ enough_times (board_of tab) tab.entries t set (spot e.app.0 e.unit.0 m) most
  needed_is t n set sums own e m most need entry a o =
      ap (λ k. greatest_of k (needed_in_one n sums own e most)) need.resources
      ∙ greatest_same tab.cluster.resources (needed_in_one n sums own e most) (enough_at (board_of tab) tab.entries t set (spot e.app.0 e.unit.0 m) most)
      (λ i lt. λ k. max (times_to_reach (need.has i lt k + a i lt k) (need.fits i lt k) (size_is e entry i k) most)
      (times_to_reach (need.limit i lt k + o i lt k) (need.allowed i lt k) (cond (nat_eq (entry.group k) (need.group k)) (size_is e entry i k) 0) most))

  pub may_number_is : (t : Spot) (n : Need) (set : List Spot) (x : GroupUse) (part : List ℕ) (e : Entry) (m : ℕ) → IsNeed tab t n → IsEntry tab e → IsGroup tab (group_of (as_known tab.jobs) e.app.0) x
      → ((i : ℕ) → i < tab.cluster.resources → slice_index part i ≡ part_by (group_of (as_known tab.jobs)) (size_at (as_known tab.jobs)) (group_of (as_known tab.jobs) e.app.0) i set)
      → may_number n x part e ≡ may_times (board_of tab) tab.entries t set (spot e.app.0 e.unit.0 m) e.count
  may_number_is t n set x part e m need entry group p =
      let l = ap (λ k. least_of e.count k (spared_in_one x part e.size.now.q e.count)) need.resources
      ∙ least_same e.count tab.cluster.resources (spared_in_one x part e.size.now.q e.count) (spared_at (board_of tab) tab.entries set (spot e.app.0 e.unit.0 m) e.count)
      (λ i lt. λ k. times_within (group.quota i k + p i lt k) (group.used i k) (size_is e entry i k) e.count) in
      λ k. cond (nat_eq (entry.group k) (need.group k)) (cond (nat_lt (entry.priority k) (need.priority k)) e.count 0) (cond (need.guaranteed k) (l k) 0)

-- Steps
pub at_index : (P : Entry → Type 0) (xs : List Entry) (k : ℕ) (d : Entry) → k < length xs → AllByRecursion P xs → P (get_or xs k d)
at_index P [] k d lt h = absurd (omega (arith, lt))
at_index P (x ∷ xs) zero d lt h = h.0
at_index P (x ∷ xs) (suc k) d lt h = at_index P xs k d (omega (arith, lt)) h.1

all_drop : (P : Entry → Type 0) (k : ℕ) (xs : List Entry) → AllByRecursion P xs → AllByRecursion P (drop k xs)
all_drop P zero xs h = h
all_drop P (suc k) [] h = tt
all_drop P (suc k) (x ∷ xs) h = all_drop P k xs h.1

module _ (tab : TableRecord) (t : Spot) where
  abbrev pub entries_of : List Entry → Table
  entries_of es = map (written t.machine) es

  -- before the entry at an index: what was taken, and the walk goes on from there
  pub record AtTaking (entries : List Entry) (k : ℕ) (set : List Entry) : Type 0 where
    pub each : AllByRecursion (IsEntry tab) set
    pub counted : counted_taken (entries_of (drop k entries)) (board_of tab) tab.entries t (entries_of set) ≡ counted_taken (entries_of entries) (board_of tab) tab.entries t []

  pub taking_starts : (entries : List Entry) → AtTaking entries 0 []
  taking_starts entries = record { each = tt; counted = refl }

  taken_number : (entries set : List Entry) (need : Need) (groups : List GroupUse) (e : Entry) (sums own part : List ℕ) (q r : ℕ)
      → AreGiven tab t entries need groups → AllByRecursion (IsEntry tab) set → IsEntry tab e → need.resources ≤ 8 → e.group < 32
      → ((i : ℕ) → i < 8 → slice_index sums i ≡ total_in i set)
      → ((i : ℕ) → i < 8 → slice_index own i ≡ part_in need.group i set)
      → ((i : ℕ) → i < 8 → slice_index part i ≡ part_in e.group i set)
      → q ≡ may_number need (get_or groups e.group no_group) part e
      → r ≡ needed_number need sums own e q
      → r ≡ taken_count (board_of tab) tab.entries t (singles (entries_of set)) (spot e.app.0 e.unit.0 t.machine) e.count
  taken_number entries set need groups e sums own part q r given each entry few inside a o p may n =
      let res = given.need.resources in
      let g = given.need.group in
      let x = given.groups_are.each e.group inside in
      let x' : IsGroup tab (group_of (as_known tab.jobs) e.app.0) (get_or groups e.group no_group) = subst (λ g. IsGroup tab g (get_or groups e.group no_group)) entry.group x in
      let m = may_number_is tab t need (singles (entries_of set)) (get_or groups e.group no_group) part e t.machine given.need entry x'
      (λ i lt. p i (omega (arith, lt, few, res)) ∙ (part_is tab t.machine e.group i set lt each ∙ ap (λ g. part_by (group_of (as_known tab.jobs)) (size_at (as_known tab.jobs)) g i (singles (entries_of set))) entry.group)) in
      n ∙ (needed_is tab t need (singles (entries_of set)) sums own e t.machine q given.need entry
      (λ i lt. a i (omega (arith, lt, few, res)) ∙ total_is tab t.machine i set lt each)
      (λ i lt. o i (omega (arith, lt, few, res)) ∙ (part_is tab t.machine need.group i set lt each ∙ ap (λ g. part_by (group_of (as_known tab.jobs)) (size_at (as_known tab.jobs)) g i (singles (entries_of set))) g))
      ∙ ap (λ q. enough_times (board_of tab) tab.entries t (singles (entries_of set)) (spot e.app.0 e.unit.0 t.machine) q) (may ∙ m))

  pub taking_goes_on : (entries : List Entry) (k : ℕ) (set : List Entry) (need : Need) (groups : List GroupUse) (d : Entry) (sums own part : List ℕ) (q r : ℕ)
      → AreGiven tab t entries need groups → AtTaking entries k set → k < length entries → need.resources ≤ 8 → (get_or entries k d).group < 32
      → ((i : ℕ) → i < 8 → slice_index sums i ≡ total_in i set)
      → ((i : ℕ) → i < 8 → slice_index own i ≡ part_in need.group i set)
      → ((i : ℕ) → i < 8 → slice_index part i ≡ part_in (get_or entries k d).group i set)
      → q ≡ may_number need (get_or groups (get_or entries k d).group no_group) part (get_or entries k d)
      → r ≡ needed_number need sums own (get_or entries k d) q
      → AtTaking entries (k + 1) (set ++ recounted (get_or entries k d) r ∷ [])
  taking_goes_on entries k set need groups d sums own part q r given at lt few inside a o p may n =
      let e = get_or entries k d in
      let entry = at_index (IsEntry tab) entries k d lt given.each in
      let same = taken_number entries set need groups e sums own part q r given at.each entry few inside a o p may n in
      record {
        each = all_push (IsEntry tab) set (recounted e r) at.each (record { unit = entry.unit; group = entry.group; small = entry.small; priority = entry.priority; size = entry.size });
        counted =
            ap (λ x. counted_taken (entries_of (drop (k + 1) entries)) (board_of tab) tab.entries t x) (map-append (written t.machine) set (recounted e r ∷ [])
            ∙ ap (λ n. entries_of set ++ (spot e.app.0 e.unit.0 t.machine, n) ∷ []) same)
            ∙ (sym (at_drop_more (λ x. counted_taken (entries_of x) (board_of tab) tab.entries t (entries_of set)) entries k d lt)
            ∙ at.counted);
      }

  -- the same of what is kept
  pub record AtKeeping (set : List Entry) (k : ℕ) (kept : List Entry) : Type 0 where
    pub each : AllByRecursion (IsEntry tab) kept
    pub counted : counted_kept (entries_of (drop k set)) (board_of tab) tab.entries t (entries_of kept) ≡ counted_kept (entries_of set) (board_of tab) tab.entries t []

  pub keeping_starts : (set : List Entry) → AtKeeping set 0 []
  keeping_starts set = record { each = tt; counted = refl }

  both_sums : (w : Spot → ℕ) (a b : List Entry) → sum_by w (singles (entries_of a) ++ singles (entries_of b)) ≡ sum_by w (singles (entries_of a)) + sum_by w (singles (entries_of b))
  both_sums w a b = sum_by-append w (singles (entries_of a)) (singles (entries_of b))

  pub keeping_goes_on : (set : List Entry) (k : ℕ) (kept : List Entry) (need : Need) (d : Entry) (sums own : List ℕ) (r : ℕ)
      → IsNeed tab t need → AllByRecursion (IsEntry tab) set → AtKeeping set k kept → k < length set → need.resources ≤ 8
      → ((i : ℕ) → i < 8 → slice_index sums i ≡ total_in i kept + total_in i (drop (k + 1) set))
      → ((i : ℕ) → i < 8 → slice_index own i ≡ part_in need.group i kept + part_in need.group i (drop (k + 1) set))
      → r ≡ needed_number need sums own (get_or set k d) (get_or set k d).count
      → AtKeeping set (k + 1) (kept ++ recounted (get_or set k d) r ∷ [])
  keeping_goes_on set k kept need d sums own r is_need each at lt few a o n =
      let e = get_or set k d in
      let rest = drop (k + 1) set in
      let entry = at_index (IsEntry tab) set k d lt each in
      let later = all_drop (IsEntry tab) (k + 1) set each in
      let res = is_need.resources in
      let same : r ≡ enough_times (board_of tab) tab.entries t (singles (entries_of kept) ++ singles (entries_of rest)) (spot e.app.0 e.unit.0 t.machine) e.count =
      n ∙ needed_is tab t need (singles (entries_of kept) ++ singles (entries_of rest)) sums own e t.machine e.count is_need entry
      (λ i i_lt.
      let x = a i (omega (arith, i_lt, few, res)) in
      let y = total_is tab t.machine i kept i_lt at.each in
      let z = total_is tab t.machine i rest i_lt later in
      let s = both_sums (λ s. size_at (as_known tab.jobs) s.job s.unit i) kept rest in
      x ∙ ((λ j. y j + z j) ∙ sym s))
      (λ i i_lt.
      let x = o i (omega (arith, i_lt, few, res)) in
      let y = part_is tab t.machine need.group i kept i_lt at.each in
      let z = part_is tab t.machine need.group i rest i_lt later in
      let s = both_sums (λ s. own_size (board_of tab) need.group s i) kept rest in
      x ∙ ((λ j. y j + z j) ∙ (sym s ∙ ap (λ g. part_by (group_of (as_known tab.jobs)) (size_at (as_known tab.jobs)) g i (singles (entries_of kept) ++ singles (entries_of rest))) is_need.group))) in
      record {
        each = all_push (IsEntry tab) kept (recounted e r) at.each (record { unit = entry.unit; group = entry.group; small = entry.small; priority = entry.priority; size = entry.size });
        counted =
            ap (λ x. counted_kept (entries_of rest) (board_of tab) tab.entries t x) (map-append (written t.machine) kept (recounted e r ∷ [])
            ∙ ap (λ n. entries_of kept ++ (spot e.app.0 e.unit.0 t.machine, n) ∷ []) same)
            ∙ (sym (at_drop_more (λ x. counted_kept (entries_of x) (board_of tab) tab.entries t (entries_of kept)) set k d lt)
            ∙ at.counted);
      }

-- sums with one entry more, and with the first of the rest
pub total_push : (i : ℕ) (set : List Entry) (x : Entry) → total_in i (set ++ x ∷ []) ≡ total_in i set + x.count * slice_index x.size.now.q i
total_push i set x =
    let w : Entry → ℕ = λ e. e.count * slice_index e.size.now.q i in
    let a = sum_by-append w set (x ∷ []) in
    let b = sum_by-cons w x [] in
    let z : sum_by w [] ≡ 0 = refl in
    omega (arith, a, b, z)

pub part_push : (g i : ℕ) (set : List Entry) (x : Entry) → part_in g i (set ++ x ∷ []) ≡ part_in g i set + cond (nat_eq x.group g) x.count 0 * slice_index x.size.now.q i
part_push g i set x =
    let w : Entry → ℕ = λ e. cond (nat_eq e.group g) e.count 0 * slice_index e.size.now.q i in
    let a = sum_by-append w set (x ∷ []) in
    let b = sum_by-cons w x [] in
    let z : sum_by w [] ≡ 0 = refl in
    omega (arith, a, b, z)

pub total_first : (i k : ℕ) (d : Entry) (set : List Entry) → k < length set → total_in i (drop k set) ≡ (get_or set k d).count * slice_index (get_or set k d).size.now.q i + total_in i (drop (k + 1) set)
total_first i k d set lt = at_drop_more (total_in i) set k d lt ∙ sum_by-cons (λ (e : Entry). e.count * slice_index e.size.now.q i) (get_or set k d) (drop (k + 1) set)

pub part_first : (g i k : ℕ) (d : Entry) (set : List Entry) → k < length set → part_in g i (drop k set) ≡ cond (nat_eq (get_or set k d).group g) (get_or set k d).count 0 * slice_index (get_or set k d).size.now.q i + part_in g i (drop (k + 1) set)
part_first g i k d set lt = at_drop_more (part_in g i) set k d lt ∙ sum_by-cons (λ (e : Entry). cond (nat_eq e.group g) e.count 0 * slice_index e.size.now.q i) (get_or set k d) (drop (k + 1) set)

-- sums by group, with an entry of which nothing is taken
pub parts_same : (parts : GroupParts) (es : List Entry) (x : Entry) → x.count ≡ 0 → ArePartsOf parts es → ArePartsOf parts (es ++ x ∷ [])
parts_same parts es x none h = record {
  is = λ g i g_lt i_lt. let p = part_push g i es x in let z = nothing g i (nat_eq x.group g) in let o = h.is g i g_lt i_lt in omega (arith, p, z, o);
  small = λ g i g_lt i_lt. let n = length-append es (x ∷ []) in let o = h.small g i g_lt i_lt in omega (arith, n, o);
}
  where
    nothing : (g i : ℕ) (b : Bool) → cond b x.count 0 * slice_index x.size.now.q i ≡ 0
    nothing g i true = ap (λ n. n * slice_index x.size.now.q i) none ∙ omega arith
    nothing g i false = omega arith

-- sums by group, with one entry more
pub parts_more : (old new : GroupParts) (es : List Entry) (x : Entry) (part more : List ℕ) → ArePartsOf old es → x.group < 32
    → ((i : ℕ) → i < 8 → slice_index part i ≡ taken_at old x.group i)
    → ((i : ℕ) → i < 8 → slice_index more i ≡ slice_index part i + x.count * slice_index x.size.now.q i)
    → ((i : ℕ) → i < 8 → slice_index more i ≤ slice_index part i + 2 ^ 96)
    → ((g i : ℕ) → g < 32 → taken_at new g i ≡ cond (nat_eq x.group g) (slice_index more i) (taken_at old g i))
    → ArePartsOf new (es ++ x ∷ [])
parts_more old new es x part more h inside here is small put = record {
  is = λ g i g_lt i_lt. by_is g i g_lt i_lt (nat_eq x.group g) refl;
  small = λ g i g_lt i_lt. by_small g i g_lt i_lt (nat_eq x.group g) refl (length-append es (x ∷ []));
}
  where
    by_is : (g i : ℕ) → g < 32 → i < 8 → (b : Bool) → nat_eq x.group g ≡ b → taken_at new g i ≡ part_in g i (es ++ x ∷ [])
    by_is g i g_lt i_lt true e =
        let same : x.group ≡ g = grind (arith, nat_tests) in
        let p = part_push g i es x in
        let one : cond (nat_eq x.group g) x.count 0 * slice_index x.size.now.q i ≡ x.count * slice_index x.size.now.q i = ap (λ b. cond b x.count 0 * slice_index x.size.now.q i) e in
        let a : taken_at new g i ≡ slice_index more i = put g i g_lt ∙ ap (λ b. cond b (slice_index more i) (taken_at old g i)) e in
        let d = is i i_lt in
        let f = here i i_lt ∙ ap (λ j. taken_at old j i) same ∙ h.is g i g_lt i_lt in
        omega (arith, p, one, a, d, f)
    by_is g i g_lt i_lt false e =
        let p = part_push g i es x in
        let none : cond (nat_eq x.group g) x.count 0 * slice_index x.size.now.q i ≡ 0 = ap (λ b. cond b x.count 0 * slice_index x.size.now.q i) e ∙ omega arith in
        let a : taken_at new g i ≡ taken_at old g i = put g i g_lt ∙ ap (λ b. cond b (slice_index more i) (taken_at old g i)) e in
        let f = h.is g i g_lt i_lt in
        omega (arith, p, none, a, f)

    by_small : (g i : ℕ) → g < 32 → i < 8 → (b : Bool) → nat_eq x.group g ≡ b → length (es ++ x ∷ []) ≡ length es + 1 → taken_at new g i ≤ length (es ++ x ∷ []) * 2 ^ 96
    by_small g i g_lt i_lt true e longer =
        let a : taken_at new g i ≡ slice_index more i = put g i g_lt ∙ ap (λ b. cond b (slice_index more i) (taken_at old g i)) e in
        let d = small i i_lt in
        let s = here i i_lt in
        let f = h.small x.group i inside i_lt in
        omega (arith, longer, a, d, s, f)
    by_small g i g_lt i_lt false e longer =
        let a : taken_at new g i ≡ taken_at old g i = put g i g_lt ∙ ap (λ b. cond b (slice_index more i) (taken_at old g i)) e in
        let f = h.small g i g_lt i_lt in
        omega (arith, longer, a, f)

-- sums of nothing
pub zeros_at : (i : ℕ) → i < 8 → ◌≡◌ {A = ℕ} (get_or (replicate 8 0) i 0) 0
zeros_at i lt = get_or-replicate 8 i 0 0 lt

pub parts_start : (places : List ℕ) (sums : List Sums) → ArePartsOf (record { begun = replicate 32 false; places = places; sums = sums }) []
parts_start places sums = record {
  is = λ g i g_lt i_lt. at g i g_lt;
  small = λ g i g_lt i_lt. let z = at g i g_lt in omega (arith, z);
}
  where
    at : (g i : ℕ) → g < 32 → taken_at (record { begun = replicate 32 false; places = places; sums = sums }) g i ≡ 0
    at g i g_lt = ap (λ b. cond b (slice_index (get_or sums (get_or places g 0) no_sums).q i) 0) (get_or-replicate 32 g false false g_lt)

-- no group has begun
none_begun : (n g : ℕ) → get_or (replicate n false) g false ≡ false
none_begun zero g = refl
none_begun (suc n) zero = refl
none_begun (suc n) (suc g) = none_begun n g

pub places_start : (places : List ℕ) (sums : List Sums) → ArePlaces (replicate 32 false) places sums
places_start places sums = record { inside = λ g t. let f = none_begun 32 g in cc }
