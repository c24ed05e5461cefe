-- What is kept of a machine is what the table says of it, and its bounds tell when nothing may be taken.
use Rattle.std.proofs.Common.{inl, inr, ◌≡◌, ◌≢◌, ℕ, zero, suc, ◌+◌, ◌-◌, ◌<◌, ◌≤◌, Bool, true, false, cond, not, nat_eq, nat_lt, List, [], ◌∷◌, ◌++◌, length, map, get_or, set, take, min, Some, None, refl, sym, ◌∙◌, ap, subst, arith, get_or-set_same, get_or-set_other}
use Rattle.std.specs.Prelude.{◌&&◌, ◌||◌, IsTrue, slice_get, Option}
use Rattle.std.specs.Option.{unwrap_or, option_map}
use Rattle.std.specs.List.{AllByRecursion, flat_map, list_all}
use Rattle.std.proofs.Math.ListN.{get_or-eq_default}
use Rattle.std.proofs.lemmas.Bool.{cases_lt}
use Rattle.std.proofs.lemmas.Bool.Decides.{nat_tests}
use Rattle.fuxi_terms.specs.Cluster.{ClusterRecord, GroupRecord, MachineRecord, is_valid_cluster, is_valid_group, is_valid_machine, is_vector_of, is_between, no_machine, quota_at, no_group as no_record}
use Rattle.fuxi_terms.specs.Jobs.{priority_of, group_of, size_at}
use Rattle.fuxi_terms.specs.Keys.{Spot}
use Rattle.fuxi_terms.specs.Tables.{spot, held_on, usage_at, Table}
use Rattle.fuxi_terms.specs.Vectors.{at_place, minus}
use Rattle.fuxi_terms.proofs.Alls.{all_append, all_more}
use Rattle.fuxi_terms.proofs.Booleans.{both_true, not_false, number_is, both_false, and_false, same_tests}
use Rattle.fuxi_terms.proofs.ByPlace.{at_place-get_or, fits_at, fits_from, get_or-minus}
use Rattle.fuxi_terms.proofs.Members.{each_from, each_place}
use Rattle.fuxi_terms.proofs.VectorLaws.{get_or-padded}
use Rattle.fuxi_terms.proofs.Lists.{take_last}
use Rattle.cluster_desc.specs.Records.{machine_of}
use Rattle.cluster_desc.specs.declared.cluster.Machine.{Machine}
use Rattle.spec_roles.specs.Placing.{Board}
use Rattle.spec_roles.specs.Preemption.{needed_in, so_many, is_enough_in, is_spared_in, is_guaranteed_in, may_take_in, taken_in, walk_in, is_some_set, victims_in}
use Rattle.grant_table.specs.GrantTables.{TableRecord, as_known}
use Rattle.preempt.specs.Counted.{singles}
use Rattle.preempt.specs.declared.entry.Entry.{Entry}
use Rattle.preempt.specs.declared.entry.Need.{Need}
use Rattle.preempt.specs.declared.entry.GroupUse.{GroupUse}
use Rattle.preempt.specs.declared.machine_grants.Loose.{Loose}
use Rattle.preempt.specs.declared.machine_grants.Loose.TheVariants.{Nobody, One, Several}
use Rattle.preempt.specs.Given.{board_of, no_group, written, pair_of, IsEntry, IsGroup, AreGroups}
use Rattle.preempt.specs.Shelves.{spares, is_loose, is_other_loose, IsLow, IsLoose, IsUsed, IsWanted, AreHolders, HasNoVictims, IsLike, IsShut, may_take, may_take_some}
use Rattle.preempt.specs.Walks.{entry_on}
use Rattle.preempt.proofs.CountedAsWritten.{size_is}
use Rattle.preempt.proofs.UnitSteps.{got}
use Rattle.preempt.proofs.UsedByHolders.{used_by_holders}

-- ---- one entry more
pub all_more_one : (P : Entry → Type 0) (es : List Entry) (k : ℕ) (d : Entry) → k < length es → AllByRecursion P (take k es) → P (get_or es k d) → AllByRecursion P (take (k + 1) es)
all_more_one P es k d lt h x = subst (AllByRecursion P) (sym (take_last es k (get_or es k d) (got (λ _. true) es k d lt))) (all_append P (take k es) (get_or es k d ∷ []) h (x, tt))

pub low_more : (lowest : List ℕ) (g p n : ℕ) → length lowest ≡ 32 → g < 32 → n ≡ min p (get_or lowest g 0) → (es : List Entry) → AllByRecursion (IsLow lowest) es → AllByRecursion (IsLow (set lowest g n)) es
low_more lowest g p n long lt is [] h = tt
low_more lowest g p n long lt is (e ∷ es) h = (record { least = by (nat_eq e.group g) refl }, low_more lowest g p n long lt is es h.1)
  where
    by : (b : Bool) → nat_eq e.group g ≡ b → get_or (set lowest g n) e.group 0 ≤ e.priority
    by true t =
        let same = number_is e.group g t in
        let a : get_or (set lowest g n) e.group 0 ≡ n = ap (λ k. get_or (set lowest g n) k 0) same ∙ get_or-set_same lowest g n 0 (omega (arith, long, lt)) in
        let l = h.0.least in
        let b : get_or lowest e.group 0 ≡ get_or lowest g 0 = ap (λ k. get_or lowest k 0) same in
        omega (arith, a, is, l, b)
    by false f =
        let other : e.group ≢ g = grind (arith, nat_tests, f) in
        let a = get_or-set_other lowest g e.group n 0 other in
        let l = h.0.least in
        omega (arith, a, l)

pub low_here : (lowest : List ℕ) (e : Entry) (n : ℕ) → length lowest ≡ 32 → e.group < 32 → n ≡ min e.priority (get_or lowest e.group 0) → IsLow (set lowest e.group n) e
low_here lowest e n long lt is = record { least = let a = get_or-set_same lowest e.group n 0 (omega (arith, long, lt)) in omega (arith, a, is) }

-- ---- a machine
pub resources_few : (c : ClusterRecord) → IsTrue (is_valid_cluster c) → c.resources ≤ 8
resources_few c v = let t : not (nat_lt 8 c.resources) ≡ true = (both_true (not (nat_lt c.resources 1)) _ (both_true (is_between 1 8 c.resources) _ v).0).1 in grind (arith, nat_tests, t)

pub has_is : (ms : List MachineRecord) (m : ℕ) (x : Machine) → option_map machine_of (slice_get ms m) ≡ Some x → (i : ℕ) → get_or x.has.q i 0 ≡ at_place (unwrap_or (slice_get ms m) no_machine).has i
has_is ms m x e i = by (slice_get ms m) e
  where
    by : (o : Option MachineRecord) → option_map machine_of o ≡ Some x → get_or x.has.q i 0 ≡ at_place (unwrap_or o no_machine).has i
    by None e = cc
    by (Some r) e = let same : machine_of r ≡ x = cc in subst (λ (y : Machine). get_or y.has.q i 0 ≡ at_place r.has i) same (get_or-padded r.has i ∙ sym (at_place-get_or r.has i))

-- ---- a group
-- it is promised nothing of a resource that the cluster does not have
pub quota_past : (c : ClusterRecord) → IsTrue (is_valid_cluster c) → (g i : ℕ) → c.resources ≤ i → quota_at c g i ≡ 0
quota_past c v g i le =
    let rest : (is_between 1 256 (length c.machines) && (list_all (is_valid_machine c.resources) c.machines && (is_between 1 32 (length c.groups) && list_all (is_valid_group c.resources) c.groups))) ≡ true = (both_true (is_between 1 8 c.resources) _ v).1 in
    let two : (is_between 1 32 (length c.groups) && list_all (is_valid_group c.resources) c.groups) ≡ true = (both_true (list_all (is_valid_machine c.resources) c.machines) _ (both_true (is_between 1 256 (length c.machines)) _ rest).1).1 in
    by c.groups g (both_true (is_between 1 32 (length c.groups)) _ two).1
  where
    by : (gs : List GroupRecord) (g : ℕ) → list_all (is_valid_group c.resources) gs ≡ true → at_place (unwrap_or (slice_get gs g) no_record).quota i ≡ 0
    by [] g h = refl
    by (x ∷ xs) zero h =
        let vector : is_vector_of c.resources x.quota ≡ true = (both_true (is_vector_of c.resources x.quota) _ (both_true (is_valid_group c.resources x) _ h).0).0 in
        let long : length x.quota ≡ c.resources = number_is _ _ (both_true (nat_eq (length x.quota) c.resources) _ vector).0 in
        at_place-get_or x.quota i ∙ get_or-eq_default x.quota 0 (omega (arith, long, le))
    by (x ∷ xs) (suc g) h = by xs g (both_true (is_valid_group c.resources x) _ h).1

-- ---- when nothing may be taken
module _ (B : Board) (table : Table) (t : Spot) where
  abbrev IsClosed : Spot → Type 0
  IsClosed s = may_take_in B table t [] s ≡ false

  nothing_taken : (ss : List Spot) → AllByRecursion IsClosed ss → taken_in ss B table t [] ≡ []
  nothing_taken [] h = refl
  nothing_taken (s ∷ ss) h = elim (is_enough_in B table t []) as (λ b. elim b as (λ _. List Spot) [ true ↦ [] | false ↦ taken_in ss B table t (cond (may_take_in B table t [] s) ([] ++ s ∷ []) []) ] ≡ []) [
    | true ↦ refl
    | false ↦ ap (λ b. taken_in ss B table t (cond b ([] ++ s ∷ []) [])) h.0 ∙ nothing_taken ss h.1
  ]

  closed_none : AllByRecursion IsClosed (walk_in B.priorities table t.machine) → victims_in B table t ≡ None
  closed_none h = ap (λ set. elim (is_enough_in B table t set && is_some_set set) as (λ _. Option (List Spot)) [ true ↦ Some (needed_in set B table t set) | false ↦ None ]) (nothing_taken (walk_in B.priorities table t.machine) h) ∙ ap (λ b. elim b as (λ _. Option (List Spot)) [ true ↦ Some [] | false ↦ None ]) (and_false (is_enough_in B table t []))

closed_run : (P : Spot → Type 0) (n : ℕ) (s : Spot) → P s → AllByRecursion P (so_many n s)
closed_run P zero s h = tt
closed_run P (suc n) s h = (h, closed_run P n s h)

closed_singles : (P : Spot → Type 0) (m : ℕ) (es : List Entry) → AllByRecursion (λ (e : Entry). P (spot e.app.0 e.unit.0 m)) es → AllByRecursion P (singles (map (written m) es))
closed_singles P m [] h = tt
closed_singles P m (e ∷ es) h = all_append P (so_many e.count (spot e.app.0 e.unit.0 m)) (singles (map (written m) es)) (closed_run P e.count (spot e.app.0 e.unit.0 m) h.0) (closed_singles P m es h.1)

-- the same by those alone that have grants there
closed_held : (P : Spot → Type 0) (es : Table) (m : ℕ) (hs : List Entry) → AllByRecursion (λ (e : Entry). 0 < held_on es e.app.0 e.unit.0 m → P (spot e.app.0 e.unit.0 m)) hs → AllByRecursion P (singles (flat_map (entry_on es m) (map pair_of hs)))
closed_held P es m [] h = tt
closed_held P es m (e ∷ hs) h =
    let s = spot e.app.0 e.unit.0 m in
    let n = held_on es e.app.0 e.unit.0 m in
    let rest = closed_held P es m hs h.1 in
    elim (nat_lt 0 n) as (λ b. nat_lt 0 n ≡ b → AllByRecursion P (singles (cond b ((s, n) ∷ []) [] ++ flat_map (entry_on es m) (map pair_of hs)))) [
      | true ↦ λ b. all_append P (so_many n s) (singles (flat_map (entry_on es m) (map pair_of hs))) (closed_run P n s (h.0 (grind (arith, nat_tests, b)))) rest
      | false ↦ λ _. rest
    ] refl

closed_listed : (P : Spot → Type 0) (es : Table) (m : ℕ) (hs : List Entry) → AllByRecursion (λ (e : Entry). P (spot e.app.0 e.unit.0 m)) hs → AllByRecursion P (singles (flat_map (entry_on es m) (map pair_of hs)))
closed_listed P es m [] h = tt
closed_listed P es m (e ∷ hs) h =
    let s = spot e.app.0 e.unit.0 m in
    let n = held_on es e.app.0 e.unit.0 m in
    let rest = closed_listed P es m hs h.1 in
    elim (nat_lt 0 n) as (λ b. AllByRecursion P (singles (cond b ((s, n) ∷ []) [] ++ flat_map (entry_on es m) (map pair_of hs)))) [
      | true ↦ all_append P (so_many n s) (singles (flat_map (entry_on es m) (map pair_of hs))) (closed_run P n s h.0) rest
      | false ↦ rest
    ]

and_swap : (a b : Bool) → (a && b) ≡ (b && a)
and_swap true true = refl
and_swap true false = refl
and_swap false true = refl
and_swap false false = refl

not_both : (loose : Loose) (g h : ℕ) → nat_eq g h ≡ false → is_loose loose g ≡ true → is_other_loose loose h ≡ false → ⊥
not_both Nobody g h d a b = cc
not_both Several g h d a b = cc
not_both (One x) g h d a b = let e = number_is x g a in let f : nat_eq x h ≡ true = not_false (nat_eq x h) b in let k = number_is x h f in let t : nat_eq g h ≡ true = grind (arith, nat_tests, e, k) in cc

-- what a unit wants is of its kind
pub wanted_like : (t : TableRecord) (a u m : ℕ) (n : Need) → IsWanted t a u n → IsLike t (spot a u m) n
wanted_like t a u m n w = record { group = w.group; priority = w.priority; guaranteed = w.guaranteed }

module _ (t : TableRecord) (groups : List GroupUse) (are : AreGroups t groups) where
  -- a group spares one grant beside nothing
  pub spares_beside : (m : ℕ) (e : Entry) → IsEntry t e → IsUsed groups e → is_spared_in (board_of t) t.entries [] (spot e.app.0 e.unit.0 m) ≡ spares (get_or groups e.group no_group) e.size.now.q
  spares_beside m e h within = same_tests (is_spared_in (board_of t) t.entries [] (spot e.app.0 e.unit.0 m)) (spares x e.size.now.q) to from
    where
      x : GroupUse
      x = get_or groups e.group no_group

      gr : ℕ
      gr = group_of (as_known t.jobs) e.app.0

      is : IsGroup t gr x
      is = subst (λ g. IsGroup t g x) h.group (are.each e.group h.small)

      uses : ℕ → ℕ
      uses i = usage_at (as_known t.jobs) gr i t.entries

      size : ℕ → ℕ
      size = size_at (as_known t.jobs) e.app.0 e.unit.0

      test : ℕ → Bool
      test i = not (nat_lt (uses i) (quota_at t.cluster gr i + 0 + size i))

      left_is : (i : ℕ) → get_or (minus x.used.q e.size.now.q) i 0 ≡ uses i - size i
      left_is i = let left = get_or-minus x.used.q e.size.now.q i in let used = is.used i in let one = size_is t e h i in omega (arith, left, used, one)

      to : is_spared_in (board_of t) t.entries [] (spot e.app.0 e.unit.0 m) ≡ true → spares x e.size.now.q ≡ true
      to spared = fits_from x.bounds.now.quota.q (minus x.used.q e.size.now.q) (λ i _.
          let left = left_is i in
          let quota = is.quota i in
          elim (cases_lt i t.cluster.resources) [
            | inl lt ↦
                let at : not (nat_lt (uses i) (quota_at t.cluster gr i + 0 + size i)) ≡ true = each_place t.cluster.resources test i spared lt in
                let le : quota_at t.cluster gr i + 0 + size i ≤ uses i = grind (arith, nat_tests, at) in
                omega (arith, left, quota, le)
            | inr ge ↦ let none = (is.beyond i ge).0 in omega (arith, quota, none)
          ])

      from : spares x e.size.now.q ≡ true → is_spared_in (board_of t) t.entries [] (spot e.app.0 e.unit.0 m) ≡ true
      from f = each_from t.cluster.resources test (λ i _.
          let at = fits_at x.bounds.now.quota.q (minus x.used.q e.size.now.q) f i in
          let part = fits_at e.size.now.q x.used.q within i in
          let left = left_is i in
          let quota = is.quota i in
          let used = is.used i in
          let one = size_is t e h i in
          let le : quota_at t.cluster gr i + 0 + size i ≤ uses i = omega (arith, at, part, left, quota, used, one) in
          grind (arith, nat_tests, le))

  closed_entry : (s : Spot) (n : Need) (lowest : List ℕ) (loose : Loose) (e : Entry) → IsLike t s n → may_take_some n lowest loose ≡ false → IsEntry t e → IsUsed groups e → IsLow lowest e → IsLoose groups loose e
      → may_take_in (board_of t) t.entries s [] (spot e.app.0 e.unit.0 s.machine) ≡ false
  closed_entry s n lowest loose e w none h within low is_loose_here = by (nat_eq (group_of (as_known t.jobs) e.app.0) (group_of (as_known t.jobs) s.job)) refl
    where
      gr : ℕ
      gr = group_of (as_known t.jobs) e.app.0

      both : (nat_lt (get_or lowest n.group 0) n.priority ≡ false) × ((n.guaranteed && is_other_loose loose n.group) ≡ false)
      both = both_false (nat_lt (get_or lowest n.group 0) n.priority) (n.guaranteed && is_other_loose loose n.group) none

      spared : Bool
      spared = is_spared_in (board_of t) t.entries [] (spot e.app.0 e.unit.0 s.machine)

      other : (a b : Bool) → spared ≡ a → n.guaranteed ≡ b → nat_eq gr (group_of (as_known t.jobs) s.job) ≡ false → (a && b) ≡ false
      other false b e f d = refl
      other true false e f d = refl
      other true true sp gu d =
          let l : is_loose loose e.group ≡ true = is_loose_here.loosened (sym (spares_beside s.machine e h within) ∙ sp) in
          let o : is_other_loose loose n.group ≡ false = ap (λ b. b && is_other_loose loose n.group) (sym gu) ∙ both.1 in
          let d' : nat_eq e.group n.group ≡ false = (λ k. nat_eq (h.group k) (w.group k)) ∙ d in
          absurd (not_both loose e.group n.group d' l o)

      by : (b : Bool) → nat_eq gr (group_of (as_known t.jobs) s.job) ≡ b
          → cond b (nat_lt (priority_of (as_known t.jobs) e.app.0 e.unit.0) (priority_of (as_known t.jobs) s.job s.unit)) (spared && is_guaranteed_in (board_of t) t.entries s) ≡ false
      by true same =
          let g : e.group ≡ n.group = h.group ∙ number_is gr (group_of (as_known t.jobs) s.job) same ∙ sym w.group in
          let l = low.least in
          let k : get_or lowest e.group 0 ≡ get_or lowest n.group 0 = ap (λ k. get_or lowest k 0) g in
          let p = h.priority in
          let q = w.priority in
          let f = both.0 in
          let le : n.priority ≤ get_or lowest n.group 0 = grind (arith, nat_tests, f) in
          let ge : priority_of (as_known t.jobs) s.job s.unit ≤ priority_of (as_known t.jobs) e.app.0 e.unit.0 = omega (arith, l, k, p, q, le) in
          grind (arith, nat_tests, ge)
      by false d = ap (λ b. spared && b) (sym w.guaranteed) ∙ other spared n.guaranteed refl refl d

  closed_all : (s : Spot) (n : Need) (lowest : List ℕ) (loose : Loose) (es : List Entry) → IsLike t s n → may_take_some n lowest loose ≡ false → AllByRecursion (IsEntry t) es → AllByRecursion (IsUsed groups) es → AllByRecursion (IsLow lowest) es → AllByRecursion (IsLoose groups loose) es
      → AllByRecursion (λ (e : Entry). may_take_in (board_of t) t.entries s [] (spot e.app.0 e.unit.0 s.machine) ≡ false) es
  closed_all s n lowest loose [] w none h within low ls = tt
  closed_all s n lowest loose (e ∷ es) w none h within low ls = (closed_entry s n lowest loose e w none h.0 within.0 low.0 ls.0, closed_all s n lowest loose es w none h.1 within.1 low.1 ls.1)

  -- whether any grant of a unit may be taken is what the definitions say
  pub may_is : (s : Spot) (n : Need) (e : Entry) → IsLike t s n → IsEntry t e → IsUsed groups e → may_take n groups e ≡ may_take_in (board_of t) t.entries s [] (spot e.app.0 e.unit.0 s.machine)
  may_is s n e w h within =
      let x = get_or groups e.group no_group in
      let spared = sym (spares_beside s.machine e h within) in
      ap (λ b. cond (nat_eq e.group n.group) (nat_lt e.priority n.priority) b) (and_swap n.guaranteed (spares x e.size.now.q))
      ∙ (λ i. cond (nat_eq (h.group i) (w.group i)) (nat_lt (h.priority i) (w.priority i)) (spared i && w.guaranteed i))

  -- none may be taken on any machine, by the units that have grants
  pub none_anywhere : (a u : ℕ) (n : Need) (lowest : List ℕ) (loose : Loose) (holders : List Entry) → AreHolders t holders → AllByRecursion (IsLow lowest) holders → AllByRecursion (IsLoose groups loose) holders
      → ((m : ℕ) → IsLike t (spot a u m) n) → may_take_some n lowest loose ≡ false → HasNoVictims t (a, u)
  none_anywhere a u n lowest loose holders hold low ls like none = record {
    none = λ m.
        let s = spot a u m in
        closed_none (board_of t) t.entries s
        (subst (λ xs. AllByRecursion (λ x. may_take_in (board_of t) t.entries s [] x ≡ false) (singles xs)) (hold.lists m)
        (closed_listed (λ x. may_take_in (board_of t) t.entries s [] x ≡ false) t.entries m holders (closed_all s n lowest loose holders (like m) none hold.each (used_by_holders t groups are holders hold.each hold.some) low ls)));
  }

-- what tells what may be taken for a unit
pub kind_of : (t : TableRecord) → Entry → Need
kind_of t e = record { resources = 0; group = e.group; priority = e.priority; guaranteed = is_guaranteed_in (board_of t) t.entries (spot e.app.0 e.unit.0 0); has = []; fits = []; limit = []; allowed = [] }

pub kind_like : (t : TableRecord) (e : Entry) → IsEntry t e → (m : ℕ) → IsLike t (spot e.app.0 e.unit.0 m) (kind_of t e)
unfolding kind_of
kind_like t e h m = record { group = h.group; priority = h.priority; guaranteed = refl }

-- none, where no grant of its group is below it and no other group spares any, or its own has no quota left
pub kind_none : (t : TableRecord) (e : Entry) (lowest : List ℕ) (loose : Loose) → e.priority ≤ get_or lowest e.group 0 → (is_guaranteed_in (board_of t) t.entries (spot e.app.0 e.unit.0 0) && is_other_loose loose e.group) ≡ false
    → may_take_some (kind_of t e) lowest loose ≡ false
unfolding kind_of
kind_none t e lowest loose le none =
    let f : nat_lt (get_or lowest e.group 0) e.priority ≡ false = grind (arith, nat_tests, le) in
    (λ i. f i || none i)

-- nothing may be taken on a machine, where nothing may be of any unit
pub none_open : (t : TableRecord) (holders : List Entry) → AreHolders t holders → (s : Spot) → AllByRecursion (IsShut t s) holders → victims_in (board_of t) t.entries s ≡ None
none_open t holders are s shut = closed_none (board_of t) t.entries s
    (subst (λ xs. AllByRecursion (λ x. may_take_in (board_of t) t.entries s [] x ≡ false) (singles xs)) (are.lists s.machine)
    (closed_held (λ x. may_take_in (board_of t) t.entries s [] x ≡ false) t.entries s.machine holders
    (all_more (IsShut t s) (λ (e : Entry). 0 < held_on t.entries e.app.0 e.unit.0 s.machine → may_take_in (board_of t) t.entries s [] (spot e.app.0 e.unit.0 s.machine) ≡ false) (λ e h. h.none) holders shut)))
