-- Beyond the room on a machine there are no victims.
use Rattle.std.proofs.Common.{◌≡◌, ℕ, zero, suc, ◌+◌, ◌-◌, ◌<◌, ◌≤◌, Bool, true, false, nat_lt, min, max, List, [], ◌∷◌, ◌++◌, length, map, get_or, Some, None, refl, sym, ◌∙◌, ap, subst, arith}
use Rattle.std.specs.Prelude.{◌&&◌, slice_get, slice_index}
use Rattle.std.specs.List.{AllByRecursion, sum_by}
use Rattle.std.proofs.lemmas.Bool.Decides.{nat_tests}
use Rattle.fuxi_terms.specs.Cluster.{has_at, limit_at, is_narrow}
use Rattle.fuxi_terms.specs.Jobs.{priority_of, group_of, size_at}
use Rattle.fuxi_terms.specs.Keys.{Spot}
use Rattle.fuxi_terms.specs.Lists.{below_each}
use Rattle.fuxi_terms.specs.Tables.{spot, total_at, usage_at, Table}
use Rattle.fuxi_terms.proofs.Booleans.{and_true, not_false}
use Rattle.fuxi_terms.proofs.Lists.{all_at}
use Rattle.spec_roles.specs.Preemption.{set_by, part_by, is_enough_in, is_guaranteed_in, walk_in, victims_in}
use Rattle.grant_table.specs.GrantTables.{TableRecord, as_known}
use Rattle.preempt.specs.Counted.{singles, all_spared, entries_on}
use Rattle.preempt.specs.declared.entry.Entry.{Entry}
use Rattle.preempt.specs.declared.entry.Need.{Need}
use Rattle.preempt.specs.declared.entry.GroupUse.{GroupUse}
use Rattle.preempt.specs.declared.entry.Sums.{Sums}
use Rattle.preempt.specs.declared.room.Rooms.{Rooms}
use Rattle.preempt.specs.declared.machine_grants.MachineGrants.{MachineGrants}
use Rattle.preempt.specs.Given.{board_of, no_group, written, IsEntry, AreGroups, AreSpared}
use Rattle.preempt.specs.GrantNumbers.{lower_in, spared_in}
use Rattle.preempt.specs.GroupSums.{no_sums}
use Rattle.preempt.specs.MachineRooms.{within_at, IsRoom, IsNarrower, AreRooms, IsFor, IsPlaceOf, IsKind, IsKindOf, AreRoomsFor}
use Rattle.preempt.specs.Shelves.{AreMachineGrants, IsWanted}
use Rattle.preempt.proofs.Sums.{not_fit, not_allowed}
use Rattle.preempt.proofs.CountedAsWritten.{size_is}
use Rattle.preempt.proofs.MostTaken.{most_in, counted_most, most_whole, none_of_most, lower_weight, spared_weight, AreMostSums, most_sums}
use Rattle.preempt.proofs.SparedAsWritten.{lower_is, spared_is, some_weigh, nothing_weighs}
use Rattle.preempt.proofs.UnitSteps.{got}

-- ---- one machine
-- what may be taken on a machine of the served group, and of all, and what that leaves of what the machine has and of what the group may use
pub record AreLeft (groups : List GroupUse) (shelf : MachineGrants) (spared : List Entry) (n : Need) (room : List ℕ) : Type 0 where
  pub lower : List ℕ
  pub all : List ℕ
  pub used : List ℕ
  pub lower_are : (i : ℕ) → i < 8 → slice_index lower i ≡ lower_in n i shelf.entries.now
  pub all_are : (i : ℕ) → i < 8 → slice_index all i ≡ slice_index lower i + spared_in n i spared
  pub used_are : (i : ℕ) → i < 8 → slice_index used i ≡ slice_index shelf.has i - slice_index shelf.free i
  pub room_are : (i : ℕ) → i < n.resources → slice_index room i ≡ min ((slice_index shelf.has i + slice_index all i) - slice_index used i)
      ((slice_index (get_or groups n.group no_group).bounds.now.limit.q i + slice_index lower i) - slice_index (get_or groups n.group no_group).used.q i)

pub beyond_none : (t : TableRecord) (groups : List GroupUse) (m : ℕ) (shelf : MachineGrants) (spared_here : List Entry) (n : Need) (room : List ℕ) (a u i : ℕ)
    → AreGroups t groups → AreMachineGrants t m shelf → AreSpared t m shelf.entries.now spared_here → AreLeft groups shelf spared_here n room → n.group < 32 → n.group ≡ group_of (as_known t.jobs) a → n.priority ≡ priority_of (as_known t.jobs) a u
    → n.guaranteed ≡ is_guaranteed_in (board_of t) t.entries (spot a u m) → i < t.cluster.resources → i < 8 → i < n.resources → slice_index room i < size_at (as_known t.jobs) a u i → victims_in (board_of t) t.entries (spot a u m) ≡ None
beyond_none t groups m shelf spared_here n room a u i are is spared_are left small group priority guaranteed lt few inside more =
    none_of_most (board_of t) t.entries s (ap (λ x. is_enough_in (board_of t) t.entries s x) whole ∙ by (nat_lt fits size) refl)
  where
    s : Spot
    s = spot a u m

    size : ℕ
    size = size_at (as_known t.jobs) a u i

    -- what the machine has left
    fits : ℕ
    fits = (slice_index shelf.has i + slice_index left.all i) - slice_index left.used i

    entries : Table
    entries = map (written m) shelf.entries.now

    all : List Spot
    all = singles (counted_most entries (board_of t) t.entries s [])

    whole : most_in (walk_in (board_of t).priorities t.entries m) (board_of t) t.entries s [] ≡ all
    whole = most_whole (board_of t) t.entries s (entries_on (board_of t) t.entries m) [] ∙ ap (λ es. singles (counted_most es (board_of t) t.entries s [])) (sym is.walk)

    sums : AreMostSums (board_of t) t.entries s i entries [] []
    sums = most_sums (board_of t) t.entries s i entries [] [] (record { same = λ _ g i _. refl })

    lower : slice_index left.lower i ≡ sum_by (lower_weight (board_of t) t.entries s i) entries
    lower = left.lower_are i few ∙ lower_is t m a u n i group priority shelf.entries.now is.each

    spared : spared_in n i spared_here ≡ sum_by (spared_weight (board_of t) t.entries s i) (all_spared entries (board_of t) t.entries [])
    spared = spared_is t m a u n i group guaranteed spared_here spared_are.each ∙ ap (λ es. sum_by (spared_weight (board_of t) t.entries s i) es) spared_are.counted
        ∙ some_weigh (spared_weight (board_of t) t.entries s i) (nothing_weighs (board_of t) t.entries s i) (all_spared entries (board_of t) t.entries [])

    by : (b : Bool) → nat_lt fits size ≡ b → is_enough_in (board_of t) t.entries s all ≡ false
    by true e =
        let less : fits < size = grind (arith, nat_tests, e) in
        let f : fits ≡ (slice_index shelf.has i + slice_index left.all i) - slice_index left.used i = refl in
        let x = left.all_are i few in
        let w = sums.whole in
        let z : set_by (size_at (as_known t.jobs)) i (singles []) ≡ 0 = refl in
        let h = is.has i lt in
        let v : slice_index left.used i ≡ total_at (as_known t.jobs) m i t.entries = (let u = left.used_are i few in let y = is.free i lt in omega (arith, u, y, h)) in
        let short : has_at t.cluster m i + set_by (size_at (as_known t.jobs)) i all < total_at (as_known t.jobs) m i t.entries + size = omega (arith, less, f, x, w, z, lower, spared, h, v) in
        not_fit (board_of t) t.entries s all i lt short
    by false e =
        let le : size ≤ fits = grind (arith, nat_tests, e) in
        let r = left.room_are i inside in
        let f : fits ≡ (slice_index shelf.has i + slice_index left.all i) - slice_index left.used i = refl in
        let g = group_of (as_known t.jobs) a in
        let w = sums.own in
        let z : part_by (group_of (as_known t.jobs)) (size_at (as_known t.jobs)) g i (singles []) ≡ 0 = refl in
        let x = are.each n.group small in
        let l = x.limit i ∙ ap (λ g. limit_at t.cluster g i) group in
        let v = x.used i ∙ ap (λ g. usage_at (as_known t.jobs) g i t.entries) group in
        let short : limit_at t.cluster g i + part_by (group_of (as_known t.jobs)) (size_at (as_known t.jobs)) g i all < usage_at (as_known t.jobs) g i t.entries + size = omega (arith, more, le, r, f, w, z, lower, l, v) in
        not_allowed (board_of t) t.entries s all i lt short

-- ---- a size that is not within
record Fails (n : ℕ) (test : ℕ → Bool) : Type 0 where
  place : ℕ
  inside : place < n
  is : test place ≡ false

some_fails : (n : ℕ) (test : ℕ → Bool) → below_each n test ≡ false → Fails n test
some_fails zero test e = cc
some_fails (suc n) test e = by (below_each n test) refl (test n) refl (some_fails n test)
  where
    by : (b : Bool) → below_each n test ≡ b → (d : Bool) → test n ≡ d → (below_each n test ≡ false → Fails n test) → Fails (suc n) test
    by false f d g rest = let r = rest f in record { place = r.place; inside = let i = r.inside in omega (arith, i); is = r.is }
    by true f false g rest = record { place = n; inside = omega arith; is = g }
    by true f true g rest = let whole : (below_each n test && test n) ≡ true = and_true (below_each n test) (test n) f g in absurd (let x : ⊥ = cc in x)

module _ (t : TableRecord) (e : Entry) (h : IsEntry t e) (n : Need) (wanted : IsWanted t e.app.0 e.unit.0 n) where
  -- where some number of a room, or of one that it is narrower than, is below the size
  beyond_room : (m : ℕ) (room wide : List ℕ) → IsRoom t n.group n.priority n.guaranteed m room → IsNarrower t.cluster.resources wide room → below_each n.resources (within_at e.size.now.q wide) ≡ false
      → victims_in (board_of t) t.entries (spot e.app.0 e.unit.0 m) ≡ None
  beyond_room m room wide is narrower f =
      let fails = some_fails n.resources (within_at e.size.now.q wide) f in
      let i = fails.place in
      let inside = fails.inside in
      let resources = wanted.resources in
      let lt : i < t.cluster.resources = omega (arith, inside, resources) in
      let test : nat_lt (slice_index wide i) (slice_index e.size.now.q i) ≡ true = not_false (nat_lt (slice_index wide i) (slice_index e.size.now.q i)) fails.is in
      let less : slice_index wide i < slice_index e.size.now.q i = grind (arith, nat_tests, test) in
      let le = narrower.each i lt in
      let size = size_is t e h i in
      is.beyond e.app.0 e.unit.0 i wanted.group wanted.priority wanted.guaranteed lt (omega (arith, less, le, size))

  pub machine_beyond : (rooms : List Sums) (m : ℕ) → AreRoomsFor t n rooms → m < length t.cluster.machines → below_each n.resources (within_at e.size.now.q (get_or rooms m no_sums).q) ≡ false
      → victims_in (board_of t) t.entries (spot e.app.0 e.unit.0 m) ≡ None
  machine_beyond rooms m are lt f =
      let long = are.long in
      let x = get_or rooms m no_sums in
      beyond_room m x.q x.q (are.each m x (got (λ _. true) rooms m no_sums (omega (arith, lt, long)))) (record { each = λ i _. omega arith }) f

-- where the widest of the rooms of its kind is not wide enough for a unit
pub kind_beyond : (t : TableRecord) (e : Entry) → IsEntry t e → (r : Rooms) → AreRooms t r → IsKindOf t e r → is_narrow t.cluster (size_at (as_known t.jobs) e.app.0 e.unit.0) ≡ true → (resources : ℕ) → resources ≡ t.cluster.resources
    → below_each resources (within_at e.size.now.q r.widest) ≡ false → (m : ℕ) → m < length t.cluster.machines → victims_in (board_of t) t.entries (spot e.app.0 e.unit.0 m) ≡ None
kind_beyond t e h r are kind narrow resources same f m lt =
    let long = are.long in
    let x = get_or r.each.items m no_sums in
    let there = got (λ _. true) r.each.items m no_sums (omega (arith, lt, long)) in
    let fails = some_fails resources (within_at e.size.now.q r.widest) f in
    let i = fails.place in
    let inside = fails.inside in
    let i_lt : i < t.cluster.resources = omega (arith, inside, same) in
    let test : nat_lt (slice_index r.widest i) (slice_index e.size.now.q i) ≡ true = not_false (nat_lt (slice_index r.widest i) (slice_index e.size.now.q i)) fails.is in
    let less : slice_index r.widest i < slice_index e.size.now.q i = grind (arith, nat_tests, test) in
    let le = (are.narrower m x there).each i i_lt in
    let size = size_is t e h i in
    (are.rooms m x there).beyond e.app.0 e.unit.0 i (kind.group ∙ h.group) (kind.priority ∙ h.priority) (kind.guaranteed narrow) i_lt (omega (arith, less, le, size))

-- ---- the rooms of a kind
pub rooms_for : (t : TableRecord) (n : Need) (r : Rooms) → AreRooms t r → IsFor n r → AreRoomsFor t n r.each.items
rooms_for t n r are is = record {
  long = are.long;
  each = λ m x there. let room = are.rooms m x there in
      subst (λ g. IsRoom t g n.priority n.guaranteed m x.q) is.group (subst (λ p. IsRoom t r.group p n.guaranteed m x.q) is.priority (subst (λ b. IsRoom t r.group r.priority b m x.q) is.guaranteed room));
}

pub kind_for : (t : TableRecord) (e : Entry) → IsEntry t e → (n : Need) → IsWanted t e.app.0 e.unit.0 n → (r : Rooms) → IsKindOf t e r → IsFor n r
kind_for t e h n w r k = record { group = k.group ∙ h.group ∙ sym w.group; priority = k.priority ∙ h.priority ∙ sym w.priority; guaranteed = k.guaranteed w.narrow ∙ sym w.guaranteed }

pub for_kind : (t : TableRecord) (e : Entry) → IsEntry t e → (n : Need) → IsWanted t e.app.0 e.unit.0 n → (r : Rooms) → IsFor n r → IsKindOf t e r
for_kind t e h n w r k = record { group = k.group ∙ w.group ∙ sym h.group; priority = k.priority ∙ w.priority ∙ sym h.priority; guaranteed = λ narrow. k.guaranteed ∙ w.guaranteed }

pub place_is : (t : TableRecord) (e : Entry) (guaranteed : Bool) → (is_narrow t.cluster (size_at (as_known t.jobs) e.app.0 e.unit.0) ≡ true → guaranteed ≡ is_guaranteed_in (board_of t) t.entries (spot e.app.0 e.unit.0 0))
    → (kinds : List Rooms) (at : ℕ) (x : Rooms) → IsPlaceOf e.group e.priority guaranteed kinds at → AllByRecursion (AreRooms t) kinds → x ≡ get_or kinds at x → AreRooms t x × IsKindOf t e x
place_is t e guaranteed b kinds at x is all same =
    let there = got (λ _. true) kinds at x is.inside ∙ ap (λ y. Some y) (sym same) in
    let kind = is.is x there in
    (all_at (AreRooms t) kinds at x all there, record { group = kind.group; priority = kind.priority; guaranteed = λ narrow. kind.guaranteed ∙ b narrow })

pub place_found : (g p : ℕ) (guaranteed : Bool) (kinds : List Rooms) (at : ℕ) (x : Rooms) → at < length kinds → x ≡ get_or kinds at x → IsKind g p guaranteed x → IsPlaceOf g p guaranteed kinds at
place_found g p guaranteed kinds at x lt same is = record {
  inside = lt;
  is = λ r e.
      let there : Some x ≡ Some r = sym (got (λ _. true) kinds at x lt ∙ ap (λ y. Some y) (sym same)) ∙ e in
      let one : x ≡ r = cc in
      subst (IsKind g p guaranteed) one is;
}

-- ---- one machine more
pub each_more : {A : Type 0} (P : ℕ → A → Type 0) (xs : List A) (x : A) → ((m : ℕ) (y : A) → slice_get xs m ≡ Some y → P m y) → P (length xs) x → (m : ℕ) (y : A) → slice_get (xs ++ x ∷ []) m ≡ Some y → P m y
each_more P [] x h k zero y e = let same : x ≡ y = cc in subst (P 0) same k
each_more P [] x h k (suc m) y e = cc
each_more P (z ∷ zs) x h k zero y e = h zero y e
each_more P (z ∷ zs) x h k (suc m) y e = each_more (λ n. P (suc n)) zs x (λ n w q. h (suc n) w q) k m y e

pub narrower_more : (n : ℕ) (old new room : List ℕ) → ((i : ℕ) → i < n → slice_index new i ≡ max (slice_index old i) (slice_index room i)) → IsNarrower n new room × ((x : List ℕ) → IsNarrower n old x → IsNarrower n new x)
narrower_more n old new room is = (
  record { each = λ i lt. let e = is i lt in omega (arith, e) },
  λ x h. record { each = λ i lt. let e = is i lt in let l = h.each i lt in omega (arith, e, l) },
)
