-- When nothing is placeable, what keeps it so, and when a demand asks for no more.
use Rattle.std.proofs.Common.{◌≡◌, ◌≢◌, ℕ, zero, suc, ◌+◌, ◌-◌, ◌*◌, ◌<◌, ◌≤◌, Bool, true, false, cond, not, nat_eq, nat_lt, List, [], ◌∷◌, length, get_or, set, refl, sym, ◌∙◌, ap, subst, arith, inl, inr, add-one, Option, None, Some}
use Rattle.std.specs.Prelude.{◌&&◌, ◌||◌, slice_get}
use Rattle.std.specs.Option.{option_map, unwrap_or}
use Rattle.std.specs.List.{AllByRecursion, list_any}
use Rattle.std.proofs.lemmas.Bool.{cases_lt}
use Rattle.std.proofs.lemmas.Bool.Decides.{nat_tests}
use Rattle.std.proofs.lemmas.List.{get_or-set_same}
use Rattle.std.proofs.lemmas.List.Folds.{list_any-append}
use Rattle.std.proofs.Math.ListN.{get_or-eq_default}
use Rattle.fuxi_terms.specs.Cluster.{ClusterRecord, JobRecord, rack_of, has_at, limit_at, is_narrow, in_each}
use Rattle.fuxi_terms.specs.Counts.{count}
use Rattle.fuxi_terms.specs.Jobs.{KnownJob, job_of, is_known, unit_count, group_of, size_at, most_of, no_unit}
use Rattle.fuxi_terms.specs.Keys.{Spot, key_cmp, Pair}
use Rattle.fuxi_terms.specs.Lists.{below}
use Rattle.fuxi_terms.specs.Tables.{held, held_on, held_in, total_by, usage_by, Table}
use Rattle.fuxi_terms.specs.TallyKeys.{want_key, near_key, rack_key, avoid_key}
use Rattle.fuxi_terms.specs.Vectors.{at_place}
use Rattle.fuxi_terms.specs.declared.Key.{Key}
use Rattle.fuxi_terms.proofs.Booleans.{and_true, both_true, both_false, number_is, or_false, or_none}
use Rattle.fuxi_terms.proofs.Lookups.{none_is}
use Rattle.fuxi_terms.proofs.Members.{both_empty, mapped_empty, none_passes, in_below, each_place, each_from, sum_le}
use Rattle.spec_roles.specs.Masters.{out_of}
use Rattle.spec_roles.specs.Placing.{Board, Ranked, ranked_in, places_in, candidates_in, may_grow_in, accepts_in, has_room_in, is_allowed_in, placeable_in, first_of, first_in, has_pair}
use Rattle.grant_table.specs.GrantTables.{TableRecord, as_known, with_admitted}
use Rattle.place_pass.specs.Best.{AreAdmitted}
use Rattle.place_pass.specs.Cells.{Cell, no_cell, cell_at, asks_at, asks_in, job_at, taken, taken_all, is_gone, any_gone, asks_more, any_more, Lifts, AvoidsStill, AreWishes}
use Rattle.place_pass.specs.Bounds.{MarkRecord, mark_at, turn_at, key_of, limited_mark, IsBounded}
use Rattle.place_pass.specs.SearchCounts.{IsLifted}
use Rattle.place_pass.specs.Placers.{AreLevel, AsksNoMore, IsIdle, IsClear, IsKept, IsQuiet, IsStill, KeptRecord, board_over, is_open_to}
use Rattle.place_pass.proofs.BoundsLemmas.{NoEarlier, accepts_less, bounded_later, limited_few, limited_key, limited_less}
use Rattle.place_pass.proofs.CandidatesLemmas.{place_of}
use Rattle.place_pass.proofs.BoundsAfterChange.{levels_le}
use Rattle.fuxi_terms.proofs.Lists.{all_at}
use Rattle.place_pass.proofs.CellsLemmas.{length-taken_all, get_or-taken_all}
use Rattle.place_pass.proofs.CellsMatchTable.{count_is}
use Rattle.place_pass.proofs.FirstIsGrantable.{all_candidates}
use Rattle.place_pass.proofs.Places.{counted_at}
use Rattle.place_pass.proofs.StillLemmas.{still_asked}
use Rattle.fuxi_terms.proofs.IndexedLists.{one_set}

-- ---- a test of each number below a number
pub any_last : (p : ℕ → Bool) (n : ℕ) → list_any p (below (n + 1)) ≡ (list_any p (below n) || p n)
any_last p n = ap (λ k. list_any p (below k)) (add-one n) ∙ list_any-append p (below n) (n ∷ []) ∙ ap (λ b. list_any p (below n) || b) (or_false (p n))

pub any_one : (p : ℕ → Bool) (n i : ℕ) → list_any p (below n) ≡ false → i < n → p i ≡ false
any_one p zero i e lt = absurd (omega (arith, lt))
any_one p (suc n) i e lt =
    let b = both_false (list_any p (below n)) (p n) (sym (list_any-append p (below n) (n ∷ []) ∙ ap (λ b. list_any p (below n) || b) (or_false (p n))) ∙ e) in
    elim (nat_eq i n) as (λ t. nat_eq i n ≡ t → p i ≡ false) [
      | true ↦ λ t. ap p (number_is i n t) ∙ b.1
      | false ↦ λ f. let d : i ≢ n = grind (arith, nat_tests) in any_one p n i b.0 (omega (arith, lt, d))
    ] refl

pub any_alike : (p q : ℕ → Bool) (n : ℕ) → ((i : ℕ) → i < n → p i ≡ q i) → list_any p (below n) ≡ list_any q (below n)
any_alike p q zero h = refl
any_alike p q (suc n) h =
    let last = λ (r : ℕ → Bool). ap (λ k. list_any r (below k)) (sym (add-one n)) ∙ any_last r n in
    last p ∙ ap (λ b. b || p n) (any_alike p q n (λ i lt. h i (omega (arith, lt)))) ∙ ap (λ b. list_any q (below n) || b) (h n (omega arith)) ∙ sym (last q)

pub any_none : (p : ℕ → Bool) (n : ℕ) → ((i : ℕ) → i < n → p i ≡ false) → list_any p (below n) ≡ false
any_none p zero h = refl
any_none p (suc n) h =
    list_any-append p (below n) (n ∷ []) ∙ ap (λ b. list_any p (below n) || b) (or_false (p n))
    ∙ or_none (list_any p (below n)) (p n) (any_none p n (λ i lt. h i (omega (arith, lt)))) (h n (omega arith))

-- ---- where nothing is placeable the search finds none
record Never (r : Ranked) : Type 0 where
  never : ⊥

no_rank : (rs : List Ranked) → AllByRecursion Never rs → first_of rs ≡ None
no_rank [] h = refl
no_rank (r ∷ rs) h = absurd h.0.never

pub idle_first : (c : ClusterRecord) (cells : List (List Cell)) (o : List Bool) (t : TableRecord) → AreLevel c (job_at cells) t → (line : List Pair) → AreAdmitted cells line → IsIdle cells o t → first_in (board_over cells o t) t.entries line ≡ None
idle_first c cells o t l line admitted h =
    let b = board_over cells o t in
    no_rank (candidates_in b t.entries 0 line) (all_candidates Never b t.entries (λ (p : Pair). p.1 < length (get_or cells p.0 [])) 0 line admitted (λ p place m lt there g u r.
    let n = count_is c cells t l p.0 in
    let placed : placeable_in b t.entries p.0 p.1 m ≡ true = and_true (may_grow_in b t.entries p.0 p.1) _ g (and_true (accepts_in b t.entries p.0 p.1 m) (has_room_in b.cluster b.sizes t.entries p.0 p.1 m) u r) in
    let none = h.none p.0 p.1 m (omega (arith, lt, n)) there in
    record { never = (let f : ⊥ = cc in f) }))

-- ---- where the search finds none nothing is placeable
none_of_line : (b : Board) (es : Table) (place : ℕ) (ps : List Pair) → candidates_in b es place ps ≡ [] → (a u m : ℕ) → has_pair (a, u) ps ≡ true → nat_lt m (length b.cluster.machines) ≡ true → placeable_in b es a u m ≡ false
none_of_line b es place [] e a u m has there = cc
none_of_line b es place (p ∷ ps) e a u m has there =
    let parts = both_empty (elim (may_grow_in b es p.0 p.1) as (λ _. List Ranked) [ true ↦ places_in b es place p | false ↦ [] ]) (candidates_in b es (place + 1) ps) e in
    elim (nat_eq a p.0 && nat_eq u p.1) as (λ t. (nat_eq a p.0 && nat_eq u p.1) ≡ t → (t || has_pair (a, u) ps) ≡ true → placeable_in b es a u m ≡ false) [
      | true ↦ λ t _.
          let eqs = both_true (nat_eq a p.0) (nat_eq u p.1) t in
          let here : placeable_in b es p.0 p.1 m ≡ false = elim (may_grow_in b es p.0 p.1) as (λ g. elim g as (λ _. List Ranked) [ true ↦ places_in b es place p | false ↦ [] ] ≡ [] → (g && (accepts_in b es p.0 p.1 m && has_room_in b.cluster b.sizes es p.0 p.1 m)) ≡ false) [
            | true ↦ λ none. none_passes (λ m. accepts_in b es p.0 p.1 m && has_room_in b.cluster b.sizes es p.0 p.1 m) m (below (length b.cluster.machines)) (mapped_empty (ranked_in b es place p) _ none) (in_below (length b.cluster.machines) m there)
            | false ↦ λ _. refl
          ] parts.0 in
          subst (λ (q : Pair). placeable_in b es q.0 q.1 m ≡ false) (λ i. (sym (number_is a p.0 eqs.0) i, sym (number_is u p.1 eqs.1) i)) here
      | false ↦ λ t has. none_of_line b es (place + 1) ps parts.1 a u m has there
    ] refl has

no_candidates : (rs : List Ranked) → first_of rs ≡ None → rs ≡ []
no_candidates [] e = refl
no_candidates (r ∷ rs) e = cc

-- a line that is up to date has all that may be placed
pub idle_found : (cells : List (List Cell)) (o : List Bool) (t : TableRecord) (line : List Pair) → ((a u : ℕ) → has_pair (a, u) line ≡ (nat_lt u (unit_count (as_known t.jobs) a) && nat_lt 0 (out_of (asks_in cells) t.entries a u)))
    → first_in (board_over cells o t) t.entries line ≡ None → IsIdle cells o t
idle_found cells o t line up e = record {
  none = λ a u m lt there. elim (nat_lt 0 (out_of (asks_in cells) t.entries a u)) as (λ w. nat_lt 0 (out_of (asks_in cells) t.entries a u) ≡ w → placeable_in (board_over cells o t) t.entries a u m ≡ false) [
    | true ↦ λ w. none_of_line (board_over cells o t) t.entries 0 line (no_candidates _ e) a u m (up a u ∙ and_true (nat_lt u (unit_count (as_known t.jobs) a)) _ (grind (arith, nat_tests, lt)) w) (grind (arith, nat_tests, there))
    | false ↦ λ w. ap (λ x. (x && is_allowed_in t.cluster (group_of (as_known t.jobs)) (size_at (as_known t.jobs)) t.entries a u) && (accepts_in (board_over cells o t) t.entries a u m && has_room_in t.cluster (size_at (as_known t.jobs)) t.entries a u m)) w
  ] refl;
}

-- ---- what leaves nothing placeable
fewer : (w l p r w' l' p' r' : Bool) → ((w && l) && (p && r)) ≡ false → (w' ≡ true → w ≡ true) → (l' ≡ true → l ≡ true) → (p' ≡ true → p ≡ true) → (r' ≡ true → r ≡ true) → ((w' && l') && (p' && r')) ≡ false
fewer w l p r false l' p' r' e f g h k = refl
fewer w l p r true false p' r' e f g h k = refl
fewer w l p r true true false r' e f g h k = refl
fewer w l p r true true true false e f g h k = refl
fewer w l p r true true true true e f g h k = sym (λ i. (f refl i && g refl i) && (h refl i && k refl i)) ∙ e

-- no unit wants more, and no machine is opened to one
idle_less : (cells cells' : List (List Cell)) (o o' : List Bool) (t : TableRecord) → IsIdle cells o t
    → ((a u : ℕ) → asks_in cells' a (want_key u) ≤ asks_in cells a (want_key u)) → ((a u m : ℕ) → is_open_to cells' o' a u m ≡ true → is_open_to cells o a u m ≡ true) → IsIdle cells' o' t
idle_less cells cells' o o' t h wants opens = record {
  none = λ a u m lt there. fewer (nat_lt 0 (out_of (asks_in cells) t.entries a u)) (is_allowed_in t.cluster (group_of (as_known t.jobs)) (size_at (as_known t.jobs)) t.entries a u)
      (accepts_in (board_over cells o t) t.entries a u m) (has_room_in t.cluster (size_at (as_known t.jobs)) t.entries a u m)
      (nat_lt 0 (out_of (asks_in cells') t.entries a u)) (is_allowed_in t.cluster (group_of (as_known t.jobs)) (size_at (as_known t.jobs)) t.entries a u)
      (accepts_in (board_over cells' o' t) t.entries a u m) (has_room_in t.cluster (size_at (as_known t.jobs)) t.entries a u m)
      (h.none a u m lt there) (λ w. let le = wants a u in let more : out_of (asks_in cells') t.entries a u ≤ out_of (asks_in cells) t.entries a u = omega (arith, le) in grind (arith, nat_tests, w, more)) (λ x. x)
      (accepts_less (is_open_to cells o a u m) (nat_lt (held_on t.entries a u m) (most_of (as_known t.jobs) a u)) (is_open_to cells' o' a u m) (nat_lt (held_on t.entries a u m) (most_of (as_known t.jobs) a u)) (opens a u m) (λ x. x)) (λ x. x);
}

opened_less : (cells : List (List Cell)) (o o' : List Bool) (t : TableRecord) → IsIdle cells o t → ((m : ℕ) → get_or o' m false ≡ true → get_or o m false ≡ true) → IsIdle cells o' t
opened_less cells o o' t h less = idle_less cells cells o o' t h (λ a u. omega arith) (λ a u m e.
    let b = both_true (get_or o' m false) (not (nat_lt 0 (asks_in cells a (avoid_key u m)))) e in
    and_true (get_or o m false) (not (nat_lt 0 (asks_in cells a (avoid_key u m)))) (less m b.0) b.1)

-- no machine is opened that was closed
pub opens_none : (o : List Bool) (n : ℕ) (usable was : Bool) → n < length o → was ≡ get_or o n false → (not usable || was) ≡ true → (m : ℕ) → get_or (set o n usable) m false ≡ true → get_or o m false ≡ true
opens_none o n usable was lt is stays m e = by (nat_eq n m) refl (sym (one_set o n m usable false lt) ∙ e)
  where
    still : (x y : Bool) → (not x || y) ≡ true → x ≡ true → y ≡ true
    still true y s e = s
    still false y s e = cc

    by : (b : Bool) → nat_eq n m ≡ b → cond b usable (get_or o m false) ≡ true → get_or o m false ≡ true
    by true t e = subst (λ k. get_or o k false ≡ true) (number_is n m t) (sym is ∙ still usable was stays e)
    by false t e = e

pub idle_opened : (cells : List (List Cell)) (o : List Bool) (t : TableRecord) (n : ℕ) (usable was : Bool) → n < length o → was ≡ get_or o n false → (not usable || was) ≡ true → IsIdle cells o t → IsIdle cells (set o n usable) t
idle_opened cells o t n usable was lt is stays h = opened_less cells o (set o n usable) t h (opens_none o n usable was lt is stays)

pub quiet_opened : (cells : List (List Cell)) (o o' : List Bool) (line : List Pair) (turns : ℕ) (marks : List MarkRecord) (t : TableRecord) → ((m : ℕ) → get_or o' m false ≡ true → get_or o m false ≡ true) → IsQuiet cells o line turns marks t → IsQuiet cells o' line turns marks t
quiet_opened cells o o' line turns marks t less h = record { settled = λ m e. h.settled m (less m e); waiting = h.waiting }

none_still : (x y : ℕ) → (0 < x → 0 < y) → not (nat_lt 0 y) ≡ true → not (nat_lt 0 x) ≡ true
none_still x y k f = elim (cases_lt 0 x) [
  | inl lt ↦ let s = k lt in absurd (grind (arith, nat_tests, s, f))
  | inr ge ↦ grind (arith, nat_tests, ge)
]

asked_less : (cells cells' : List (List Cell)) (o : List Bool) (t : TableRecord) → IsIdle cells o t → ((a : ℕ) → AsksNoMore (asks_in cells) (asks_in cells') a) → IsIdle cells' o t
asked_less cells cells' o t h no_more = idle_less cells cells' o o t h (λ a u. (no_more a).wants u) (λ a u m e.
    let b = both_true (get_or o m false) (not (nat_lt 0 (asks_in cells' a (avoid_key u m)))) e in
    let f = b.1 in
    let k = (no_more a).avoids u m in
    and_true (get_or o m false) (not (nat_lt 0 (asks_in cells a (avoid_key u m)))) b.0 (none_still (asks_in cells a (avoid_key u m)) (asks_in cells' a (avoid_key u m)) k f))

-- ---- a demand that asks for no more
module _ (c : ClusterRecord) (es : List (Key × ℕ)) (cells : List (List Cell)) (o : List Bool) (a : ℕ) (w : AreWishes c cells o) (there : a < length cells) where
  abbrev xs : List Cell
  xs = get_or cells a []

  abbrev then : List (List Cell)
  then = set cells a (taken_all c es 0 xs)

  cell_then : (u : ℕ) → u < length xs → cell_at then a u ≡ taken c es u (cell_at cells a u)
  cell_then u lt = ap (λ ys. get_or ys u no_cell) (get_or-set_same cells a (taken_all c es 0 xs) [] there) ∙ get_or-taken_all c es 0 u u xs (omega arith) lt

  wants_then : (u : ℕ) → u < length xs → asks_in then a (want_key u) ≡ count key_cmp es (want_key u)
  wants_then u lt = ap (λ (x : Cell). x.want) (cell_then u lt)

  avoids_then : (u m : ℕ) → u < length xs → m < length c.machines → asks_in then a (avoid_key u m) ≡ count key_cmp es (avoid_key u m)
  avoids_then u m lt l = ap (λ (x : Cell). get_or x.avoided m 0) (cell_then u lt) ∙ counted_at (λ m. count key_cmp es (avoid_key u m)) (length c.machines) m l

  past_then : (u : ℕ) → length xs ≤ u → cell_at then a u ≡ no_cell
  past_then u le = ap (λ ys. get_or ys u no_cell) (get_or-set_same cells a (taken_all c es 0 xs) [] there) ∙ get_or-eq_default (taken_all c es 0 xs) no_cell (let n = length-taken_all c es 0 xs in omega (arith, n, le))

  -- a machine that is avoided is there, and so is the unit
  avoided_there : (u m : ℕ) → 0 < asks_in cells a (avoid_key u m) → (u < length xs) × (m < length c.machines)
  avoided_there u m some = elim (cases_lt u (length xs)) [
    | inl lt ↦ (
      lt,
      elim (cases_lt m (length c.machines)) [
        | inl l ↦ l
        | inr ge ↦ let n = (w.unit a u lt).avoided in let z = get_or-eq_default (cell_at cells a u).avoided 0 (let e : length (cell_at cells a u).avoided ≤ m = omega (arith, n, ge) in e) in absurd (omega (arith, some, z))
      ],
    )
    | inr ge ↦ let z = ap (λ (x : Cell). get_or x.avoided m 0) (get_or-eq_default xs no_cell ge) in absurd (omega (arith, some, z))
  ]

  not_gone : (x y : ℕ) → is_gone x y ≡ false → 0 < x → 0 < y
  not_gone x y e lt = grind (arith, nat_tests, e, lt)

  gone_not : (x y : ℕ) → (0 < x → 0 < y) → is_gone x y ≡ false
  gone_not x y h = elim (cases_lt 0 x) [
    | inl lt ↦ let s = h lt in grind (arith, nat_tests, s)
    | inr ge ↦ grind (arith, nat_tests, ge)
  ]

  one_no_more : any_more c es xs (length xs) ≡ false → (u : ℕ) → u < length xs → (nat_lt (cell_at cells a u).want (count key_cmp es (want_key u)) ≡ false) × (any_gone es 4 u (cell_at cells a u).avoided (length c.machines) ≡ false)
  one_no_more e u lt = both_false _ _ (any_one (λ u. asks_more c es u (get_or xs u no_cell)) (length xs) u e lt)

  no_more : any_more c es xs (length xs) ≡ false → AsksNoMore (asks_in cells) (asks_in then) a
  no_more e = record {
    wants = λ u. elim (cases_lt u (length xs)) [
      | inl lt ↦ let f = (one_no_more e u lt).0 in let n = wants_then u lt in let le : count key_cmp es (want_key u) ≤ (cell_at cells a u).want = grind (arith, nat_tests, f) in omega (arith, n, le)
      | inr ge ↦ let z = ap (λ (x : Cell). x.want) (past_then u ge) in omega (arith, z)
    ];
    avoids = λ u m some.
        let at = avoided_there u m some in
        let f = any_one (λ m. is_gone (get_or (cell_at cells a u).avoided m 0) (count key_cmp es (avoid_key u m))) (length c.machines) m (one_no_more e u at.0).1 at.1 in
        subst (λ n. 0 < n) (sym (avoids_then u m at.0 at.1)) (not_gone (get_or (cell_at cells a u).avoided m 0) (count key_cmp es (avoid_key u m)) f some);
  }

  pub more_not : AsksNoMore (asks_in cells) (asks_in then) a → any_more c es xs (length xs) ≡ false
  more_not h = any_none (λ u. asks_more c es u (get_or xs u no_cell)) (length xs) (λ u lt. or_none _ _
      (let n = wants_then u lt in let le = h.wants u in let f : count key_cmp es (want_key u) ≤ (cell_at cells a u).want = omega (arith, n, le) in grind (arith, nat_tests, f))
      (any_none (λ m. is_gone (get_or (cell_at cells a u).avoided m 0) (count key_cmp es (avoid_key u m))) (length c.machines) (λ m l. gone_not (get_or (cell_at cells a u).avoided m 0) (count key_cmp es (avoid_key u m)) (λ some. subst (λ n. 0 < n) (avoids_then u m lt l) (h.avoids u m some)))))

  other_then : (b : ℕ) (k : Key) → nat_eq a b ≡ false → asks_in then b k ≡ asks_in cells b k
  other_then b k f = ap (λ ys. asks_at (get_or ys k.unit no_cell) k) (one_set cells a b (taken_all c es 0 xs) [] there ∙ ap (λ t. cond t (taken_all c es 0 xs) (get_or cells b [])) f)

  all_no_more : any_more c es xs (length xs) ≡ false → (b : ℕ) → AsksNoMore (asks_in cells) (asks_in then) b
  all_no_more e b = elim (nat_eq a b) as (λ t. nat_eq a b ≡ t → AsksNoMore (asks_in cells) (asks_in then) b) [
    | true ↦ λ t. subst (AsksNoMore (asks_in cells) (asks_in then)) (number_is a b t) (no_more e)
    | false ↦ λ f. record {
      wants = λ u. let s = other_then b (want_key u) f in omega (arith, s);
      avoids = λ u m some. subst (λ n. 0 < n) (sym (other_then b (avoid_key u m) f)) some;
    }
  ] refl

  pub idle_asked : (t : TableRecord) → any_more c es xs (length xs) ≡ false → IsIdle cells o t → IsIdle then o t
  idle_asked t e h = asked_less cells then o t h (all_no_more e)

  -- where no unit lifts its avoidance of a machine, the machine is opened to none
  pub still_open : (m : ℕ) → AvoidsStill es xs m → (b u : ℕ) → is_open_to then o b u m ≡ true → is_open_to cells o b u m ≡ true
  still_open m still b u e =
      let f = both_true (get_or o m false) (not (nat_lt 0 (asks_in then b (avoid_key u m)))) e in
      and_true (get_or o m false) (not (nat_lt 0 (asks_in cells b (avoid_key u m)))) f.0 (none_still (asks_in cells b (avoid_key u m)) (asks_in then b (avoid_key u m)) (avoids (nat_eq a b) refl) f.1)
    where
      avoids : (t : Bool) → nat_eq a b ≡ t → 0 < asks_in cells b (avoid_key u m) → 0 < asks_in then b (avoid_key u m)
      avoids true t = subst (λ z. 0 < asks_in cells z (avoid_key u m) → 0 < asks_in then z (avoid_key u m)) (number_is a b t)
          (λ some. let at = avoided_there u m some in subst (λ n. 0 < n) (sym (avoids_then u m at.0 at.1)) (still u at.0 some))
      avoids false f = λ some. subst (λ n. 0 < n) (sym (other_then b (avoid_key u m) f)) some

  -- a unit that lifts it no longer avoids the machine
  pub lifted_then : (m : ℕ) → Lifts es xs m → IsLifted (asks_in cells) (asks_in then) a m
  lifted_then m h = let at = avoided_there h.unit m h.was in record { unit = h.unit; was = h.was; gone = avoids_then h.unit m at.0 at.1 ∙ h.gone }

  pub none_lifted : any_more c es xs (length xs) ≡ false → (m : ℕ) → Lifts es xs m → ⊥
  none_lifted e m h = let l = lifted_then m h in let some = (no_more e).avoids l.unit m l.was in let z = l.gone in absurd (omega (arith, some, z))

  pub waiting_asked : (t : TableRecord) → any_more c es xs (length xs) ≡ false → (b u : ℕ) → 0 < out_of (asks_in then) t.entries b u → 0 < out_of (asks_in cells) t.entries b u
  waiting_asked t e b u some = let le = (all_no_more e b).wants u in omega (arith, le, some)

-- ---- a job is admitted
module _ (j : JobRecord) (cells cells' : List (List Cell)) (o : List Bool) (t : TableRecord) (empty : get_or cells j.number [] ≡ []) (asks : (a : ℕ) (k : Key) → asks_in cells' a k ≡ asks_in cells a k)
    (new : is_known (as_known t.jobs) j.number ≡ false) (found : (a : ℕ) → job_of (as_known (with_admitted j t.jobs)) a ≡ cond (nat_eq j.number a) (Some (record { job = j; ended = false })) (job_of (as_known t.jobs) a)) where
  abbrev old : List KnownJob
  old = as_known t.jobs

  abbrev with_job : TableRecord
  with_job = record t { jobs = with_admitted j t.jobs }

  abbrev now : List KnownJob
  now = as_known with_job.jobs

  same : (a : ℕ) → nat_eq j.number a ≡ false → job_of now a ≡ job_of old a
  same a f = found a ∙ ap (λ b. cond b (Some (record { job = j; ended = false })) (job_of old a)) f

  none_before : (a : ℕ) → nat_eq j.number a ≡ true → job_of old a ≡ None
  none_before a e = subst (λ n. job_of old n ≡ None) (number_is j.number a e) (none_is (job_of old j.number) new)

  -- one place of a unit's size, and its greatest number per machine, of a job that may be there
  abbrev size_of : Option KnownJob → ℕ → ℕ → ℕ
  size_of k u i = at_place (unwrap_or (slice_get (unwrap_or (option_map (λ (k : KnownJob). k.job.units) k) []) u) no_unit).size i

  abbrev most_in : Option KnownJob → ℕ → ℕ
  most_in k u = (unwrap_or (slice_get (unwrap_or (option_map (λ (k : KnownJob). k.job.units) k) []) u) no_unit).most

  abbrev group_in : Option KnownJob → ℕ
  group_in k = unwrap_or (option_map (λ (k : KnownJob). k.job.group) k) 0

  nothing : (b : Bool) (n : ℕ) → cond b (n * 0) 0 ≡ 0
  nothing true n = omega arith
  nothing false n = refl

  -- what one grant adds on a machine, and to a group
  abbrev on_machine : ℕ → ℕ → Option KnownJob → Spot × ℕ → ℕ
  on_machine m i k e = cond (nat_eq e.0.machine m) (e.1 * size_of k e.0.unit i) 0

  abbrev to_group : ℕ → ℕ → Option KnownJob → Spot × ℕ → ℕ
  to_group g i k e = cond (nat_eq (group_in k) g) (e.1 * size_of k e.0.unit i) 0

  -- sums over grants are no less with the job
  no_less : (f : Option KnownJob → Spot × ℕ → ℕ) → ((e : Spot × ℕ) → f None e ≡ 0) → (e : Spot × ℕ) → f (job_of old e.0.job) e ≤ f (job_of now e.0.job) e
  no_less f z e = elim (nat_eq j.number e.0.job) as (λ b. nat_eq j.number e.0.job ≡ b → f (job_of old e.0.job) e ≤ f (job_of now e.0.job) e) [
    | true ↦ λ b. let n = ap (λ k. f k e) (none_before e.0.job b) ∙ z e in omega (arith, n)
    | false ↦ λ x. let s = ap (λ k. f k e) (same e.0.job x) in omega (arith, s)
  ] refl

  total_le : (m i : ℕ) → total_by (size_at old) m i t.entries ≤ total_by (size_at now) m i t.entries
  total_le m i = sum_le (λ e. on_machine m i (job_of old e.0.job) e) (λ e. on_machine m i (job_of now e.0.job) e) t.entries (no_less (on_machine m i) (λ e. nothing (nat_eq e.0.machine m) e.1))

  usage_le : (g i : ℕ) → usage_by (group_of old) (size_at old) g i t.entries ≤ usage_by (group_of now) (size_at now) g i t.entries
  usage_le g i = sum_le (λ e. to_group g i (job_of old e.0.job) e) (λ e. to_group g i (job_of now e.0.job) e) t.entries (no_less (to_group g i) (λ e. nothing (nat_eq 0 g) e.1))

  at_most : (limit usage size limit' usage' size' : ℕ) → limit' ≡ limit → size' ≡ size → usage ≤ usage' → not (nat_lt limit' (usage' + size')) ≡ true → not (nat_lt limit (usage + size)) ≡ true
  at_most limit usage size limit' usage' size' l s le h = grind (arith, nat_tests, l, s, le, h)

  still_narrow : (a u : ℕ) → nat_eq j.number a ≡ false → is_narrow t.cluster (size_at now a u) ≡ true → is_narrow t.cluster (size_at old a u) ≡ true
  still_narrow a u f h = sym (ap (λ k. is_narrow t.cluster (size_of k u)) (same a f)) ∙ h

  still_allowed : (a u : ℕ) → nat_eq j.number a ≡ false → is_allowed_in t.cluster (group_of now) (size_at now) t.entries a u ≡ true → is_allowed_in t.cluster (group_of old) (size_at old) t.entries a u ≡ true
  still_allowed a u f h =
      let then : ℕ → Bool = λ i. not (nat_lt (limit_at t.cluster (group_of now a) i) (usage_by (group_of now) (size_at now) (group_of now a) i t.entries + size_at now a u i)) in
      let before : ℕ → Bool = λ i. not (nat_lt (limit_at t.cluster (group_of old a) i) (usage_by (group_of old) (size_at old) (group_of old a) i t.entries + size_at old a u i)) in
      let b = both_true (is_narrow t.cluster (size_at now a u)) (in_each t.cluster then) h in
      let group : group_of now a ≡ group_of old a = ap group_in (same a f) in
      and_true (is_narrow t.cluster (size_at old a u)) (in_each t.cluster before) (still_narrow a u f b.0) (each_from t.cluster.resources before (λ i lt.
      at_most (limit_at t.cluster (group_of old a) i) (usage_by (group_of old) (size_at old) (group_of old a) i t.entries) (size_at old a u i)
      (limit_at t.cluster (group_of now a) i) (usage_by (group_of now) (size_at now) (group_of now a) i t.entries) (size_at now a u i)
      (ap (λ g. limit_at t.cluster g i) group) (ap (λ k. size_of k u i) (same a f)) (subst (λ g. usage_by (group_of old) (size_at old) (group_of old a) i t.entries ≤ usage_by (group_of now) (size_at now) g i t.entries) (sym group) (usage_le (group_of old a) i))
      (each_place t.cluster.resources then i b.1 lt)))

  still_room : (a u m : ℕ) → nat_eq j.number a ≡ false → has_room_in t.cluster (size_at now) t.entries a u m ≡ true → has_room_in t.cluster (size_at old) t.entries a u m ≡ true
  still_room a u m f h =
      let then : ℕ → Bool = λ i. not (nat_lt (has_at t.cluster m i) (total_by (size_at now) m i t.entries + size_at now a u i)) in
      let before : ℕ → Bool = λ i. not (nat_lt (has_at t.cluster m i) (total_by (size_at old) m i t.entries + size_at old a u i)) in
      let b = both_true (is_narrow t.cluster (size_at now a u)) (in_each t.cluster then) h in
      and_true (is_narrow t.cluster (size_at old a u)) (in_each t.cluster before) (still_narrow a u f b.0) (each_from t.cluster.resources before (λ i lt.
      at_most (has_at t.cluster m i) (total_by (size_at old) m i t.entries) (size_at old a u i) (has_at t.cluster m i) (total_by (size_at now) m i t.entries) (size_at now a u i)
      refl (ap (λ k. size_of k u i) (same a f)) (total_le m i) (each_place t.cluster.resources then i b.1 lt)))

  -- a unit of another job is granted no earlier than before
  pub admitted_later : (a u m : ℕ) → nat_eq j.number a ≡ false → NoEarlier (board_over cells o t) (board_over cells' o (record t { jobs = with_admitted j t.jobs })) t.entries t.entries (a, u) m
  admitted_later a u m f = record {
    priority = ap (λ (k : Option KnownJob). (unwrap_or (slice_get (unwrap_or (option_map (λ (k : KnownJob). k.job.units) k) []) u) no_unit).priority) (same a f);
    group = ap group_in (same a f);
    accepts = accepts_less (is_open_to cells o a u m) (nat_lt (held_on t.entries a u m) (most_of old a u)) (is_open_to cells' o a u m) (nat_lt (held_on t.entries a u m) (most_of now a u))
        (λ p. sym (ap (λ n. get_or o m false && not (nat_lt 0 n)) (asks a (avoid_key u m))) ∙ p) (λ p. sym (ap (λ k. nat_lt (held_on t.entries a u m) (most_in k u)) (same a f)) ∙ p);
    room = still_room a u m f;
    allowed = still_allowed a u f;
    level = levels_le (nat_lt (held_on t.entries a u m) (asks_in cells a (near_key u m))) (nat_lt (held_in t.cluster t.entries a u (rack_of t.cluster m)) (asks_in cells a (rack_key u (rack_of t.cluster m))))
        (nat_lt (held_on t.entries a u m) (asks_in cells' a (near_key u m))) (nat_lt (held_in t.cluster t.entries a u (rack_of t.cluster m)) (asks_in cells' a (rack_key u (rack_of t.cluster m))))
        (λ e. ap (nat_lt (held_on t.entries a u m)) (sym (asks a (near_key u m))) ∙ e) (λ e. ap (nat_lt (held_in t.cluster t.entries a u (rack_of t.cluster m))) (sym (asks a (rack_key u (rack_of t.cluster m)))) ∙ e);
  }

  -- a pair of the line is of another job
  apart_in : (line : List Pair) → AreAdmitted cells line → (a u : ℕ) → has_pair (a, u) line ≡ true → nat_eq j.number a ≡ false
  apart_in line admitted a u has = elim (nat_eq j.number a) as (λ b. nat_eq j.number a ≡ b → b ≡ false) [
    | true ↦ λ b. let p = place_of (a, u) line has in let l = all_at (λ (p : Pair). p.1 < length (get_or cells p.0 [])) line p.place (a, u) admitted p.at in let z = ap length (subst (λ n. get_or cells n [] ≡ []) (number_is j.number a b) empty) in absurd (omega (arith, l, z))
    | false ↦ λ _. refl
  ] refl

  pub clear_admitted : (line : List Pair) (turns : ℕ) (marks marks' : List MarkRecord) → ((m : ℕ) → get_or o m false ≡ true → mark_at marks' m ≡ limited_mark turns (mark_at marks m)) → AreAdmitted cells line → IsClear o line marks t → IsClear o line marks' with_job
  clear_admitted line turns marks marks' is admitted h = record { clear = λ allowed m g opened. ap (λ (k : MarkRecord). get_or k.groups g false) (is m opened) ∙ h.clear (λ a u has. still_allowed a u (apart_in line admitted a u has) (allowed a u has)) m g opened }

  pub kept_admitted : (line : List Pair) (turns : ℕ) (k : KeptRecord) (marks : List MarkRecord) → ((m : ℕ) → get_or o m false ≡ true → mark_at marks m ≡ limited_mark turns (mark_at k.marks m)) → AreAdmitted cells line → IsKept cells o line turns k t
      → IsKept cells' o line turns (record k { marks = marks }) (record t { jobs = with_admitted j t.jobs })
  kept_admitted line turns k marks is admitted h = record {
    bounds = λ m a u opened has lt.
        let to = ap (λ (x : MarkRecord). x.until) (is m opened) in
        let less = limited_less turns (mark_at k.marks m) in
        subst (λ (x : MarkRecord). IsBounded (board_over cells' o with_job) t.entries x.bound x.groups (turn_at k.turn_of a u) (a, u) m) (sym (is m opened))
        (bounded_later (board_over cells o t) (board_over cells' o with_job) t.entries t.entries (a, u) m
        (admitted_later a u m (apart_in line admitted a u has)) (mark_at k.marks m).bound (mark_at k.marks m).groups (turn_at k.turn_of a u) (h.bounds m a u opened has (omega (arith, lt, to, less))));
    later = λ m opened a u turn here ge lt. let to = ap (λ (x : MarkRecord). x.until) (is m opened) in let few = limited_few turns (mark_at k.marks m) in absurd (omega (arith, ge, lt, to, few));
    rises = h.rises;
    below = h.below;
    held = h.held;
  }

  none_out : (a u : ℕ) → nat_eq j.number a ≡ true → nat_lt 0 (out_of (asks_in cells') t.entries a u) ≡ false
  none_out a u b =
      let z : asks_in cells' a (want_key u) ≡ 0 = asks a (want_key u) ∙ ap (λ ys. (get_or ys u no_cell).want) (subst (λ n. get_or cells n [] ≡ []) (number_is j.number a b) empty) in
      let none : out_of (asks_in cells') t.entries a u ≤ 0 = omega (arith, z) in
      grind (arith, nat_tests, none)

  pub quiet_admitted : (line : List Pair) (turns : ℕ) (marks marks' : List MarkRecord) → ((m : ℕ) → get_or o m false ≡ true → mark_at marks' m ≡ limited_mark turns (mark_at marks m)) → IsQuiet cells o line turns marks t → IsQuiet cells' o line turns marks' with_job
  quiet_admitted line turns marks marks' is h = record {
    settled = λ m opened. ap (λ k. key_of k turns) (is m opened) ∙ limited_key turns (mark_at marks m) ∙ h.settled m opened;
    waiting = λ a u lt some. elim (nat_eq j.number a) as (λ b. nat_eq j.number a ≡ b → has_pair (a, u) line ≡ true) [
      | true ↦ λ b. let f = none_out a u b in absurd (grind (arith, nat_tests, f, some))
      | false ↦ λ f. h.waiting a u (subst (λ n. u < n) (ap (λ k. length (unwrap_or (option_map (λ (k : KnownJob). k.job.units) k) [])) (same a f)) lt)
          (subst (λ n. 0 < n) (ap (λ n. n - held t.entries a u) (asks a (want_key u))) some)
    ] refl;
  }

  -- the others wait as they did
  pub still_admitted : (calm calm' : List Bool) → ((b : ℕ) → get_or calm' b false ≡ (not (nat_eq j.number b) && get_or calm b false)) → (line : List Pair) → IsStill cells line calm t → IsStill cells' line calm' with_job
  still_admitted calm calm' less line h = still_asked calm calm' j.number less cells cells' line t with_job (λ b k _. asks b k) refl (λ b f. ap (λ k. length (unwrap_or (option_map (λ (k : KnownJob). k.job.units) k) [])) (same b f)) h

  -- nothing is out of the job, and of the others nothing that was not
  pub idle_admitted : IsIdle cells o t → IsIdle cells' o with_job
  idle_admitted h = record {
    none = λ a u m lt there. elim (nat_eq j.number a) as (λ b. nat_eq j.number a ≡ b → placeable_in (board_over cells' o with_job) t.entries a u m ≡ false) [
      | true ↦ λ b. ap (λ x. (x && is_allowed_in t.cluster (group_of now) (size_at now) t.entries a u) && (accepts_in (board_over cells' o with_job) t.entries a u m && has_room_in t.cluster (size_at now) t.entries a u m)) (none_out a u b)
      | false ↦ λ f. fewer (nat_lt 0 (out_of (asks_in cells) t.entries a u)) (is_allowed_in t.cluster (group_of old) (size_at old) t.entries a u) (accepts_in (board_over cells o t) t.entries a u m) (has_room_in t.cluster (size_at old) t.entries a u m)
          (nat_lt 0 (out_of (asks_in cells') t.entries a u)) (is_allowed_in t.cluster (group_of now) (size_at now) t.entries a u) (accepts_in (board_over cells' o with_job) t.entries a u m) (has_room_in t.cluster (size_at now) t.entries a u m)
          (h.none a u m (subst (λ n. u < n) (ap (λ k. length (unwrap_or (option_map (λ (k : KnownJob). k.job.units) k) [])) (same a f)) lt) there)
          (λ w. sym (ap (λ n. nat_lt 0 (n - held t.entries a u)) (asks a (want_key u))) ∙ w) (still_allowed a u f)
          (accepts_less (is_open_to cells o a u m) (nat_lt (held_on t.entries a u m) (most_of old a u)) (is_open_to cells' o a u m) (nat_lt (held_on t.entries a u m) (most_of now a u))
          (λ p. sym (ap (λ n. get_or o m false && not (nat_lt 0 n)) (asks a (avoid_key u m))) ∙ p) (λ p. sym (ap (λ k. nat_lt (held_on t.entries a u m) (most_in k u)) (same a f)) ∙ p))
          (still_room a u m f)
    ] refl;
  }
