-- Where units stand, and who waits, after a change of the table, a demand, or a job more.
use Rattle.std.proofs.Common.{◌≡◌, ◌≢◌, ℕ, zero, suc, ◌+◌, ◌*◌, ◌<◌, ◌≤◌, Bool, true, false, cond, not, nat_eq, nat_lt, List, [], Some, None, length, filter, get_or, set, refl, sym, ap, subst, ◌∙◌, inl, inr, arith, length-set}
use Rattle.std.specs.Prelude.{◌&&◌, T}
use Rattle.std.specs.FinMap.Entries.{is_sorted}
use Rattle.std.proofs.lemmas.Bool.{cases_eq, cases_lt}
use Rattle.std.proofs.lemmas.Bool.Decides.{nat_tests}
use Rattle.std.proofs.lemmas.List.{get_or-set_same, get_or-set_other, length-replicate}
use Rattle.fuxi_terms.specs.Cluster.{ClusterRecord, JobRecord, rack_of}
use Rattle.fuxi_terms.specs.Counts.{set_count}
use Rattle.fuxi_terms.specs.Keys.{Spot, spot_cmp, Pair}
use Rattle.fuxi_terms.specs.Tables.{spot, held_on, held_in, Table}
use Rattle.fuxi_terms.specs.TallyKeys.{near_key, rack_key}
use Rattle.fuxi_terms.specs.declared.Key.{Key}
use Rattle.fuxi_terms.proofs.Booleans.{and_true, both_true, nat_itself, not_true}
use Rattle.spec_roles.specs.Placing.{has_pair}
use Rattle.locality_tree.specs.Trees.{UnitState, TreeRecord, all_units, no_unit, unit_at, unit_number, idle, with_idle, with_job, started, place_count, rack_place, racks_of}
use Rattle.place_pass.specs.Cells.{Cell, cell_at, asks_in, no_cell}
use Rattle.place_pass.specs.WaitingLines.{same_pair}
use Rattle.place_pass.specs.PlacerTrees.{entry_for, Holds, HoldsLine, StandsAs, AllStand, Restood, RestoodAt}
use Rattle.place_pass.proofs.BoundsAfterChange.{count_stays, rack_stays}
use Rattle.place_pass.proofs.WaitingLinesLemmas.{has_filter, pair_is, pair_turned}
use Rattle.place_pass.proofs.PlacerTreesLemmas.{apart_when, numbers_apart, racks_long, stands_on}
use Rattle.fuxi_terms.proofs.IndexedLists.{repeated_at}

-- ---- the number at one spot is set
module _ (c : ClusterRecord) (cells : List (List Cell)) (es : Table) (a u m n : ℕ) (sorted : T (is_sorted spot_cmp es)) where
  abbrev told : Table
  told = set_count spot_cmp es (spot a u m) n

  -- another unit stands as it has to
  pub stands_other : (b v : ℕ) (t : TreeRecord) → same_pair (b, v) (a, u) ≡ false → StandsAs c cells es b v t → StandsAs c cells told b v t
  stands_other b v t f h = record {
    near = λ j lt. h.near j lt ∙ ap (λ k. nat_lt k (asks_in cells b (near_key v j))) (sym (count_stays es (spot a u m) n sorted (spot b v j) (differs j)));
    racks = λ r lt. h.racks r lt ∙ ap (λ k. nat_lt k (asks_in cells b (rack_key v r))) (sym (rack_stays es (spot a u m) n sorted c b v r (longer (nat_eq a b) (nat_eq u v) (nat_eq (rack_of c m) r) apart)));
  }
    where
      apart : (nat_eq a b && nat_eq u v) ≡ false
      apart = pair_turned (a, u) (b, v) ∙ f

      longer : (x y z : Bool) → (x && y) ≡ false → (x && (y && z)) ≡ false
      longer true true z e = cc
      longer true false z e = refl
      longer false y z e = refl

      differs : (j : ℕ) → spot b v j ≡ spot a u m → ⊥
      differs j e =
          let y : (nat_eq b b && nat_eq v v) ≡ true = and_true (nat_eq b b) (nat_eq v v) (nat_itself b) (nat_itself v) in
          let x : (nat_eq b b && nat_eq v v) ≡ (nat_eq a b && nat_eq u v) = ap (λ (q : Spot). nat_eq q.job b && nat_eq q.unit v) e in
          let z : true ≡ false = sym y ∙ x ∙ apart in cc

  -- and so does the unit itself, once its places of the machine and of the rack are set
  pub stands_told : (t t' : TreeRecord) → m < length c.machines → rack_of c m < 64 → t.racks ≡ racks_of c → t'.racks ≡ t.racks → RestoodAt c cells told a u m (rack_of c m) t t' → StandsAs c cells es a u t → StandsAs c cells told a u t'
  stands_told t t' lm lr racks same at h = record {
    near = λ j lt. elim (cases_eq j m) as (λ _. get_or (unit_at t' a u).stands j false ≡ nat_lt (held_on told a u j) (asks_in cells a (near_key u j))) [
      | inl q ↦ subst (λ j. get_or (unit_at t' a u).stands j false ≡ nat_lt (held_on told a u j) (asks_in cells a (near_key u j))) (sym q) at.near
      | inr d ↦ at.rest j d (omega (arith, lt, long)) ∙ h.near j lt ∙ ap (λ k. nat_lt k (asks_in cells a (near_key u j))) (sym (count_stays es (spot a u m) n sorted (spot a u j) (λ e. d (ap (λ (q : Spot). q.machine) e))))
    ];
    racks = λ r lt. (λ i. get_or (unit_at t' a u).stands (rack_place (same i) r) false) ∙ elim (cases_eq r (rack_of c m)) as (λ _. get_or (unit_at t' a u).stands (rack_place t.racks r) false ≡ nat_lt (held_in c told a u r) (asks_in cells a (rack_key u r))) [
      | inl q ↦ subst (λ r. get_or (unit_at t' a u).stands (rack_place t.racks r) false ≡ nat_lt (held_in c told a u r) (asks_in cells a (rack_key u r))) (sym q) at.rack
      | inr d ↦ at.rest (rack_place t.racks r) (omega (arith, lm, long)) (omega (arith, d)) ∙ h.racks r lt
          ∙ ap (λ k. nat_lt k (asks_in cells a (rack_key u r))) (sym (rack_stays es (spot a u m) n sorted c a u r (last (nat_eq a a) (nat_eq u u) (nat_eq (rack_of c m) r) (let y : nat_eq (rack_of c m) r ≡ false = grind (arith, nat_tests, d) in y))))
    ];
  }
    where
      long : length t.racks ≡ length c.machines
      long = racks_long c t racks

      last : (x y z : Bool) → z ≡ false → (x && (y && z)) ≡ false
      last true true z e = e
      last true false z e = refl
      last false y z e = refl

  -- a line that the unit does not stand in
  pub all_apart : (line : List Pair) (t : TreeRecord) → has_pair (a, u) line ≡ false → AllStand c cells es line t → AllStand c cells told line t
  all_apart line t out h b v has = stands_other b v t (pair_turned (b, v) (a, u) ∙ apart_when (λ p. has_pair p line) (b, v) (a, u) has out) (h b v has)

  -- and one in which it stays
  pub all_told : (line : List Pair) (t t' : TreeRecord) → ((b v : ℕ) → has_pair (b, v) line ≡ true → v < 8) → has_pair (a, u) line ≡ true → m < length c.machines → rack_of c m < 64 → t.racks ≡ racks_of c → Restood (unit_number a u) t t'
      → RestoodAt c cells told a u m (rack_of c m) t t' → AllStand c cells es line t → AllStand c cells told line t'
  all_told line t t' small there lm lr racks r at h b v has = elim (same_pair (b, v) (a, u)) as (λ x. same_pair (b, v) (a, u) ≡ x → StandsAs c cells told b v t') [
    | true ↦ λ x. subst (λ (q : Pair). StandsAs c cells told q.0 q.1 t') (sym (pair_is (b, v) (a, u) x)) (stands_told t t' lm lr racks r.racks at (h a u there))
    | false ↦ λ x. stands_on c cells told b v t t' r.racks (r.others (unit_number b v) (numbers_apart a u b v (small a u there) (small b v has) x)) (stands_other b v t x (h b v has))
  ] refl

-- ---- what stays of a line when a unit that has nothing out leaves it
abbrev pub others_in : ℕ → ℕ → List Pair → List Pair
others_in a u line = filter (λ p. not (nat_eq p.0 a && nat_eq p.1 u)) line

pub has_others : (a u : ℕ) (line : List Pair) (p : Pair) → has_pair p (others_in a u line) ≡ (has_pair p line && not (same_pair p (a, u)))
has_others a u line p = has_filter (λ p. not (nat_eq p.0 a && nat_eq p.1 u)) p line

pub apart_from : (a u : ℕ) (line : List Pair) (p : Pair) → has_pair p (others_in a u line) ≡ true → (has_pair p line ≡ true) × (same_pair p (a, u) ≡ false)
apart_from a u line p has =
    let b = both_true (has_pair p line) (not (same_pair p (a, u))) (sym (has_others a u line p) ∙ has) in
    (b.0, not_true (same_pair p (a, u)) b.1)

-- ---- what is asked
pub holds_cells : (c : ClusterRecord) (cells cells' : List (List Cell)) (waits : Pair → Bool) (turns : List ℕ) (t : TreeRecord) → ((a : ℕ) → length (get_or cells' a []) ≡ length (get_or cells a []))
    → ((a u : ℕ) → (cell_at cells' a u).unit.priority ≡ (cell_at cells a u).unit.priority) → Holds c cells waits turns t → Holds c cells' waits turns t
holds_cells c cells cells' waits turns t long same h = record {
  racks = h.racks;
  all = h.all;
  places = λ a u lu. h.places a u lu ∙ ap (λ n. cond (nat_lt u n) (place_count t.racks) 0) (sym (long a));
  few = h.few;
  entry = λ a u w. h.entry a u w ∙ (λ i. Some (record { app = record { 0 = a }; unit = record { 0 = u }; priority = sym (same a u) i; turn = (entry_for cells turns a u).turn }));
  none = h.none;
  nowhere = h.nowhere;
}

pub stands_asked : (c : ClusterRecord) (cells cells' : List (List Cell)) (es : Table) (b v : ℕ) (t : TreeRecord) → ((k : Key) → asks_in cells' b k ≡ asks_in cells b k) → StandsAs c cells es b v t → StandsAs c cells' es b v t
stands_asked c cells cells' es b v t e h = record {
  near = λ m lt. h.near m lt ∙ ap (nat_lt (held_on es b v m)) (sym (e (near_key v m)));
  racks = λ r lt. h.racks r lt ∙ ap (nat_lt (held_in c es b v r)) (sym (e (rack_key v r)));
}

-- ---- turns
pub holds_turned : (c : ClusterRecord) (cells : List (List Cell)) (waits : Pair → Bool) (turns turns' : List ℕ) (t : TreeRecord) → ((a u : ℕ) → waits (a, u) ≡ true → (entry_for cells turns' a u).turn ≡ (entry_for cells turns a u).turn)
    → Holds c cells waits turns t → Holds c cells waits turns' t
holds_turned c cells waits turns turns' t same h = record {
  racks = h.racks;
  all = h.all;
  places = h.places;
  few = h.few;
  entry = λ a u w. h.entry a u w ∙ (λ i. Some (record { app = record { 0 = a }; unit = record { 0 = u }; priority = (entry_for cells turns a u).priority; turn = sym (same a u w) i }));
  none = h.none;
  nowhere = h.nowhere;
}

-- ---- a job more
idle_count : (units : List UnitState) (first places n : ℕ) → length (with_idle units first places n) ≡ length units
idle_count units first places zero = refl
idle_count units first places (suc n) = length-set (with_idle units first places n) (first + n) (idle places) ∙ idle_count units first places n

idle_in : (units : List UnitState) (first places n i : ℕ) → first + n ≤ length units → i < n → get_or (with_idle units first places n) (first + i) no_unit ≡ idle places
idle_in units first places zero i long lt = absurd (omega (arith, lt))
idle_in units first places (suc n) i long lt = elim (cases_eq i n) as (λ _. get_or (with_idle units first places (suc n)) (first + i) no_unit ≡ idle places) [
  | inl e ↦ ap (λ k. get_or (with_idle units first places (suc n)) (first + k) no_unit) e ∙ get_or-set_same (with_idle units first places n) (first + n) (idle places) no_unit (let l = idle_count units first places n in omega (arith, l, long))
  | inr d ↦ get_or-set_other (with_idle units first places n) (first + n) (first + i) (idle places) no_unit (omega (arith, d)) ∙ idle_in units first places n i (omega (arith, long)) (omega (arith, lt, d))
]

idle_out : (units : List UnitState) (first places n k : ℕ) → ((i : ℕ) → i < n → k ≢ first + i) → get_or (with_idle units first places n) k no_unit ≡ get_or units k no_unit
idle_out units first places zero k h = refl
idle_out units first places (suc n) k h = get_or-set_other (with_idle units first places n) (first + n) k (idle places) no_unit (h n (omega arith)) ∙ idle_out units first places n k (λ i lt. h i (omega (arith, lt)))

pub all_are : all_units ≡ 2048
unfolding all_units
all_are = refl

module _ (c : ClusterRecord) (cells : List (List Cell)) (xs : List Cell) (line : List Pair) (turns : List ℕ) (t : TreeRecord) (j : JobRecord) (h : HoldsLine c cells line turns t) (small : j.number < 256) (long : length cells ≡ 256) (few : length j.units ≤ 8)
    (count : length xs ≡ length j.units) (empty : get_or cells j.number [] ≡ []) (admitted : (a u : ℕ) → has_pair (a, u) line ≡ true → u < length (get_or cells a [])) where
  abbrev now : TreeRecord
  now = with_job t j

  abbrev cells' : List (List Cell)
  cells' = set cells j.number xs

  each_job : (P : ℕ → ℕ → UnitState → Type 0) → ((u : ℕ) → u < length j.units → P j.number u (idle (place_count t.racks))) → ((a u : ℕ) → u < 8 → (a ≡ j.number → u < length j.units → ⊥) → P a u (unit_at t a u)) → (a u : ℕ) → u < 8 → P a u (unit_at now a u)
  each_job P one rest a u lu = elim (cases_eq a j.number) as (λ _. P a u (unit_at now a u)) [
    | inl e ↦ elim (cases_lt u (length j.units)) as (λ _. P a u (unit_at now a u)) [
      | inl lt ↦ subst (λ b. P b u (unit_at now b u)) (sym e) (subst (P j.number u) (sym (idle_in t.units (8 * j.number) (place_count t.racks) (length j.units) u inside lt)) (one u lt))
      | inr ge ↦ subst (P a u) (sym (idle_out t.units (8 * j.number) (place_count t.racks) (length j.units) (unit_number a u) (λ i lt. omega (arith, e, ge, lt)))) (rest a u lu (λ _ lt. let f : ⊥ = omega (arith, lt, ge) in f))
    ]
    | inr d ↦ subst (P a u) (sym (idle_out t.units (8 * j.number) (place_count t.racks) (length j.units) (unit_number a u) (λ i lt. omega (arith, d, lu, lt, few)))) (rest a u lu (λ e _. d e))
  ]
    where
      inside : 8 * j.number + length j.units ≤ length t.units
      inside = let l = h.all ∙ all_are in omega (arith, l, small, few)

  row_now : get_or cells' j.number [] ≡ xs
  row_now = get_or-set_same cells j.number xs [] (omega (arith, small, long))

  row_other : (a : ℕ) → a ≢ j.number → get_or cells' a [] ≡ get_or cells a []
  row_other a d = get_or-set_other cells j.number a xs [] d

  of_others : (a u : ℕ) → has_pair (a, u) line ≡ true → a ≢ j.number
  of_others a u w e = let lt = admitted a u w in let z : length (get_or cells a []) ≡ 0 = ap (λ b. length (get_or cells b [])) e ∙ ap length empty in omega (arith, lt, z)

  pub holds_admitted : HoldsLine c cells' line turns now
  holds_admitted = record {
    racks = h.racks;
    all = idle_count t.units (8 * j.number) (place_count t.racks) (length j.units) ∙ h.all;
    places = λ a u lu. each_job (λ a u s. length s.stands ≡ cond (nat_lt u (length (get_or cells' a []))) (place_count t.racks) 0)
        (λ u lt. length-replicate (place_count t.racks) false ∙ ap (λ b. cond b (place_count t.racks) 0) (sym (ap (λ ys. nat_lt u (length ys)) row_now ∙ (let y : nat_lt u (length xs) ≡ true = grind (arith, nat_tests, lt, count) in y))))
        (λ a u lu out. h.places a u lu ∙ ap (λ b. cond b (place_count t.racks) 0) (elim (cases_eq a j.number) as (λ _. nat_lt u (length (get_or cells a [])) ≡ nat_lt u (length (get_or cells' a []))) [
          | inl e ↦
              let ge : length xs ≤ u = elim (cases_lt u (length xs)) [ inl lt ↦ absurd (out e (omega (arith, lt, count))) | inr ge ↦ ge ] in
              let x : nat_lt u (length xs) ≡ false = grind (arith, nat_tests, ge) in
              let y : nat_lt u 0 ≡ false = grind (arith, nat_tests) in
              ap (λ b. nat_lt u (length (get_or cells b []))) e ∙ ap (λ ys. nat_lt u (length ys)) empty ∙ y ∙ sym (ap (λ b. nat_lt u (length (get_or cells' b []))) e ∙ ap (λ ys. nat_lt u (length ys)) row_now ∙ x)
          | inr d ↦ ap (λ ys. nat_lt u (length ys)) (sym (row_other a d))
        ])) a u lu;
    few = h.few;
    entry = λ a u w. each_job (λ a u s. has_pair (a, u) line ≡ true → s.entry ≡ Some (entry_for cells' turns a u))
        (λ u lt w. absurd (of_others j.number u w refl))
        (λ a u lu _ w. h.entry a u w ∙ (λ i. Some (record { app = record { 0 = a }; unit = record { 0 = u }; priority = (get_or (sym (row_other a (of_others a u w)) i) u no_cell).unit.priority; turn = (entry_for cells turns a u).turn })))
        a u (h.few a u w) w;
    none = λ a u lu w. each_job (λ a u s. has_pair (a, u) line ≡ false → s.entry ≡ None) (λ u lt w. refl) (λ a u lu _ w. h.none a u lu w) a u lu w;
    nowhere = λ a u place lu w. each_job (λ a u s. has_pair (a, u) line ≡ false → get_or s.stands place false ≡ false) (λ u lt w. repeated_at false (place_count t.racks) place) (λ a u lu _ w. h.nowhere a u place lu w) a u lu w;
  }

  -- nobody of the line stands otherwise
  pub stands_admitted : (es : Table) → ((a : ℕ) (k : Key) → asks_in cells' a k ≡ asks_in cells a k) → AllStand c cells es line t → AllStand c cells' es line now
  stands_admitted es asks all a u w =
      let same : unit_at now a u ≡ unit_at t a u = each_job (λ a u s. has_pair (a, u) line ≡ true → s ≡ unit_at t a u) (λ u lt w. absurd (of_others j.number u w refl)) (λ a u lu _ w. refl) a u (h.few a u w) w in
      stands_asked c cells cells' es a u now (asks a) (stands_on c cells es a u t now refl same (all a u w))

-- ---- at the start
pub holds_started : (c : ClusterRecord) (cells : List (List Cell)) (turns : List ℕ) → ((a : ℕ) → length (get_or cells a []) ≡ 0) → HoldsLine c cells [] turns (started c)
holds_started c cells turns empty = record {
  racks = refl;
  all = length-replicate all_units no_unit;
  places = λ a u lu. ap (λ (s : UnitState). length s.stands) (repeated_at no_unit all_units (unit_number a u)) ∙ ap (λ b. cond b (place_count (racks_of c)) 0) (sym (ap (nat_lt u) (empty a) ∙ (let y : nat_lt u 0 ≡ false = grind (arith, nat_tests) in y)));
  few = λ a u w. cc;
  entry = λ a u w. cc;
  none = λ a u lu w. ap (λ (s : UnitState). s.entry) (repeated_at no_unit all_units (unit_number a u));
  nowhere = λ a u place lu w. ap (λ (s : UnitState). get_or s.stands place false) (repeated_at no_unit all_units (unit_number a u));
}
