-- What a tree holds after one unit of it begins to wait, waits no more, or stands elsewhere.
use Rattle.std.proofs.Common.{◌≡◌, ◌≢◌, ℕ, zero, suc, ◌+◌, ◌*◌, ◌<◌, Bool, true, false, cond, nat_eq, nat_lt, List, [], ◌∷◌, Option, Some, None, length, take, get_or, set, slice_get, refl, sym, ap, subst, ◌∙◌, inl, inr, arith, length-set}
use Rattle.std.specs.Prelude.{◌&&◌, ◌||◌, ◌/◌, ◌%◌}
use Rattle.std.proofs.lemmas.Bool.{cases_eq, cases_lt}
use Rattle.std.proofs.lemmas.Bool.Decides.{nat_tests}
use Rattle.std.proofs.lemmas.List.{get_or-set_same, get_or-set_other, set-get_or, length-map, length-replicate}
use Rattle.std.proofs.Math.ListN.{get_or-eq_default}
use Rattle.fuxi_terms.specs.Cluster.{ClusterRecord, MachineRecord}
use Rattle.fuxi_terms.specs.Keys.{Pair}
use Rattle.fuxi_terms.proofs.Booleans.{number_is, or_false, or_right}
use Rattle.fuxi_terms.proofs.Lists.{take_last}
use Rattle.spec_roles.specs.Placing.{has_pair}
use Rattle.wait_queue.specs.declared.node.Entry.{Entry}
use Rattle.locality_tree.specs.Trees.{UnitState, TreeRecord, no_unit, unit_number, unit_at, is_admitted, idle, place_count, cluster_place, rack_place, racks_of, with_stand, refreshed, MayWait}
use Rattle.place_pass.specs.Bounds.{IsRising, turn_at}
use Rattle.place_pass.specs.Cells.{Cell}
use Rattle.place_pass.specs.WaitingLines.{same_pair}
use Rattle.place_pass.specs.PlacerTrees.{entry_for, Holds, StandsAs, WaitsIn, Restood}
use Rattle.place_pass.proofs.WaitingLinesLemmas.{any_append, pair_is, pair_self}
use Rattle.place_pass.proofs.CandidatesLemmas.{place_of, same_place}
use Rattle.fuxi_terms.proofs.IndexedLists.{one_set, repeated_at}
use Rattle.fuxi_terms.specs.Tables.{Table}

none_some : (o : Option Entry) (e : Entry) → o ≡ None → o ≡ Some e → ⊥
none_some o e h g = cc

pub some_same : (o : Option Entry) (e f : Entry) → o ≡ Some e → o ≡ Some f → f ≡ e
some_same o e f h g = cc

-- ---- numbers of units
pub numbers_apart : (a u b v : ℕ) → u < 8 → v < 8 → same_pair (b, v) (a, u) ≡ false → unit_number b v ≢ unit_number a u
numbers_apart a u b v lu lv f = by (nat_eq b a) refl f
  where
    by : (t : Bool) → nat_eq b a ≡ t → (t && nat_eq v u) ≡ false → unit_number b v ≢ unit_number a u
    by true t f = let same = number_is b a t in let d : v ≢ u = grind (arith, nat_tests, f) in omega (arith, same, d)
    by false t f = let d : b ≢ a = grind (arith, nat_tests, t) in omega (arith, d, lu, lv)

pub apart_when : (waits : Pair → Bool) (p q : Pair) → waits p ≡ true → waits q ≡ false → same_pair q p ≡ false
apart_when waits p q w n = elim (same_pair q p) as (λ t. same_pair q p ≡ t → t ≡ false) [
  | true ↦ λ t. let f : false ≡ true = sym n ∙ ap waits (pair_is q p t) ∙ w in cc
  | false ↦ λ _. refl
] refl

-- a unit that has all places is one of the tree
pub within_places : (t : TreeRecord) (n : ℕ) → length (get_or t.units n no_unit).stands ≡ place_count t.racks → n < length t.units
within_places t n e = elim (cases_lt n (length t.units)) [
  | inl lt ↦ lt
  | inr ge ↦ let z : length (get_or t.units n no_unit).stands ≡ 0 = ap (λ (s : UnitState). length s.stands) (get_or-eq_default t.units no_unit ge) in absurd (omega (arith, e, z))
]

-- ---- one unit becomes another
module _ (t t' : TreeRecord) (a u : ℕ) (s : UnitState) (is : t' ≡ record t { units = set t.units (unit_number a u) s }) (within : unit_number a u < length t.units) where
  pub unit_here : unit_at t' a u ≡ s
  unit_here = ap (λ (x : TreeRecord). unit_at x a u) is ∙ get_or-set_same t.units (unit_number a u) s no_unit within

  pub unit_there : (k : ℕ) → k ≢ unit_number a u → get_or t'.units k no_unit ≡ get_or t.units k no_unit
  unit_there k d = ap (λ (x : TreeRecord). get_or x.units k no_unit) is ∙ get_or-set_other t.units (unit_number a u) k s no_unit d

  racks_same : t'.racks ≡ t.racks
  racks_same = ap (λ (x : TreeRecord). x.racks) is

  count_same : length t'.units ≡ length t.units
  count_same = ap (λ (x : TreeRecord). length x.units) is ∙ length-set t.units (unit_number a u) s

  pub restood_set : s.entry ≡ (unit_at t a u).entry → length s.stands ≡ length (unit_at t a u).stands → Restood (unit_number a u) t t'
  restood_set e l = record {
    racks = racks_same;
    count = count_same;
    entries = λ k. elim (cases_eq k (unit_number a u)) as (λ _. (get_or t'.units k no_unit).entry ≡ (get_or t.units k no_unit).entry) [
      | inl q ↦ subst (λ j. (get_or t'.units j no_unit).entry ≡ (get_or t.units j no_unit).entry) (sym q) (ap (λ (x : UnitState). x.entry) unit_here ∙ e)
      | inr d ↦ ap (λ (x : UnitState). x.entry) (unit_there k d)
    ];
    widths = λ k. elim (cases_eq k (unit_number a u)) as (λ _. length (get_or t'.units k no_unit).stands ≡ length (get_or t.units k no_unit).stands) [
      | inl q ↦ subst (λ j. length (get_or t'.units j no_unit).stands ≡ length (get_or t.units j no_unit).stands) (sym q) (ap (λ (x : UnitState). length x.stands) unit_here ∙ l)
      | inr d ↦ ap (λ (x : UnitState). length x.stands) (unit_there k d)
    ];
    others = unit_there;
  }

  each_unit : (P : ℕ → ℕ → UnitState → Type 0) → u < 8 → P a u s → ((b v : ℕ) → same_pair (b, v) (a, u) ≡ false → v < 8 → P b v (unit_at t b v)) → (b v : ℕ) → v < 8 → P b v (unit_at t' b v)
  each_unit P lu one rest b v lv = elim (same_pair (b, v) (a, u)) as (λ x. same_pair (b, v) (a, u) ≡ x → P b v (unit_at t' b v)) [
    | true ↦ λ x. subst (λ (q : Pair). P q.0 q.1 (unit_at t' q.0 q.1)) (sym (pair_is (b, v) (a, u) x)) (subst (P a u) (sym unit_here) one)
    | false ↦ λ x. subst (P b v) (sym (unit_there (unit_number b v) (numbers_apart a u b v lu lv x))) (rest b v x lv)
  ] refl

  -- the tree holds what it held, but for this unit
  pub holds_set : (c : ClusterRecord) (cells : List (List Cell)) (waits now : Pair → Bool) (turns : List ℕ) → Holds c cells waits turns t → u < 8 → length s.stands ≡ length (unit_at t a u).stands
      → ((b v : ℕ) → same_pair (b, v) (a, u) ≡ false → now (b, v) ≡ waits (b, v)) → (now (a, u) ≡ true → s.entry ≡ Some (entry_for cells turns a u))
      → (now (a, u) ≡ false → s.entry ≡ None) → (now (a, u) ≡ false → (place : ℕ) → get_or s.stands place false ≡ false) → Holds c cells now turns t'
  holds_set c cells waits now turns h lu long same waiting resting nowhere = record {
    racks = racks_same ∙ h.racks;
    all = count_same ∙ h.all;
    places = λ b v lv. each_unit (λ b v x. length x.stands ≡ cond (nat_lt v (length (get_or cells b []))) (place_count t.racks) 0) lu (long ∙ h.places a u lu) (λ b v _ lv. h.places b v lv) b v lv
        ∙ ap (λ rs. cond (nat_lt v (length (get_or cells b []))) (place_count rs) 0) (sym racks_same);
    few = few;
    entry = λ b v w. each_unit (λ b v x. now (b, v) ≡ true → x.entry ≡ Some (entry_for cells turns b v)) lu waiting (λ b v x lv w. h.entry b v (sym (same b v x) ∙ w)) b v (few b v w) w;
    none = λ b v lv w. each_unit (λ b v x. now (b, v) ≡ false → x.entry ≡ None) lu resting (λ b v x lv w. h.none b v lv (sym (same b v x) ∙ w)) b v lv w;
    nowhere = λ b v place lv w. each_unit (λ b v x. now (b, v) ≡ false → get_or x.stands place false ≡ false) lu (λ w. nowhere w place) (λ b v x lv w. h.nowhere b v place lv (sym (same b v x) ∙ w)) b v lv w;
  }
    where
      few : (b v : ℕ) → now (b, v) ≡ true → v < 8
      few b v w = elim (same_pair (b, v) (a, u)) as (λ x. same_pair (b, v) (a, u) ≡ x → v < 8) [
        | true ↦ λ x. subst (λ (q : Pair). q.1 < 8) (sym (pair_is (b, v) (a, u) x)) lu
        | false ↦ λ x. h.few b v (sym (same b v x) ∙ w)
      ] refl

-- ---- a unit stands elsewhere
pub restood_self : (n : ℕ) (t : TreeRecord) → Restood n t t
restood_self n t = record { racks = refl; count = refl; entries = λ k. refl; widths = λ k. refl; others = λ k d. refl }

pub restood_then : (n : ℕ) (t t' t'' : TreeRecord) → Restood n t t' → Restood n t' t'' → Restood n t t''
restood_then n t t' t'' r s = record {
  racks = s.racks ∙ r.racks;
  count = s.count ∙ r.count;
  entries = λ k. s.entries k ∙ r.entries k;
  widths = λ k. s.widths k ∙ r.widths k;
  others = λ k d. s.others k d ∙ r.others k d;
}

pub waits_on : (c : ClusterRecord) (e : Entry) (n : ℕ) (t t' : TreeRecord) → WaitsIn c e t → Restood n t t' → WaitsIn c e t'
waits_on c e n t t' w r = record {
  racks = r.racks ∙ w.racks;
  entry = r.entries (unit_number e.app.0 e.unit.0) ∙ w.entry;
  places = r.widths (unit_number e.app.0 e.unit.0) ∙ w.places ∙ ap (λ rs. place_count rs) (sym r.racks);
}

module _ (c : ClusterRecord) (t t' : TreeRecord) (e : Entry) (place : ℕ) (unmet : Bool) (w : WaitsIn c e t) (is : t' ≡ with_stand t e place unmet) where
  abbrev state : UnitState
  state = record { entry = (unit_at t e.app.0 e.unit.0).entry; stands = set (unit_at t e.app.0 e.unit.0).stands place unmet }

  pub marked : Restood (unit_number e.app.0 e.unit.0) t t'
  marked = restood_set t t' e.app.0 e.unit.0 state is (within_places t (unit_number e.app.0 e.unit.0) w.places) refl (length-set (unit_at t e.app.0 e.unit.0).stands place unmet)

  pub marked_at : place < place_count t.racks → (k : ℕ) → get_or (unit_at t' e.app.0 e.unit.0).stands k false ≡ cond (nat_eq place k) unmet (get_or (unit_at t e.app.0 e.unit.0).stands k false)
  marked_at lt k = ap (λ (s : UnitState). get_or s.stands k false) (unit_here t t' e.app.0 e.unit.0 state is (within_places t (unit_number e.app.0 e.unit.0) w.places))
      ∙ one_set (unit_at t e.app.0 e.unit.0).stands place k unmet false (let l = w.places in omega (arith, l, lt))

  pub marked_here : place < place_count t.racks → (k : ℕ) → k ≡ place → get_or (unit_at t' e.app.0 e.unit.0).stands k false ≡ unmet
  marked_here lt k q = marked_at lt k ∙ ap (λ b. cond b unmet (get_or (unit_at t e.app.0 e.unit.0).stands k false)) (let y : nat_eq place k ≡ true = grind (arith, nat_tests, q) in y)

  pub marked_apart : place < place_count t.racks → (k : ℕ) → k ≢ place → get_or (unit_at t' e.app.0 e.unit.0).stands k false ≡ get_or (unit_at t e.app.0 e.unit.0).stands k false
  marked_apart lt k d = marked_at lt k ∙ ap (λ b. cond b unmet (get_or (unit_at t e.app.0 e.unit.0).stands k false)) (let y : nat_eq place k ≡ false = grind (arith, nat_tests, d) in y)

  pub marked_waits : WaitsIn c e t'
  marked_waits = waits_on c e (unit_number e.app.0 e.unit.0) t t' w marked

-- one that stands as it has to is written as it is
pub stood_so : (t : TreeRecord) (e : Entry) (place : ℕ) (unmet : Bool) → get_or (unit_at t e.app.0 e.unit.0).stands place false ≡ unmet → t ≡ with_stand t e place unmet
stood_so t e place unmet h =
    let n = unit_number e.app.0 e.unit.0 in
    let u = get_or t.units n no_unit in
    let stands : set u.stands place unmet ≡ u.stands = ap (set u.stands place) (sym h) ∙ set-get_or u.stands place false in
    let units : set t.units n (record u { stands = set u.stands place unmet }) ≡ t.units = ap (λ (xs : List Bool). set t.units n (record u { stands = xs })) stands ∙ set-get_or t.units n no_unit in
    sym (ap (λ (us : List UnitState). record t { units = us }) units)

pub racks_long : (c : ClusterRecord) (t : TreeRecord) → t.racks ≡ racks_of c → length t.racks ≡ length c.machines
racks_long c t e = ap length e ∙ length-map c.machines (λ (m : MachineRecord). m.rack)

-- the tree holds what it held where a unit that waits stands otherwise
pub holds_on : (c : ClusterRecord) (cells : List (List Cell)) (waits : Pair → Bool) (turns : List ℕ) (t t' : TreeRecord) (a u : ℕ) → Holds c cells waits turns t → waits (a, u) ≡ true → Restood (unit_number a u) t t' → Holds c cells waits turns t'
holds_on c cells waits turns t t' a u h w r = record {
  racks = r.racks ∙ h.racks;
  all = r.count ∙ h.all;
  places = λ b v lv. r.widths (unit_number b v) ∙ h.places b v lv ∙ ap (λ rs. cond (nat_lt v (length (get_or cells b []))) (place_count rs) 0) (sym r.racks);
  few = h.few;
  entry = λ b v x. r.entries (unit_number b v) ∙ h.entry b v x;
  none = λ b v lv x. r.entries (unit_number b v) ∙ h.none b v lv x;
  nowhere = λ b v place lv x. ap (λ (s : UnitState). get_or s.stands place false) (r.others (unit_number b v) (numbers_apart a u b v (h.few a u w) lv (apart_when waits (a, u) (b, v) w x))) ∙ h.nowhere b v place lv x;
}

pub stands_on : (c : ClusterRecord) (cells : List (List Cell)) (es : Table) (b v : ℕ) (t t' : TreeRecord) → t'.racks ≡ t.racks → unit_at t' b v ≡ unit_at t b v → StandsAs c cells es b v t → StandsAs c cells es b v t'
stands_on c cells es b v t t' racks same h = record {
  near = λ m lt. ap (λ (s : UnitState). get_or s.stands m false) same ∙ h.near m lt;
  racks = λ r lt. (λ i. get_or (same i).stands (rack_place (racks i) r) false) ∙ h.racks r lt;
}

-- ---- who waits
pub places_of : (c : ClusterRecord) (cells : List (List Cell)) (waits : Pair → Bool) (turns : List ℕ) (t : TreeRecord) (a u : ℕ) → Holds c cells waits turns t → u < 8 → u < length (get_or cells a []) → length (unit_at t a u).stands ≡ place_count t.racks
places_of c cells waits turns t a u h lu lt = h.places a u lu ∙ ap (λ b. cond b (place_count t.racks) 0) (let y : nat_lt u (length (get_or cells a [])) ≡ true = grind (arith, nat_tests, lt) in y)

pub admitted_in : (c : ClusterRecord) (cells : List (List Cell)) (waits : Pair → Bool) (turns : List ℕ) (t : TreeRecord) (a u : ℕ) → Holds c cells waits turns t → u < 8 → u < length (get_or cells a []) → is_admitted t a u ≡ true
admitted_in c cells waits turns t a u h lu lt =
    let l = places_of c cells waits turns t a u h lu lt in
    let some : 0 < length (unit_at t a u).stands = omega (arith, l) in
    grind (arith, nat_tests, some)

pub waits_in : (c : ClusterRecord) (cells : List (List Cell)) (waits : Pair → Bool) (turns : List ℕ) (t : TreeRecord) (a u : ℕ) → Holds c cells waits turns t → waits (a, u) ≡ true → u < length (get_or cells a []) → WaitsIn c (entry_for cells turns a u) t
waits_in c cells waits turns t a u h w lt = record { racks = h.racks; entry = h.entry a u w; places = places_of c cells waits turns t a u h (h.few a u w) lt }

-- who waits with an entry is one of those that wait, and the entry is its own
pub record IsOfLine (cells : List (List Cell)) (waits : Pair → Bool) (turns : List ℕ) (n : ℕ) (e : Entry) : Type 0 where
  pub waiting : waits (e.app.0, e.unit.0) ≡ true
  pub is : e ≡ entry_for cells turns e.app.0 e.unit.0
  pub number : n ≡ unit_number e.app.0 e.unit.0

pub waiting_is : (c : ClusterRecord) (cells : List (List Cell)) (waits : Pair → Bool) (turns : List ℕ) (t : TreeRecord) → Holds c cells waits turns t → (n : ℕ) (e : Entry) → (get_or t.units n no_unit).entry ≡ Some e → IsOfLine cells waits turns n e
waiting_is c cells waits turns t h n e g =
    let back : 8 * (n / 8) + n % 8 ≡ n = omega arith in
    let low : n % 8 < 8 = omega arith in
    let found : (unit_at t (n / 8) (n % 8)).entry ≡ Some e = ap (λ k. (get_or t.units k no_unit).entry) back ∙ g in
    elim (waits (n / 8, n % 8)) as (λ w. waits (n / 8, n % 8) ≡ w → IsOfLine cells waits turns n e) [
      | true ↦ λ w. subst (IsOfLine cells waits turns n) (sym (some_same (unit_at t (n / 8) (n % 8)).entry (entry_for cells turns (n / 8) (n % 8)) e (h.entry (n / 8) (n % 8) w) found)) (record { waiting = w; is = refl; number = sym back })
      | false ↦ λ w. absurd (none_some (unit_at t (n / 8) (n % 8)).entry e (h.none (n / 8) (n % 8) low w) found)
    ] refl

-- a unit may wait, and wait no more, where no other that waits has its turn
pub may_wait : (c : ClusterRecord) (cells : List (List Cell)) (waits : Pair → Bool) (turns : List ℕ) (t : TreeRecord) (a u : ℕ) → Holds c cells waits turns t → a < 256 → u < 8
    → ((b v : ℕ) → waits (b, v) ≡ true → turn_at turns b v ≡ turn_at turns a u → same_pair (b, v) (a, u) ≡ true) → MayWait t (entry_for cells turns a u)
may_wait c cells waits turns t a u h la lu apart = record {
  app = la;
  unit = lu;
  same = λ f g. elim (waits (a, u)) as (λ w. waits (a, u) ≡ w → f ≡ entry_for cells turns a u) [
    | true ↦ λ w. some_same (unit_at t a u).entry (entry_for cells turns a u) f (h.entry a u w) g
    | false ↦ λ w. absurd (none_some (unit_at t a u).entry f (h.none a u lu w) g)
  ] refl;
  alone = λ n f g q.
      let own = waiting_is c cells waits turns t h n f g in
      let turn : turn_at turns f.app.0 f.unit.0 ≡ turn_at turns a u = sym (ap (λ (x : Entry). x.turn) own.is) ∙ q in
      own.number ∙ ap (λ (p : Pair). unit_number p.0 p.1) (pair_is (f.app.0, f.unit.0) (a, u) (apart f.app.0 f.unit.0 own.waiting turn));
}

-- ---- turns along a line
pub has_more : (xs : List Pair) (k : ℕ) (p q : Pair) → slice_get xs k ≡ Some p → has_pair q (take (k + 1) xs) ≡ (has_pair q (take k xs) || same_pair q p)
has_more xs k p q e = ap (has_pair q) (take_last xs k p e) ∙ any_append (same_pair q) (take k xs) (p ∷ []) ∙ ap (λ b. has_pair q (take k xs) || b) (or_false (same_pair q p))

pub has_other : (xs : List Pair) (k : ℕ) (p q : Pair) → slice_get xs k ≡ Some p → same_pair q p ≡ false → has_pair q (take (k + 1) xs) ≡ has_pair q (take k xs)
has_other xs k p q e f = has_more xs k p q e ∙ ap (λ b. has_pair q (take k xs) || b) f ∙ or_false (has_pair q (take k xs))

pub has_itself : (xs : List Pair) (k : ℕ) (p : Pair) → slice_get xs k ≡ Some p → has_pair p (take (k + 1) xs) ≡ true
has_itself xs k p e = has_more xs k p p e ∙ or_right (has_pair p (take k xs)) (same_pair p p) (pair_self p)

got_taken : (xs : List Pair) (k j : ℕ) (q : Pair) → slice_get (take k xs) j ≡ Some q → (slice_get xs j ≡ Some q) × (j < k)
got_taken [] zero j q e = cc
got_taken [] (suc k) j q e = cc
got_taken (x ∷ xs) zero j q e = cc
got_taken (x ∷ xs) (suc k) zero q e = (e, omega arith)
got_taken (x ∷ xs) (suc k) (suc j) q e = let r = got_taken xs k j q e in let lt = r.1 in (r.0, omega (arith, lt))

-- the turns of those before a place are smaller than the one there
pub turn_before : (f : Pair → ℕ) (xs : List Pair) (k : ℕ) (p q : Pair) → IsRising f xs → slice_get xs k ≡ Some p → has_pair q (take k xs) ≡ true → f q < f p
turn_before f xs k p q rises at has = let i = place_of q (take k xs) has in let g = got_taken xs k i.place q i.at in rises.before i.place k q p g.0 at g.1

-- pairs of one turn are one
pub turn_apart : (f : Pair → ℕ) (xs : List Pair) (p q : Pair) → IsRising f xs → has_pair p xs ≡ true → has_pair q xs ≡ true → f q ≡ f p → same_pair q p ≡ true
turn_apart f xs p q rises hp hq e =
    let i = place_of p xs hp in
    let j = place_of q xs hq in
    elim (cases_lt i.place j.place) [
      | inl lt ↦ let l = rises.before i.place j.place p q i.at j.at lt in absurd (omega (arith, l, e))
      | inr ge ↦ elim (cases_lt j.place i.place) [
        | inl lt ↦ let l = rises.before j.place i.place q p j.at i.at lt in absurd (omega (arith, l, e))
        | inr le ↦ let same : i.place ≡ j.place = omega (arith, ge, le) in subst (λ (x : Pair). same_pair x p ≡ true) (sym (same_place xs i.place j.place p q same i.at j.at)) (pair_self p)
      ]
    ]

-- ---- a unit begins to wait, or waits no more
module _ (c : ClusterRecord) (cells : List (List Cell)) (waits now : Pair → Bool) (turns : List ℕ) (t t' : TreeRecord) (a u : ℕ) (h : Holds c cells waits turns t) (lu : u < 8) (admitted : u < length (get_or cells a []))
    (same : (b v : ℕ) → same_pair (b, v) (a, u) ≡ false → now (b, v) ≡ waits (b, v)) where
  width : length (unit_at t a u).stands ≡ place_count t.racks
  width = places_of c cells waits turns t a u h lu admitted

  pub holds_left : now (a, u) ≡ false → t' ≡ refreshed t (entry_for cells turns a u) false → Holds c cells now turns t'
  holds_left gone is = holds_set t t' a u (idle (place_count t.racks)) is (within_places t (unit_number a u) width) c cells waits now turns h lu (length-replicate (place_count t.racks) false ∙ sym width) same
      (λ w. let f : false ≡ true = sym gone ∙ w in cc) (λ w. refl) (λ w k. repeated_at false (place_count t.racks) k)

  pub left_others : t' ≡ refreshed t (entry_for cells turns a u) false → (b v : ℕ) → v < 8 → same_pair (b, v) (a, u) ≡ false → unit_at t' b v ≡ unit_at t b v
  left_others is b v lv f = unit_there t t' a u (idle (place_count t.racks)) is (within_places t (unit_number a u) width) (unit_number b v) (numbers_apart a u b v lu lv f)

  abbrev begun_state : UnitState
  begun_state = record { entry = Some (entry_for cells turns a u); stands = set (unit_at t a u).stands (cluster_place t.racks) true }

  pub holds_begun : now (a, u) ≡ true → t' ≡ refreshed t (entry_for cells turns a u) true → Holds c cells now turns t'
  holds_begun waiting is = holds_set t t' a u begun_state is (within_places t (unit_number a u) width) c cells waits now turns h lu (length-set (unit_at t a u).stands (cluster_place t.racks) true) same
      (λ w. refl) (λ w. let f : true ≡ false = sym waiting ∙ w in cc) (λ w k. let f : true ≡ false = sym waiting ∙ w in cc)

  pub begun_others : t' ≡ refreshed t (entry_for cells turns a u) true → (b v : ℕ) → v < 8 → same_pair (b, v) (a, u) ≡ false → unit_at t' b v ≡ unit_at t b v
  begun_others is b v lv f = unit_there t t' a u begun_state is (within_places t (unit_number a u) width) (unit_number b v) (numbers_apart a u b v lu lv f)

  -- a unit that did not wait stood in no queue, and now stands in that of the cluster alone
  pub begun_nowhere : waits (a, u) ≡ false → t' ≡ refreshed t (entry_for cells turns a u) true → (place : ℕ) → place < cluster_place t.racks → get_or (unit_at t' a u).stands place false ≡ false
  begun_nowhere none is place lt =
      let d : place ≢ cluster_place t.racks = omega (arith, lt) in
      ap (λ (s : UnitState). get_or s.stands place false) (unit_here t t' a u begun_state is (within_places t (unit_number a u) width)) ∙ get_or-set_other (unit_at t a u).stands (cluster_place t.racks) place true false d ∙ h.nowhere a u place lu none
