-- The walk over a machine's path: what is left of it, and what is known of the pairs of the line that it passed.
use Rattle.std.proofs.Common.{◌≡◌, ◌⊎◌, ℕ, zero, suc, ◌+◌, ◌-◌, ◌*◌, ◌<◌, ◌≤◌, Bool, true, false, cond, not, nat_eq, nat_lt, List, [], ◌∷◌, Option, Some, None, length, map, get_or, refl, sym, ap, subst, ◌∙◌, inl, inr, arith}
use Rattle.std.specs.Prelude.{slice_get}
use Rattle.std.specs.Option.{unwrap_or, option_map}
use Rattle.std.specs.Cmp.{IsEquivalence}
use Rattle.std.specs.Cmp.Lexicographic.{slice_cmp}
use Rattle.std.specs.List.{AllByRecursion, IsDistinct, list_all}
use Rattle.std.specs.Ordering.{nat_cmp, is_lt, ordering_reverse}
use Rattle.std.proofs.lemmas.Bool.Decides.{nat_tests}
use Rattle.std.proofs.lemmas.List.{length-map}
use Rattle.std.proofs.lemmas.Map.Made.{length-le_from_is_member}
use Rattle.fuxi_terms.specs.Cluster.{ClusterRecord, JobRecord, MachineRecord, UnitRecord, no_machine, rack_of, is_priority, is_valid_unit, is_between}
use Rattle.fuxi_terms.specs.Jobs.{KnownJob, job_of, priority_of, no_unit as no_such_unit}
use Rattle.fuxi_terms.specs.Keys.{Pair}
use Rattle.fuxi_terms.proofs.Booleans.{both_true, number_is, nat_itself}
use Rattle.fuxi_terms.proofs.Lists.{all_at}
use Rattle.fuxi_terms.proofs.Members.{In}
use Rattle.fuxi_terms.specs.Tables.{Table}
use Rattle.spec_roles.specs.Masters.{level_of}
use Rattle.spec_roles.specs.Placing.{Board, has_pair}
use Rattle.grant_table.specs.GrantTables.{TableRecord, IsSound, as_known, AreJobs}
use Rattle.wait_queue.specs.declared.node.Entry.{Entry}
use Rattle.locality_tree.specs.declared.path.Path.{Path}
use Rattle.locality_tree.specs.Trees.{TreeRecord, RankedEntry, unit_at, level_at, racks_of, ranks_before, IsRanked, HasPath}
use Rattle.locality_tree.specs.Paths.{Leads, Gives}
use Rattle.place_pass.specs.Bounds.{comes_before, is_bound, rank_at, IsBounded}
use Rattle.place_pass.specs.Best.{AreAdmitted}
use Rattle.place_pass.specs.Cells.{Cell, cell_at, asks_in, job_at}
use Rattle.place_pass.specs.Placers.{AreLevel, board_over}
use Rattle.place_pass.specs.WaitingLines.{same_pair}
use Rattle.place_pass.specs.Candidates.{turn_in}
use Rattle.place_pass.specs.PlacerTrees.{StandsAs, TreeOf, entry_for}
use Rattle.place_pass.proofs.FirstByTurn.{less_first, less_rest}
use Rattle.place_pass.proofs.WaitingLinesLemmas.{either_one, pair_is, pair_self, pair_turned}
use Rattle.place_pass.proofs.CellsMatchTable.{rack_small, unit_is}
use Rattle.place_pass.proofs.CandidatesLemmas.{bounded_by, bounded_wider, order, place_of, self_bound}
use Rattle.place_pass.proofs.PlacerTreesLemmas.{IsOfLine, some_same, waiting_is}
use Rattle.fuxi_terms.proofs.NumberOrders.{is_less}

-- ---- ranks
not_after : (r s : List ℕ) → comes_before r s ≡ true → not (comes_before s r) ≡ true
not_after r s e = ap (λ o. not (is_lt o)) (order.antisymm s r ∙ ap ordering_reverse (is_less (slice_cmp nat_cmp r s) e))

abbrev pub rank_in_path : RankedEntry → List ℕ
rank_in_path p = (9 - p.0.priority) ∷ p.1 ∷ p.0.turn ∷ []

comes_first : (p q : RankedEntry) → p.0.priority ≤ 9 → q.0.priority ≤ 9 → ranks_before p q ≡ true → comes_before (rank_in_path p) (rank_in_path q) ≡ true
comes_first p q lp lq h = by (nat_eq p.0.priority q.0.priority) refl h
  where
    by_level : (b : Bool) → nat_eq p.1 q.1 ≡ b → cond b (nat_lt p.0.turn q.0.turn) (nat_lt p.1 q.1) ≡ true → comes_before (p.1 ∷ p.0.turn ∷ []) (q.1 ∷ q.0.turn ∷ []) ≡ true
    by_level true e h = less_rest q.1 p.1 (q.0.turn ∷ []) (p.0.turn ∷ []) (sym (number_is p.1 q.1 e)) (less_first q.0.turn p.0.turn [] [] (grind (arith, nat_tests, h)))
    by_level false e h = less_first q.1 p.1 (q.0.turn ∷ []) (p.0.turn ∷ []) (grind (arith, nat_tests, h))

    by : (b : Bool) → nat_eq p.0.priority q.0.priority ≡ b → cond b (cond (nat_eq p.1 q.1) (nat_lt p.0.turn q.0.turn) (nat_lt p.1 q.1)) (nat_lt q.0.priority p.0.priority) ≡ true → comes_before (rank_in_path p) (rank_in_path q) ≡ true
    by true e h = let same = number_is p.0.priority q.0.priority e in less_rest (9 - q.0.priority) (9 - p.0.priority) (q.1 ∷ q.0.turn ∷ []) (p.1 ∷ p.0.turn ∷ []) (omega (arith, same)) (by_level (nat_eq p.1 q.1) refl h)
    by false e h = let lt : q.0.priority < p.0.priority = grind (arith, nat_tests, h) in less_first (9 - q.0.priority) (9 - p.0.priority) (q.1 ∷ q.0.turn ∷ []) (p.1 ∷ p.0.turn ∷ []) (omega (arith, lt, lp, lq))

not_before_itself : (p : RankedEntry) → ranks_before p p ≡ false
not_before_itself p =
    let x = nat_itself p.0.priority in
    let y = nat_itself p.1 in
    let z : nat_lt p.0.turn p.0.turn ≡ false = grind (arith, nat_tests) in
    ap (λ b. cond b (cond (nat_eq p.1 p.1) (nat_lt p.0.turn p.0.turn) (nat_lt p.1 p.1)) (nat_lt p.0.priority p.0.priority)) x ∙ ap (λ b. cond b (nat_lt p.0.turn p.0.turn) (nat_lt p.1 p.1)) y ∙ z

-- the priorities of valid jobs
pub priority_small : (js : List JobRecord) → AreJobs js → (a u : ℕ) → priority_of (as_known js) a u ≤ 9
priority_small [] h a u = omega arith
priority_small (j ∷ js) h a u = by (nat_eq j.number a) (priority_small js h.1.1 a u)
  where
    each : (us : List UnitRecord) (u : ℕ) → list_all (is_valid_unit 8) us ≡ true → (unwrap_or (slice_get us u) no_such_unit).priority ≤ 9
    each [] u e = omega arith
    each (x ∷ xs) zero e =
        let t : is_priority x.priority ≡ true = (both_true (is_priority x.priority) _ (both_true (is_valid_unit 8 x) (list_all (is_valid_unit 8) xs) e).0).0 in
        let lt : x.priority < 10 = grind (arith, nat_tests, t) in omega (arith, lt)
    each (x ∷ xs) (suc u) e = each xs u (both_true (is_valid_unit 8 x) (list_all (is_valid_unit 8) xs) e).1

    here : (unwrap_or (slice_get j.units u) no_such_unit).priority ≤ 9
    here = each j.units u (both_true (is_between 1 8 (length j.units)) _ (both_true (nat_lt j.group 32) _ (both_true (nat_lt j.number 256) _ h.0).1).1).1

    by : (b : Bool) → priority_of (as_known js) a u ≤ 9 → (unwrap_or (slice_get (unwrap_or (option_map (λ (k : KnownJob). k.job.units) (cond b (Some (record { job = j; ended = false })) (job_of (as_known js) a))) []) u) no_such_unit).priority ≤ 9
    by true rest = here
    by false rest = rest

-- ---- levels: that of a unit in the tree is that of the table
rack_read : (ms : List MachineRecord) (m : ℕ) → m < length ms → get_or (map (λ (x : MachineRecord). x.rack) ms) m 0 ≡ (unwrap_or (slice_get ms m) no_machine).rack
rack_read [] m lt = absurd (omega (arith, lt))
rack_read (x ∷ xs) zero lt = refl
rack_read (x ∷ xs) (suc m) lt = rack_read xs m (omega (arith, lt))

pub level_is : (c : ClusterRecord) (cells : List (List Cell)) (es : Table) (a u m : ℕ) (t : TreeRecord) → t.racks ≡ racks_of c → m < length c.machines → rack_of c m < 64 → StandsAs c cells es a u t → level_at t a u m ≡ level_of c (asks_in cells) es a u m
level_is c cells es a u m t racks lt small h =
    let rack : get_or t.racks m 0 ≡ rack_of c m = ap (λ rs. get_or rs m 0) racks ∙ rack_read c.machines m lt in
    (λ i. cond (get_or (unit_at t a u).stands m false) 0 (cond (get_or (unit_at t a u).stands (length t.racks + rack i) false) 1 2))
    ∙ (λ i. cond (h.near m lt i) 0 (cond (h.racks (rack_of c m) small i) 1 2))

-- ---- no unit is twice on the path, so it is no longer than the line
abbrev pub pair_of_ranked : RankedEntry → Pair
pair_of_ranked p = (p.0.app.0, p.0.unit.0)

distinct : (ps : List RankedEntry) → IsRanked ps → ((p q : RankedEntry) → In p ps → In q ps → same_pair (pair_of_ranked p) (pair_of_ranked q) ≡ true → q ≡ p) → IsDistinct same_pair (map pair_of_ranked ps)
unfolding IsDistinct
distinct [] h same = tt
distinct (p ∷ ps) h same = (apart ps h.0 (λ q i e. same p q (inl refl) (inr i) e), distinct ps h.1 (λ x y i j e. same x y (inr i) (inr j) e))
  where
    apart : (qs : List RankedEntry) → AllByRecursion (λ q. ranks_before p q ≡ true) qs → ((q : RankedEntry) → In q qs → same_pair (pair_of_ranked p) (pair_of_ranked q) ≡ true → q ≡ p) → AllByRecursion (λ y. same_pair (pair_of_ranked p) y ≡ false) (map pair_of_ranked qs)
    apart [] h same = tt
    apart (q ∷ qs) h same = (
      elim (same_pair (pair_of_ranked p) (pair_of_ranked q)) as (λ b. same_pair (pair_of_ranked p) (pair_of_ranked q) ≡ b → b ≡ false) [
        | true ↦ λ e. let f : true ≡ false = sym h.0 ∙ ap (ranks_before p) (same q (inl refl) e) ∙ not_before_itself p in cc
        | false ↦ λ _. refl
      ] refl,
      apart qs h.1 (λ q i e. same q (inr i) e),
    )

record IsMember (x : Pair) (ps : List RankedEntry) : Type 0 where
  pair : RankedEntry
  among : In pair ps
  unit : same_pair x (pair_of_ranked pair) ≡ true

member_of : (x : Pair) (ps : List RankedEntry) → has_pair x (map pair_of_ranked ps) ≡ true → IsMember x ps
member_of x [] h = cc
member_of x (p ∷ ps) h = elim (either_one (same_pair x (pair_of_ranked p)) (has_pair x (map pair_of_ranked ps)) h) [
  | inl e ↦ record { pair = p; among = inl refl; unit = e }
  | inr r ↦ let m = member_of x ps r in record { pair = m.pair; among = inr m.among; unit = m.unit }
]

laws : IsEquivalence same_pair
laws = record {
  refl = pair_self;
  symm = pair_turned;
  congr = λ x y z e. ap (λ w. same_pair w z) (pair_is x y e);
}

-- ---- a step of the walk
-- the first that is left
pub record IsHead (rest : List RankedEntry) (x : RankedEntry) (L : List RankedEntry → Type 0) : Type 0 where
  pub tail : List RankedEntry
  pub is : rest ≡ x ∷ tail
  pub leads : L tail

pub head_of : (rest : List RankedEntry) (r : Option RankedEntry) (x : RankedEntry) (L : List RankedEntry → Type 0) → Gives rest r L → r ≡ Some x → IsHead rest x L
head_of [] r x L g e = let f : None ≡ Some x = sym g.0 ∙ e in cc
head_of (y ∷ ys) r x L g e = let same : y ≡ x = first (sym g.0 ∙ e) in record { tail = ys; is = ap (λ z. z ∷ ys) same; leads = g.1 }
  where
    first : Some y ≡ Some x → y ≡ x
    first f = cc

pub none_left : (rest : List RankedEntry) (r : Option RankedEntry) (L : List RankedEntry → Type 0) → Gives rest r L → r ≡ None → rest ≡ []
none_left [] r L g e = refl
none_left (y ∷ ys) r L g e = let f : Some y ≡ None = sym g.0 ∙ e in cc

module _ (c : ClusterRecord) (cells : List (List Cell)) (line : List Pair) (turns : List ℕ) (es : Table) (t : TreeRecord) (m : ℕ) where
  -- what is said of the pairs of a path, and of those that are left of it
  pub record AreOfPath (ps : List RankedEntry) : Type 0 where
    pub ranked : IsRanked ps
    pub waiting : (e : Entry) (level : ℕ) → In (e, level) ps → ((unit_at t e.app.0 e.unit.0).entry ≡ Some e) × (level ≡ level_at t e.app.0 e.unit.0 m)

  path_short : TreeOf c cells line turns es t → (ps : List RankedEntry) → AreOfPath ps → length ps ≤ length line
  path_short of ps h =
      let le = length-le_from_is_member laws (map pair_of_ranked ps) line (distinct ps h.ranked same) (λ x e. among x (member_of x ps e)) in
      let n = length-map ps pair_of_ranked in
      omega (arith, le, n)
    where
      same : (p q : RankedEntry) → In p ps → In q ps → same_pair (pair_of_ranked p) (pair_of_ranked q) ≡ true → q ≡ p
      same p q i j e =
          let u : pair_of_ranked p ≡ pair_of_ranked q = pair_is (pair_of_ranked p) (pair_of_ranked q) e in
          let x = h.waiting p.0 p.1 i in
          let y = h.waiting q.0 q.1 j in
          let one = some_same (unit_at t p.0.app.0 p.0.unit.0).entry p.0 q.0 x.0 (ap (λ (z : Pair). (unit_at t z.0 z.1).entry) u ∙ y.0) in
          let two : q.1 ≡ p.1 = y.1 ∙ ap (λ (z : Pair). level_at t z.0 z.1 m) (sym u) ∙ sym x.1 in
          λ k. (one k, two k)

      among : (x : Pair) → IsMember x ps → has_pair x line ≡ true
      among x k =
          let w = waiting_is c cells (λ p. has_pair p line) turns t of.waits (8 * k.pair.0.app.0 + k.pair.0.unit.0) k.pair.0 (h.waiting k.pair.0 k.pair.1 k.among).0 in
          subst (λ (y : Pair). has_pair y line ≡ true) (sym (pair_is x (pair_of_ranked k.pair) k.unit)) w.waiting

  -- what a walk has left, where so many steps may follow, and what is known of those that it passed: none of them can be placed on the machine, but where its group is noted
  pub record Walk (b : Board) (groups : List Bool) (p : Path) (left : ℕ) : Type 0 where
    pub rest : List RankedEntry
    pub leads : Leads p rest
    pub are : AreOfPath rest
    pub few : length rest ≤ left
    pub seen : (q : Pair) → has_pair q line ≡ true → In (entry_for cells turns q.0 q.1, level_at t q.0 q.1 m) rest ⊎ IsBounded b es None groups (turn_in turns q) q m

  pub walk_starts : TreeOf c cells line turns es t → (b : Board) (groups : List Bool) (p : Path) → HasPath t m (Leads p) → Walk b groups p (length line)
  walk_starts of b groups p h =
      let are : AreOfPath h.pairs = record { ranked = h.is_path.ranked; waiting = h.is_path.waiting } in
      record { rest = h.pairs; leads = h.leads; are = are; few = path_short of h.pairs are; seen = λ q has. inl (h.is_path.all q.0 q.1 (entry_for cells turns q.0 q.1) (of.waits.entry q.0 q.1 has)) }

  -- where nothing is left
  pub walk_over : (b : Board) (groups : List Bool) (p : Path) (left : ℕ) (w : Walk b groups p left) → w.rest ≡ [] → (q : Pair) → has_pair q line ≡ true → IsBounded b es None groups (turn_in turns q) q m
  walk_over b groups p left w none q has = elim (w.seen q has) [
    | inl i ↦ absurd (subst (In (entry_for cells turns q.0 q.1, level_at t q.0 q.1 m)) none i)
    | inr x ↦ x
  ]

  -- the unit of the head is one of the line, with its level
  pub head_waits : TreeOf c cells line turns es t → (b : Board) (groups : List Bool) (p : Path) (left : ℕ) (w : Walk b groups p left) (x : RankedEntry) (L : List RankedEntry → Type 0) → IsHead w.rest x L → IsOfLine cells (λ q. has_pair q line) turns (8 * x.0.app.0 + x.0.unit.0) x.0
  head_waits of b groups p left w x L h = waiting_is c cells (λ q. has_pair q line) turns t of.waits (8 * x.0.app.0 + x.0.unit.0) x.0 (w.are.waiting x.0 x.1 (subst (In x) (sym h.is) (inl refl))).0

  pub head_level : (b : Board) (groups : List Bool) (p : Path) (left : ℕ) (w : Walk b groups p left) (x : RankedEntry) (L : List RankedEntry → Type 0) → IsHead w.rest x L → x.1 ≡ level_at t x.0.app.0 x.0.unit.0 m
  head_level b groups p left w x L h = (w.are.waiting x.0 x.1 (subst (In x) (sym h.is) (inl refl))).1

  -- the walk goes on behind a head that is passed
  pub walk_on : (b : Board) (groups groups' : List Bool) (p p' : Path) (left left' : ℕ) (w : Walk b groups p left) (x : RankedEntry) (h : IsHead w.rest x (Leads p')) → left ≤ left' + 1 → ((g : ℕ) → get_or groups g false ≡ true → get_or groups' g false ≡ true)
      → IsBounded b es None groups' (turn_in turns (x.0.app.0, x.0.unit.0)) (x.0.app.0, x.0.unit.0) m → Walk b groups' p' left'
  walk_on b groups groups' p p' left left' w x h less more passed = record {
    rest = h.tail;
    leads = h.leads;
    are = record { ranked = (subst IsRanked h.is w.are.ranked).1; waiting = λ e level i. w.are.waiting e level (subst (In (e, level)) (sym h.is) (inr i)) };
    few = let l = w.few in let n = ap length h.is in omega (arith, l, n, less);
    seen = λ q has. elim (w.seen q has) [
      | inl i ↦ elim (cut (subst (In (entry_for cells turns q.0 q.1, level_at t q.0 q.1 m)) h.is i)) [
        | inl e ↦ inr (subst (λ (y : RankedEntry). IsBounded b es None groups' (turn_in turns (y.0.app.0, y.0.unit.0)) (y.0.app.0, y.0.unit.0) m) (sym e) passed)
        | inr j ↦ inl j
      ]
      | inr y ↦ inr (bounded_wider b es None None groups groups' (turn_in turns q) q m (λ r e. e) (more (b.groups q.0)) y)
    ];
  }
    where
      cut : {y : RankedEntry} → In y (x ∷ h.tail) → (y ≡ x) ⊎ In y h.tail
      cut i = i

  -- no pair of the line comes before a head that can be placed
  pub head_least : (b : Board) (groups : List Bool) (p : Path) (left : ℕ) (w : Walk b groups p left) (x : RankedEntry) (L : List RankedEntry → Type 0) (h : IsHead w.rest x L) (rank : List ℕ) → rank_in_path x ≡ rank → x.0.priority ≤ 9
      → ((q : Pair) → has_pair q line ≡ true → rank_in_path (entry_for cells turns q.0 q.1, level_at t q.0 q.1 m) ≡ rank_at b es (turn_in turns q) q m)
      → ((q : Pair) → has_pair q line ≡ true → (entry_for cells turns q.0 q.1).priority ≤ 9)
      → (q : Pair) → has_pair q line ≡ true → IsBounded b es (Some rank) groups (turn_in turns q) q m
  head_least b groups p left w x L h rank is low ranks lows q has = elim (w.seen q has) [
    | inl i ↦ bounded_by b es (Some rank) groups (turn_in turns q) q m (subst (λ r. is_bound (Some r) (rank_at b es (turn_in turns q) q m) ≡ true) is (subst (λ r. is_bound (Some (rank_in_path x)) r ≡ true) (ranks q has) (among (subst (In (entry_for cells turns q.0 q.1, level_at t q.0 q.1 m)) h.is i))))
    | inr y ↦ bounded_wider b es None (Some rank) groups groups (turn_in turns q) q m (λ r e. cc) (λ e. e) y
  ]
    where
      all_in : (P : RankedEntry → Type 0) (y : RankedEntry) (ys : List RankedEntry) → AllByRecursion P ys → In y ys → P y
      all_in P y [] a i = absurd i
      all_in P y (z ∷ zs) a (inl e) = subst P (sym e) a.0
      all_in P y (z ∷ zs) a (inr i) = all_in P y zs a.1 i

      among : In (entry_for cells turns q.0 q.1, level_at t q.0 q.1 m) (x ∷ h.tail) → is_bound (Some (rank_in_path x)) (rank_in_path (entry_for cells turns q.0 q.1, level_at t q.0 q.1 m)) ≡ true
      among (inl e) = subst (λ (y : RankedEntry). is_bound (Some (rank_in_path x)) (rank_in_path y) ≡ true) (sym e) (self_bound (rank_in_path x))
      among (inr i) = not_after (rank_in_path x) (rank_in_path (entry_for cells turns q.0 q.1, level_at t q.0 q.1 m))
          (comes_first x (entry_for cells turns q.0 q.1, level_at t q.0 q.1 m) low (lows q has) (all_in (λ y. ranks_before x y ≡ true) (entry_for cells turns q.0 q.1, level_at t q.0 q.1 m) h.tail (subst IsRanked h.is w.are.ranked).0 i))

-- ---- the ranks of a path are those of the board
module _ (c : ClusterRecord) (cells : List (List Cell)) (o : List Bool) (line : List Pair) (turns : List ℕ) (tb : TableRecord) (t : TreeRecord) (m : ℕ) (l : AreLevel c (job_at cells) tb) (sound : IsSound tb) (of : TreeOf c cells line turns tb.entries t)
    (admitted : AreAdmitted cells line) (there : m < length tb.cluster.machines) where
  pub admitted_at : (a u : ℕ) → has_pair (a, u) line ≡ true → u < length (get_or cells a [])
  admitted_at a u has = let place = place_of (a, u) line has in all_at (λ (p : Pair). p.1 < length (get_or cells p.0 [])) line place.place (a, u) admitted place.at

  late_is : (a u : ℕ) → has_pair (a, u) line ≡ true → (cell_at cells a u).unit.priority ≡ priority_of (as_known tb.jobs) a u
  late_is a u has = ap (λ (x : UnitRecord). x.priority) (unit_is c cells tb l a u (admitted_at a u has))

  pub path_ranks : (q : Pair) → has_pair q line ≡ true → rank_in_path (entry_for cells turns q.0 q.1, level_at t q.0 q.1 m) ≡ rank_at (board_over cells o tb) tb.entries (turn_in turns q) q m
  path_ranks q has =
      let small : rack_of c m < 64 = subst (λ (x : ClusterRecord). rack_of x m < 64) (sym l.cluster_is) (rack_small tb.cluster sound.valid m there) in
      let lt : m < length c.machines = subst (λ (x : ClusterRecord). m < length x.machines) (sym l.cluster_is) there in
      let level = level_is c cells tb.entries q.0 q.1 m t of.waits.racks lt small (of.stands q.0 q.1 has) ∙ ap (λ (x : ClusterRecord). level_of x (asks_in cells) tb.entries q.0 q.1 m) l.cluster_is in
      let late = late_is q.0 q.1 has in
      λ i. (9 - late i) ∷ level i ∷ turn_in turns q ∷ []

  pub path_lows : (q : Pair) → has_pair q line ≡ true → (entry_for cells turns q.0 q.1).priority ≤ 9
  path_lows q has = subst (λ n. n ≤ 9) (sym (late_is q.0 q.1 has)) (priority_small tb.jobs sound.in_order q.0 q.1)
