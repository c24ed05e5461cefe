-- The board of a master says the same as the table and the placer.
use Rattle.std.proofs.Common.{◌≡◌, ℕ, ◌<◌, true, false, not, nat_eq, nat_lt, List, [], ◌∷◌, length, map, filter, get_or, refl, sym, ◌∙◌, ap, subst, arith}
use Rattle.std.specs.Prelude.{◌&&◌, Option, Some, slice_get}
use Rattle.std.specs.Option.{unwrap_or, option_map}
use Rattle.std.proofs.lemmas.Bool.Decides.{nat_tests}
use Rattle.fuxi_terms.specs.Cluster.{ClusterRecord, UnitRecord}
use Rattle.std.specs.List.{AllByRecursion, flat_map}
use Rattle.fuxi_terms.specs.Keys.{Spot, Pair}
use Rattle.fuxi_terms.specs.Lists.{below}
use Rattle.fuxi_terms.specs.Tables.{spot, Table}
use Rattle.fuxi_terms.proofs.Alls.{all_more, all_append, all_back, all_mapped, all_flat, all_filter}
use Rattle.fuxi_terms.specs.Jobs.{units_of, unit_count, priority_of, size_at, most_of, group_of, no_unit}
use Rattle.fuxi_terms.specs.Numbers.{has_number}
use Rattle.fuxi_terms.specs.TallyKeys.{avoid_key}
use Rattle.fuxi_terms.specs.Vectors.{at_place}
use Rattle.fuxi_terms.proofs.Booleans.{both_true, and_true, or_left, or_right, nat_itself}
use Rattle.spec_roles.specs.Masters.{Master, avoids, out_of}
use Rattle.spec_roles.specs.Placing.{Board, board, accepts_in, has_pair}
use Rattle.spec_roles.specs.Preemption.{plan_in, plan_of, tried_in, by_priority_in, falling_priorities}
use Rattle.spec_roles.specs.Preemption.{Plan as WrittenPlan}
use Rattle.grant_table.specs.GrantTables.{TableRecord, as_known}
use Rattle.place_pass.specs.Placers.{SeenRecord, usable_in, units_seen, asks_seen, IsUpToDate}
use Rattle.preempt.specs.declared.plan.Plan.{Plan}
use Rattle.preempt.specs.Plans.{IsBoardOf, IsFirstPlan, plan_as, served_of}
use Rattle.allotment.specs.PlacingReads.{IsPlacing}
use Rattle.allotment.proofs.Boards.{and_grouped, groups_same, units_same}

pub board_is : (t : TableRecord) (s : SeenRecord) (c : ClusterRecord) (M : Master) → IsPlacing t s c M → ((a : ℕ) → units_seen s a ≡ unit_count (as_known t.jobs) a) → IsBoardOf (board c M) t (usable_in s)
board_is t s c M h units = record {
  cluster = sym h.cluster;
  priorities = λ a u. ap (λ (us : List UnitRecord). (unwrap_or (slice_get us u) no_unit).priority) (sym (same a));
  sizes = λ a u i. ap (λ (us : List UnitRecord). at_place (unwrap_or (slice_get us u) no_unit).size i) (sym (same a));
  mosts = λ a u. ap (λ (us : List UnitRecord). (unwrap_or (slice_get us u) no_unit).most) (sym (same a));
  groups = λ a. sym (groups_same (as_known t.jobs) M.jobs h.jobs a);
  may_use = λ a u m lt _.
      let there : nat_lt u (units_seen s a) ≡ true = let n = units a in grind (arith, nat_tests, n, lt) in
      let open_is = h.usable m in
      let avoid = h.avoids a u m in
      sym (and_grouped (has_number m M.reported) (not (has_number m M.bans)) (not (avoids M a u m)))
      ∙ (λ i. sym open_is i && not (nat_lt 0 (sym avoid i)))
      ∙ ap (λ b. b && (get_or s.opened m false && not (nat_lt 0 (asks_seen s a (avoid_key u m))))) (sym there);
}
  where
    same : (a : ℕ) → units_of (as_known t.jobs) a ≡ units_of M.jobs a
    same = units_same (as_known t.jobs) M.jobs h.jobs

pub line_admitted : (t : TableRecord) (s : SeenRecord) → IsUpToDate s t → (a u : ℕ) → has_pair (a, u) s.line ≡ true → u < unit_count (as_known t.jobs) a
line_admitted t s up a u e =
    let p : nat_lt u (unit_count (as_known t.jobs) a) ≡ true = (both_true (nat_lt u (unit_count (as_known t.jobs) a)) (nat_lt 0 (out_of (asks_seen s) t.entries a u)) (sym (up a u) ∙ e)).0 in
    grind (arith, nat_tests, p)

-- so what each board that says the same gives is the plan of the master
pub planned : (t : TableRecord) (s : SeenRecord) (found : Option Plan) → ((a : ℕ) → units_seen s a ≡ unit_count (as_known t.jobs) a) → ((B : Board) → IsBoardOf B t (usable_in s) → option_map plan_as found ≡ plan_in B t.entries s.line)
    → (c : ClusterRecord) (M : Master) → IsPlacing t s c M → option_map plan_as found ≡ plan_of c M
planned t s found units h c M placing =
    let entries = placing.entries in
    let line = placing.line in
    h (board c M) (board_is t s c M placing units) ∙ (λ i. plan_in (board c M) (entries i) (line i))

-- ---- the pair that a plan serves is one of the line
abbrev pub own_board : TableRecord → SeenRecord → Board
own_board t s = record { cluster = t.cluster; priorities = priority_of (as_known t.jobs); sizes = size_at (as_known t.jobs); mosts = most_of (as_known t.jobs); groups = group_of (as_known t.jobs); asks = asks_seen s; may_use = usable_in s; serving = true }

own_board_is : (t : TableRecord) (s : SeenRecord) → IsBoardOf (own_board t s) t (usable_in s)
own_board_is t s = record { cluster = refl; priorities = λ a u. refl; sizes = λ a u i. refl; mosts = λ a u. refl; groups = λ a. refl; may_use = λ a u m lt le. refl }

all_flat_of : {A B : Type 0} (P : A → Type 0) (Q : B → Type 0) (f : A → List B) → ((x : A) → P x → AllByRecursion Q (f x)) → (xs : List A) → AllByRecursion P xs → AllByRecursion Q (flat_map f xs)
all_flat_of P Q f h [] all = tt
all_flat_of P Q f h (x ∷ xs) all = all_append Q (f x) (flat_map f xs) (h x all.0) (all_flat_of P Q f h xs all.1)

all_in : {A : Type 0} (P : A → Type 0) → ((x : A) → P x) → (xs : List A) → AllByRecursion P xs
all_in P h [] = tt
all_in P h (x ∷ xs) = (h x, all_in P h xs)

record IsLined (line : List Pair) (p : Pair) : Type 0 where
  there : has_pair p line ≡ true

all_lined : (line : List Pair) → AllByRecursion (IsLined line) line
all_lined [] = tt
all_lined (p ∷ ps) = (
  record { there = or_left (nat_eq p.0 p.0 && nat_eq p.1 p.1) (has_pair p ps) (and_true (nat_eq p.0 p.0) (nat_eq p.1 p.1) (nat_itself p.0) (nat_itself p.1)) },
  all_more (IsLined ps) (IsLined (p ∷ ps)) (λ q h. record { there = or_right (nat_eq q.0 p.0 && nat_eq q.1 p.1) (has_pair q ps) h.there }) ps (all_lined ps),
)

all_tried : (B : Board) (es : Table) (line : List Pair) → AllByRecursion (λ (s : Spot). IsLined line (s.job, s.unit)) (tried_in B es line)
all_tried B es line =
    all_flat_of (IsLined line) (λ (s : Spot). IsLined line (s.job, s.unit)) (λ p. map (spot p.0 p.1) (filter (accepts_in B es p.0 p.1) (below (length B.cluster.machines))))
    (λ p h. all_mapped (λ (s : Spot). IsLined line (s.job, s.unit)) (spot p.0 p.1) (filter (accepts_in B es p.0 p.1) (below (length B.cluster.machines))) (all_in (λ (m : ℕ). IsLined line (p.0, p.1)) (λ m. h) (filter (accepts_in B es p.0 p.1) (below (length B.cluster.machines)))))
    (by_priority_in B.priorities line)
    (all_flat (IsLined line) (λ n. filter (λ p. nat_eq (B.priorities p.0 p.1) n) line) falling_priorities (λ n. all_filter (IsLined line) (λ p. nat_eq (B.priorities p.0 p.1) n) line (all_lined line)))

abbrev pub FirstLaw : Type 0
FirstLaw = (B : Board) (es : Table) (line : List Pair) (p : WrittenPlan) → plan_in B es line ≡ Some p → IsFirstPlan B es (tried_in B es line) p

pub served_lined : FirstLaw → (t : TableRecord) (s : SeenRecord) (p : Plan) → ((B : Board) → IsBoardOf B t (usable_in s) → Some (plan_as p) ≡ plan_in B t.entries s.line) → has_pair (p.pick.app.0, p.pick.unit.0) s.line ≡ true
served_lined law t s p h =
    let B = own_board t s in
    let is = law B t.entries s.line (plan_as p) (sym (h B (own_board_is t s))) in
    let P : Spot → Type 0 = λ s'. IsLined s.line (s'.job, s'.unit) in
    (all_back P is.before (served_of p.pick ∷ is.after) (subst (AllByRecursion P) is.split (all_tried B t.entries s.line))).0.there

pub served_waits : FirstLaw → (t : TableRecord) (s : SeenRecord) (p : Plan) → IsUpToDate s t → ((B : Board) → IsBoardOf B t (usable_in s) → Some (plan_as p) ≡ plan_in B t.entries s.line) → 0 < out_of (asks_seen s) t.entries p.pick.app.0 p.pick.unit.0
served_waits law t s p up h =
    let a = p.pick.app.0 in
    let u = p.pick.unit.0 in
    let some : nat_lt 0 (out_of (asks_seen s) t.entries a u) ≡ true = (both_true (nat_lt u (unit_count (as_known t.jobs) a)) (nat_lt 0 (out_of (asks_seen s) t.entries a u)) (sym (up a u) ∙ served_lined law t s p h)).1 in
    grind (arith, nat_tests, some)
