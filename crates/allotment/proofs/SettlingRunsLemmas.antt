-- Grants one after another: each step is the master's, and where nothing is placeable it has settled.
use Rattle.std.proofs.Common.{◌≡◌, ℕ, ◌+◌, ◌-◌, ◌<◌, Bool, true, false, cond, nat_eq, nat_lt, List, [], ◌∷◌, ◌++◌, None, Some, filter, T, refl, sym, ◌∙◌, ap, subst, arith}
use Rattle.std.specs.Prelude.{◌&&◌, ◌||◌}
use Rattle.std.specs.List.{sum_by}
use Rattle.std.specs.Ordering.{eq_by_cmp}
use Rattle.std.proofs.lemmas.List.Folds.{list_any-append}
use Rattle.std.specs.FinMap.Entries.{is_sorted}
use Rattle.std.proofs.lemmas.Bool.Decides.{nat_tests}
use Rattle.fuxi_terms.specs.Cluster.{ClusterRecord}
use Rattle.fuxi_terms.specs.Counts.{count, set_count}
use Rattle.fuxi_terms.specs.Jobs.{unit_count}
use Rattle.fuxi_terms.specs.Keys.{Spot, spot_cmp, Pair}
use Rattle.fuxi_terms.specs.TallyKeys.{want_key}
use Rattle.fuxi_terms.specs.Tables.{held, with_grant, Table}
use Rattle.fuxi_terms.proofs.Booleans.{both_true, both_false}
use Rattle.fuxi_terms.proofs.CountsLemmas.{count-set_count}
use Rattle.fuxi_terms.proofs.KeyOrders.{spot_total}
use Rattle.spec_roles.specs.Masters.{Master, out_of}
use Rattle.spec_roles.specs.Placing.{first_in, has_pair, granted, settled}
use Rattle.grant_table.specs.GrantTables.{TableRecord, as_known}
use Rattle.place_pass.specs.Placers.{SeenRecord, asks_seen, board_with, line_told, IsUpToDate}
use Rattle.allotment.specs.PlacingReads.{IsPlacing}
use Rattle.allotment.specs.PlacingReads.{has_spot}
use Rattle.allotment.specs.SettlingRuns.{IsSettling, AreTouched, all_out}
use Rattle.allotment.proofs.Boards.{first_same}
use Rattle.allotment.proofs.LineGranted.{IsWaiting, pair_flipped, line_granted, fewer_out}

-- how what is held changes where one number is set
abbrev pub SetsHeld : Type 0
SetsHeld = (es : Table) (s : Spot) (n a u : ℕ) → T (is_sorted spot_cmp es) → held (set_count spot_cmp es s n) a u + cond (nat_eq s.job a && nat_eq s.unit u) (count spot_cmp es s) 0 ≡ held es a u + cond (nat_eq s.job a && nat_eq s.unit u) n 0

module _ (law : SetsHeld) (t : TableRecord) (s : SeenRecord) (x : Spot) (sorted : T (is_sorted spot_cmp t.entries)) where
  abbrev pub after : Table
  after = with_grant t.entries x

  pub others : (b v : ℕ) → (nat_eq b x.job && nat_eq v x.unit) ≡ false → out_of (asks_seen s) after b v ≡ out_of (asks_seen s) t.entries b v
  others b v f =
      let e = law t.entries x (count spot_cmp t.entries x + 1) b v sorted in
      let g : (nat_eq x.job b && nat_eq x.unit v) ≡ false = pair_flipped x.job x.unit b v ∙ f in
      ap (λ h. asks_seen s b (want_key v) - h) (by (nat_eq x.job b && nat_eq x.unit v) (held after b v) (held t.entries b v) g e)
    where
      by : (z : Bool) (m n : ℕ) → z ≡ false → m + cond z (count spot_cmp t.entries x) 0 ≡ n + cond z (count spot_cmp t.entries x + 1) 0 → m ≡ n
      by true m n g e = cc
      by false m n g e = omega (arith, e)

  pub one_less : 0 < out_of (asks_seen s) t.entries x.job x.unit → out_of (asks_seen s) after x.job x.unit < out_of (asks_seen s) t.entries x.job x.unit
  one_less some =
      let e = law t.entries x (count spot_cmp t.entries x + 1) x.job x.unit sorted in
      let g : (nat_eq x.job x.job && nat_eq x.unit x.unit) ≡ true = grind (arith, nat_tests) in
      by (nat_eq x.job x.job && nat_eq x.unit x.unit) (asks_seen s x.job (want_key x.unit)) (held after x.job x.unit) (held t.entries x.job x.unit) g e some
    where
      by : (z : Bool) (w m n : ℕ) → z ≡ true → m + cond z (count spot_cmp t.entries x) 0 ≡ n + cond z (count spot_cmp t.entries x + 1) 0 → 0 < w - n → w - m < w - n
      by true w m n g e some = omega (arith, e, some)
      by false w m n g e some = cc

  waits : IsUpToDate s t → (b v : ℕ) → has_pair (b, v) s.line ≡ true → nat_lt 0 (out_of (asks_seen s) t.entries b v) ≡ true
  waits up b v h = (both_true (nat_lt v (unit_count (as_known t.jobs) b)) _ (sym (up b v) ∙ h)).1

  -- the table and the placer after it stand for the master after it
  pub granted_is : (c : ClusterRecord) (M : Master) → IsUpToDate s t → IsPlacing t s c M
      → IsPlacing (record t { entries = after }) (record s { line = line_told s (record t { entries = after }) x.job x.unit }) c (granted M x)
  granted_is c M up is =
      let told = line_granted (asks_seen s) t.entries after x.job x.unit others s.line (waits up) in
      let table : after ≡ with_grant M.table x = ap (λ es. with_grant es x) is.entries in
      record {
        cluster = is.cluster;
        numbers = is.numbers;
        jobs = is.jobs;
        entries = table;
        wants = is.wants;
        near = is.near;
        racks = is.racks;
        avoids = is.avoids;
        usable = is.usable;
        line = told ∙ (λ i. filter (λ (p : Pair). nat_lt 0 (is.wants p.0 p.1 i - held (table i) p.0 p.1)) (is.line i));
      }

  -- and what is out in all is fewer
  pub fewer_is : IsUpToDate s t → IsWaiting (asks_seen s) t.entries s.line x
      → all_out (record t { entries = after }) (record s { line = line_told s (record t { entries = after }) x.job x.unit }) < all_out t s
  fewer_is up w =
      let told = line_granted (asks_seen s) t.entries after x.job x.unit others s.line (waits up) in
      subst (λ line. sum_by (λ (p : Pair). out_of (asks_seen s) after p.0 p.1) line < all_out t s) (sym told) (fewer_out (asks_seen s) t.entries after x.job x.unit others s.line w.waits (one_less w.out))

-- ---- a run of grants
-- the first step of what is left of a run
pub settles_on : (t t' : TableRecord) (s s' : SeenRecord) (c : ClusterRecord) (M : Master) (x : Spot) → first_in (board_with s t) t.entries s.line ≡ Some x
    → ((N : Master) → IsPlacing t s c N → IsPlacing t' s' c (granted N x)) → IsSettling t s c M → IsSettling t' s' c M
settles_on t t' s s' c M x first grants k = record {
  now = granted k.now x;
  placing = grants k.now k.placing;
  serves = k.serves;
  ends = λ picks N p. k.ends (x ∷ picks) N (sym (first_same t s c k.now k.placing k.serves) ∙ first, p);
}

-- where nothing is placeable it has settled
pub has_settled : (t : TableRecord) (s : SeenRecord) (c : ClusterRecord) (M : Master) → first_in (board_with s t) t.entries s.line ≡ None → IsSettling t s c M → IsPlacing t s c (settled c M)
has_settled t s c M none k = subst (IsPlacing t s c) (k.ends [] k.now (sym (first_same t s c k.now k.placing k.serves) ∙ none, refl)) k.placing

-- ---- which numbers may be others now
has_more : (q x : Spot) (ss : List Spot) → has_spot q (ss ++ x ∷ []) ≡ (has_spot q ss || eq_by_cmp spot_cmp q x)
has_more q x ss = list_any-append (eq_by_cmp spot_cmp q) ss (x ∷ []) ∙ ap (λ b. has_spot q ss || b) (last (eq_by_cmp spot_cmp q x))
  where
    last : (b : Bool) → (b || false) ≡ b
    last true = refl
    last false = refl

pub touches_more : (old t : Table) (before after : List Spot) (x : Spot) (n : ℕ) → AreTouched old t before after → AreTouched old (set_count spot_cmp t x n) before (after ++ x ∷ [])
touches_more old t before after x n h = record {
  kept = λ q b. has_more q x after ∙ ap (λ z. z || eq_by_cmp spot_cmp q x) (h.kept q b);
  others = λ q f.
      let both = both_false (has_spot q after) (eq_by_cmp spot_cmp q x) (sym (has_more q x after) ∙ f) in
      count-set_count spot_total t x n q ∙ ap (λ z. cond z n (count spot_cmp t q)) both.1 ∙ h.others q both.0;
}
