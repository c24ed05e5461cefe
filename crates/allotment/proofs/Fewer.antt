-- Grants are taken at one spot.
use Rattle.std.proofs.Common.{◌≡◌, ℕ, ◌+◌, ◌-◌, ◌<◌, ◌≤◌, Bool, true, false, cond, not, nat_eq, nat_lt, List, [], ◌∷◌, ◌++◌, filter, map, refl, sym, ◌∙◌, ap, arith}
use Rattle.std.specs.Prelude.{◌&&◌, ◌||◌, T}
use Rattle.std.specs.Ordering.{eq_by_cmp}
use Rattle.std.specs.FinMap.Entries.{is_sorted}
use Rattle.std.proofs.lemmas.Bool.Decides.{nat_tests}
use Rattle.std.proofs.lemmas.List.{map-append}
use Rattle.fuxi_terms.specs.Cluster.{ClusterRecord}
use Rattle.fuxi_terms.specs.Counts.{count, set_count}
use Rattle.fuxi_terms.specs.Keys.{Spot, spot_cmp, Pair}
use Rattle.fuxi_terms.specs.Tables.{spot, held, Table}
use Rattle.fuxi_terms.proofs.Booleans.{both_false}
use Rattle.fuxi_terms.proofs.CountsLemmas.{count-set_count}
use Rattle.fuxi_terms.proofs.KeyOrders.{spot_total}
use Rattle.spec_roles.specs.Masters.{Master, out_of}
use Rattle.spec_roles.specs.Placing.{has_pair}
use Rattle.grant_table.specs.GrantTables.{TableRecord, without_count}
use Rattle.grant_table.specs.declared.asking.Pick.{Pick}
use Rattle.place_pass.specs.Best.{spot_of}
use Rattle.place_pass.specs.Placers.{PlacerRecord, SeenRecord, asks_seen, line_told}
use Rattle.allotment.specs.PlacingReads.{IsPlacing, has_spot}
use Rattle.allotment.specs.SettlingRuns.{AreTouched}
use Rattle.allotment.specs.Allotted.{AllotmentRecord, Allots, AllWait, Touches, allotment_record, told_at}

-- ---- what is said of the sums when a number is set
abbrev pub HeldLaw : Type 0
HeldLaw = (es : Table) (s : Spot) (n a u : ℕ) → T (is_sorted spot_cmp es) → held (set_count spot_cmp es s n) a u + cond (nat_eq s.job a && nat_eq s.unit u) (count spot_cmp es s) 0 ≡ held es a u + cond (nat_eq s.job a && nat_eq s.unit u) n 0

fewer : (b : Bool) (x y n k : ℕ) → x + cond b n 0 ≡ y + cond b (n - k) 0 → x ≤ y
fewer true x y n k e = omega (arith, e)
fewer false x y n k e = omega (arith, e)

held_less : HeldLaw → (es : Table) (s : Spot) (k a u : ℕ) → T (is_sorted spot_cmp es) → held (without_count es s k) a u ≤ held es a u
held_less law es s k a u t = fewer (nat_eq s.job a && nat_eq s.unit u) (held (without_count es s k) a u) (held es a u) (count spot_cmp es s) k (law es s (count spot_cmp es s - k) a u t)

-- ---- the line stays
same_turned : (p : Pair) (a u : ℕ) → (nat_eq a p.0 && nat_eq u p.1) ≡ false → (nat_eq p.0 a && nat_eq p.1 u) ≡ false
same_turned p a u f = by (nat_eq p.0 a) refl (nat_eq p.1 u) refl
  where
    by : (x : Bool) → nat_eq p.0 a ≡ x → (y : Bool) → nat_eq p.1 u ≡ y → (nat_eq p.0 a && nat_eq p.1 u) ≡ false
    by false e y g = ap (λ b. b && nat_eq p.1 u) e
    by true e false g = (λ i. e i && g i)
    by true e true g =
        let c : nat_eq a p.0 ≡ true = grind (arith, nat_tests, e) in
        let d : nat_eq u p.1 ≡ true = grind (arith, nat_tests, g) in
        let t : (nat_eq a p.0 && nat_eq u p.1) ≡ true = (λ i. c i && d i) in
        absurd (let z : ⊥ = cc in z)

others_stay : (line : List Pair) (a u : ℕ) → has_pair (a, u) line ≡ false → filter (λ p. not (nat_eq p.0 a && nat_eq p.1 u)) line ≡ line
others_stay [] a u f = refl
others_stay (p ∷ ps) a u f =
    let b = both_false (nat_eq a p.0 && nat_eq u p.1) (has_pair (a, u) ps) f in
    ap (λ t. cond (not t) (p ∷ filter (λ p. not (nat_eq p.0 a && nat_eq p.1 u)) ps) (filter (λ p. not (nat_eq p.0 a && nat_eq p.1 u)) ps)) (same_turned p a u b.0) ∙ ap (λ qs. p ∷ qs) (others_stay ps a u b.1)

module _ (law : HeldLaw) (t : TableRecord) (s : SeenRecord) (sorted : T (is_sorted spot_cmp t.entries)) (a u m k : ℕ) (wait : (a u : ℕ) → has_pair (a, u) s.line ≡ true → 0 < out_of (asks_seen s) t.entries a u) where
  abbrev pub after : TableRecord
  after = record t { entries = without_count t.entries (spot a u m) k }

  abbrev pub told : SeenRecord
  told = record s { line = line_told s after a u }

  out_more : (b v : ℕ) → out_of (asks_seen s) t.entries b v ≤ out_of (asks_seen s) after.entries b v
  out_more b v = let le = held_less law t.entries (spot a u m) k b v sorted in omega (arith, le)

  pub line_same : line_told s after a u ≡ s.line
  line_same = by (has_pair (a, u) s.line) refl
    where
      by : (b : Bool) → has_pair (a, u) s.line ≡ b → line_told s after a u ≡ s.line
      by true e =
          let some = wait a u e in
          let more = out_more a u in
          let lt : 0 < out_of (asks_seen s) after.entries a u = omega (arith, some, more) in
          let q : nat_lt 0 (out_of (asks_seen s) after.entries a u) ≡ true = grind (arith, nat_tests, lt) in
          ap (λ b. cond b s.line (filter (λ p. not (nat_eq p.0 a && nat_eq p.1 u)) s.line)) q
      by false e = elim (nat_lt 0 (out_of (asks_seen s) after.entries a u)) as (λ b. cond b s.line (filter (λ p. not (nat_eq p.0 a && nat_eq p.1 u)) s.line) ≡ s.line) [ true ↦ refl | false ↦ others_stay s.line a u e ]

  pub fewer_placing : (c : ClusterRecord) (M : Master) → IsPlacing t s c M → IsPlacing after told c (record M { table = without_count M.table (spot a u m) k })
  fewer_placing c M h = record {
    cluster = h.cluster;
    numbers = h.numbers;
    jobs = h.jobs;
    entries = ap (λ es. without_count es (spot a u m) k) h.entries;
    wants = h.wants;
    near = h.near;
    racks = h.racks;
    avoids = h.avoids;
    usable = h.usable;
    line = line_same ∙ h.line;
  }

  pub fewer_wait : (b v : ℕ) → has_pair (b, v) told.line ≡ true → 0 < out_of (asks_seen told) after.entries b v
  fewer_wait b v e =
      let some = wait b v (ap (has_pair (b, v)) (sym line_same) ∙ e) in
      let more = out_more b v in
      omega (arith, some, more)

-- ---- the spot is among those that changed
spot_behind : (s x : Spot) (ss : List Spot) → has_spot s (ss ++ x ∷ []) ≡ (has_spot s ss || eq_by_cmp spot_cmp s x)
spot_behind s x [] = elim (eq_by_cmp spot_cmp s x) as (λ b. (b || false) ≡ b) [ true ↦ refl | false ↦ refl ]
spot_behind s x (y ∷ ys) = ap (λ b. eq_by_cmp spot_cmp s y || b) (spot_behind s x ys) ∙ grouped (eq_by_cmp spot_cmp s y)
  where
    grouped : (b : Bool) → (b || (has_spot s ys || eq_by_cmp spot_cmp s x)) ≡ ((b || has_spot s ys) || eq_by_cmp spot_cmp s x)
    grouped true = refl
    grouped false = refl

pub set_touched : (es : Table) (x : Spot) (n : ℕ) (ss : List Spot) → AreTouched es (set_count spot_cmp es x n) ss (ss ++ x ∷ [])
set_touched es x n ss = record {
  kept = λ s e. spot_behind s x ss ∙ ap (λ b. b || eq_by_cmp spot_cmp s x) e;
  others = λ s f.
      let b = both_false (has_spot s ss) (eq_by_cmp spot_cmp s x) (sym (spot_behind s x ss) ∙ f) in
      count-set_count spot_total es x n s ∙ ap (λ t. cond t n (count spot_cmp es s)) b.1;
}

pub fewer_touched : (es : Table) (x : Spot) (k : ℕ) (ss : List Spot) → AreTouched es (without_count es x k) ss (ss ++ x ∷ [])
fewer_touched es x k ss = set_touched es x (count spot_cmp es x - k) ss

-- a placer that was told of a spot, and the spots with that one behind them
pub told_as : (t : TableRecord) (p q : PlacerRecord) (before after : List Pick) (k : Pick) → after ≡ before ++ k ∷ [] → q.seen ≡ record p.seen { line = line_told p.seen t k.app.0 k.unit.0 } → q.idle ≡ false
    → allotment_record t q after ≡ told_at t p.seen (map spot_of before) (spot_of k)
told_as t p q before after k pushed seen idle =
    let spots : map spot_of after ≡ map spot_of before ++ spot_of k ∷ [] = ap (map spot_of) pushed ∙ map-append spot_of before (k ∷ []) in
    λ i. record { table = t; placer = record { seen = seen i; idle = idle i }; touched = spots i }

-- so they are taken
pub record IsFewer (s : Spot) (k : ℕ) (x y : AllotmentRecord) : Type 0 where
  pub stands : (c : ClusterRecord) (M : Master) → Allots x c M → Allots y c (record M { table = without_count M.table s k })
  pub waits : AllWait y
  pub touches : Touches x y
  pub table : y.table ≡ record x.table { entries = without_count x.table.entries s k }

pub fewer_told : HeldLaw → (x : AllotmentRecord) → T (is_sorted spot_cmp x.table.entries) → AllWait x → (a u m k : ℕ) → IsFewer (spot a u m) k x (told_at (record x.table { entries = without_count x.table.entries (spot a u m) k }) x.placer.seen x.touched (spot a u m))
fewer_told law x sorted wait a u m k = record {
  stands = λ c M h. record { placing = fewer_placing law x.table x.placer.seen sorted a u m k wait.each c M h.placing };
  waits = record { each = fewer_wait law x.table x.placer.seen sorted a u m k wait.each };
  touches = record { spots = fewer_touched x.table.entries (spot a u m) k x.touched; turns = refl };
  table = refl;
}
