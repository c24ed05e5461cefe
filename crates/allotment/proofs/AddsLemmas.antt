-- Grants are made at one spot.
use Rattle.std.proofs.Common.{◌≡◌, ℕ, ◌+◌, ◌-◌, ◌<◌, Bool, true, false, cond, not, nat_eq, nat_lt, List, [], ◌∷◌, filter, refl, sym, ◌∙◌, ap, arith}
use Rattle.std.specs.Prelude.{◌&&◌, ◌||◌, T}
use Rattle.std.specs.FinMap.Entries.{is_sorted}
use Rattle.std.proofs.lemmas.Bool.Decides.{nat_tests}
use Rattle.fuxi_terms.specs.Cluster.{ClusterRecord}
use Rattle.fuxi_terms.specs.Counts.{count}
use Rattle.fuxi_terms.specs.Keys.{spot_cmp, Pair}
use Rattle.fuxi_terms.specs.Tables.{spot, held}
use Rattle.fuxi_terms.proofs.Booleans.{both_true, and_true, number_is, nat_itself, or_right}
use Rattle.spec_roles.specs.Masters.{Master, asked, out_of}
use Rattle.spec_roles.specs.Placing.{has_pair, line_after}
use Rattle.grant_table.specs.GrantTables.{TableRecord, with_count}
use Rattle.place_pass.specs.Placers.{SeenRecord, asks_seen, line_told}
use Rattle.allotment.specs.PlacingReads.{IsPlacing}
use Rattle.allotment.specs.Allotted.{AllotmentRecord, AllWait, Adds, told_at}
use Rattle.allotment.proofs.Fewer.{HeldLaw, set_touched}

abbrev is_pair : ℕ → ℕ → Pair → Bool
is_pair a u p = nat_eq p.0 a && nat_eq p.1 u

-- where all others pass a test, those that pass it are all of them, or all others
kept_line : (test : Pair → Bool) (a u : ℕ) (line : List Pair) → ((p : Pair) → has_pair p line ≡ true → is_pair a u p ≡ false → test p ≡ true) → filter test line ≡ cond (test (a, u)) line (filter (λ p. not (is_pair a u p)) line)
kept_line test a u [] h = elim (test (a, u)) as (λ b. ◌≡◌ {A = List Pair} [] (cond b [] [])) [ true ↦ refl | false ↦ refl ]
kept_line test a u (p ∷ ps) h =
    let rest = kept_line test a u ps (λ q e f. h q (or_right (nat_eq q.0 p.0 && nat_eq q.1 p.1) (has_pair q ps) e) f) in
    by (is_pair a u p) refl rest
  where
    here : has_pair p (p ∷ ps) ≡ true
    here = ap (λ b. b || has_pair p ps) (and_true (nat_eq p.0 p.0) (nat_eq p.1 p.1) (nat_itself p.0) (nat_itself p.1))

    gone : (d : Bool) → test (a, u) ≡ d → test p ≡ d → filter test ps ≡ cond d ps (filter (λ p. not (is_pair a u p)) ps) → cond (test p) (p ∷ filter test ps) (filter test ps) ≡ cond d (p ∷ ps) (filter (λ p. not (is_pair a u p)) ps)
    gone true e f r = ap (λ b. cond b (p ∷ filter test ps) (filter test ps)) f ∙ ap (λ qs. p ∷ qs) r
    gone false e f r = ap (λ b. cond b (p ∷ filter test ps) (filter test ps)) f ∙ r

    stays : (d : Bool) → filter test ps ≡ cond d ps (filter (λ p. not (is_pair a u p)) ps) → p ∷ filter test ps ≡ cond d (p ∷ ps) (p ∷ filter (λ p. not (is_pair a u p)) ps)
    stays true r = ap (λ qs. p ∷ qs) r
    stays false r = ap (λ qs. p ∷ qs) r

    by : (b : Bool) → is_pair a u p ≡ b → filter test ps ≡ cond (test (a, u)) ps (filter (λ p. not (is_pair a u p)) ps)
        → cond (test p) (p ∷ filter test ps) (filter test ps) ≡ cond (test (a, u)) (p ∷ ps) (cond (not (is_pair a u p)) (p ∷ filter (λ p. not (is_pair a u p)) ps) (filter (λ p. not (is_pair a u p)) ps))
    by true e r =
        let q = both_true (nat_eq p.0 a) (nat_eq p.1 u) e in
        let x = number_is p.0 a q.0 in let y = number_is p.1 u q.1 in
        let same : test p ≡ test (a, u) = λ i. test (x i, y i) in
        gone (test (a, u)) refl same r ∙ ap (λ b. cond (test (a, u)) (p ∷ ps) (cond (not b) (p ∷ filter (λ p. not (is_pair a u p)) ps) (filter (λ p. not (is_pair a u p)) ps))) (sym e)
    by false e r =
        ap (λ b. cond b (p ∷ filter test ps) (filter test ps)) (h p here e) ∙ stays (test (a, u)) r
        ∙ ap (λ b. cond (test (a, u)) (p ∷ ps) (cond (not b) (p ∷ filter (λ p. not (is_pair a u p)) ps) (filter (λ p. not (is_pair a u p)) ps))) (sym e)

passes : (test : Pair → Bool) (line : List Pair) (a u : ℕ) → has_pair (a, u) (filter test line) ≡ true → test (a, u) ≡ true
passes test [] a u e = cc
passes test (p ∷ ps) a u e = by (passes test ps a u) (test p) refl e (nat_eq a p.0 && nat_eq u p.1) refl
  where
    by : (has_pair (a, u) (filter test ps) ≡ true → test (a, u) ≡ true) → (b : Bool) → test p ≡ b → has_pair (a, u) (cond b (p ∷ filter test ps) (filter test ps)) ≡ true → (d : Bool) → (nat_eq a p.0 && nat_eq u p.1) ≡ d → test (a, u) ≡ true
    by rest false f e d g = rest e
    by rest true f e false g = rest (ap (λ b. b || has_pair (a, u) (filter test ps)) (sym g) ∙ e)
    by rest true f e true g =
        let q = both_true (nat_eq a p.0) (nat_eq u p.1) g in
        let x = number_is a p.0 q.0 in let y = number_is u p.1 q.1 in
        (λ i. test (x i, y i)) ∙ f

same_held : (b : Bool) (x y n k : ℕ) → b ≡ false → x + cond b n 0 ≡ y + cond b k 0 → x ≡ y
same_held true x y n k f e = cc
same_held false x y n k f e = omega (arith, e)

-- where all that pass one test pass another, a list that was tested by the other passes the one alike
pub filter_twice : (q w : Pair → Bool) (line : List Pair) → ((p : Pair) → q p ≡ true → w p ≡ true) → filter q (filter w line) ≡ filter q line
filter_twice q w [] h = refl
filter_twice q w (p ∷ ps) h = by (filter_twice q w ps h) (w p) refl (q p) refl
  where
    by : filter q (filter w ps) ≡ filter q ps → (b : Bool) → w p ≡ b → (d : Bool) → q p ≡ d → filter q (cond (w p) (p ∷ filter w ps) (filter w ps)) ≡ cond (q p) (p ∷ filter q ps) (filter q ps)
    by r true e true f = ap (λ t. filter q (cond t (p ∷ filter w ps) (filter w ps))) e ∙ ap (λ t. cond t (p ∷ filter q (filter w ps)) (filter q (filter w ps))) f ∙ ap (λ xs. p ∷ xs) r ∙ ap (λ t. cond t (p ∷ filter q ps) (filter q ps)) (sym f)
    by r true e false f = ap (λ t. filter q (cond t (p ∷ filter w ps) (filter w ps))) e ∙ ap (λ t. cond t (p ∷ filter q (filter w ps)) (filter q (filter w ps))) f ∙ r ∙ ap (λ t. cond t (p ∷ filter q ps) (filter q ps)) (sym f)
    by r false e true f = let t = h p f in cc
    by r false e false f = ap (λ t. filter q (cond t (p ∷ filter w ps) (filter w ps))) e ∙ r ∙ ap (λ t. cond t (p ∷ filter q ps) (filter q ps)) (sym f)

module _ (law : HeldLaw) (t : TableRecord) (s : SeenRecord) (sorted : T (is_sorted spot_cmp t.entries)) (a u m n : ℕ) (wait : (a u : ℕ) → has_pair (a, u) s.line ≡ true → 0 < out_of (asks_seen s) t.entries a u) where
  abbrev pub with_more : TableRecord
  with_more = record t { entries = with_count t.entries (spot a u m) n }

  abbrev pub hears : SeenRecord
  hears = record s { line = line_told s with_more a u }

  abbrev waits : Pair → Bool
  waits p = nat_lt 0 (out_of (asks_seen s) with_more.entries p.0 p.1)

  others_wait : (p : Pair) → has_pair p s.line ≡ true → is_pair a u p ≡ false → waits p ≡ true
  others_wait p e f =
      let some = wait p.0 p.1 e in
      let l = law t.entries (spot a u m) (count spot_cmp t.entries (spot a u m) + n) p.0 p.1 sorted in
      let g : (nat_eq a p.0 && nat_eq u p.1) ≡ false = turned in
      let h : held with_more.entries p.0 p.1 ≡ held t.entries p.0 p.1 = same_held (nat_eq a p.0 && nat_eq u p.1) _ _ (count spot_cmp t.entries (spot a u m)) (count spot_cmp t.entries (spot a u m) + n) g l in
      let lt : 0 < out_of (asks_seen s) with_more.entries p.0 p.1 = omega (arith, some, h) in
      grind (arith, nat_tests, lt)
    where
      turned : (nat_eq a p.0 && nat_eq u p.1) ≡ false
      turned = by (nat_eq a p.0 && nat_eq u p.1) refl
        where
          by : (b : Bool) → (nat_eq a p.0 && nat_eq u p.1) ≡ b → (nat_eq a p.0 && nat_eq u p.1) ≡ false
          by false k = k
          by true k =
              let q = both_true (nat_eq a p.0) (nat_eq u p.1) k in
              let x = q.0 in let y = q.1 in
              let z : is_pair a u p ≡ true = and_true (nat_eq p.0 a) (nat_eq p.1 u) (grind (arith, nat_tests, x)) (grind (arith, nat_tests, y)) in
              absurd (let w : ⊥ = cc in w)

  line_is : line_told s with_more a u ≡ filter waits s.line
  line_is = sym (kept_line waits a u s.line others_wait)

  pub more_placing : (c : ClusterRecord) (M : Master) → IsPlacing t s c M → IsPlacing with_more hears c (record M { table = with_count M.table (spot a u m) n; line = line_after (asked M) (with_count M.table (spot a u m) n) M.line })
  more_placing c M h =
      let entries = h.entries in
      let line = h.line in
      record {
        cluster = h.cluster;
        numbers = h.numbers;
        jobs = h.jobs;
        entries = ap (λ es. with_count es (spot a u m) n) entries;
        wants = h.wants;
        near = h.near;
        racks = h.racks;
        avoids = h.avoids;
        usable = h.usable;
        line = line_is ∙ (λ i. filter (λ (p : Pair). nat_lt 0 (h.wants p.0 p.1 i - held (with_count (entries i) (spot a u m) n) p.0 p.1)) (line i));
      }

  pub more_wait : (b v : ℕ) → has_pair (b, v) hears.line ≡ true → 0 < out_of (asks_seen hears) with_more.entries b v
  more_wait b v e = let p = passes waits s.line b v (ap (has_pair (b, v)) (sym line_is) ∙ e) in grind (arith, nat_tests, p)

pub adds_told : HeldLaw → (x : AllotmentRecord) → T (is_sorted spot_cmp x.table.entries) → AllWait x → (a u m n : ℕ) → Adds (spot a u m) n x (told_at (record x.table { entries = with_count x.table.entries (spot a u m) n }) x.placer.seen x.touched (spot a u m))
adds_told law x sorted wait a u m n = record {
  stands = λ c M h. record { placing = more_placing law x.table x.placer.seen sorted a u m n wait.each c M h.placing };
  waits = record { each = more_wait law x.table x.placer.seen sorted a u m n wait.each };
  touches = record { spots = set_touched x.table.entries (spot a u m) (count spot_cmp x.table.entries (spot a u m) + n) x.touched; turns = refl };
  table = refl;
}
