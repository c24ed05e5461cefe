-- What is written of a demand key by key, and where its units stand.
use Rattle.std.proofs.Common.{◌≡◌, ◌≢◌, ℕ, ℤ, ◌+◌, ◌<◌, ◌≤◌, Bool, true, false, cond, nat_eq, nat_lt, List, [], ◌∷◌, length, take, get_or, set, refl, sym, ◌∙◌, ap, subst, arith, inl, inr, ◌⊎◌, length-set, slice_get, Some}
use Rattle.std.specs.Prelude.{◌||◌, pos}
use Rattle.std.specs.Ordering.{eq_by_cmp, is_eq}
use Rattle.std.specs.Cmp.{tied_itself}
use Rattle.std.proofs.lemmas.Bool.{cases_eq, cases_lt}
use Rattle.std.proofs.lemmas.Bool.Decides.{nat_tests}
use Rattle.std.proofs.lemmas.List.{ext_get_or, get_or-set_same, get_or-set_other}
use Rattle.std.proofs.Math.ListN.{get_or-eq_default}
use Rattle.fuxi_terms.specs.Cluster.{ClusterRecord, has_rack}
use Rattle.fuxi_terms.specs.Counts.{count, AreCounts}
use Rattle.fuxi_terms.specs.declared.Key.{Key}
use Rattle.fuxi_terms.specs.Keys.{key_cmp}
use Rattle.fuxi_terms.specs.TallyKeys.{greatest_demand, key, want_key, near_key, rack_key, avoid_key}
use Rattle.fuxi_terms.proofs.Booleans.{number_is, or_false, both_false, or_none}
use Rattle.fuxi_terms.proofs.KeyOrders.{key_total, same_key}
use Rattle.fuxi_terms.proofs.Lists.{take_last}
use Rattle.place_pass.specs.Cells.{Cell, no_cell, asks_at, asks_in, taken, taken_all, numbers_at, racks_at, is_gone, any_gone, asks_more, any_more}
use Rattle.place_pass.specs.Placers.{is_named, is_there}
use Rattle.place_pass.specs.DemandScopes.{AsksSameBut, IsAlike, IsWritten, IsWrittenIn, asked_by, is_more_at}
use Rattle.place_pass.proofs.CellsLemmas.{length-taken_all, get_or-taken_all}
use Rattle.place_pass.proofs.IdleKept.{any_none, any_one}
use Rattle.place_pass.proofs.PlacersLemmas.{asks_taken}
use Rattle.place_pass.proofs.Places.{counted_at, counted_long, counted_past}
use Rattle.place_pass.proofs.WaitingLinesLemmas.{any_append, either_one}
use Rattle.fuxi_terms.proofs.CountsLemmas.{tied}

-- ---- keys
pub key_itself : (k : Key) → eq_by_cmp key_cmp k k ≡ true
key_itself k = ap is_eq (tied_itself key_total k)

pub key_is : (j k : Key) → eq_by_cmp key_cmp j k ≡ true → j ≡ k
key_is j k e = same_key j k (tied (key_cmp j k) e)

-- keys of one kind and unit that differ have other numbers
pub number_apart : (j k : Key) → eq_by_cmp key_cmp j k ≡ false → j.what ≡ k.what → j.unit ≡ k.unit → j.number ≢ k.number
number_apart j k f w u n =
    let same : j ≡ k = λ i. record { what = w i; unit = u i; number = n i } in
    let t : eq_by_cmp key_cmp j k ≡ true = ap (λ (x : Key). eq_by_cmp key_cmp x k) same ∙ key_itself k in
    let z : true ≡ false = sym t ∙ f in cc

-- one change more is named
pub named_more : (cs : List (Key × ℤ)) (i : ℕ) (c : Key × ℤ) (k : Key) → slice_get cs i ≡ Some c → is_named k (take (i + 1) cs) ≡ (is_named k (take i cs) || eq_by_cmp key_cmp k c.0)
named_more cs i c k e = ap (is_named k) (take_last cs i c e) ∙ any_append (λ (x : Key × ℤ). eq_by_cmp key_cmp k x.0) (take i cs) (c ∷ []) ∙ ap (λ b. is_named k (take i cs) || b) (or_false (eq_by_cmp key_cmp k c.0))

-- the element that a list is read with
abbrev pub no_change : Key × ℤ
no_change = (key 0 0 0, pos 0)

-- ---- one number is written
when_true : (b : Bool) (p q r : ℕ) → (b ≡ true → p ≡ q) → cond b p r ≡ cond b q r
when_true true p q r h = h refl
when_true false p q r h = refl

set_past : (xs : List ℕ) (n v : ℕ) → length xs ≤ n → get_or (set xs n v) n 0 ≡ 0
set_past xs n v le = get_or-eq_default (set xs n v) 0 (let l = length-set xs n v in omega (arith, l, le))

set_apart : (xs : List ℕ) (n v k : ℕ) → k ≢ n → get_or (set xs n v) k 0 ≡ get_or xs k 0
set_apart xs n v k d = get_or-set_other xs n k v 0 d

module _ (c : ClusterRecord) (es : List (Key × ℕ)) (u n : ℕ) (x : Cell) where
  near_at : length x.near ≡ length c.machines → IsWritten c es (near_key u n) x (record x { near = set x.near n (count key_cmp es (near_key u n)) })
  near_at l = record {
    alike = record { unit = refl; group = refl; near = length-set x.near n (count key_cmp es (near_key u n)); racks = refl; avoided = refl };
    here = elim (cases_lt n (length c.machines)) [
      | inl lt ↦ get_or-set_same x.near n (count key_cmp es (near_key u n)) 0 (omega (arith, lt, l)) ∙ sym (counted_at (λ m. count key_cmp es (near_key u m)) (length c.machines) n lt)
      | inr ge ↦ set_past x.near n (count key_cmp es (near_key u n)) (omega (arith, ge, l)) ∙ sym (counted_past (λ m. count key_cmp es (near_key u m)) (length c.machines) n ge)
    ];
    others = λ j same f. ap (λ z. cond (nat_eq j.what 1) (cond (nat_eq j.number 0) x.want 0) z)
        (when_true (nat_eq j.what 2) (get_or (set x.near n (count key_cmp es (near_key u n))) j.number 0) (get_or x.near j.number 0) (cond (nat_eq j.what 3) (get_or x.racks j.number 0) (cond (nat_eq j.what 4) (get_or x.avoided j.number 0) 0))
        (λ t. set_apart x.near n (count key_cmp es (near_key u n)) j.number (number_apart j (near_key u n) f (number_is j.what 2 t) same)));
  }

  rack_at : length x.racks ≡ 64 → IsWritten c es (rack_key u n) x (record x { racks = set x.racks n (cond (has_rack c n) (count key_cmp es (rack_key u n)) 0) })
  rack_at l =
      let v = cond (has_rack c n) (count key_cmp es (rack_key u n)) 0 in
      record {
        alike = record { unit = refl; group = refl; near = refl; racks = length-set x.racks n v; avoided = refl };
        here = elim (cases_lt n 64) [
          | inl lt ↦ get_or-set_same x.racks n v 0 (omega (arith, lt, l)) ∙ sym (counted_at (λ r. cond (has_rack c r) (count key_cmp es (rack_key u r)) 0) 64 n lt)
          | inr ge ↦ set_past x.racks n v (omega (arith, ge, l)) ∙ sym (counted_past (λ r. cond (has_rack c r) (count key_cmp es (rack_key u r)) 0) 64 n ge)
        ];
        others = λ j same f. ap (λ z. cond (nat_eq j.what 1) (cond (nat_eq j.number 0) x.want 0) (cond (nat_eq j.what 2) (get_or x.near j.number 0) z))
            (when_true (nat_eq j.what 3) (get_or (set x.racks n v) j.number 0) (get_or x.racks j.number 0) (cond (nat_eq j.what 4) (get_or x.avoided j.number 0) 0)
            (λ t. set_apart x.racks n v j.number (number_apart j (rack_key u n) f (number_is j.what 3 t) same)));
      }

  avoid_at : length x.avoided ≡ length c.machines → IsWritten c es (avoid_key u n) x (record x { avoided = set x.avoided n (count key_cmp es (avoid_key u n)) })
  avoid_at l = record {
    alike = record { unit = refl; group = refl; near = refl; racks = refl; avoided = length-set x.avoided n (count key_cmp es (avoid_key u n)) };
    here = elim (cases_lt n (length c.machines)) [
      | inl lt ↦ get_or-set_same x.avoided n (count key_cmp es (avoid_key u n)) 0 (omega (arith, lt, l)) ∙ sym (counted_at (λ m. count key_cmp es (avoid_key u m)) (length c.machines) n lt)
      | inr ge ↦ set_past x.avoided n (count key_cmp es (avoid_key u n)) (omega (arith, ge, l)) ∙ sym (counted_past (λ m. count key_cmp es (avoid_key u m)) (length c.machines) n ge)
    ];
    others = λ j same f. ap (λ z. cond (nat_eq j.what 1) (cond (nat_eq j.number 0) x.want 0) (cond (nat_eq j.what 2) (get_or x.near j.number 0) (cond (nat_eq j.what 3) (get_or x.racks j.number 0) z)))
        (when_true (nat_eq j.what 4) (get_or (set x.avoided n (count key_cmp es (avoid_key u n))) j.number 0) (get_or x.avoided j.number 0) 0
        (λ t. set_apart x.avoided n (count key_cmp es (avoid_key u n)) j.number (number_apart j (avoid_key u n) f (number_is j.what 4 t) same)));
  }

  -- what an avoidance that is gone is
  avoid_gone : length x.avoided ≡ length c.machines → is_gone (get_or x.avoided n 0) (count key_cmp es (avoid_key u n)) ≡ is_gone (get_or x.avoided n 0) (asked_by c es (avoid_key u n))
  avoid_gone l = elim (cases_lt n (length c.machines)) [
    | inl lt ↦ ap (is_gone (get_or x.avoided n 0)) (sym (counted_at (λ m. count key_cmp es (avoid_key u m)) (length c.machines) n lt))
    | inr ge ↦ let z = get_or-eq_default x.avoided 0 (let e : length x.avoided ≤ n = omega (arith, l, ge) in e) in ap (λ m. is_gone m (count key_cmp es (avoid_key u n))) z ∙ sym (ap (λ m. is_gone m (asked_by c es (avoid_key u n))) z)
  ]

module _ (c : ClusterRecord) (es : List (Key × ℕ)) (k : Key) (x : Cell) where
  pub near_written : k.what ≡ 2 → length x.near ≡ length c.machines → (ns : List ℕ) → ns ≡ set x.near k.number (count key_cmp es k) → IsWritten c es k x (record x { near = ns })
  near_written t l ns is = subst (λ ms. IsWritten c es k x (record x { near = ms })) (sym is)
      (subst (λ w. IsWritten c es (key w k.unit k.number) x (record x { near = set x.near k.number (count key_cmp es (key w k.unit k.number)) })) (sym t) (near_at c es k.unit k.number x l))

  pub rack_written : k.what ≡ 3 → length x.racks ≡ 64 → (ns : List ℕ) → ns ≡ set x.racks k.number (cond (has_rack c k.number) (count key_cmp es k) 0) → IsWritten c es k x (record x { racks = ns })
  rack_written t l ns is = subst (λ ms. IsWritten c es k x (record x { racks = ms })) (sym is)
      (subst (λ w. IsWritten c es (key w k.unit k.number) x (record x { racks = set x.racks k.number (cond (has_rack c k.number) (count key_cmp es (key w k.unit k.number)) 0) })) (sym t) (rack_at c es k.unit k.number x l))

  pub avoid_written : k.what ≡ 4 → length x.avoided ≡ length c.machines → (ns : List ℕ) → ns ≡ set x.avoided k.number (count key_cmp es k) → IsWritten c es k x (record x { avoided = ns })
  avoid_written t l ns is = subst (λ ms. IsWritten c es k x (record x { avoided = ms })) (sym is)
      (subst (λ w. IsWritten c es (key w k.unit k.number) x (record x { avoided = set x.avoided k.number (count key_cmp es (key w k.unit k.number)) })) (sym t) (avoid_at c es k.unit k.number x l))

  pub avoid_more : k.what ≡ 4 → length x.avoided ≡ length c.machines → is_gone (get_or x.avoided k.number 0) (count key_cmp es k) ≡ is_more_at k (asks_at x k) (asked_by c es k)
  avoid_more t l = subst (λ w. is_gone (get_or x.avoided k.number 0) (count key_cmp es (key w k.unit k.number)) ≡ is_more_at (key w k.unit k.number) (asks_at x (key w k.unit k.number)) (asked_by c es (key w k.unit k.number))) (sym t) (avoid_gone c es k.unit k.number x l)

-- ---- numbers are written one by one
-- at the keys that changes name the numbers of a demand are written, and nowhere else
pub record AreWritten (c : ClusterRecord) (es : List (Key × ℕ)) (cs : List (Key × ℤ)) (before after : List Cell) : Type 0 where
  pub long : length after ≡ length before
  pub alike : (u : ℕ) → IsAlike (get_or before u no_cell) (get_or after u no_cell)
  pub done : (k : Key) → k.unit < length before → is_named k cs ≡ true → asks_at (get_or after k.unit no_cell) k ≡ asked_by c es k
  pub left : (k : Key) → is_named k cs ≡ false → asks_at (get_or after k.unit no_cell) k ≡ asks_at (get_or before k.unit no_cell) k

-- whether at one of them a want rises, or an avoidance is gone
pub record TellsMore (c : ClusterRecord) (es : List (Key × ℕ)) (cs : List (Key × ℤ)) (before : List Cell) (more : Bool) : Type 0 where
  pub some : any_more c es before (length before) ≡ false → more ≡ false
  pub none : more ≡ false → (k : Key) → k.unit < length before → is_named k cs ≡ true → is_more_at k (asks_at (get_or before k.unit no_cell) k) (asked_by c es k) ≡ false

alike_self : (x : Cell) → IsAlike x x
alike_self x = record { unit = refl; group = refl; near = refl; racks = refl; avoided = refl }

alike_then : (x y z : Cell) → IsAlike x y → IsAlike y z → IsAlike x z
alike_then x y z p q = record { unit = q.unit ∙ p.unit; group = q.group ∙ p.group; near = q.near ∙ p.near; racks = q.racks ∙ p.racks; avoided = q.avoided ∙ p.avoided }

pub written_none : (c : ClusterRecord) (es : List (Key × ℕ)) (xs : List Cell) → AreWritten c es [] xs xs
written_none c es xs = record { long = refl; alike = λ u. alike_self (get_or xs u no_cell); done = λ k lt e. cc; left = λ k e. refl }

pub more_none : (c : ClusterRecord) (es : List (Key × ℕ)) (xs : List Cell) → TellsMore c es [] xs false
more_none c es xs = record { some = λ _. refl; none = λ _ k lt e. cc }

-- where nothing is more, nothing is so at any key
more_nowhere : (c : ClusterRecord) (es : List (Key × ℕ)) (xs : List Cell) → any_more c es xs (length xs) ≡ false → (k : Key) → k.unit < length xs → length (get_or xs k.unit no_cell).avoided ≡ length c.machines
    → is_more_at k (asks_at (get_or xs k.unit no_cell) k) (asked_by c es k) ≡ false
more_nowhere c es xs e k lt long = by (nat_eq k.what 1) (nat_eq k.what 4) refl refl
  where
    x : Cell
    x = get_or xs k.unit no_cell

    one : (nat_lt x.want (count key_cmp es (want_key k.unit)) ≡ false) × (any_gone es 4 k.unit x.avoided (length c.machines) ≡ false)
    one = both_false _ _ (any_one (λ u. asks_more c es u (get_or xs u no_cell)) (length xs) k.unit e lt)

    want : (n : ℕ) → is_more_at (key 1 k.unit n) (asks_at x (key 1 k.unit n)) (asked_by c es (key 1 k.unit n)) ≡ false
    want n = elim (nat_eq n 0) as (λ t. nat_lt (cond t x.want 0) (cond t (count key_cmp es (want_key k.unit)) 0) ≡ false) [ true ↦ one.0 | false ↦ refl ]

    avoid : (n : ℕ) → is_more_at (avoid_key k.unit n) (asks_at x (avoid_key k.unit n)) (asked_by c es (avoid_key k.unit n)) ≡ false
    avoid n = elim (cases_lt n (length c.machines)) [
      | inl l ↦ ap (is_gone (get_or x.avoided n 0)) (counted_at (λ m. count key_cmp es (avoid_key k.unit m)) (length c.machines) n l) ∙ any_one (λ m. is_gone (get_or x.avoided m 0) (count key_cmp es (avoid_key k.unit m))) (length c.machines) n one.1 l
      | inr ge ↦ ap (λ m. is_gone m (asked_by c es (avoid_key k.unit n))) (get_or-eq_default x.avoided 0 (let le : length x.avoided ≤ n = omega (arith, long, ge) in le))
    ]

    by : (p q : Bool) → nat_eq k.what 1 ≡ p → nat_eq k.what 4 ≡ q → is_more_at k (asks_at x k) (asked_by c es k) ≡ false
    by true q p _ = subst (λ w. is_more_at (key w k.unit k.number) (asks_at x (key w k.unit k.number)) (asked_by c es (key w k.unit k.number)) ≡ false) (sym (number_is k.what 1 p)) (want k.number)
    by false true _ q = subst (λ w. is_more_at (key w k.unit k.number) (asks_at x (key w k.unit k.number)) (asked_by c es (key w k.unit k.number)) ≡ false) (sym (number_is k.what 4 q)) (avoid k.number)
    by false false p q = ap (λ t. cond t (nat_lt (asks_at x k) (asked_by c es k)) (cond (nat_eq k.what 4) (is_gone (asks_at x k) (asked_by c es k)) false)) p ∙ ap (λ t. cond t (is_gone (asks_at x k) (asked_by c es k)) false) q

same_not_more : (k : Key) (n m : ℕ) → n ≡ m → is_more_at k n m ≡ false
same_not_more k n m e = ap (λ z. is_more_at k z m) e ∙ by (nat_eq k.what 1) (nat_eq k.what 4)
  where
    by : (p q : Bool) → cond p (nat_lt m m) (cond q (is_gone m m) false) ≡ false
    by true q = grind (arith, nat_tests)
    by false true = grind (arith, nat_tests)
    by false false = refl

module _ (c : ClusterRecord) (es : List (Key × ℕ)) (cs : List (Key × ℤ)) (i : ℕ) (d : Key × ℤ) (is : slice_get cs i ≡ Some d) (before now after : List Cell) (h : AreWritten c es (take i cs) before now) (w : IsWrittenIn c es d.0 now after) where
  pub written_more : AreWritten c es (take (i + 1) cs) before after
  written_more = record {
    long = w.long ∙ h.long;
    alike = λ u. elim (cases_eq u d.0.unit) as (λ _. IsAlike (get_or before u no_cell) (get_or after u no_cell)) [
      | inl q ↦ elim (cases_lt u (length before)) [
        | inl lt ↦
            let there : d.0.unit < length now = let n = h.long in omega (arith, lt, n, q) in
            alike_then (get_or before u no_cell) (get_or now u no_cell) (get_or after u no_cell) (h.alike u) (subst (λ v. IsAlike (get_or now v no_cell) (get_or after v no_cell)) (sym q) (w.here there).alike)
        | inr ge ↦ subst (λ y. IsAlike y (get_or after u no_cell)) (sym (get_or-eq_default before no_cell ge)) (subst (IsAlike no_cell) (sym (get_or-eq_default after no_cell (let n = h.long in let m = w.long in omega (arith, n, m, ge)))) (alike_self no_cell))
      ]
      | inr f ↦ subst (IsAlike (get_or before u no_cell)) (sym (w.others u f)) (h.alike u)
    ];
    done = λ k lt e. elim (cases_eq k.unit d.0.unit) [
      | inl q ↦ at_unit k q lt (eq_by_cmp key_cmp k d.0) refl (sym (named_more cs i d k is) ∙ e)
      | inr f ↦ elsewhere k f lt (either_one (is_named k (take i cs)) (eq_by_cmp key_cmp k d.0) (sym (named_more cs i d k is) ∙ e))
    ];
    left = λ k e.
        let b = both_false (is_named k (take i cs)) (eq_by_cmp key_cmp k d.0) (sym (named_more cs i d k is) ∙ e) in
        apart k b.1 ∙ h.left k b.0;
  }
    where
      -- at another key nothing changes
      apart : (k : Key) → eq_by_cmp key_cmp k d.0 ≡ false → asks_at (get_or after k.unit no_cell) k ≡ asks_at (get_or now k.unit no_cell) k
      apart k f = elim (cases_eq k.unit d.0.unit) [
        | inl q ↦ elim (cases_lt d.0.unit (length now)) [
          | inl lt ↦ subst (λ v. asks_at (get_or after v no_cell) k ≡ asks_at (get_or now v no_cell) k) (sym q) ((w.here lt).others k q f)
          | inr ge ↦ ap (λ y. asks_at y k) (get_or-eq_default after no_cell (let m = w.long in omega (arith, m, ge, q)) ∙ sym (get_or-eq_default now no_cell (omega (arith, ge, q))))
        ]
        | inr g ↦ ap (λ y. asks_at y k) (w.others k.unit g)
      ]

      at_unit : (k : Key) → k.unit ≡ d.0.unit → k.unit < length before → (t : Bool) → eq_by_cmp key_cmp k d.0 ≡ t → (is_named k (take i cs) || eq_by_cmp key_cmp k d.0) ≡ true → asks_at (get_or after k.unit no_cell) k ≡ asked_by c es k
      at_unit k q lt true t e = subst (λ (j : Key). asks_at (get_or after j.unit no_cell) j ≡ asked_by c es j) (sym (key_is k d.0 t)) (w.here (let n = h.long in omega (arith, n, q, lt))).here
      at_unit k q lt false f e = apart k f ∙ h.done k lt (sym (ap (λ b. is_named k (take i cs) || b) f ∙ or_false (is_named k (take i cs))) ∙ e)

      elsewhere : (k : Key) → k.unit ≢ d.0.unit → k.unit < length before → (is_named k (take i cs) ≡ true) ⊎ (eq_by_cmp key_cmp k d.0 ≡ true) → asks_at (get_or after k.unit no_cell) k ≡ asked_by c es k
      elsewhere k f lt (inl e) = ap (λ y. asks_at y k) (w.others k.unit f) ∙ h.done k lt e
      elsewhere k f lt (inr e) = absurd (f (ap (λ (j : Key). j.unit) (key_is k d.0 e)))

  pub more_more : (avoided : (u : ℕ) → u < length before → length (get_or before u no_cell).avoided ≡ length c.machines) (more one : Bool) → TellsMore c es (take i cs) before more
      → (d.0.unit < length now → one ≡ is_more_at d.0 (asks_at (get_or now d.0.unit no_cell) d.0) (asked_by c es d.0)) → (length now ≤ d.0.unit → one ≡ false) → TellsMore c es (take (i + 1) cs) before (more || one)
  more_more avoided more one m here past = record {
    some = λ e. or_none more one (m.some e) (elim (cases_lt d.0.unit (length now)) [
      | inl lt ↦ here lt ∙ quiet lt e (is_named d.0 (take i cs)) refl
      | inr ge ↦ past ge
    ]);
    none = λ e k lt named.
        let b = both_false more one e in
        by k lt b.0 b.1 (either_one (is_named k (take i cs)) (eq_by_cmp key_cmp k d.0) (sym (named_more cs i d k is) ∙ named));
  }
    where
      quiet : d.0.unit < length now → any_more c es before (length before) ≡ false → (t : Bool) → is_named d.0 (take i cs) ≡ t → is_more_at d.0 (asks_at (get_or now d.0.unit no_cell) d.0) (asked_by c es d.0) ≡ false
      quiet lt e true t = same_not_more d.0 (asks_at (get_or now d.0.unit no_cell) d.0) (asked_by c es d.0) (h.done d.0 (let n = h.long in omega (arith, n, lt)) t)
      quiet lt e false f =
          let there : d.0.unit < length before = let n = h.long in omega (arith, n, lt) in
          ap (λ n. is_more_at d.0 n (asked_by c es d.0)) (h.left d.0 f) ∙ more_nowhere c es before e d.0 there (avoided d.0.unit there)

      at : (k : Key) → k.unit < length before → more ≡ false → one ≡ false → k ≡ d.0 → (t : Bool) → is_named k (take i cs) ≡ t → is_more_at k (asks_at (get_or before k.unit no_cell) k) (asked_by c es k) ≡ false
      at k lt e f q true t = m.none e k lt t
      at k lt e f q false t =
          let there : d.0.unit < length now = let n = h.long in let s = ap (λ (j : Key). j.unit) q in omega (arith, n, s, lt) in
          ap (λ n. is_more_at k n (asked_by c es k)) (sym (h.left k t)) ∙ subst (λ (j : Key). is_more_at j (asks_at (get_or now j.unit no_cell) j) (asked_by c es j) ≡ false) (sym q) (sym (here there) ∙ f)

      by : (k : Key) → k.unit < length before → more ≡ false → one ≡ false → (is_named k (take i cs) ≡ true) ⊎ (eq_by_cmp key_cmp k d.0 ≡ true) → is_more_at k (asks_at (get_or before k.unit no_cell) k) (asked_by c es k) ≡ false
      by k lt e f (inl named) = m.none e k lt named
      by k lt e f (inr t) = at k lt e f (key_is k d.0 t) (is_named k (take i cs)) refl

-- ---- all are written
cell_taken : (c : ClusterRecord) (es : List (Key × ℕ)) (u : ℕ) (x y : Cell) → IsAlike x y → length x.near ≡ length c.machines → length x.racks ≡ 64 → length x.avoided ≡ length c.machines
    → ((k : Key) → k.unit ≡ u → asks_at y k ≡ asked_by c es k) → y ≡ taken c es u x
cell_taken c es u x y a n r v h =
    let near : y.near ≡ numbers_at es 2 u (length c.machines) = ext_get_or 0 y.near (numbers_at es 2 u (length c.machines)) (a.near ∙ n ∙ sym (counted_long (λ m. count key_cmp es (key 2 u m)) (length c.machines))) (λ m lt. h (near_key u m) refl) in
    let racks : y.racks ≡ racks_at c es u = ext_get_or 0 y.racks (racks_at c es u) (a.racks ∙ r ∙ sym (counted_long (λ m. cond (has_rack c m) (count key_cmp es (rack_key u m)) 0) 64)) (λ m lt. h (rack_key u m) refl) in
    let avoided : y.avoided ≡ numbers_at es 4 u (length c.machines) = ext_get_or 0 y.avoided (numbers_at es 4 u (length c.machines)) (a.avoided ∙ v ∙ sym (counted_long (λ m. count key_cmp es (key 4 u m)) (length c.machines))) (λ m lt. h (avoid_key u m) refl) in
    let want : y.want ≡ count key_cmp es (want_key u) = h (want_key u) refl in
    λ i. record { unit = a.unit i; group = a.group i; want = want i; near = near i; racks = racks i; avoided = avoided i }

module _ (c : ClusterRecord) (es : List (Key × ℕ)) (cs : List (Key × ℤ)) (before now : List Cell) (same : AsksSameBut cs c es before) where
  pub all_taken : AreWritten c es cs before now → ((u : ℕ) → u < length before → length (get_or before u no_cell).near ≡ length c.machines) → ((u : ℕ) → u < length before → length (get_or before u no_cell).racks ≡ 64)
      → ((u : ℕ) → u < length before → length (get_or before u no_cell).avoided ≡ length c.machines) → now ≡ taken_all c es 0 before
  all_taken h near racks avoided = ext_get_or no_cell now (taken_all c es 0 before) (h.long ∙ sym (length-taken_all c es 0 before)) (λ u l.
      let lt : u < length before = let n = h.long in omega (arith, n, l) in
      cell_taken c es u (get_or before u no_cell) (get_or now u no_cell) (h.alike u) (near u lt) (racks u lt) (avoided u lt)
      (λ k q. subst (λ v. asks_at (get_or now v no_cell) k ≡ asked_by c es k) q (at k (subst (λ v. v < length before) (sym q) lt) (is_named k cs) refl))
      ∙ sym (get_or-taken_all c es 0 u u before (omega arith) lt))
    where
      at : (k : Key) → k.unit < length before → (t : Bool) → is_named k cs ≡ t → asks_at (get_or now k.unit no_cell) k ≡ asked_by c es k
      at k lt true t = h.done k lt t
      at k lt false f = h.left k f ∙ same k lt f

  pub all_more : (more : Bool) → TellsMore c es cs before more → more ≡ any_more c es before (length before)
  all_more more m = by more (any_more c es before (length before)) refl refl
    where
      at : more ≡ false → (k : Key) → k.unit < length before → (t : Bool) → is_named k cs ≡ t → is_more_at k (asks_at (get_or before k.unit no_cell) k) (asked_by c es k) ≡ false
      at e k lt true t = m.none e k lt t
      at e k lt false f = same_not_more k (asks_at (get_or before k.unit no_cell) k) (asked_by c es k) (same k lt f)

      none : more ≡ false → any_more c es before (length before) ≡ false
      none e = any_none (λ u. asks_more c es u (get_or before u no_cell)) (length before) (λ u lt. or_none _ _ (at e (want_key u) lt (is_named (want_key u) cs) refl)
          (any_none (λ m. is_gone (get_or (get_or before u no_cell).avoided m 0) (count key_cmp es (avoid_key u m))) (length c.machines) (λ m l.
          ap (is_gone (get_or (get_or before u no_cell).avoided m 0)) (sym (counted_at (λ m. count key_cmp es (avoid_key u m)) (length c.machines) m l)) ∙ at e (avoid_key u m) lt (is_named (avoid_key u m) cs) refl)))

      by : (p q : Bool) → more ≡ p → any_more c es before (length before) ≡ q → more ≡ any_more c es before (length before)
      by true true e f = e ∙ sym f
      by false q e f = e ∙ sym (none e)
      by true false e f = let z : true ≡ false = sym e ∙ m.some f in cc

-- what is asked at a key of the job then
pub taken_asks : (c : ClusterRecord) (es : List (Key × ℕ)) (cells : List (List Cell)) (a : ℕ) → a < length cells → (k : Key) → k.unit < length (get_or cells a []) → asks_in (set cells a (taken_all c es 0 (get_or cells a []))) a k ≡ asked_by c es k
taken_asks c es cells a lt k l = ap (λ xs. asks_at (get_or xs k.unit no_cell) k) (get_or-set_same cells a (taken_all c es 0 (get_or cells a [])) [] lt) ∙ ap (λ x. asks_at x k) (get_or-taken_all c es 0 k.unit k.unit (get_or cells a []) (omega arith) l)

pub told_same : (c : ClusterRecord) (es : List (Key × ℕ)) (cells : List (List Cell)) (a : ℕ) (cs : List (Key × ℤ)) → AreCounts key_cmp greatest_demand es → a < length cells
    → ((k : Key) → is_named k cs ≡ false → asks_in cells a k ≡ cond (nat_eq a a) (cond (is_there c (length (get_or cells a [])) k) (count key_cmp es k) 0) (asks_in cells a k)) → AsksSameBut cs c es (get_or cells a [])
told_same c es cells a cs counts lt told k l f = told k f ∙ sym (asks_taken c es cells a counts lt a k) ∙ taken_asks c es cells a lt k l
