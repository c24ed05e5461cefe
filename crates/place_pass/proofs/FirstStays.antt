-- The pair of first rank stays it by grants of itself, as long as it may be placed again and comes no later.
use Rattle.std.proofs.Common.{◌≡◌, ℕ, ◌+◌, ◌-◌, ◌<◌, ◌≤◌, Bool, true, false, cond, nat_eq, nat_lt, List, [], ◌∷◌, length, slice_get, refl, sym, ◌∙◌, ap, subst, arith, inl, inr, ◌⊎◌, Some}
use Rattle.std.specs.Prelude.{◌&&◌, T}
use Rattle.std.specs.List.{AllByRecursion}
use Rattle.std.specs.Ordering.{nat_cmp, is_lt, ordering_reverse}
use Rattle.std.specs.Cmp.{IsTotalOrder, nat_cmp_total}
use Rattle.std.specs.Cmp.Lexicographic.{slice_cmp, lists_total}
use Rattle.std.specs.FinMap.Entries.{is_sorted}
use Rattle.std.specs.declared.cmp.Ordering.{Ordering}
use Rattle.std.specs.declared.cmp.Ordering.TheVariants.{Less, Equal, Greater}
use Rattle.std.proofs.lemmas.Bool.{cases_lt}
use Rattle.std.proofs.lemmas.Bool.Decides.{nat_tests}
use Rattle.fuxi_terms.specs.Counts.{count, set_count}
use Rattle.fuxi_terms.specs.Keys.{Spot, spot_cmp, Pair}
use Rattle.fuxi_terms.specs.Tables.{held, Table}
use Rattle.fuxi_terms.specs.TallyKeys.{want_key}
use Rattle.fuxi_terms.proofs.Booleans.{both_true, and_true, zero_either}
use Rattle.fuxi_terms.proofs.Members.{In}
use Rattle.fuxi_terms.proofs.Sums.{sum_set}
use Rattle.spec_roles.specs.Masters.{level_of, out_of}
use Rattle.spec_roles.specs.Placing.{Board, Ranked, ranked_in, candidates_in, may_grow_in, is_allowed_in, accepts_in, has_room_in, placeable_in, least, first_of, first_in}
use Rattle.place_pass.specs.Bounds.{comes_before}
use Rattle.place_pass.proofs.BoundsAfterChange.{granted_later}
use Rattle.place_pass.proofs.FirstByTurn.{all_in, by_place, in_candidates, less_first, less_rest, placed_all}
use Rattle.place_pass.proofs.FirstOfLine.{first_is}
use Rattle.fuxi_terms.proofs.NumberOrders.{is_less}

-- ---- the least of many comes after none
abbrev before : Ranked → Ranked → Bool
before r s = is_lt (slice_cmp nat_cmp r.rank s.rank)

order : IsTotalOrder (slice_cmp nat_cmp)
order = lists_total nat_cmp_total

lower : (r s l : List ℕ) → comes_before r s ≡ true → comes_before s l ≡ true → comes_before r l ≡ true
lower r s l e f = ap is_lt (order.trans r s l (is_less (slice_cmp nat_cmp r s) e) (is_less (slice_cmp nat_cmp s l) f))

itself : (r : List ℕ) → comes_before r r ≡ false
itself r = by (slice_cmp nat_cmp r r) (order.antisymm r r)
  where
    by : (o : Ordering) → o ≡ ordering_reverse o → is_lt o ≡ false
    by Less e = cc
    by Equal e = refl
    by Greater e = refl

not_above : (r s l : List ℕ) → comes_before s r ≡ true → comes_before s l ≡ false → comes_before r l ≡ false
not_above r s l lt not_lower = elim (comes_before r l) as (λ c. comes_before r l ≡ c → c ≡ false) [
  | true ↦ λ e. sym (lower s r l lt e) ∙ not_lower
  | false ↦ λ _. refl
] refl

not_below : (r s l : List ℕ) → comes_before s r ≡ false → comes_before r l ≡ false → comes_before s l ≡ false
not_below r s l ge not_lower = elim (comes_before s l) as (λ c. comes_before s l ≡ c → c ≡ false) [
  | true ↦ λ e. by e (slice_cmp nat_cmp s r) refl
  | false ↦ λ _. refl
] refl
  where
    by : comes_before s l ≡ true → (o : Ordering) → slice_cmp nat_cmp s r ≡ o → true ≡ false
    by e Less o = sym (ap is_lt o) ∙ ge
    by e Equal o = sym e ∙ ap is_lt (order.congr s r l o) ∙ not_lower
    by e Greater o = sym (lower r s l (ap is_lt (order.antisymm r s ∙ ap ordering_reverse o)) e) ∙ not_lower

least_in : (r : Ranked) (ss : List Ranked) → In (least r ss) (r ∷ ss)
least_in r [] = inl refl
least_in r (s ∷ ss) = elim (before s r) as (λ c. In (least (cond c s r) ss) (r ∷ (s ∷ ss))) [
  | true ↦ inr (least_in s ss)
  | false ↦ elim (least_in r ss) [ inl e ↦ inl e | inr i ↦ inr (inr i) ]
]

none_before : (r : Ranked) (ss : List Ranked) (y : Ranked) → In y (r ∷ ss) → before y (least r ss) ≡ false
none_before r [] y (inl e) = subst (λ (z : Ranked). before z r ≡ false) (sym e) (itself r.rank)
none_before r [] y (inr i) = absurd i
none_before r (s ∷ ss) y i = elim (before s r) as (λ c. before s r ≡ c → before y (least (cond c s r) ss) ≡ false) [
  | true ↦ λ lt. elim i [
    | inl e ↦ subst (λ (z : Ranked). before z (least s ss) ≡ false) (sym e) (not_above r.rank s.rank (least s ss).rank lt (none_before s ss s (inl refl)))
    | inr j ↦ none_before s ss y j
  ]
  | false ↦ λ ge. elim i [
    | inl e ↦ none_before r ss y (inl e)
    | inr j ↦ elim j [
      | inl e ↦ subst (λ (z : Ranked). before z (least r ss) ≡ false) (sym e) (not_below r.rank s.rank (least r ss).rank ge (none_before r ss r (inl refl)))
      | inr k ↦ none_before r ss y (inr k)
    ]
  ]
] refl

-- ---- a candidate by its place
record IsAt (b : Board) (es : Table) (line : List Pair) (r : Ranked) : Type 0 where
  place : ℕ
  pair : Pair
  machine : ℕ
  at : slice_get line place ≡ Some pair
  there : machine < length b.cluster.machines
  may : placeable_in b es pair.0 pair.1 machine ≡ true
  is : r ≡ ranked_in b es place pair machine

each_at : (b : Board) (es : Table) (line : List Pair) → AllByRecursion (IsAt b es line) (candidates_in b es 0 line)
each_at b es line = placed_all (IsAt b es line) b es 0 line (λ k at m p s e lt t. record { place = k; pair = p; machine = m; at = e; there = lt; may = t; is = let z : at ≡ k = omega (arith, s) in ap (λ n. ranked_in b es n p m) z })

-- ---- a level that is no less leaves it behind
comes_later : (x : List ℕ) (l v v' : ℕ) (r : List ℕ) → v ≤ v' → comes_before x (l ∷ v ∷ r) ≡ true → comes_before x (l ∷ v' ∷ r) ≡ true
comes_later x l v v' r le e = elim (cases_lt v v') [
  | inl lt ↦ lower x (l ∷ v ∷ r) (l ∷ v' ∷ r) e (less_rest l l (v' ∷ r) (v ∷ r) refl (less_first v' v r r lt))
  | inr ge ↦ let same : v ≡ v' = omega (arith, le, ge) in subst (λ z. comes_before x (l ∷ z ∷ r) ≡ true) same e
]

module _ (b : Board) (es : Table) (x : Spot) (n : ℕ) (sorted : T (is_sorted spot_cmp es)) (more : count spot_cmp es x ≤ n) where
  abbrev then : Table
  then = set_count spot_cmp es x n

  held_grown : (a u : ℕ) → held es a u ≤ held then a u
  held_grown a u = by (nat_eq x.job a && nat_eq x.unit u) (held then a u) (held es a u) (sum_set (λ s n. cond (nat_eq s.job a && nat_eq s.unit u) n 0) (λ s. zero_either (nat_eq s.job a && nat_eq s.unit u)) x n es sorted)
    where
      by : (t : Bool) (h k : ℕ) → h + cond t (count spot_cmp es x) 0 ≡ k + cond t n 0 → k ≤ h
      by true h k e = omega (arith, e, more)
      by false h k e = omega (arith, e)

  waits_before : (w h h' : ℕ) → h ≤ h' → nat_lt 0 (w - h') ≡ true → nat_lt 0 (w - h) ≡ true
  waits_before w h h' le e = grind (arith, nat_tests, le, e)

  -- what may be placed now might be before
  may_before : (a u m : ℕ) → placeable_in b then a u m ≡ true → placeable_in b es a u m ≡ true
  may_before a u m e =
      let later = granted_later es x n sorted more b (a, u) m in
      let grows = both_true (may_grow_in b then a u) _ e in
      let place = both_true (accepts_in b then a u m) (has_room_in b.cluster b.sizes then a u m) grows.1 in
      let serves = both_true b.serving _ grows.0 in
      let waits = both_true (nat_lt 0 (out_of b.asks then a u)) (is_allowed_in b.cluster b.groups b.sizes then a u) serves.1 in
      and_true (may_grow_in b es a u) (accepts_in b es a u m && has_room_in b.cluster b.sizes es a u m)
      (and_true b.serving (nat_lt 0 (out_of b.asks es a u) && is_allowed_in b.cluster b.groups b.sizes es a u) serves.0
      (and_true (nat_lt 0 (out_of b.asks es a u)) (is_allowed_in b.cluster b.groups b.sizes es a u) (waits_before (b.asks a (want_key u)) (held es a u) (held then a u) (held_grown a u) waits.0) (later.allowed waits.1)))
      (and_true (accepts_in b es a u m) (has_room_in b.cluster b.sizes es a u m) (later.accepts place.0) (later.room place.1))

  pub first_stays : (line : List Pair) → first_in b es line ≡ Some x → placeable_in b then x.job x.unit x.machine ≡ true
      → level_of b.cluster b.asks then x.job x.unit x.machine ≡ level_of b.cluster b.asks es x.job x.unit x.machine → first_in b then line ≡ Some x
  first_stays line first may same = of_all (candidates_in b es 0 line) refl first
    where
      goes : (k m : ℕ) (p : Pair) → slice_get line k ≡ Some p → level_of b.cluster b.asks then p.0 p.1 m ≡ level_of b.cluster b.asks es p.0 p.1 m → (y : Ranked) (k' m' : ℕ) (q : Pair) → y ≡ ranked_in b then k' q m' → slice_get line k' ≡ Some q
          → before (ranked_in b es k' q m') (ranked_in b es k p m) ≡ false → (y ≡ ranked_in b then k p m) ⊎ (before (ranked_in b then k p m) y ≡ true)
      goes k m p at level_here y k' m' q y_is at' not_lower =
          elim (by_place (9 - b.priorities q.0 q.1) (level_of b.cluster b.asks es q.0 q.1 m') k' m' k' (9 - b.priorities p.0 p.1) (level_of b.cluster b.asks es p.0 p.1 m) k m k (λ lt. lt) (λ e. e) not_lower) [
            | inl s ↦ inl (y_is ∙ (let o : Some q ≡ Some p = sym at' ∙ ap (slice_get line) s.1.1.0 ∙ at in let is : q ≡ p = cc in λ i. ranked_in b then (s.1.1.0 i) (is i) (s.1.1.1 i)))
            | inr lt ↦ inr (subst (λ (r : Ranked). before (ranked_in b then k p m) r ≡ true) (sym y_is)
                (comes_later (ranked_in b then k p m).rank (9 - b.priorities q.0 q.1) (level_of b.cluster b.asks es q.0 q.1 m') (level_of b.cluster b.asks then q.0 q.1 m') (k' ∷ m' ∷ []) (granted_later es x n sorted more b q m').level
                (subst (λ v. comes_before ((9 - b.priorities p.0 p.1) ∷ v ∷ k ∷ m ∷ []) ((9 - b.priorities q.0 q.1) ∷ level_of b.cluster b.asks es q.0 q.1 m' ∷ k' ∷ m' ∷ []) ≡ true) (sym level_here) lt)))
          ]

      stays : (l : Ranked) (k m : ℕ) (p : Pair) → l ≡ ranked_in b es k p m → (ranked_in b es k p m).spot ≡ x → slice_get line k ≡ Some p → m < length b.cluster.machines
          → ((y : Ranked) → In y (candidates_in b es 0 line) → before y l ≡ false) → first_in b then line ≡ Some x
      stays l k m p l_is spot_is at lt none =
          let may_here : placeable_in b then p.0 p.1 m ≡ true = subst (λ (s : Spot). placeable_in b then s.job s.unit s.machine ≡ true) (sym spot_is) may in
          let level_here : level_of b.cluster b.asks then p.0 p.1 m ≡ level_of b.cluster b.asks es p.0 p.1 m = subst (λ (s : Spot). level_of b.cluster b.asks then s.job s.unit s.machine ≡ level_of b.cluster b.asks es s.job s.unit s.machine) (sym spot_is) same in
          let none_es : (y : Ranked) → In y (candidates_in b es 0 line) → before y (ranked_in b es k p m) ≡ false = λ y i. subst (λ (r : Ranked). before y r ≡ false) l_is (none y i) in
          first_is (ranked_in b then k p m) (candidates_in b then 0 line) (in_candidates b then 0 k k m p line (omega arith) at lt may_here)
          (λ y i. let c = all_in (IsAt b then line) y (candidates_in b then 0 line) (each_at b then line) i in
          goes k m p at level_here y c.place c.machine c.pair c.is c.at (none_es (ranked_in b es c.place c.pair c.machine) (in_candidates b es 0 c.place c.place c.machine c.pair line (omega arith) c.at c.there (may_before c.pair.0 c.pair.1 c.machine c.may))))
          ∙ ap Some spot_is

      of_all : (rs : List Ranked) → candidates_in b es 0 line ≡ rs → first_of rs ≡ Some x → first_in b then line ≡ Some x
      of_all [] are e = cc
      of_all (r ∷ rs) are e =
          let l = least r rs in
          let there : In l (candidates_in b es 0 line) = subst (In l) (sym are) (least_in r rs) in
          let is = all_in (IsAt b es line) l (candidates_in b es 0 line) (each_at b es line) there in
          let spot_is : l.spot ≡ x = cc in
          let at_spot : (ranked_in b es is.place is.pair is.machine).spot ≡ x = ap (λ (r : Ranked). r.spot) (sym is.is) ∙ spot_is in
          stays l is.place is.machine is.pair is.is at_spot is.at is.there (λ y i. none_before r rs y (subst (In y) are i))
