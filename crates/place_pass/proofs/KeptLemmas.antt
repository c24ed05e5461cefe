-- What marks and turns say of a line stays so.
use Rattle.std.proofs.Common.{◌≡◌, ◌≢◌, ℕ, ◌+◌, ◌*◌, ◌<◌, ◌≤◌, Bool, true, false, cond, nat_eq, nat_lt, List, [], ◌∷◌, ◌++◌, length, get_or, set, filter, refl, sym, ◌∙◌, ap, subst, arith, inl, inr, ◌⊎◌, Option}
use Rattle.std.specs.Prelude.{◌&&◌, ◌||◌, T}
use Rattle.std.specs.List.{AllByRecursion}
use Rattle.std.specs.FinMap.Entries.{is_sorted}
use Rattle.std.proofs.lemmas.Bool.{cases_lt}
use Rattle.std.proofs.lemmas.Bool.Decides.{nat_tests}
use Rattle.std.proofs.Math.ListN.{get_or-eq_default}
use Rattle.fuxi_terms.specs.Cluster.{ClusterRecord, rack_of}
use Rattle.fuxi_terms.specs.Counts.{count, set_count}
use Rattle.fuxi_terms.specs.Keys.{spot_cmp, Pair}
use Rattle.fuxi_terms.specs.declared.Key.{Key}
use Rattle.fuxi_terms.specs.Jobs.{group_of, most_of}
use Rattle.fuxi_terms.specs.Tables.{spot, held, held_on, Table}
use Rattle.fuxi_terms.proofs.Alls.{all_append, all_filter, all_more}
use Rattle.fuxi_terms.proofs.Booleans.{both_true, and_true, or_right, number_is, nat_itself, zero_either}
use Rattle.fuxi_terms.proofs.Sums.{sum_set}
use Rattle.spec_roles.specs.Placing.{Board, has_pair}
use Rattle.grant_table.specs.GrantTables.{TableRecord, as_known}
use Rattle.place_pass.specs.Bounds.{MarkRecord, mark_at, turn_at, Rises, Numbered, IsBounded, after_taking, is_nearer_in, key_of, no_groups, reset_mark, lowered_mark, AreBoundedLater}
use Rattle.place_pass.specs.Cells.{Cell, AvoidsStill}
use Rattle.place_pass.specs.WaitingLines.{same_pair}
use Rattle.place_pass.specs.Placers.{KeptRecord, IsKept, IsSetFrom, board_over, is_open_to}
use Rattle.place_pass.specs.Candidates.{IsAsked, IsForgotten}
use Rattle.place_pass.proofs.BoundsLemmas.{NoEarlier, accepts_less, allowed_bounds, bounded_later, lowered_later, reset_bounds}
use Rattle.place_pass.proofs.WaitingLinesLemmas.{pair_self, any_append, either_one, has_filter}
use Rattle.place_pass.proofs.FirstByTurn.{rising, rising_all}
use Rattle.place_pass.proofs.BoundsAfterChange.{granted_later, taken_bounds, taken_later}
use Rattle.place_pass.proofs.SearchCountsLemmas.{none_noted}
use Rattle.place_pass.proofs.CandidatesLemmas.{bounded_wider}
use Rattle.fuxi_terms.proofs.IndexedLists.{one_set}

-- ---- turns along a line
pub rises_filter : (f : Pair → ℕ) (q : Pair → Bool) (xs : List Pair) → Rises f xs → Rises f (filter q xs)
rises_filter f q [] h = tt
rises_filter f q (x ∷ xs) h = elim (q x) as (λ b. Rises f (cond b (x ∷ filter q xs) (filter q xs))) [
  | true ↦ (all_filter (λ (y : Pair). f x < f y) q xs h.0, rises_filter f q xs h.1)
  | false ↦ rises_filter f q xs h.1
]

has_later : (p x : Pair) (xs : List Pair) → has_pair p xs ≡ true → has_pair p (x ∷ xs) ≡ true
has_later p x xs h = or_right (same_pair p x) (has_pair p xs) h

all_had : (P : Pair → Type 0) (xs : List Pair) → ((p : Pair) → has_pair p xs ≡ true → P p) → AllByRecursion P xs
all_had P [] h = tt
all_had P (x ∷ xs) h = (h x (ap (λ b. b || has_pair x xs) (pair_self x)), all_had P xs (λ p e. h p (has_later p x xs e)))

one_had : (P : Pair → Type 0) (xs : List Pair) → AllByRecursion P xs → (p : Pair) → has_pair p xs ≡ true → P p
one_had P [] h p e = cc
one_had P (x ∷ xs) h p e = elim (same_pair p x) as (λ b. same_pair p x ≡ b → (b || has_pair p xs) ≡ true → P p) [
  | true ↦ λ t _. let b = both_true (nat_eq p.0 x.0) (nat_eq p.1 x.1) t in subst P (λ i. (sym (number_is p.0 x.0 b.0) i, sym (number_is p.1 x.1 b.1) i)) h.0
  | false ↦ λ _ e. one_had P xs h.1 p e
] refl e

pub rises_same : (f g : Pair → ℕ) (xs : List Pair) → ((p : Pair) → has_pair p xs ≡ true → g p ≡ f p) → Rises f xs → Rises g xs
rises_same f g [] e h = tt
rises_same f g (x ∷ xs) e h = (
  all_had (λ (q : Pair). g x < g q) xs (λ p has. let a = e x (ap (λ b. b || has_pair x xs) (pair_self x)) in let b = e p (has_later p x xs has) in let l = one_had (λ (q : Pair). f x < f q) xs h.0 p has in omega (arith, a, b, l)),
  rises_same f g xs (λ p has. e p (has_later p x xs has)) h.1,
)

rises_append : (f : Pair → ℕ) (n : ℕ) (xs ys : List Pair) → Rises f xs → ((p : Pair) → has_pair p xs ≡ true → f p < n) → Rises f ys → AllByRecursion (λ (q : Pair). n ≤ f q) ys → Rises f (xs ++ ys)
rises_append f n [] ys h lt k ge = k
rises_append f n (x ∷ xs) ys h lt k ge =
    let l = lt x (ap (λ b. b || has_pair x xs) (pair_self x)) in (
      all_append (λ (q : Pair). f x < f q) xs ys h.0 (all_more (λ (q : Pair). n ≤ f q) (λ (q : Pair). f x < f q) (λ q g. omega (arith, l, g)) ys ge),
      rises_append f n xs ys h.1 (λ p has. lt p (has_later p x xs has)) k ge,
    )

numbered_least : (f : Pair → ℕ) (n k : ℕ) (xs : List Pair) → k ≤ n → Numbered f n xs → AllByRecursion (λ (q : Pair). k ≤ f q) xs
numbered_least f n k [] le h = tt
numbered_least f n k (x ∷ xs) le h = let e = h.0 in (omega (arith, le, e), numbered_least f (n + 1) k xs (omega (arith, le)) h.1)

numbered_most : (f : Pair → ℕ) (n k : ℕ) (xs : List Pair) → n + length xs ≤ k → Numbered f n xs → AllByRecursion (λ (q : Pair). f q < k) xs
numbered_most f n k [] le h = tt
numbered_most f n k (x ∷ xs) le h = let e = h.0 in (omega (arith, le, e), numbered_most f (n + 1) k xs (omega (arith, le)) h.1)

numbered_rises : (f : Pair → ℕ) (n : ℕ) (xs : List Pair) → Numbered f n xs → Rises f xs
numbered_rises f n [] h = tt
numbered_rises f n (x ∷ xs) h = let e = h.0 in (all_more (λ (q : Pair). n + 1 ≤ f q) (λ (q : Pair). f x < f q) (λ q g. omega (arith, e, g)) xs (numbered_least f (n + 1) (n + 1) xs (omega arith) h.1), numbered_rises f (n + 1) xs h.1)

-- a unit for which no group counts is bounded whatever groups are noted
pub later_noted : (b : Board) (es : Table) (bound : Option (List ℕ)) (groups : List Bool) (turn : ℕ) (p : Pair) (m : ℕ) → IsBounded b es bound no_groups turn p m → IsBounded b es bound groups turn p m
later_noted b es bound groups turn p m h = bounded_wider b es bound bound no_groups groups turn p m (λ r e. e) (λ e. let f : false ≡ true = sym (none_noted (b.groups p.0)) ∙ e in cc) h

-- ---- a line that loses pairs, and to which others are appended with new turns
pub kept_lined : (cells : List (List Cell)) (o : List Bool) (line front joined : List Pair) (turns : ℕ) (k : KeptRecord) (t : TableRecord) (turn_of : List ℕ) (q : Pair → Bool)
    → front ≡ filter q line → ((p : Pair) → has_pair p joined ≡ true → has_pair p line ≡ false) → Numbered (λ (p : Pair). turn_at turn_of p.0 p.1) turns joined
    → ((a u : ℕ) → has_pair (a, u) line ≡ true → has_pair (a, u) joined ≡ false → turn_at turn_of a u ≡ turn_at k.turn_of a u)
    → ((a u : ℕ) → has_pair (a, u) joined ≡ true → u < length (get_or cells a [])) → IsKept cells o line turns k t → IsKept cells o (front ++ joined) (turns + length joined) (record k { turn_of = turn_of }) t
kept_lined cells o line front joined turns k t turn_of q is new numbered same admitted h = record {
  bounds = λ m a u opened has lt. elim (either_one (has_pair (a, u) front) (has_pair (a, u) joined) (sym (any_append (same_pair (a, u)) front joined) ∙ has)) [
    | inl old ↦ let e = stays a u old in subst (λ z. IsBounded (board_over cells o t) t.entries (mark_at k.marks m).bound (mark_at k.marks m).groups z (a, u) m) (sym e) (h.bounds m a u opened (was (a, u) old) (subst (λ z. z < (mark_at k.marks m).until) e lt))
    | inr late ↦ let ge = one_had (λ (p : Pair). turns ≤ turn_at turn_of p.0 p.1) joined (numbered_least f turns turns joined (omega arith) numbered) (a, u) late in
        later_noted (board_over cells o t) t.entries (mark_at k.marks m).bound (mark_at k.marks m).groups (turn_at turn_of a u) (a, u) m (h.later m opened a u (turn_at turn_of a u) (admitted a u late) ge lt)
  ];
  later = λ m opened a u turn here ge lt. h.later m opened a u turn here (omega (arith, ge)) lt;
  rises = rising f (front ++ joined) (rises_append f turns front joined (rises_same (λ (p : Pair). turn_at k.turn_of p.0 p.1) f front (λ p has. stays p.0 p.1 has) (subst (Rises (λ (p : Pair). turn_at k.turn_of p.0 p.1)) (sym is) (rises_filter (λ (p : Pair). turn_at k.turn_of p.0 p.1) q line (rising_all (λ (p : Pair). turn_at k.turn_of p.0 p.1) line h.rises))))
      (λ p has. let e = stays p.0 p.1 has in let lt = h.below p.0 p.1 (was p has) in omega (arith, e, lt)) (numbered_rises f turns joined numbered) (numbered_least f turns turns joined (omega arith) numbered));
  below = λ a u has. elim (either_one (has_pair (a, u) front) (has_pair (a, u) joined) (sym (any_append (same_pair (a, u)) front joined) ∙ has)) [
    | inl old ↦ let e = stays a u old in let lt = h.below a u (was (a, u) old) in omega (arith, e, lt)
    | inr late ↦ one_had (λ (p : Pair). turn_at turn_of p.0 p.1 < turns + length joined) joined (numbered_most f turns (turns + length joined) joined (omega arith) numbered) (a, u) late
  ];
  held = h.held;
}
  where
    f : Pair → ℕ
    f p = turn_at turn_of p.0 p.1

    was : (p : Pair) → has_pair p front ≡ true → has_pair p line ≡ true
    was p has = (both_true (has_pair p line) (q p) (sym (has_filter q p line) ∙ ap (has_pair p) (sym is) ∙ has)).0

    apart : (a u : ℕ) → has_pair (a, u) line ≡ true → has_pair (a, u) joined ≡ false
    apart a u has = elim (has_pair (a, u) joined) as (λ b. has_pair (a, u) joined ≡ b → b ≡ false) [ true ↦ λ e. sym has ∙ new (a, u) e | false ↦ λ _. refl ] refl

    stays : (a u : ℕ) → has_pair (a, u) front ≡ true → turn_at turn_of a u ≡ turn_at k.turn_of a u
    stays a u has = let w = was (a, u) has in same a u w (apart a u w)

-- ---- a change of the table is told
module _ (cells : List (List Cell)) (o : List Bool) (line line' : List Pair) (turns n : ℕ) (k : KeptRecord) (marks : List MarkRecord) (fewer : (p : Pair) → has_pair p line' ≡ true → has_pair p line ≡ true)
    (rises : Rises (λ (p : Pair). turn_at k.turn_of p.0 p.1) line') (there : (j : ℕ) → get_or o j false ≡ true → j < n) where
  abbrev MarksTold : TableRecord → ℕ → ℕ → ℕ → Type 0
  MarksTold t a u m = (j : ℕ) → j < n → mark_at marks j ≡ cond (nat_lt (held t.entries a u) (get_or k.held (a * 8 + u) 0))
      (after_taking t.cluster (group_of (as_known t.jobs) a) m (is_nearer_in (board_over cells o t) t.entries (spot a u m)) j (mark_at k.marks j)) (mark_at k.marks j)

  same_until : (c : ClusterRecord) (g m : ℕ) (near : Bool) (j : ℕ) (x : MarkRecord) → (after_taking c g m near j x).until ≡ x.until
  same_until c g m near j x = by (nat_eq j m) (get_or x.groups g false) (near && nat_eq (rack_of c j) (rack_of c m))
    where
      by : (a b d : Bool) → (cond a (reset_mark x.until) (cond b (reset_mark x.until) (cond d (lowered_mark x) x))).until ≡ x.until
      by true b d = refl
      by false true d = refl
      by false false true = refl
      by false false false = refl

  slots : (a u b v : ℕ) → u < 8 → v < 8 → (nat_eq a b && nat_eq u v) ≡ false → nat_eq (a * 8 + u) (b * 8 + v) ≡ false
  slots a u b v lu lv e = elim (nat_eq a b) as (λ t. nat_eq a b ≡ t → (t && nat_eq u v) ≡ false → nat_eq (a * 8 + u) (b * 8 + v) ≡ false) [
    | true ↦ λ t f. let same = number_is a b t in let d : u ≢ v = grind (arith, nat_tests, f) in let ne : (a * 8 + u) ≢ (b * 8 + v) = omega (arith, same, d) in grind (arith, nat_tests, ne)
    | false ↦ λ t f. let d : a ≢ b = grind (arith, nat_tests, t) in let ne : (a * 8 + u) ≢ (b * 8 + v) = omega (arith, d, lu, lv) in grind (arith, nat_tests, ne)
  ] refl e

  record IsTold (t : TableRecord) (es : Table) (a u m : ℕ) (x : Bool) : Type 0 where
    until : (j : ℕ) → (cond x (after_taking t.cluster (group_of (as_known t.jobs) a) m (is_nearer_in (board_over cells o t) es (spot a u m)) j (mark_at k.marks j)) (mark_at k.marks j)).until ≡ (mark_at k.marks j).until
    bounds : (j b v : ℕ) → IsBounded (board_over cells o t) t.entries (mark_at k.marks j).bound (mark_at k.marks j).groups (turn_at k.turn_of b v) (b, v) j
        → IsBounded (board_over cells o t) es (cond x (after_taking t.cluster (group_of (as_known t.jobs) a) m (is_nearer_in (board_over cells o t) es (spot a u m)) j (mark_at k.marks j)) (mark_at k.marks j)).bound
        (cond x (after_taking t.cluster (group_of (as_known t.jobs) a) m (is_nearer_in (board_over cells o t) es (spot a u m)) j (mark_at k.marks j)) (mark_at k.marks j)).groups (turn_at k.turn_of b v) (b, v) j
    later : (j b v turn : ℕ) → IsBounded (board_over cells o t) t.entries (mark_at k.marks j).bound no_groups turn (b, v) j
        → IsBounded (board_over cells o t) es (cond x (after_taking t.cluster (group_of (as_known t.jobs) a) m (is_nearer_in (board_over cells o t) es (spot a u m)) j (mark_at k.marks j)) (mark_at k.marks j)).bound no_groups turn (b, v) j

  kept_set : (t : TableRecord) (a u m number : ℕ) → T (is_sorted spot_cmp t.entries) → a < 256 → u < 8 → length k.held ≡ 2048
      → MarksTold (record t { entries = set_count spot_cmp t.entries (spot a u m) number }) a u m
      → IsKept cells o line turns k t
      → IsKept cells o line' turns (record k { marks = marks; held = set k.held (a * 8 + u) (held (set_count spot_cmp t.entries (spot a u m) number) a u) }) (record t { entries = set_count spot_cmp t.entries (spot a u m) number })
  kept_set t a u m number sorted la lu long told h = record {
    bounds = λ j b v opened has lt.
        let f = fell (nat_lt (held es a u) (get_or k.held (a * 8 + u) 0)) refl in
        let is = told j (there j opened) in
        let e = f.until j in
        let old = h.bounds j b v opened (fewer (b, v) has) (subst (λ x. turn_at k.turn_of b v < x) (ap (λ (x : MarkRecord). x.until) is ∙ e) lt) in
        subst (λ (x : MarkRecord). IsBounded (board_over cells o t) es x.bound x.groups (turn_at k.turn_of b v) (b, v) j) (sym is) (f.bounds j b v old);
    later = λ j opened b v turn here ge lt.
        let f = fell (nat_lt (held es a u) (get_or k.held (a * 8 + u) 0)) refl in
        let is = told j (there j opened) in
        let e = f.until j in
        let old = h.later j opened b v turn here ge (subst (λ x. turn < x) (ap (λ (x : MarkRecord). x.until) is ∙ e) lt) in
        subst (λ (x : MarkRecord). IsBounded (board_over cells o t) es x.bound no_groups turn (b, v) j) (sym is) (f.later j b v turn old);
    rises = rising (λ (p : Pair). turn_at k.turn_of p.0 p.1) line' rises;
    below = λ b v has. h.below b v (fewer (b, v) has);
    held = λ b v lb lv. one_set k.held (a * 8 + u) (b * 8 + v) (held es a u) 0 (omega (arith, la, lu, long)) ∙ elim (nat_eq a b && nat_eq u v) as (λ x. (nat_eq a b && nat_eq u v) ≡ x → cond (nat_eq (a * 8 + u) (b * 8 + v)) (held es a u) (get_or k.held (b * 8 + v) 0) ≡ held es b v) [
      | true ↦ λ x.
          let both = both_true (nat_eq a b) (nat_eq u v) x in
          let ea = number_is a b both.0 in let eu = number_is u v both.1 in
          subst (λ y. cond (nat_eq (a * 8 + u) (y * 8 + v)) (held es a u) (get_or k.held (y * 8 + v) 0) ≡ held es y v) ea
          (subst (λ y. cond (nat_eq (a * 8 + u) (a * 8 + y)) (held es a u) (get_or k.held (a * 8 + y) 0) ≡ held es a y) eu (ap (λ y. cond y (held es a u) (get_or k.held (a * 8 + u) 0)) (nat_itself (a * 8 + u))))
      | false ↦ λ x. ap (λ y. cond y (held es a u) (get_or k.held (b * 8 + v) 0)) (slots a u b v lu lv x) ∙ h.held b v lb lv ∙ sym (other b v x)
    ] refl;
  }
    where
      es : Table
      es = set_count spot_cmp t.entries (spot a u m) number

      held_then : (b v : ℕ) → held es b v + cond (nat_eq a b && nat_eq u v) (count spot_cmp t.entries (spot a u m)) 0 ≡ held t.entries b v + cond (nat_eq a b && nat_eq u v) number 0
      held_then b v = sum_set (λ s n. cond (nat_eq s.job b && nat_eq s.unit v) n 0) (λ s. zero_either (nat_eq s.job b && nat_eq s.unit v)) (spot a u m) number t.entries sorted

      other : (b v : ℕ) → (nat_eq a b && nat_eq u v) ≡ false → held es b v ≡ held t.entries b v
      other b v x =
          let e = held_then b v in
          let y = ap (λ z. cond z (count spot_cmp t.entries (spot a u m)) 0) x in
          let w = ap (λ z. cond z number 0) x in
          omega (arith, e, y, w)

      itself : (nat_eq a a && nat_eq u u) ≡ true
      itself = and_true (nat_eq a a) (nat_eq u u) (nat_itself a) (nat_itself u)

      more : nat_lt (held es a u) (get_or k.held (a * 8 + u) 0) ≡ false → count spot_cmp t.entries (spot a u m) ≤ number
      more x =
          let e = held_then a u in
          let y = ap (λ z. cond z (count spot_cmp t.entries (spot a u m)) 0) itself in
          let w = ap (λ z. cond z number 0) itself in
          let was = h.held a u la lu in
          let le : get_or k.held (a * 8 + u) 0 ≤ held es a u = grind (arith, nat_tests, x) in
          omega (arith, e, y, w, was, le)

      fell : (x : Bool) → nat_lt (held es a u) (get_or k.held (a * 8 + u) 0) ≡ x
          → IsTold t es a u m x
      fell true e = record {
        until = λ j. same_until t.cluster (group_of (as_known t.jobs) a) m (is_nearer_in (board_over cells o t) es (spot a u m)) j (mark_at k.marks j);
        bounds = λ j b v old. taken_bounds t.entries (spot a u m) number sorted (board_over cells o t) (b, v) j (mark_at k.marks j) (turn_at k.turn_of b v) old;
        later = λ j b v turn old. taken_later t.entries (spot a u m) number sorted (board_over cells o t) (b, v) j (mark_at k.marks j) turn old;
      }
      fell false e = record {
        until = λ j. refl;
        bounds = λ j b v old. bounded_later (board_over cells o t) (board_over cells o t) t.entries es (b, v) j (granted_later t.entries (spot a u m) number sorted (more e) (board_over cells o t) (b, v) j) (mark_at k.marks j).bound (mark_at k.marks j).groups (turn_at k.turn_of b v) old;
        later = λ j b v turn old. bounded_later (board_over cells o t) (board_over cells o t) t.entries es (b, v) j (granted_later t.entries (spot a u m) number sorted (more e) (board_over cells o t) (b, v) j) (mark_at k.marks j).bound no_groups turn old;
      }

  -- the change as it is told
  pub kept_told : (before after : TableRecord) (a u m : ℕ) → IsSetFrom before after (spot a u m) → a < 256 → u < 8 → length k.held ≡ 2048 → MarksTold after a u m → IsKept cells o line turns k before
      → IsKept cells o line' turns (record k { marks = marks; held = set k.held (a * 8 + u) (held after.entries a u) }) after
  kept_told before after a u m is la lu long told h =
      subst (λ (t : TableRecord). MarksTold t a u m → IsKept cells o line' turns (record k { marks = marks; held = set k.held (a * 8 + u) (held t.entries a u) }) t) (sym is.is)
      (λ told. kept_set before a u m is.number is.sound.counts.sorted la lu long told h) told

-- ---- what is asked, and what is open
module _ (cells cells' : List (List Cell)) (o o' : List Bool) (line : List Pair) (turns : ℕ) (k : KeptRecord) (t : TableRecord) where
  -- each mark is reset, or lowered where no machine is opened to a unit
  pub kept_demanded : (marks : List MarkRecord)
      → ((m : ℕ) → get_or o' m false ≡ true → (mark_at marks m ≡ reset_mark (mark_at k.marks m).until) ⊎ ((mark_at marks m ≡ lowered_mark (mark_at k.marks m)) × ((a u : ℕ) → is_open_to cells' o' a u m ≡ true → is_open_to cells o a u m ≡ true)))
      → ((m : ℕ) → get_or o' m false ≡ true → get_or o m false ≡ true) → ((a : ℕ) → length (get_or cells' a []) ≡ length (get_or cells a [])) → IsKept cells o line turns k t → IsKept cells' o' line turns (record k { marks = marks }) t
  kept_demanded marks is was same h = record {
    bounds = λ m a u opened has lt. elim (is m opened) [
      | inl new ↦ subst (λ (x : MarkRecord). IsBounded (board_over cells' o' t) t.entries x.bound x.groups (turn_at k.turn_of a u) (a, u) m) (sym new) (reset_bounds (board_over cells' o' t) t.entries (reset_mark (mark_at k.marks m).until).groups (turn_at k.turn_of a u) (a, u) m)
      | inr low ↦ subst (λ (x : MarkRecord). IsBounded (board_over cells' o' t) t.entries x.bound x.groups (turn_at k.turn_of a u) (a, u) m) (sym low.0)
          (lowered_later (board_over cells o t) (board_over cells' o' t) t.entries t.entries (a, u) m (mark_at k.marks m).bound (mark_at k.marks m).groups (turn_at k.turn_of a u) refl
          (accepts_less (is_open_to cells o a u m) (nat_lt (held_on t.entries a u m) (most_of (as_known t.jobs) a u)) (is_open_to cells' o' a u m) (nat_lt (held_on t.entries a u m) (most_of (as_known t.jobs) a u)) (low.1 a u) (λ x. x)) (λ r. r) (λ r. r)
          (h.bounds m a u (was m opened) has (subst (λ (x : MarkRecord). turn_at k.turn_of a u < x.until) low.0 lt)))
    ];
    later = λ m opened a u turn here ge lt. elim (is m opened) [
      | inl new ↦ subst (λ (x : MarkRecord). IsBounded (board_over cells' o' t) t.entries x.bound no_groups turn (a, u) m) (sym new) (reset_bounds (board_over cells' o' t) t.entries no_groups turn (a, u) m)
      | inr low ↦ subst (λ (x : MarkRecord). IsBounded (board_over cells' o' t) t.entries x.bound no_groups turn (a, u) m) (sym low.0)
          (lowered_later (board_over cells o t) (board_over cells' o' t) t.entries t.entries (a, u) m (mark_at k.marks m).bound no_groups turn refl
          (accepts_less (is_open_to cells o a u m) (nat_lt (held_on t.entries a u m) (most_of (as_known t.jobs) a u)) (is_open_to cells' o' a u m) (nat_lt (held_on t.entries a u m) (most_of (as_known t.jobs) a u)) (low.1 a u) (λ x. x)) (λ r. r) (λ r. r)
          (h.later m (was m opened) a u turn (subst (λ n. u < n) (same a) here) ge (subst (λ (x : MarkRecord). turn < x.until) low.0 lt)))
    ];
    rises = h.rises;
    below = h.below;
    held = h.held;
  }

-- a mark that notes no group any more, where each pair of the line is allowed
pub kept_forgotten : (cells : List (List Cell)) (o : List Bool) (line : List Pair) (turns : ℕ) (k : KeptRecord) (t : TableRecord) (marks : List MarkRecord)
    → ((m : ℕ) → get_or o m false ≡ true → (mark_at marks m ≡ mark_at k.marks m) ⊎ IsForgotten t line (mark_at k.marks m) (mark_at marks m)) → IsKept cells o line turns k t → IsKept cells o line turns (record k { marks = marks }) t
kept_forgotten cells o line turns k t marks is h = record {
  bounds = λ m a u opened has lt. elim (is m opened) [
    | inl same ↦ subst (λ (x : MarkRecord). IsBounded (board_over cells o t) t.entries x.bound x.groups (turn_at k.turn_of a u) (a, u) m) (sym same) (h.bounds m a u opened has (subst (λ (x : MarkRecord). turn_at k.turn_of a u < x.until) same lt))
    | inr new ↦ subst (λ (x : MarkRecord). IsBounded (board_over cells o t) t.entries x.bound x.groups (turn_at k.turn_of a u) (a, u) m) (sym new.is)
        (allowed_bounds (board_over cells o t) t.entries (a, u) m (mark_at k.marks m).bound (mark_at k.marks m).groups no_groups (turn_at k.turn_of a u) (new.allowed a u has)
        (h.bounds m a u opened has (subst (λ (x : MarkRecord). turn_at k.turn_of a u < x.until) new.is lt)))
  ];
  later = λ m opened. elim (is m opened) [
    | inl same ↦ subst (λ (x : MarkRecord). AreBoundedLater (board_over cells o t) t.entries cells turns x m) (sym same) (h.later m opened)
    | inr new ↦ subst (λ (x : MarkRecord). AreBoundedLater (board_over cells o t) t.entries cells turns x m) (sym new.is) (h.later m opened)
  ];
  rises = h.rises;
  below = h.below;
  held = h.held;
}

pub forgotten_key : (turns : ℕ) (t : TableRecord) (line : List Pair) (k k' : MarkRecord) → (k' ≡ k) ⊎ IsForgotten t line k k' → key_of k' turns ≡ key_of k turns
forgotten_key turns t line k k' (inl same) = ap (λ x. key_of x turns) same
forgotten_key turns t line k k' (inr new) = ap (λ x. key_of x turns) new.is

pub told_asked : (es : List (Key × ℕ)) (xs : List Cell) (m : ℕ) (k k' : MarkRecord) (P : Type 0) → IsAsked es xs m k k' → (AvoidsStill es xs m → P) → (k' ≡ reset_mark k.until) ⊎ ((k' ≡ lowered_mark k) × P)
told_asked es xs m k k' P a f = elim a.lifted as (λ b. a.lifted ≡ b → (k' ≡ reset_mark k.until) ⊎ ((k' ≡ lowered_mark k) × P)) [
  | true ↦ λ e. inl (a.is ∙ ap (λ b. cond b (reset_mark k.until) (lowered_mark k)) e)
  | false ↦ λ e. inr (a.is ∙ ap (λ b. cond b (reset_mark k.until) (lowered_mark k)) e, f (a.none e))
] refl

-- a machine is opened or closed, and its mark is as at the start
pub kept_opened : (cells : List (List Cell)) (o o' : List Bool) (line : List Pair) (turns : ℕ) (k : KeptRecord) (t : TableRecord) (marks : List MarkRecord)
    → ((m : ℕ) → get_or o' m false ≡ true → (mark_at marks m ≡ reset_mark 0) ⊎ ((get_or o m false ≡ true) × (mark_at marks m ≡ mark_at k.marks m))) → IsKept cells o line turns k t → IsKept cells o' line turns (record k { marks = marks }) t
kept_opened cells o o' line turns k t marks is h = record {
  bounds = λ m a u opened has lt. elim (is m opened) [
    | inl new ↦ subst (λ (x : MarkRecord). IsBounded (board_over cells o' t) t.entries x.bound x.groups (turn_at k.turn_of a u) (a, u) m) (sym new) (reset_bounds (board_over cells o' t) t.entries (reset_mark 0).groups (turn_at k.turn_of a u) (a, u) m)
    | inr old ↦ subst (λ (x : MarkRecord). IsBounded (board_over cells o' t) t.entries x.bound x.groups (turn_at k.turn_of a u) (a, u) m) (sym old.1)
        (bounded_later (board_over cells o t) (board_over cells o' t) t.entries t.entries (a, u) m (still m a u old.0) (mark_at k.marks m).bound (mark_at k.marks m).groups (turn_at k.turn_of a u) (h.bounds m a u old.0 has (subst (λ (x : MarkRecord). turn_at k.turn_of a u < x.until) old.1 lt)))
  ];
  later = λ m opened a u turn here ge lt. elim (is m opened) [
    | inl new ↦ subst (λ (x : MarkRecord). IsBounded (board_over cells o' t) t.entries x.bound no_groups turn (a, u) m) (sym new) (reset_bounds (board_over cells o' t) t.entries no_groups turn (a, u) m)
    | inr old ↦ subst (λ (x : MarkRecord). IsBounded (board_over cells o' t) t.entries x.bound no_groups turn (a, u) m) (sym old.1)
        (bounded_later (board_over cells o t) (board_over cells o' t) t.entries t.entries (a, u) m (still m a u old.0) (mark_at k.marks m).bound no_groups turn (h.later m old.0 a u turn here ge (subst (λ (x : MarkRecord). turn < x.until) old.1 lt)))
  ];
  rises = h.rises;
  below = h.below;
  held = h.held;
}
  where
    still : (m a u : ℕ) → get_or o m false ≡ true → NoEarlier (board_over cells o t) (board_over cells o' t) t.entries t.entries (a, u) m
    still m a u opened = record {
      priority = refl;
      group = refl;
      accepts = accepts_less (is_open_to cells o a u m) (nat_lt (held_on t.entries a u m) (most_of (as_known t.jobs) a u)) (is_open_to cells o' a u m) (nat_lt (held_on t.entries a u m) (most_of (as_known t.jobs) a u)) (λ e. and_true (get_or o m false) _ opened (both_true (get_or o' m false) _ e).1) (λ x. x);
      room = λ r. r;
      allowed = λ r. r;
      level = omega arith;
    }

pub open_there : (o : List Bool) (n : ℕ) → length o ≡ n → (j : ℕ) → get_or o j false ≡ true → j < n
open_there o n e j opened = elim (cases_lt j n) [
  | inl lt ↦ lt
  | inr ge ↦ let f : true ≡ false = sym opened ∙ get_or-eq_default o false (omega (arith, e, ge)) in cc
]
