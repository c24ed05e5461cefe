-- The better of two ranks, bounds on one machine, and what they say of its pairs.
use Rattle.std.proofs.Common.{◌≡◌, ℕ, zero, suc, ◌+◌, ◌-◌, ◌<◌, ◌≤◌, Bool, true, false, cond, not, nat_eq, nat_lt, List, [], ◌∷◌, ◌++◌, length, get_or, set, map, slice_get, refl, sym, ◌∙◌, ap, subst, arith, inl, inr, Option, None, Some}
use Rattle.std.specs.Prelude.{◌&&◌, ◌||◌, ◌==◌, replicate, is_some}
use Rattle.std.specs.Ordering.{nat_cmp, is_lt, ordering_then, ordering_reverse}
use Rattle.std.specs.Cmp.{IsTotalOrder, nat_cmp_total}
use Rattle.std.specs.declared.cmp.Ordering.{Ordering}
use Rattle.std.specs.declared.cmp.Ordering.TheVariants.{Less, Equal, Greater}
use Rattle.std.specs.Cmp.Lexicographic.{slice_cmp, lists_total}
use Rattle.std.proofs.lemmas.Bool.{cases_lt}
use Rattle.std.proofs.lemmas.Bool.Decides.{nat_tests}
use Rattle.std.proofs.lemmas.List.{set_past, map-set, length-map, get_or-map}
use Rattle.fuxi_terms.specs.Jobs.{most_of}
use Rattle.fuxi_terms.specs.Keys.{Pair}
use Rattle.fuxi_terms.specs.Tables.{held_on, Table}
use Rattle.fuxi_terms.specs.TallyKeys.{avoid_key}
use Rattle.fuxi_terms.proofs.Booleans.{both_true, and_true, nat_itself}
use Rattle.fuxi_terms.proofs.Lookups.{none_is}
use Rattle.grant_table.specs.GrantTables.{TableRecord, as_known}
use Rattle.spec_roles.specs.Masters.{level_of}
use Rattle.spec_roles.specs.Placing.{Board, has_pair, accepts_in, has_room_in, is_allowed_in, may_grow_in, placeable_in}
use Rattle.place_pass.specs.declared.marks.mark.Mark.{Mark}
use Rattle.place_pass.specs.declared.search.BestFound.{BestFound}
use Rattle.place_pass.specs.Bounds.{MarkRecord, mark_of, mark_at, no_mark, rank_of, key_of, zero_rank, rank_at, rank_on, comes_before, is_bound, IsBounded}
use Rattle.place_pass.specs.Cells.{Cell, asks_in}
use Rattle.place_pass.specs.SearchCounts.{is_unsettled_by}
use Rattle.place_pass.specs.WaitingLines.{same_pair}
use Rattle.place_pass.specs.Placers.{board_over}
use Rattle.place_pass.specs.Candidates.{found_rank, IsLeast, AreBounded, is_first}
use Rattle.place_pass.proofs.BoundsLemmas.{zero_bounds}
use Rattle.place_pass.proofs.WaitingLinesLemmas.{pair_is}
use Rattle.fuxi_terms.proofs.IndexedLists.{one_set}
use Rattle.fuxi_terms.proofs.NumberOrders.{compared_itself, is_less}

pub order : IsTotalOrder (slice_cmp nat_cmp)
order = lists_total nat_cmp_total

-- what comes before b comes before each that does not
pub before_those : (r x b : List ℕ) → comes_before x b ≡ false → comes_before r b ≡ true → comes_before r x ≡ true
before_those r x b worse sooner = by (slice_cmp nat_cmp x b) refl worse
  where
    less : slice_cmp nat_cmp r b ≡ Less
    less = is_less (slice_cmp nat_cmp r b) sooner

    by : (o : Ordering) → slice_cmp nat_cmp x b ≡ o → is_lt o ≡ false → comes_before r x ≡ true
    by Less e f = cc
    by Equal e f = ap is_lt (order.antisymm r x ∙ ap ordering_reverse (order.congr x b r e) ∙ sym (order.antisymm r b) ∙ less)
    by Greater e f = ap is_lt (order.trans r b x less (order.antisymm b x ∙ ap ordering_reverse e))

-- a better rank bounds what the other bounds
pub kept_better : (x b r : List ℕ) → comes_before x b ≡ true → not (comes_before r b) ≡ true → not (comes_before r x) ≡ true
kept_better x b r better h = elim (comes_before r x) as (λ t. comes_before r x ≡ t → not t ≡ true) [
  | true ↦ λ t. let e : comes_before r b ≡ true = ap is_lt (order.trans r x b (is_less _ t) (is_less _ better)) in sym (ap not e) ∙ h
  | false ↦ λ _. refl
] refl

pub kept_worse : (x b r : List ℕ) → comes_before x b ≡ false → not (comes_before r x) ≡ true → not (comes_before r b) ≡ true
kept_worse x b r worse h = elim (comes_before r b) as (λ t. comes_before r b ≡ t → not t ≡ true) [
  | true ↦ λ t. let e = before_those r x b worse t in sym (ap not e) ∙ h
  | false ↦ λ _. refl
] refl

-- a number decides where it differs, and else what stands behind it
pub first_decides : (x y : ℕ) (rest : Bool) (r s : List ℕ) → rest ≡ comes_before r s → (nat_lt x y || (nat_eq x y && rest)) ≡ comes_before (x ∷ r) (y ∷ s)
first_decides x y rest r s e = elim (nat_lt x y) as (λ t. (t || (nat_eq x y && rest)) ≡ is_lt (ordering_then (cond t Less (cond (x == y) Equal Greater)) (slice_cmp nat_cmp r s))) [
  | true ↦ refl
  | false ↦ elim (nat_eq x y) as (λ t. (t && rest) ≡ is_lt (ordering_then (cond t Equal Greater) (slice_cmp nat_cmp r s))) [
    | true ↦ e
    | false ↦ refl
  ]
]

-- the same number at the end changes nothing
with_last : (m : ℕ) (r s : List ℕ) → length r ≡ length s → not (comes_before r s) ≡ true → not (comes_before (r ++ m ∷ []) (s ++ m ∷ [])) ≡ true
with_last m [] [] l h = ap (λ o. not (is_lt (ordering_then o Equal))) (compared_itself m)
with_last m [] (y ∷ ys) l h = absurd (omega (arith, l))
with_last m (x ∷ xs) [] l h = absurd (omega (arith, l))
with_last m (x ∷ xs) (y ∷ ys) l h = elim (nat_cmp x y) as (λ o. not (is_lt (ordering_then o (slice_cmp nat_cmp xs ys))) ≡ true → not (is_lt (ordering_then o (slice_cmp nat_cmp (xs ++ m ∷ []) (ys ++ m ∷ [])))) ≡ true) [
  | Less ↦ λ h. h
  | Equal ↦ λ h. with_last m xs ys (omega (arith, l)) h
  | Greater ↦ λ h. h
] h

pub with_machine : (b r : List ℕ) (m : ℕ) → length r ≡ length b → is_bound (Some b) r ≡ true → is_bound (Some (b ++ m ∷ [])) (r ++ m ∷ []) ≡ true
with_machine b r m l h = with_last m r b l h

-- where a machine is passed over, the best so far bounds what its bound bounds
pub passed_over : (best : Option BestFound) (key r : List ℕ) (m : ℕ) → length r ≡ length key → is_first best key m ≡ false → is_bound (Some key) r ≡ true → is_bound (found_rank best) (r ++ m ∷ []) ≡ true
passed_over None key r m l e h = cc
passed_over (Some x) key r m l e h = kept_worse (key ++ m ∷ []) (rank_of x.rank ++ x.pick.machine.0 ∷ []) (r ++ m ∷ []) e (with_last m r key l h)

-- a rank bounds itself
pub self_bound : (r : List ℕ) → is_bound (Some r) r ≡ true
self_bound r = by (slice_cmp nat_cmp r r) (order.antisymm r r)
  where
    by : (o : Ordering) → o ≡ ordering_reverse o → not (is_lt o) ≡ true
    by Less e = let f : is_lt Less ≡ is_lt Greater = ap is_lt e in let g : true ≡ false = f in sym g
    by Equal e = refl
    by Greater e = refl

-- ---- what is said of one pair
wider : (x g a x' g' : Bool) → (x ≡ true → x' ≡ true) → (g ≡ true → g' ≡ true) → (x || (g && not a)) ≡ true → (x' || (g' && not a)) ≡ true
wider x g a true g' f h e = refl
wider true g a false g' f h e = let t = f refl in cc
wider false true a false true f h e = e
wider false true a false false f h e = let t = h refl in cc
wider false false a false g' f h e = cc

pub bounded_wider : (b : Board) (es : Table) (bound bound' : Option (List ℕ)) (groups groups' : List Bool) (t : ℕ) (q : Pair) (m : ℕ)
    → ((r : List ℕ) → is_bound bound r ≡ true → is_bound bound' r ≡ true) → (get_or groups (b.groups q.0) false ≡ true → get_or groups' (b.groups q.0) false ≡ true) → IsBounded b es bound groups t q m → IsBounded b es bound' groups' t q m
bounded_wider b es bound bound' groups groups' t q m f g h = record {
  bounded = λ u r. wider (is_bound bound (rank_at b es t q m)) (get_or groups (b.groups q.0) false) (is_allowed_in b.cluster b.groups b.sizes es q.0 q.1)
      (is_bound bound' (rank_at b es t q m)) (get_or groups' (b.groups q.0) false) (f (rank_at b es t q m)) g (h.bounded u r);
}

pub still_noted : (groups : List Bool) (g k : ℕ) → get_or groups k false ≡ true → get_or (set groups g true) k false ≡ true
still_noted groups g k e = elim (cases_lt g (length groups)) [
  | inl lt ↦ one_set groups g k true false lt ∙ elim (nat_eq g k) as (λ t. cond t true (get_or groups k false) ≡ true) [ true ↦ refl | false ↦ e ]
  | inr ge ↦ ap (λ xs. get_or xs k false) (set_past groups g true ge) ∙ e
]

pub now_noted : (groups : List Bool) (g : ℕ) → g < length groups → get_or (set groups g true) g false ≡ true
now_noted groups g lt = one_set groups g g true false lt ∙ ap (λ t. cond t true (get_or groups g false)) (nat_itself g)

-- a pair that does not fit, one that is noted, and one that is bounded
pub bounded_apart_from : (b : Board) (es : Table) (bound : Option (List ℕ)) (groups : List Bool) (t : ℕ) (q : Pair) (m : ℕ) → (accepts_in b es q.0 q.1 m && has_room_in b.cluster b.sizes es q.0 q.1 m) ≡ false → IsBounded b es bound groups t q m
bounded_apart_from b es bound groups t q m out = record { bounded = λ u r. let f : false ≡ true = sym out ∙ and_true (accepts_in b es q.0 q.1 m) _ u r in cc }

pub bounded_noted : (b : Board) (es : Table) (bound : Option (List ℕ)) (groups : List Bool) (t : ℕ) (q : Pair) (m : ℕ) → get_or groups (b.groups q.0) false ≡ true → is_allowed_in b.cluster b.groups b.sizes es q.0 q.1 ≡ false → IsBounded b es bound groups t q m
bounded_noted b es bound groups t q m g refused = record { bounded = λ u r. last (is_bound bound (rank_at b es t q m)) (get_or groups (b.groups q.0) false) (is_allowed_in b.cluster b.groups b.sizes es q.0 q.1) g refused }
  where
    last : (x g a : Bool) → g ≡ true → a ≡ false → (x || (g && not a)) ≡ true
    last true g a e f = refl
    last false true true e f = cc
    last false true false e f = refl
    last false false a e f = cc

pub bounded_by : (b : Board) (es : Table) (bound : Option (List ℕ)) (groups : List Bool) (t : ℕ) (q : Pair) (m : ℕ) → is_bound bound (rank_at b es t q m) ≡ true → IsBounded b es bound groups t q m
bounded_by b es bound groups t q m e = record { bounded = λ u r. ap (λ x. x || (get_or groups (b.groups q.0) false && not (is_allowed_in b.cluster b.groups b.sizes es q.0 q.1))) e }

-- the bound of a placeable pair
pub placeable_bound : (b : Board) (es : Table) (bound : Option (List ℕ)) (groups : List Bool) (t : ℕ) (q : Pair) (m : ℕ) → IsBounded b es bound groups t q m → placeable_in b es q.0 q.1 m ≡ true → is_bound bound (rank_at b es t q m) ≡ true
placeable_bound b es bound groups t q m h p =
    let x = both_true (may_grow_in b es q.0 q.1) _ p in
    let y = both_true (accepts_in b es q.0 q.1 m) (has_room_in b.cluster b.sizes es q.0 q.1 m) x.1 in
    only (is_bound bound (rank_at b es t q m)) (get_or groups (b.groups q.0) false) (is_allowed_in b.cluster b.groups b.sizes es q.0 q.1) (allowed b.serving _ _ x.0) (h.bounded y.0 y.1)
  where
    allowed : (s w a : Bool) → (s && (w && a)) ≡ true → a ≡ true
    allowed true true a e = e
    allowed true false a e = cc
    allowed false w a e = cc

    only : (x g a : Bool) → a ≡ true → (x || (g && not a)) ≡ true → x ≡ true
    only true g a f e = refl
    only false true true f e = cc
    only false true false f e = cc
    only false false a f e = cc

-- ---- a machine
-- the bound of all pairs: of those that were not looked at it is 0
pub key_bounds : (b : Board) (es : Table) (f : Pair → ℕ) (line : List Pair) (k : MarkRecord) (m turns : ℕ) → ((q : Pair) → has_pair q line ≡ true → f q < turns) → AreBounded b es f line k m
    → (q : Pair) → has_pair q line ≡ true → IsBounded b es (key_of k turns) k.groups (f q) q m
key_bounds b es f line k m turns below h q has = elim (nat_lt k.until turns) as (λ t. nat_lt k.until turns ≡ t → IsBounded b es (cond t (Some zero_rank) k.bound) k.groups (f q) q m) [
  | true ↦ λ _. bounded_by b es (Some zero_rank) k.groups (f q) q m (zero_bounds (9 - b.priorities q.0 q.1) (level_of b.cluster b.asks es q.0 q.1 m) (f q))
  | false ↦ λ t. let lt = below q has in let le : turns ≤ k.until = grind (arith, nat_tests, t) in h.bounded q has (omega (arith, lt, le))
] refl

pub least_passed : (b : Board) (es : Table) (f : Pair → ℕ) (line : List Pair) (m : ℕ) (best : Option BestFound) (key : List ℕ) (groups : List Bool) → length key ≡ 3 → is_first best key m ≡ false → ((q : Pair) → has_pair q line ≡ true → IsBounded b es (Some key) groups (f q) q m)
    → IsLeast b es f line (found_rank best) m
least_passed b es f line m best key groups three passed h = record { least = λ q has p. passed_over best key (rank_at b es (f q) q m) m (sym three) passed (placeable_bound b es (Some key) groups (f q) q m (h q has) p) }

-- where nothing is placeable on the machine, any rank will do
pub least_none : (b : Board) (es : Table) (f : Pair → ℕ) (line : List Pair) (m : ℕ) (best : Option (List ℕ)) (groups : List Bool) → ((q : Pair) → has_pair q line ≡ true → IsBounded b es None groups (f q) q m) → IsLeast b es f line best m
least_none b es f line m best groups h = record { least = λ q has p. let f : false ≡ true = placeable_bound b es None groups (f q) q m (h q has) p in cc }

pub least_closed : (b : Board) (es : Table) (f : Pair → ℕ) (line : List Pair) (m : ℕ) (best : Option (List ℕ)) → ((q : Pair) → accepts_in b es q.0 q.1 m ≡ false) → IsLeast b es f line best m
least_closed b es f line m best h = record {
  least = λ q has p. let x = both_true (may_grow_in b es q.0 q.1) _ p in let f : false ≡ true = sym (h q) ∙ (both_true (accepts_in b es q.0 q.1 m) (has_room_in b.cluster b.sizes es q.0 q.1 m) x.1).0 in cc;
}

-- a machine that is closed, or on which by its mark nothing is placeable
pub least_settled : (cells : List (List Cell)) (o : List Bool) (t : TableRecord) (f : Pair → ℕ) (line : List Pair) (k : MarkRecord) (m turns : ℕ) (best : Option (List ℕ)) → is_unsettled_by o k turns m ≡ false → ((q : Pair) → has_pair q line ≡ true → f q < turns)
    → (get_or o m false ≡ true → AreBounded (board_over cells o t) t.entries f line k m) → IsLeast (board_over cells o t) t.entries f line best m
least_settled cells o t f line k m turns best settled below h = elim (get_or o m false) as (λ x. get_or o m false ≡ x → (x && is_some (key_of k turns)) ≡ false → IsLeast (board_over cells o t) t.entries f line best m) [
  | true ↦ λ opened none. least_none (board_over cells o t) t.entries f line m best k.groups (λ q has. subst (λ b. IsBounded (board_over cells o t) t.entries b k.groups (f q) q m) (none_is (key_of k turns) none) (key_bounds (board_over cells o t) t.entries f line k m turns below (h opened) q has))
  | false ↦ λ closed _. least_closed (board_over cells o t) t.entries f line m best (λ q. ap (λ x. (x && not (nat_lt 0 (asks_in cells q.0 (avoid_key q.1 m)))) && nat_lt (held_on t.entries q.0 q.1 m) (most_of (as_known t.jobs) q.0 q.1)) closed)
] refl settled

pub settled_key : (opened : Bool) (b : Option (List ℕ)) → (opened && is_some b) ≡ false → opened ≡ true → b ≡ None
settled_key true None e o = refl
settled_key true (Some r) e o = cc
settled_key false b e o = cc

pub least_seen : (b : Board) (es : Table) (f : Pair → ℕ) (line : List Pair) (m : ℕ) (best : Option (List ℕ)) (key : List ℕ) (groups : List Bool) → length key ≡ 3 → ((r : List ℕ) → is_bound (Some (key ++ m ∷ [])) r ≡ true → is_bound best r ≡ true)
    → ((q : Pair) → has_pair q line ≡ true → IsBounded b es (Some key) groups (f q) q m) → IsLeast b es f line best m
least_seen b es f line m best key groups three more h = record {
  least = λ q has p. more (rank_on b es (f q) q m) (with_machine key (rank_at b es (f q) q m) m (sym three) (placeable_bound b es (Some key) groups (f q) q m (h q has) p));
}

pub record HasPlace (q : Pair) (line : List Pair) : Type 0 where
  pub place : ℕ
  pub at : slice_get line place ≡ Some q

pub place_of : (q : Pair) (line : List Pair) → has_pair q line ≡ true → HasPlace q line
place_of q [] e = cc
place_of q (x ∷ xs) e = elim (same_pair q x) as (λ t. same_pair q x ≡ t → (t || has_pair q xs) ≡ true → HasPlace q (x ∷ xs)) [
  | true ↦ λ t _. record { place = 0; at = ap Some (sym (pair_is q x t)) }
  | false ↦ λ _ e. let r = place_of q xs e in record { place = r.place + 1; at = ap (slice_get (x ∷ xs)) (let one : r.place + 1 ≡ suc r.place = omega arith in one) ∙ r.at }
] refl e

pub index_within : (xs : List Pair) (i : ℕ) (p : Pair) → slice_get xs i ≡ Some p → i < length xs
index_within [] i p e = cc
index_within (x ∷ xs) zero p e = omega arith
index_within (x ∷ xs) (suc i) p e = let r = index_within xs i p e in omega (arith, r)

pub same_place : (xs : List Pair) (i j : ℕ) (p q : Pair) → i ≡ j → slice_get xs i ≡ Some p → slice_get xs j ≡ Some q → q ≡ p
same_place xs i j p q same e g = let o : Some q ≡ Some p = sym g ∙ ap (slice_get xs) (sym same) ∙ e in cc

-- one mark is written
pub marks_set : (marks : List Mark) (m : ℕ) (x : Mark) (j : ℕ) → m < length marks → mark_at (map mark_of (set marks m x)) j ≡ cond (nat_eq m j) (mark_of x) (mark_at (map mark_of marks) j)
marks_set marks m x j lt = ap (λ xs. get_or xs j no_mark) (map-set mark_of marks m x) ∙ one_set (map mark_of marks) m j (mark_of x) no_mark (let n = length-map marks mark_of in omega (arith, n, lt))

pub mark_read : (marks : List Mark) (n : ℕ) (x : Mark) → n < length marks → x ≡ get_or marks n x → mark_of x ≡ mark_at (map mark_of marks) n
mark_read marks n x lt e = ap mark_of e ∙ sym (get_or-map mark_of marks n x no_mark lt)

pub marks_repeated : (n : ℕ) (x : Mark) → map mark_of (replicate n x) ≡ replicate n (mark_of x)
marks_repeated zero x = refl
marks_repeated (suc n) x = ap (λ xs. mark_of x ∷ xs) (marks_repeated n x)
