-- What a mark says of a pair, and what keeps it.
use Rattle.std.proofs.Common.{◌≡◌, ℕ, zero, suc, ◌-◌, ◌<◌, ◌≤◌, Bool, true, false, cond, not, nat_lt, List, [], ◌∷◌, get_or, refl, sym, ◌∙◌, ap, subst, arith, inl, inr, Option, None, Some}
use Rattle.std.specs.Prelude.{◌&&◌, ◌||◌}
use Rattle.std.specs.Ordering.{nat_cmp, is_lt, ordering_then}
use Rattle.std.specs.declared.cmp.Ordering.TheVariants.{Less, Equal, Greater}
use Rattle.std.specs.Cmp.Lexicographic.{slice_cmp}
use Rattle.std.proofs.lemmas.Bool.{cases_lt}
use Rattle.std.proofs.lemmas.Bool.Decides.{nat_tests}
use Rattle.fuxi_terms.specs.Keys.{Pair}
use Rattle.fuxi_terms.proofs.Booleans.{both_true, and_true, or_left}
use Rattle.fuxi_terms.specs.Tables.{Table}
use Rattle.spec_roles.specs.Masters.{level_of}
use Rattle.spec_roles.specs.Placing.{Board, accepts_in, has_room_in, is_allowed_in}
use Rattle.place_pass.specs.Bounds.{MarkRecord, zero_rank, rank_at, comes_before, is_bound, key_of, limited_mark, IsBounded, lowered}
use Rattle.fuxi_terms.proofs.NumberOrders.{compared_less, compared_greater}

-- ---- ranks
same_first : (x : ℕ) (r s b : List ℕ) → ((c : List ℕ) → not (comes_before r c) ≡ true → not (comes_before s c) ≡ true) → not (comes_before (x ∷ r) b) ≡ true → not (comes_before (x ∷ s) b) ≡ true
same_first x r s [] h e = refl
same_first x r s (y ∷ ys) h e = elim (nat_cmp x y) as (λ o. not (is_lt (ordering_then o (slice_cmp nat_cmp r ys))) ≡ true → not (is_lt (ordering_then o (slice_cmp nat_cmp s ys))) ≡ true) [
  | Less ↦ λ e. e
  | Equal ↦ λ e. h ys e
  | Greater ↦ λ e. e
] e

less_second : (v w : ℕ) (r b : List ℕ) → v ≤ w → not (comes_before (v ∷ r) b) ≡ true → not (comes_before (w ∷ r) b) ≡ true
less_second v w r [] le e = refl
less_second v w r (y ∷ ys) le e = elim (cases_lt y w) [
  | inl lt ↦ ap (λ o. not (is_lt (ordering_then o (slice_cmp nat_cmp r ys)))) (compared_greater w y lt)
  | inr ge ↦ elim (cases_lt v y) [
    | inl lt ↦ let f : false ≡ true = sym (ap (λ o. not (is_lt (ordering_then o (slice_cmp nat_cmp r ys)))) (compared_less v y lt)) ∙ e in cc
    | inr same ↦ let is : v ≡ w = omega (arith, le, ge, same) in subst (λ z. not (comes_before (z ∷ r) (y ∷ ys)) ≡ true) is e
  ]
]

-- a bound of a rank is one of the rank with a later level
pub bound_worse : (bound : Option (List ℕ)) (l v w t : ℕ) → v ≤ w → is_bound bound (l ∷ v ∷ t ∷ []) ≡ true → is_bound bound (l ∷ w ∷ t ∷ []) ≡ true
bound_worse None l v w t le e = e
bound_worse (Some b) l v w t le e = same_first l (v ∷ t ∷ []) (w ∷ t ∷ []) b (λ c. less_second v w (t ∷ []) c le) e

pub zero_bounds : (x y z : ℕ) → is_bound (Some zero_rank) (x ∷ y ∷ z ∷ []) ≡ true
zero_bounds (suc x) y z = ap (λ o. not (is_lt (ordering_then o (slice_cmp nat_cmp (y ∷ z ∷ []) (0 ∷ 0 ∷ []))))) (compared_greater (suc x) 0 (omega arith))
zero_bounds zero (suc y) z = ap (λ o. not (is_lt (ordering_then o (slice_cmp nat_cmp (z ∷ []) (0 ∷ []))))) (compared_greater (suc y) 0 (omega arith))
zero_bounds zero zero (suc z) = ap (λ o. not (is_lt (ordering_then o Equal))) (compared_greater (suc z) 0 (omega arith))
zero_bounds zero zero zero = refl

-- ---- a mark whose bound is 0 says nothing
pub reset_bounds : (b : Board) (es : Table) (groups : List Bool) (turn : ℕ) (p : Pair) (m : ℕ) → IsBounded b es (Some zero_rank) groups turn p m
reset_bounds b es groups turn p m = record { bounded = λ u r. ap (λ t. t || (get_or groups (b.groups p.0) false && not (is_allowed_in b.cluster b.groups b.sizes es p.0 p.1))) (zero_bounds (9 - b.priorities p.0 p.1) (level_of b.cluster b.asks es p.0 p.1 m) turn) }

-- ---- what leaves a pair as it was, or makes it come later
-- a machine that is open to a unit, on which it holds fewer than its greatest number
pub accepts_less : (p n p' n' : Bool) → (p' ≡ true → p ≡ true) → (n' ≡ true → n ≡ true) → (p' && n') ≡ true → (p && n) ≡ true
accepts_less p n p' n' h k e = let b = both_true p' n' e in and_true p n (h b.0) (k b.1)

pub record NoEarlier (b b' : Board) (es es' : Table) (p : Pair) (m : ℕ) : Type 0 where
  pub priority : b'.priorities p.0 p.1 ≡ b.priorities p.0 p.1
  pub group : b'.groups p.0 ≡ b.groups p.0
  pub accepts : accepts_in b' es' p.0 p.1 m ≡ true → accepts_in b es p.0 p.1 m ≡ true
  pub room : has_room_in b'.cluster b'.sizes es' p.0 p.1 m ≡ true → has_room_in b.cluster b.sizes es p.0 p.1 m ≡ true
  pub allowed : is_allowed_in b'.cluster b'.groups b'.sizes es' p.0 p.1 ≡ true → is_allowed_in b.cluster b.groups b.sizes es p.0 p.1 ≡ true
  pub level : level_of b.cluster b.asks es p.0 p.1 m ≤ level_of b'.cluster b'.asks es' p.0 p.1 m

still : (x g a x' g' a' : Bool) → (x || (g && not a)) ≡ true → (x ≡ true → x' ≡ true) → g' ≡ g → (a' ≡ true → a ≡ true) → (x' || (g' && not a')) ≡ true
still true g a true g' a' e f s h = refl
still true g a false g' a' e f s h = let t = f refl in cc
still false true false true g' a' e f s h = refl
still false true false false true false e f s h = refl
still false true false false true true e f s h = let t = h refl in cc
still false true false false false a' e f s h = cc
still false true true x' g' a' e f s h = cc
still false false a x' g' a' e f s h = cc

pub bounded_later : (b b' : Board) (es es' : Table) (p : Pair) (m : ℕ) → NoEarlier b b' es es' p m → (bound : Option (List ℕ)) (groups : List Bool) (turn : ℕ) → IsBounded b es bound groups turn p m → IsBounded b' es' bound groups turn p m
bounded_later b b' es es' p m n bound groups turn h = record {
  bounded = λ u r. still (is_bound bound (rank_at b es turn p m)) (get_or groups (b.groups p.0) false) (is_allowed_in b.cluster b.groups b.sizes es p.0 p.1)
      (is_bound bound (rank_at b' es' turn p m)) (get_or groups (b'.groups p.0) false) (is_allowed_in b'.cluster b'.groups b'.sizes es' p.0 p.1)
      (h.bounded (n.accepts u) (n.room r))
      (λ e. subst (λ x. is_bound bound ((9 - x) ∷ level_of b'.cluster b'.asks es' p.0 p.1 m ∷ turn ∷ []) ≡ true) (sym n.priority)
      (bound_worse bound (9 - b.priorities p.0 p.1) (level_of b.cluster b.asks es p.0 p.1 m) (level_of b'.cluster b'.asks es' p.0 p.1 m) turn n.level e))
      (ap (λ g. get_or groups g false) n.group) n.allowed;
}

-- without a bound nothing depends on the level, and with a lowered one nothing on anything
pub lowered_bounds : (b b' : Board) (es es' : Table) (p : Pair) (m : ℕ) (bound : Option (List ℕ)) (groups : List Bool) (turn : ℕ)
    → (accepts_in b' es' p.0 p.1 m ≡ true → accepts_in b es p.0 p.1 m ≡ true) → (has_room_in b'.cluster b'.sizes es' p.0 p.1 m ≡ true → has_room_in b.cluster b.sizes es p.0 p.1 m ≡ true)
    → get_or groups (b.groups p.0) false ≡ false → IsBounded b es bound groups turn p m → IsBounded b' es' (lowered bound) groups turn p m
lowered_bounds b b' es es' p m (Some x) groups turn u r g h = reset_bounds b' es' groups turn p m
lowered_bounds b b' es es' p m None groups turn u r g h = record {
  bounded = λ u' r'. let f : (get_or groups (b.groups p.0) false && not (is_allowed_in b.cluster b.groups b.sizes es p.0 p.1)) ≡ true = h.bounded (u u') (r r') in
      let t = (both_true (get_or groups (b.groups p.0) false) _ f).0 in let no : false ≡ true = sym g ∙ t in cc;
}

pub lowered_later : (b b' : Board) (es es' : Table) (p : Pair) (m : ℕ) (bound : Option (List ℕ)) (groups : List Bool) (turn : ℕ)
    → b'.groups p.0 ≡ b.groups p.0 → (accepts_in b' es' p.0 p.1 m ≡ true → accepts_in b es p.0 p.1 m ≡ true) → (has_room_in b'.cluster b'.sizes es' p.0 p.1 m ≡ true → has_room_in b.cluster b.sizes es p.0 p.1 m ≡ true)
    → (is_allowed_in b'.cluster b'.groups b'.sizes es' p.0 p.1 ≡ true → is_allowed_in b.cluster b.groups b.sizes es p.0 p.1 ≡ true) → IsBounded b es bound groups turn p m → IsBounded b' es' (lowered bound) groups turn p m
lowered_later b b' es es' p m (Some x) groups turn same u r allowed h = reset_bounds b' es' groups turn p m
lowered_later b b' es es' p m None groups turn same u r allowed h = record {
  bounded = λ u' r'. still false (get_or groups (b.groups p.0) false) (is_allowed_in b.cluster b.groups b.sizes es p.0 p.1) false (get_or groups (b'.groups p.0) false) (is_allowed_in b'.cluster b'.groups b'.sizes es' p.0 p.1)
      (h.bounded (u u') (r r')) (λ e. e) (ap (λ g. get_or groups g false) same) allowed;
}

-- a pair that is allowed is bounded, whatever is noted
pub allowed_bounds : (b : Board) (es : Table) (p : Pair) (m : ℕ) (bound : Option (List ℕ)) (groups groups' : List Bool) (turn : ℕ) → is_allowed_in b.cluster b.groups b.sizes es p.0 p.1 ≡ true → IsBounded b es bound groups turn p m → IsBounded b es bound groups' turn p m
allowed_bounds b es p m bound groups groups' turn allowed h = record {
  bounded = λ u r. ap (λ x. x || (get_or groups' (b.groups p.0) false && not (is_allowed_in b.cluster b.groups b.sizes es p.0 p.1)))
      (only (is_bound bound (rank_at b es turn p m)) (get_or groups (b.groups p.0) false) (is_allowed_in b.cluster b.groups b.sizes es p.0 p.1) allowed (h.bounded u r));
}
  where
    only : (x g a : Bool) → a ≡ true → (x || (g && not a)) ≡ true → x ≡ true
    only true g a f e = refl
    only false true true f e = e
    only false true false f e = cc
    only false false a f e = e

-- a group that is not noted may be allowed more than before
pub bounded_apart : (b b' : Board) (es es' : Table) (p : Pair) (m : ℕ) (bound : Option (List ℕ)) (groups : List Bool) (turn : ℕ)
    → b'.priorities p.0 p.1 ≡ b.priorities p.0 p.1 → (accepts_in b' es' p.0 p.1 m ≡ true → accepts_in b es p.0 p.1 m ≡ true) → (has_room_in b'.cluster b'.sizes es' p.0 p.1 m ≡ true → has_room_in b.cluster b.sizes es p.0 p.1 m ≡ true)
    → level_of b.cluster b.asks es p.0 p.1 m ≤ level_of b'.cluster b'.asks es' p.0 p.1 m
    → get_or groups (b.groups p.0) false ≡ false → IsBounded b es bound groups turn p m → IsBounded b' es' bound groups turn p m
bounded_apart b b' es es' p m bound groups turn late u r level g h = record {
  bounded = λ u' r'. or_left (is_bound bound (rank_at b' es' turn p m)) (get_or groups (b'.groups p.0) false && not (is_allowed_in b'.cluster b'.groups b'.sizes es' p.0 p.1))
      (subst (λ x. is_bound bound ((9 - x) ∷ level_of b'.cluster b'.asks es' p.0 p.1 m ∷ turn ∷ []) ≡ true) (sym late)
      (bound_worse bound (9 - b.priorities p.0 p.1) (level_of b.cluster b.asks es p.0 p.1 m) (level_of b'.cluster b'.asks es' p.0 p.1 m) turn level
      (only (is_bound bound (rank_at b es turn p m)) (get_or groups (b.groups p.0) false) (not (is_allowed_in b.cluster b.groups b.sizes es p.0 p.1)) g (h.bounded (u u') (r r')))));
}
  where
    only : (x y z : Bool) → y ≡ false → (x || (y && z)) ≡ true → x ≡ true
    only true y z f e = refl
    only false true z f e = cc
    only false false z f e = e

-- ---- a mark that says nothing of pairs with a turn or a later one
pub limited_less : (turns : ℕ) (k : MarkRecord) → (limited_mark turns k).until ≤ k.until
limited_less turns k = elim (nat_lt turns k.until) as (λ t. nat_lt turns k.until ≡ t → cond t turns k.until ≤ k.until) [
  | true ↦ λ t. let lt : turns < k.until = grind (arith, nat_tests, t) in omega (arith, lt)
  | false ↦ λ _. omega arith
] refl

pub limited_few : (turns : ℕ) (k : MarkRecord) → (limited_mark turns k).until ≤ turns
limited_few turns k = elim (nat_lt turns k.until) as (λ t. nat_lt turns k.until ≡ t → cond t turns k.until ≤ turns) [
  | true ↦ λ _. omega arith
  | false ↦ λ t. let le : k.until ≤ turns = grind (arith, nat_tests, t) in omega (arith, le)
] refl

-- it has the bound of all pairs that it had
pub limited_key : (turns : ℕ) (k : MarkRecord) → key_of (limited_mark turns k) turns ≡ key_of k turns
limited_key turns k = ap (λ t. cond t (Some zero_rank) k.bound) (elim (nat_lt turns k.until) as (λ t. nat_lt turns k.until ≡ t → nat_lt (cond t turns k.until) turns ≡ nat_lt k.until turns) [
  | true ↦ λ t. let a : nat_lt turns turns ≡ false = grind (arith, nat_tests) in let b : nat_lt k.until turns ≡ false = grind (arith, nat_tests, t) in a ∙ sym b
  | false ↦ λ _. refl
] refl)
