-- The flags of a line say who waits: at the start, and where a pair joins or leaves.
use Rattle.std.proofs.Common.{◌≡◌, ℕ, zero, suc, ◌+◌, ◌*◌, ◌<◌, Bool, true, false, cond, not, nat_eq, List, [], ◌∷◌, ◌++◌, length, filter, get_or, set, take, drop, refl, sym, ◌∙◌, ap, subst, arith, length-set, Some, slice_get}
use Rattle.std.specs.Prelude.{◌&&◌, ◌||◌, replicate}
use Rattle.std.specs.List.{AllByRecursion, IsDistinct}
use Rattle.std.proofs.lemmas.List.{get_or_default, length-replicate}
use Rattle.fuxi_terms.specs.Limits.{most_jobs, most_units}
use Rattle.fuxi_terms.proofs.Booleans.{both_true, number_is, same_tests, and_true, nat_itself, or_right, both_false, or_none}
use Rattle.spec_roles.specs.Placing.{has_pair}
use Rattle.place_pass.specs.WaitingLines.{same_pair, AreFlags}
use Rattle.place_pass.proofs.WaitingLinesLemmas.{any_append, has_filter, pair_self, pair_turned}
use Rattle.fuxi_terms.proofs.IndexedLists.{one_set, repeated_at}
use Rattle.fuxi_terms.specs.Keys.{Pair}

-- no pair waits of a unit that there may not be
pub outside : (pairs : List Pair) → ((a u : ℕ) → has_pair (a, u) pairs ≡ true → (a < most_jobs) × (u < most_units)) → (a u : ℕ) → ((a < most_jobs) × (u < most_units) → ⊥) → false ≡ has_pair (a, u) pairs
outside pairs there a u out = elim (has_pair (a, u) pairs) as (λ b. has_pair (a, u) pairs ≡ b → false ≡ b) [
  | true ↦ λ e. absurd (out (there a u e))
  | false ↦ λ _. refl
] refl

same_slot : (a u b v : ℕ) → u < 8 → v < 8 → nat_eq (a * 8 + u) (b * 8 + v) ≡ same_pair (a, u) (b, v)
same_slot a u b v lu lv = same_tests (nat_eq (a * 8 + u) (b * 8 + v)) (same_pair (a, u) (b, v))
    (λ t.
    let e = number_is (a * 8 + u) (b * 8 + v) t in
    let x : a ≡ b = omega (arith, e, lu, lv) in
    let y : u ≡ v = omega (arith, e, x) in
    and_true (nat_eq a b) (nat_eq u v) (subst (λ z. nat_eq a z ≡ true) x (nat_itself a)) (subst (λ z. nat_eq u z ≡ true) y (nat_itself u)))
    (λ t.
    let both = both_true (nat_eq a b) (nat_eq u v) t in
    let x = number_is a b both.0 in
    let y = number_is u v both.1 in
    let e : (a * 8 + u) ≡ (b * 8 + v) = omega (arith, x, y) in
    subst (λ z. nat_eq (a * 8 + u) z ≡ true) e (nat_itself (a * 8 + u)))

-- a flag that is written, and the others
flag_set : (waits : List Bool) (a u b v : ℕ) (f : Bool) → u < 8 → v < 8 → a * 8 + u < length waits → get_or (set waits (a * 8 + u) f) (b * 8 + v) false ≡ cond (same_pair (a, u) (b, v)) f (get_or waits (b * 8 + v) false)
flag_set waits a u b v f lu lv lt = one_set waits (a * 8 + u) (b * 8 + v) f false lt ∙ ap (λ t. cond t f (get_or waits (b * 8 + v) false)) (same_slot a u b v lu lv)

-- what is read at the place of a unit that may be there
pub flag_is : (pairs : List Pair) (waits : List Bool) → AreFlags pairs waits → (a u : ℕ) → a < most_jobs → u < most_units → (i : ℕ) → i ≡ a * 8 + u → (flag : Bool) → flag ≡ get_or waits i flag → flag ≡ has_pair (a, u) pairs
flag_is pairs waits h a u la lu i e flag is =
    let places = h.places in
    is ∙ ap (λ k. get_or waits k flag) e ∙ get_or_default waits (a * 8 + u) flag false (omega (arith, places, la, lu)) ∙ h.waiting a u la lu

-- ---- nobody waits
pub flags_none : (pairs : List Pair) (waits : List Bool) → pairs ≡ [] → waits ≡ replicate (most_jobs * most_units) false → AreFlags pairs waits
flags_none pairs waits none e = record {
  places = ap length e ∙ length-replicate {A = Bool} (most_jobs * most_units) false;
  waiting = λ a u la lu. ap (λ (xs : List Bool). get_or xs (a * 8 + u) false) e ∙ repeated_at false (most_jobs * most_units) (a * 8 + u) ∙ sym (ap (has_pair (a, u)) none);
}

-- who has the same pairs has the same flags
pub flags_same : (pairs others : List Pair) (waits : List Bool) → ((p : Pair) → has_pair p others ≡ has_pair p pairs) → AreFlags pairs waits → AreFlags others waits
flags_same pairs others waits same h = record {
  places = h.places;
  waiting = λ a u la lu. h.waiting a u la lu ∙ sym (same (a, u));
}

-- ---- one joins
pub flags_joined : (pairs : List Pair) (waits : List Bool) (a u : ℕ) → AreFlags pairs waits → a < most_jobs → u < most_units → AreFlags (pairs ++ (a, u) ∷ []) (set waits (a * 8 + u) true)
flags_joined pairs waits a u h la lu = record {
  places = length-set waits (a * 8 + u) true ∙ h.places;
  waiting = λ b v lb lv.
      flag_set waits a u b v true lu lv (let places = h.places in omega (arith, places, la, lu))
      ∙ ap (λ x. cond (same_pair (a, u) (b, v)) true x) (h.waiting b v lb lv)
      ∙ raised (same_pair (a, u) (b, v)) (has_pair (b, v) pairs)
      ∙ ap (λ t. has_pair (b, v) pairs || (t || false)) (pair_turned (a, u) (b, v))
      ∙ sym (any_append (same_pair (b, v)) pairs ((a, u) ∷ []));
}
  where
    raised : (t x : Bool) → cond t true x ≡ (x || (t || false))
    raised true true = refl
    raised true false = refl
    raised false true = refl
    raised false false = refl

-- ---- one leaves
pub none_left : (xs : List Pair) (p : Pair) → AllByRecursion (λ y. same_pair p y ≡ false) xs → has_pair p xs ≡ false
none_left [] p h = refl
none_left (x ∷ xs) p h = or_none (same_pair p x) (has_pair p xs) h.0 (none_left xs p h.1)

-- where it is not there, all stay
pub all_stay : (xs : List Pair) (p : Pair) → has_pair p xs ≡ false → filter (λ q. not (same_pair q p)) xs ≡ xs
all_stay [] p e = refl
all_stay (x ∷ xs) p e =
    let n = both_false (same_pair p x) (has_pair p xs) e in
    ap (λ b. cond (not b) (x ∷ filter (λ q. not (same_pair q p)) xs) (filter (λ q. not (same_pair q p)) xs)) (pair_turned x p ∙ n.0) ∙ ap (λ ys. x ∷ ys) (all_stay xs p n.1)

-- of distinct pairs, all but the one at a place
pub others_at : (xs : List Pair) (i : ℕ) (p : Pair) → slice_get xs i ≡ Some p → IsDistinct same_pair xs → take i xs ++ drop (suc i) xs ≡ filter (λ q. not (same_pair q p)) xs
unfolding IsDistinct
others_at [] i p e h = cc
others_at (x ∷ xs) zero p e h =
    let same : x ≡ p = cc in
    let itself : same_pair x p ≡ true = subst (λ y. same_pair x y ≡ true) same (pair_self x) in
    let rest = subst (λ (y : Pair). AllByRecursion (λ z. same_pair y z ≡ false) xs) same h.0 in
    sym (ap (λ b. cond (not b) (x ∷ filter (λ q. not (same_pair q p)) xs) (filter (λ q. not (same_pair q p)) xs)) itself ∙ all_stay xs p (none_left xs p rest))
others_at (x ∷ xs) (suc i) p e h =
    let other : same_pair x p ≡ false = one_at xs i h.0 e in
    ap (λ ys. x ∷ ys) (others_at xs i p e h.1) ∙ sym (ap (λ b. cond (not b) (x ∷ filter (λ q. not (same_pair q p)) xs) (filter (λ q. not (same_pair q p)) xs)) other)
  where
    one_at : (ys : List Pair) (i : ℕ) → AllByRecursion (λ y. same_pair x y ≡ false) ys → slice_get ys i ≡ Some p → same_pair x p ≡ false
    one_at [] i h e = cc
    one_at (y ∷ ys) zero h e = let same : y ≡ p = cc in subst (λ (z : Pair). same_pair x z ≡ false) same h.0
    one_at (y ∷ ys) (suc i) h e = one_at ys i h.1 e

pub flags_left : (pairs left : List Pair) (waits : List Bool) (a u : ℕ) → AreFlags pairs waits → a < most_jobs → u < most_units → left ≡ filter (λ q. not (same_pair q (a, u))) pairs → AreFlags left (set waits (a * 8 + u) false)
flags_left pairs left waits a u h la lu is = subst (λ (l : List Pair). AreFlags l (set waits (a * 8 + u) false)) (sym is) (record {
  places = length-set waits (a * 8 + u) false ∙ h.places;
  waiting = λ b v lb lv.
      flag_set waits a u b v false lu lv (let places = h.places in omega (arith, places, la, lu))
      ∙ ap (λ x. cond (same_pair (a, u) (b, v)) false x) (h.waiting b v lb lv)
      ∙ lowered (same_pair (a, u) (b, v)) (has_pair (b, v) pairs)
      ∙ ap (λ t. has_pair (b, v) pairs && not t) (pair_turned (a, u) (b, v))
      ∙ sym (has_filter (λ q. not (same_pair q (a, u))) (b, v) pairs);
})
  where
    lowered : (t x : Bool) → cond t false x ≡ (x && not t)
    lowered true true = refl
    lowered true false = refl
    lowered false true = refl
    lowered false false = refl

-- ---- where one stands
pub place_inside : {A : Type 0} (xs : List A) (i : ℕ) (x : A) → slice_get xs i ≡ Some x → i < length xs
place_inside [] i x e = cc
place_inside (y ∷ ys) zero x e = omega arith
place_inside (y ∷ ys) (suc i) x e = let lt = place_inside ys i x e in omega (arith, lt)

-- who stands at a place is there
pub has_at : (xs : List Pair) (i : ℕ) (p : Pair) → slice_get xs i ≡ Some p → has_pair p xs ≡ true
has_at [] i p e = cc
has_at (x ∷ xs) zero p e = let same : x ≡ p = cc in subst (λ (y : Pair). has_pair y (x ∷ xs) ≡ true) same (ap (λ b. b || has_pair x xs) (pair_self x))
has_at (x ∷ xs) (suc i) p e = or_right (same_pair p x) (has_pair p xs) (has_at xs i p e)
