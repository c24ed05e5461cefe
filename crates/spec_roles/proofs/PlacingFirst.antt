-- The pair that is placed has the least rank of all placeable pairs of the line.
use Rattle.std.proofs.Common.{◌≡◌, inl, inr, ℕ, zero, suc, ◌+◌, Bool, true, false, cond, List, [], ◌∷◌, length, map, filter, Some, slice_get, refl, sym, ◌∙◌, ap, subst, arith}
use Rattle.std.specs.Prelude.{◌&&◌}
use Rattle.std.specs.Ordering.{nat_cmp, is_lt, ordering_reverse}
use Rattle.std.specs.Cmp.{IsTotalOrder, nat_cmp_total, tied_itself, alike_right}
use Rattle.std.specs.Cmp.Lexicographic.{slice_cmp, lists_total}
use Rattle.std.specs.declared.cmp.Ordering.{Ordering}
use Rattle.std.specs.declared.cmp.Ordering.TheVariants.{Less, Equal, Greater}
use Rattle.fuxi_terms.specs.Cluster.{ClusterRecord, has_machine}
use Rattle.fuxi_terms.specs.Keys.{Spot, Pair}
use Rattle.fuxi_terms.specs.Lists.{below}
use Rattle.spec_roles.specs.Masters.{Master}
use Rattle.spec_roles.specs.Placing.{Ranked, least, first_of, first_placeable, ranked, candidates, places_for, may_grow, accepts, has_room, placeable}
use Rattle.spec_roles.specs.Settling.{IsFirst}
use Rattle.fuxi_terms.proofs.Booleans.{both_true, and_true}
use Rattle.fuxi_terms.proofs.Members.{In, in_below, in_left, in_right}
use Rattle.std.specs.List.{AllByRecursion}
use Rattle.spec_roles.proofs.PlacingEnds.{least_has, all_mapped, all_joined}

order : IsTotalOrder (slice_cmp nat_cmp)
order = lists_total nat_cmp_total

abbrev NotBefore : Ranked → Ranked → Type 0
NotBefore x y = is_lt (slice_cmp nat_cmp x.rank y.rank) ≡ false

itself : (x : Ranked) → NotBefore x x
itself x = ap is_lt (tied_itself order x.rank)

turned : (x y : Ranked) → is_lt (slice_cmp nat_cmp x.rank y.rank) ≡ true → NotBefore y x
turned x y e = by (slice_cmp nat_cmp x.rank y.rank) refl e
  where
    by : (r : Ordering) → slice_cmp nat_cmp x.rank y.rank ≡ r → is_lt r ≡ true → NotBefore y x
    by Less t e = ap is_lt (order.antisymm y.rank x.rank ∙ ap ordering_reverse t)
    by Equal t e = cc
    by Greater t e = cc

through : (x y z : Ranked) → NotBefore x y → NotBefore y z → NotBefore x z
through x y z a b = by (slice_cmp nat_cmp x.rank z.rank) refl (slice_cmp nat_cmp y.rank z.rank) refl
  where
    by : (r : Ordering) → slice_cmp nat_cmp x.rank z.rank ≡ r → (s : Ordering) → slice_cmp nat_cmp y.rank z.rank ≡ s → NotBefore x z
    by Equal t s u = ap is_lt t
    by Greater t s u = ap is_lt t
    by Less t Less u = let f : is_lt (slice_cmp nat_cmp y.rank z.rank) ≡ true = ap is_lt u in absurd (let g : ⊥ = cc in g)
    by Less t Equal u = let e : slice_cmp nat_cmp x.rank y.rank ≡ Less = alike_right order y.rank z.rank x.rank u ∙ t in let f : is_lt (slice_cmp nat_cmp x.rank y.rank) ≡ true = ap is_lt e in absurd (let g : ⊥ = cc in g)
    by Less t Greater u = let d : slice_cmp nat_cmp z.rank y.rank ≡ Less = order.antisymm z.rank y.rank ∙ ap ordering_reverse u in let e : slice_cmp nat_cmp x.rank y.rank ≡ Less = order.trans x.rank z.rank y.rank t d in let f : is_lt (slice_cmp nat_cmp x.rank y.rank) ≡ true = ap is_lt e in absurd (let g : ⊥ = cc in g)

-- nothing is before the least
first_least : (r : Ranked) (rs : List Ranked) → NotBefore r (least r rs)
first_least r [] = itself r
first_least r (s ∷ ss) = elim (is_lt (slice_cmp nat_cmp s.rank r.rank)) as (λ b. is_lt (slice_cmp nat_cmp s.rank r.rank) ≡ b → NotBefore r (least (cond b s r) ss)) [
  | true ↦ λ e. through r s (least s ss) (turned s r e) (first_least s ss)
  | false ↦ λ _. first_least r ss
] refl

other_least : (r : Ranked) (rs : List Ranked) (x : Ranked) → In x rs → NotBefore x (least r rs)
other_least r [] x i = absurd i
other_least r (s ∷ ss) x (inl e) = subst (λ (y : Ranked). NotBefore y (least r (s ∷ ss))) (sym e) (elim (is_lt (slice_cmp nat_cmp s.rank r.rank)) as (λ b. is_lt (slice_cmp nat_cmp s.rank r.rank) ≡ b → NotBefore s (least (cond b s r) ss)) [
  | true ↦ λ _. first_least s ss
  | false ↦ λ t. through s r (least r ss) t (first_least r ss)
] refl)
other_least r (s ∷ ss) x (inr i) = other_least (cond (is_lt (slice_cmp nat_cmp s.rank r.rank)) s r) ss x i

in_mapped : (f : ℕ → Ranked) (q : ℕ → Bool) (m : ℕ) (ms : List ℕ) → q m ≡ true → In m ms → In (f m) (map f (filter q ms))
in_mapped f q m [] t i = absurd i
in_mapped f q m (k ∷ ks) t (inl e) = elim (q k) as (λ b. q k ≡ b → In (f m) (map f (cond b (k ∷ filter q ks) (filter q ks)))) [
  | true ↦ λ _. inl (ap f e)
  | false ↦ λ u. let v : q k ≡ true = subst (λ n. q n ≡ true) e t in absurd (let g : ⊥ = cc in g)
] refl
in_mapped f q m (k ∷ ks) t (inr i) = elim (q k) as (λ b. In (f m) (map f (cond b (k ∷ filter q ks) (filter q ks)))) [ true ↦ inr (in_mapped f q m ks t i) | false ↦ in_mapped f q m ks t i ]

-- each placeable pair is a candidate
is_candidate : (c : ClusterRecord) (M : Master) (place n m : ℕ) (p : Pair) (ps : List Pair) → slice_get ps n ≡ Some p → has_machine c m ≡ true → placeable c M p.0 p.1 m ≡ true → In (ranked c M (place + n) p m) (candidates c M place ps)
is_candidate c M place n m p [] e there t = cc
is_candidate c M place zero m p (q ∷ ps) e there t =
    let same : q ≡ p = cc in
    let b = both_true (may_grow c M p.0 p.1) (accepts c M p.0 p.1 m && has_room c M p.0 p.1 m) t in
    let here : In (ranked c M place p m) (places_for c M place p) = in_mapped (ranked c M place p) (λ m. accepts c M p.0 p.1 m && has_room c M p.0 p.1 m) m (below (length c.machines)) b.1 (in_below (length c.machines) m there) in
    let chosen : In (ranked c M place p m) (elim (may_grow c M p.0 p.1) as (λ _. List Ranked) [ true ↦ places_for c M place p | false ↦ [] ]) = subst (λ g. In (ranked c M place p m) (elim g as (λ _. List Ranked) [ true ↦ places_for c M place p | false ↦ [] ])) (sym b.0) here in
    let first : place + 0 ≡ place = omega arith in
    subst (λ k. In (ranked c M k p m) (candidates c M place (q ∷ ps))) (sym first)
    (subst (λ (x : Pair). In (ranked c M place p m) (candidates c M place (x ∷ ps))) (sym same) (in_left (ranked c M place p m) _ (candidates c M (place + 1) ps) chosen))
is_candidate c M place (suc n) m p (q ∷ ps) e there t =
    let next : place + 1 + n ≡ place + suc n = omega arith in
    in_right (ranked c M (place + suc n) p m) _ (candidates c M (place + 1) ps) (subst (λ k. In (ranked c M k p m) (candidates c M (place + 1) ps)) next (is_candidate c M (place + 1) n m p ps e there t))

-- each candidate is a placeable pair of the line
record IsOne (c : ClusterRecord) (M : Master) (r : Ranked) : Type 0 where
  place : ℕ
  there : slice_get M.line place ≡ Some (r.spot.job, r.spot.unit)
  may : placeable c M r.spot.job r.spot.unit r.spot.machine ≡ true
  is : r.rank ≡ (ranked c M place (r.spot.job, r.spot.unit) r.spot.machine).rank

all_ones : (c : ClusterRecord) (M : Master) (place : ℕ) (ps : List Pair) → ((n : ℕ) (p : Pair) → slice_get ps n ≡ Some p → slice_get M.line (place + n) ≡ Some p) → AllByRecursion (IsOne c M) (candidates c M place ps)
all_ones c M place [] h = tt
all_ones c M place (p ∷ ps) h = all_joined (IsOne c M) (elim (may_grow c M p.0 p.1) as (λ _. List Ranked) [ true ↦ places_for c M place p | false ↦ [] ]) (candidates c M (place + 1) ps)
    (elim (may_grow c M p.0 p.1) as (λ b. may_grow c M p.0 p.1 ≡ b → AllByRecursion (IsOne c M) (elim b as (λ _. List Ranked) [ true ↦ places_for c M place p | false ↦ [] ])) [
      | true ↦ λ g. all_mapped (IsOne c M) (ranked c M place p) (λ m. accepts c M p.0 p.1 m && has_room c M p.0 p.1 m) (below (length c.machines))
          (λ m e. record { place = place; there = (let z : place + 0 ≡ place = omega arith in ap (λ k. slice_get M.line k) (sym z) ∙ h 0 p refl); may = and_true _ _ g e; is = refl })
      | false ↦ λ _. tt
    ] refl)
    (all_ones c M (place + 1) ps (λ n q e. let z : place + 1 + n ≡ place + suc n = omega arith in ap (λ k. slice_get M.line k) z ∙ h (suc n) q e))

-- the pair that is placed
pub placed_first : (c : ClusterRecord) (M : Master) (s : Spot) → first_placeable c M ≡ Some s → IsFirst c M s
placed_first c M s e = by (candidates c M 0 M.line) (all_ones c M 0 M.line (λ n p f. ap (λ k. slice_get M.line k) (let z : 0 + n ≡ n = omega arith in z) ∙ f)) (λ n m p f there t. subst (λ k. In (ranked c M k p m) (candidates c M 0 M.line)) (let z : 0 + n ≡ n = omega arith in z) (is_candidate c M 0 n m p M.line f there t)) e
  where
    by : (rs : List Ranked) → AllByRecursion (IsOne c M) rs → ((n m : ℕ) (p : Pair) → slice_get M.line n ≡ Some p → has_machine c m ≡ true → placeable c M p.0 p.1 m ≡ true → In (ranked c M n p m) rs) → first_of rs ≡ Some s → IsFirst c M s
    by [] all mem e = cc
    by (r ∷ rs) all mem e =
        let one = least_has (IsOne c M) r rs all.0 all.1 in
        let same : (least r rs).spot ≡ s = cc in
        subst (IsFirst c M) same (record {
          place = one.place;
          there = one.there;
          may = one.may;
          first = λ n m p f there t. subst (λ k. is_lt (slice_cmp nat_cmp (ranked c M n p m).rank k) ≡ false) one.is (before (ranked c M n p m) (mem n m p f there t));
        })
      where
        before : (x : Ranked) → In x (r ∷ rs) → NotBefore x (least r rs)
        before x (inl same) = subst (λ (y : Ranked). NotBefore y (least r rs)) (sym same) (first_least r rs)
        before x (inr i) = other_least r rs x i
