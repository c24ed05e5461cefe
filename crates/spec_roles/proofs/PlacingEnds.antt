-- Placing ends with nothing placeable.
use Rattle.std.proofs.Common.{◌≡◌, ℕ, zero, suc, ◌+◌, ◌<◌, ◌≤◌, Bool, true, false, cond, nat_eq, nat_lt, List, [], ◌∷◌, ◌++◌, length, Some, None, refl, sym, ◌∙◌, ap, subst, arith, inl, inr}
use Rattle.std.specs.Prelude.{◌&&◌, ◌||◌, map, filter}
use Rattle.std.specs.List.{AllByRecursion}
use Rattle.std.specs.Ordering.{is_lt, nat_cmp}
use Rattle.std.specs.Cmp.Lexicographic.{slice_cmp}
use Rattle.std.proofs.lemmas.Bool.Decides.{nat_tests}
use Rattle.fuxi_terms.specs.Cluster.{ClusterRecord, has_machine}
use Rattle.fuxi_terms.specs.Keys.{Spot, Pair}
use Rattle.fuxi_terms.specs.Lists.{below}
use Rattle.spec_roles.specs.Masters.{Master, out}
use Rattle.spec_roles.specs.Placing.{Ranked, ranked, candidates, places_for, may_grow, accepts, has_room, least, first_of, first_placeable, granted, settle, settled, all_out, placeable, has_pair}
use Rattle.spec_roles.specs.Settling.{NothingPlaceable, Picks}
use Rattle.fuxi_terms.proofs.Booleans.{both_true, and_true, either}
use Rattle.fuxi_terms.proofs.Members.{In, sum_filter, both_empty, none_passes, mapped_empty, sum_lt, in_below}
use Rattle.fuxi_terms.proofs.Sums.{held_more, held_one}

-- the first of the candidates is one of them
pub least_has : (P : Ranked → Type 0) (r : Ranked) (rs : List Ranked) → P r → AllByRecursion P rs → P (least r rs)
least_has P r [] h k = h
least_has P r (s ∷ ss) h k = least_has P (cond (is_lt (slice_cmp nat_cmp s.rank r.rank)) s r) ss (either P (is_lt (slice_cmp nat_cmp s.rank r.rank)) s r (λ _. k.0) (λ _. h)) k.1

-- what holds of each number that passes holds of what is made of them
pub all_mapped : (P : Ranked → Type 0) (f : ℕ → Ranked) (q : ℕ → Bool) (ms : List ℕ) → ((m : ℕ) → q m ≡ true → P (f m)) → AllByRecursion P (map f (filter q ms))
all_mapped P f q [] h = tt
all_mapped P f q (m ∷ ms) h = elim (q m) as (λ b. q m ≡ b → AllByRecursion P (map f (cond b (m ∷ filter q ms) (filter q ms)))) [ true ↦ λ e. (h m e, all_mapped P f q ms h) | false ↦ λ e. all_mapped P f q ms h ] refl

-- of two lists together
pub all_joined : (P : Ranked → Type 0) (xs ys : List Ranked) → AllByRecursion P xs → AllByRecursion P ys → AllByRecursion P (xs ++ ys)
all_joined P [] ys h k = k
all_joined P (x ∷ xs) ys h k = (h.0, all_joined P xs ys h.1 k)

all_candidates : (P : Ranked → Type 0) (c : ClusterRecord) (M : Master) (place : ℕ) (ps : List Pair) → ((p : Pair) (place m : ℕ) → In p ps → placeable c M p.0 p.1 m ≡ true → P (ranked c M place p m)) → AllByRecursion P (candidates c M place ps)
all_candidates P c M place [] h = tt
all_candidates P c M place (p ∷ ps) h = all_joined P (elim (may_grow c M p.0 p.1) as (λ _. List Ranked) [ true ↦ places_for c M place p | false ↦ [] ]) (candidates c M (place + 1) ps)
    (elim (may_grow c M p.0 p.1) as (λ b. may_grow c M p.0 p.1 ≡ b → AllByRecursion P (elim b as (λ _. List Ranked) [ true ↦ places_for c M place p | false ↦ [] ])) [
      | true ↦ λ g. all_mapped P (ranked c M place p) (λ m. accepts c M p.0 p.1 m && has_room c M p.0 p.1 m) (below (length c.machines)) (λ m e. h p place m (inl refl) (and_true _ _ g e))
      | false ↦ λ _. tt
    ] refl)
    (all_candidates P c M (place + 1) ps (λ q n m i e. h q n m (inr i) e))

-- a spot that may be granted: its pair stands in the line, with something out
record Good (M : Master) (s : Spot) : Type 0 where
  pair : In (s.job, s.unit) M.line
  out : nat_lt 0 (out M s.job s.unit) ≡ true

record GoodRank (M : Master) (r : Ranked) : Type 0 where
  spot : Good M r.spot

first_found : (M : Master) (rs : List Ranked) (s : Spot) → AllByRecursion (GoodRank M) rs → first_of rs ≡ Some s → Good M s
first_found M [] s h e = cc
first_found M (r ∷ rs) s h e = let same : (least r rs).spot ≡ s = cc in subst (Good M) same (least_has (GoodRank M) r rs h.0 h.1).spot

first_good : (c : ClusterRecord) (M : Master) (s : Spot) → first_placeable c M ≡ Some s → Good M s
first_good c M s e = first_found M (candidates c M 0 M.line) s
    (all_candidates (GoodRank M) c M 0 M.line (λ p place m i t. record { spot = record { pair = i; out = (both_true _ _ (both_true _ _ (both_true _ _ t).0).1).0 } })) e

falls : (M : Master) (s : Spot) → Good M s → all_out (granted M s) < all_out M
falls M s g =
    let after : Pair → ℕ = λ p. out (granted M s) p.0 p.1 in
    let before : Pair → ℕ = λ p. out M p.0 p.1 in
    let kept = sum_filter after (λ p. nat_lt 0 (after p)) M.line in
    let less : (p : Pair) → after p ≤ before p = λ p. let h = held_more M.table s p.0 p.1 in omega (arith, h) in
    let there : after (s.job, s.unit) < before (s.job, s.unit) = let h = held_one M.table s in let some : 0 < out M s.job s.unit = let o = g.out in grind (arith, nat_tests, o) in omega (arith, h, some) in
    let total = sum_lt after before (s.job, s.unit) M.line less g.pair there in
    omega (arith, kept, total)

settle_none : (c : ClusterRecord) (fuel : ℕ) (M : Master) → all_out M ≤ fuel → first_placeable c (settle c fuel M) ≡ None
settle_none c zero M le = elim (first_placeable c M) as (λ o. first_placeable c M ≡ o → o ≡ None) [
  | None ↦ λ _. refl
  | Some s ↦ λ e. absurd (let f = falls M s (first_good c M s e) in omega (arith, f, le))
] refl
settle_none c (suc fuel) M le = elim (first_placeable c M) as (λ o. first_placeable c M ≡ o → let M' : Master = elim o [ None ↦ M | Some s ↦ settle c fuel (granted M s) ] in first_placeable c M' ≡ None) [
  | None ↦ λ e. e
  | Some s ↦ λ e. let f = falls M s (first_good c M s e) in settle_none c fuel (granted M s) (omega (arith, f, le))
] refl

-- after placing nothing is placeable
pub settled_none : (c : ClusterRecord) (M : Master) → first_placeable c (settled c M) ≡ None
settled_none c M = settle_none c (all_out M) M (omega arith)

record PlaceableRank (c : ClusterRecord) (M : Master) (r : Ranked) : Type 0 where
  spot : placeable c M r.spot.job r.spot.unit r.spot.machine ≡ true

found_placeable : (c : ClusterRecord) (M : Master) (rs : List Ranked) (s : Spot) → AllByRecursion (PlaceableRank c M) rs → first_of rs ≡ Some s → placeable c M s.job s.unit s.machine ≡ true
found_placeable c M [] s h e = cc
found_placeable c M (r ∷ rs) s h e = let same : (least r rs).spot ≡ s = cc in subst (λ (x : Spot). placeable c M x.job x.unit x.machine ≡ true) same (least_has (PlaceableRank c M) r rs h.0 h.1).spot

-- what is found is placeable
pub is_placeable : (c : ClusterRecord) (M : Master) (s : Spot) → first_placeable c M ≡ Some s → placeable c M s.job s.unit s.machine ≡ true
is_placeable c M s e = found_placeable c M (candidates c M 0 M.line) s (all_candidates (PlaceableRank c M) c M 0 M.line (λ p place m i t. record { spot = t })) e

settle_run : (c : ClusterRecord) (ss : List Spot) (fuel : ℕ) (M M' : Master) → all_out M ≤ fuel → Picks c M ss M' → M' ≡ settle c fuel M
settle_run c [] zero M M' le p = p.1
settle_run c [] (suc fuel) M M' le p = p.1 ∙ sym (ap (λ o. elim o as (λ _. Master) [ None ↦ M | Some s ↦ settle c fuel (granted M s) ]) p.0)
settle_run c (s ∷ ss) zero M M' le p = absurd (let f = falls M s (first_good c M s p.0) in omega (arith, f, le))
settle_run c (s ∷ ss) (suc fuel) M M' le p =
    let f = falls M s (first_good c M s p.0) in
    settle_run c ss fuel (granted M s) M' (omega (arith, f, le)) p.1
    ∙ sym (ap (λ o. elim o as (λ _. Master) [ None ↦ M | Some s ↦ settle c fuel (granted M s) ]) p.0)

-- whoever grants first pairs until there is none has settled
pub settled_run : (c : ClusterRecord) (ss : List Spot) (M M' : Master) → Picks c M ss M' → M' ≡ settled c M
settled_run c ss M M' p = settle_run c ss (all_out M) M M' (omega arith) p

-- where no candidate is found, no pair of the line is placeable
no_candidates : (rs : List Ranked) → first_of rs ≡ None → rs ≡ []
no_candidates [] e = refl
no_candidates (r ∷ rs) e = cc

none_of_line : (c : ClusterRecord) (M : Master) (place : ℕ) (ps : List Pair) → candidates c M place ps ≡ [] → (a u m : ℕ) → has_pair (a, u) ps ≡ true → has_machine c m ≡ true → placeable c M a u m ≡ false
none_of_line c M place [] e a u m has there = cc
none_of_line c M place (p ∷ ps) e a u m has there =
    let parts = both_empty (elim (may_grow c M p.0 p.1) as (λ _. List Ranked) [ true ↦ places_for c M place p | false ↦ [] ]) (candidates c M (place + 1) ps) e in
    elim (nat_eq a p.0 && nat_eq u p.1) as (λ b. (nat_eq a p.0 && nat_eq u p.1) ≡ b → (b || has_pair (a, u) ps) ≡ true → placeable c M a u m ≡ false) [
      | true ↦ λ t _.
          let eqs = both_true (nat_eq a p.0) (nat_eq u p.1) t in
          let is_a : p.0 ≡ a = let h = eqs.0 in grind (arith, nat_tests, h) in
          let is_u : p.1 ≡ u = let h = eqs.1 in grind (arith, nat_tests, h) in
          let here : placeable c M p.0 p.1 m ≡ false = elim (may_grow c M p.0 p.1) as (λ b. elim b as (λ _. List Ranked) [ true ↦ places_for c M place p | false ↦ [] ] ≡ [] → (b && (accepts c M p.0 p.1 m && has_room c M p.0 p.1 m)) ≡ false) [
            | true ↦ λ none. none_passes (λ m. accepts c M p.0 p.1 m && has_room c M p.0 p.1 m) m (below (length c.machines)) (mapped_empty (ranked c M place p) _ none) (in_below (length c.machines) m there)
            | false ↦ λ _. refl
          ] parts.0 in
          subst (λ a'. placeable c M a' u m ≡ false) is_a (subst (λ u'. placeable c M p.0 u' m ≡ false) is_u here)
      | false ↦ λ t has. none_of_line c M (place + 1) ps parts.1 a u m has there
    ] refl has

-- where no pair is found, none is placeable
pub nothing_placeable : (c : ClusterRecord) (M : Master) → first_placeable c M ≡ None → NothingPlaceable c M
nothing_placeable c M e a u m has there = none_of_line c M 0 M.line (no_candidates _ e) a u m has there

-- after settling nothing is placeable
pub settled_nothing : (c : ClusterRecord) (M : Master) → NothingPlaceable c (settled c M)
settled_nothing c M = nothing_placeable c (settled c M) (settled_none c M)
