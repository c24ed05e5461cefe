-- The order of turns along a line is the order of the places, so the pair of least rank by turn is the first.
use Rattle.std.proofs.Common.{◌≡◌, ℕ, zero, suc, ◌+◌, ◌-◌, ◌<◌, Bool, true, false, cond, not, List, [], ◌∷◌, ◌++◌, length, map, filter, slice_get, refl, sym, ◌∙◌, ap, subst, arith, inl, inr, ◌⊎◌, None, Some}
use Rattle.std.specs.Prelude.{◌&&◌, ◌||◌}
use Rattle.std.specs.List.{AllByRecursion}
use Rattle.std.specs.Ordering.{nat_cmp, is_lt, ordering_then}
use Rattle.std.specs.Cmp.Lexicographic.{slice_cmp}
use Rattle.std.proofs.lemmas.Bool.{cases_lt}
use Rattle.std.proofs.lemmas.Bool.Decides.{nat_tests}
use Rattle.fuxi_terms.specs.Keys.{Pair}
use Rattle.fuxi_terms.specs.Lists.{below}
use Rattle.fuxi_terms.specs.Tables.{spot, Table}
use Rattle.fuxi_terms.proofs.Alls.{all_append}
use Rattle.fuxi_terms.proofs.Booleans.{both_true, and_true, or_right, not_true}
use Rattle.fuxi_terms.proofs.Lists.{all_at}
use Rattle.fuxi_terms.proofs.Members.{In, in_below, in_left, in_right}
use Rattle.spec_roles.specs.Masters.{level_of}
use Rattle.spec_roles.specs.Placing.{Board, Ranked, ranked_in, places_in, candidates_in, may_grow_in, accepts_in, has_room_in, placeable_in, first_of, first_in, has_pair}
use Rattle.place_pass.specs.Bounds.{comes_before, Rises, IsRising, rank_on}
use Rattle.place_pass.specs.Best.{spot_of}
use Rattle.place_pass.specs.declared.search.BestFound.{BestFound}
use Rattle.place_pass.specs.Candidates.{rank_with, IsFound, IsLeast}
use Rattle.place_pass.specs.WaitingLines.{same_pair}
use Rattle.place_pass.proofs.FirstOfLine.{first_is}
use Rattle.place_pass.proofs.WaitingLinesLemmas.{pair_self}
use Rattle.place_pass.proofs.FirstIsGrantable.{all_below}
use Rattle.fuxi_terms.proofs.NumberOrders.{compared_itself, compared_less}

-- ---- one place of a rank after another
step : (x y : ℕ) (r s : List ℕ) → comes_before (x ∷ r) (y ∷ s) ≡ false → (y < x) ⊎ ((x ≡ y) × (comes_before r s ≡ false))
step x y r s e = elim (cases_lt y x) [
  | inl lt ↦ inl lt
  | inr le ↦ elim (cases_lt x y) [
    | inl lt ↦ let f : true ≡ false = sym (ap (λ o. is_lt (ordering_then o (slice_cmp nat_cmp r s))) (compared_less x y lt)) ∙ e in cc
    | inr ge ↦ let same : x ≡ y = omega (arith, le, ge) in inr (same, sym (ap (λ o. is_lt (ordering_then o (slice_cmp nat_cmp r s))) (compared_itself y)) ∙ subst (λ z. comes_before (z ∷ r) (y ∷ s) ≡ false) same e)
  ]
]

pub less_first : (x y : ℕ) (r s : List ℕ) → y < x → comes_before (y ∷ s) (x ∷ r) ≡ true
less_first x y r s lt = ap (λ o. is_lt (ordering_then o (slice_cmp nat_cmp s r))) (compared_less y x lt)

pub less_rest : (x y : ℕ) (r s : List ℕ) → x ≡ y → comes_before s r ≡ true → comes_before (y ∷ s) (x ∷ r) ≡ true
less_rest x y r s e h = subst (λ z. comes_before (y ∷ s) (z ∷ r) ≡ true) (sym e) (ap (λ o. is_lt (ordering_then o (slice_cmp nat_cmp s r))) (compared_itself y) ∙ h)

-- a rank that does not come before another by turn does not by place
pub by_place : (l v t m p l' v' t' m' p' : ℕ) → (t' < t → p' < p) → (t ≡ t' → p ≡ p') → comes_before (l ∷ v ∷ t ∷ m ∷ []) (l' ∷ v' ∷ t' ∷ m' ∷ []) ≡ false
    → ((l ≡ l') × ((v ≡ v') × ((p ≡ p') × (m ≡ m')))) ⊎ (comes_before (l' ∷ v' ∷ p' ∷ m' ∷ []) (l ∷ v ∷ p ∷ m ∷ []) ≡ true)
by_place l v t m p l' v' t' m' p' before same e = elim (step l l' (v ∷ t ∷ m ∷ []) (v' ∷ t' ∷ m' ∷ []) e) [
  | inl lt ↦ inr (less_first l l' (v ∷ p ∷ m ∷ []) (v' ∷ p' ∷ m' ∷ []) lt)
  | inr x ↦ elim (step v v' (t ∷ m ∷ []) (t' ∷ m' ∷ []) x.1) [
    | inl lt ↦ inr (less_rest l l' (v ∷ p ∷ m ∷ []) (v' ∷ p' ∷ m' ∷ []) x.0 (less_first v v' (p ∷ m ∷ []) (p' ∷ m' ∷ []) lt))
    | inr y ↦ elim (step t t' (m ∷ []) (m' ∷ []) y.1) [
      | inl lt ↦ inr (less_rest l l' (v ∷ p ∷ m ∷ []) (v' ∷ p' ∷ m' ∷ []) x.0 (less_rest v v' (p ∷ m ∷ []) (p' ∷ m' ∷ []) y.0 (less_first p p' (m ∷ []) (m' ∷ []) (before lt))))
      | inr z ↦ elim (step m m' [] [] z.1) [
        | inl lt ↦ inr (less_rest l l' (v ∷ p ∷ m ∷ []) (v' ∷ p' ∷ m' ∷ []) x.0 (less_rest v v' (p ∷ m ∷ []) (p' ∷ m' ∷ []) y.0 (less_rest p p' (m ∷ []) (m' ∷ []) (same z.0) (less_first m m' [] [] lt))))
        | inr w ↦ inl (x.0, (y.0, (same z.0, w.0)))
      ]
    ]
  ]
]

-- ---- turns and places
pub has_at : (xs : List Pair) (i : ℕ) (p : Pair) → slice_get xs i ≡ Some p → has_pair p xs ≡ true
has_at [] i p e = cc
has_at (x ∷ xs) zero p e = let same : x ≡ p = cc in ap (λ z. same_pair p z || has_pair p xs) same ∙ ap (λ b. b || has_pair p xs) (pair_self p)
has_at (x ∷ xs) (suc i) p e = or_right (same_pair p x) (has_pair p xs) (has_at xs i p e)

pub rises_at : (f : Pair → ℕ) (xs : List Pair) (i j : ℕ) (p q : Pair) → Rises f xs → slice_get xs i ≡ Some p → slice_get xs j ≡ Some q → i < j → f p < f q
rises_at f [] i j p q h e g lt = cc
rises_at f (x ∷ xs) i zero p q h e g lt = absurd (omega (arith, lt))
rises_at f (x ∷ xs) zero (suc j) p q h e g lt = let same : x ≡ p = cc in subst (λ z. f z < f q) same (all_at (λ (r : Pair). f x < f r) xs j q h.0 g)
rises_at f (x ∷ xs) (suc i) (suc j) p q h e g lt = rises_at f xs i j p q h.1 e g (omega (arith, lt))

pub rising : (f : Pair → ℕ) (xs : List Pair) → Rises f xs → IsRising f xs
rising f xs h = record { before = λ i j p q e g lt. rises_at f xs i j p q h e g lt }

pub rising_all : (f : Pair → ℕ) (xs : List Pair) → IsRising f xs → Rises f xs
rising_all f [] h = tt
rising_all f (x ∷ xs) h = (each xs (λ j q g. h.before 0 (suc j) x q refl g (omega arith)), rising_all f xs (record { before = λ i j p q e g lt. h.before (suc i) (suc j) p q e g (omega (arith, lt)) }))
  where
    each : (ys : List Pair) → ((j : ℕ) (q : Pair) → slice_get ys j ≡ Some q → f x < f q) → AllByRecursion (λ (q : Pair). f x < f q) ys
    each [] k = tt
    each (y ∷ ys) k = (k zero y refl, each ys (λ j q g. k (suc j) q g))

place_before : (f : Pair → ℕ) (xs : List Pair) (i j : ℕ) (p q : Pair) → Rises f xs → slice_get xs i ≡ Some p → slice_get xs j ≡ Some q → f q < f p → j < i
place_before f xs i j p q h e g lt = elim (cases_lt j i) [
  | inl l ↦ l
  | inr ge ↦ elim (cases_lt i j) [
    | inl l ↦ let r = rises_at f xs i j p q h e g l in absurd (omega (arith, r, lt))
    | inr le ↦ let same : i ≡ j = omega (arith, ge, le) in let o : Some p ≡ Some q = sym e ∙ ap (slice_get xs) same ∙ g in let is : p ≡ q = cc in let z = ap f is in absurd (omega (arith, z, lt))
  ]
]

place_same : (f : Pair → ℕ) (xs : List Pair) (i j : ℕ) (p q : Pair) → Rises f xs → slice_get xs i ≡ Some p → slice_get xs j ≡ Some q → f p ≡ f q → i ≡ j
place_same f xs i j p q h e g same = elim (cases_lt i j) [
  | inl l ↦ let r = rises_at f xs i j p q h e g l in absurd (omega (arith, r, same))
  | inr ge ↦ elim (cases_lt j i) [
    | inl l ↦ let r = rises_at f xs j i q p h g e l in absurd (omega (arith, r, same))
    | inr le ↦ omega (arith, ge, le)
  ]
]

in_mapped : (f : ℕ → Ranked) (q : ℕ → Bool) (m : ℕ) (ns : List ℕ) → q m ≡ true → In m ns → In (f m) (map f (filter q ns))
in_mapped f q m [] t i = absurd i
in_mapped f q m (n ∷ ns) t (inl e) = subst (λ z. In (f m) (map f (cond z (n ∷ filter q ns) (filter q ns)))) (sym (subst (λ z. q z ≡ true) e t)) (inl (ap f e))
in_mapped f q m (n ∷ ns) t (inr i) = elim (q n) as (λ b. In (f m) (map f (cond b (n ∷ filter q ns) (filter q ns)))) [ true ↦ inr (in_mapped f q m ns t i) | false ↦ in_mapped f q m ns t i ]

abbrev places_of : Board → Table → ℕ → Pair → Bool → List Ranked
places_of b es place p t = elim t as (λ _. List Ranked) [ true ↦ places_in b es place p | false ↦ [] ]

pub in_candidates : (b : Board) (es : Table) (place k at m : ℕ) (p : Pair) (ps : List Pair) → at ≡ place + k → slice_get ps k ≡ Some p → m < length b.cluster.machines → placeable_in b es p.0 p.1 m ≡ true → In (ranked_in b es at p m) (candidates_in b es place ps)
in_candidates b es place k at m p [] s e lt h = cc
in_candidates b es place zero at m p (x ∷ ps) s e lt h =
    let same : x ≡ p = cc in
    let is : at ≡ place = omega (arith, s) in
    let t = both_true (may_grow_in b es p.0 p.1) _ h in
    in_left (ranked_in b es at p m) (places_of b es place x (may_grow_in b es x.0 x.1)) (candidates_in b es (place + 1) ps)
    (subst (λ z. In (ranked_in b es at p m) (places_of b es z x (may_grow_in b es x.0 x.1))) is
    (subst (λ (z : Pair). In (ranked_in b es at p m) (places_of b es at z (may_grow_in b es z.0 z.1))) (sym same)
    (subst (λ z. In (ranked_in b es at p m) (places_of b es at p z)) (sym t.0)
    (in_mapped (ranked_in b es at p) (λ m. accepts_in b es p.0 p.1 m && has_room_in b.cluster b.sizes es p.0 p.1 m) m (below (length b.cluster.machines)) t.1 (in_below (length b.cluster.machines) m (grind (arith, nat_tests, lt)))))))
in_candidates b es place (suc k) at m p (x ∷ ps) s e lt h = in_right (ranked_in b es at p m) (places_of b es place x (may_grow_in b es x.0 x.1)) (candidates_in b es (place + 1) ps) (in_candidates b es (place + 1) k at m p ps (omega (arith, s)) e lt h)

-- whatever holds of each placeable pair by its place holds of all candidates
pub placed_all : (P : Ranked → Type 0) (b : Board) (es : Table) (place : ℕ) (ps : List Pair)
    → ((k at m : ℕ) (p : Pair) → at ≡ place + k → slice_get ps k ≡ Some p → m < length b.cluster.machines → placeable_in b es p.0 p.1 m ≡ true → P (ranked_in b es at p m)) → AllByRecursion P (candidates_in b es place ps)
placed_all P b es place [] h = tt
placed_all P b es place (x ∷ ps) h = all_append P (places_of b es place x (may_grow_in b es x.0 x.1)) (candidates_in b es (place + 1) ps)
    (elim (may_grow_in b es x.0 x.1) as (λ t. may_grow_in b es x.0 x.1 ≡ t → AllByRecursion P (places_of b es place x t)) [
      | true ↦ λ g. all_below P (ranked_in b es place x) (λ m. accepts_in b es x.0 x.1 m && has_room_in b.cluster b.sizes es x.0 x.1 m) (length b.cluster.machines) (λ m lt e. h zero place m x (omega arith) refl lt (and_true (may_grow_in b es x.0 x.1) _ g e))
      | false ↦ λ _. tt
    ] refl)
    (placed_all P b es (place + 1) ps (λ k at m p s e lt t. h (suc k) at m p (omega (arith, s)) e lt t))

pub all_in : {A : Type 0} (P : A → Type 0) (x : A) (xs : List A) → AllByRecursion P xs → In x xs → P x
all_in P x [] h i = absurd i
all_in P x (y ∷ ys) h (inl e) = subst P (sym e) h.0
all_in P x (y ∷ ys) h (inr i) = all_in P x ys h.1 i

record GoesFirst (r x : Ranked) : Type 0 where
  goes : (x ≡ r) ⊎ (comes_before r.rank x.rank ≡ true)

-- the placeable pair that no other comes before by its turn is the first
pub first_by_turn : (b : Board) (es : Table) (f : Pair → ℕ) (line : List Pair) (place m : ℕ) (p : Pair) → Rises f line → slice_get line place ≡ Some p → m < length b.cluster.machines → placeable_in b es p.0 p.1 m ≡ true
    → ((q : Pair) (n : ℕ) → has_pair q line ≡ true → n < length b.cluster.machines → placeable_in b es q.0 q.1 n ≡ true → comes_before (rank_on b es (f q) q n) (rank_on b es (f p) p m) ≡ false)
    → first_in b es line ≡ Some (spot p.0 p.1 m)
first_by_turn b es f line place m p rises at lt h least = first_is (ranked_in b es place p m) (candidates_in b es 0 line) (in_candidates b es 0 place place m p line (omega arith) at lt h)
    (λ x i. (all_in (GoesFirst (ranked_in b es place p m)) x (candidates_in b es 0 line) all i).goes)
  where
    goes_first : (k n : ℕ) (q : Pair) → slice_get line k ≡ Some q → n < length b.cluster.machines → placeable_in b es q.0 q.1 n ≡ true → GoesFirst (ranked_in b es place p m) (ranked_in b es k q n)
    goes_first k n q e l t = record {
      goes = elim (by_place (9 - b.priorities q.0 q.1) (level_of b.cluster b.asks es q.0 q.1 n) (f q) n k (9 - b.priorities p.0 p.1) (level_of b.cluster b.asks es p.0 p.1 m) (f p) m place
          (λ less. place_before f line k place q p rises e at less) (λ same. place_same f line k place q p rises e at same) (least q n (has_at line k q e) l t)) [
            | inl s ↦ inl (let o : Some q ≡ Some p = sym e ∙ ap (slice_get line) s.1.1.0 ∙ at in let is : q ≡ p = cc in λ i. ranked_in b es (s.1.1.0 i) (is i) (s.1.1.1 i))
            | inr before ↦ inr before
          ];
    }

    all : AllByRecursion (GoesFirst (ranked_in b es place p m)) (candidates_in b es 0 line)
    all = placed_all (GoesFirst (ranked_in b es place p m)) b es 0 line (λ k at' n q s e l t. subst (λ z. GoesFirst (ranked_in b es place p m) (ranked_in b es z q n)) (let z : k ≡ at' = omega (arith, s) in z) (goes_first k n q e l t))

record Never (r : Ranked) : Type 0 where
  never : ⊥

no_rank : (rs : List Ranked) → AllByRecursion Never rs → first_of rs ≡ None
no_rank [] h = refl
no_rank (r ∷ rs) h = absurd h.0.never

-- where nothing is placeable there is no first
pub none_first : (b : Board) (es : Table) (f : Pair → ℕ) (line : List Pair) → ((m : ℕ) → m < length b.cluster.machines → IsLeast b es f line None m) → first_in b es line ≡ None
none_first b es f line h = no_rank (candidates_in b es 0 line) (placed_all Never b es 0 line (λ k at m p s e lt t. record { never = (let g : false ≡ true = (h m lt).least p (has_at line k p e) t in absurd (let f : ⊥ = cc in f)) }))

-- where one is found that no other comes before it is the first
pub found_first : (b : Board) (es : Table) (f : Pair → ℕ) (line : List Pair) (x : BestFound) → Rises f line → IsFound b es f line x → ((m : ℕ) → m < length b.cluster.machines → IsLeast b es f line (Some (rank_with x)) m) → first_in b es line ≡ Some (spot_of x.pick)
found_first b es f line x rises is h =
    let p : Pair = (x.pick.app.0, x.pick.unit.0) in
    first_by_turn b es f line is.place x.pick.machine.0 p rises is.at is.there is.placeable
    (λ q n has lt t. let e : not (comes_before (rank_on b es (f q) q n) (rank_with x)) ≡ true = (h n lt).least q has t in
    not_true (comes_before (rank_on b es (f q) q n) (rank_on b es (f p) p x.pick.machine.0)) (subst (λ r. not (comes_before (rank_on b es (f q) q n) (r ++ x.pick.machine.0 ∷ [])) ≡ true) is.rank e))
