-- The pair that is placed waits in the line, and what one grant makes of what is out and of the line.
use Rattle.std.proofs.Common.{◌≡◌, ℕ, ◌+◌, ◌<◌, ◌≤◌, Bool, true, false, cond, not, nat_eq, nat_lt, List, [], ◌∷◌, Some, length, filter, refl, sym, ◌∙◌, ap, subst, arith, inl, inr}
use Rattle.std.specs.Prelude.{◌&&◌, ◌||◌}
use Rattle.std.specs.List.{AllByRecursion, sum_by}
use Rattle.std.specs.Ordering.{nat_cmp, is_lt}
use Rattle.std.specs.Cmp.Lexicographic.{slice_cmp}
use Rattle.std.proofs.lemmas.Bool.Decides.{nat_tests}
use Rattle.fuxi_terms.specs.declared.Key.{Key}
use Rattle.fuxi_terms.specs.Keys.{Spot, Pair}
use Rattle.fuxi_terms.specs.Lists.{below}
use Rattle.fuxi_terms.proofs.Alls.{all_append, all_more, all_mapped, all_passed}
use Rattle.fuxi_terms.proofs.Booleans.{both_true, number_is, nat_itself, or_right, eq_turned}
use Rattle.fuxi_terms.proofs.Members.{In, sum_lt, sum_filter}
use Rattle.fuxi_terms.specs.Tables.{Table}
use Rattle.spec_roles.specs.Masters.{out_of}
use Rattle.spec_roles.specs.Placing.{Board, Ranked, ranked_in, places_in, candidates_in, may_grow_in, accepts_in, has_room_in, least, first_of, first_in, has_pair, line_after}

-- ---- the pair that is placed stands in the line, and something of it is out
record IsCandidate (b : Board) (table : Table) (line : List Pair) (r : Ranked) : Type 0 where
  waits : In (r.spot.job, r.spot.unit) line
  out : 0 < out_of b.asks table r.spot.job r.spot.unit

least_is : (P : Ranked → Type 0) (r : Ranked) (rs : List Ranked) → P r → AllByRecursion P rs → P (least r rs)
least_is P r [] h k = h
least_is P r (s ∷ ss) h k = least_is P (cond (is_lt (slice_cmp nat_cmp s.rank r.rank)) s r) ss (elim (is_lt (slice_cmp nat_cmp s.rank r.rank)) as (λ b. P (cond b s r)) [ true ↦ k.0 | false ↦ h ]) k.1

all_candidates : (b : Board) (table : Table) (place : ℕ) (line : List Pair) → AllByRecursion (IsCandidate b table line) (candidates_in b table place line)
all_candidates b table place [] = tt
all_candidates b table place (p ∷ ps) = all_append (IsCandidate b table (p ∷ ps)) (elim (may_grow_in b table p.0 p.1) as (λ _. List Ranked) [ true ↦ places_in b table place p | false ↦ [] ]) (candidates_in b table (place + 1) ps)
    (elim (may_grow_in b table p.0 p.1) as (λ t. may_grow_in b table p.0 p.1 ≡ t → AllByRecursion (IsCandidate b table (p ∷ ps)) (elim t as (λ _. List Ranked) [ true ↦ places_in b table place p | false ↦ [] ])) [
      | true ↦ λ g. all_mapped (IsCandidate b table (p ∷ ps)) (ranked_in b table place p) (filter (λ m. accepts_in b table p.0 p.1 m && has_room_in b.cluster b.sizes table p.0 p.1 m) (below (length b.cluster.machines)))
          (all_passed (λ m. IsCandidate b table (p ∷ ps) (ranked_in b table place p m)) (λ m. accepts_in b table p.0 p.1 m && has_room_in b.cluster b.sizes table p.0 p.1 m) (below (length b.cluster.machines)) (λ m _. record { waits = inl refl; out = outs p g }))
      | false ↦ λ _. tt
    ] refl)
    (all_more (IsCandidate b table ps) (IsCandidate b table (p ∷ ps)) (λ r h. record { waits = inr h.waits; out = h.out }) (candidates_in b table (place + 1) ps) (all_candidates b table (place + 1) ps))
  where
    outs : (p : Pair) → may_grow_in b table p.0 p.1 ≡ true → 0 < out_of b.asks table p.0 p.1
    outs p g = let rest = (both_true b.serving _ g).1 in let t = (both_true (nat_lt 0 (out_of b.asks table p.0 p.1)) _ rest).0 in grind (arith, nat_tests, t)

pub record IsWaiting (asks : ℕ → Key → ℕ) (table : Table) (line : List Pair) (s : Spot) : Type 0 where
  pub waits : In (s.job, s.unit) line
  pub out : 0 < out_of asks table s.job s.unit

pub first_waits : (b : Board) (table : Table) (line : List Pair) (s : Spot) → first_in b table line ≡ Some s → IsWaiting b.asks table line s
first_waits b table line s e = by (candidates_in b table 0 line) (all_candidates b table 0 line) e
  where
    by : (rs : List Ranked) → AllByRecursion (IsCandidate b table line) rs → first_of rs ≡ Some s → IsWaiting b.asks table line s
    by [] h e = cc
    by (r ∷ rs) h e = let same : (least r rs).spot ≡ s = cc in let k = least_is (IsCandidate b table line) r rs h.0 h.1 in subst (IsWaiting b.asks table line) same (record { waits = k.waits; out = k.out })

-- ---- the line after one grant: what is out falls at one pair alone
pub pair_flipped : (a u b v : ℕ) → (nat_eq a b && nat_eq u v) ≡ (nat_eq b a && nat_eq v u)
pair_flipped a u b v = λ i. eq_turned a b i && eq_turned u v i

module _ (asks : ℕ → Key → ℕ) (old new : Table) (a u : ℕ) (others : (b v : ℕ) → (nat_eq b a && nat_eq v u) ≡ false → out_of asks new b v ≡ out_of asks old b v) where
  abbrev is_it : Pair → Bool
  is_it p = nat_eq p.0 a && nat_eq p.1 u

  each_waits : (line : List Pair) → ((b v : ℕ) → has_pair (b, v) line ≡ true → nat_lt 0 (out_of asks old b v) ≡ true) → AllByRecursion (λ (p : Pair). nat_lt 0 (out_of asks old p.0 p.1) ≡ true) line
  each_waits [] h = tt
  each_waits (p ∷ ps) h = (h p.0 p.1 (λ i. (nat_itself p.0 i && nat_itself p.1 i) || has_pair p ps), each_waits ps (λ b v t. h b v (or_right (nat_eq b p.0 && nat_eq v p.1) _ t)))

  -- only at this pair may nothing be out any more
  out_is : (p : Pair) → nat_lt 0 (out_of asks old p.0 p.1) ≡ true → nat_lt 0 (out_of asks new p.0 p.1) ≡ cond (is_it p) (nat_lt 0 (out_of asks new a u)) true
  out_is p w = elim (is_it p) as (λ b. is_it p ≡ b → nat_lt 0 (out_of asks new p.0 p.1) ≡ cond b (nat_lt 0 (out_of asks new a u)) true) [
    | true ↦ λ t. let h = both_true (nat_eq p.0 a) (nat_eq p.1 u) t in λ i. nat_lt 0 (out_of asks new (number_is p.0 a h.0 i) (number_is p.1 u h.1 i))
    | false ↦ λ f. ap (nat_lt 0) (others p.0 p.1 f) ∙ w
  ] refl

  left : (o : Bool) (line : List Pair) → cond o line (filter (λ p. not (is_it p)) line) ≡ filter (λ p. cond (is_it p) o true) line
  left true [] = refl
  left true (p ∷ ps) = elim (is_it p) as (λ b. p ∷ ps ≡ cond (cond b true true) (p ∷ filter (λ p. cond (is_it p) true true) ps) (filter (λ p. cond (is_it p) true true) ps)) [ true ↦ ap (λ l. p ∷ l) (left true ps) | false ↦ ap (λ l. p ∷ l) (left true ps) ]
  left false [] = refl
  left false (p ∷ ps) = elim (is_it p) as (λ b. cond (not b) (p ∷ filter (λ p. not (is_it p)) ps) (filter (λ p. not (is_it p)) ps) ≡ cond (cond b false true) (p ∷ filter (λ p. cond (is_it p) false true) ps) (filter (λ p. cond (is_it p) false true) ps)) [ true ↦ left false ps | false ↦ ap (λ l. p ∷ l) (left false ps) ]

  filters : (o : Bool) → nat_lt 0 (out_of asks new a u) ≡ o → (line : List Pair) → AllByRecursion (λ (p : Pair). nat_lt 0 (out_of asks old p.0 p.1) ≡ true) line → filter (λ p. cond (is_it p) o true) line ≡ line_after asks new line
  filters o e [] h = refl
  filters o e (p ∷ ps) h = λ i. cond ((ap (λ x. cond (is_it p) x true) (sym e) ∙ sym (out_is p h.0)) i) (p ∷ filters o e ps h.1 i) (filters o e ps h.1 i)

  -- where the pair has nothing out any more it leaves the line
  pub line_granted : (line : List Pair) → ((b v : ℕ) → has_pair (b, v) line ≡ true → nat_lt 0 (out_of asks old b v) ≡ true)
      → cond (nat_lt 0 (out_of asks new a u)) line (filter (λ (p : Pair). not (nat_eq p.0 a && nat_eq p.1 u)) line) ≡ line_after asks new line
  line_granted line waits = left (nat_lt 0 (out_of asks new a u)) line ∙ filters (nat_lt 0 (out_of asks new a u)) refl line (each_waits line waits)

  -- all that is out falls
  pub fewer_out : (line : List Pair) → In (a, u) line → out_of asks new a u < out_of asks old a u → sum_by (λ (p : Pair). out_of asks new p.0 p.1) (line_after asks new line) < sum_by (λ (p : Pair). out_of asks old p.0 p.1) line
  fewer_out line i less =
      let kept = sum_filter (λ (p : Pair). out_of asks new p.0 p.1) (λ (p : Pair). nat_lt 0 (out_of asks new p.0 p.1)) line in
      let falls = sum_lt (λ (p : Pair). out_of asks new p.0 p.1) (λ (p : Pair). out_of asks old p.0 p.1) (a, u) line most i less in
      omega (arith, kept, falls)
    where
      most : (p : Pair) → out_of asks new p.0 p.1 ≤ out_of asks old p.0 p.1
      most p = elim (is_it p) as (λ b. is_it p ≡ b → out_of asks new p.0 p.1 ≤ out_of asks old p.0 p.1) [
        | true ↦ λ t. let h = both_true (nat_eq p.0 a) (nat_eq p.1 u) t in subst (λ (q : Pair). out_of asks new q.0 q.1 ≤ out_of asks old q.0 q.1) (λ i. (sym (number_is p.0 a h.0) i, sym (number_is p.1 u h.1) i)) (omega (arith, less))
        | false ↦ λ f. let same = others p.0 p.1 f in omega (arith, same)
      ] refl
