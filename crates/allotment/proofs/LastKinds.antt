-- The entries of the last kind stand side by side behind all others.
use Rattle.std.proofs.Common.{◌≡◌, ℕ, zero, suc, ◌<◌, ◌≤◌, true, false, cond, nat_eq, nat_lt, List, [], ◌∷◌, length, drop, get_or, refl, sym, ◌∙◌, ap, arith}
use Rattle.std.specs.Prelude.{T}
use Rattle.std.specs.List.{AllByRecursion}
use Rattle.std.specs.List.Sorted.{IsNonDecreasingBy}
use Rattle.std.specs.Ordering.{nat_cmp, is_lt, ordering_then}
use Rattle.std.specs.declared.cmp.Ordering.{Ordering}
use Rattle.std.specs.declared.cmp.Ordering.TheVariants.{Less, Equal, Greater}
use Rattle.std.specs.FinMap.Entries.{below_all, is_sorted, where_key}
use Rattle.std.proofs.lemmas.Bool.Decides.{nat_tests}
use Rattle.fuxi_terms.specs.Counts.{AreCounts}
use Rattle.fuxi_terms.specs.declared.Key.{Key}
use Rattle.fuxi_terms.specs.Keys.{key_cmp}
use Rattle.fuxi_terms.specs.TallyKeys.{greatest_demand, greatest_grant}
use Rattle.fuxi_terms.proofs.CountsLemmas.{both_true, lesser}

-- a greatest number of 0 is no kind's, so no kind is above the last one
demand_kind : (k : Key) (n : ℕ) → 0 < n → n ≤ greatest_demand k → k.what ≤ 5
demand_kind k n p h = grind (arith, nat_tests)

grant_kind : (k : Key) (n : ℕ) → 0 < n → n ≤ greatest_grant k → k.what ≤ 3
grant_kind k n p h = grind (arith, nat_tests)

all_of : (greatest : Key → ℕ) (last : ℕ) → ((k : Key) (n : ℕ) → 0 < n → n ≤ greatest k → k.what ≤ last) → (es : List (Key × ℕ)) → AllByRecursion (λ e. 0 < e.1) es → AllByRecursion (λ e. e.1 ≤ greatest e.0) es → AllByRecursion (λ e. e.0.what ≤ last) es
all_of greatest last one [] p h = tt
all_of greatest last one (e ∷ es) p h = (one e.0 e.1 p.0 h.0, all_of greatest last one es p.1 h.1)

pub demand_kinds : (es : List (Key × ℕ)) → AreCounts key_cmp greatest_demand es → AllByRecursion (λ e. e.0.what ≤ 5) es
demand_kinds es h = all_of greatest_demand 5 demand_kind es h.positive h.within

pub grant_kinds : (es : List (Key × ℕ)) → AreCounts key_cmp greatest_grant es → AllByRecursion (λ e. e.0.what ≤ 3) es
grant_kinds es h = all_of greatest_grant 3 grant_kind es h.positive h.within

-- kinds do not fall where keys rise
in_order : (a b : ℕ) (r : Ordering) → ordering_then (nat_cmp a b) r ≡ Less → a ≤ b
in_order a b r e = elim (nat_lt a b) as (λ t. nat_lt a b ≡ t → ordering_then (cond t Less (cond (nat_eq a b) Equal Greater)) r ≡ Less → a ≤ b) [
  | true ↦ λ t h. grind (arith, nat_tests)
  | false ↦ λ t. elim (nat_eq a b) as (λ s. nat_eq a b ≡ s → ordering_then (cond s Equal Greater) r ≡ Less → a ≤ b) [ true ↦ λ s h. grind (arith, nat_tests) | false ↦ λ s h. cc ] refl
] refl e

below_at : (k : Key) (es : List (Key × ℕ)) (j : ℕ) (d : Key × ℕ) → T (below_all key_cmp k es) → j < length es → key_cmp k (get_or es j d).0 ≡ Less
below_at k [] j d h lt = absurd (omega (arith, lt))
below_at k (e ∷ es) zero d h lt = lesser (key_cmp k e.0) (both_true (is_lt (key_cmp k e.0)) _ h).0
below_at k (e ∷ es) (suc j) d h lt = below_at k es j d (both_true (is_lt (key_cmp k e.0)) _ h).1 (omega (arith, lt))

pub kinds_rise : (es : List (Key × ℕ)) → T (is_sorted key_cmp es) → IsNonDecreasingBy (λ e. e.0.what) es
kinds_rise [] h i j d le lt = absurd (omega (arith, lt))
kinds_rise (e ∷ es) h zero zero d le lt = omega arith
kinds_rise (e ∷ es) h zero (suc j) d le lt =
    let f = get_or es j d in
    in_order e.0.what f.0.what (ordering_then (nat_cmp e.0.unit f.0.unit) (nat_cmp e.0.number f.0.number)) (below_at e.0 es j d (both_true (below_all key_cmp e.0 es) _ h).0 (omega (arith, lt)))
kinds_rise (e ∷ es) h (suc i) zero d le lt = absurd (omega (arith, le))
kinds_rise (e ∷ es) h (suc i) (suc j) d le lt = kinds_rise es (both_true (below_all key_cmp e.0 es) _ h).1 i j d (omega (arith, le)) (omega (arith, lt))

pub last_part : (w n : ℕ) (es : List (Key × ℕ)) → n ≤ length es → AllByRecursion (λ e. e.0.what ≤ w) es → ((i : ℕ) (d : Key × ℕ) → i < n → (get_or es i d).0.what < w) → ((i : ℕ) (d : Key × ℕ) → n ≤ i → i < length es → w ≤ (get_or es i d).0.what)
    → drop n es ≡ where_key key_cmp (λ k. nat_eq k.what w) es
last_part w zero [] le kinds before behind = refl
last_part w (suc n) [] le kinds before behind = absurd (omega (arith, le))
last_part w zero (e ∷ es) le kinds before behind =
    let least = behind 0 e (omega arith) (omega arith) in
    let most = kinds.0 in
    let is : nat_eq e.0.what w ≡ true = grind (arith, nat_tests, least, most) in
    let rest = last_part w zero es (omega arith) kinds.1 (λ i d lt. absurd (omega (arith, lt))) (λ i d l lt. behind (suc i) d (omega arith) (omega (arith, lt))) in
    ap (λ l. e ∷ l) rest ∙ sym (ap (λ b. cond b (e ∷ where_key key_cmp (λ k. nat_eq k.what w) es) (where_key key_cmp (λ k. nat_eq k.what w) es)) is)
last_part w (suc n) (e ∷ es) le kinds before behind =
    let less = before 0 e (omega arith) in
    let not : nat_eq e.0.what w ≡ false = grind (arith, nat_tests, less) in
    let rest = last_part w n es (omega (arith, le)) kinds.1 (λ i d lt. before (suc i) d (omega (arith, lt))) (λ i d l lt. behind (suc i) d (omega (arith, l)) (omega (arith, lt))) in
    rest ∙ sym (ap (λ b. cond b (e ∷ where_key key_cmp (λ k. nat_eq k.what w) es) (where_key key_cmp (λ k. nat_eq k.what w) es)) not)
