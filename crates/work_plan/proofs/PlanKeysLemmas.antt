-- The entries of a unit in a plan stand side by side, and their numbers rise.
use Rattle.std.proofs.Common.{◌≡◌, ℕ, zero, suc, ◌+◌, ◌<◌, ◌≤◌, Bool, true, false, cond, nat_eq, nat_lt, List, [], ◌∷◌, ◌++◌, length, map, filter, take, drop, get_or, refl, sym, ◌∙◌, ap, arith, append-nil}
use Rattle.std.specs.Prelude.{T}
use Rattle.std.specs.List.{AllByRecursion}
use Rattle.std.specs.List.Sorted.{IsNonDecreasingBy}
use Rattle.std.specs.Ordering.{nat_cmp, ordering_then, is_lt}
use Rattle.std.specs.declared.cmp.Ordering.{Ordering}
use Rattle.std.specs.declared.cmp.Ordering.TheVariants.{Less, Equal, Greater}
use Rattle.std.specs.FinMap.Entries.{is_sorted, below_all}
use Rattle.std.proofs.lemmas.Bool.Decides.{nat_tests}
use Rattle.std.proofs.lemmas.List.{get_or-take, get_or-drop, length-drop, length-take, take-append-drop}
use Rattle.std.proofs.lemmas.List.Elements.{filter-append}
use Rattle.fuxi_terms.proofs.Booleans.{both_true, number_is}
use Rattle.fuxi_terms.specs.declared.Key.{Key}
use Rattle.fuxi_terms.specs.Counts.{AreCounts}
use Rattle.fuxi_terms.specs.Keys.{key_cmp}
use Rattle.fuxi_terms.specs.Numbers.{has_number}
use Rattle.fuxi_terms.specs.Limits.{most_units}
use Rattle.work_plan.specs.PlanKeys.{most_workers, greatest_named, of_unit, named}
use Rattle.work_plan.specs.Crews.{Distinct, AreNumbers}

-- the key of an entry names a worker
pub record IsNamed (k : Key) : Type 0 where
  pub kind : k.what ≡ 1
  pub unit : k.unit < most_units
  pub worker : k.number < most_workers

pub is_named : (k : Key) (n : ℕ) → 0 < n → n ≤ greatest_named k → IsNamed k
is_named k n p h = record { kind = grind (arith, nat_tests); unit = grind (arith, nat_tests); worker = grind (arith, nat_tests) }

pub all_named : (es : List (Key × ℕ)) → AllByRecursion (λ e. 0 < e.1) es → AllByRecursion (λ e. e.1 ≤ greatest_named e.0) es → AllByRecursion (λ e. IsNamed e.0) es
all_named [] p h = tt
all_named (e ∷ es) p h = (is_named e.0 e.1 p.0 h.0, all_named es p.1 h.1)

-- Two keys in order
in_order : (a b : ℕ) (r : Ordering) → ordering_then (nat_cmp a b) r ≡ Less → a ≤ b
in_order a b r e = elim (nat_lt a b) as (λ t. nat_lt a b ≡ t → ordering_then (cond t Less (cond (nat_eq a b) Equal Greater)) r ≡ Less → a ≤ b) [
  | true ↦ λ t h. grind (arith, nat_tests)
  | false ↦ λ t. elim (nat_eq a b) as (λ s. nat_eq a b ≡ s → ordering_then (cond s Equal Greater) r ≡ Less → a ≤ b) [ true ↦ λ s h. grind (arith, nat_tests) | false ↦ λ s h. cc ] refl
] refl e

tied : (a : ℕ) → nat_cmp a a ≡ Equal
tied a = grind (arith, nat_tests)

pub units_in_order : (a b : Key) → IsNamed a → IsNamed b → key_cmp a b ≡ Less → a.unit ≤ b.unit
units_in_order a b na nb e = in_order a.unit b.unit (nat_cmp a.number b.number)
    (sym (ap (λ r. ordering_then r (ordering_then (nat_cmp a.unit b.unit) (nat_cmp a.number b.number))) (ap (λ k. nat_cmp a.what k) (nb.kind ∙ sym na.kind) ∙ tied a.what)) ∙ e)

less_apart : (a b : ℕ) → nat_cmp a b ≡ Less → nat_eq a b ≡ false
less_apart a b e = elim (nat_lt a b) as (λ t. nat_lt a b ≡ t → cond t Less (cond (nat_eq a b) Equal Greater) ≡ Less → nat_eq a b ≡ false) [
  | true ↦ λ t h. grind (arith, nat_tests)
  | false ↦ λ t. elim (nat_eq a b) as (λ s. nat_eq a b ≡ s → cond s Equal Greater ≡ Less → s ≡ false) [ true ↦ λ s h. cc | false ↦ λ s h. refl ] refl
] refl e

numbers_apart : (a b : Key) → IsNamed a → IsNamed b → a.unit ≡ b.unit → key_cmp a b ≡ Less → nat_eq a.number b.number ≡ false
numbers_apart a b na nb u e = less_apart a.number b.number
    (sym (ap (λ r. ordering_then r (ordering_then (nat_cmp a.unit b.unit) (nat_cmp a.number b.number))) (ap (λ k. nat_cmp a.what k) (nb.kind ∙ sym na.kind) ∙ tied a.what)
    ∙ ap (λ r. ordering_then r (nat_cmp a.number b.number)) (ap (λ k. nat_cmp a.unit k) (sym u) ∙ tied a.unit)) ∙ e)

is_less : (r : Ordering) → is_lt r ≡ true → r ≡ Less
is_less Less h = refl
is_less Equal h = cc
is_less Greater h = cc

holds : (b : Bool) → T b → b ≡ true
holds true t = refl
holds false t = absurd t

-- the numbers of a unit, each once
apart_from_rest : (u : ℕ) (e : Key × ℕ) (es : List (Key × ℕ)) → e.0.unit ≡ u → IsNamed e.0 → AllByRecursion (λ f. IsNamed f.0) es → below_all key_cmp e.0 es ≡ true → has_number e.0.number (named u es) ≡ false
apart_from_rest u e [] at n ns h = refl
apart_from_rest u e (f ∷ es) at n ns h =
    let b = both_true (is_lt (key_cmp e.0 f.0)) (below_all key_cmp e.0 es) h in
    let rest = apart_from_rest u e es at n ns.1 b.1 in
    elim (nat_eq f.0.unit u) as (λ t. nat_eq f.0.unit u ≡ t → has_number e.0.number (map (λ (e : Key × ℕ). e.0.number) (cond t (f ∷ of_unit u es) (of_unit u es))) ≡ false) [
      | true ↦ λ t. let one = numbers_apart e.0 f.0 n ns.0 (at ∙ sym (number_is f.0.unit u t)) (is_less _ b.0) in rw one rest
      | false ↦ λ t. rest
    ] refl

named_once : (u : ℕ) (es : List (Key × ℕ)) → AllByRecursion (λ f. IsNamed f.0) es → is_sorted key_cmp es ≡ true → Distinct (named u es)
named_once u [] ns h = tt
named_once u (e ∷ es) ns h =
    let b = both_true (below_all key_cmp e.0 es) (is_sorted key_cmp es) h in
    elim (nat_eq e.0.unit u) as (λ t. nat_eq e.0.unit u ≡ t → Distinct (map (λ (e : Key × ℕ). e.0.number) (cond t (e ∷ of_unit u es) (of_unit u es)))) [
      | true ↦ λ t. (apart_from_rest u e es (number_is e.0.unit u t) ns.0 ns.1 b.0, named_once u es ns.1 b.1)
      | false ↦ λ t. named_once u es ns.1 b.1
    ] refl

named_within : (u : ℕ) (es : List (Key × ℕ)) → AllByRecursion (λ f. IsNamed f.0) es → AllByRecursion (λ n. n < most_workers) (named u es)
named_within u [] ns = tt
named_within u (e ∷ es) ns = elim (nat_eq e.0.unit u) as (λ t. AllByRecursion (λ n. n < most_workers) (map (λ (e : Key × ℕ). e.0.number) (cond t (e ∷ of_unit u es) (of_unit u es)))) [
  | true ↦ let n = ns.0 in (n.worker, named_within u es ns.1)
  | false ↦ named_within u es ns.1
]

pub named_are_numbers : (u : ℕ) (es : List (Key × ℕ)) → AreCounts key_cmp greatest_named es → AreNumbers (of_unit u es)
named_are_numbers u es h = let ns = all_named es h.positive h.within in record { within = named_within u es ns; distinct = named_once u es ns (holds (is_sorted key_cmp es) h.sorted) }

-- no job has more units
pub none_beyond : (u : ℕ) (es : List (Key × ℕ)) → most_units ≤ u → AllByRecursion (λ f. IsNamed f.0) es → of_unit u es ≡ []
none_beyond u [] le ns = refl
none_beyond u (e ∷ es) le ns = let n = ns.0 in let lt = n.unit in let f : nat_eq e.0.unit u ≡ false = grind (arith, nat_tests) in ap (λ t. cond t (e ∷ of_unit u es) (of_unit u es)) f ∙ none_beyond u es le ns.1

-- Units do not fall along a plan
below_at : (k : Key) (es : List (Key × ℕ)) (j : ℕ) (d : Key × ℕ) → below_all key_cmp k es ≡ true → j < length es → key_cmp k (get_or es j d).0 ≡ Less
below_at k [] j d h lt = absurd (omega (arith, lt))
below_at k (e ∷ es) zero d h lt = is_less _ (both_true (is_lt (key_cmp k e.0)) (below_all key_cmp k es) h).0
below_at k (e ∷ es) (suc j) d h lt = below_at k es j d (both_true (is_lt (key_cmp k e.0)) (below_all key_cmp k es) h).1 (omega (arith, lt))

named_at : (es : List (Key × ℕ)) (j : ℕ) (d : Key × ℕ) → AllByRecursion (λ f. IsNamed f.0) es → j < length es → IsNamed (get_or es j d).0
named_at [] j d ns lt = absurd (omega (arith, lt))
named_at (e ∷ es) zero d ns lt = ns.0
named_at (e ∷ es) (suc j) d ns lt = named_at es j d ns.1 (omega (arith, lt))

units_rise : (es : List (Key × ℕ)) → AllByRecursion (λ f. IsNamed f.0) es → is_sorted key_cmp es ≡ true → (i j : ℕ) (d : Key × ℕ) → i ≤ j → j < length es → (get_or es i d).0.unit ≤ (get_or es j d).0.unit
units_rise [] ns h i j d le lt = absurd (omega (arith, lt))
units_rise (e ∷ es) ns h zero zero d le lt = omega arith
units_rise (e ∷ es) ns h zero (suc j) d le lt = let b = both_true (below_all key_cmp e.0 es) (is_sorted key_cmp es) h in
    let in' : j < length es = omega (arith, lt) in
    units_in_order e.0 (get_or es j d).0 ns.0 (named_at es j d ns.1 in') (below_at e.0 es j d b.0 in')
units_rise (e ∷ es) ns h (suc i) zero d le lt = absurd (omega (arith, le))
units_rise (e ∷ es) ns h (suc i) (suc j) d le lt = units_rise es ns.1 (both_true (below_all key_cmp e.0 es) (is_sorted key_cmp es) h).1 i j d (omega (arith, le)) (omega (arith, lt))

pub plan_rises : (es : List (Key × ℕ)) → AreCounts key_cmp greatest_named es → IsNonDecreasingBy (λ (e : Key × ℕ). e.0.unit) es
plan_rises es h i j d le lt = units_rise es (all_named es h.positive h.within) (holds (is_sorted key_cmp es) h.sorted) i j d le lt

-- A part of a list outside of which nothing passes
module _ {A : Type 0} (p : A → Bool) where
  passes_all : (xs : List A) → ((i : ℕ) (d : A) → i < length xs → p (get_or xs i d) ≡ true) → filter p xs ≡ xs
  passes_all [] h = refl
  passes_all (x ∷ xs) h = ap (λ t. cond t (x ∷ filter p xs) (filter p xs)) (h zero x (omega arith)) ∙ ap (λ ys. x ∷ ys) (passes_all xs (λ i d lt. h (suc i) d (omega (arith, lt))))

  passes_none : (xs : List A) → ((i : ℕ) (d : A) → i < length xs → p (get_or xs i d) ≡ false) → filter p xs ≡ []
  passes_none [] h = refl
  passes_none (x ∷ xs) h = ap (λ t. cond t (x ∷ filter p xs) (filter p xs)) (h zero x (omega arith)) ∙ passes_none xs (λ i d lt. h (suc i) d (omega (arith, lt)))

  passes_part : (front xs back : List A) → filter p front ≡ [] → filter p xs ≡ xs → filter p back ≡ [] → filter p (front ++ (xs ++ back)) ≡ xs
  passes_part front xs back none all end = filter-append p front (xs ++ back) ∙ ap (λ ys. ys ++ filter p (xs ++ back)) none ∙ filter-append p xs back ∙ ap (λ ys. filter p xs ++ ys) end ∙ append-nil (filter p xs) ∙ all

-- the numbers below u, then those that are u, then the others
pub unit_part : (u : ℕ) (es : List (Key × ℕ)) (first count : ℕ) → first ≤ length es → count ≤ length (drop first es)
    → ((i : ℕ) (d : Key × ℕ) → i < first → (get_or es i d).0.unit < u)
    → ((i : ℕ) (d : Key × ℕ) → first ≤ i → i < length es → u ≤ (get_or es i d).0.unit)
    → ((i : ℕ) (d : Key × ℕ) → i < count → (get_or (drop first es) i d).0.unit ≤ u)
    → ((i : ℕ) (d : Key × ℕ) → count ≤ i → i < length (drop first es) → u < (get_or (drop first es) i d).0.unit)
    → take count (drop first es) ≡ of_unit u es
unit_part u es first count le in' before from upto behind =
    let p : Key × ℕ → Bool = λ e. nat_eq e.0.unit u in
    let back = drop first es in
    let own = take count back in
    let whole : take first es ++ (own ++ drop count back) ≡ es = ap (λ ys. take first es ++ ys) (take-append-drop count back) ∙ take-append-drop first es in
    sym (sym (ap (filter p) whole) ∙ passes_part p (take first es) own (drop count back)
    (passes_none p (take first es) (λ i d lt. let l = length-take first es in let h : i < first = omega (arith, l, lt) in let b = before i d h in let e = ap (λ (x : Key × ℕ). x.0.unit) (get_or-take first es i d h) in is_other (get_or (take first es) i d).0.unit (omega (arith, b, e))))
    (passes_all p own (λ i d lt. let l = length-take count back in let h : i < count = omega (arith, l, lt) in let b = upto i d h in let e = ap (λ (x : Key × ℕ). x.0.unit) (get_or-take count back i d h) in
    let g = get_or-drop first es i d in let f = ap (λ (x : Key × ℕ). x.0.unit) g in let long = length-drop first es in let k = from (first + i) d (omega arith) (omega (arith, long, h, in', le)) in is_one (get_or own i d).0.unit (omega (arith, b, e)) (omega (arith, e, f, k))))
    (passes_none p (drop count back) (λ i d lt. let l = length-drop count back in let h = behind (count + i) d (omega arith) (omega (arith, l, lt)) in let e = ap (λ (x : Key × ℕ). x.0.unit) (get_or-drop count back i d) in is_more (get_or (drop count back) i d).0.unit (omega (arith, h, e)))))
  where
    is_other : (n : ℕ) → n < u → nat_eq n u ≡ false
    is_other n lt = grind (arith, nat_tests)

    is_more : (n : ℕ) → u < n → nat_eq n u ≡ false
    is_more n lt = grind (arith, nat_tests)

    is_one : (n : ℕ) → n ≤ u → u ≤ n → nat_eq n u ≡ true
    is_one n a b = grind (arith, nat_tests)
