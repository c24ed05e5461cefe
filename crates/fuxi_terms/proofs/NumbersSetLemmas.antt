-- The change that sets numbers makes of a map what it is with these numbers set.
use Rattle.std.proofs.Common.{◌≡◌, ℕ, ◌-◌, ◌<◌, ◌≤◌, Bool, true, false, cond, nat_eq, nat_lt, List, [], ◌∷◌, length, Some, Ok, Err, refl, sym, ◌∙◌, ap, subst, arith}
use Rattle.std.specs.Prelude.{ℤ, pos, negsuc, T, unsigned_abs}
use Rattle.std.specs.Option.{is_some}
use Rattle.std.specs.Ordering.{eq_by_cmp, is_eq}
use Rattle.std.specs.Cmp.{IsTotalOrder, tied_itself}
use Rattle.std.specs.List.{AllByRecursion}
use Rattle.std.specs.declared.cmp.Ordering.{Ordering}
use Rattle.std.specs.declared.cmp.Ordering.TheVariants.{Equal}
use Rattle.std.specs.FinMap.Entries.{below_all, find, is_sorted}
use Rattle.std.proofs.lemmas.Bool.Decides.{nat_tests}
use Rattle.fuxi_terms.specs.Counts.{moved, change_between, is_no_change, count, set_count, set_moved, change_one, change_all, then_do, differences, difference, AreCounts}
use Rattle.fuxi_terms.proofs.Booleans.{number_is, nat_itself}
use Rattle.fuxi_terms.proofs.CountsLemmas.{both_true, tied, below_none, moved_between, same_counts, count_le, count-set_count, counts-set_count}
use Rattle.fuxi_terms.specs.NumbersSet.{numbers_set, moves}

-- the change between two numbers
pub real_change : (a b : ℕ) → nat_eq a b ≡ false → is_no_change (change_between a b) ≡ false
real_change a b differ = by (nat_lt b a) refl
  where
    by : (t : Bool) → nat_lt b a ≡ t → is_no_change (cond t (negsuc (a - b - 1)) (pos (b - a))) ≡ false
    by true less = refl
    by false less = grind (arith, nat_tests, differ, less)

pub change_within : (a b m : ℕ) → a ≤ m → b ≤ m → unsigned_abs (change_between a b) ≤ m
change_within a b m la lb = by (nat_lt b a) refl
  where
    by : (t : Bool) → nat_lt b a ≡ t → unsigned_abs (cond t (negsuc (a - b - 1)) (pos (b - a))) ≤ m
    by true less = let lt : b < a = grind (arith, nat_tests, less) in omega (arith, lt, la)
    by false less = omega (arith, lb)

module _ {K : Type 0} {R : K → K → Ordering} (o : IsTotalOrder R) (same : (x y : K) → R x y ≡ Equal → x ≡ y) (greatest : K → ℕ) where
  pub itself : (k : K) → eq_by_cmp R k k ≡ true
  itself k = ap is_eq (tied_itself o k)

  key_is : (q k : K) → eq_by_cmp R q k ≡ true → q ≡ k
  key_is q k e = same q k (tied _ e)

  -- a number that is set as it is
  pub set_same : (es : List (K × ℕ)) (k : K) → AreCounts R greatest es → set_count R es k (count R es k) ≡ es
  set_same es k h = same_counts o same greatest (set_count R es k (count R es k)) es (counts-set_count o greatest same es k (count R es k) (count_le o same greatest es k h.within) h) h
      (λ q. count-set_count o es k (count R es k) q ∙ by q (eq_by_cmp R q k) refl)
    where
      by : (q : K) (b : Bool) → eq_by_cmp R q k ≡ b → cond b (count R es k) (count R es q) ≡ count R es q
      by q true t = ap (count R es) (sym (key_is q k t))
      by q false t = refl

  -- a key of those that are left is another than the first
  pub other : (k : K) (v : ℕ) (ns : List (K × ℕ)) → T (below_all R k ns) → (q : K) → is_some (find R q ns) ≡ true → eq_by_cmp R q k ≡ false
  other k v ns below q in_ns = by (eq_by_cmp R q k) refl
    where
      by : (b : Bool) → eq_by_cmp R q k ≡ b → b ≡ false
      by true t = let none : is_some (find R q ns) ≡ false = subst (λ x. is_some (find R x ns) ≡ false) (sym (key_is q k t)) (ap is_some (below_none R k ns below)) in cc
      by false t = refl

  pub later : (n : K × ℕ) (ns : List (K × ℕ)) → T (below_all R n.0 ns) → (q : K) → is_some (find R q ns) ≡ true → is_some (find R q (n ∷ ns)) ≡ true
  later n ns below q in_ns = ap (λ b. is_some (cond b (Some n.1) (find R q ns))) (other n.0 n.1 ns below q in_ns) ∙ in_ns

  pub first_in : (n : K × ℕ) (ns : List (K × ℕ)) → is_some (find R n.0 (n ∷ ns)) ≡ true
  first_in n ns = ap (λ b. is_some (cond b (Some n.1) (find R n.0 ns))) (itself n.0)

  -- after the first is set, the others have the numbers that they had
  pub untouched : (old es : List (K × ℕ)) (n : K × ℕ) (ns : List (K × ℕ)) → T (below_all R n.0 ns) → ((q : K) → is_some (find R q (n ∷ ns)) ≡ true → count R es q ≡ count R old q)
      → (q : K) → is_some (find R q ns) ≡ true → count R (set_count R es n.0 n.1) q ≡ count R old q
  untouched old es n ns below is q in_ns = count-set_count o es n.0 n.1 q ∙ ap (λ b. cond b n.1 (count R es q)) (other n.0 n.1 ns below q in_ns) ∙ is q (later n ns below q in_ns)

  pub set_counts : (es ns : List (K × ℕ)) → AreCounts R greatest es → AllByRecursion (λ n. n.1 ≤ greatest n.0) ns → AreCounts R greatest (numbers_set R es ns)
  set_counts es [] h within = h
  set_counts es (n ∷ ns) h within = set_counts (set_count R es n.0 n.1) ns (counts-set_count o greatest same es n.0 n.1 within.0 h) within.1

  module _ {E : Type 0} (low : K → ℕ → ℤ → E) (high : K → E) where
    -- one change
    pub one_made : (old es : List (K × ℕ)) (n : K × ℕ) → n.1 ≤ greatest n.0 → count R es n.0 ≡ count R old n.0 → change_one R low high greatest es n.0 (change_between (count R old n.0) n.1) ≡ Ok (set_count R es n.0 n.1)
    one_made old es n le is =
        let k = n.0 in
        let within : nat_lt (greatest k) n.1 ≡ false = grind (arith, nat_tests, le) in
        let there : moved (count R es k) (change_between (count R old k) n.1) ≡ Some n.1 = subst (λ c. moved c (change_between (count R old k) n.1) ≡ Some n.1) (sym is) (moved_between (count R old k) n.1) in
        ap (set_moved R low high greatest es k (count R es k) (change_between (count R old k) n.1)) there ∙ ap (λ b. cond b (Err (high k)) (Ok (set_count R es k n.1))) within

    pub moves_make : (old es ns : List (K × ℕ)) → AreCounts R greatest es → T (is_sorted R ns) → AllByRecursion (λ n. n.1 ≤ greatest n.0) ns → ((q : K) → is_some (find R q ns) ≡ true → count R es q ≡ count R old q)
        → change_all R low high greatest es (moves R old ns) ≡ Ok (numbers_set R es ns)
    moves_make old es [] h s within is = refl
    moves_make old es (n ∷ ns) h s within is =
        let parts = both_true (below_all R n.0 ns) (is_sorted R ns) s in
        let here = is n.0 (first_in n ns) in
        elim (nat_eq (count R old n.0) n.1) as (λ b. nat_eq (count R old n.0) n.1 ≡ b → change_all R low high greatest es (cond b (moves R old ns) ((n.0, change_between (count R old n.0) n.1) ∷ moves R old ns)) ≡ Ok (numbers_set R (set_count R es n.0 n.1) ns)) [
          | true ↦ λ t.
              let stays : set_count R es n.0 n.1 ≡ es = ap (set_count R es n.0) (sym (here ∙ number_is (count R old n.0) n.1 t)) ∙ set_same es n.0 h in
              moves_make old es ns h parts.1 within.1 (λ q in_ns. is q (later n ns parts.0 q in_ns)) ∙ ap (λ fs. Ok (numbers_set R fs ns)) (sym stays)
          | false ↦ λ t.
              let set = set_count R es n.0 n.1 in
              ap (λ r. then_do r (λ fs. change_all R low high greatest fs (moves R old ns))) (one_made old es n within.0 here)
              ∙ moves_make old set ns (counts-set_count o greatest same es n.0 n.1 within.0 h) parts.1 within.1 (untouched old es n ns parts.0 is)
        ] refl

-- how many changes there are, and how great
pub moves_few : {K : Type 0} (R : K → K → Ordering) (es ns : List (K × ℕ)) → length (moves R es ns) ≤ length ns
moves_few R es [] = omega arith
moves_few R es (n ∷ ns) = let rest = moves_few R es ns in elim (nat_eq (count R es n.0) n.1) as (λ b. length (cond b (moves R es ns) ((n.0, change_between (count R es n.0) n.1) ∷ moves R es ns)) ≤ length (n ∷ ns)) [ true ↦ omega (arith, rest) | false ↦ omega (arith, rest) ]

pub moves_within : {K : Type 0} (R : K → K → Ordering) (greatest : K → ℕ) (es ns : List (K × ℕ)) → ((k : K) → count R es k ≤ greatest k) → AllByRecursion (λ n. n.1 ≤ greatest n.0) ns → AllByRecursion (λ c. unsigned_abs c.1 ≤ greatest c.0) (moves R es ns)
moves_within R greatest es [] le h = tt
moves_within R greatest es (n ∷ ns) le h = elim (nat_eq (count R es n.0) n.1) as (λ b. AllByRecursion (λ c. unsigned_abs c.1 ≤ greatest c.0) (cond b (moves R es ns) ((n.0, change_between (count R es n.0) n.1) ∷ moves R es ns))) [
  | true ↦ moves_within R greatest es ns le h.1
  | false ↦ (change_within (count R es n.0) n.1 (greatest n.0) (le n.0) h.0, moves_within R greatest es ns le h.1)
]

-- there is no difference of a map to itself
pub no_difference : {K : Type 0} (R : K → K → Ordering) (es : List (K × ℕ)) → difference R es es ≡ []
no_difference R es = by _
  where
    by : (js : List _) → differences R es es js ≡ []
    by [] = refl
    by (j ∷ js) = ap (λ b. cond b (differences R es es js) ((j.0, change_between (count R es j.0) (count R es j.0)) ∷ differences R es es js)) (nat_itself (count R es j.0)) ∙ by js
