-- The total of a row, entry by entry.
use Rattle.std.proofs.Common.{◌≡◌, ℕ, zero, suc, ◌+◌, ◌*◌, ◌<◌, ◌≤◌, ◌^◌, Bool, true, false, List, [], ◌∷◌, ◌++◌, length, get_or, drop, map, refl, sym, ◌∙◌, ap, subst, arith, add-one, drop-cons, lit≤, lit<, not, nat_eq, nat_lt}
use Rattle.std.specs.Prelude.{T, replicate, ◌&&◌, ◌-◌}
use Rattle.std.specs.List.{All, AllByRecursion, sum_by}
use Rattle.std.proofs.lemmas.List.Sums.{sum_by-cons}
use Rattle.std.proofs.lemmas.List.Elements.{All-from_recursion, All-append}
use Rattle.std.proofs.lemmas.List.{drop_all}
use Rattle.fuxi_terms.specs.Keys.{RowKey}
use Rattle.fuxi_terms.specs.Cluster.{are_quantities, is_vector_of}
use Rattle.fuxi_terms.specs.Vectors.{plus, times, fits, is_zero}
use Rattle.fuxi_terms.specs.Totals.{total_of}
use Rattle.fuxi_terms.proofs.ByPlace.{length-times}
use Rattle.fuxi_terms.proofs.VectorLaws.{plus_assoc, fits-plus_left, All-fits, All-total}
use Rattle.fuxi_terms.specs.Rows.{IsRow, greatest_row, row_total}
use Rattle.party_ledgers.specs.RowForms.{IsRowEntry}
use Rattle.party_ledgers.specs.RowOneForm.{row_entries, greatest_small, is_key}

abbrev Entries : Type 0
Entries = List (RowKey × ℕ)

-- a count of each size
abbrev pub sized : Entries → List (ℕ × List ℕ)
sized es = map (λ e. (e.1, e.0.size)) es

plus_nil : (xs : List ℕ) → plus xs [] ≡ xs
plus_nil [] = refl
plus_nil (x ∷ xs) = refl

plus_zeros : (n m : ℕ) (xs : List ℕ) → n ≡ length xs + m → plus (replicate n 0) xs ≡ xs ++ replicate m 0
plus_zeros zero m [] is = ap (λ k. replicate k 0) {x = 0} {y = m} (omega arith)
plus_zeros zero m (x ∷ xs) is = absurd (omega (arith, is))
plus_zeros (suc n) m [] is = ap (λ k. replicate k 0) {x = suc n} {y = m} (omega arith)
plus_zeros (suc n) m (x ∷ xs) is = let same : 0 + x ≡ x = omega arith in λ i. same i ∷ plus_zeros n m xs (omega (arith, is)) i

plus_longer : (xs ys : List ℕ) → length ys ≤ length xs → length (plus xs ys) ≡ length xs
plus_longer [] [] le = refl
plus_longer [] (y ∷ ys) le = absurd (omega (arith, le))
plus_longer (x ∷ xs) [] le = refl
plus_longer (x ∷ xs) (y ∷ ys) le = ap suc (plus_longer xs ys (omega (arith, le)))

pub total_long : (es : Entries) → AllByRecursion IsRowEntry es → length (total_of (sized es)) ≤ 8
total_long [] h = lit≤ tt
total_long (e ∷ es) h =
    let size : length (times e.1 e.0.size) ≡ 8 = length-times e.1 e.0.size ∙ h.0.key.places in
    omega (arith, plus_longer (times e.1 e.0.size) (total_of (sized es)) (omega (arith, size, total_long es h.1)), size)

pub record IsTotalTo (es : Entries) (i : ℕ) (total : List ℕ) : Type 0 where
  pub long : length total ≡ 8
  pub sum : plus total (total_of (sized (drop i es))) ≡ row_total es

pub total_start : (es : Entries) → IsRow es → IsTotalTo es 0 (replicate 8 0)
total_start es h = record { long = refl; sum = plus_zeros 8 (8 - length (total_of (sized es))) (total_of (sized es)) (omega (arith, total_long es (row_entries es h))) }

pub total_more : (es : Entries) (i : ℕ) (e : RowKey × ℕ) (total : List ℕ) → e ≡ get_or es i e → i < length es → IsRow es → IsTotalTo es i total → IsTotalTo es (i + 1) (plus total (times e.1 e.0.size))
total_more es i e total e_is lt row t =
    let here : drop i es ≡ e ∷ drop (i + 1) es = drop-cons es i e lt ∙ ap (λ n. get_or es i e ∷ drop n es) (sym (add-one i)) ∙ ap (λ x. x ∷ drop (i + 1) es) (sym e_is) in
    let whole : AllByRecursion IsRowEntry (e ∷ drop (i + 1) es) = subst (λ l. AllByRecursion IsRowEntry l) here (all_drop IsRowEntry es i (row_entries es row)) in
    record {
      long = plus_longer total (times e.1 e.0.size) (omega (arith, length-times e.1 e.0.size, whole.0.key.places, t.long)) ∙ t.long;
      sum = plus_assoc total (times e.1 e.0.size) (total_of (sized (drop (i + 1) es))) ∙ ap (λ l. plus total (total_of (sized l))) (sym here) ∙ t.sum;
    }
  where
    all_drop : {A : Type 0} (P : A → Type 0) (xs : List A) (i : ℕ) → AllByRecursion P xs → AllByRecursion P (drop i xs)
    all_drop P xs zero h = h
    all_drop P [] (suc i) h = h
    all_drop P (x ∷ xs) (suc i) h = all_drop P xs i h.1

pub total_end : (es : Entries) (i : ℕ) (total : List ℕ) → length es ≤ i → IsTotalTo es i total → total ≡ row_total es
total_end es i total le t = sym (plus_nil total) ∙ ap (λ l. plus total (total_of (sized l))) (sym (drop_all i es le)) ∙ t.sum

sum_small : (es : Entries) → AllByRecursion (λ e. e.1 ≤ greatest_row e.0) es → sum_by (λ e. e.0) (sized es) ≤ length es * 100000
sum_small [] h = lit≤ tt
sum_small (e ∷ es) h = omega (arith, sum_by-cons (λ (x : ℕ × List ℕ). x.0) (e.1, e.0.size) (sized es), sum_small es h.1, h.0, greatest_small e.0)

both_true : (a b : Bool) → T (a && b) → T a × T b
both_true true b p = (tt, p)
both_true false b p = absurd p

is_true : (b : Bool) → T b → b ≡ true
is_true true h = refl
is_true false h = absurd h

quantities : (es : Entries) → AllByRecursion (λ e. 0 < e.1) es → AllByRecursion (λ e. e.1 ≤ greatest_row e.0) es → AllByRecursion (λ e. are_quantities e.1 ≡ true) (sized es)
quantities [] p w = tt
quantities (e ∷ es) p w =
    let unit = both_true (nat_lt e.0.job 256) (nat_lt e.0.unit 8 && (is_vector_of 8 e.0.size && not (is_zero e.0.size))) (is_key e.0 (omega (arith, p.0, w.0))) in
    let size = both_true (nat_lt e.0.unit 8) (is_vector_of 8 e.0.size && not (is_zero e.0.size)) unit.1 in
    let places = both_true (is_vector_of 8 e.0.size) (not (is_zero e.0.size)) size.1 in
    let fit = both_true (nat_eq (length e.0.size) 8) (are_quantities e.0.size) places.0 in
    (is_true (are_quantities e.0.size) fit.1, quantities es p.1 w.1)

-- each place of the total fits 128 bits
pub total_fits : (es : Entries) → IsRow es → All (λ n. n < 2 ^ 128) (row_total es)
total_fits es h =
    let few : sum_by (λ e. e.0) (sized es) ≤ 2 ^ 40 = omega (arith, sum_small es h.counts.within, h.few) in
    All-append (λ n. n < 2 ^ 128) (total_of (sized es)) (replicate (8 - length (total_of (sized es))) 0)
    (All-total (sized es) few (quantities es h.counts.positive h.counts.within))
    (All-from_recursion _ (replicate (8 - length (total_of (sized es))) 0) (zeros (8 - length (total_of (sized es)))))
  where
    zeros : (n : ℕ) → AllByRecursion (λ q. q < 2 ^ 128) (replicate n 0)
    zeros zero = tt
    zeros (suc n) = (lit< tt, zeros n)

pub total_room : (es : Entries) (i : ℕ) (e : RowKey × ℕ) (total : List ℕ) → e ≡ get_or es i e → i < length es → IsRow es → IsTotalTo es i total → All (λ n. n < 2 ^ 128) (plus total (times e.1 e.0.size))
total_room es i e total e_is lt row t =
    let next = total_more es i e total e_is lt row t in
    let part = plus total (times e.1 e.0.size) in
    let fit : fits part (row_total es) ≡ true = subst (λ l. fits part l ≡ true) next.sum (fits-plus_left part (total_of (sized (drop (i + 1) es)))) in
    All-fits (2 ^ 128) part (row_total es) (lit< tt) fit (total_fits es row)
