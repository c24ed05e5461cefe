-- What the entries of a row take in all, with one entry more behind them.
use Rattle.std.proofs.Common.{◌≡◌, ℕ, zero, suc, ◌+◌, ◌-◌, ◌*◌, ◌<◌, ◌≤◌, ◌^◌, Bool, true, false, cond, not, nat_eq, nat_lt, List, [], ◌∷◌, ◌++◌, length, map, refl, sym, ◌∙◌, ap, subst, arith, lit≤, lit<}
use Rattle.std.specs.Prelude.{replicate, ◌&&◌}
use Rattle.std.specs.List.{All, AllByRecursion, sum_by}
use Rattle.std.proofs.lemmas.List.Sums.{sum_by-cons}
use Rattle.std.proofs.lemmas.List.Elements.{All-from_recursion, All-append}
use Rattle.fuxi_terms.specs.Keys.{RowKey}
use Rattle.fuxi_terms.specs.Cluster.{are_quantities, is_vector_of}
use Rattle.fuxi_terms.specs.Vectors.{plus, times, at_place, is_zero}
use Rattle.fuxi_terms.specs.Totals.{total_of}
use Rattle.fuxi_terms.specs.Padded.{padded}
use Rattle.fuxi_terms.specs.Rows.{IsRow, is_row_key, greatest_row, row_total}
use Rattle.fuxi_terms.proofs.Alls.{all_front, all_back}
use Rattle.fuxi_terms.proofs.Booleans.{both_true, number_is}
use Rattle.fuxi_terms.proofs.ByPlace.{length-plus, length-times}
use Rattle.fuxi_terms.proofs.VectorLaws.{plus_assoc, at_place-plus, at_place-padded, same_at_places, length-padded, All-total}

abbrev Entries : Type 0
Entries = List (RowKey × ℕ)

-- a count of each size
abbrev sized : Entries → List (ℕ × List ℕ)
sized es = map (λ e. (e.1, e.0.size)) es

record IsSized (e : RowKey × ℕ) : Type 0 where
  places : length e.0.size ≡ 8
  quantities : are_quantities e.0.size ≡ true
  few : e.1 ≤ 100000

sized_entry : (e : RowKey × ℕ) → 0 < e.1 → e.1 ≤ greatest_row e.0 → IsSized e
sized_entry e positive within = go (is_row_key e.0) refl within
  where
    go : (b : Bool) → is_row_key e.0 ≡ b → e.1 ≤ cond b 100000 0 → IsSized e
    go false is most = absurd (omega (arith, positive, most))
    go true is most =
        let unit = both_true (nat_lt e.0.job 256) (nat_lt e.0.unit 8 && (is_vector_of 8 e.0.size && not (is_zero e.0.size))) is in
        let size = both_true (nat_lt e.0.unit 8) (is_vector_of 8 e.0.size && not (is_zero e.0.size)) unit.1 in
        let vector = both_true (is_vector_of 8 e.0.size) (not (is_zero e.0.size)) size.1 in
        let parts = both_true (nat_eq (length e.0.size) 8) (are_quantities e.0.size) vector.0 in
        record { places = number_is (length e.0.size) 8 parts.0; quantities = parts.1; few = most }

all_sized : (es : Entries) → AllByRecursion (λ e. 0 < e.1) es → AllByRecursion (λ e. e.1 ≤ greatest_row e.0) es → AllByRecursion IsSized es
all_sized [] p w = tt
all_sized (e ∷ es) p w = (sized_entry e p.0 w.0, all_sized es p.1 w.1)

row_sized : (es : Entries) → IsRow es → AllByRecursion IsSized es
row_sized es row = all_sized es row.counts.positive row.counts.within

-- the length of a total
plus_short : (n : ℕ) (xs ys : List ℕ) → length xs ≤ n → length ys ≤ n → length (plus xs ys) ≤ n
plus_short n [] ys a b = b
plus_short n (x ∷ xs) [] a b = a
plus_short zero (x ∷ xs) (y ∷ ys) a b = absurd (omega (arith, a))
plus_short (suc n) (x ∷ xs) (y ∷ ys) a b = omega (arith, plus_short n xs ys (omega (arith, a)) (omega (arith, b)))

total_short : (es : Entries) → AllByRecursion IsSized es → length (total_of (sized es)) ≤ 8
total_short [] h = lit≤ tt
total_short (e ∷ es) h = plus_short 8 (times e.1 e.0.size) (total_of (sized es)) (omega (arith, length-times e.1 e.0.size, h.0.places)) (total_short es h.1)

-- one entry more behind the others
plus_nil : (xs : List ℕ) → plus xs [] ≡ xs
plus_nil [] = refl
plus_nil (x ∷ xs) = refl

total_push : (es : Entries) (e : RowKey × ℕ) → total_of (sized (es ++ e ∷ [])) ≡ plus (total_of (sized es)) (times e.1 e.0.size)
total_push [] e = plus_nil (times e.1 e.0.size)
total_push (f ∷ es) e = ap (plus (times f.1 f.0.size)) (total_push es e) ∙ sym (plus_assoc (times f.1 f.0.size) (total_of (sized es)) (times e.1 e.0.size))

padded_plus : (xs ys : List ℕ) → length xs ≤ 8 → length ys ≡ 8 → padded (plus xs ys) ≡ plus (padded xs) ys
padded_plus xs ys short long =
    same_at_places (padded (plus xs ys)) (plus (padded xs) ys)
    (length-padded (plus xs ys) (plus_short 8 xs ys short (omega (arith, long))) ∙ sym (length-plus (padded xs) ys (length-padded xs short ∙ sym long) ∙ length-padded xs short))
    (λ i. at_place-padded (plus xs ys) i ∙ at_place-plus xs ys i ∙ sym (at_place-plus (padded xs) ys i ∙ ap (λ n. n + at_place ys i) (at_place-padded xs i)))

pub row_push : (es : Entries) (e : RowKey × ℕ) → IsRow (es ++ e ∷ []) → row_total (es ++ e ∷ []) ≡ plus (row_total es) (times e.1 e.0.size)
row_push es e row =
    let all = row_sized (es ++ e ∷ []) row in
    ap padded (total_push es e)
    ∙ padded_plus (total_of (sized es)) (times e.1 e.0.size) (total_short es (all_front IsSized es (e ∷ []) all)) (length-times e.1 e.0.size ∙ (all_back IsSized es (e ∷ []) all).0.places)

-- each place of the total of a row fits 128 bits
counted_few : (es : Entries) → AllByRecursion IsSized es → sum_by (λ e. e.0) (sized es) ≤ length es * 100000
counted_few [] h = lit≤ tt
counted_few (e ∷ es) h = omega (arith, sum_by-cons (λ (x : ℕ × List ℕ). x.0) (e.1, e.0.size) (sized es), counted_few es h.1, h.0.few)

quantities_of : (es : Entries) → AllByRecursion IsSized es → AllByRecursion (λ e. are_quantities e.1 ≡ true) (sized es)
quantities_of [] h = tt
quantities_of (e ∷ es) h = (h.0.quantities, quantities_of es h.1)

pub row_fits : (es : Entries) → IsRow es → All (λ n. n < 2 ^ 128) (row_total es)
row_fits es row =
    let all = row_sized es row in
    let few : sum_by (λ e. e.0) (sized es) ≤ 2 ^ 40 = omega (arith, counted_few es all, row.few) in
    All-append (λ n. n < 2 ^ 128) (total_of (sized es)) (replicate (8 - length (total_of (sized es))) 0)
    (All-total (sized es) few (quantities_of es all))
    (All-from_recursion _ (replicate (8 - length (total_of (sized es))) 0) (zeros (8 - length (total_of (sized es)))))
  where
    zeros : (n : ℕ) → AllByRecursion (λ q. q < 2 ^ 128) (replicate n 0)
    zeros zero = tt
    zeros (suc n) = (lit< tt, zeros n)

pub room_for : (es : Entries) (e : RowKey × ℕ) → IsRow (es ++ e ∷ []) → All (λ n. n < 2 ^ 128) (plus (row_total es) (times e.1 e.0.size))
room_for es e row = subst (All (λ n. n < 2 ^ 128)) (row_push es e row) (row_fits (es ++ e ∷ []) row)
