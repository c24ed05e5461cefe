-- No written form of a row begins another.
use Rattle.std.specs.Prelude.{◌≡◌, ℕ, ℤ, pos, negsuc, suc, zero, Bool, true, false, cond, not, nat_lt, nat_eq, ◌&&◌, T, unsigned_abs, ◌*◌, ◌<◌, ◌≤◌, ◌^◌, List, [], ◌∷◌, ◌++◌, length, take, drop}
use Rattle.std.proofs.Common.{slice_index, refl, sym, ◌∙◌, ap, arith, lit≤}
use Rattle.std.specs.List.{AllByRecursion, flat_map}
use Rattle.std.specs.Int.{to_be_bytes, from_be_bytes, cast_unsigned, cast_signed, w32, w64}
use Rattle.std.specs.Int.RustNames.{FitsSigned}
use Rattle.std.proofs.lemmas.Nat.{from_be_bytes-to_be_bytes_4}
use Rattle.std.proofs.lemmas.Int.{to_z-of_z}
use Rattle.std.proofs.lemmas.List.{drop_at, length-append}
use Rattle.fuxi_terms.specs.Keys.{RowKey}
use Rattle.std.proofs.lemmas.Bool.Decides.{nat_tests}
use Rattle.fuxi_terms.specs.Cluster.{are_quantities, is_vector_of}
use Rattle.fuxi_terms.specs.Limits.{greatest_quantity}
use Rattle.fuxi_terms.specs.Vectors.{is_zero}
use Rattle.fuxi_terms.specs.Counts.{is_no_change}
use Rattle.ledger_law.specs.OneForm.{list_one, same_number, counted_one}
use Rattle.fuxi_terms.specs.Rows.{IsRow, AreRowChanges, IsRowChange, is_row_key, greatest_row}
use Rattle.party_ledgers.specs.RowForms.{row_key_bytes, row_entry, row_change_entry, row_form, row_change_form, IsWholeKey, IsRowEntry, IsRowChangeEntry}

size_long : (qs : List ℕ) → length (flat_map (to_be_bytes w64) qs) ≡ length qs * 8
size_long [] = refl
size_long (q ∷ qs) = omega (arith, size_long qs)

key_long : (k : RowKey) → IsWholeKey k → length (row_key_bytes k) ≡ 69
key_long k h = omega (arith, size_long k.size, h.places)

pub row_wide : (e : RowKey × ℕ) → IsRowEntry e → length (row_entry e) ≡ 73
row_wide e h = omega (arith, length-append (row_key_bytes e.0) (to_be_bytes w32 e.1), key_long e.0 h.key)

pub row_change_wide : (c : RowKey × ℤ) → IsRowChangeEntry c → length (row_change_entry c) ≡ 73
row_change_wide c h = omega (arith, length-append (row_key_bytes c.0) (to_be_bytes w32 (cast_unsigned w32 c.1)), key_long c.0 h.key)

same_small : (v w : ℕ) → v < 2 ^ 32 → w < 2 ^ 32 → to_be_bytes w32 v ≡ to_be_bytes w32 w → v ≡ w
same_small v w hv hw e = sym (from_be_bytes-to_be_bytes_4 v hv) ∙ ap (from_be_bytes w32) e ∙ from_be_bytes-to_be_bytes_4 w hw

-- the bytes of a key, and what stands behind them
key_one : (a b : RowKey) (x y : List ℕ) → IsWholeKey a → IsWholeKey b → row_key_bytes a ++ x ≡ row_key_bytes b ++ y → (a ≡ b) × (x ≡ y)
key_one a b x y ha hb e =
    let job : a.job ≡ b.job = same_small a.job b.job ha.job hb.job (ap (take 4) e) in
    let unit : a.unit ≡ b.unit = ap (λ l. slice_index l 4) e in
    let size : a.size ≡ b.size = list_one (to_be_bytes w64) (λ q. q < 2 ^ 64) 8 (λ q _. refl) (λ p q hp hq. same_number p q hp hq) a.size b.size x y ha.quantities hb.quantities (ha.places ∙ sym hb.places) (ap (drop 5) e) in
    let rest : x ≡ y = sym (drop_at (row_key_bytes a) x 69 (key_long a ha)) ∙ ap (drop 69) e ∙ drop_at (row_key_bytes b) y 69 (key_long b hb) in
    (λ i. record { job = job i; unit = unit i; size = size i }, rest)

pub row_one : (a b : RowKey × ℕ) → IsRowEntry a → IsRowEntry b → row_entry a ≡ row_entry b → a ≡ b
row_one a b ha hb e =
    let k = key_one a.0 b.0 (to_be_bytes w32 a.1) (to_be_bytes w32 b.1) ha.key hb.key e in
    λ i. (k.0 i, same_small a.1 b.1 ha.value hb.value k.1 i)

fits_small : (z : ℤ) → FitsSigned w32 z → cast_unsigned w32 z < 2 ^ 32
fits_small (pos n) h = let f : n < 2 ^ 31 = h.sfits in omega arith
fits_small (negsuc n) h = omega arith

pub row_change_one : (a b : RowKey × ℤ) → IsRowChangeEntry a → IsRowChangeEntry b → row_change_entry a ≡ row_change_entry b → a ≡ b
row_change_one a b ha hb e =
    let k = key_one a.0 b.0 (to_be_bytes w32 (cast_unsigned w32 a.1)) (to_be_bytes w32 (cast_unsigned w32 b.1)) ha.key hb.key e in
    let same : cast_unsigned w32 a.1 ≡ cast_unsigned w32 b.1 = same_small _ _ (fits_small a.1 ha.value) (fits_small b.1 hb.value) k.1 in
    let value : a.1 ≡ b.1 = sym (to_z-of_z w32 a.1 ha.value) ∙ ap (cast_signed w32) same ∙ to_z-of_z w32 b.1 hb.value in
    λ i. (k.0 i, value i)

both_true : (a b : Bool) → T (a && b) → T a × T b
both_true true b p = (tt, p)
both_true false b p = absurd p

quantities_fit : (qs : List ℕ) → T (are_quantities qs) → AllByRecursion (λ q. q < 2 ^ 64) qs
quantities_fit [] h = tt
quantities_fit (q ∷ qs) h =
    let b = both_true (not (nat_lt greatest_quantity q)) (are_quantities qs) h in
    (at_most q b.0, quantities_fit qs b.1)
  where
    at_most : (q : ℕ) → T (not (nat_lt 1000000000000 q)) → q < 2 ^ 64
    at_most q h = by (nat_lt 1000000000000 q) refl h
      where
        by : (b : Bool) → nat_lt 1000000000000 q ≡ b → T (not b) → q < 2 ^ 64
        by true t h = absurd h
        by false t h = grind (arith, nat_tests)

pub is_key : (k : RowKey) → 0 < greatest_row k → T (is_row_key k)
is_key k h = by (is_row_key k) h
  where
    by : (b : Bool) → 0 < cond b 100000 0 → T b
    by true h = tt
    by false h = absurd (omega (arith, h))

pub greatest_small : (k : RowKey) → greatest_row k ≤ 100000
greatest_small k = by (is_row_key k)
  where
    by : (b : Bool) → cond b 100000 0 ≤ 100000
    by true = lit≤ tt
    by false = lit≤ tt

whole_key : (k : RowKey) → 0 < greatest_row k → IsWholeKey k
whole_key k h =
    let job = both_true (nat_lt k.job 256) (nat_lt k.unit 8 && (is_vector_of 8 k.size && not (is_zero k.size))) (is_key k h) in
    let unit = both_true (nat_lt k.unit 8) (is_vector_of 8 k.size && not (is_zero k.size)) job.1 in
    let size = both_true (is_vector_of 8 k.size) (not (is_zero k.size)) unit.1 in
    let places = both_true (nat_eq (length k.size) 8) (are_quantities k.size) size.0 in
    record { job = small k.job job.0; places = eight (length k.size) places.0; quantities = quantities_fit k.size places.1 }
  where
    small : (n : ℕ) → T (nat_lt n 256) → n < 2 ^ 32
    small n h = by (nat_lt n 256) refl h
      where
        by : (b : Bool) → nat_lt n 256 ≡ b → T b → n < 2 ^ 32
        by true t h = grind (arith, nat_tests)
        by false t h = absurd h

    eight : (n : ℕ) → T (nat_eq n 8) → n ≡ 8
    eight n h = by (nat_eq n 8) refl h
      where
        by : (b : Bool) → nat_eq n 8 ≡ b → T b → n ≡ 8
        by true t h = grind (arith, nat_tests)
        by false t h = absurd h

entries_whole : (es : List (RowKey × ℕ)) → AllByRecursion (λ e. 0 < e.1) es → AllByRecursion (λ e. e.1 ≤ greatest_row e.0) es → AllByRecursion IsRowEntry es
entries_whole [] p w = tt
entries_whole (e ∷ es) p w = (record { key = whole_key e.0 (omega (arith, p.0, w.0)); value = omega (arith, w.0, greatest_small e.0) }, entries_whole es p.1 w.1)

pub row_entries : (es : List (RowKey × ℕ)) → IsRow es → AllByRecursion IsRowEntry es
row_entries es h = entries_whole es h.counts.positive h.counts.within

pub few_entries : (es : List (RowKey × ℕ)) → IsRow es → length es < 2 ^ 32
few_entries es h = omega (arith, h.few)

real_change : (z : ℤ) → is_no_change z ≡ false → 0 < unsigned_abs z
real_change (pos zero) e = cc
real_change (pos (suc n)) e = omega arith
real_change (negsuc n) e = omega arith

small_change : (z : ℤ) → unsigned_abs z ≤ 100000 → FitsSigned w32 z
small_change (pos n) h = record { sfits = omega (arith, h) }
small_change (negsuc n) h = record { sfits = omega (arith, h) }

changes_whole : (cs : List (RowKey × ℤ)) → AllByRecursion (λ c. is_no_change c.1 ≡ false) cs → AllByRecursion (λ c. unsigned_abs c.1 ≤ greatest_row c.0) cs → AllByRecursion IsRowChangeEntry cs
changes_whole [] p w = tt
changes_whole (c ∷ cs) p w = (record { key = whole_key c.0 (omega (arith, real_change c.1 p.0, w.0)); value = small_change c.1 (omega (arith, w.0, greatest_small c.0)) }, changes_whole cs p.1 w.1)

pub row_changes : (cs : List (RowKey × ℤ)) → AreRowChanges cs → AllByRecursion IsRowChangeEntry cs
row_changes cs h = changes_whole cs h.changes.real h.within

pub few_row_changes : (cs : List (RowKey × ℤ)) → IsRowChange cs → length cs < 2 ^ 32
few_row_changes cs h = omega (arith, h.few)

pub row_form_one : (a b : List (RowKey × ℕ)) (x y : List ℕ) → IsRow a → IsRow b → row_form a ++ x ≡ row_form b ++ y → a ≡ b
row_form_one a b x y ha hb e = counted_one row_entry IsRowEntry 73 row_wide row_one a b x y (row_entries a ha) (row_entries b hb) (few_entries a ha) (few_entries b hb) e

pub row_change_form_one : (a b : List (RowKey × ℤ)) (x y : List ℕ) → IsRowChange a → IsRowChange b → row_change_form a ++ x ≡ row_change_form b ++ y → a ≡ b
row_change_form_one a b x y ha hb e = counted_one row_change_entry IsRowChangeEntry 73 row_change_wide row_change_one a b x y (row_changes a ha.changes) (row_changes b hb.changes) (few_row_changes a ha) (few_row_changes b hb) e
