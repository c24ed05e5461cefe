-- No written form begins another: the bytes of an entry, of a counted list of entries, and of a tally.
use Rattle.std.specs.Prelude.{◌≡◌, ℕ, zero, suc, ℤ, pos, negsuc, ◌⊎◌, ◌+◌, ◌*◌, ◌<◌, ◌≤◌, ◌^◌, List, [], ◌∷◌, ◌++◌, length, take, drop, false, T, unsigned_abs}
use Rattle.std.proofs.Common.{refl, sym, ◌∙◌, ap, subst, slice_index, arith, append_assoc, inl, inr, lit<}
use Rattle.std.specs.List.{AllByRecursion, flat_map}
use Rattle.std.specs.Ordering.{is_lt, nat_cmp, ordering_then}
use Rattle.std.proofs.lemmas.Cmp.{ranked}
use Rattle.std.specs.declared.cmp.Ordering.{Ordering}
use Rattle.std.specs.declared.cmp.Ordering.TheVariants.{Less, Equal, Greater}
use Rattle.std.specs.Int.{to_be_bytes, from_be_bytes, cast_unsigned, cast_signed, w16, w32, w64}
use Rattle.std.specs.Int.RustNames.{FitsSigned}
use Rattle.std.proofs.lemmas.Nat.{from_be_bytes-to_be_bytes_2, from_be_bytes-to_be_bytes_4, from_be_bytes-to_be_bytes_8}
use Rattle.std.proofs.lemmas.Int.{to_z-of_z}
use Rattle.std.proofs.lemmas.List.{drop_at}
use Rattle.std.proofs.Math.Seq.{take-append_seam}
use Rattle.std.specs.FinMap.Entries.{below_all, is_sorted}
use Rattle.fuxi_terms.specs.declared.Key.{Key}
use Rattle.fuxi_terms.specs.Keys.{key_cmp}
use Rattle.fuxi_terms.specs.Counts.{AreCounts, is_no_change}
use Rattle.fuxi_terms.proofs.CountsLemmas.{both_true, lesser}
use Rattle.fuxi_terms.specs.Tallies.{TallyRecord, ChangeRecord}
use Rattle.ledger_law.specs.Forms.{counted, number_entry, change_entry, IsNumberEntry, IsChangeEntry, tally_form, change_form}
use Rattle.ledger_law.specs.Shapes.{IsWritable, IsTally, IsChange, AreChangesWithin}

pub number_wide : (e : Key × ℕ) → IsNumberEntry e → length (number_entry e) ≡ 12
number_wide e h = refl

pub change_wide : (e : Key × ℤ) → IsChangeEntry e → length (change_entry e) ≡ 12
change_wide e h = refl

key_of : List ℕ → Key
key_of bytes = record { what = slice_index bytes 0; unit = slice_index bytes 1; number = from_be_bytes w16 (take 2 (drop 2 bytes)) }

key_back : (key : Key) (value : ℕ) → key.number < 2 ^ 16 → key_of (number_entry (key, value)) ≡ key
unfolding key_of
key_back key value h = ap (λ n. record { what = key.what; unit = key.unit; number = n }) (from_be_bytes-to_be_bytes_2 key.number h)

same_bytes : (a b : Key) (v w : ℕ) → a.number < 2 ^ 16 → b.number < 2 ^ 16 → number_entry (a, v) ≡ number_entry (b, w) → (a ≡ b) × (to_be_bytes w64 v ≡ to_be_bytes w64 w)
same_bytes a b v w ha hb e = (sym (key_back a v ha) ∙ ap key_of e ∙ key_back b w hb, ap (drop 4) e)

pub same_number : (v w : ℕ) → v < 2 ^ 64 → w < 2 ^ 64 → to_be_bytes w64 v ≡ to_be_bytes w64 w → v ≡ w
same_number v w hv hw e = sym (from_be_bytes-to_be_bytes_8 v hv) ∙ ap (from_be_bytes w64) e ∙ from_be_bytes-to_be_bytes_8 w hw

pub fits_unsigned : (z : ℤ) → FitsSigned w64 z → cast_unsigned w64 z < 2 ^ 64
fits_unsigned (pos n) h = let f : n < 2 ^ 63 = h.sfits in omega arith
fits_unsigned (negsuc n) h = omega arith

pub number_one : (a b : Key × ℕ) → IsNumberEntry a → IsNumberEntry b → number_entry a ≡ number_entry b → a ≡ b
number_one a b ha hb e =
    let s = same_bytes a.0 b.0 a.1 b.1 ha.number hb.number e in
    λ i. (s.0 i, same_number a.1 b.1 ha.value hb.value s.1 i)

pub change_one : (a b : Key × ℤ) → IsChangeEntry a → IsChangeEntry b → change_entry a ≡ change_entry b → a ≡ b
change_one a b ha hb e =
    let s = same_bytes a.0 b.0 (cast_unsigned w64 a.1) (cast_unsigned w64 b.1) ha.number hb.number e in
    let same : cast_unsigned w64 a.1 ≡ cast_unsigned w64 b.1 = same_number _ _ (fits_unsigned a.1 ha.value) (fits_unsigned b.1 hb.value) s.1 in
    let value : a.1 ≡ b.1 = sym (to_z-of_z w64 a.1 ha.value) ∙ ap (cast_signed w64) same ∙ to_z-of_z w64 b.1 hb.value in
    λ i. (s.0 i, value i)

take_at : (p q : List ℕ) (n : ℕ) → length p ≡ n → take n (p ++ q) ≡ p
take_at p q n e = subst (λ m. take m (p ++ q) ≡ p) e (take-append_seam p q)

module _ {E : Type 0} (form : E → List ℕ) (V : E → Type 0) (width : ℕ) (wide : (e : E) → V e → length (form e) ≡ width) (one : (a b : E) → V a → V b → form a ≡ form b → a ≡ b) where
  pub list_one : (as_ bs : List E) (x y : List ℕ) → AllByRecursion V as_ → AllByRecursion V bs → length as_ ≡ length bs → flat_map form as_ ++ x ≡ flat_map form bs ++ y → as_ ≡ bs
  list_one [] [] x y ha hb len e = refl
  list_one [] (b ∷ bs) x y ha hb len e = absurd (omega (arith, len))
  list_one (a ∷ as_) [] x y ha hb len e = absurd (omega (arith, len))
  list_one (a ∷ as_) (b ∷ bs) x y ha hb len e =
      let parts : form a ++ (flat_map form as_ ++ x) ≡ form b ++ (flat_map form bs ++ y) = sym (append_assoc (form a) (flat_map form as_) x) ∙ e ∙ append_assoc (form b) (flat_map form bs) y in
      let first : a ≡ b = one a b ha.0 hb.0 (sym (take_at (form a) (flat_map form as_ ++ x) width (wide a ha.0)) ∙ ap (take width) parts ∙ take_at (form b) (flat_map form bs ++ y) width (wide b hb.0)) in
      let rest = sym (drop_at (form a) (flat_map form as_ ++ x) width (wide a ha.0)) ∙ ap (drop width) parts ∙ drop_at (form b) (flat_map form bs ++ y) width (wide b hb.0) in
      let others : as_ ≡ bs = list_one as_ bs x y ha.1 hb.1 (omega (arith, len)) rest in
      λ i. first i ∷ others i

  pub counted_one : (as_ bs : List E) (x y : List ℕ) → AllByRecursion V as_ → AllByRecursion V bs → length as_ < 2 ^ 32 → length bs < 2 ^ 32 → counted form as_ ++ x ≡ counted form bs ++ y → as_ ≡ bs
  counted_one as_ bs x y ha hb fa fb e =
      let len : length as_ ≡ length bs = sym (from_be_bytes-to_be_bytes_4 (length as_) fa) ∙ ap (λ bytes. from_be_bytes w32 (take 4 bytes)) e ∙ from_be_bytes-to_be_bytes_4 (length bs) fb in
      list_one as_ bs x y ha hb len (ap (drop 4) e)

-- a writable key as a number, so that keys that rise are as many numbers that rise
place : Key → ℕ
place k = k.what * 2 ^ 24 + k.unit * 2 ^ 16 + k.number

either_less : (r s : Ordering) → ordering_then r s ≡ Less → (r ≡ Less) ⊎ ((r ≡ Equal) × (s ≡ Less))
either_less Less s e = inl refl
either_less Equal s e = inr (refl, e)
either_less Greater s e = cc

number_less : (a b : ℕ) → nat_cmp a b ≡ Less → a < b
number_less a b e = ranked a b Less (sym e)

number_same : (a b : ℕ) → nat_cmp a b ≡ Equal → a ≡ b
number_same a b e = ranked a b Equal (sym e)

place_rises : (a b : Key) → IsWritable a → IsWritable b → key_cmp a b ≡ Less → place a < place b
unfolding place
place_rises a b ha hb e = elim (either_less _ _ e) [
  | inl what ↦ let lt = number_less a.what b.what what in omega (arith, ha.unit, ha.number)
  | inr h ↦ let what = number_same a.what b.what h.0 in elim (either_less _ _ h.1) [
    | inl unit ↦ let lt = number_less a.unit b.unit unit in omega (arith, ha.number)
    | inr k ↦ let unit = number_same a.unit b.unit k.0 in let lt = number_less a.number b.number k.1 in omega arith
  ]
]

place_below : (a : Key) → IsWritable a → place a < 2 ^ 32
unfolding place
place_below a h = omega (arith, h.what, h.unit, h.number)

-- the kind 0 is none, so the first place is not 0
first_place : (k : Key) → IsWritable k → 1 ≤ place k
unfolding place
first_place k h = omega (arith, h.kind)

module _ {X : Type 0} where
  few_above : (least : ℕ) (k : Key) (es : List (Key × X)) → IsWritable k → AllByRecursion (λ e. IsWritable e.0) es → least ≤ place k → T (below_all key_cmp k es) → T (is_sorted key_cmp es) → length es + least < 2 ^ 32
  few_above least k [] hk h le below sorted = omega (arith, place_below k hk, le)
  few_above least k (e ∷ es) hk h le below sorted =
      let b = both_true (is_lt (key_cmp k e.0)) _ below in
      let s = both_true (below_all key_cmp e.0 es) _ sorted in
      let up = place_rises k e.0 hk h.0 (lesser _ b.0) in
      let rest = few_above (least + 1) e.0 es h.0 h.1 (omega (arith, up, le)) s.0 s.1 in
      omega (arith, rest)

  few : (es : List (Key × X)) → AllByRecursion (λ e. IsWritable e.0) es → T (is_sorted key_cmp es) → length es < 2 ^ 32
  few [] h sorted = lit< tt
  few (e ∷ es) h sorted =
      let s = both_true (below_all key_cmp e.0 es) _ sorted in
      omega (arith, few_above 1 e.0 es h.0 h.1 (first_place e.0 h.0) s.0 s.1)

module _ (greatest : Key → ℕ) (bounded : (k : Key) → greatest k ≤ 1000000000000) (writable : (k : Key) → 0 < greatest k → IsWritable k) where
  count_keys : (es : List (Key × ℕ)) → AllByRecursion (λ e. 0 < e.1) es → AllByRecursion (λ e. e.1 ≤ greatest e.0) es → AllByRecursion (λ e. IsWritable e.0) es
  count_keys [] p w = tt
  count_keys (e ∷ es) p w = (writable e.0 (omega (arith, p.0, w.0)), count_keys es p.1 w.1)

  pub number_entries : (es : List (Key × ℕ)) → AllByRecursion (λ e. 0 < e.1) es → AllByRecursion (λ e. e.1 ≤ greatest e.0) es → AllByRecursion IsNumberEntry es
  number_entries [] p w = tt
  number_entries (e ∷ es) p w = (record { number = (writable e.0 (omega (arith, p.0, w.0))).number; value = omega (arith, w.0, bounded e.0) }, number_entries es p.1 w.1)

  pub few_counts : (es : List (Key × ℕ)) → AreCounts key_cmp greatest es → length es < 2 ^ 32
  few_counts es h = few es (count_keys es h.positive h.within) h.sorted

  real_change : (z : ℤ) → is_no_change z ≡ false → 0 < unsigned_abs z
  real_change (pos zero) e = cc
  real_change (pos (suc n)) e = omega arith
  real_change (negsuc n) e = omega arith

  small_change : (z : ℤ) → unsigned_abs z ≤ 1000000000000 → FitsSigned w64 z
  small_change (pos n) h = record { sfits = omega (arith, h) }
  small_change (negsuc n) h = record { sfits = omega (arith, h) }

  change_keys : (cs : List (Key × ℤ)) → AllByRecursion (λ c. is_no_change c.1 ≡ false) cs → AllByRecursion (λ c. unsigned_abs c.1 ≤ greatest c.0) cs → AllByRecursion (λ c. IsWritable c.0) cs
  change_keys [] p w = tt
  change_keys (c ∷ cs) p w = (writable c.0 (omega (arith, real_change c.1 p.0, w.0)), change_keys cs p.1 w.1)

  pub change_entries : (cs : List (Key × ℤ)) → AllByRecursion (λ c. is_no_change c.1 ≡ false) cs → AllByRecursion (λ c. unsigned_abs c.1 ≤ greatest c.0) cs → AllByRecursion IsChangeEntry cs
  change_entries [] p w = tt
  change_entries (c ∷ cs) p w = (record { number = (writable c.0 (omega (arith, real_change c.1 p.0, w.0))).number; value = small_change c.1 (omega (arith, w.0, bounded c.0)) }, change_entries cs p.1 w.1)

  pub few_changes : (cs : List (Key × ℤ)) → AreChangesWithin greatest cs → length cs < 2 ^ 32
  few_changes cs h = few cs (change_keys cs h.changes.real h.within) h.changes.sorted

  pub tally_one : (a b : TallyRecord) (x y : List ℕ) → IsTally greatest a → IsTally greatest b → tally_form a ++ x ≡ tally_form b ++ y → a ≡ b
  tally_one a b x y ha hb e =
      let head = same_number a.head b.head ha.head hb.head (ap (take 8) e) in
      let entries = counted_one number_entry IsNumberEntry 12 number_wide number_one a.entries b.entries x y (number_entries a.entries ha.counts.positive ha.counts.within) (number_entries b.entries hb.counts.positive hb.counts.within) (few_counts a.entries ha.counts) (few_counts b.entries hb.counts) (ap (drop 8) e) in
      λ i. record { head = head i; entries = entries i }

  pub change_form_one : (a b : ChangeRecord) (x y : List ℕ) → IsChange greatest a → IsChange greatest b → change_form a ++ x ≡ change_form b ++ y → a ≡ b
  change_form_one a b x y ha hb e =
      let head = same_number a.head b.head ha.head hb.head (ap (take 8) e) in
      let entries = counted_one change_entry IsChangeEntry 12 change_wide change_one a.entries b.entries x y (change_entries a.entries ha.entries.changes.real ha.entries.within) (change_entries b.entries hb.entries.changes.real hb.entries.within) (few_changes a.entries ha.entries) (few_changes b.entries hb.entries) (ap (drop 8) e) in
      λ i. record { head = head i; entries = entries i }
