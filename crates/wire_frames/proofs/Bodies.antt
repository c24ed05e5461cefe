-- How long the written forms of ledgers and changes are.
use Rattle.std.specs.Prelude.{unsigned_abs, pos, negsuc, suc, zero, ◌≡◌, ℕ, ℤ, ◌+◌, ◌*◌, ◌<◌, ◌≤◌, List, [], ◌∷◌, length, T, false}
use Rattle.std.proofs.Common.{refl, sym, arith, length-append, inl, inr, ◌⊎◌, lit≤}
use Rattle.std.specs.List.{AllByRecursion, flat_map}
use Rattle.std.specs.Ordering.{is_lt, nat_cmp, ordering_then}
use Rattle.std.specs.declared.cmp.Ordering.{Ordering}
use Rattle.std.specs.declared.cmp.Ordering.TheVariants.{Less, Equal, Greater}
use Rattle.std.specs.FinMap.Entries.{below_all, is_sorted}
use Rattle.std.proofs.lemmas.Bool.Decides.{nat_tests}
use Rattle.std.proofs.lemmas.Cmp.{ranked}
use Rattle.fuxi_terms.specs.declared.Key.{Key}
use Rattle.fuxi_terms.specs.Keys.{key_cmp}
use Rattle.fuxi_terms.specs.Limits.{most_body_bytes}
use Rattle.fuxi_terms.specs.Counts.{AreCounts, is_no_change}
use Rattle.fuxi_terms.specs.Keys.{RowKey}
use Rattle.fuxi_terms.specs.Rows.{IsRow}
use Rattle.fuxi_terms.specs.TallyKeys.{greatest_grant, greatest_demand}
use Rattle.fuxi_terms.proofs.CountsLemmas.{both_true, lesser}
use Rattle.ledger_law.specs.Forms.{number_entry, change_entry, IsNumberEntry, IsChangeEntry}
use Rattle.ledger_law.specs.OneForm.{number_wide, change_wide, number_entries, change_entries}
use Rattle.ledger_law.specs.Shapes.{IsWritable, AreChangesWithin}
use Rattle.party_ledgers.specs.RowForms.{row_entry, row_change_entry, IsRowEntry, IsRowChangeEntry}
use Rattle.party_ledgers.specs.RowOneForm.{row_wide, row_change_wide, row_entries, row_changes}
use Rattle.party_ledgers.specs.PartyShapes.{grant_bounded, grant_writable, demand_bounded, demand_writable}
use Rattle.party_ledgers.specs.declared.packets.Body.{Body}
use Rattle.party_ledgers.specs.declared.packets.Body.TheVariants.{Nothing, Row, RowDelta, Join, Grants, GrantsDelta, Demand, DemandDelta}
use Rattle.wire_frames.specs.Frames.{body_bytes, body_length, HasForm}

module _ {E : Type 0} (form : E → List ℕ) (V : E → Type 0) (width : ℕ) (wide : (e : E) → V e → length (form e) ≡ width) where
  entries_long : (es : List E) → AllByRecursion V es → length (flat_map form es) ≡ length es * width
  entries_long [] h = omega arith
  entries_long (e ∷ es) h = omega (arith, length-append (form e) (flat_map form es), wide e h.0, entries_long es h.1)

-- a key as a number, so that keys that rise are as many numbers that rise
rank : Key → ℕ
rank k = k.what * 2048 + k.unit * 256 + k.number

pub record IsSmall (k : Key) : Type 0 where
  pub what : k.what < 6
  pub unit : k.unit < 8
  pub number : k.number < 256

either_less : (r s : Ordering) → ordering_then r s ≡ Less → (r ≡ Less) ⊎ ((r ≡ Equal) × (s ≡ Less))
either_less Less s e = inl refl
either_less Equal s e = inr (refl, e)
either_less Greater s e = cc

number_less : (a b : ℕ) → nat_cmp a b ≡ Less → a < b
number_less a b e = ranked a b Less (sym e)

number_same : (a b : ℕ) → nat_cmp a b ≡ Equal → a ≡ b
number_same a b e = ranked a b Equal (sym e)

rank_rises : (a b : Key) → IsSmall a → IsSmall b → key_cmp a b ≡ Less → rank a < rank b
unfolding rank
rank_rises a b ha hb e = elim (either_less _ _ e) [
  | inl what ↦ let lt = number_less a.what b.what what in omega (arith, ha.unit, ha.number)
  | inr h ↦ let what = number_same a.what b.what h.0 in elim (either_less _ _ h.1) [
    | inl unit ↦ let lt = number_less a.unit b.unit unit in omega (arith, ha.number)
    | inr k ↦ let unit = number_same a.unit b.unit k.0 in let lt = number_less a.number b.number k.1 in omega arith
  ]
]

rank_below : (k : Key) → IsSmall k → rank k < 12288
unfolding rank
rank_below k h = omega (arith, h.what, h.unit, h.number)

module _ {X : Type 0} where
  few_above : (least : ℕ) (k : Key) (es : List (Key × X)) → IsSmall k → AllByRecursion (λ e. IsSmall e.0) es → least ≤ rank k → T (below_all key_cmp k es) → T (is_sorted key_cmp es) → length es + least < 12288
  few_above least k [] hk h le below sorted = omega (arith, rank_below k hk, le)
  few_above least k (e ∷ es) hk h le below sorted =
      let b = both_true (is_lt (key_cmp k e.0)) _ below in
      let s = both_true (below_all key_cmp e.0 es) _ sorted in
      let up = rank_rises k e.0 hk h.0 (lesser _ b.0) in
      let rest = few_above (least + 1) e.0 es h.0 h.1 (omega (arith, up, le)) s.0 s.1 in
      omega (arith, rest)

  few : (es : List (Key × X)) → AllByRecursion (λ e. IsSmall e.0) es → T (is_sorted key_cmp es) → length es ≤ 12288
  few [] h sorted = lit≤ tt
  few (e ∷ es) h sorted =
      let s = both_true (below_all key_cmp e.0 es) _ sorted in
      omega (arith, few_above 0 e.0 es h.0 h.1 (omega arith) s.0 s.1)

small_grant : (k : Key) → 0 < greatest_grant k → IsSmall k
small_grant k h = record { what = grind (arith, nat_tests); unit = grind (arith, nat_tests); number = grind (arith, nat_tests) }

small_demand : (k : Key) → 0 < greatest_demand k → IsSmall k
small_demand k h = record { what = grind (arith, nat_tests); unit = grind (arith, nat_tests); number = grind (arith, nat_tests) }

module _ (greatest : Key → ℕ) (bounded : (k : Key) → greatest k ≤ 1000000000000) (writable : (k : Key) → 0 < greatest k → IsWritable k) (small : (k : Key) → 0 < greatest k → IsSmall k) where
  small_counts : (es : List (Key × ℕ)) → AllByRecursion (λ e. 0 < e.1) es → AllByRecursion (λ e. e.1 ≤ greatest e.0) es → AllByRecursion (λ e. IsSmall e.0) es
  small_counts [] p w = tt
  small_counts (e ∷ es) p w = (small e.0 (omega (arith, p.0, w.0)), small_counts es p.1 w.1)

  few_counts : (es : List (Key × ℕ)) → AreCounts key_cmp greatest es → length es ≤ 12288
  few_counts es h = few es (small_counts es h.positive h.within) h.sorted

  counts_long : (es : List (Key × ℕ)) → AreCounts key_cmp greatest es → length (flat_map number_entry es) ≡ length es * 12
  counts_long es h = entries_long number_entry IsNumberEntry 12 number_wide es (number_entries greatest bounded writable es h.positive h.within)

  real_change : (z : ℤ) → is_no_change z ≡ false → 0 < unsigned_abs z
  real_change (pos zero) e = cc
  real_change (pos (suc n)) e = omega arith
  real_change (negsuc n) e = omega arith

  small_changes : (cs : List (Key × ℤ)) → AllByRecursion (λ c. is_no_change c.1 ≡ false) cs → AllByRecursion (λ c. unsigned_abs c.1 ≤ greatest c.0) cs → AllByRecursion (λ c. IsSmall c.0) cs
  small_changes [] p w = tt
  small_changes (c ∷ cs) p w = (small c.0 (omega (arith, real_change c.1 p.0, w.0)), small_changes cs p.1 w.1)

  few_changes : (cs : List (Key × ℤ)) → AreChangesWithin greatest cs → length cs ≤ 12288
  few_changes cs h = few cs (small_changes cs h.changes.real h.within) h.changes.sorted

  changes_long : (cs : List (Key × ℤ)) → AreChangesWithin greatest cs → length (flat_map change_entry cs) ≡ length cs * 12
  changes_long cs h = entries_long change_entry IsChangeEntry 12 change_wide cs (change_entries greatest bounded writable cs h.changes.real h.within)

pub few_grants : (es : List (Key × ℕ)) → AreCounts key_cmp greatest_grant es → length es ≤ 12288
few_grants = few_counts greatest_grant grant_bounded grant_writable small_grant

pub few_demands : (es : List (Key × ℕ)) → AreCounts key_cmp greatest_demand es → length es ≤ 12288
few_demands = few_counts greatest_demand demand_bounded demand_writable small_demand

pub few_grant_changes : (cs : List (Key × ℤ)) → AreChangesWithin greatest_grant cs → length cs ≤ 12288
few_grant_changes = few_changes greatest_grant grant_bounded grant_writable small_grant

pub few_demand_changes : (cs : List (Key × ℤ)) → AreChangesWithin greatest_demand cs → length cs ≤ 12288
few_demand_changes = few_changes greatest_demand demand_bounded demand_writable small_demand

rows_long : (es : List (RowKey × ℕ)) → IsRow es → length (flat_map row_entry es) ≡ length es * 73
rows_long es h = entries_long row_entry IsRowEntry 73 row_wide es (row_entries es h)

-- a body is as long as its entries say
pub body_long : (b : Body) → HasForm b → length (body_bytes b) ≡ body_length b
body_long Nothing h = refl
body_long (Row row) h = omega (arith, rows_long row h)
body_long (RowDelta change) h = omega (arith, entries_long row_change_entry IsRowChangeEntry 73 row_change_wide change (row_changes change h.changes))
body_long (Join join) h = omega (arith, rows_long join.table h.table)
body_long (Grants tally) h = omega (arith, counts_long greatest_grant grant_bounded grant_writable small_grant tally.entries h.counts)
body_long (GrantsDelta change) h = omega (arith, changes_long greatest_grant grant_bounded grant_writable small_grant change.entries h.entries)
body_long (Demand tally) h = omega (arith, counts_long greatest_demand demand_bounded demand_writable small_demand tally.entries h.counts)
body_long (DemandDelta change) h = omega (arith, changes_long greatest_demand demand_bounded demand_writable small_demand change.entries h.entries)

pub body_within : (b : Body) → HasForm b → body_length b ≤ most_body_bytes
body_within Nothing h = lit≤ tt
body_within (Row row) h = omega (arith, h.few)
body_within (RowDelta change) h = omega (arith, h.few)
body_within (Join join) h = omega (arith, h.table.few)
body_within (Grants tally) h = omega (arith, few_grants tally.entries h.counts)
body_within (GrantsDelta change) h = omega (arith, few_grant_changes change.entries h.entries)
body_within (Demand tally) h = omega (arith, few_demands tally.entries h.counts)
body_within (DemandDelta change) h = omega (arith, few_demand_changes change.entries h.entries)
