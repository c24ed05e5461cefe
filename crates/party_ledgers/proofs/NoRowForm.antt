-- Why bytes are the form of no row, and of no change of one; and a row's change with one more behind it.
use Rattle.std.proofs.Common.{◌≡◌, ℕ, ◌<◌, ◌≤◌, ◌^◌, Bool, true, false, cond, List, [], ◌∷◌, ◌++◌, length, refl, sym, ◌∙◌, ap, subst, arith}
use Rattle.std.specs.Prelude.{ℤ, T, unsigned_abs}
use Rattle.std.specs.List.{All}
use Rattle.std.specs.declared.cmp.Ordering.TheVariants.{Less}
use Rattle.std.proofs.lemmas.List.Elements.{recursion_from_All}
use Rattle.fuxi_terms.specs.Keys.{RowKey, row_cmp}
use Rattle.fuxi_terms.specs.Limits.{greatest_count}
use Rattle.fuxi_terms.specs.Counts.{is_no_change}
use Rattle.ledger_law.specs.Forms.{counted}
use Rattle.ledger_law.specs.OneForm.{counted_one}
use Rattle.fuxi_terms.proofs.OneChangeMore.{changes_push}
use Rattle.fuxi_terms.proofs.Lists.{all_push}
use Rattle.fuxi_terms.specs.Rows.{IsRow, AreRowChanges, IsRowChange, is_row_key, greatest_row}
use Rattle.party_ledgers.specs.RowForms.{row_entry, row_change_entry, row_form, row_change_form, IsRowEntry, IsRowChangeEntry}
use Rattle.party_ledgers.specs.RowOneForm.{row_wide, row_one, row_change_wide, row_change_one, row_entries, row_changes, few_entries, few_row_changes}

pub not_row : (bytes : List ℕ) (es : List (RowKey × ℕ)) → All IsRowEntry es → length es < 2 ^ 32 → bytes ≡ counted row_entry es → (IsRow es → ⊥) → (row : List (RowKey × ℕ)) → IsRow row → bytes ≡ row_form row → ⊥
not_row bytes es all few is fails row h e =
    let same : es ≡ row = counted_one row_entry IsRowEntry 73 row_wide row_one es row [] [] (recursion_from_All _ es all) (row_entries row h) few (few_entries row h) (ap (λ b. b ++ []) (sym is ∙ e)) in
    fails (subst (λ es. IsRow es) (sym same) h)

pub not_row_change : (bytes : List ℕ) (cs : List (RowKey × ℤ)) → All IsRowChangeEntry cs → length cs < 2 ^ 32 → bytes ≡ counted row_change_entry cs → (IsRowChange cs → ⊥) → (change : List (RowKey × ℤ)) → IsRowChange change → bytes ≡ row_change_form change → ⊥
not_row_change bytes cs all few is fails change h e =
    let same : cs ≡ change = counted_one row_change_entry IsRowChangeEntry 73 row_change_wide row_change_one cs change [] [] (recursion_from_All _ cs all) (row_changes change h.changes) few (few_row_changes change h) (ap (λ b. b ++ []) (sym is ∙ e)) in
    fails (subst (λ cs. IsRowChange cs) (sym same) h)

greatest_of_key : (k : RowKey) → T (is_row_key k) → greatest_row k ≡ greatest_count
greatest_of_key k h = by (is_row_key k) h
  where
    by : (b : Bool) → T b → cond b greatest_count 0 ≡ greatest_count
    by true h = refl
    by false h = absurd h

pub row_changes_push : (cs : List (RowKey × ℤ)) (k : RowKey) (change : ℤ) → AreRowChanges cs → T (is_row_key k) → is_no_change change ≡ false → unsigned_abs change ≤ 100000 → All (λ c. row_cmp c.0 k ≡ Less) cs → AreRowChanges (cs ++ (k, change) ∷ [])
row_changes_push cs k change h key real small rises = record {
  changes = changes_push row_cmp cs k change h.changes real rises;
  within = all_push (λ c. unsigned_abs c.1 ≤ greatest_row c.0) cs (k, change) h.within (omega (arith, greatest_of_key k key));
}
