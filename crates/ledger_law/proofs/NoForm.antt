-- Why bytes are the form of no tally, and of no change.
use Rattle.std.proofs.Common.{◌≡◌, ℕ, ◌<◌, ◌≤◌, ◌^◌, List, [], ◌++◌, length, take, drop, arith, sym, ◌∙◌, ap, subst}
use Rattle.std.specs.Prelude.{ℤ}
use Rattle.std.specs.List.{All}
use Rattle.std.specs.Int.{from_be_bytes, w32}
use Rattle.std.proofs.lemmas.Nat.{from_be_bytes-to_be_bytes_4}
use Rattle.std.proofs.lemmas.List.Elements.{recursion_from_All}
use Rattle.fuxi_terms.specs.declared.Key.{Key}
use Rattle.fuxi_terms.specs.Keys.{key_cmp}
use Rattle.fuxi_terms.specs.Counts.{AreCounts}
use Rattle.fuxi_terms.specs.Tallies.{TallyRecord, ChangeRecord}
use Rattle.ledger_law.specs.Forms.{headed, number_entry, change_entry, IsNumberEntry, IsChangeEntry, tally_form, change_form}
use Rattle.ledger_law.specs.OneForm.{counted_one, number_wide, number_one, change_wide, change_one, number_entries, change_entries, few_counts, few_changes}
use Rattle.ledger_law.proofs.FormsLemmas.{length_all}
use Rattle.ledger_law.specs.Shapes.{IsWritable, IsTally, IsChange, AreChangesWithin}

module _ (greatest : Key → ℕ) (bounded : (k : Key) → greatest k ≤ 1000000000000) (writable : (k : Key) → 0 < greatest k → IsWritable k) (bytes : List ℕ) (head : ℕ) where
  pub not_counts : (es : List (Key × ℕ)) → All IsNumberEntry es → length es < 2 ^ 32 → bytes ≡ headed number_entry head es → (AreCounts key_cmp greatest es → ⊥) → (t : TallyRecord) → IsTally greatest t → bytes ≡ tally_form t → ⊥
  not_counts es all few is fails t h e =
      let same : es ≡ t.entries = counted_one number_entry IsNumberEntry 12 number_wide number_one es t.entries [] [] (recursion_from_All _ es all) (number_entries greatest bounded writable t.entries h.counts.positive h.counts.within) few (few_counts greatest bounded writable t.entries h.counts) (ap (λ b. drop 8 b ++ []) (sym is ∙ e)) in
      fails (subst (λ es. AreCounts key_cmp greatest es) (sym same) h.counts)

  -- bytes of one entry's length with another number before it
  pub not_single : (n : ℕ) → length bytes ≡ 24 → n ≡ from_be_bytes w32 (take 4 (drop 8 bytes)) → (n ≡ 1 → ⊥) → (c : ChangeRecord) → IsChange greatest c → bytes ≡ change_form c → ⊥
  not_single n long is differs c h e =
      let all = change_entries greatest bounded writable c.entries h.entries.changes.real h.entries.within in
      let few = few_changes greatest bounded writable c.entries h.entries in
      let same : n ≡ length c.entries = is ∙ ap (λ bs. from_be_bytes w32 (take 4 (drop 8 bs))) e ∙ from_be_bytes-to_be_bytes_4 (length c.entries) few in
      let whole = ap length e in
      differs (omega (arith, long, whole, same, length_all change_entry IsChangeEntry 12 change_wide c.entries all))

  pub not_changes : (cs : List (Key × ℤ)) → All IsChangeEntry cs → length cs < 2 ^ 32 → bytes ≡ headed change_entry head cs → (AreChangesWithin greatest cs → ⊥) → (c : ChangeRecord) → IsChange greatest c → bytes ≡ change_form c → ⊥
  not_changes cs all few is fails c h e =
      let same : cs ≡ c.entries = counted_one change_entry IsChangeEntry 12 change_wide change_one cs c.entries [] [] (recursion_from_All _ cs all) (change_entries greatest bounded writable c.entries h.entries.changes.real h.entries.within) few (few_changes greatest bounded writable c.entries h.entries) (ap (λ b. drop 8 b ++ []) (sym is ∙ e)) in
      fails (subst (λ cs. AreChangesWithin greatest cs) (sym same) h.entries)
