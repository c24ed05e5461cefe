-- What a file stands for while a record is appended, and when it is.
use Rattle.std.proofs.Common.{◌≡◌, ◌⊎◌, inl, inr, ℕ, zero, suc, ◌+◌, ◌^◌, ◌<◌, ◌≤◌, Bool, true, false, cond, nat_lt, nat_eq, List, [], ◌∷◌, ◌++◌, length, take, drop, get_or, Option, Some, Ok, refl, sym, ◌∙◌, ap, arith, append_assoc, length-append, take-append-drop}
use Rattle.std.proofs.lemmas.List.{take_at, drop_at, drop_more, take_more}
use Rattle.std.proofs.lemmas.Bool.{cases_eq}
use Rattle.std.proofs.lemmas.Bool.Decides.{nat_tests}
use Rattle.std.proofs.lemmas.Nat.{from_be_bytes-to_be_bytes_4}
use Rattle.std.specs.Int.{to_be_bytes, w32}
use Rattle.hard_state.specs.Gates.{IsAppending}
use Rattle.hard_state.specs.Checkpoints.{behind_gate, is_open, Found, Closed, Damaged, Whole, Opened, read_from, found_record, found_at, read_on, read_file}
use Rattle.hard_state.proofs.ReadsAlike.{cond_cases, makes_whole, whole_is, ok_is, reads_closed, Continues, continues}

pub length-behind : (body : List ℕ) → length (behind_gate body) ≡ 5 + length body
length-behind body = omega (arith, length-append body (0 ∷ []))

module _ {S : Type 0} (taken : S → List ℕ → Option S) where
  -- a closed gate ends a file, whatever stands behind it
  pub closed_reads : (left gate : ℕ) (value : S) (bytes : List ℕ) → is_open bytes ≡ false → read_on taken left gate value bytes ≡ Ok (record { value = value; gate = gate })
  closed_reads left gate value bytes shut = reads_closed taken left gate value bytes (ap (λ b. cond b (found_record taken value bytes) Closed) shut)

  -- a record behind an open gate, with what is written behind it
  pub record_reads : (left gate : ℕ) (value next : S) (body rest : List ℕ) → length body < 2 ^ 32 → taken value body ≡ Some next → 0 < left
      → read_on taken left gate value (1 ∷ (behind_gate body ++ rest)) ≡ Ok (record { value = next; gate = gate + (5 + length body) })
  record_reads zero gate value next body rest small takes some = absurd (omega (arith, some))
  record_reads (suc left) gate value next body rest small takes some =
      ap (read_from (read_on taken left) gate value file) (makes_whole taken value file next (5 + length body) (record {
        opened = refl;
        some = omega arith;
        fits = long;
        counts = ap (λ n. 5 + n) (sym (from_be_bytes-to_be_bytes_4 (length body) small));
        takes = ap (λ n. taken value (take n (body ++ 0 ∷ [] ++ rest))) (omega arith) ∙ ap (taken value) body_is ∙ takes;
      }))
      ∙ closed_reads left (gate + (5 + length body)) next (drop (5 + length body) file) (ap is_open behind)
    where
      file : List ℕ
      file = 1 ∷ (behind_gate body ++ rest)

      long : 5 + length body < length file
      long = omega (arith, length-append (behind_gate body) rest, length-behind body)

      body_is : take (length body) (body ++ 0 ∷ [] ++ rest) ≡ body
      body_is = ap (λ l. take (length body) l) (append_assoc body (0 ∷ []) rest) ∙ take_at body (0 ∷ rest) (length body) refl

      behind : drop (5 + length body) file ≡ 0 ∷ rest
      behind =
          ap (λ l. drop (5 + length body) l) (ap (λ l. 1 ∷ l) (append_assoc (to_be_bytes w32 (length body) ++ body) (0 ∷ []) rest))
          ∙ drop_at (1 ∷ (to_be_bytes w32 (length body) ++ body)) (0 ∷ rest) (5 + length body) (omega arith)

  -- a file of at most one byte has no record
  short_found : (left gate : ℕ) (value : S) (file : List ℕ) (o : Opened S) (f : Found S) → length file ≤ 1 → found_at taken value file ≡ f → read_from (read_on taken left) gate value file f ≡ Ok o
      → record { value = value; gate = gate } ≡ o
  short_found left gate value file o Closed few found is = ok_is taken _ o is
  short_found left gate value file o Damaged few found is = absurd (cc)
  short_found left gate value file o (Whole next size) few found is = let w = whole_is taken value file next size found in absurd (omega (arith, w.some, w.fits, few))

  short_reads : (left gate : ℕ) (value : S) (file : List ℕ) (o : Opened S) → length file ≤ 1 → read_on taken left gate value file ≡ Ok o → record { value = value; gate = gate } ≡ o
  short_reads zero gate value file o few is = elim (cond_cases (is_open file) _ _ _ is) [ inl a ↦ absurd (cc) | inr a ↦ ok_is taken _ o a.1 ]
  short_reads (suc left) gate value file o few is = short_found left gate value file o (found_at taken value file) few refl is

  -- what is read from the first gate on is what the file stands for
  pub stands : (most : ℕ) (nothing : S) (file : List ℕ) (o : Opened S) → read_on taken most 0 nothing file ≡ Ok o → read_file taken most nothing file ≡ Ok o
  stands most nothing file o is = go (nat_lt 1 (length file)) refl
    where
      go : (b : Bool) → nat_lt 1 (length file) ≡ b → cond b (read_on taken most 0 nothing file) (Ok (record { value = nothing; gate = 0 })) ≡ Ok o
      go true long = is
      go false not = let few : length file ≤ 1 = grind (arith, nat_tests) in ap Ok (short_reads most 0 nothing file o few is)

  -- an appending to a file that reads as this value
  module _ (records : S → ℕ) (one_more : (value : S) (body : List ℕ) (next : S) → taken value body ≡ Some next → records next ≡ records value + 1) (most : ℕ) (nothing : S) (none : records nothing ≡ 0)
      (value next : S) (gate : ℕ) (file body : List ℕ) (reads : read_on taken most 0 nothing file ≡ Ok (record { value = value; gate = gate })) (within : gate < length file)
      (small : length body < 2 ^ 32) (takes : taken value body ≡ Some next) (room : records value < most) where
    c : Continues taken records most 0 nothing file (record { value = value; gate = gate })
    c = continues taken records one_more most 0 nothing file (record { value = value; gate = gate }) reads

    size_is : c.size ≡ gate
    size_is = sym (omega (arith, c.at))

    shut : is_open (drop gate file) ≡ false
    shut = ap (λ n. is_open (drop n file)) (sym size_is) ∙ c.shut

    again : (end : List ℕ) → 0 < length end → read_on taken most 0 nothing (take gate file ++ end) ≡ read_on taken c.left_then gate value end
    again end some = ap (λ n. read_on taken most 0 nothing (take n file ++ end)) (sym size_is) ∙ c.again end some

    abbrev old_end : List ℕ → List ℕ
    old_end left = get_or file gate 0 ∷ drop (gate + 1) left

    pub reads_before : (left : List ℕ) → take (gate + 1) left ≡ take (gate + 1) file → read_on taken most 0 nothing left ≡ Ok (record { value = value; gate = gate })
    reads_before left same =
        ap (read_on taken most 0 nothing) split ∙ again (old_end left) (omega arith)
        ∙ closed_reads c.left_then gate value (old_end left) (ap is_open (sym (drop_more file gate 0 within)) ∙ shut)
      where
        split : left ≡ take gate file ++ old_end left
        split =
            sym (take-append-drop (gate + 1) left) ∙ ap (λ l. l ++ drop (gate + 1) left) (same ∙ take_more file gate 0 within)
            ∙ append_assoc (take gate file) (get_or file gate 0 ∷ []) (drop (gate + 1) left)

    -- where all of it stands behind the gate
    abbrev new_end : ℕ → List ℕ → List ℕ
    new_end byte left = byte ∷ (behind_gate body ++ drop (gate + 1 + length (behind_gate body)) left)

    split_new : (left : List ℕ) (byte : ℕ) → take (gate + 1 + length (behind_gate body)) left ≡ take gate file ++ byte ∷ behind_gate body → left ≡ take gate file ++ new_end byte left
    split_new left byte same =
        let end = gate + 1 + length (behind_gate body) in
        sym (take-append-drop end left) ∙ ap (λ l. l ++ drop end left) same ∙ append_assoc (take gate file) (byte ∷ behind_gate body) (drop end left)

    pub reads_after : (left : List ℕ) → take (gate + 1 + length (behind_gate body)) left ≡ take gate file ++ 1 ∷ behind_gate body
        → read_on taken most 0 nothing left ≡ Ok (record { value = next; gate = gate + (5 + length body) })
    reads_after left same =
        ap (read_on taken most 0 nothing) (split_new left 1 same) ∙ again (new_end 1 left) (omega arith)
        ∙ record_reads c.left_then gate value next body (drop (gate + 1 + length (behind_gate body)) left) small takes (omega (arith, c.counts, room, none))

    pub reads_either : (left : List ℕ) → IsAppending file gate (behind_gate body) left
        → (read_on taken most 0 nothing left ≡ Ok (record { value = value; gate = gate })) ⊎ (read_on taken most 0 nothing left ≡ Ok (record { value = next; gate = gate + (5 + length body) }))
    reads_either left (inl same) = inl (reads_before left same)
    reads_either left (inr behind) = elim (cases_eq behind.0 1) [
      | inl opened ↦ inr (reads_after left (behind.1 ∙ ap (λ b. take gate file ++ b ∷ behind_gate body) opened))
      | inr closed ↦
          let not_open : nat_eq behind.0 1 ≡ false = grind (arith, nat_tests) in
          inl (ap (read_on taken most 0 nothing) (split_new left behind.0 behind.1) ∙ again (new_end behind.0 left) (omega arith) ∙ closed_reads c.left_then gate value (new_end behind.0 left) not_open)
    ]
