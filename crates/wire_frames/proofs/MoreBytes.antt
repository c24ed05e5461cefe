-- What stands behind bytes changes what reading them gives only where they are short.
use Rattle.std.specs.Prelude.{◌≡◌, ◌≢◌, ℕ, ◌+◌, ◌<◌, ◌≤◌, Bool, true, false, cond, nat_eq, nat_lt, List, ◌++◌, length, take, drop, slice_index, Option, Some, None, Result, Ok, Err}
use Rattle.std.proofs.Common.{refl, sym, ◌∙◌, ap, subst, arith, length-append, length-drop}
use Rattle.std.proofs.Math.Seq.{take-length}
use Rattle.std.proofs.lemmas.List.{get_or_append_left, take-append-le, drop-append-le, length-take-le, take-append-drop}
use Rattle.std.proofs.lemmas.Bool.Decides.{nat_tests}
use Rattle.std.specs.Int.{Width, from_be_bytes, byte_len, w32, w64}
use Rattle.party_ledgers.specs.declared.packets.Packet.{Packet}
use Rattle.wire_frames.specs.Frames.{version, IsFrame}
use Rattle.wire_frames.specs.ReadFrames.{number_at, kind_of, party_of, role_of, party_at, length_in, is_no_length, kind_fault, fields_fault, header_fault, Begins, Reads}
use Rattle.wire_frames.specs.declared.fault.FrameFault.{FrameFault}
use Rattle.wire_frames.specs.declared.fault.FrameFault.TheVariants.{Short, Length, Version, Kind, Role, Place, Body, OutOfMemory}
use Rattle.wire_frames.proofs.Framed.{begins_fields, begins_size, header_right}

same_part : (bytes more : List ℕ) (at n : ℕ) → at + n ≤ length bytes → take n (drop at (bytes ++ more)) ≡ take n (drop at bytes)
same_part bytes more at n h =
    ap (take n) (drop-append-le at bytes more (omega (arith, h)))
    ∙ take-append-le n (drop at bytes) more (omega (arith, h, length-drop at bytes))

same_number : (w : Width) (bytes more : List ℕ) (at : ℕ) → at + byte_len w ≤ length bytes → number_at w at (bytes ++ more) ≡ number_at w at bytes
same_number w bytes more at h = ap (from_be_bytes w) (same_part bytes more at (byte_len w) h)

same_byte : (bytes more : List ℕ) (at : ℕ) → at < length bytes → slice_index (bytes ++ more) at ≡ slice_index bytes at
same_byte bytes more at h = get_or_append_left bytes more 0 at h

same_party : (bytes more : List ℕ) (at : ℕ) → at + 13 ≤ length bytes → party_at at (bytes ++ more) ≡ party_at at bytes
same_party bytes more at h =
    let role = same_byte bytes more at (omega (arith, h)) in
    let number = same_number w32 bytes more (at + 1) (omega (arith, h)) in
    let inc = same_number w64 bytes more (at + 5) (omega (arith, h)) in
    λ i. party_of (role_of (role i)) (number i) (inc i)

same_fields : (bytes more : List ℕ) → 48 ≤ length bytes → fields_fault (bytes ++ more) ≡ fields_fault bytes
same_fields bytes more h =
    let first = same_byte bytes more 4 (omega (arith, h)) in
    let kind = same_byte bytes more 5 (omega (arith, h)) in
    let from = same_party bytes more 6 (omega (arith, h)) in
    let to = same_party bytes more 19 (omega (arith, h)) in
    let inc = same_number w64 bytes more 32 (omega (arith, h)) in
    let seq = same_number w64 bytes more 40 (omega (arith, h)) in
    λ i. cond (nat_eq (first i) version) (kind_fault (kind i) (kind_of (kind i)) (from i) (to i) (record { inc = inc i; seq = seq i })) (Some (Version (first i)))

-- what the tests of the length say of bytes that are not short
pub data Lengths (bytes : List ℕ) : Type 0 where
  Far : 4 ≤ length bytes → is_no_length (length_in bytes) ≡ true → Lengths bytes
  There : is_no_length (length_in bytes) ≡ false → 48 ≤ length bytes → 4 + length_in bytes ≤ length bytes → Lengths bytes

lengths : (bytes : List ℕ) → header_fault bytes ≢ Some Short → Lengths bytes
unfolding header_fault
lengths bytes not_short = by (nat_lt (length bytes) 4) (is_no_length (length_in bytes)) (nat_lt (length bytes) (4 + length_in bytes)) refl refl refl not_short
  where
    by : (a b c : Bool) → nat_lt (length bytes) 4 ≡ a → is_no_length (length_in bytes) ≡ b → nat_lt (length bytes) (4 + length_in bytes) ≡ c
        → cond a (Some Short) (cond b (Some (Length (length_in bytes))) (cond c (Some Short) (fields_fault bytes))) ≢ Some Short → Lengths bytes
    by true b c p q r other = absurd (other refl)
    by false true c p q r other = Far (grind (arith, nat_tests)) q
    by false false true p q r other = absurd (other refl)
    by false false false p q r other = There q (grind (arith, nat_tests)) (grind (arith, nat_tests))

far : (bytes : List ℕ) → 4 ≤ length bytes → is_no_length (length_in bytes) ≡ true → header_fault bytes ≡ Some (Length (length_in bytes))
unfolding header_fault
far bytes h e =
    let four : nat_lt (length bytes) 4 ≡ false = grind (arith, nat_tests, h) in
    rw (four, e) refl

there : (bytes : List ℕ) → is_no_length (length_in bytes) ≡ false → 48 ≤ length bytes → 4 + length_in bytes ≤ length bytes → header_fault bytes ≡ fields_fault bytes
unfolding header_fault
there bytes e h whole =
    let four : nat_lt (length bytes) 4 ≡ false = grind (arith, nat_tests, h) in
    let rest : nat_lt (length bytes) (4 + length_in bytes) ≡ false = grind (arith, nat_tests, whole) in
    rw (four, e, rest) refl

same_length_in : (bytes more : List ℕ) → 4 ≤ length bytes → length_in (bytes ++ more) ≡ length_in bytes
same_length_in bytes more h = same_number w32 bytes more 0 h

pub same_fault : (bytes more : List ℕ) → header_fault bytes ≢ Some Short → header_fault (bytes ++ more) ≡ header_fault bytes
same_fault bytes more not_short = elim (lengths bytes not_short) [
  | Far h e ↦
      let same = same_length_in bytes more h in
      far (bytes ++ more) (omega (arith, h, length-append bytes more)) (ap is_no_length same ∙ e) ∙ ap (λ n. Some (Length n)) same ∙ sym (far bytes h e)
  | There e h whole ↦
      let same = same_length_in bytes more (omega (arith, h)) in
      there (bytes ++ more) (ap is_no_length same ∙ e) (omega (arith, h, length-append bytes more)) (omega (arith, whole, same, length-append bytes more))
      ∙ same_fields bytes more h ∙ sym (there bytes e h whole)
]

begins_more : (bytes more : List ℕ) (x : Packet) (n : ℕ) → Begins bytes x n → Begins (bytes ++ more) x n
begins_more bytes more x n b = record { within = omega (arith, b.within, length-append bytes more); frame = subst (IsFrame x) (sym (take-append-le n bytes more b.within)) b.frame }

-- a frame within bytes of which all are there is there without those behind them
begins_less : (bytes more : List ℕ) (x : Packet) (n : ℕ) → header_fault bytes ≡ None → Begins (bytes ++ more) x n → Begins bytes x n
begins_less bytes more x n right b =
    let size = begins_size (bytes ++ more) x n b in
    let f = begins_fields (bytes ++ more) x n b in
    elim (lengths bytes (λ short. cc)) [
      | Far h e ↦ let fault = far bytes h e in cc
      | There small h whole ↦
          let same = same_length_in bytes more (omega (arith, h)) in
          let within : n ≤ length bytes = omega (arith, size, f.length_is, same, whole) in
          record { within = within; frame = subst (IsFrame x) (take-append-le n bytes more within) b.frame }
    ]

pub more_bytes : (bytes more : List ℕ) (r : Result (Packet × ℕ) FrameFault) → Reads bytes r → r ≢ Err Short → Reads (bytes ++ more) r
more_bytes bytes more (Ok read) h other = begins_more bytes more read.0 read.1 h
more_bytes bytes more (Err Short) h other = absurd (other refl)
more_bytes bytes more (Err (Length n)) h other = same_fault bytes more (λ short. cc) ∙ h
more_bytes bytes more (Err (Version n)) h other = same_fault bytes more (λ short. cc) ∙ h
more_bytes bytes more (Err (Kind n)) h other = same_fault bytes more (λ short. cc) ∙ h
more_bytes bytes more (Err Role) h other = same_fault bytes more (λ short. cc) ∙ h
more_bytes bytes more (Err Place) h other = same_fault bytes more (λ short. cc) ∙ h
more_bytes bytes more (Err Body) h other = (same_fault bytes more (λ short. cc (h.0)) ∙ h.0, λ x n b. h.1 x n (begins_less bytes more x n h.0 b))
more_bytes bytes more (Err OutOfMemory) h other = tt

-- a beginning of a frame is short
pub short_part : (x : Packet) (bytes : List ℕ) (n : ℕ) → IsFrame x bytes → n < length bytes → header_fault (take n bytes) ≡ Some Short
short_part x bytes n f h = by (header_fault (take n bytes)) refl
  where
    long : length (take n bytes) ≡ n
    long = length-take-le n bytes (omega (arith, h))

    whole : take n bytes ++ drop n bytes ≡ bytes
    whole = take-append-drop n bytes

    begins : Begins (take n bytes ++ drop n bytes) x (length bytes)
    begins = record { within = omega (arith, ap length whole); frame = subst (IsFrame x) (sym (ap (take (length bytes)) whole ∙ take-length bytes)) f }

    too_long : (e : header_fault (take n bytes) ≢ Some Short) → ⊥
    too_long not_short =
        let right = header_right (take n bytes ++ drop n bytes) x (length bytes) begins in
        let less = begins_less (take n bytes) (drop n bytes) x (length bytes) (sym (same_fault (take n bytes) (drop n bytes) not_short) ∙ right) begins in
        omega (arith, less.within, long, h)

    by : (o : Option FrameFault) → header_fault (take n bytes) ≡ o → header_fault (take n bytes) ≡ Some Short
    by None e = absurd (too_long (λ short. cc))
    by (Some Short) e = e
    by (Some (Length m)) e = absurd (too_long (λ short. cc))
    by (Some (Version m)) e = absurd (too_long (λ short. cc))
    by (Some (Kind m)) e = absurd (too_long (λ short. cc))
    by (Some Role) e = absurd (too_long (λ short. cc))
    by (Some Place) e = absurd (too_long (λ short. cc))
    by (Some Body) e = absurd (too_long (λ short. cc))
    by (Some OutOfMemory) e = absurd (too_long (λ short. cc))
