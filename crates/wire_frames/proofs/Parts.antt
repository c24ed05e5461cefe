-- Bytes from a place on, cut into the fields that stand there.
use Rattle.std.specs.Prelude.{◌≡◌, ℕ, ◌+◌, ◌<◌, ◌≤◌, List, [], ◌∷◌, ◌++◌, length, take, drop, slice_index, Some, None, Option}
use Rattle.std.proofs.Common.{refl, sym, ◌∙◌, ap, arith, get_or, length-drop, inl, inr}
use Rattle.std.proofs.Math.Seq.{take-add, drop-cons}
use Rattle.std.proofs.lemmas.List.{drop-drop, length-take-le, get_or-take, get_or-drop, get_or_past}
use Rattle.std.proofs.lemmas.Nat.{be_bytes_4, be_bytes_8}
use Rattle.std.proofs.lemmas.Bool.{cases_lt}
use Rattle.std.proofs.lemmas.Bool.Decides.{nat_tests}
use Rattle.std.specs.Int.{to_be_bytes, w32, w64}
use Rattle.schedule_unit.specs.declared.party.Party.{Party}
use Rattle.schedule_unit.specs.declared.party.Role.{Role}
use Rattle.schedule_unit.specs.declared.party.Role.TheVariants.{Master, Agent, App}
use Rattle.party_ledgers.specs.declared.packets.Kind.{Kind}
use Rattle.party_ledgers.specs.declared.packets.Kind.TheVariants.{Ack, Delta, Full, End}
use Rattle.wire_frames.specs.Frames.{kind_byte, role_byte, party_bytes}
use Rattle.wire_frames.specs.ReadFrames.{number_at, kind_of, role_of, party_of, party_at}

abbrev pub IsBytes : List ℕ → Type 0
IsBytes bytes = (i : ℕ) → get_or bytes i 0 < 256

-- so many of the bytes from a place on are the first n and the m behind them
pub cut : (bytes : List ℕ) (at n m there all : ℕ) → there ≡ at + n → all ≡ n + m → take all (drop at bytes) ≡ take n (drop at bytes) ++ take m (drop there bytes)
cut bytes at n m there all p q =
    ap (λ k. take k (drop at bytes)) q ∙ take-add n m (drop at bytes)
    ∙ ap (λ l. take n (drop at bytes) ++ take m l) (drop-drop n at bytes ∙ ap (λ k. drop k bytes) (sym p))

part_long : (bytes : List ℕ) (at n : ℕ) → at + n ≤ length bytes → length (take n (drop at bytes)) ≡ n
part_long bytes at n h = length-take-le n (drop at bytes) (omega (arith, h, length-drop at bytes))

part_bytes : (bytes : List ℕ) (at n : ℕ) → IsBytes bytes → at + n ≤ length bytes → IsBytes (take n (drop at bytes))
part_bytes bytes at n are h i = elim (cases_lt i n) [
  | inl lt ↦ rw (get_or-take n (drop at bytes) i 0 lt, get_or-drop at bytes i 0) (are (at + i))
  | inr ge ↦ rw (get_or_past (take n (drop at bytes)) i 0 (omega (arith, part_long bytes at n h))) (omega arith)
]

pub number_4 : (bytes : List ℕ) (at : ℕ) → IsBytes bytes → at + 4 ≤ length bytes → take 4 (drop at bytes) ≡ to_be_bytes w32 (number_at w32 at bytes)
number_4 bytes at are h = sym (be_bytes_4 (take 4 (drop at bytes)) (number_at w32 at bytes) (part_long bytes at 4 h) (part_bytes bytes at 4 are h) refl)

pub number_8 : (bytes : List ℕ) (at : ℕ) → IsBytes bytes → at + 8 ≤ length bytes → take 8 (drop at bytes) ≡ to_be_bytes w64 (number_at w64 at bytes)
number_8 bytes at are h = sym (be_bytes_8 (take 8 (drop at bytes)) (number_at w64 at bytes) (part_long bytes at 8 h) (part_bytes bytes at 8 are h) refl)

pub byte_1 : (bytes : List ℕ) (at : ℕ) → at + 1 ≤ length bytes → take 1 (drop at bytes) ≡ slice_index bytes at ∷ []
byte_1 bytes at h = ap (take 1) (drop-cons bytes at 0 (omega (arith, h)))

pub kind_is : (b : ℕ) (k : Kind) → kind_of b ≡ Some k → kind_byte k ≡ b
kind_is b Ack e = grind (arith, nat_tests)
kind_is b Delta e = grind (arith, nat_tests)
kind_is b Full e = grind (arith, nat_tests)
kind_is b End e = grind (arith, nat_tests)

pub role_is : (b : ℕ) (r : Role) → role_of b ≡ Some r → role_byte r ≡ b
role_is b Master e = grind (arith, nat_tests)
role_is b Agent e = grind (arith, nat_tests)
role_is b App e = grind (arith, nat_tests)

-- a party that stands there has its bytes there
pub record PartyIs (role : Option Role) (number inc : ℕ) (p : Party) : Type 0 where
  pub role_is : role ≡ Some p.role
  pub number_is : number ≡ p.number
  pub inc_is : inc ≡ p.inc

pub party_is : (role : Option Role) (number inc : ℕ) (p : Party) → party_of role number inc ≡ Some p → PartyIs role number inc p
party_is None number inc p e = cc
party_is (Some role) number inc p e =
    let same : record { role = role; number = number; inc = inc } ≡ p = cc in
    record { role_is = ap (λ (q : Party). Some q.role) same; number_is = ap (λ (q : Party). q.number) same; inc_is = ap (λ (q : Party). q.inc) same }

pub party_13 : (bytes : List ℕ) (at : ℕ) (p : Party) → IsBytes bytes → at + 13 ≤ length bytes → party_at at bytes ≡ Some p → take 13 (drop at bytes) ≡ party_bytes p
party_13 bytes at p are h e =
    let is = party_is (role_of (slice_index bytes at)) (number_at w32 (at + 1) bytes) (number_at w64 (at + 5) bytes) p e in
    let role = byte_1 bytes at (omega (arith, h)) ∙ ap (λ b. b ∷ []) (sym (role_is (slice_index bytes at) p.role is.role_is)) in
    let number = number_4 bytes (at + 1) are (omega (arith, h)) ∙ ap (to_be_bytes w32) is.number_is in
    let inc = number_8 bytes (at + 5) are (omega (arith, h)) ∙ ap (to_be_bytes w64) is.inc_is in
    let whole = cut bytes at 1 12 (at + 1) 13 refl refl in
    let rest = cut bytes (at + 1) 4 8 (at + 5) 12 (omega arith) refl in
    whole ∙ (λ i. role i ++ ((rest ∙ (λ j. number j ++ inc j)) i))
