-- The packets at the front of bytes.
use Rattle.std.proofs.Common.{◌≡◌, ℕ, ◌+◌, ◌<◌, ◌≤◌, Bool, true, false, cond, ◌||◌, nat_eq, nat_lt, slice_index, List, [], ◌∷◌, ◌++◌, append_assoc, append-nil, length, length-take, drop, take-append-drop, Option, Some, None, refl, sym, ap, subst, ◌∙◌, arith}
use Rattle.std.proofs.lemmas.Bool.Decides.{nat_tests}
use Rattle.std.proofs.lemmas.Grind.{flat_map-append}
use Rattle.std.specs.List.{AllByRecursion, flat_map}
use Rattle.delta_channel.specs.declared.receiver.Place.{Place}
use Rattle.schedule_unit.specs.declared.party.Party.{Party}
use Rattle.party_ledgers.specs.declared.packets.Kind.{Kind}
use Rattle.party_ledgers.specs.declared.packets.Packet.{Packet}
use Rattle.party_ledgers.specs.Packets.{are_parties, is_place_of}
use Rattle.wire_frames.specs.declared.fault.FrameFault.TheVariants.{Short, Length, Version, Role as NoRole, Place as NoPlace}
use Rattle.wire_frames.specs.Frames.{version, frame, IsFrame}
use Rattle.wire_frames.specs.ReadFrames.{header_fault, HasFault, Begins, length_in, version_in, kind_in, sender_in, receiver_in, place_in, place_fault, parties_fault, kind_fault, fields_fault}
use Rattle.wire_frames.specs.Streams.{Splits, HasFrame}

pub no_packet : (bytes : List ℕ) → Splits bytes [] bytes
no_packet bytes = record { whole = refl; each = tt }

each_both : (xs ys : List Packet) → AllByRecursion HasFrame xs → AllByRecursion HasFrame ys → AllByRecursion HasFrame (xs ++ ys)
each_both [] ys all more = more
each_both (x ∷ xs) ys all more = (all.0, each_both xs ys all.1 more)

-- some packets, and then some of what is left
pub splits_both : (bytes left rest : List ℕ) (xs ys : List Packet) → Splits bytes xs left → Splits left ys rest → Splits bytes (xs ++ ys) rest
splits_both bytes left rest xs ys s t = record {
  whole = s.whole ∙ ap (λ l. flat_map frame xs ++ l) t.whole ∙ sym (append_assoc (flat_map frame xs) (flat_map frame ys) rest) ∙ ap (λ l. l ++ rest) (sym (flat_map-append frame xs ys));
  each = each_both xs ys s.each t.each;
}

-- a packet at the front
pub splits_one : (bytes : List ℕ) (x : Packet) (size : ℕ) → Begins bytes x size → Splits bytes (x ∷ []) (drop size bytes)
splits_one bytes x size b = record {
  whole = sym (take-append-drop size bytes) ∙ ap (λ l. l ++ drop size bytes) (b.frame.written ∙ sym (append-nil (frame x)));
  each = (subst (IsFrame x) b.frame.written b.frame, tt);
}

-- bytes behind them
pub splits_fed : (bytes left piece : List ℕ) (xs : List Packet) → Splits bytes xs left → Splits (bytes ++ piece) xs (left ++ piece)
splits_fed bytes left piece xs s = record { whole = ap (λ l. l ++ piece) s.whole ∙ append_assoc (flat_map frame xs) left piece; each = s.each }

-- a frame is never empty
frame_some : (x : Packet) → 1 ≤ length (frame x)
unfolding frame
frame_some x = omega arith

pub size_some : (bytes : List ℕ) (x : Packet) (size : ℕ) → Begins bytes x size → 1 ≤ size
size_some bytes x size b = omega (arith, frame_some x, ap length b.frame.written, length-take size bytes)

place_clear : (kind : Kind) (from : Party) (place : Place) → place_fault kind from place ≡ Some Short → ⊥
place_clear kind from place e = by (is_place_of kind from.inc place) e
  where
    by : (b : Bool) → cond b None (Some NoPlace) ≡ Some Short → ⊥
    by true e = cc
    by false e = cc

parties_clear : (kind : Kind) (from to : Option Party) (place : Place) → parties_fault kind from to place ≡ Some Short → ⊥
parties_clear kind None to place e = cc
parties_clear kind (Some from) None place e = cc
parties_clear kind (Some from) (Some to) place e = by (are_parties from to) e
  where
    by : (b : Bool) → cond b (place_fault kind from place) (Some NoRole) ≡ Some Short → ⊥
    by true e = place_clear kind from place e
    by false e = cc

kind_clear : (byte : ℕ) (kind : Option Kind) (from to : Option Party) (place : Place) → kind_fault byte kind from to place ≡ Some Short → ⊥
kind_clear byte None from to place e = cc
kind_clear byte (Some kind) from to place e = parties_clear kind from to place e

fields_clear : (bytes : List ℕ) → fields_fault bytes ≡ Some Short → ⊥
fields_clear bytes e = by (nat_eq (version_in bytes) version) e
  where
    by : (b : Bool) → cond b (kind_fault (slice_index bytes 5) (kind_in bytes) (sender_in bytes) (receiver_in bytes) (place_in bytes)) (Some (Version (version_in bytes))) ≡ Some Short → ⊥
    by true e = kind_clear (slice_index bytes 5) (kind_in bytes) (sender_in bytes) (receiver_in bytes) (place_in bytes) e
    by false e = cc

-- a part of a frame is shorter than the longest one
pub short_size : (bytes : List ℕ) → HasFault bytes Short → length bytes < 262192
unfolding header_fault
short_size bytes is = by (nat_lt (length bytes) 4) (nat_lt (length_in bytes) 44) (nat_lt 262188 (length_in bytes)) (nat_lt (length bytes) (4 + length_in bytes)) refl refl refl refl is
  where
    by : (a b c d : Bool) → nat_lt (length bytes) 4 ≡ a → nat_lt (length_in bytes) 44 ≡ b → nat_lt 262188 (length_in bytes) ≡ c → nat_lt (length bytes) (4 + length_in bytes) ≡ d
        → cond a (Some Short) (cond (b || c) (Some (Length (length_in bytes))) (cond d (Some Short) (fields_fault bytes))) ≡ Some Short → length bytes < 262192
    by true b c d p q r s e = grind (arith, nat_tests)
    by false true c d p q r s e = cc
    by false false true d p q r s e = cc
    by false false false true p q r s e = grind (arith, nat_tests)
    by false false false false p q r s e = absurd (fields_clear bytes e)

-- where no bytes came
pub none_short : HasFault [] Short
unfolding header_fault
none_short = refl
