-- One packet of a connection, whatever comes behind it.
use Rattle.std.proofs.Common.{◌≡◌, ℕ, suc, ◌+◌, ◌-◌, ◌<◌, ◌≤◌, Bool, true, false, cond, List, [], ◌∷◌, Option, Some, refl, sym, ap, ◌∙◌, arith}
use Rattle.schedule_unit.specs.declared.party.Party.{Party}
use Rattle.party_ledgers.specs.declared.packets.Packet.{Packet}
use Rattle.wire_frames.specs.declared.fault.FrameFault.{FrameFault}
use Rattle.node_core.specs.Roles.{Role, heard, allowed}
use Rattle.node_core.specs.HeardPackets.{Hearing, AtEnd, AtStranger, AtMost, Came, is_end, stops, how_behind, hear_packet, hear_on}
use Rattle.node_core.specs.FrameReaders.{FrameReader, hear_from}

one_left : (most count : ℕ) → count < most → most - count ≡ suc (most - (count + 1))
one_left most count few = omega (arith, few)

by_tests : (next : Option Party → Role → ℕ → Hearing) (peer : Option Party) (r : Role) (count : ℕ) (x : Packet) (a b : Bool) → allowed r peer x ≡ a → is_end x.kind ≡ b
    → hear_packet next peer r count x ≡ cond a (cond b (stops r (Some x.from) count AtEnd) (next (Some x.from) (heard r x) (count + 1))) (stops r peer count AtStranger)
by_tests next peer r count x a b ia ib =
    ap (λ a. cond a (cond (is_end x.kind) (stops r (Some x.from) count AtEnd) (next (Some x.from) (heard r x) (count + 1))) (stops r peer count AtStranger)) ia
    ∙ ap (λ b. cond a (cond b (stops r (Some x.from) count AtEnd) (next (Some x.from) (heard r x) (count + 1))) (stops r peer count AtStranger)) ib

abbrev pub with_behind : List Packet → Option FrameFault → Came
with_behind xs behind = record { packets = xs; behind = behind }

module _ (most : ℕ) (e : FrameReader) (few : e.count < most) (r : Role) where
  at_packet : (x : Packet) (more : List Packet) (behind : Option FrameFault)
      → hear_from most e r (with_behind (x ∷ more) behind) ≡ hear_packet (λ p q n. hear_on (most - (e.count + 1)) behind p q n more) e.peer r e.count x
  at_packet x more behind = ap (λ n. hear_on n behind e.peer r e.count (x ∷ more)) (one_left most e.count few)

  pub hears_more : (x : Packet) (more : List Packet) (behind : Option FrameFault) (new : FrameReader) → allowed r e.peer x ≡ true → is_end x.kind ≡ false → new.count ≡ e.count + 1 → new.peer ≡ Some x.from
      → hear_from most e r (with_behind (x ∷ more) behind) ≡ hear_from most new (heard r x) (with_behind more behind)
  hears_more x more behind new ok going count peer =
      at_packet x more behind ∙ by_tests (λ p q n. hear_on (most - (e.count + 1)) behind p q n more) e.peer r e.count x true false ok going
      ∙ ap (λ n. hear_on (most - n) behind (Some x.from) (heard r x) n more) (sym count)
      ∙ ap (λ p. hear_on (most - new.count) behind p (heard r x) new.count more) (sym peer)

  pub hears_end : (x : Packet) (more : List Packet) (behind : Option FrameFault) → allowed r e.peer x ≡ true → is_end x.kind ≡ true
      → hear_from most e r (with_behind (x ∷ more) behind) ≡ stops r (Some x.from) e.count AtEnd
  hears_end x more behind ok ends = at_packet x more behind ∙ by_tests (λ p q n. hear_on (most - (e.count + 1)) behind p q n more) e.peer r e.count x true true ok ends

  pub hears_stranger : (x : Packet) (more : List Packet) (behind : Option FrameFault) → allowed r e.peer x ≡ false → hear_from most e r (with_behind (x ∷ more) behind) ≡ stops r e.peer e.count AtStranger
  hears_stranger x more behind no_one = at_packet x more behind ∙ by_tests (λ p q n. hear_on (most - (e.count + 1)) behind p q n more) e.peer r e.count x false (is_end x.kind) no_one refl

  pub hears_rest : (behind : Option FrameFault) → hear_from most e r (with_behind [] behind) ≡ stops r e.peer e.count (how_behind behind)
  hears_rest behind = ap (λ n. hear_on n behind e.peer r e.count []) (one_left most e.count few)

pub hears_most : (most : ℕ) (e : FrameReader) (r : Role) (xs : List Packet) (behind : Option FrameFault) → most ≤ e.count → hear_from most e r (with_behind xs behind) ≡ stops r e.peer e.count AtMost
hears_most most e r xs behind full = let z : most - e.count ≡ 0 = omega (arith, full) in ap (λ n. hear_on n behind e.peer r e.count xs) z
