-- What bytes say, and what of it a master may be handed.
use Rattle.std.proofs.Common.{◌≡◌, ◌≢◌, ℕ, false, cond, nat_lt, List, length, Result, Ok, Err, sym, ◌∙◌, ap, subst}
use Rattle.fuxi_terms.proofs.Booleans.{either}
use Rattle.party_ledgers.specs.declared.packets.Kind.{Kind}
use Rattle.party_ledgers.specs.declared.packets.Kind.TheVariants as kind
use Rattle.party_ledgers.specs.declared.packets.Packet.{Packet}
use Rattle.wire_frames.specs.declared.fault.FrameFault.{FrameFault}
use Rattle.wire_frames.specs.declared.fault.FrameFault.TheVariants.{OutOfMemory}
use Rattle.wire_frames.specs.ReadFrames.{Reads}
use Rattle.master_desk.specs.declared.call.BadCall.TheVariants.{Trailing, End}
use Rattle.master_desk.specs.declared.call.Decoded.{Decoded}
use Rattle.master_desk.specs.declared.call.Decoded.TheVariants.{Whole, Bad}
use Rattle.master_desk.specs.CallBytes.{MayHear, Says, call_of, is_end}

no_end : (k : Kind) → is_end k ≡ false → k ≡ kind.End → ⊥
no_end kind.Ack is end = cc
no_end kind.Delta is end = cc
no_end kind.Full is end = cc
no_end kind.End is end = cc

read_hears : (bytes : List ℕ) (r : Result (Packet × ℕ) FrameFault) → Reads bytes r → MayHear (call_of bytes r)
read_hears bytes (Err fault) reads = tt
read_hears bytes (Ok read) reads =
    either MayHear (nat_lt read.1 (length bytes)) (Bad Trailing) (cond (is_end read.0.kind) (Bad End) (Whole read.0))
    (λ _. tt)
    (λ _. either MayHear (is_end read.0.kind) (Bad End) (Whole read.0) (λ _. tt) (λ off. (reads.frame.formed, no_end read.0.kind off)))

pub may_hear : (bytes : List ℕ) (call : Decoded) → Says bytes call → MayHear call
may_hear bytes call s = subst MayHear (sym s.is) (read_hears bytes s.read s.reads)

-- two readings of the same bytes are one
abbrev pub ReadOnce : Type 0
ReadOnce = (bytes : List ℕ) (r s : Result (Packet × ℕ) FrameFault) → Reads bytes r → Reads bytes s → r ≢ Err OutOfMemory → s ≢ Err OutOfMemory → r ≡ s

pub one_call : ReadOnce → (bytes : List ℕ) (x y : Decoded) → Says bytes x → Says bytes y → x ≡ y
one_call one bytes x y s t = s.is ∙ ap (call_of bytes) (one bytes s.read t.read s.reads t.reads s.had t.had) ∙ sym t.is
