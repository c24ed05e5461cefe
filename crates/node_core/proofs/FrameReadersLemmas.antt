-- The hearing of a connection goes on, or ends.
use Rattle.std.proofs.Common.{◌≡◌, ◌≢◌, ℕ, ◌+◌, ◌-◌, ◌<◌, ◌≤◌, true, false, List, [], ◌∷◌, ◌++◌, append_assoc, append-nil, length, length-drop, drop, Option, Some, None, refl, sym, ap, subst, ◌∙◌, arith}
use Rattle.fuxi_io.specs.Doors.{Told, given, failing, on_last}
use Rattle.schedule_unit.specs.declared.party.Party.{Party}
use Rattle.party_ledgers.specs.declared.packets.Packet.{Packet}
use Rattle.wire_frames.specs.declared.fault.FrameFault.{FrameFault}
use Rattle.wire_frames.specs.declared.fault.FrameFault.TheVariants.{Short as ShortFrame, Length, Version, Kind, Role as NoRole, Place, Body, OutOfMemory}
use Rattle.wire_frames.specs.ReadFrames.{Begins, HasFault}
use Rattle.wire_frames.specs.Streams.{Streaming, Pulled, Splits, lasting}
use Rattle.node_core.specs.declared.frame_reader.Stop.{Stop}
use Rattle.node_core.specs.declared.frame_reader.Stop.TheVariants.{Ended, Wrong, Stranger, Long, Short, Fault}
use Rattle.node_core.specs.declared.frame_reader.Step.{Step}
use Rattle.node_core.specs.declared.frame_reader.Step.TheVariants.{Nothing, Stopped}
use Rattle.node_core.specs.Roles.{Role, heard, allowed}
use Rattle.node_core.specs.HeardPackets.{hear_on, hear_all, stops, is_end}
use Rattle.node_core.specs.FrameReaders.{FrameReader, new_reader, hear_from, how_of, behind_of, is_short, is_failed, step_at, read_on, broken_by, Steps, Advances, Halts, Listening, Listens, Broken}
use Rattle.node_core.proofs.TalksLemmas.{nothing_given, given_both, given_whole, given_part}
use Rattle.node_core.proofs.Packets.{no_packet, splits_both, splits_one, splits_fed, size_some}
use Rattle.node_core.proofs.HeardPacketsLemmas.{with_behind, hears_more, hears_end, hears_stranger, hears_rest, hears_most}

module _ (most : ℕ) (r : Role) where
  pub begins : (now : Role → Type 0) (t : Told) → now r → Listening most now r new_reader t t
  begins now t stands = record {
    reads = false;
    bytes = [];
    door = nothing_given t;
    packets = [];
    splits = no_packet [];
    role = r;
    stands = stands;
    same = λ more behind. ap (λ n. hear_on n behind None r 0 more) (omega arith);
  }

  pub goes_on : (now now' : Role → Type 0) (e e' : FrameReader) (old new : Told) → ((q : Role) → now q → Advances most now' q e e') → Listening most now r e old new → Listening most now' r e' old new
  goes_on now now' e e' old new step l =
      let a = step l.role l.stands in
      record {
        reads = l.reads;
        bytes = l.bytes;
        door = l.door;
        packets = l.packets ++ a.packet ∷ [];
        splits = subst (λ left. Splits l.bytes (l.packets ++ a.packet ∷ []) left) (sym a.rest) (splits_both l.bytes e.bytes (drop a.size e.bytes) l.packets (a.packet ∷ []) l.splits (splits_one e.bytes a.packet a.size a.begins));
        role = a.role;
        stands = a.stands;
        same = λ more behind. ap (λ xs. hear_all most r (with_behind xs behind)) (append_assoc l.packets (a.packet ∷ []) more) ∙ l.same (a.packet ∷ more) behind ∙ a.same more behind;
      }

  pub is_fed : (now : Role → Type 0) (e e' : FrameReader) (piece : List ℕ) (old mid new : Told) → e'.bytes ≡ e.bytes ++ piece → e'.count ≡ e.count → e'.peer ≡ e.peer → Listening most now r e old mid → new ≡ on_last (given piece false) mid
      → Listening most now r e' old new
  is_fed now e e' piece old mid new bytes count peer l came = record {
    reads = true;
    bytes = l.bytes ++ piece;
    door = came ∙ ap (on_last (given piece false)) l.door ∙ given_both old l.reads l.bytes piece false;
    packets = l.packets;
    splits = subst (λ left. Splits (l.bytes ++ piece) l.packets left) (sym bytes) (splits_fed l.bytes e.bytes piece l.packets l.splits);
    role = l.role;
    stands = l.stands;
    same = λ more behind.
        l.same more behind ∙ ap (λ n. hear_on (most - n) behind e.peer l.role n more) (sym count) ∙ ap (λ p. hear_on (most - e'.count) behind p l.role e'.count more) (sym peer);
  }

  pub halts : (now now' : Role → Type 0) (e e' : FrameReader) (stop : Stop) (old new : Told) → is_short stop ≡ false → is_failed stop ≡ false → ((q : Role) → now q → Halts most now' q stop e e') → Listening most now r e old new
      → Listens most now' r (record { count = e'.count; peer = e'.peer; stop = stop }) old new
  halts now now' e e' stop old new long sound step l =
      let h = step l.role l.stands in
      record {
        reads = l.reads;
        bytes = l.bytes;
        door = l.door ∙ given_whole old (read_on l.reads l.bytes false) ∙ ap (λ b. on_last (λ talk. broken_by b (read_on l.reads l.bytes false talk)) old) (sym sound)
            ∙ ap (λ b. on_last (λ talk. broken_by (is_failed stop) (read_on l.reads l.bytes b talk)) old) (sym long);
        packets = l.packets ++ h.packets;
        gives = record { left = h.gives.left; splits = splits_both l.bytes e.bytes h.gives.left l.packets h.packets l.splits h.gives.splits; rest = h.gives.rest };
        role = l.role;
        stands = h.stands;
        hears = l.same h.packets (behind_of stop) ∙ h.same;
      }

  all_of : (now : Role → Type 0) (e : FrameReader) (old new : Told) (l : Listening most now r e old new) → hear_all most r (with_behind l.packets None) ≡ hear_from most e l.role (with_behind [] None)
  all_of now e old new l = ap (λ xs. hear_all most r (with_behind xs None)) (sym (append-nil l.packets)) ∙ l.same [] None

  -- with what is a part of a frame: at the connection's end, or at a fault
  pub ends_short : (now : Role → Type 0) (e : FrameReader) (old mid new : Told) → e.count < most → HasFault e.bytes ShortFrame → Listening most now r e old mid → new ≡ on_last (given [] true) mid
      → Listens most now r (record { count = e.count; peer = e.peer; stop = Short }) old new
  ends_short now e old mid new few short l came = record {
    reads = true;
    bytes = l.bytes;
    door = came ∙ ap (on_last (given [] true)) l.door ∙ given_both old l.reads l.bytes [] true ∙ ap (λ bs. on_last (read_on true bs true) old) (append-nil l.bytes) ∙ given_whole old (read_on true l.bytes true);
    packets = l.packets;
    gives = record { left = e.bytes; splits = l.splits; rest = short };
    role = l.role;
    stands = l.stands;
    hears = all_of now e old mid l ∙ hears_rest most e few l.role None;
  }

  pub ends_fault : (now : Role → Type 0) (e : FrameReader) (old mid new : Told) → e.count < most → HasFault e.bytes ShortFrame → Listening most now r e old mid → new ≡ on_last failing mid
      → Listens most now r (record { count = e.count; peer = e.peer; stop = Fault }) old new
  ends_fault now e old mid new few short l broke = record {
    reads = l.reads;
    bytes = l.bytes;
    door = broke ∙ ap (on_last failing) l.door ∙ given_part old (read_on l.reads l.bytes false);
    packets = l.packets;
    gives = record { left = e.bytes; splits = l.splits; rest = short };
    role = l.role;
    stands = l.stands;
    hears = all_of now e old mid l ∙ hears_rest most e few l.role None;
  }

  pub ends_long : (now : Role → Type 0) (e : FrameReader) (old new : Told) → most ≤ e.count → Listening most now r e old new → Listens most now r (record { count = e.count; peer = e.peer; stop = Long }) old new
  ends_long now e old new full l = record {
    reads = l.reads;
    bytes = l.bytes;
    door = l.door ∙ given_whole old (read_on l.reads l.bytes false);
    packets = l.packets;
    gives = record { left = e.bytes; splits = l.splits; rest = tt };
    role = l.role;
    stands = l.stands;
    hears = all_of now e old new l ∙ hears_most most e l.role [] None full;
  }

pub not_short : (stop : Stop) → stop ≢ Short → is_short stop ≡ false
not_short Ended other = refl
not_short (Wrong fault) other = refl
not_short Stranger other = refl
not_short Long other = refl
not_short Short other = absurd (other refl)
not_short Fault other = refl

pub not_failed : (stop : Stop) → stop ≢ Fault → is_failed stop ≡ false
not_failed Ended other = refl
not_failed (Wrong fault) other = refl
not_failed Stranger other = refl
not_failed Long other = refl
not_failed Short other = refl
not_failed Fault other = absurd (other refl)

pub broken_same : (t : Told) → Broken t t
broken_same t = record { reads = false; bytes = []; door = nothing_given t }

pub broken_more : (piece : List ℕ) (old mid new : Told) → Broken old mid → new ≡ on_last (given piece false) mid → Broken old new
broken_more piece old mid new b came = record { reads = true; bytes = b.bytes ++ piece; door = came ∙ ap (on_last (given piece false)) b.door ∙ given_both old b.reads b.bytes piece false }

-- one pull, of an reader that is seen as e
module _ (most : ℕ) (now : Role → Type 0) (old e : FrameReader) (view : e ≡ old) (few : old.count < most) (r : Role) where
  few_here : e.count < most
  few_here = subst (λ (e : FrameReader). e.count < most) (sym view) few

  pub advances : (x : Packet) (s left : Streaming) (new : FrameReader) → s.left ≡ e.bytes → Pulled s x left → true ≡ allowed r e.peer x → false ≡ is_end x.kind → now (heard r x)
      → new.bytes ≡ left.left → new.count ≡ e.count + 1 → new.peer ≡ Some x.from → Advances most now r old new
  advances x s left new waits p ok going stands bytes count peer = subst (λ (e : FrameReader). Advances most now r e new) view (record {
    packet = x;
    size = p.size;
    begins = subst (λ l. Begins l x p.size) waits p.begins;
    rest = bytes ∙ ap (λ (s : Streaming). s.left) p.rest ∙ ap (drop p.size) waits;
    role = heard r x;
    stands = stands;
    same = λ more behind. hears_more most e few_here r x more behind new (sym ok) (sym going) count peer;
  })

  pub at_end : (x : Packet) (s left : Streaming) (new : FrameReader) → s.left ≡ e.bytes → Pulled s x left → true ≡ allowed r e.peer x → true ≡ is_end x.kind → now r → new.count ≡ e.count → new.peer ≡ Some x.from
      → Halts most now r Ended old new
  at_end x s left new waits p ok ends stands count peer = subst (λ (e : FrameReader). Halts most now r Ended e new) view (record {
    stands = stands;
    packets = x ∷ [];
    gives = record { left = drop p.size e.bytes; splits = splits_one e.bytes x p.size (subst (λ l. Begins l x p.size) waits p.begins); rest = tt };
    same = hears_end most e few_here r x [] None (sym ok) (sym ends) ∙ ap (λ q. stops r q e.count (how_of Ended)) (sym peer) ∙ ap (λ n. stops r new.peer n (how_of Ended)) (sym count);
  })

  pub at_stranger : (x : Packet) (s left : Streaming) (new : FrameReader) → s.left ≡ e.bytes → Pulled s x left → false ≡ allowed r e.peer x → now r → new.count ≡ e.count → new.peer ≡ e.peer → Halts most now r Stranger old new
  at_stranger x s left new waits p no_one stands count peer = subst (λ (e : FrameReader). Halts most now r Stranger e new) view (record {
    stands = stands;
    packets = x ∷ [];
    gives = record { left = drop p.size e.bytes; splits = splits_one e.bytes x p.size (subst (λ l. Begins l x p.size) waits p.begins); rest = tt };
    same = hears_stranger most e few_here r x [] None (sym no_one) ∙ ap (λ q. stops r q e.count (how_of Stranger)) (sym peer) ∙ ap (λ n. stops r new.peer n (how_of Stranger)) (sym count);
  })

  pub at_wrong : (fault : FrameFault) (s : Streaming) (new : FrameReader) → s.left ≡ e.bytes → HasFault s.left fault → lasting fault ≡ Some fault → now r → new.count ≡ e.count → new.peer ≡ e.peer → Halts most now r (Wrong fault) old new
  at_wrong fault s new waits has lasts stands count peer = subst (λ (e : FrameReader). Halts most now r (Wrong fault) e new) view (record {
    stands = stands;
    packets = [];
    gives = record { left = e.bytes; splits = no_packet e.bytes; rest = (subst (λ l. HasFault l fault) waits has, lasts) };
    same = hears_rest most e few_here r (Some fault) ∙ ap (λ q. stops r q e.count (how_of (Wrong fault))) (sym peer) ∙ ap (λ n. stops r new.peer n (how_of (Wrong fault))) (sym count);
  })

-- a fault lets the step wait for more bytes, or stops it
pub data Faulted (fault : FrameFault) (step : Step) : Type 0 where
  Waits : step ≡ Nothing → fault ≡ ShortFrame → Faulted fault step
  Stops : step ≡ Stopped (Wrong fault) → lasting fault ≡ Some fault → Faulted fault step

pub faulted : (fault : FrameFault) (step : Step) → Some step ≡ step_at fault → Faulted fault step
faulted ShortFrame step is = let waits : step ≡ Nothing = cc in Waits waits refl
faulted (Length n) step is = let stops : step ≡ Stopped (Wrong (Length n)) = cc in Stops stops refl
faulted (Version n) step is = let stops : step ≡ Stopped (Wrong (Version n)) = cc in Stops stops refl
faulted (Kind n) step is = let stops : step ≡ Stopped (Wrong (Kind n)) = cc in Stops stops refl
faulted NoRole step is = let stops : step ≡ Stopped (Wrong NoRole) = cc in Stops stops refl
faulted Place step is = let stops : step ≡ Stopped (Wrong Place) = cc in Stops stops refl
faulted Body step is = let stops : step ≡ Stopped (Wrong Body) = cc in Stops stops refl
faulted OutOfMemory step is = cc

abbrev pub reader_of : Streaming → ℕ → Option Party → FrameReader
reader_of s count peer = record { bytes = s.left; count = count; peer = peer; stuck = s.stuck }

waited : (s left : Streaming) (count : ℕ) (peer : Option Party) (fault : FrameFault) → s.stuck ≡ None → left ≡ record { left = s.left; stuck = lasting fault } → fault ≡ ShortFrame → reader_of left count peer ≡ reader_of s count peer
waited s left count peer fault free rest is =
    ap (λ s. reader_of s count peer) rest ∙ ap (λ f. let e : FrameReader = record { bytes = s.left; count = count; peer = peer; stuck = lasting f } in e) is
    ∙ ap (λ k. let e : FrameReader = record { bytes = s.left; count = count; peer = peer; stuck = k } in e) (sym free)

module _ (most : ℕ) (now : Role → Type 0) (s left : Streaming) (count : ℕ) (peer : Option Party) (old : FrameReader) (view : reader_of s count peer ≡ old) (few : old.count < most) (free : s.stuck ≡ None)
    (fault : FrameFault) (step : Step) (is : Some step ≡ step_at fault) (has : HasFault s.left fault) (rest : left ≡ record { left = s.left; stuck = lasting fault }) where
  pub fault_steps : (r : Role) → now r → Steps most now r step old (reader_of left count peer)
  fault_steps r stands = by (faulted fault step is)
    where
      by : Faulted fault step → Steps most now r step old (reader_of left count peer)
      by (Waits a b) =
          let has_short : HasFault s.left ShortFrame = subst (λ f. HasFault s.left f) b has in
          subst (λ t. Steps most now r t old (reader_of left count peer)) (sym a)
          (stands, waited s left count peer fault free rest b ∙ view, subst (λ (e : FrameReader). HasFault e.bytes ShortFrame) view has_short)
      by (Stops a b) =
          subst (λ t. Steps most now r t old (reader_of left count peer)) (sym a)
          (at_wrong most now old (reader_of s count peer) view few r fault s (reader_of left count peer) refl has b stands refl refl)

-- a packet that was pulled makes what waits shorter
pub shorter : (x : Packet) (s left : Streaming) → Pulled s x left → length left.left < length s.left
shorter x s left p = omega (arith, size_some s.left x p.size p.begins, p.begins.within, length-drop p.size s.left, ap (λ (s : Streaming). length s.left) p.rest)
