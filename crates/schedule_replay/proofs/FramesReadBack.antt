-- A stored frame is read as the packet that it is the frame of.
use Rattle.std.specs.Prelude.{◌≡◌, ◌≢◌, ℕ, List, map, length, slice_get, Option, option_map, unwrap_or, Some, None, Result, Ok, Err}
use Rattle.std.proofs.Common.{refl, sym, ◌∙◌, ap, subst, arith}
use Rattle.std.proofs.Math.Seq.{take-length}
use Rattle.std.proofs.lemmas.Option.{slice_get-map}
use Rattle.fuxi_terms.proofs.Lists.{all_at}
use Rattle.party_ledgers.specs.PacketHeaders.{header_of}
use Rattle.party_ledgers.specs.declared.packets.Packet.{Packet}
use Rattle.wire_frames.specs.Frames.{frame, IsFrame}
use Rattle.wire_frames.specs.Streams.{HasFrame}
use Rattle.wire_frames.specs.Fronts.{IsFront}
use Rattle.wire_frames.specs.ReadFrames.{Begins, Reads, HasFault}
use Rattle.wire_frames.specs.declared.read.Front.{Front}
use Rattle.wire_frames.specs.declared.fault.FrameFault.{FrameFault}
use Rattle.wire_frames.specs.declared.fault.FrameFault.TheVariants.{Short, Length, Version, Kind, Role, Place, Body, OutOfMemory}
use Rattle.schedule_replay.specs.PacketPools.{Stored, Keeps, IsReadAs}

abbrev Reading : Type 0
Reading = Result (Packet × ℕ) FrameFault

-- two readings of the same bytes are one, as the law of frames says it
abbrev pub ReadsOnce : Type 0
ReadsOnce = (bytes : List ℕ) (r s : Reading) → Reads bytes r → Reads bytes s → r ≢ Err OutOfMemory → s ≢ Err OutOfMemory → r ≡ s

begins_whole : (x : Packet) (bytes : List ℕ) → IsFrame x bytes → Begins bytes x (length bytes)
begins_whole x bytes f = record { within = omega arith; frame = subst (IsFrame x) (sym (take-length bytes)) f }

abbrev failed : FrameFault → Reading
failed f = Err f

-- what a reading says, with something else where it says nothing
abbrev read_or : Packet × ℕ → Reading → Packet × ℕ
read_or other (Ok read) = read
read_or other (Err fault) = other

-- each fault but want of memory would be the packet
not_read : ReadsOnce → (x : Packet) (bytes : List ℕ) (f : FrameFault) → IsFrame x bytes → HasFault bytes f → failed f ≢ failed OutOfMemory → ⊥
not_read one x bytes f g h other =
    let e : failed f ≡ Ok (x, length bytes) = one bytes (failed f) (Ok (x, length bytes)) h (begins_whole x bytes g) other (λ e. let no : ⊥ = cc in no) in
    cc

pub read_back : ReadsOnce → (x : Packet) (bytes : List ℕ) (r : Reading) → IsFrame x bytes → Reads bytes r → IsReadAs (Some x) (length bytes) r
read_back one x bytes (Ok read) f h =
    let e : Ok read ≡ Ok (x, length bytes) = one bytes (Ok read) (Ok (x, length bytes)) h (begins_whole x bytes f) (λ e. let no : ⊥ = cc in no) (λ e. let no : ⊥ = cc in no) in
    let same : read ≡ (x, length bytes) = ap (read_or read) e in
    (ap (λ r. Some r.0) (sym same), ap (λ r. r.1) same)
read_back one x bytes (Err Short) f h = absurd (not_read one x bytes Short f h (λ e. let no : ⊥ = cc in no))
read_back one x bytes (Err (Length n)) f h = absurd (not_read one x bytes (Length n) f h (λ e. let no : ⊥ = cc in no))
read_back one x bytes (Err (Version n)) f h = absurd (not_read one x bytes (Version n) f h (λ e. let no : ⊥ = cc in no))
read_back one x bytes (Err (Kind n)) f h = absurd (not_read one x bytes (Kind n) f h (λ e. let no : ⊥ = cc in no))
read_back one x bytes (Err Role) f h = absurd (not_read one x bytes Role f h (λ e. let no : ⊥ = cc in no))
read_back one x bytes (Err Place) f h = absurd (not_read one x bytes Place f h (λ e. let no : ⊥ = cc in no))
read_back one x bytes (Err Body) f h = absurd (not_read one x bytes Body f h (λ e. let no : ⊥ = cc in no))
read_back one x bytes (Err OutOfMemory) f h = refl

-- the packet of a place, whose frame is there
frame_at : (xs : List Packet) (i : ℕ) (kept : Option Packet) (bytes : List ℕ) → slice_get xs i ≡ kept → slice_get (map frame xs) i ≡ Some bytes → option_map frame kept ≡ Some bytes
frame_at xs i kept bytes e f = ap (option_map frame) (sym e) ∙ sym (slice_get-map frame xs i) ∙ f

-- what the frame of a place is of
pub record IsKeptAt (xs : List Packet) (i : ℕ) (bytes : List ℕ) : Type 0 where
  pub packet : Packet
  pub there : slice_get xs i ≡ Some packet
  pub is : IsFrame packet bytes

kept_at : (p : Stored) (xs : List Packet) (i : ℕ) (bytes : List ℕ) → Keeps p xs → slice_get p.frames i ≡ Some bytes → IsKeptAt xs i bytes
kept_at p xs i bytes k at = by (slice_get xs i) refl
  where
    by : (kept : Option Packet) → slice_get xs i ≡ kept → IsKeptAt xs i bytes
    by None e = let f = frame_at xs i None bytes e (ap (λ l. slice_get l i) (sym k.stored) ∙ at) in absurd (let no : ⊥ = cc in no)
    by (Some x) e =
        let f = frame_at xs i (Some x) bytes e (ap (λ l. slice_get l i) (sym k.stored) ∙ at) in
        let same : frame x ≡ bytes = ap (λ o. unwrap_or o bytes) f in
        record { packet = x; there = e; is = subst (IsFrame x) same (all_at HasFrame xs i x k.each e) }

pub read_at : ReadsOnce → (p : Stored) (xs : List Packet) (i : ℕ) (bytes : List ℕ) (r : Reading) → Keeps p xs → slice_get p.frames i ≡ Some bytes → Reads bytes r → IsReadAs (slice_get xs i) (length bytes) r
read_at one p xs i bytes r k at h = let f = kept_at p xs i bytes k at in subst (λ o. IsReadAs o (length bytes) r) (sym f.there) (read_back one f.packet bytes r f.is h)

-- the law of headers, as it is called for
abbrev pub HeadsOnce : Type 0
HeadsOnce = (bytes : List ℕ) (x : Packet) (n : ℕ) (front : Front) → Begins bytes x n → IsFront bytes front → header_of x ≡ front.header

pub front_at : HeadsOnce → (p : Stored) (xs : List Packet) (i : ℕ) (bytes : List ℕ) (front : Front) → Keeps p xs → slice_get p.frames i ≡ Some bytes → IsFront bytes front → option_map header_of (slice_get xs i) ≡ Some front.header
front_at one p xs i bytes front k at is =
    let f = kept_at p xs i bytes k at in
    ap (option_map header_of) f.there ∙ ap Some (one bytes f.packet (length bytes) front (begins_whole f.packet bytes f.is) is)
