-- Deliveries: the stored frame is the packet of the world, and a range is one delivery after another.
use Rattle.std.proofs.Common.{◌≡◌, ℕ, zero, suc, ◌+◌, ◌-◌, ◌<◌, ◌≤◌, true, false, nat_lt, List, [], ◌∷◌, ◌++◌, length, slice_get, Option, Some, None, Result, Ok, refl, sym, ◌∙◌, ap, subst, arith, append-nil, append_assoc}
use Rattle.std.specs.Option.{option_map}
use Rattle.std.proofs.lemmas.Bool.Decides.{nat_tests}
use Rattle.std.proofs.lemmas.Option.{slice_get-map, same_Some}
use Rattle.fuxi_terms.specs.Cluster.{is_valid_cluster}
use Rattle.fuxi_terms.proofs.Lists.{all_at}
use Rattle.party_ledgers.specs.Packets.{IsFormed}
use Rattle.party_ledgers.specs.PacketHeaders.{header_of}
use Rattle.party_ledgers.specs.declared.packets.Packet.{Packet as PacketHere}
use Rattle.party_ledgers.specs.declared.packets.Heard.{Heard}
use Rattle.peer_channel.specs.Parcels.{parcel_is, IsSent}
use Rattle.spec_net.specs.Net.{Packet}
use Rattle.spec_refinement.specs.SeenWorlds.{parcel_of}
use Rattle.spec_roles.specs.Refusals.{with_found, NoPacket}
use Rattle.spec_world.specs.World.{World, Step, prints_nothing, refused, then_step}
use Rattle.spec_world.specs.Events.{Deliver, addressed, heard_by, heard_line, packet_of, deliver_one, deliver_all, deliver}
use Rattle.spec_world.specs.EventRanges.{is_from_line}
use Rattle.wire_frames.specs.Fronts.{IsFront}
use Rattle.wire_frames.specs.ReadFrames.{Reads}
use Rattle.wire_frames.specs.declared.read.Front.{Front}
use Rattle.wire_frames.specs.declared.fault.FrameFault.{FrameFault}
use Rattle.schedule_replay.specs.PacketPools.{Stored, Keeps, IsReadAs}
use Rattle.schedule_replay.specs.ReplayTexts.{lines_text}
use Rattle.schedule_replay.specs.Worlds.{WorldRecord, KeepsPackets, IsWorld, StandsFor}
use Rattle.schedule_replay.specs.Moves.{HearsIn, Does, TookSteps, heard_lines}
use Rattle.schedule_replay.specs.WorldSteps.{IsDone}
use Rattle.schedule_replay.proofs.SentIsKept.{kept_length}
use Rattle.schedule_replay.proofs.PeersActInWorld.{first_fails, first_passes}
use Rattle.schedule_replay.proofs.StepAfterStep.{GoodKept, OrderKept, acted_is}

-- The law of stored frames, as it is called for
abbrev pub StoredIsRead : Type 0
StoredIsRead = (p : Stored) (xs : List PacketHere) (i : ℕ) (bytes : List ℕ) (r : Result (PacketHere × ℕ) FrameFault) → Keeps p xs → slice_get p.frames i ≡ Some bytes → Reads bytes r → IsReadAs (slice_get xs i) (length bytes) r

-- the packet of a world that a stored frame is of
pub record IsFound (w : World) (i : ℕ) (packet : PacketHere) : Type 0 where
  pub written : Packet
  pub there : slice_get w.net.packets i ≡ Some written
  pub same : parcel_is packet ≡ parcel_of w.net written
  pub sent : IsSent packet

found_as : (w : World) (i : ℕ) (packet : PacketHere) (o : Option Packet) → IsSent packet → slice_get w.net.packets i ≡ o → Some (parcel_is packet) ≡ option_map (parcel_of w.net) o → IsFound w i packet
found_as w i packet None s at is = let no : ⊥ = cc in absurd no
found_as w i packet (Some x) s at is = record { written = x; there = at; same = same_Some _ _ is; sent = s }

pub kept_found : (w : World) (p : Stored) (i : ℕ) (packet : PacketHere) → (k : KeepsPackets w p) → slice_get k.packets i ≡ Some packet → IsFound w i packet
kept_found w p i packet k at =
    found_as w i packet (slice_get w.net.packets i) (all_at IsSent k.packets i packet k.sent at) refl
    (ap (option_map parcel_is) (sym at) ∙ sym (slice_get-map parcel_is k.packets i) ∙ ap (λ ps. slice_get ps i) k.same ∙ slice_get-map (parcel_of w.net) w.net.packets i)

pub stored_found : StoredIsRead → (w : World) (p : Stored) (i : ℕ) (bytes : List ℕ) (packet : PacketHere) (size : ℕ) → KeepsPackets w p → slice_get p.frames i ≡ Some bytes → Reads bytes (Ok (packet, size)) → IsFound w i packet
stored_found law w p i bytes packet size k at reads = kept_found w p i packet k (law p k.packets i bytes (Ok (packet, size)) k.kept at reads).0

-- One delivery
delivered : (number : ℕ) (old new : WorldRecord) (packet : PacketHere) (heard : Option Heard) (before after : List ℕ) (w : World) → IsFound w (number - 1) packet → HearsIn packet old new heard
    → after ≡ before ++ lines_text (heard_lines number heard) → IsWorld w → StandsFor old w → IsDone (deliver_one number w) new before after
delivered number old new packet heard before after w f hears text is s =
    let h = hears w (number - 1) f.written is s f.there f.same in
    let step : Option Packet → Step = λ o. with_found o (prints_nothing w) (λ x. record { world = addressed w x; lines = heard_line number (heard_by w x) ∷ [] }) in
    record {
      stands = subst (λ o. StandsFor new (step o).world) (sym f.there) h.stands;
      text = text ∙ ap (λ ls. before ++ lines_text ls) (h.lines number ∙ ap (λ o. (step o).lines) (sym f.there));
    }

pub delivers : (number : ℕ) (old new : WorldRecord) (packet : PacketHere) (heard : Option Heard) (before after : List ℕ) → ((w : World) → KeepsPackets w old.pool → IsFound w (number - 1) packet) → HearsIn packet old new heard
    → after ≡ before ++ lines_text (heard_lines number heard) → Does (deliver_one number) old new before after
delivers number old new packet heard before after found hears text w is s = delivered number old new packet heard before after w (found w s.packets) hears text is s

-- The law of stored headers, as it is called for
abbrev pub FrontIsRead : Type 0
FrontIsRead = (p : Stored) (xs : List PacketHere) (i : ℕ) (bytes : List ℕ) (front : Front) → Keeps p xs → slice_get p.frames i ≡ Some bytes → IsFront bytes front → option_map header_of (slice_get xs i) ≡ Some front.header

-- one of which the header tells enough
pub delivers_left : FrontIsRead → (number : ℕ) (old : WorldRecord) (bytes : List ℕ) (front : Front) (heard : Heard) (before after : List ℕ) → slice_get old.pool.frames (number - 1) ≡ Some bytes → IsFront bytes front
    → ((x : PacketHere) → IsFormed x → header_of x ≡ front.header → HearsIn x old old (Some heard)) → after ≡ before ++ lines_text (heard_lines number (Some heard)) → Does (deliver_one number) old old before after
delivers_left law number old bytes front heard before after at read hears text w is s = by (slice_get s.packets.packets (number - 1)) refl
  where
    by : (o : Option PacketHere) → slice_get s.packets.packets (number - 1) ≡ o → IsDone (deliver_one number w) old before after
    by None none = let e = ap (option_map header_of) (sym none) ∙ law old.pool s.packets.packets (number - 1) bytes front s.packets.kept at read in absurd (let no : ⊥ = cc in no)
    by (Some x) there =
        let e = ap (option_map header_of) (sym there) ∙ law old.pool s.packets.packets (number - 1) bytes front s.packets.kept at read in
        let found = kept_found w old.pool (number - 1) x s.packets there in
        delivered number old old x (Some heard) before after w found (hears x found.sent.formed (same_Some _ _ e)) text is s

-- none where fewer were sent
none_there : {A : Type 0} (xs : List A) (i : ℕ) → length xs ≤ i → slice_get xs i ≡ None
none_there [] i le = refl
none_there (x ∷ xs) zero le = absurd (omega (arith, le))
none_there (x ∷ xs) (suc i) le = none_there xs i (omega (arith, le))

pub delivers_none : (number : ℕ) (old : WorldRecord) (before : List ℕ) → 0 < number → length old.pool.frames < number → Does (deliver_one number) old old before before
delivers_none number old before first few w is s =
    let l = kept_length w old.pool s.packets in
    let none : packet_of w number ≡ None = none_there w.net.packets (number - 1) (omega (arith, first, few, l)) in
    let step : Option Packet → Step = λ o. with_found o (prints_nothing w) (λ x. record { world = addressed w x; lines = heard_line number (heard_by w x) ∷ [] }) in
    record {
      stands = subst (λ o. StandsFor old (step o).world) (sym none) s;
      text = sym (append-nil before) ∙ ap (λ o. before ++ lines_text (step o).lines) (sym none);
    }

-- A delivery that is not refused
pub delivered_as : (w : World) (k : ℕ) → nat_lt (length w.net.packets) k ≡ false → deliver w k ≡ deliver_one k w
delivered_as w k is = first_passes w (nat_lt (length w.net.packets) k) (NoPacket (length w.net.packets)) [] (λ v. deliver_one k v) is

pub not_delivered : (w : World) (k : ℕ) → nat_lt (length w.net.packets) k ≡ true → deliver w k ≡ refused w (NoPacket (length w.net.packets))
not_delivered w k is = first_fails w (nat_lt (length w.net.packets) k) (NoPacket (length w.net.packets)) [] (λ v. deliver_one k v) is

pub delivered_is : GoodKept → OrderKept → (w : World) (k : ℕ) → 0 < w.events → 0 < k → nat_lt (length w.net.packets) k ≡ false → is_valid_cluster (deliver_one k w).world.cluster ≡ true → IsWorld w → IsWorld (deliver_one k w).world
delivered_is good order w k some first there valid h =
    let same : (deliver w k).world ≡ (deliver_one k w).world = ap (λ (s : Step). s.world) (delivered_as w k there) in
    let counted : is_from_line (Deliver k) ≡ true = grind (arith, nat_tests, first) in
    subst IsWorld same (acted_is good order w (Deliver k) some counted (ap (λ (v : World). is_valid_cluster v.cluster) same ∙ valid) h)

-- A range, one delivery more
world_more : (n k : ℕ) (w : World) → (deliver_all (suc n) k w).world ≡ (deliver_one (k + n) (deliver_all n k w).world).world
world_more zero k w = let e : k ≡ k + 0 = omega arith in ap (λ j. (deliver_one j w).world) e
world_more (suc n) k w =
    let e : k + 1 + n ≡ k + suc n = omega arith in
    world_more n (k + 1) (deliver_one k w).world ∙ ap (λ j. (deliver_one j (deliver_all n (k + 1) (deliver_one k w).world).world).world) e

lines_more : (n k : ℕ) (w : World) → (deliver_all (suc n) k w).lines ≡ (deliver_all n k w).lines ++ (deliver_one (k + n) (deliver_all n k w).world).lines
lines_more zero k w = let e : k ≡ k + 0 = omega arith in append-nil (deliver_one k w).lines ∙ ap (λ j. (deliver_one j w).lines) e
lines_more (suc n) k w =
    let v = (deliver_one k w).world in
    let e : k + 1 + n ≡ k + suc n = omega arith in
    ap (λ ls. (deliver_one k w).lines ++ ls) (lines_more n (k + 1) v ∙ ap (λ j. (deliver_all n (k + 1) v).lines ++ (deliver_one j (deliver_all n (k + 1) v).world).lines) e)
    ∙ sym (append_assoc (deliver_one k w).lines (deliver_all n (k + 1) v).lines (deliver_one (k + suc n) (deliver_all n (k + 1) v).world).lines)

pub all_then : (n k : ℕ) (w : World) → deliver_all (n + 1) k w ≡ then_step (deliver_all n k w) (deliver_one (k + n))
all_then n k w = let e : n + 1 ≡ suc n = omega arith in ap (λ j. deliver_all j k w) e ∙ (λ i. record { world = world_more n k w i; lines = lines_more n k w i })

-- which leads to a world to which inputs lead
pub delivery_is : GoodKept → OrderKept → (first n : ℕ) (old now : WorldRecord) → 0 < first → first + n ≤ length old.pool.frames → TookSteps n old now → (v : World) → IsWorld v → StandsFor now v → 0 < v.events
    → is_valid_cluster (deliver_one (first + n) v).world.cluster ≡ true → IsWorld (deliver_one (first + n) v).world
delivery_is good order first n old now counted there took v is s events cluster =
    let long = kept_length v now.pool s.packets in
    let same = ap (λ (p : Stored). length p.frames) took.pool in
    let few : nat_lt (length v.net.packets) (first + n) ≡ false = grind (arith, nat_tests, there, long, same) in
    delivered_is good order v (first + n) events (omega (arith, counted)) few cluster is
