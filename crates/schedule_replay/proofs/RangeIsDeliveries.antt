-- Deliveries of one and of many, and what is refused of them.
use Rattle.std.proofs.Common.{◌≡◌, ℕ, ◌+◌, ◌-◌, ◌<◌, ◌≤◌, true, false, nat_lt, List, [], ◌∷◌, ◌++◌, length, slice_get, Option, Some, None, refl, sym, ◌∙◌, ap, subst, arith}
use Rattle.std.specs.Option.{option_map}
use Rattle.std.proofs.lemmas.Bool.Decides.{nat_tests}
use Rattle.std.proofs.lemmas.Option.{slice_get-map, same_Some, slice_get_within}
use Rattle.party_ledgers.specs.declared.packets.Packet.{Packet as PacketHere}
use Rattle.peer_channel.specs.Parcels.{parcel_is, IsSent}
use Rattle.spec_net.specs.Net.{Net, Packet}
use Rattle.spec_net.specs.Ledgers.{Ledger}
use Rattle.spec_net.specs.Channels.{body_of}
use Rattle.spec_refinement.specs.SeenWorlds.{parcel_of}
use Rattle.spec_roles.specs.Refusals.{with_found, NoPacket}
use Rattle.spec_world.specs.World.{World, Step, prints_nothing, refused}
use Rattle.spec_world.specs.Events.{packet_of, no_packet, deliver_one, deliver_all, deliver, deliver_range, dump}
use Rattle.spec_world.specs.Outputs.{Frame}
use Rattle.wire_frames.specs.Frames.{frame}
use Rattle.schedule_replay.specs.PacketPools.{Stored}
use Rattle.schedule_text.specs.declared.refusal.Refusal.TheVariants as why
use Rattle.schedule_replay.specs.ReplayTexts.{lines_text}
use Rattle.schedule_replay.specs.Worlds.{WorldRecord, KeepsPackets, IsWorld, StandsFor, event_steps}
use Rattle.schedule_replay.specs.WorldSteps.{IsDone}
use Rattle.schedule_replay.specs.Moves.{IsActed, GoesThrough, TookSteps, refusal_lines}
use Rattle.schedule_replay.proofs.ActsByOneStep.{acted_as}
use Rattle.schedule_replay.proofs.MovesLemmas.{once_up_to, none_once}
use Rattle.schedule_replay.proofs.SentIsKept.{kept_length}
use Rattle.schedule_replay.proofs.StoredIsDelivered.{IsFound, kept_found, delivered_as, not_delivered}
use Rattle.schedule_replay.proofs.PeersActInWorld.{first_fails, first_passes, refuses}
use Rattle.schedule_replay.proofs.StepAfterStep.{all_done}

-- so many packets were sent
pub sent_in : (w : World) (old : WorldRecord) (sent : ℕ) → StandsFor old w → sent ≡ length old.pool.frames → length w.net.packets ≡ sent
sent_in w old sent s is = sym (is ∙ kept_length w old.pool s.packets)

test_true : (n sent k : ℕ) → n ≡ sent → sent < k → nat_lt n k ≡ true
test_true n sent k is few = grind (arith, nat_tests, is, few)

test_false : (n sent k : ℕ) → n ≡ sent → k ≤ sent → nat_lt n k ≡ false
test_false n sent k is there = grind (arith, nat_tests, is, there)

pub refuses_one : (old : WorldRecord) (number sent : ℕ) (before after : List ℕ) → sent ≡ length old.pool.frames → sent < number → after ≡ before ++ lines_text (refusal_lines (Some (why.NoPacket sent))) → IsActed (λ w. deliver w number) old old before after
refuses_one old number sent before after len few text = refuses (λ w. deliver w number) old (why.NoPacket sent) before after (λ w is s.
    let n = sent_in w old sent s len in
    not_delivered w number (test_true (length w.net.packets) sent number n few) ∙ ap (λ k. refused w (NoPacket k)) n) text

pub one_is : (old : WorldRecord) (number sent : ℕ) → sent ≡ length old.pool.frames → number ≤ sent → (w : World) → IsWorld w → StandsFor old w → deliver w number ≡ deliver_one number w
one_is old number sent len there w is s = delivered_as w number (test_false (length w.net.packets) sent number (sent_in w old sent s len) there)

-- A range
pub refuses_first : (old : WorldRecord) (first last sent : ℕ) (before after : List ℕ) → sent ≡ length old.pool.frames → sent < first → after ≡ before ++ lines_text (refusal_lines (Some (why.NoPacket sent)))
    → IsActed (λ w. deliver_range w first last) old old before after
refuses_first old first last sent before after len few text = refuses (λ w. deliver_range w first last) old (why.NoPacket sent) before after (λ w is s.
    let n = sent_in w old sent s len in
    first_fails w (nat_lt (length w.net.packets) first) (NoPacket (length w.net.packets)) (no_packet w last ∷ []) (λ v. deliver_all (last + 1 - first) first v) (test_true (length w.net.packets) sent first n few)
    ∙ ap (λ k. refused w (NoPacket k)) n) text

pub refuses_last : (old : WorldRecord) (first last sent : ℕ) (before after : List ℕ) → sent ≡ length old.pool.frames → first ≤ sent → sent < last → after ≡ before ++ lines_text (refusal_lines (Some (why.NoPacket sent)))
    → IsActed (λ w. deliver_range w first last) old old before after
refuses_last old first last sent before after len there few text = refuses (λ w. deliver_range w first last) old (why.NoPacket sent) before after (λ w is s.
    let n = sent_in w old sent s len in
    first_passes w (nat_lt (length w.net.packets) first) (NoPacket (length w.net.packets)) (no_packet w last ∷ []) (λ v. deliver_all (last + 1 - first) first v) (test_false (length w.net.packets) sent first n there)
    ∙ (first_fails w (nat_lt (length w.net.packets) last) (NoPacket (length w.net.packets)) [] (λ v. deliver_all (last + 1 - first) first v) (test_true (length w.net.packets) sent last n few)
    ∙ ap (λ k. refused w (NoPacket k)) n)) text

range_is : (w : World) (first last sent : ℕ) → length w.net.packets ≡ sent → first ≤ sent → last ≤ sent → deliver_range w first last ≡ deliver_all (last + 1 - first) first w
range_is w first last sent n one two =
    first_passes w (nat_lt (length w.net.packets) first) (NoPacket (length w.net.packets)) (no_packet w last ∷ []) (λ v. deliver_all (last + 1 - first) first v) (test_false (length w.net.packets) sent first n one)
    ∙ first_passes w (nat_lt (length w.net.packets) last) (NoPacket (length w.net.packets)) [] (λ v. deliver_all (last + 1 - first) first v) (test_false (length w.net.packets) sent last n two)

pub range_done : (old now : WorldRecord) (first last n sent : ℕ) (before after : List ℕ) → sent ≡ length old.pool.frames → first ≤ sent → last ≤ sent → n ≡ last + 1 - first → n ≤ event_steps
    → TookSteps n old now → GoesThrough (deliver_all n first) old now before after → IsActed (λ w. deliver_range w first last) old now before after
range_done old now first last n sent before after len one two many few took through =
    acted_as (λ w. deliver_range w first last) (deliver_all n first) old now before after (λ w is s. range_is w first last sent (sent_in w old sent s len) one two ∙ ap (λ k. deliver_all k first w) (sym many))
    (all_done (deliver_all n first) n old now before after few took through)

-- Dumps. The packet of a world whose frame is kept
record IsKept (w : World) (i : ℕ) (bytes : List ℕ) : Type 0 where
  pub packet : PacketHere
  pub framed : bytes ≡ frame packet
  pub found : IsFound w i packet

kept_as : (w : World) (p : Stored) (i : ℕ) (bytes : List ℕ) (k : KeepsPackets w p) (o : Option PacketHere) → slice_get k.packets i ≡ o → Some bytes ≡ option_map frame o → IsKept w i bytes
kept_as w p i bytes k None at is = let no : ⊥ = cc in absurd no
kept_as w p i bytes k (Some packet) at is = record { packet = packet; framed = same_Some _ _ is; found = kept_found w p i packet k at }

kept_in : (w : World) (p : Stored) (i : ℕ) (bytes : List ℕ) → KeepsPackets w p → slice_get p.frames i ≡ Some bytes → IsKept w i bytes
kept_in w p i bytes k at = kept_as w p i bytes k (slice_get k.packets i) refl (sym at ∙ ap (λ fs. slice_get fs i) k.kept.stored ∙ slice_get-map frame k.packets i)

-- what is written of a frame, for whichever packet it is
abbrev pub WritesFrame : ℕ → List ℕ → List ℕ → List ℕ → Type 0
WritesFrame number bytes before after = (packet : PacketHere) (net : Net Ledger) (x : Packet) → IsSent packet → bytes ≡ frame packet → parcel_is packet ≡ parcel_of net x → after ≡ before ++ lines_text (Frame number x (body_of net x.kind x) ∷ [])

abbrev frame_step : World → ℕ → Option Packet → Step
frame_step w number o = with_found o (prints_nothing w) (λ x. record { world = w; lines = Frame number x (body_of w.net x.kind x) ∷ [] })

pub refuses_dump : (old : WorldRecord) (number sent : ℕ) (before after : List ℕ) → sent ≡ length old.pool.frames → sent < number → after ≡ before ++ lines_text (refusal_lines (Some (why.NoPacket sent))) → IsActed (λ w. dump w number) old old before after
refuses_dump old number sent before after len few text = refuses (λ w. dump w number) old (why.NoPacket sent) before after (λ w is s.
    let n = sent_in w old sent s len in
    first_fails w (nat_lt (length w.net.packets) number) (NoPacket (length w.net.packets)) [] (λ v. frame_step v number (packet_of v number)) (test_true (length w.net.packets) sent number n few)
    ∙ ap (λ k. refused w (NoPacket k)) n) text

pub dumps : (old : WorldRecord) (number : ℕ) (bytes before after : List ℕ) → 0 < number → slice_get old.pool.frames (number - 1) ≡ Some bytes → WritesFrame number bytes before after → IsActed (λ w. dump w number) old old before after
dumps old number bytes before after first at writes = record {
  does = λ w is s.
      let k = kept_in w old.pool (number - 1) bytes s.packets at in
      let f = k.found in
      let there = slice_get_within w.net.packets (number - 1) f.written f.there in
      let few : nat_lt (length w.net.packets) number ≡ false = grind (arith, nat_tests, there, first) in
      let same : dump w number ≡ frame_step w number (Some f.written) =
      first_passes w (nat_lt (length w.net.packets) number) (NoPacket (length w.net.packets)) [] (λ v. frame_step v number (packet_of v number)) few ∙ ap (frame_step w number) f.there in
      subst (λ t. IsDone t old before after) (sym same) (record { stands = s; text = writes k.packet w.net f.written f.sent k.framed f.same });
  moves = once_up_to old old (none_once old old.pool);
}
