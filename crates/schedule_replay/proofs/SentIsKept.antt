-- What a turn sends, is kept, printed, and counted.
use Rattle.std.proofs.Common.{◌≡◌, ℕ, zero, suc, ◌+◌, ◌≤◌, Bool, true, false, cond, nat_lt, List, [], ◌∷◌, ◌++◌, length, map, drop, Option, Some, None, refl, sym, ◌∙◌, ap, arith, length-append}
use Rattle.std.specs.List.{AllByRecursion, sum_by}
use Rattle.std.proofs.lemmas.Bool.Decides.{nat_tests}
use Rattle.std.proofs.lemmas.List.{map-append, length-map}
use Rattle.std.proofs.lemmas.List.Sums.{sum_by-cons}
use Rattle.fuxi_terms.specs.Limits.{most_packets, most_packet_bytes}
use Rattle.fuxi_terms.proofs.Alls.{all_append}
use Rattle.party_ledgers.specs.declared.packets.Packet.{Packet as PacketHere}
use Rattle.peer_channel.specs.Parcels.{content_of, parcel_is}
use Rattle.spec_net.specs.Net.{Net, Packet}
use Rattle.spec_net.specs.Ledgers.{Ledger, body_length}
use Rattle.spec_net.specs.Channels.{frame_length}
use Rattle.spec_net.specs.Sides.{Parcel}
use Rattle.spec_refinement.specs.SeenWorlds.{parcel_of}
use Rattle.spec_world.specs.Outputs.{Line, sent_lines}
use Rattle.spec_world.specs.World.{World}
use Rattle.wire_frames.specs.Frames.{frame, IsFrame}
use Rattle.wire_frames.specs.Streams.{HasFrame}
use Rattle.schedule_replay.specs.PacketPools.{Stored, bytes_of, with_frames}
use Rattle.schedule_replay.specs.declared.fault.PoolFault.{PoolFault}
use Rattle.schedule_replay.specs.declared.fault.PoolFault.TheVariants as pool
use Rattle.schedule_replay.specs.declared.stop.WorldStop.{WorldStop}
use Rattle.schedule_replay.specs.declared.stop.WorldStop.TheVariants.{TooManyPackets, PoolBytes, OutOfMemory}
use Rattle.schedule_replay.specs.ReplayTexts.{lines_text}
use Rattle.schedule_replay.specs.Worlds.{KeepsPackets}
use Rattle.schedule_replay.specs.WorldSteps.{packet_bytes, limit_of, Stops}
use Rattle.schedule_replay.specs.Moves.{SentMore, StopsFor}

-- The packets that are new in a world are those that were sent
drop_front : {A : Type 0} (xs ys : List A) → drop (length xs) (xs ++ ys) ≡ ys
drop_front [] ys = refl
drop_front (x ∷ xs) ys = drop_front xs ys

map_drop : {A B : Type 0} (f : A → B) (n : ℕ) (xs : List A) → map f (drop n xs) ≡ drop n (map f xs)
map_drop f zero xs = refl
map_drop f (suc n) [] = refl
map_drop f (suc n) (x ∷ xs) = map_drop f n xs

pub new_packets : (w w' : World) (sent : List PacketHere) → SentMore w w' sent → map parcel_is sent ≡ map (parcel_of w'.net) (drop (length w.net.packets) w'.net.packets)
new_packets w w' sent acts =
    let n = length w.net.packets in
    sym (map_drop (parcel_of w'.net) n w'.net.packets ∙ ap (drop n) acts ∙ ap (λ k. drop k (map (parcel_of w.net) w.net.packets ++ map parcel_is sent)) (sym (length-map w.net.packets (parcel_of w.net)))
    ∙ drop_front (map (parcel_of w.net) w.net.packets) (map parcel_is sent))

-- as many frames as packets
pub kept_length : (w : World) (p : Stored) → KeepsPackets w p → length p.frames ≡ length w.net.packets
kept_length w p k =
    ap length k.kept.stored ∙ length-map k.packets frame ∙ sym (length-map k.packets parcel_is) ∙ ap length k.same ∙ length-map w.net.packets (parcel_of w.net)

pub turn_text : (w w' : World) (sent : List PacketHere) (old : Stored) (lines : List Line) (before after : List ℕ) → KeepsPackets w old → SentMore w w' sent
    → lines ≡ sent_lines w'.net (length w.net.packets + 1) (drop (length w.net.packets) w'.net.packets)
    → ((net : Net Ledger) (xs : List Packet) → map parcel_is sent ≡ map (parcel_of net) xs → after ≡ before ++ lines_text (sent_lines net (length old.frames + 1) xs)) → after ≡ before ++ lines_text lines
turn_text w w' sent old lines before after k acts is text =
    text w'.net (drop (length w.net.packets) w'.net.packets) (new_packets w w' sent acts)
    ∙ ap (λ n. before ++ lines_text (sent_lines w'.net (n + 1) (drop (length w.net.packets) w'.net.packets))) (kept_length w old k)
    ∙ ap (λ ls. before ++ lines_text ls) (sym is)

-- The bytes of frames. The law of their lengths, as it is called for
abbrev pub FrameLengths : Type 0
FrameLengths = (x : PacketHere) (bytes : List ℕ) → IsFrame x bytes → length bytes ≡ 48 + body_length (content_of x.body)

pub same_bytes : FrameLengths → (net : Net Ledger) (ps : List PacketHere) (xs : List Packet) → AllByRecursion HasFrame ps → map parcel_is ps ≡ map (parcel_of net) xs → bytes_of (map frame ps) ≡ sum_by (frame_length net) xs
same_bytes law net [] [] h is = refl
same_bytes law net [] (x ∷ xs) h is = let no : 0 ≡ suc (length (map (parcel_of net) xs)) = ap length is in absurd (omega (arith, no))
same_bytes law net (p ∷ ps) [] h is = let no : suc (length (map parcel_is ps)) ≡ 0 = ap length is in absurd (omega (arith, no))
same_bytes law net (p ∷ ps) (x ∷ xs) h is =
    let here : parcel_is p ≡ parcel_of net x = first_is _ _ _ _ is in
    let long : length (frame p) ≡ frame_length net x = law p (frame p) h.0 ∙ ap (λ (q : Parcel). 48 + body_length q.body) here in
    let rest = same_bytes law net ps xs h.1 (rest_is _ _ _ _ is) in
    sum_by-cons length (frame p) (map frame ps) ∙ (λ i. long i + rest i) ∙ sym (sum_by-cons (frame_length net) x xs)
  where
    head_or : Parcel → List Parcel → Parcel
    head_or d [] = d
    head_or d (y ∷ ys) = y

    tail_of : List Parcel → List Parcel
    tail_of [] = []
    tail_of (y ∷ ys) = ys

    first_is : (a b : Parcel) (as_ bs : List Parcel) → a ∷ as_ ≡ b ∷ bs → a ≡ b
    first_is a b as_ bs e = ap (head_or a) e

    rest_is : (a b : Parcel) (as_ bs : List Parcel) → a ∷ as_ ≡ b ∷ bs → as_ ≡ bs
    rest_is a b as_ bs e = ap tail_of e

pub kept_bytes : FrameLengths → (w : World) (p : Stored) → KeepsPackets w p → bytes_of p.frames ≡ packet_bytes w
kept_bytes law w p k = ap bytes_of k.kept.stored ∙ same_bytes law w.net k.packets w.net.packets k.kept.each k.same

-- Within the limits of the pool the world is within those on packets
pub within_limits : FrameLengths → (w w' : World) (p : Stored) → KeepsPackets w' p → length p.frames ≤ most_packets → bytes_of p.frames ≤ most_packet_bytes → limit_of w w' ≡ None
within_limits law w w' p k few small =
    let l = kept_length w' p k in
    let b = kept_bytes law w' p k in
    let one : nat_lt most_packets (length w'.net.packets) ≡ false = grind (arith, nat_tests, l, few) in
    let two : nat_lt most_packet_bytes (packet_bytes w') ≡ false = grind (arith, nat_tests, b, small) in
    (λ i. cond (one i) (Some (TooManyPackets (length w.net.packets))) (cond (two i) (Some (PoolBytes (packet_bytes w))) None))

-- What the pool refuses the world refuses
sent_kept : (w w' : World) (sent : List PacketHere) (old : Stored) → KeepsPackets w old → SentMore w w' sent → length (with_frames old sent).frames ≡ length w'.net.packets
sent_kept w w' sent old k acts =
    let a = length-append old.frames (map frame sent) in
    let b = length-map sent frame in
    let c = kept_length w old k in
    let d : length w'.net.packets ≡ length w.net.packets + length sent =
    sym (length-map w'.net.packets (parcel_of w'.net)) ∙ ap length acts ∙ length-append (map (parcel_of w.net) w.net.packets) (map parcel_is sent)
    ∙ (λ i. length-map w.net.packets (parcel_of w.net) i + length-map sent parcel_is i) in
    omega (arith, a, b, c, d)

sent_bytes : FrameLengths → (w w' : World) (sent : List PacketHere) (old : Stored) → KeepsPackets w old → AllByRecursion HasFrame sent → SentMore w w' sent → bytes_of (with_frames old sent).frames ≡ packet_bytes w'
sent_bytes law w w' sent old k each acts =
    let all = k.packets ++ sent in
    ap (λ fs. bytes_of (fs ++ map frame sent)) k.kept.stored ∙ ap bytes_of (sym (map-append frame k.packets sent))
    ∙ same_bytes law w'.net all w'.net.packets (all_append HasFrame k.packets sent k.kept.each each) (map-append parcel_is k.packets sent ∙ ap (λ ps. ps ++ map parcel_is sent) k.same ∙ sym acts)

-- a choice of the pool is the same choice of the world
many_alike : (a b : Bool) (n m kept : ℕ) → cond a (Some (pool.TooManyPackets n)) (cond b (Some (pool.PoolBytes m)) None) ≡ Some (pool.TooManyPackets kept) → (a ≡ true) × (n ≡ kept)
many_alike true b n m kept is = (refl, ap kept_of is)
  where
    kept_of : Option PoolFault → ℕ
    kept_of (Some (pool.TooManyPackets k)) = k
    kept_of _ = 0
many_alike false true n m kept is = absurd (other is)
  where
    mark : Option PoolFault → ℕ
    mark (Some (pool.TooManyPackets k)) = 1
    mark _ = 0

    other : Some (pool.PoolBytes m) ≡ Some (pool.TooManyPackets kept) → ⊥
    other e = let no : 0 ≡ 1 = ap mark e in omega (arith, no)
many_alike false false n m kept is = absurd (other is)
  where
    mark : Option PoolFault → ℕ
    mark (Some f) = 1
    mark None = 0

    other : None ≡ Some (pool.TooManyPackets kept) → ⊥
    other e = let no : 0 ≡ 1 = ap mark e in omega (arith, no)

large_alike : (a b : Bool) (n m kept : ℕ) → cond a (Some (pool.TooManyPackets n)) (cond b (Some (pool.PoolBytes m)) None) ≡ Some (pool.PoolBytes kept) → (a ≡ false) × (b ≡ true) × (m ≡ kept)
large_alike false true n m kept is = (refl, refl, ap kept_of is)
  where
    kept_of : Option PoolFault → ℕ
    kept_of (Some (pool.PoolBytes k)) = k
    kept_of _ = 0
large_alike true b n m kept is = absurd (other is)
  where
    mark : Option PoolFault → ℕ
    mark (Some (pool.PoolBytes k)) = 1
    mark _ = 0

    other : Some (pool.TooManyPackets n) ≡ Some (pool.PoolBytes kept) → ⊥
    other e = let no : 0 ≡ 1 = ap mark e in omega (arith, no)
large_alike false false n m kept is = absurd (other is)
  where
    mark : Option PoolFault → ℕ
    mark (Some f) = 1
    mark None = 0

    other : None ≡ Some (pool.PoolBytes kept) → ⊥
    other e = let no : 0 ≡ 1 = ap mark e in omega (arith, no)

pub turn_stops : FrameLengths → (w w' : World) (sent : List PacketHere) (old : Stored) (stop : WorldStop) → KeepsPackets w old → SentMore w w' sent → StopsFor old sent stop → Stops (limit_of w w') stop
turn_stops law w w' sent old (TooManyPackets kept) k acts h =
    let m = many_alike _ _ _ _ kept h in
    let many : nat_lt most_packets (length w'.net.packets) ≡ true = ap (nat_lt most_packets) (sym (sent_kept w w' sent old k acts)) ∙ m.0 in
    (λ i. cond (many i) (Some (TooManyPackets (length w.net.packets))) (cond (nat_lt most_packet_bytes (packet_bytes w')) (Some (PoolBytes (packet_bytes w))) None))
    ∙ ap (λ n. Some (TooManyPackets n)) (sym (kept_length w old k) ∙ m.1)
turn_stops law w w' sent old (PoolBytes kept) k acts h =
    let m = large_alike _ _ _ _ kept h.0 in
    let few : nat_lt most_packets (length w'.net.packets) ≡ false = ap (nat_lt most_packets) (sym (sent_kept w w' sent old k acts)) ∙ m.0 in
    let large : nat_lt most_packet_bytes (packet_bytes w') ≡ true = ap (nat_lt most_packet_bytes) (sym (sent_bytes law w w' sent old k h.1 acts)) ∙ m.1 in
    (λ i. cond (few i) (Some (TooManyPackets (length w.net.packets))) (cond (large i) (Some (PoolBytes (packet_bytes w))) None))
    ∙ ap (λ n. Some (PoolBytes n)) (sym (kept_bytes law w old k) ∙ m.2)
turn_stops law w w' sent old OutOfMemory k acts h = tt
