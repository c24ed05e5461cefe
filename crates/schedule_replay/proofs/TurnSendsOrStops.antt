-- Turns: the packets of a party that runs are kept and printed, or the limit that they would pass is named.
use Rattle.std.proofs.Common.{◌≡◌, ℕ, ◌+◌, Bool, true, false, cond, List, [], ◌∷◌, ◌++◌, length, map, take, Option, Some, None, Result, Ok, Err, slice_get, refl, sym, ◌∙◌, ap, subst, arith}
use Rattle.std.specs.Prelude.{OnOk, IfErr}
use Rattle.std.specs.Option.{option_map}
use Rattle.std.proofs.lemmas.Option.{slice_get-map, slice_get_within, same_Some}
use Rattle.std.proofs.lemmas.List.{length-take-le}
use Rattle.party_ledgers.specs.declared.packets.Packet.{Packet as PacketHere}
use Rattle.peer_channel.specs.Parcels.{parcel_is}
use Rattle.spec_net.specs.Net.{Net, Packet}
use Rattle.spec_net.specs.Ledgers.{Ledger}
use Rattle.spec_refinement.specs.SeenWorlds.{parcel_of}
use Rattle.spec_world.specs.World.{World, Step}
use Rattle.spec_world.specs.Outputs.{sent_lines}
use Rattle.schedule_replay.specs.PacketPools.{Stored, limit_of as pool_limit}
use Rattle.spec_refinement.specs.SeenParties.{Kind, Role, turn_of, resync_of}
use Rattle.running_parties.specs.Slots.{SlotsRecord, AreWithin as PartiesWithin, TurnInWorld, ResyncInWorld}
use Rattle.schedule_text.specs.declared.refusal.Refusal.TheVariants as why
use Rattle.schedule_replay.specs.declared.stop.WorldStop.{WorldStop}
use Rattle.schedule_replay.specs.declared.stop.WorldStop.TheVariants.{TooManyPackets, PoolBytes, OutOfMemory}
use Rattle.schedule_replay.specs.ReplayTexts.{lines_text}
use Rattle.schedule_replay.specs.Worlds.{WorldRecord}
use Rattle.schedule_replay.specs.Moves.{IsPart, KeepsMore, StopsFor, Acts, ActsAsPart, IsActed, WantsMemory, refusal_lines}
use Rattle.schedule_replay.proofs.MovesLemmas.{once_up_to}
use Rattle.schedule_replay.proofs.MastersActInWorld.{is_quiet, is_refused}
use Rattle.schedule_replay.proofs.PeersActInWorld.{acts_by}
use Rattle.schedule_replay.proofs.SentIsKept.{FrameLengths, turn_text, turn_stops}
use Rattle.schedule_replay.proofs.ReplayTextsLemmas.{sent_more}

-- The packet of a turn at a place is written there
pub record IsAt (net : Net Ledger) (xs : List Packet) (i : ℕ) (packet : PacketHere) : Type 0 where
  pub written : Packet
  pub there : slice_get xs i ≡ Some written
  pub same : parcel_is packet ≡ parcel_of net written

at_as : (net : Net Ledger) (xs : List Packet) (i : ℕ) (packet : PacketHere) (o : Option Packet) → slice_get xs i ≡ o → Some (parcel_is packet) ≡ option_map (parcel_of net) o → IsAt net xs i packet
at_as net xs i packet None at is = let no : ⊥ = cc in absurd no
at_as net xs i packet (Some x) at is = record { written = x; there = at; same = same_Some _ _ is }

is_at : (net : Net Ledger) (ps : List PacketHere) (xs : List Packet) (i : ℕ) (packet : PacketHere) → map parcel_is ps ≡ map (parcel_of net) xs → slice_get ps i ≡ Some packet → IsAt net xs i packet
is_at net ps xs i packet same at =
    at_as net xs i packet (slice_get xs i) refl
    (ap (option_map parcel_is) (sym at) ∙ sym (slice_get-map parcel_is ps i) ∙ ap (λ qs. slice_get qs i) same ∙ slice_get-map (parcel_of net) xs i)

-- one line more
pub sent_next : (net : Net Ledger) (first i : ℕ) (ps : List PacketHere) (packet : PacketHere) (xs : List Packet) (before mid after : List ℕ) → map parcel_is ps ≡ map (parcel_of net) xs → slice_get ps i ≡ Some packet
    → mid ≡ before ++ lines_text (sent_lines net first (take i xs)) → ((net : Net Ledger) (x : Packet) → parcel_is packet ≡ parcel_of net x → after ≡ mid ++ lines_text (sent_lines net (first + i) (x ∷ [])))
    → after ≡ before ++ lines_text (sent_lines net first (take (i + 1) xs))
sent_next net first i ps packet xs before mid after same at one two =
    let f = is_at net ps xs i packet same at in
    let within = slice_get_within xs i f.written f.there in
    sent_more net first i xs f.written before mid after f.there (length-take-le i xs (omega (arith, within))) one (two net f.written f.same)

-- behind both limits only memory can lack
pub stops_for : (old : Stored) (sent : List PacketHere) (result : Result (Unit {0}) WorldStop) → pool_limit old sent ≡ None → IfErr result WantsMemory → IfErr result (StopsFor old sent)
stops_for old sent (Ok done) within h = tt
stops_for old sent (Err OutOfMemory) within h = within
stops_for old sent (Err (TooManyPackets kept)) within h = absurd (none (h None))
  where
    none : None ≡ Some (TooManyPackets kept) → ⊥
    none e = cc
stops_for old sent (Err (PoolBytes kept)) within h = absurd (none (h None))
  where
    none : None ≡ Some (PoolBytes kept) → ⊥
    none e = cc

-- The party of a number sent these packets, or was refused, or forgot what was acknowledged
module _ {P : Type 0} {stands : P → Role → Type 0} {steps : P → ℕ} {k : Kind} {of : WorldRecord → SlotsRecord P} {put : SlotsRecord P → WorldRecord → WorldRecord} where
  pub turns_by : IsPart P stands steps k of put → FrameLengths → (n : ℕ) (old : WorldRecord) (after : SlotsRecord P) (sent : List PacketHere) (pool : Stored) (before text : List ℕ) (result : Result (Unit {0}) WorldStop)
      → TurnInWorld stands n (of old) after (Some sent) → ((n : ℕ) → PartiesWithin steps n (of old) → PartiesWithin steps (n + 1) after) → OnOk result (KeepsMore old.pool pool sent)
      → OnOk result ((net : Net Ledger) (xs : List Packet) → map parcel_is sent ≡ map (parcel_of net) xs → text ≡ before ++ lines_text (sent_lines net (length old.pool.frames + 1) xs))
      → IfErr result (StopsFor old.pool sent) → Acts (λ w. turn_of w k n) old (record (put after old) { pool = pool }) before text result
  turns_by part law n old after sent pool before text (Ok done) turns within keeps says stops = record {
    does = λ w is s.
        let t = turns w k is.good (part.stand w old s) in
        record { stands = part.acts w (turn_of w k n).world n sent old after pool s t.world keeps; text = turn_text w (turn_of w k n).world sent old.pool (turn_of w k n).lines before text s.packets t.world.acts.packets t.lines says };
    moves = once_up_to old (record (put after old) { pool = pool }) (part.once old after pool within);
  }
  turns_by part law n old after sent pool before text (Err stop) turns within keeps says stops = λ w is s.
      let t = turns w k is.good (part.stand w old s) in
      turn_stops law w (turn_of w k n).world sent old.pool stop s.packets t.world.acts.packets stops

  pub none_turns : IsPart P stands steps k of put → (n : ℕ) (old : WorldRecord) (after : SlotsRecord P) (before text : List ℕ) → TurnInWorld stands n (of old) after None → ((n : ℕ) → PartiesWithin steps n (of old) → PartiesWithin steps (n + 1) after)
      → text ≡ before ++ lines_text (refusal_lines (Some why.NotRunning)) → IsActed (λ w. turn_of w k n) old (put after old) before text
  none_turns part n old after before text turns within says = record {
    does = λ w is s. let t = turns w k is.good (part.stand w old s) in is_refused w (turn_of w k n) (put after old) why.NotRunning before text (part.stays w old after s t.stand) t.same says;
    moves = once_up_to old (put after old) (part.moves old after within);
  }

  pub resyncs_by : IsPart P stands steps k of put → (n : ℕ) (old : WorldRecord) (after : SlotsRecord P) (ran : Bool) (before text : List ℕ) → ResyncInWorld stands n (of old) after ran → ((n : ℕ) → PartiesWithin steps n (of old) → PartiesWithin steps (n + 1) after)
      → text ≡ before ++ lines_text (refusal_lines (cond ran None (Some why.NotRunning))) → IsActed (λ w. resync_of w k n) old (put after old) before text
  resyncs_by part n old after true before text resyncs within says = record {
    does = λ w is s. let r = resyncs w k is.good (part.stand w old s) in is_quiet (resync_of w k n) (put after old) before text (part.quiet w (resync_of w k n).world n old after s r.world) r.lines says;
    moves = once_up_to old (put after old) (part.moves old after within);
  }
  resyncs_by part n old after false before text resyncs within says = record {
    does = λ w is s. let r = resyncs w k is.good (part.stand w old s) in is_refused w (resync_of w k n) (put after old) why.NotRunning before text (part.stays w old after s r.stand) r.same says;
    moves = once_up_to old (put after old) (part.moves old after within);
  }

module _ {P : Type 0} {steps : P → ℕ} where
  as_within : (x y after : SlotsRecord P) → y ≡ x → ((n : ℕ) → PartiesWithin steps n x → PartiesWithin steps (n + 1) after) → (n : ℕ) → PartiesWithin steps n y → PartiesWithin steps (n + 1) after
  as_within x y after same within n w = within n (subst (PartiesWithin steps n) same w)

same_pool : (f : World → Step) (r after : WorldRecord) (pool : Stored) (before text : List ℕ) (result : Result (Unit {0}) WorldStop) → after.pool ≡ pool → Acts f r after before text result → Acts f r (record after { pool = pool }) before text result
same_pool f r after pool before text result is acts = subst (λ p. Acts f r (record after { pool = p }) before text result) is acts

-- and of whatever part its kind is
module _ {P : Type 0} {stands : P → Role → Type 0} {steps : P → ℕ} where
  pub turns_as : FrameLengths → (n : ℕ) (x after : SlotsRecord P) (sent : List PacketHere) (pool kept : Stored) (before text : List ℕ) (result : Result (Unit {0}) WorldStop)
      → TurnInWorld stands n x after (Some sent) → ((n : ℕ) → PartiesWithin steps n x → PartiesWithin steps (n + 1) after) → OnOk result (KeepsMore pool kept sent)
      → OnOk result ((net : Net Ledger) (xs : List Packet) → map parcel_is sent ≡ map (parcel_of net) xs → text ≡ before ++ lines_text (sent_lines net (length pool.frames + 1) xs))
      → IfErr result (StopsFor pool sent) → ActsAsPart turn_of stands steps n x after pool kept before text result
  turns_as law n x after sent pool kept before text result turns within keeps says stops k of put r part same held =
      turns_by part law n r after sent kept before text result (subst (λ y. TurnInWorld stands n y after (Some sent)) (sym same) turns) (as_within x (of r) after same within) (subst (λ p. OnOk result (KeepsMore p kept sent)) (sym held) keeps)
      (subst (λ (p : Stored). OnOk result ((net : Net Ledger) (xs : List Packet) → map parcel_is sent ≡ map (parcel_of net) xs → text ≡ before ++ lines_text (sent_lines net (length p.frames + 1) xs))) (sym held) says)
      (subst (λ p. IfErr result (StopsFor p sent)) (sym held) stops)

  pub none_as : (n : ℕ) (x after : SlotsRecord P) (pool : Stored) (before text : List ℕ) (result : Result (Unit {0}) WorldStop) → TurnInWorld stands n x after None → ((n : ℕ) → PartiesWithin steps n x → PartiesWithin steps (n + 1) after)
      → OnOk result (text ≡ before ++ lines_text (refusal_lines (Some why.NotRunning))) → IfErr result WantsMemory → ActsAsPart turn_of stands steps n x after pool pool before text result
  none_as n x after pool before text result turns within ok err k of put r part same held =
      same_pool (λ w. turn_of w k n) r (put after r) pool before text result (part.frames r after ∙ held)
      (acts_by (λ w. turn_of w k n) r (put after r) before text _ result ok err (none_turns part n r after before text (subst (λ y. TurnInWorld stands n y after None) (sym same) turns) (as_within x (of r) after same within)))

  pub resyncs_as : (n : ℕ) (x after : SlotsRecord P) (ran : Bool) (pool : Stored) (before text : List ℕ) (result : Result (Unit {0}) WorldStop) → ResyncInWorld stands n x after ran → ((n : ℕ) → PartiesWithin steps n x → PartiesWithin steps (n + 1) after)
      → OnOk result (text ≡ before ++ lines_text (refusal_lines (cond ran None (Some why.NotRunning)))) → IfErr result WantsMemory → ActsAsPart resync_of stands steps n x after pool pool before text result
  resyncs_as n x after ran pool before text result resyncs within ok err k of put r part same held =
      same_pool (λ w. resync_of w k n) r (put after r) pool before text result (part.frames r after ∙ held)
      (acts_by (λ w. resync_of w k n) r (put after r) before text _ result ok err (resyncs_by part n r after ran before text (subst (λ y. ResyncInWorld stands n y after ran) (sym same) resyncs) (as_within x (of r) after same within)))
