-- Ends of channels: what hearing and turns make of them.
use Rattle.std.proofs.Common.{◌≡◌, ℕ, zero, suc, ◌+◌, ◌-◌, ◌<◌, ◌≤◌, Bool, true, false, cond, not, nat_eq, nat_lt, List, [], ◌∷◌, ◌++◌, length, map, min, Some, Result, Ok, Err, slice_get, refl, sym, ◌∙◌, ap, subst, arith}
use Rattle.std.specs.Prelude.{◌||◌, ◌&&◌}
use Rattle.std.specs.List.{AllByRecursion}
use Rattle.std.proofs.lemmas.Bool.Decides.{nat_tests}
use Rattle.std.proofs.lemmas.List.{map-append, length-append}
use Rattle.fuxi_terms.specs.Limits.{kept_changes, turn_deltas}
use Rattle.fuxi_terms.specs.Lists.{numbers_from}
use Rattle.fuxi_terms.specs.declared.answers.LedgerFault.{LedgerFault}
use Rattle.fuxi_terms.specs.declared.answers.LedgerFault.TheVariants.{Below, TooGreat, OutOfMemory as WantOfMemory}
use Rattle.fuxi_terms.specs.declared.answers.What.{What}
use Rattle.fuxi_terms.specs.declared.answers.What.TheVariants.{Stale, Ack as Acked, Taken}
use Rattle.fuxi_terms.specs.Tallies.{TallyRecord, ChangeRecord, empty_tally}
use Rattle.fuxi_terms.proofs.Alls.{all_append}
use Rattle.ledger_law.specs.Applying.{IsRefusal}
use Rattle.delta_channel.specs.Standing.{Sending, StandsFor, IsChangeAt}
use Rattle.delta_channel.specs.Calls.{Meets, IsPosted, IsTaken, TakesFull}
use Rattle.std.specs.Option.{unwrap_or}
use Rattle.delta_channel.specs.Hearing.{Receiving, HasEntry, verdict_of}
use Rattle.delta_channel.specs.declared.receiver.Place.{Place}
use Rattle.delta_channel.specs.declared.receiver.Stamp.{Stamp}
use Rattle.delta_channel.specs.declared.receiver.Verdict.{Verdict}
use Rattle.delta_channel.specs.declared.receiver.Verdict.TheVariants.{Take, Old as IsOld, Gap as IsGap, NotMine as IsNotMine, Stale as IsStale}
use Rattle.full_sync.specs.Turns.{Endpoint, Mark, MarkFull, MarkDelta, MarkAck, mark_of, news, turn_of, Brings, acked_after}
use Rattle.full_sync.specs.declared.duplex.Note.{Note}
use Rattle.full_sync.specs.declared.duplex.Note.TheVariants.{Delta, Full, Ack}
use Rattle.channel_refinement.specs.Alike.{place_at, place_of, stamp_of, told_as}
use Rattle.schedule_unit.specs.declared.party.Party.{Party as PartyHere}
use Rattle.spec_net.specs.Net.{Party, Id, Link, Packet, Kind, Ack as IsAck, Delta as IsDelta, Full as IsFull, met, acknowledge, word_of, link_after, turn_packets, unmoved, at_index, Heard as HeardThere}
use Rattle.work_plan.specs.WorkEvents.{hear_running}
use Rattle.work_plan.specs.AgentWithApps.{present}
use Rattle.work_plan.proofs.NamesLemmas.{found_same, found_other}
use Rattle.work_plan.specs.declared.ends.Parcel.{Parcel}
use Rattle.work_plan.specs.declared.hearing.Heard.{Heard}
use Rattle.work_plan.specs.Ends.{IsEnd, party_of, packet_of, note_packet, parcel_of, names_packet, change_packet, NamesBrought, ChangeBrought, Brought, TakesAs, HearsAs, Sets, patched_names}

-- The packets of a turn, from the marks of its notes
abbrev packet_by : Party → Party → Mark → Packet
packet_by p to (MarkFull n) = record { from = p; to = to; kind = IsFull; inc = p.inc; seq = n }
packet_by p to (MarkDelta n) = record { from = p; to = to; kind = IsDelta; inc = p.inc; seq = n }
packet_by p to (MarkAck place) = record { from = p; to = to; kind = IsAck; inc = place.inc; seq = place.seq }

by_mark : (from to : PartyHere) (note : Note TallyRecord ChangeRecord) → packet_of (parcel_of from to note) ≡ packet_by (party_of from) (party_of to) (mark_of note)
by_mark from to (Full n names) = refl
by_mark from to (Delta n change) = refl
by_mark from to (Ack place) = refl

by_marks : (from to : PartyHere) (ns : List (Note TallyRecord ChangeRecord)) → map packet_of (map (parcel_of from to) ns) ≡ map (packet_by (party_of from) (party_of to)) (map mark_of ns)
by_marks from to [] = refl
by_marks from to (n ∷ ns) = let a = by_mark from to n in let r = by_marks from to ns in λ i. a i ∷ r i

mapped : {A B C : Type 0} (f : B → C) (g : A → B) (h : A → C) → ((a : A) → f (g a) ≡ h a) → (xs : List A) → map f (map g xs) ≡ map h xs
mapped f g h same [] = refl
mapped f g h same (x ∷ xs) = let r = mapped f g h same xs in λ i. same x i ∷ r i

turn_by_marks : (p : Party) (q : Id) (top : ℕ) (l : Link) → map (packet_by p (record { id = q; inc = l.known })) (turn_of top l.acked (place_at l)) ≡ turn_packets p q top l
turn_by_marks p q top l =
    let to : Party = record { id = q; inc = l.known } in
    map-append (packet_by p to) (news l.known top l.acked) (MarkAck (place_at l) ∷ [])
    ∙ ap (λ xs. xs ++ record { from = p; to = to; kind = IsAck; inc = l.known; seq = l.seq } ∷ []) (cases (nat_eq l.known 0) (nat_eq top 0) (nat_eq l.acked top) (nat_eq l.acked 0 || nat_lt kept_changes (top - l.acked)))
  where
    cases : (a b c d : Bool) →
        map (packet_by p (record { id = q; inc = l.known })) (cond ((a || b) || c) [] (cond d (MarkFull top ∷ []) (map MarkDelta (numbers_from (l.acked + 1) (min turn_deltas (top - l.acked))))))
        ≡ cond (a || (b || c)) [] (cond d (record { from = p; to = record { id = q; inc = l.known }; kind = IsFull; inc = p.inc; seq = top } ∷ [])
        (map (λ n. record { from = p; to = record { id = q; inc = l.known }; kind = IsDelta; inc = p.inc; seq = n }) (numbers_from (l.acked + 1) (min turn_deltas (top - l.acked)))))
    cases true b c d = refl
    cases false true c d = refl
    cases false false true d = refl
    cases false false false true = refl
    cases false false false false = mapped (packet_by p (record { id = q; inc = l.known })) MarkDelta (λ n. record { from = p; to = record { id = q; inc = l.known }; kind = IsDelta; inc = p.inc; seq = n }) (λ n. refl) (numbers_from (l.acked + 1) (min turn_deltas (top - l.acked)))

-- a change leads to an index from 1 to the last one
abbrev IsMarked : ℕ → Mark → Type 0
IsMarked top (MarkFull n) = Unit {0}
IsMarked top (MarkDelta n) = (1 ≤ n) × (n ≤ top)
IsMarked top (MarkAck place) = Unit {0}

numbers_marked : (top a n : ℕ) → 1 ≤ a → a + n ≤ top + 1 → AllByRecursion (IsMarked top) (map MarkDelta (numbers_from a n))
numbers_marked top a zero first le = tt
numbers_marked top a (suc n) first le = ((first, omega (arith, le)), numbers_marked top (a + 1) n (omega arith) (omega (arith, le)))

turn_marked : (top acked : ℕ) (place : Place) → acked ≤ top → AllByRecursion (IsMarked top) (turn_of top acked place)
turn_marked top acked place le = all_append (IsMarked top) (news place.inc top acked) (MarkAck place ∷ []) (cases (nat_eq place.inc 0 || nat_eq top 0 || nat_eq acked top) (nat_eq acked 0 || nat_lt kept_changes (top - acked))) (tt, tt)
  where
    cases : (a b : Bool) → AllByRecursion (IsMarked top) (cond a [] (cond b (MarkFull top ∷ []) (map MarkDelta (numbers_from (acked + 1) (min turn_deltas (top - acked))))))
    cases true b = tt
    cases false true = (tt, tt)
    cases false false = numbers_marked top (acked + 1) (min turn_deltas (top - acked)) (omega arith) (omega (arith, le))

module _ (from to : PartyHere) (hs : Party → Id → List TallyRecord) where
  one_brought : (note : Note TallyRecord ChangeRecord) → Brings patched_names (empty_tally ∷ hs (party_of from) (party_of to).id) note → IsMarked (length (hs (party_of from) (party_of to).id)) (mark_of note) → Brought hs (parcel_of from to note)
  one_brought (Full n names) b m = b
  one_brought (Delta n change) b m = record { leads = b; first = m.0; there = m.1 }
  one_brought (Ack place) b m = tt

  all_brought : (ns : List (Note TallyRecord ChangeRecord)) → AllByRecursion (Brings patched_names (empty_tally ∷ hs (party_of from) (party_of to).id)) ns → AllByRecursion (IsMarked (length (hs (party_of from) (party_of to).id))) (map mark_of ns) → AllByRecursion (Brought hs) (map (parcel_of from to) ns)
  all_brought [] b m = tt
  all_brought (n ∷ ns) b m = (one_brought n b.0 m.0, all_brought ns b.1 m.1)

pub turn_sends : (d : Endpoint TallyRecord ChangeRecord TallyRecord) (from to : PartyHere) (ns : List (Note TallyRecord ChangeRecord)) (p : Party) (q : Id) (l : Link) (hs : Party → Id → List TallyRecord)
    → IsEnd d p q l hs → party_of from ≡ p → party_of to ≡ record { id = q; inc = l.known } → d.acked ≤ d.outgoing.last → map mark_of ns ≡ turn_of d.outgoing.last d.acked d.incoming.place
    → ((history : List TallyRecord) → StandsFor empty_tally patched_names d.outgoing history → AllByRecursion (Brings patched_names history) ns)
    → (map packet_of (map (parcel_of from to) ns) ≡ turn_packets p q (length (hs p q)) l) × AllByRecursion (Brought hs) (map (parcel_of from to) ns)
turn_sends d from to ns p q l hs e is_p is_to le marks brings =
    let here : turn_of d.outgoing.last d.acked d.incoming.place ≡ turn_of (length (hs p q)) l.acked (place_at l) = λ i. turn_of (e.last i) (e.acked i) (e.place i) in
    let few : l.acked ≤ length (hs p q) = subst (λ n. n ≤ length (hs p q)) e.acked (subst (λ n. d.acked ≤ n) e.last le) in
    let are = subst (AllByRecursion (IsMarked (length (hs p q)))) (sym (marks ∙ here)) (turn_marked (length (hs p q)) l.acked (place_at l) few) in
    let same : hs (party_of from) (party_of to).id ≡ hs p q = λ i. hs (is_p i) (is_to i).id in (
      by_marks from to ns ∙ (λ i. map (packet_by (is_p i) (is_to i)) ((marks ∙ here) i)) ∙ turn_by_marks p q (length (hs p q)) l,
      all_brought from to hs ns (subst (λ h. AllByRecursion (Brings patched_names (empty_tally ∷ h)) ns) (sym same) (brings (empty_tally ∷ hs p q) e.stands)) (subst (λ h. AllByRecursion (IsMarked (length h)) (map mark_of ns)) (sym same) are),
    )

-- A packet that is not taken leaves the link
link_left : (v : Verdict) (own top : ℕ) (l : Link) (x : Packet) → (v ≡ Take → ⊥) → link_after (told_as v) own top l x ≡ l
link_left Take own top l x other = absurd (other refl)
link_left IsOld own top l x other = refl
link_left IsGap own top l x other = refl
link_left IsNotMine own top l x other = refl
link_left IsStale own top l x other = refl

pub left_end : (d : Endpoint TallyRecord ChangeRecord TallyRecord) (p : Party) (q : Id) (l : Link) (hs : Party → Id → List TallyRecord) (x : Packet) (v : Verdict) → IsEnd d p q l hs → (v ≡ Take → ⊥) → told_as v ≡ word_of x.kind p.inc l x → TakesAs d (told_as v) p q l hs x
left_end d p q l hs x v e other word = record {
  word = word;
  ends = subst (λ (m : Link). IsEnd d p q m hs) (sym (link_left v p.inc (length (hs p q)) l x other) ∙ ap (λ (w : What). link_after w p.inc (length (hs p q)) l x) word) e;
}

-- the word for a packet of the known incarnation, from the verdict on it
pub verdict_says : (k : Kind) (d : Endpoint TallyRecord ChangeRecord TallyRecord) (p : Party) (q : Id) (l : Link) (hs : Party → Id → List TallyRecord) (x : Packet) (s : Stamp) (v : Verdict)
    → ((own : ℕ) (l : Link) (x : Packet) → x.kind ≡ k → told_as (verdict_of own (place_at l) (stamp_of x)) ≡ cond (nat_lt x.from.inc l.known) Stale (word_of k own l x))
    → IsEnd d p q l hs → x.kind ≡ k → s ≡ stamp_of x → x.from.inc ≡ d.incoming.place.inc → v ≡ verdict_of d.incoming.own d.incoming.place s → told_as v ≡ word_of x.kind p.inc l x
verdict_says k d p q l hs x s v law e kind stamp known is =
    let late : nat_lt x.from.inc l.known ≡ false = let same : x.from.inc ≡ l.known = known ∙ ap (λ (y : Place). y.inc) e.place in grind (arith, nat_tests, same) in
    ap told_as is ∙ (λ i. told_as (verdict_of (e.also i) (e.place i) (stamp i))) ∙ law p.inc l x kind ∙ ap (λ b. cond b Stale (word_of k p.inc l x)) late ∙ ap (λ kk. word_of kk p.inc l x) (sym kind)

-- a whole ledger is taken
pub whole_end : (old new : Endpoint TallyRecord ChangeRecord TallyRecord) (p : Party) (q : Id) (l : Link) (hs : Party → Id → List TallyRecord) (from to : PartyHere) (n : ℕ) (names : TallyRecord) (s : Stamp)
    → let x = names_packet from to n in IsEnd old p q l hs → NamesBrought hs x names → x.from.id ≡ q → x.to.id ≡ p.id → from.inc ≡ old.incoming.place.inc → s.place ≡ record { inc = from.inc; seq = n }
    → Taken ≡ word_of x.kind p.inc l x → TakesFull s names old.incoming new.incoming → new ≡ record { outgoing = old.outgoing; incoming = new.incoming; acked = old.acked } → TakesAs new Taken p q l hs x
whole_end old new p q l hs from to n names s e brought at_q at_p known place word takes rest =
    let x = names_packet from to n in
    let inc : from.inc ≡ l.known = known ∙ ap (λ (y : Place). y.inc) e.place in
    let out : new.outgoing ≡ old.outgoing = ap (λ (d : Endpoint TallyRecord ChangeRecord TallyRecord). d.outgoing) rest in
    let history : hs x.from x.to.id ≡ hs (record { id = q; inc = l.known }) p.id = λ i. hs (record { id = at_q i; inc = inc i }) (at_p i) in
    let here : new.incoming.place ≡ record { inc = l.known; seq = n } = ap (λ (r : Receiving TallyRecord). r.place) takes.after ∙ place ∙ (λ i. record { inc = inc i; seq = n }) in
    let got : new.incoming.received ≡ names = ap (λ (r : Receiving TallyRecord). r.received) takes.after in
    record {
      word = word;
      ends = subst (λ (w : What). IsEnd new p q (link_after w p.inc (length (hs p q)) l x) hs) word (record {
        own = ap (λ (o : Sending TallyRecord ChangeRecord). o.own) out ∙ e.own;
        also = ap (λ (r : Receiving TallyRecord). r.own) takes.after ∙ e.also;
        apart = e.apart;
        place = here;
        acked = ap (λ (d : Endpoint TallyRecord ChangeRecord TallyRecord). d.acked) rest ∙ e.acked;
        last = ap (λ (o : Sending TallyRecord ChangeRecord). o.last) out ∙ e.last;
        stands = subst (λ (o : Sending TallyRecord ChangeRecord). StandsFor empty_tally patched_names o (empty_tally ∷ hs p q)) (sym out) e.stands;
        entry = ap (slice_get (empty_tally ∷ hs (record { id = q; inc = l.known }) p.id)) (ap (λ (y : Place). y.seq) here) ∙ ap (λ h. slice_get (empty_tally ∷ h) n) (sym history) ∙ brought ∙ ap Some (sym got);
      });
    }

-- a change is taken
pub change_end : (old new : Endpoint TallyRecord ChangeRecord TallyRecord) (p : Party) (q : Id) (l : Link) (hs : Party → Id → List TallyRecord) (from to : PartyHere) (n : ℕ) (change : ChangeRecord) (s : Stamp)
    → let x = change_packet from to n in IsEnd old p q l hs → ChangeBrought hs x change → x.from.id ≡ q → x.to.id ≡ p.id → from.inc ≡ old.incoming.place.inc → s.place ≡ record { inc = from.inc; seq = n } → s.full ≡ false → n ≡ old.incoming.place.seq + 1
    → Taken ≡ word_of x.kind p.inc l x → IsTaken patched_names s change old.incoming new.incoming → new ≡ record { outgoing = old.outgoing; incoming = new.incoming; acked = old.acked } → TakesAs new Taken p q l hs x
change_end old new p q l hs from to n change s e brought at_q at_p known place full next word takes rest =
    let x = change_packet from to n in
    let inc : from.inc ≡ l.known = known ∙ ap (λ (y : Place). y.inc) e.place in
    let out : new.outgoing ≡ old.outgoing = ap (λ (d : Endpoint TallyRecord ChangeRecord TallyRecord). d.outgoing) rest in
    let history : hs x.from x.to.id ≡ hs (record { id = q; inc = l.known }) p.id = λ i. hs (record { id = at_q i; inc = inc i }) (at_p i) in
    let here : new.incoming.place ≡ record { inc = l.known; seq = n } = takes.place ∙ place ∙ (λ i. record { inc = inc i; seq = n }) in
    let before : n - 1 ≡ old.incoming.place.seq = omega (arith, next) in
    let h = hs (record { id = q; inc = l.known }) p.id in
    let there : s.place.seq < length (empty_tally ∷ h) = let b = subst (λ h. n ≤ length h) history brought.there in let at = ap (λ (y : Place). y.seq) place in omega (arith, b, at) in
    let leads : IsChangeAt patched_names change old.incoming.place.seq (empty_tally ∷ h) = subst (λ k. IsChangeAt patched_names change k (empty_tally ∷ h)) before (subst (λ h. IsChangeAt patched_names change (n - 1) (empty_tally ∷ h)) history brought.leads) in
    record {
      word = word;
      ends = subst (λ (w : What). IsEnd new p q (link_after w p.inc (length (hs p q)) l x) hs) word (record {
        own = ap (λ (o : Sending TallyRecord ChangeRecord). o.own) out ∙ e.own;
        also = takes.own ∙ e.also;
        apart = e.apart;
        place = here;
        acked = ap (λ (d : Endpoint TallyRecord ChangeRecord TallyRecord). d.acked) rest ∙ e.acked;
        last = ap (λ (o : Sending TallyRecord ChangeRecord). o.last) out ∙ e.last;
        stands = subst (λ (o : Sending TallyRecord ChangeRecord). StandsFor empty_tally patched_names o (empty_tally ∷ hs p q)) (sym out) e.stands;
        entry = takes.stands full (empty_tally ∷ h) e.entry leads there;
      });
    }

-- and is never refused
got_below : {A : Type 0} (xs : List A) (i : ℕ) → i < length xs → (x : A) × (slice_get xs i ≡ Some x)
got_below [] i lt = absurd (omega (arith, lt))
got_below (x ∷ xs) zero lt = (x, refl)
got_below (x ∷ xs) (suc i) lt = got_below xs i (omega (arith, lt))

refuses_nothing : (r : Result TallyRecord LedgerFault) (names : TallyRecord) (fault : LedgerFault) → r ≡ Ok names → IsRefusal r fault → (fault ≡ WantOfMemory → ⊥) → ⊥
refuses_nothing r names (Below key kept change) made refusal real = let e : Ok names ≡ Err (Below key kept change) = sym made ∙ refusal in cc
refuses_nothing r names (TooGreat key) made refusal real = let e : Ok names ≡ Err (TooGreat key) = sym made ∙ refusal in cc
refuses_nothing r names WantOfMemory made refusal real = real refl

pub change_made : (old : Endpoint TallyRecord ChangeRecord TallyRecord) (p : Party) (q : Id) (l : Link) (hs : Party → Id → List TallyRecord) (from to : PartyHere) (n : ℕ) (change : ChangeRecord) (fault : LedgerFault)
    → let x = change_packet from to n in IsEnd old p q l hs → ChangeBrought hs x change → x.from.id ≡ q → x.to.id ≡ p.id → from.inc ≡ old.incoming.place.inc → n ≡ old.incoming.place.seq + 1
    → IsRefusal (patched_names old.incoming.received change) fault → (fault ≡ WantOfMemory → ⊥) → ⊥
change_made old p q l hs from to n change fault e brought at_q at_p known next refusal real =
    let x = change_packet from to n in
    let inc : from.inc ≡ l.known = known ∙ ap (λ (y : Place). y.inc) e.place in
    let history : hs x.from x.to.id ≡ hs (record { id = q; inc = l.known }) p.id = λ i. hs (record { id = at_q i; inc = inc i }) (at_p i) in
    let h = hs (record { id = q; inc = l.known }) p.id in
    let seq = old.incoming.place.seq in
    let before : n - 1 ≡ seq = omega (arith, next) in
    let b = subst (λ h. n ≤ length h) history brought.there in
    let there : seq + 1 < length (empty_tally ∷ h) = omega (arith, b, next) in
    let leads : IsChangeAt patched_names change seq (empty_tally ∷ h) = subst (λ k. IsChangeAt patched_names change k (empty_tally ∷ h)) before (subst (λ h. IsChangeAt patched_names change (n - 1) (empty_tally ∷ h)) history brought.leads) in
    let next_entry = got_below (empty_tally ∷ h) (seq + 1) there in
    refuses_nothing (patched_names old.incoming.received change) next_entry.0 fault (leads old.incoming.received next_entry.0 e.entry next_entry.1) refusal real

-- an acknowledgement
pub ack_end : (old new : Endpoint TallyRecord ChangeRecord TallyRecord) (p : Party) (q : Id) (l : Link) (hs : Party → Id → List TallyRecord) (from to : PartyHere) (place : Place)
    → ((own last : ℕ) (l : Link) (x : Packet) → (acknowledge own last l x).acked ≡ acked_after own last l.acked (place_of x))
    → IsEnd old p q l hs → new ≡ record { outgoing = old.outgoing; incoming = old.incoming; acked = acked_after old.outgoing.own old.outgoing.last old.acked place } → TakesAs new Acked p q l hs (note_packet from to (Ack place))
ack_end old new p q l hs from to place law e rest =
    let x = note_packet from to (Ack place) in
    let out : new.outgoing ≡ old.outgoing = ap (λ (d : Endpoint TallyRecord ChangeRecord TallyRecord). d.outgoing) rest in
    let into : new.incoming ≡ old.incoming = ap (λ (d : Endpoint TallyRecord ChangeRecord TallyRecord). d.incoming) rest in
    let m = acknowledge p.inc (length (hs p q)) l x in
    let same_place : place_at m ≡ place_at l = acked_place p.inc (length (hs p q)) l x in
    record {
      word = refl;
      ends = record {
        own = ap (λ (o : Sending TallyRecord ChangeRecord). o.own) out ∙ e.own;
        also = ap (λ (r : Receiving TallyRecord). r.own) into ∙ e.also;
        apart = e.apart;
        place = ap (λ (r : Receiving TallyRecord). r.place) into ∙ e.place ∙ sym same_place;
        acked = ap (λ (d : Endpoint TallyRecord ChangeRecord TallyRecord). d.acked) rest ∙ (λ i. acked_after (e.own i) (e.last i) (e.acked i) place) ∙ sym (law p.inc (length (hs p q)) l x);
        last = ap (λ (o : Sending TallyRecord ChangeRecord). o.last) out ∙ e.last;
        stands = subst (λ (o : Sending TallyRecord ChangeRecord). StandsFor empty_tally patched_names o (empty_tally ∷ hs p q)) (sym out) e.stands;
        entry = subst (λ (r : Receiving TallyRecord). HasEntry r (empty_tally ∷ hs (record { id = q; inc = m.known }) p.id)) (sym into)
            (subst (λ (y : Place). HasEntry old.incoming (empty_tally ∷ hs (record { id = q; inc = y.inc }) p.id)) (sym same_place) e.entry);
      };
    }
  where
    acked_place : (own top : ℕ) (l : Link) (x : Packet) → place_at (acknowledge own top l x) ≡ place_at l
    acked_place own top l x = elim (nat_eq x.inc own && (nat_lt l.acked x.seq && not (nat_lt top x.seq))) as (λ b. place_at (cond b (record { known = l.known; seq = l.seq; acked = x.seq }) l) ≡ place_at l) [ true ↦ refl | false ↦ refl ]

-- Meeting the sender, and then hearing it
pub record Met (mid : Endpoint TallyRecord ChangeRecord TallyRecord) (fresh : Bool) (p : Party) (q : Id) (l : Link) (hs : Party → Id → List TallyRecord) (from : ℕ) : Type 0 where
  pub is : fresh ≡ nat_lt l.known from
  pub ends : IsEnd mid p q (met l from) hs

pub met_end : (old mid : Endpoint TallyRecord ChangeRecord TallyRecord) (fresh : Bool) (p : Party) (q : Id) (l : Link) (hs : Party → Id → List TallyRecord) (from : ℕ) → IsEnd old p q l hs → Meets empty_tally from old.incoming fresh mid.incoming
    → mid ≡ record { outgoing = old.outgoing; incoming = mid.incoming; acked = cond fresh 0 old.acked } → Met mid fresh p q l hs from
met_end old mid true p q l hs from e meets rest =
    let lt : l.known < from = subst (λ (y : Place). y.inc < from) e.place (meets.fresh.0 refl) in
    let is : nat_lt l.known from ≡ true = grind (arith, nat_tests, lt) in
    let out : mid.outgoing ≡ old.outgoing = ap (λ (d : Endpoint TallyRecord ChangeRecord TallyRecord). d.outgoing) rest in
    record {
      is = sym is;
      ends = subst (λ b. IsEnd mid p q (cond b (record { known = from; seq = 0; acked = 0 }) l) hs) (sym is) (record {
        own = ap (λ (o : Sending TallyRecord ChangeRecord). o.own) out ∙ e.own;
        also = ap (λ (r : Receiving TallyRecord). r.own) meets.after ∙ e.also;
        apart = e.apart;
        place = ap (λ (r : Receiving TallyRecord). r.place) meets.after;
        acked = ap (λ (d : Endpoint TallyRecord ChangeRecord TallyRecord). d.acked) rest;
        last = ap (λ (o : Sending TallyRecord ChangeRecord). o.last) out ∙ e.last;
        stands = subst (λ (o : Sending TallyRecord ChangeRecord). StandsFor empty_tally patched_names o (empty_tally ∷ hs p q)) (sym out) e.stands;
        entry = meets.stands refl (empty_tally ∷ hs (record { id = q; inc = from }) p.id) refl;
      });
    }
met_end old mid false p q l hs from e meets rest =
    let same : mid ≡ old = rest ∙ (λ i. record { outgoing = old.outgoing; incoming = meets.after i; acked = old.acked }) in
    elim (nat_lt l.known from) as (λ b. nat_lt l.known from ≡ b → Met mid false p q l hs from) [
      | true ↦ λ t. let lt : l.known < from = grind (arith, nat_tests, t) in let late : old.incoming.place.inc < from = subst (λ (y : Place). y.inc < from) (sym e.place) lt in let bad : false ≡ true = meets.fresh.1 late in cc
      | false ↦ λ t. record { is = sym t; ends = subst (λ b. IsEnd mid p q (cond b (record { known = from; seq = 0; acked = 0 }) l) hs) (sym t) (subst (λ d. IsEnd d p q l hs) (sym same) e) }
    ] refl

pub heard_end : (new : Endpoint TallyRecord ChangeRecord TallyRecord) (heard : Heard) (p : Party) (q : Id) (l : Link) (hs : Party → Id → List TallyRecord) (x : Packet) → l.known ≤ x.from.inc → heard.fresh ≡ nat_lt l.known x.from.inc → TakesAs new heard.what p q (met l x.from.inc) hs x → HearsAs new heard p q l hs x
heard_end new heard p q l hs x le fresh t =
    let late : nat_lt x.from.inc l.known ≡ false = grind (arith, nat_tests, le) in
    let is : hear_running p.inc (length (hs p q)) l x ≡ record { fresh = nat_lt l.known x.from.inc; what = word_of x.kind p.inc (met l x.from.inc) x; link = link_after (word_of x.kind p.inc (met l x.from.inc) x) p.inc (length (hs p q)) (met l x.from.inc) x } =
    ap (λ b. elim b as (λ _. HeardThere) [ true ↦ unmoved Stale l | false ↦ record { fresh = nat_lt l.known x.from.inc; what = word_of x.kind p.inc (met l x.from.inc) x; link = link_after (word_of x.kind p.inc (met l x.from.inc) x) p.inc (length (hs p q)) (met l x.from.inc) x } ]) late in
    record { fresh = fresh ∙ sym (ap (λ (h : HeardThere). h.fresh) is); what = t.word ∙ sym (ap (λ (h : HeardThere). h.what) is); ends = subst (λ (h : HeardThere). IsEnd new p q h.link hs) (sym is) t.ends }

pub stale_end : (d : Endpoint TallyRecord ChangeRecord TallyRecord) (p : Party) (q : Id) (l : Link) (hs : Party → Id → List TallyRecord) (x : Packet) → IsEnd d p q l hs → x.from.inc < d.incoming.place.inc → HearsAs d (record { fresh = false; what = Stale }) p q l hs x
stale_end d p q l hs x e lt =
    let before : x.from.inc < l.known = subst (λ (y : Place). x.from.inc < y.inc) e.place lt in
    let late : nat_lt x.from.inc l.known ≡ true = grind (arith, nat_tests, before) in
    let is : hear_running p.inc (length (hs p q)) l x ≡ unmoved Stale l = ap (λ b. elim b as (λ _. HeardThere) [ true ↦ unmoved Stale l | false ↦ record { fresh = nat_lt l.known x.from.inc; what = word_of x.kind p.inc (met l x.from.inc) x; link = link_after (word_of x.kind p.inc (met l x.from.inc) x) p.inc (length (hs p q)) (met l x.from.inc) x } ]) late in
    record { fresh = sym (ap (λ (h : HeardThere). h.fresh) is); what = sym (ap (λ (h : HeardThere). h.what) is); ends = subst (λ (h : HeardThere). IsEnd d p q h.link hs) (sym is) e }

-- The last entry is the present ledger
entry_is : (h : List TallyRecord) (n : ℕ) (v : TallyRecord) → slice_get (empty_tally ∷ h) n ≡ Some v → at_index empty_tally h n ≡ v
entry_is h zero v e = cc
entry_is h (suc n) v e = ap (λ o. unwrap_or o empty_tally) e

pub present_is : (d : Endpoint TallyRecord ChangeRecord TallyRecord) (p : Party) (q : Id) (l : Link) (hs : Party → Id → List TallyRecord) → IsEnd d p q l hs → present (hs p q) ≡ d.outgoing.present
present_is d p q l hs e = entry_is (hs p q) (length (hs p q)) d.outgoing.present (subst (λ n. slice_get (empty_tally ∷ hs p q) n ≡ Some d.outgoing.present) e.last e.stands.at_last)

-- An end stands for other histories too that have the same towards each other
pub kept_end : (d : Endpoint TallyRecord ChangeRecord TallyRecord) (p : Party) (q : Id) (l : Link) (hs hs' : Party → Id → List TallyRecord) → IsEnd d p q l hs → hs' p q ≡ hs p q → hs' (record { id = q; inc = l.known }) p.id ≡ hs (record { id = q; inc = l.known }) p.id → IsEnd d p q l hs'
kept_end d p q l hs hs' e own theirs = record {
  own = e.own;
  also = e.also;
  apart = e.apart;
  place = e.place;
  acked = e.acked;
  last = e.last ∙ ap length (sym own);
  stands = subst (λ h. StandsFor empty_tally patched_names d.outgoing (empty_tally ∷ h)) (sym own) e.stands;
  entry = subst (λ h. HasEntry d.incoming (empty_tally ∷ h)) (sym theirs) e.entry;
}

-- nothing is set
pub sets_nothing : (d : Endpoint TallyRecord ChangeRecord TallyRecord) (names : TallyRecord) → d.outgoing.present ≡ names → Sets names d d
sets_nothing d names same = record {
  present = same;
  ends = λ p q l hs hs' e own theirs.
      let found = found_same (present (hs p q)).entries names.entries (ap (λ (t : TallyRecord). t.entries) (present_is d p q l hs e ∙ same)) in
      kept_end d p q l hs hs' e (own ∙ ap (λ b. elim b as (λ _. List TallyRecord) [ true ↦ hs p q | false ↦ hs p q ++ names ∷ [] ]) found) theirs;
  last = omega arith;
  incoming = refl;
}

-- a change is appended
pub sets_names : (old new : Endpoint TallyRecord ChangeRecord TallyRecord) (names : TallyRecord) (change : ChangeRecord) → patched_names old.outgoing.present change ≡ Ok names → IsPosted empty_tally patched_names change old.outgoing new.outgoing
    → new ≡ record { outgoing = new.outgoing; incoming = old.incoming; acked = old.acked } → (old.outgoing.present.entries ≡ names.entries → ⊥) → Sets names old new
sets_names old new names change makes posted rest differ =
    let both : Ok new.outgoing.present ≡ Ok names = sym posted.made ∙ makes in
    let is : new.outgoing.present ≡ names = cc in
    let next = posted.next in
    let into : new.incoming ≡ old.incoming = ap (λ (d : Endpoint TallyRecord ChangeRecord TallyRecord). d.incoming) rest in
    record {
      present = is;
      ends = λ p q l hs hs' e own theirs.
          let found = found_other (present (hs p q)).entries names.entries (λ s. differ (ap (λ (t : TallyRecord). t.entries) (sym (present_is old p q l hs e)) ∙ s)) in
          let appended : hs' p q ≡ hs p q ++ new.outgoing.present ∷ [] = own ∙ ap (λ b. elim b as (λ _. List TallyRecord) [ true ↦ hs p q | false ↦ hs p q ++ names ∷ [] ]) found ∙ ap (λ t. hs p q ++ t ∷ []) (sym is) in
          let long = ap length appended ∙ length-append (hs p q) (new.outgoing.present ∷ []) in
          let last = e.last in
          record {
            own = posted.own ∙ e.own;
            also = ap (λ (r : Receiving TallyRecord). r.own) into ∙ e.also;
            apart = e.apart;
            place = ap (λ (r : Receiving TallyRecord). r.place) into ∙ e.place;
            acked = ap (λ (d : Endpoint TallyRecord ChangeRecord TallyRecord). d.acked) rest ∙ e.acked;
            last = omega (arith, next, long, last);
            stands = subst (λ h. StandsFor empty_tally patched_names new.outgoing (empty_tally ∷ h)) (sym appended) (posted.stands (empty_tally ∷ hs p q) e.stands);
            entry = subst (λ (r : Receiving TallyRecord). HasEntry r (empty_tally ∷ hs' (record { id = q; inc = l.known }) p.id)) (sym into) (subst (λ h. HasEntry old.incoming (empty_tally ∷ h)) (sym theirs) e.entry);
          };
      last = omega (arith, next);
      incoming = into;
    }

-- whose packet it is
pub packet_from : (x : Parcel) → (packet_of x).from.inc ≡ x.from.inc
packet_from x = by x.note
  where
    by : (n : Note TallyRecord ChangeRecord) → (note_packet x.from x.to n).from.inc ≡ x.from.inc
    by (Full n names) = refl
    by (Delta n change) = refl
    by (Ack place) = refl
