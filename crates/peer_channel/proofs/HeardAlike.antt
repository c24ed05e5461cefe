-- Each answer to a packet of the peer is the one of the side that is stood for. For any two kinds of ledger.
use Rattle.std.proofs.Common.{◌≡◌, ℕ, ◌<◌, Bool, true, false, cond, not, nat_eq, nat_lt, length, Option, Some, None, Result, Ok, Err, refl, sym, ◌∙◌, ap, subst, arith}
use Rattle.std.specs.Prelude.{◌&&◌, if◌then◌else◌, IsTrue, IfOk}
use Rattle.std.proofs.lemmas.Bool.Decides.{nat_tests}
use Rattle.fuxi_terms.specs.declared.OutOfMemory.{OutOfMemory}
use Rattle.fuxi_terms.specs.declared.answers.LedgerFault.{LedgerFault}
use Rattle.fuxi_terms.specs.declared.answers.LedgerFault.TheVariants.{Below, TooGreat, OutOfMemory as WantOfMemory}
use Rattle.fuxi_terms.specs.declared.answers.What.{What}
use Rattle.fuxi_terms.specs.declared.answers.What.TheVariants.{Stranger, Stale, Ack as Acked, NotMine, Old, Gap, Taken, Ledger as SaysLedger, Exceeds as SaysExceeds}
use Rattle.fuxi_terms.specs.declared.vectors.Res.{Res}
use Rattle.fuxi_terms.specs.declared.vectors.Sum.{Sum}
use Rattle.fuxi_terms.proofs.Booleans.{nat_itself, and_true, both_true, number_is}
use Rattle.ledger_law.specs.Applying.{IsRefusal}
use Rattle.delta_channel.specs.Calls.{Meets}
use Rattle.delta_channel.specs.Hearing.{Receiving, verdict_of}
use Rattle.delta_channel.specs.declared.receiver.Place.{Place}
use Rattle.delta_channel.specs.declared.receiver.Verdict.{Verdict}
use Rattle.delta_channel.specs.declared.receiver.Verdict.TheVariants.{Take, Old as IsOld, Gap as IsGap, NotMine as IsNotMine, Stale as IsStale}
use Rattle.full_sync.specs.Turns.{Endpoint, acked_after}
use Rattle.channel_refinement.specs.Alike.{place_at, place_of, stamp_of, told_as}
use Rattle.party_ledgers.specs.Packets.{is_number_of, is_bare, is_place_of, IsFormed}
use Rattle.party_ledgers.specs.declared.packets.Heard.{Heard}
use Rattle.party_ledgers.specs.declared.packets.Body.{Body as BodyHere}
use Rattle.party_ledgers.specs.declared.packets.Kind.{Kind as KindHere}
use Rattle.schedule_unit.specs.declared.party.Role.{Role}
use Rattle.fuxi_terms.specs.Counts.{then_do}
use Rattle.party_ledgers.specs.declared.packets.Kind.TheVariants.{Ack as AckHere, Delta as DeltaHere, Full as FullHere, End}
use Rattle.party_ledgers.specs.declared.packets.Packet.{Packet as PacketHere}
use Rattle.spec_net.specs.Net.{Party, Id, Link, Packet, Kind, Ack, Delta, Full, Heard as HeardThere, same_id, met, acknowledge, place_moved, unmoved, hear, is_taken, word_of, link_after}
use Rattle.spec_net.specs.Ledgers.{Ledger, nothing}
use Rattle.spec_net.specs.Sides.{Side, Parcel, HeardSide, heard_with, hears_side, taken_as, tested, patched_by, Taking, Took, TooMuch, Refused, unless_excess}
use Rattle.peer_channel.specs.Parcels.{id_of, party_of, kind_of, content_of, packet_of, parcel_is}
use Rattle.peer_channel.specs.CoreSides.{IsSide, SaysWord, Hears, HearsAlike}
use Rattle.peer_channel.specs.Telling.{Tells, TellsWhy}
use Rattle.peer_channel.specs.Testing.{WeighsChange, Takes}
use Rattle.peer_channel.specs.declared.limit.Refusal.{Refusal}
use Rattle.peer_channel.specs.declared.limit.Refusal.TheVariants.{Ledger as RefusesLedger, Exceeds as RefusesMuch}
use Rattle.peer_channel.proofs.CoreSidesLemmas.{kept_side}

same_id_itself : (d : Id) → same_id d d ≡ true
same_id_itself d = and_true (nat_eq d.role d.role) (nat_eq d.number d.number) (nat_itself d.role) (nat_itself d.number)

for_me : (p : Party) (x : Packet) → x.to.id ≡ p.id → not (same_id x.to.id p.id && true) ≡ false
for_me p x to = ap (λ d. not (same_id d p.id && true)) to ∙ ap (λ b. not (b && true)) (same_id_itself p.id)

-- the word of a verdict that is not to take
pub not_taken_word : (v : Verdict) → (v ≡ Take → ⊥) → is_taken (told_as v) ≡ false
not_taken_word Take other = absurd (other refl)
not_taken_word IsOld other = refl
not_taken_word IsGap other = refl
not_taken_word IsNotMine other = refl
not_taken_word IsStale other = refl

-- a Full and a Delta name their sender's incarnation
pub own_place : (x : PacketHere) → is_bare x.kind ≡ false → IsFormed x → x.place.inc ≡ x.from.inc
own_place x bare formed = by x.kind bare formed.place
  where
    by : (k : KindHere) → is_bare k ≡ false → IsTrue (is_place_of k x.from.inc x.place) → x.place.inc ≡ x.from.inc
    by AckHere bare h = cc
    by DeltaHere bare h = number_is x.place.inc x.from.inc (both_true (nat_eq x.place.inc x.from.inc) (nat_lt 1 x.place.seq) h).0
    by FullHere bare h = number_is x.place.inc x.from.inc (both_true (nat_eq x.place.inc x.from.inc) (nat_lt 0 x.place.seq) h).0
    by End bare h = cc

-- Hearing where the sender is the known incarnation
pub known_heard : (p : Party) (excess : Ledger → Option (Sum × Res)) (e : Side) (x : Parcel) → x.packet.from.inc ≡ e.link.known → x.packet.to.id ≡ p.id
    → hears_side p true excess e x ≡ (let w = word_of x.packet.kind p.inc e.link x.packet in heard_with (record { fresh = false; what = w; link = link_after w p.inc (length e.sent) e.link x.packet }) e x excess)
known_heard p excess e x known to =
    let y = x.packet in
    let l = e.link in
    let mine = for_me p y to in
    let late : nat_lt y.from.inc l.known ≡ false = grind (arith, nat_tests, known) in
    let old : nat_lt l.known y.from.inc ≡ false = grind (arith, nat_tests, known) in
    let h : hear p true (length e.sent) l y ≡ record { fresh = false; what = word_of y.kind p.inc l y; link = link_after (word_of y.kind p.inc l y) p.inc (length e.sent) l y } =
    λ i. cond (mine i) (unmoved Stranger l) (cond (late i) (unmoved Stale l) (record {
      fresh = old i;
      what = word_of y.kind p.inc (cond (old i) (record { known = y.from.inc; seq = 0; acked = 0 }) l) y;
      link = link_after (word_of y.kind p.inc (cond (old i) (record { known = y.from.inc; seq = 0; acked = 0 }) l) y) p.inc (length e.sent) (cond (old i) (record { known = y.from.inc; seq = 0; acked = 0 }) l) y;
    })) in
    ap (λ (k : HeardThere). heard_with k e x excess) h

-- Hearing where the sender is a new incarnation: as after meeting it
abbrev pub met_of : Side → ℕ → Side
met_of e inc = record { link = record { known = inc; seq = 0; acked = 0 }; got = nothing; sent = e.sent }

abbrev pub as_fresh : HeardSide → HeardSide
as_fresh a = record { fresh = true; what = a.what; side = a.side }

pub fresh_heard : (p : Party) (excess : Ledger → Option (Sum × Res)) (e : Side) (x : Parcel) → e.link.known < x.packet.from.inc → x.packet.to.id ≡ p.id
    → hears_side p true excess e x ≡ as_fresh (hears_side p true excess (met_of e x.packet.from.inc) x)
fresh_heard p excess e x later to =
    let y = x.packet in
    let l = e.link in
    let m : Link = record { known = y.from.inc; seq = 0; acked = 0 } in
    let w = word_of y.kind p.inc m y in
    let mine = for_me p y to in
    let late : nat_lt y.from.inc l.known ≡ false = grind (arith, nat_tests, later) in
    let new : nat_lt l.known y.from.inc ≡ true = grind (arith, nat_tests, later) in
    let h : hear p true (length e.sent) l y ≡ record { fresh = true; what = w; link = link_after w p.inc (length e.sent) m y } =
    λ i. cond (mine i) (unmoved Stranger l) (cond (late i) (unmoved Stale l) (record {
      fresh = new i;
      what = word_of y.kind p.inc (cond (new i) m l) y;
      link = link_after (word_of y.kind p.inc (cond (new i) m l) y) p.inc (length e.sent) (cond (new i) m l) y;
    })) in
    let same : nat_lt y.from.inc y.from.inc ≡ false = grind (arith, nat_tests) in
    ap (λ (k : HeardThere). heard_with k e x excess) h
    ∙ by_word w (link_after w p.inc (length e.sent) m y) (ap (λ b. cond b m l) new) (ap (λ b. cond b m m) same)
    ∙ ap as_fresh (sym (known_heard p excess (met_of e y.from.inc) x refl to))
  where
    meets : Link
    meets = record { known = x.packet.from.inc; seq = 0; acked = 0 }

    taken : (k : Link) → met e.link x.packet.from.inc ≡ record { known = x.packet.from.inc; seq = 0; acked = 0 } → met (record { known = x.packet.from.inc; seq = 0; acked = 0 }) x.packet.from.inc ≡ record { known = x.packet.from.inc; seq = 0; acked = 0 } → (t : Taking)
        → taken_as (record { fresh = true; what = Taken; link = k }) e x.packet t ≡ as_fresh (taken_as (record { fresh = false; what = Taken; link = k }) (met_of e x.packet.from.inc) x.packet t)
    taken k a b (Took l) = refl
    taken k a b (Refused fault) = ap (λ (l : Link). as_fresh (record { fresh = false; what = SaysLedger fault; side = record { link = l; got = nothing; sent = e.sent } })) (a ∙ sym b)
    taken k a b (TooMuch total has) = ap (λ (l : Link). as_fresh (record { fresh = false; what = SaysExceeds total has; side = record { link = l; got = nothing; sent = e.sent } })) (a ∙ sym b)

    by_word : (w : What) (k : Link) → met e.link x.packet.from.inc ≡ record { known = x.packet.from.inc; seq = 0; acked = 0 } → met (record { known = x.packet.from.inc; seq = 0; acked = 0 }) x.packet.from.inc ≡ record { known = x.packet.from.inc; seq = 0; acked = 0 }
        → heard_with (record { fresh = true; what = w; link = k }) e x excess ≡ as_fresh (heard_with (record { fresh = false; what = w; link = k }) (met_of e x.packet.from.inc) x excess)
    by_word Stranger k a b = refl
    by_word Stale k a b = refl
    by_word Acked k a b = refl
    by_word NotMine k a b = refl
    by_word Old k a b = refl
    by_word Gap k a b = refl
    by_word Taken k a b = taken k a b (tested excess (patched_by x.packet.from.id nothing x.body))
    by_word (SaysLedger fault) k a b = refl
    by_word (SaysExceeds total has) k a b = refl

-- one of an earlier incarnation
pub stale_heard : (p : Party) (excess : Ledger → Option (Sum × Res)) (e : Side) (x : Parcel) → x.packet.to.id ≡ p.id → x.packet.from.inc < e.link.known → hears_side p true excess e x ≡ record { fresh = false; what = Stale; side = e }
stale_heard p excess e x to before =
    let mine = for_me p x.packet to in
    let late : nat_lt x.packet.from.inc e.link.known ≡ true = grind (arith, nat_tests, before) in
    ap (λ (k : HeardThere). heard_with k e x excess) (λ i. cond (mine i) (unmoved Stranger e.link) (cond (late i) (unmoved Stale e.link) (record {
      fresh = nat_lt e.link.known x.packet.from.inc;
      what = word_of x.packet.kind p.inc (met e.link x.packet.from.inc) x.packet;
      link = link_after (word_of x.packet.kind p.inc (met e.link x.packet.from.inc) x.packet) p.inc (length e.sent) (met e.link x.packet.from.inc) x.packet;
    })))

-- a change in a body makes of what was received what it makes in the program
pub change_makes : (from : Role) (x : PacketHere) (body : BodyHere) (g : Ledger) (made : Result Ledger LedgerFault) → x.from.role ≡ from → IsFormed x → x.body ≡ body
    → ((m : ℕ) → IsTrue (is_number_of from m) → patched_by (id_of from m) g (content_of body) ≡ made) → patched_by (party_of x.from).id g (content_of x.body) ≡ made
change_makes from x body g made role formed is law =
    let parts = (both_true _ (is_number_of x.to.role x.to.number) (both_true _ (nat_lt 0 x.from.inc) formed.parties).0).0 in
    let number : IsTrue (is_number_of x.from.role x.from.number) = (both_true _ (is_number_of x.from.role x.from.number) parts).1 in
    ap (λ b. patched_by (party_of x.from).id g (content_of b)) is ∙ subst (λ r. IsTrue (is_number_of r x.from.number) → patched_by (id_of r x.from.number) g (content_of body) ≡ made) (sym role) (λ n. law x.from.number n) number

-- a sender that was met is the known one
pub met_known : {W : Type 0} (none : W) (from : ℕ) (old mid : Receiving W) (fresh : Bool) → Meets none from old fresh mid → nat_lt from old.place.inc ≡ false → from ≡ mid.place.inc
met_known none from old mid true meets late = sym (ap (λ r. r.place.inc) meets.after)
met_known none from old mid false meets late = by (nat_lt old.place.inc from) refl ∙ sym (ap (λ r. r.place.inc) meets.after)
  where
    not_true : false ≡ true → ⊥
    not_true e = cc

    by : (b : Bool) → nat_lt old.place.inc from ≡ b → from ≡ old.place.inc
    by true is = absurd (not_true (meets.fresh.1 (grind (arith, nat_tests, is))))
    by false is = grind (arith, nat_tests, is, late)

module _ {V D W : Type 0} (first : V) (patched : V → D → Result V LedgerFault) (valid : V → Type 0) (out : V → Ledger) (inward : W → Ledger) where
  -- what is heard is this, and the new ends stand for its side
  heard_is : (new : Endpoint V D W) (fresh : Bool) (word : What) (inc : ℕ) (h k : HeardSide) → h ≡ k → IsSide first patched valid out inward new inc k.side → fresh ≡ k.fresh → word ≡ k.what
      → Hears first patched valid out inward new (record { fresh = fresh; what = word }) inc h
  heard_is new fresh word inc h k is side f w = subst (Hears first patched valid out inward new (record { fresh = fresh; what = word }) inc) (sym is) (record { side = side; fresh = f; says = w })

  module _ (old : Endpoint V D W) (excess : Ledger → Option (Sum × Res)) (x : PacketHere) where
    -- an earlier incarnation
    pub stale_alike : x.from.inc < old.incoming.place.inc → HearsAlike first patched valid out inward excess x old old (record { fresh = false; what = Stale })
    stale_alike before p e s to =
        let known : x.from.inc < e.link.known = subst (λ n. x.from.inc < n) (ap (λ (y : Place). y.inc) s.place) before in
        heard_is old false Stale p.inc _ _ (stale_heard p excess e (parcel_is x) to known) s refl refl

    -- a greater incarnation is met, and then the packet is heard as one of the known incarnation
    pub fresh_alike : (mid new : Endpoint V D W) (none : W) (heard : Heard) → old.incoming.place.inc < x.from.inc → mid ≡ record { outgoing = old.outgoing; incoming = record { own = old.incoming.own; place = record { inc = x.from.inc; seq = 0 }; received = none }; acked = 0 } → inward none ≡ nothing
        → HearsAlike first patched valid out inward excess x mid new (record { fresh = false; what = heard.what }) → heard.fresh ≡ true → HearsAlike first patched valid out inward excess x old new heard
    fresh_alike mid new none heard later met nothing_is hears fresh p e s to =
        let known : e.link.known < x.from.inc = subst (λ n. n < x.from.inc) (ap (λ (y : Place). y.inc) s.place) later in
        let side = kept_side first patched valid out inward old mid p.inc e (record { known = x.from.inc; seq = 0; acked = 0 }) nothing (ap (λ d. d.outgoing) met) (ap (λ d. d.incoming.place) met) (ap (λ d. d.acked) met)
        (sym (ap (λ d. inward d.incoming.received) met ∙ nothing_is)) s in
        let h = hears p (met_of e x.from.inc) side to in
        heard_is new heard.fresh heard.what p.inc _ _ (fresh_heard p excess e (parcel_is x) known to) h.side fresh h.says

    -- so it is after meeting the sender, whether it is new or not
    pub met_alike : (mid new : Endpoint V D W) (none : W) (fresh : Bool) (word : What) → Meets none x.from.inc old.incoming fresh mid.incoming
        → mid ≡ record { outgoing = old.outgoing; incoming = mid.incoming; acked = if fresh then 0 else old.acked } → inward none ≡ nothing
        → HearsAlike first patched valid out inward excess x mid new (record { fresh = false; what = word }) → HearsAlike first patched valid out inward excess x old new (record { fresh = fresh; what = word })
    met_alike mid new none true word meets rest nothing_is hears = fresh_alike mid new none (record { fresh = true; what = word }) (meets.fresh.0 refl)
        (rest ∙ (λ i. record { outgoing = old.outgoing; incoming = meets.after i; acked = 0 })) nothing_is hears refl
    met_alike mid new none false word meets rest nothing_is hears =
        subst (λ d. HearsAlike first patched valid out inward excess x d new (record { fresh = false; what = word })) (rest ∙ (λ i. record { outgoing = old.outgoing; incoming = meets.after i; acked = old.acked })) hears

    module _ (from : x.from.inc ≡ old.incoming.place.inc) where
      abbrev SaysAlike : Endpoint V D W → What → Type 0
      SaysAlike new word = HearsAlike first patched valid out inward excess x old new (record { fresh = false; what = word })

      known : (p : Party) (e : Side) → IsSide first patched valid out inward old p.inc e → x.from.inc ≡ e.link.known
      known p e s = from ∙ ap (λ (y : Place). y.inc) s.place

      -- by the word of the rules
      by_word : (w : What) (p : Party) (e : Side) → IsSide first patched valid out inward old p.inc e → (packet_of x).to.id ≡ p.id → word_of (kind_of x.kind) p.inc e.link (packet_of x) ≡ w
          → hears_side p true excess e (parcel_is x) ≡ heard_with (record { fresh = false; what = w; link = link_after w p.inc (length e.sent) e.link (packet_of x) }) e (parcel_is x) excess
      by_word w p e s to is = known_heard p excess e (parcel_is x) (known p e s) to
          ∙ ap (λ (w : What). heard_with (record { fresh = false; what = w; link = link_after w p.inc (length e.sent) e.link (packet_of x) }) e (parcel_is x) excess) is

      -- an acknowledgement
      pub ack_alike : (new : Endpoint V D W) → kind_of x.kind ≡ Ack → new ≡ record { outgoing = old.outgoing; incoming = old.incoming; acked = acked_after old.outgoing.own old.outgoing.last old.acked x.place }
          → ((own last : ℕ) (l : Link) (y : Packet) → (acknowledge own last l y).acked ≡ acked_after own last l.acked (place_of y)) → SaysAlike new Acked
      ack_alike new kind is acks p e s to =
          let y = packet_of x in
          let l = e.link in
          let acked : new.acked ≡ (acknowledge p.inc (length e.sent) l y).acked =
          ap (λ d. d.acked) is ∙ (λ i. acked_after (s.own i) (s.last i) (s.acked i) x.place) ∙ sym (acks p.inc (length e.sent) l y) in
          let place : new.incoming.place ≡ place_at (acknowledge p.inc (length e.sent) l y) = ap (λ d. d.incoming.place) is ∙ s.place ∙ stays l y.seq (nat_eq y.inc p.inc && (nat_lt l.acked y.seq && not (nat_lt (length e.sent) y.seq))) in
          heard_is new false Acked p.inc _ _ (by_word Acked p e s to (ap (λ k. word_of k p.inc l y) kind))
          (kept_side first patched valid out inward old new p.inc e (acknowledge p.inc (length e.sent) l y) e.got (ap (λ d. d.outgoing) is) place acked (s.got ∙ ap (λ d. inward d.incoming.received) (sym is)) s) refl refl
        where
          stays : (l : Link) (n : ℕ) (b : Bool) → place_at l ≡ place_at (cond b (record { known = l.known; seq = l.seq; acked = n }) l)
          stays l n true = refl
          stays l n false = refl

      abbrev Words : What → Type 0
      Words w = SaysWord first patched valid out inward x old w

      -- the word of a Full or a Delta, by the verdict on it
      pub verdict_word : (v : Verdict) → is_bare x.kind ≡ false → v ≡ verdict_of old.incoming.own old.incoming.place (stamp_of (packet_of x)) → old.incoming.own ≡ old.outgoing.own
          → ((own : ℕ) (l : Link) (y : Packet) → y.kind ≡ Full → told_as (verdict_of own (place_at l) (stamp_of y)) ≡ cond (nat_lt y.from.inc l.known) Stale (word_of Full own l y))
          → ((own : ℕ) (l : Link) (y : Packet) → y.kind ≡ Delta → told_as (verdict_of own (place_at l) (stamp_of y)) ≡ cond (nat_lt y.from.inc l.known) Stale (word_of Delta own l y))
          → Words (told_as v)
      verdict_word v bare is own full delta p e s = by x.kind refl bare
        where
          at : (k : Kind) → kind_of x.kind ≡ k → ((own : ℕ) (l : Link) (y : Packet) → y.kind ≡ k → told_as (verdict_of own (place_at l) (stamp_of y)) ≡ cond (nat_lt y.from.inc l.known) Stale (word_of k own l y))
              → word_of (kind_of x.kind) p.inc e.link (packet_of x) ≡ told_as v
          at k kind law =
              let late : nat_lt x.from.inc e.link.known ≡ false = let n = known p e s in grind (arith, nat_tests, n) in
              ap (λ k. word_of k p.inc e.link (packet_of x)) kind ∙ sym (law p.inc e.link (packet_of x) kind ∙ ap (λ b. cond b Stale (word_of k p.inc e.link (packet_of x))) late)
              ∙ ap told_as (sym (is ∙ (λ i. verdict_of ((own ∙ s.own) i) (s.place i) (stamp_of (packet_of x)))))

          by : (k : KindHere) → x.kind ≡ k → is_bare k ≡ false → word_of (kind_of x.kind) p.inc e.link (packet_of x) ≡ told_as v
          by AckHere kind bare = cc
          by DeltaHere kind bare = at Delta (ap kind_of kind) delta
          by FullHere kind bare = at Full (ap kind_of kind) full
          by End kind bare = cc

      -- what is not to be taken
      pub left_alike : (v : Verdict) → (v ≡ Take → ⊥) → Words (told_as v) → SaysAlike old (told_as v)
      left_alike v other words p e s to = by v other (words p e s)
        where
          by : (v : Verdict) → (v ≡ Take → ⊥) → word_of (kind_of x.kind) p.inc e.link (packet_of x) ≡ told_as v → Hears first patched valid out inward old (record { fresh = false; what = told_as v }) p.inc (hears_side p true excess e (parcel_is x))
          by Take other w = absurd (other refl)
          by IsOld other w = heard_is old false Old p.inc _ _ (by_word Old p e s to w) s refl refl
          by IsGap other w = heard_is old false Gap p.inc _ _ (by_word Gap p e s to w) s refl refl
          by IsNotMine other w = heard_is old false NotMine p.inc _ _ (by_word NotMine p e s to w) s refl refl
          by IsStale other w = heard_is old false Stale p.inc _ _ (by_word Stale p e s to w) s refl refl

      -- what is to be taken
      link_known : (p : Party) (e : Side) → IsSide first patched valid out inward old p.inc e → met e.link x.from.inc ≡ e.link
      link_known p e s = let late : nat_lt e.link.known x.from.inc ≡ false = let n = known p e s in grind (arith, nat_tests, n) in ap (λ c. cond c (record { known = x.from.inc; seq = 0; acked = 0 }) e.link) late

      by_taking : (made : Result Ledger LedgerFault) (t : Taking) (p : Party) (e : Side) → IsSide first patched valid out inward old p.inc e → (packet_of x).to.id ≡ p.id → word_of (kind_of x.kind) p.inc e.link (packet_of x) ≡ Taken
          → patched_by (party_of x.from).id (inward old.incoming.received) (content_of x.body) ≡ made → tested excess made ≡ t
          → hears_side p true excess e (parcel_is x) ≡ taken_as (record { fresh = false; what = Taken; link = place_moved e.link x.place.seq }) e (packet_of x) t
      by_taking made t p e s to w makes is = by_word Taken p e s to w
          ∙ ap (taken_as (record { fresh = false; what = Taken; link = place_moved e.link x.place.seq }) e (packet_of x)) (ap (tested excess) (ap (λ g. patched_by (party_of x.from).id g (content_of x.body)) s.got ∙ makes) ∙ is)

      pub took_alike : (new : Endpoint V D W) (v : W) → Words Taken → patched_by (party_of x.from).id (inward old.incoming.received) (content_of x.body) ≡ Ok (inward v) → excess (inward v) ≡ None → x.place.inc ≡ x.from.inc
          → new.outgoing ≡ old.outgoing → new.incoming.place ≡ x.place → new.incoming.received ≡ v → new.acked ≡ old.acked → SaysAlike new Taken
      took_alike new v words makes fits place_is sent place got acked p e s to =
          let at : new.incoming.place ≡ place_at (place_moved e.link x.place.seq) = place ∙ (λ i. record { inc = (place_is ∙ known p e s) i; seq = x.place.seq }) in
          heard_is new false Taken p.inc _ _ (by_taking (Ok (inward v)) (Took (inward v)) p e s to (words p e s) makes (ap (unless_excess (inward v)) fits))
          (kept_side first patched valid out inward old new p.inc e (place_moved e.link x.place.seq) (inward v) sent at (acked ∙ s.acked) (ap inward (sym got)) s) refl refl

      -- what changes nothing
      kept_alike : (made : Result Ledger LedgerFault) (t : Taking) (word : What) → Words Taken → patched_by (party_of x.from).id (inward old.incoming.received) (content_of x.body) ≡ made → tested excess made ≡ t
          → ((e : Side) → taken_as (record { fresh = false; what = Taken; link = place_moved e.link x.place.seq }) e (packet_of x) t ≡ record { fresh = false; what = word; side = record { link = met e.link x.from.inc; got = e.got; sent = e.sent } }) → SaysAlike old word
      kept_alike made t word words makes is as_ p e s to = heard_is old false word p.inc _ _ (by_taking made t p e s to (words p e s) makes is ∙ as_ e)
          (subst (λ l. IsSide first patched valid out inward old p.inc (record { link = l; got = e.got; sent = e.sent })) (sym (link_known p e s)) s) refl refl

      pub refused_alike : (fault : LedgerFault) → Words Taken → patched_by (party_of x.from).id (inward old.incoming.received) (content_of x.body) ≡ Err fault → SaysAlike old (SaysLedger fault)
      refused_alike fault words makes = kept_alike (Err fault) (Refused fault) (SaysLedger fault) words makes refl (λ e. refl)

      pub too_much_alike : (v : W) (total : Sum) (has : Res) → Words Taken → patched_by (party_of x.from).id (inward old.incoming.received) (content_of x.body) ≡ Ok (inward v) → excess (inward v) ≡ Some (total, has) → SaysAlike old (SaysExceeds total has)
      too_much_alike v total has words makes much = kept_alike (Ok (inward v)) (TooMuch total has) (SaysExceeds total has) words makes (ap (unless_excess (inward v)) much) (λ e. refl)

      -- a whole ledger that the packet holds is taken where it is not too much
      pub whole_alike : (put : W → BodyHere) → ((from : Id) (g : Ledger) (v : W) → patched_by from g (content_of (put v)) ≡ Ok (inward v)) → IsFormed x → x.kind ≡ FullHere → (v : W) → x.body ≡ put v → Words Taken
          → (new : Endpoint V D W) (word : What) → Takes (excess (inward v)) x.place v old new word → SaysAlike new word
      whole_alike put law formed kind v holds words new word takes = by (excess (inward v)) refl
        where
          makes : patched_by (party_of x.from).id (inward old.incoming.received) (content_of x.body) ≡ Ok (inward v)
          makes = ap (λ b. patched_by (party_of x.from).id (inward old.incoming.received) (content_of b)) holds ∙ law (party_of x.from).id (inward old.incoming.received) v

          place : x.place.inc ≡ x.from.inc
          place = own_place x (subst (λ k. is_bare k ≡ false) (sym kind) refl) formed

          by : (o : Option (Sum × Res)) → excess (inward v) ≡ o → SaysAlike new word
          by None is =
              let t = takes.taken is in
              subst (SaysAlike new) (sym t.0) (took_alike new v words makes is place (ap (λ d. d.outgoing) t.1) (ap (λ d. d.incoming.place) t.1) (ap (λ d. d.incoming.received) t.1) (ap (λ d. d.acked) t.1))
          by (Some e) is =
              let t = takes.left e.0 e.1 is in
              subst (λ w. SaysAlike new w) (sym t.0) (subst (λ d. SaysAlike d (SaysExceeds e.0 e.1)) (sym t.1) (too_much_alike v e.0 e.1 words makes is))

      -- where a refusal is told, it is what the side hears
      told_alike : (made : Result Ledger LedgerFault) (fault : LedgerFault) (r : Result What OutOfMemory) → Words Taken → patched_by (party_of x.from).id (inward old.incoming.received) (content_of x.body) ≡ made → IsRefusal made fault → Tells fault r → IfOk r (SaysAlike old)
      told_alike made fault (Err e) words makes refusal tells = tt
      told_alike made WantOfMemory (Ok word) words makes refusal tells = absurd tells
      told_alike made (Below key n c) (Ok word) words makes refusal tells = subst (SaysAlike old) (sym tells) (refused_alike (Below key n c) words (makes ∙ refusal))
      told_alike made (TooGreat key) (Ok word) words makes refusal tells = subst (SaysAlike old) (sym tells) (refused_alike (TooGreat key) words (makes ∙ refusal))

      -- a change that the packet holds: put is how it stands in a body, and making what it makes of a ledger
      module _ {C : Type 0} (making : W → C → Result W LedgerFault) (put : C → BodyHere) (role : Role) (law : (m : ℕ) (v : W) (c : C) → IsTrue (is_number_of role m) → patched_by (id_of role m) (inward v) (content_of (put c)) ≡ then_do (making v c) (λ w. Ok (inward w)))
          (formed : IsFormed x) (sender : x.from.role ≡ role) (change : C) (holds : x.body ≡ put change) (words : Words Taken) where
        abbrev outcome : Result W LedgerFault
        outcome = making old.incoming.received change

        makes : patched_by (party_of x.from).id (inward old.incoming.received) (content_of x.body) ≡ then_do outcome (λ w. Ok (inward w))
        makes = change_makes role x (put change) (inward old.incoming.received) (then_do outcome (λ w. Ok (inward w))) sender formed holds (λ m n. law m old.incoming.received change n)

        pub change_alike : (new : Endpoint V D W) → outcome ≡ Ok new.incoming.received → excess (inward new.incoming.received) ≡ None → x.kind ≡ DeltaHere → new.outgoing ≡ old.outgoing → new.incoming.place ≡ x.place → new.acked ≡ old.acked → SaysAlike new Taken
        change_alike new made fits kind sent place acked = took_alike new new.incoming.received words (makes ∙ ap (λ o. then_do o (λ w. Ok (inward w))) made) fits (own_place x (subst (λ k. is_bare k ≡ false) (sym kind) refl) formed) sent place refl acked

        refuses : (fault : LedgerFault) → IsRefusal outcome fault → IsRefusal (then_do outcome (λ w. Ok (inward w))) fault
        refuses WantOfMemory h = tt
        refuses (Below key n c) h = ap (λ o. then_do o (λ w. Ok (inward w))) h
        refuses (TooGreat key) h = ap (λ o. then_do o (λ w. Ok (inward w))) h

        pub not_made : (fault : LedgerFault) (r : Result What OutOfMemory) → IsRefusal outcome fault → TellsWhy (RefusesLedger fault) r → IfOk r (SaysAlike old)
        not_made fault r refusal tells = told_alike (then_do outcome (λ w. Ok (inward w))) fault r words makes (refuses fault refusal) tells

        is_refusal : (fault : LedgerFault) → outcome ≡ Err fault → IsRefusal outcome fault
        is_refusal WantOfMemory h = tt
        is_refusal (Below key n c) h = h
        is_refusal (TooGreat key) h = h

        pub not_taken : {M : Type 0} (measures : M → W → Type 0) (why : Refusal) (r : Result What OutOfMemory) → WeighsChange {M = M} measures (λ w. excess (inward w)) outcome (Err why) → TellsWhy why r → IfOk r (SaysAlike old)
        not_taken measures (RefusesLedger fault) r weighs tells = not_made fault r (is_refusal fault weighs) tells
        not_taken measures (RefusesMuch total has) (Ok word) weighs tells = subst (SaysAlike old) (sym tells) (too_much_alike weighs.ledger total has words (makes ∙ ap (λ o. then_do o (λ w. Ok (inward w))) weighs.made) weighs.much)
        not_taken measures (RefusesMuch total has) (Err e) weighs tells = tt
