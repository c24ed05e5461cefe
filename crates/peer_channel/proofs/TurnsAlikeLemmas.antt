-- The packets of a turn are those of the side's turn, and each is formed.
use Rattle.std.proofs.Common.{◌≡◌, ℕ, zero, suc, ◌+◌, ◌-◌, ◌<◌, ◌≤◌, Bool, true, false, cond, nat_eq, nat_lt, List, [], ◌∷◌, ◌++◌, length, map, min, drop, Some, Result, Ok, slice_get, refl, sym, ◌∙◌, ap, subst, arith}
use Rattle.std.specs.Prelude.{◌||◌, IsTrue}
use Rattle.std.specs.List.{AllByRecursion}
use Rattle.std.specs.Option.{unwrap_or}
use Rattle.std.proofs.lemmas.Bool.Decides.{nat_tests}
use Rattle.std.proofs.lemmas.List.{map-append}
use Rattle.fuxi_terms.specs.Limits.{kept_changes, turn_deltas}
use Rattle.fuxi_terms.specs.Lists.{numbers_from}
use Rattle.fuxi_terms.specs.declared.answers.LedgerFault.{LedgerFault}
use Rattle.fuxi_terms.proofs.Booleans.{and_true, both_true, nat_itself, both_false, or_left, or_right}
use Rattle.fuxi_terms.proofs.Lists.{all_at}
use Rattle.delta_channel.specs.Standing.{Sending, StandsFor}
use Rattle.delta_channel.specs.declared.receiver.Place.{Place}
use Rattle.full_sync.specs.Turns.{Endpoint, Mark, MarkFull, MarkDelta, MarkAck, mark_of, news, turn_of, Brings, IsNoteOf}
use Rattle.full_sync.specs.declared.duplex.Note.{Note}
use Rattle.full_sync.specs.declared.duplex.Note.TheVariants.{Delta, Full, Ack}
use Rattle.schedule_unit.specs.declared.party.Party.{Party as PartyHere}
use Rattle.schedule_unit.specs.declared.party.Role.{Role}
use Rattle.party_ledgers.specs.Packets.{IsFormed, IsBodyOf, are_parties, is_bare, is_full, is_delta, is_number_of, to_agent, to_app}
use Rattle.party_ledgers.specs.declared.packets.Body.{Body as BodyHere}
use Rattle.party_ledgers.specs.declared.packets.Body.TheVariants.{Nothing, Row, RowDelta, Join, Grants, GrantsDelta, Demand, DemandDelta}
use Rattle.party_ledgers.specs.declared.packets.Kind.{Kind as KindHere}
use Rattle.party_ledgers.specs.declared.packets.Kind.TheVariants.{Ack as AckHere, Delta as DeltaHere, Full as FullHere, End}
use Rattle.party_ledgers.specs.declared.packets.Packet.{Packet as PacketHere}
use Rattle.spec_net.specs.Net.{Party, Id, Packet, Kind, Ack as IsAck, Delta as IsDelta, Full as IsFull, at_index, notes}
use Rattle.spec_net.specs.Ledgers.{Ledger, nothing, Body, whole_body, change_body}
use Rattle.spec_net.specs.Channels.{is_agent, dropped_by, body_in}
use Rattle.spec_net.specs.Sides.{Side, Parcel, turn_parcels}
use Rattle.peer_channel.specs.Parcels.{id_of, content_of, parcel_is, IsSent}
use Rattle.peer_channel.specs.Sending.{HaveForms, packet_for, TurnsAlike}

-- the packet of a mark, with what it holds
abbrev pub parcel_at : Party → Id → Side → Kind → ℕ → ℕ → Parcel
parcel_at p q e k inc n = record { packet = record { from = p; to = record { id = q; inc = e.link.known }; kind = k; inc = inc; seq = n }; body = body_in p.id q e.sent k n }

abbrev pub parcel_mark : Party → Id → Side → Mark → Parcel
parcel_mark p q e (MarkFull n) = parcel_at p q e IsFull p.inc n
parcel_mark p q e (MarkDelta n) = parcel_at p q e IsDelta p.inc n
parcel_mark p q e (MarkAck place) = parcel_at p q e IsAck place.inc place.seq

map_twice : {A B C D : Type 0} (f : B → D) (g : A → B) (h : C → D) (k : A → C) → ((a : A) → f (g a) ≡ h (k a)) → (xs : List A) → map f (map g xs) ≡ map h (map k xs)
map_twice f g h k same [] = refl
map_twice f g h k same (x ∷ xs) = let r = map_twice f g h k same xs in λ i. same x i ∷ r i

pub marks_alike : (p : Party) (q : Id) (e : Side) → map (parcel_mark p q e) (turn_of (length e.sent) e.link.acked (record { inc = e.link.known; seq = e.link.seq })) ≡ turn_parcels p q e
marks_alike p q e =
    let top = length e.sent in
    let l = e.link in
    let to : Party = record { id = q; inc = l.known } in
    let f : Mark → Parcel = parcel_mark p q e in
    let g : Packet → Parcel = λ x. record { packet = x; body = body_in p.id q e.sent x.kind x.seq } in
    let ack : Packet = record { from = p; to = to; kind = IsAck; inc = l.known; seq = l.seq } in
    let lists = cases (nat_eq l.known 0) (nat_eq top 0) (nat_eq l.acked top) (nat_eq l.acked 0 || nat_lt kept_changes (top - l.acked)) in
    map-append f (news l.known top l.acked) (MarkAck (record { inc = l.known; seq = l.seq }) ∷ []) ∙ ap (λ ps. ps ++ g ack ∷ []) lists ∙ sym (map-append g (notes p to top l) (ack ∷ []))
  where
    cases : (a b c d : Bool) →
        map (parcel_mark p q e) (cond ((a || b) || c) [] (cond d (MarkFull (length e.sent) ∷ []) (map MarkDelta (numbers_from (e.link.acked + 1) (min turn_deltas (length e.sent - e.link.acked))))))
        ≡ map (λ (x : Packet). record { packet = x; body = body_in p.id q e.sent x.kind x.seq }) (cond (a || (b || c)) [] (cond d (record { from = p; to = record { id = q; inc = e.link.known }; kind = IsFull; inc = p.inc; seq = length e.sent } ∷ [])
        (map (λ n. record { from = p; to = record { id = q; inc = e.link.known }; kind = IsDelta; inc = p.inc; seq = n }) (numbers_from (e.link.acked + 1) (min turn_deltas (length e.sent - e.link.acked))))))
    cases true b c d = refl
    cases false true c d = refl
    cases false false true d = refl
    cases false false false true = refl
    cases false false false false = map_twice (parcel_mark p q e) MarkDelta (λ (x : Packet). record { packet = x; body = body_in p.id q e.sent x.kind x.seq }) (λ n. record { from = p; to = record { id = q; inc = e.link.known }; kind = IsDelta; inc = p.inc; seq = n }) (λ n. refl) (numbers_from (e.link.acked + 1) (min turn_deltas (length e.sent - e.link.acked)))

-- the index of a mark is one of the history; a change leads from an entry that was sent
abbrev pub IsMarked : ℕ → Mark → Type 0
IsMarked top (MarkFull n) = 1 ≤ n
IsMarked top (MarkDelta n) = (2 ≤ n) × (n ≤ top)
IsMarked top (MarkAck place) = place.inc ≡ 0 → place.seq ≡ 0

numbers_marked : (top a n : ℕ) → 2 ≤ a → a + n ≤ top + 1 → AllByRecursion (IsMarked top) (map MarkDelta (numbers_from a n))
numbers_marked top a zero two le = tt
numbers_marked top a (suc n) two le = ((two, omega (arith, le)), numbers_marked top (a + 1) n (omega (arith, two)) (omega (arith, le)))

all_append : {A : Type 0} (P : A → Type 0) (xs ys : List A) → AllByRecursion P xs → AllByRecursion P ys → AllByRecursion P (xs ++ ys)
all_append P [] ys h k = k
all_append P (x ∷ xs) ys h k = (h.0, all_append P xs ys h.1 k)

pub turn_marked : (top acked : ℕ) (place : Place) → acked ≤ top → (place.inc ≡ 0 → place.seq ≡ 0) → AllByRecursion (IsMarked top) (turn_of top acked place)
turn_marked top acked place le none = all_append (IsMarked top) (news place.inc top acked) (MarkAck place ∷ []) (cases (nat_eq place.inc 0 || nat_eq top 0 || nat_eq acked top) (nat_eq acked 0 || nat_lt kept_changes (top - acked)) refl refl) (none, tt)
  where
    cases : (a b : Bool) → (nat_eq place.inc 0 || nat_eq top 0 || nat_eq acked top) ≡ a → (nat_eq acked 0 || nat_lt kept_changes (top - acked)) ≡ b
        → AllByRecursion (IsMarked top) (cond a [] (cond b (MarkFull top ∷ []) (map MarkDelta (numbers_from (acked + 1) (min turn_deltas (top - acked))))))
    cases true b is as_ = tt
    cases false true is as_ = let top_is = (both_false (nat_eq place.inc 0) (nat_eq top 0) (both_false _ (nat_eq acked top) is).0).1 in (grind (arith, nat_tests, top_is), tt)
    cases false false is as_ = let acked_is = (both_false (nat_eq acked 0) _ as_).0 in numbers_marked top (acked + 1) (min turn_deltas (top - acked)) (grind (arith, nat_tests, acked_is)) (omega (arith, le))

-- every change that is kept has a form
pub forms_kept : {V D : Type 0} (form : D → Type 0) (s : Sending V D) → HaveForms form s → AllByRecursion form s.kept
forms_kept form s h = subst (AllByRecursion form) (sym h.kept) (by h.changes (length h.changes - kept_changes) h.forms)
  where
    by : (cs : List _) (n : ℕ) → AllByRecursion form cs → AllByRecursion form (drop n cs)
    by cs zero h = h
    by [] (suc n) h = h
    by (c ∷ cs) (suc n) h = by cs n h.1

-- an entry of a history
record Entry {V : Type 0} (valid : V → Type 0) (out : V → Ledger) (first : V) (vs : List V) (n : ℕ) : Type 0 where
  ledger : V
  there : slice_get (first ∷ vs) n ≡ Some ledger
  valid_there : valid ledger
  stated : at_index nothing (map out vs) n ≡ out ledger

entry_at : {V : Type 0} (valid : V → Type 0) (out : V → Ledger) (first : V) (vs : List V) (n : ℕ) → AllByRecursion valid vs → 1 ≤ n → n ≤ length vs → Entry valid out first vs n
entry_at {V} valid out first vs zero all one le = absurd (omega (arith, one))
entry_at {V} valid out first vs (suc n) all one le = by vs n all (omega (arith, le))
  where
    by : (vs : List V) (n : ℕ) → AllByRecursion valid vs → n < length vs → Entry valid out first vs (suc n)
    by [] n all lt = absurd (omega (arith, lt))
    by (v ∷ vs) zero all lt = record { ledger = v; there = refl; valid_there = all.0; stated = refl }
    by (v ∷ vs) (suc n) all lt = let h = by vs n all.1 (omega (arith, lt)) in record { ledger = h.ledger; there = h.there; valid_there = h.valid_there; stated = h.stated }

entry_stated : {V : Type 0} (out : V → Ledger) (first : V) (vs : List V) (n : ℕ) (v : V) → 1 ≤ n → slice_get (first ∷ vs) n ≡ Some v → at_index nothing (map out vs) n ≡ out v
entry_stated {V} out first vs zero v one is = absurd (omega (arith, one))
entry_stated {V} out first vs (suc n) v one is = by vs n is
  where
    by : (vs : List V) (n : ℕ) → slice_get vs n ≡ Some v → unwrap_or (slice_get (map out vs) n) nothing ≡ out v
    by [] n is = cc
    by (w ∷ vs) zero is = let same : w ≡ v = cc in ap out same
    by (w ∷ vs) (suc n) is = by vs n is

-- the roles of a body's channel
roles_of : (b : BodyHere) (k : KindHere) (from to : Role) → is_bare k ≡ false → IsBodyOf b k from to → IsTrue (to_agent from to || to_app from to || to_agent to from || to_app to from)
roles_of b k from to bare h = by b h
  where
    agent : to_agent from to ≡ true → IsTrue (to_agent from to || to_app from to || to_agent to from || to_app to from)
    agent t = or_left _ (to_app to from) (or_left _ (to_agent to from) (or_left (to_agent from to) (to_app from to) t))

    app : to_app from to ≡ true → IsTrue (to_agent from to || to_app from to || to_agent to from || to_app to from)
    app t = or_left _ (to_app to from) (or_left _ (to_agent to from) (or_right (to_agent from to) (to_app from to) t))

    of_agent : to_agent to from ≡ true → IsTrue (to_agent from to || to_app from to || to_agent to from || to_app to from)
    of_agent t = or_left _ (to_app to from) (or_right _ (to_agent to from) t)

    of_app : to_app to from ≡ true → IsTrue (to_agent from to || to_app from to || to_agent to from || to_app to from)
    of_app t = or_right _ (to_app to from) t

    by : (b : BodyHere) → IsBodyOf b k from to → IsTrue (to_agent from to || to_app from to || to_agent to from || to_app to from)
    by Nothing h = let f : is_bare k ≡ true = h in cc
    by (Row row) h = agent (both_true (is_full k) _ h).1
    by (RowDelta change) h = agent (both_true (is_delta k) _ h.0).1
    by (Join join) h = of_agent (both_true _ (to_agent to from) h).1
    by (Grants tally) h = app (both_true (is_full k) _ h).1
    by (GrantsDelta change) h = app (both_true (is_delta k) _ h.0).1
    by (Demand tally) h = of_app (both_true (is_full k) _ h).1
    by (DemandDelta change) h = of_app (both_true (is_delta k) _ h.0).1

-- what brings something is no end
abbrev is_end : KindHere → Bool
is_end AckHere = false
is_end DeltaHere = false
is_end FullHere = false
is_end End = true

other : (k : KindHere) → is_end k ≡ false → k ≡ End → ⊥
other k is e = let t : true ≡ false = sym (ap is_end e) ∙ is in grind (arith, t)

-- the change of a note has a form
abbrev pub NoteForm : {V D : Type 0} → (D → Type 0) → Note V D → Type 0
NoteForm form (Full n ledger) = Unit {0}
NoteForm form (Delta n change) = form change
NoteForm form (Ack place) = Unit {0}

pub note_forms : {V D : Type 0} (form : D → Type 0) (s : Sending V D) → HaveForms form s → (notes : List (Note V D)) → AllByRecursion (IsNoteOf s) notes → AllByRecursion (NoteForm form) notes
note_forms form s h [] all = tt
note_forms form s h (Full n ledger ∷ notes) all = (tt, note_forms form s h notes all.1)
note_forms form s h (Delta n change ∷ notes) all = (all_at form s.kept _ change (forms_kept form s h) all.0, note_forms form s h notes all.1)
note_forms form s h (Ack place ∷ notes) all = (tt, note_forms form s h notes all.1)

module _ {V D : Type 0} (valid : V → Type 0) (form : D → Type 0) (out : V → Ledger) (whole : V → BodyHere) (changed : D → BodyHere) (first : V) (patched : V → D → Result V LedgerFault) (sender receiver : Role) (own peer : ℕ) where
  -- what the bodies say
  abbrev WholeIs : Type 0
  WholeIs = (m n : ℕ) (v : V) → content_of (whole v) ≡ whole_body (is_agent (id_of receiver n)) (is_agent (id_of sender m)) (out v)

  abbrev ChangeIs : Type 0
  ChangeIs = (m n : ℕ) (a b : V) (c : D) → IsTrue (is_number_of sender m) → valid a → valid b → form c → patched a c ≡ Ok b
      → content_of (changed c) ≡ change_body (is_agent (id_of receiver n)) (is_agent (id_of sender m)) (dropped_by (id_of sender m)) (out a) (out b)

  module _ (whole_is : WholeIs) (change_is : ChangeIs) (number : IsTrue (is_number_of sender own)) (inc known : ℕ) (e : Side) (known_is : e.link.known ≡ known) (vs : List V) (sent_is : e.sent ≡ map out vs) (all_valid : AllByRecursion valid vs) where
    abbrev sent_from : PartyHere
    sent_from = record { role = sender; number = own; inc = inc }

    abbrev sent_to : PartyHere
    sent_to = record { role = receiver; number = peer; inc = known }

    abbrev p : Party
    p = record { id = id_of sender own; inc = inc }

    abbrev q : Id
    q = id_of receiver peer

    placed : (k : Kind) (i n : ℕ) (b : Body) → b ≡ body_in p.id q (map out vs) k n → record { packet = record { from = p; to = record { id = q; inc = known }; kind = k; inc = i; seq = n }; body = b } ≡ parcel_at p q e k i n
    placed k i n b is = λ j. record { packet = record { from = p; to = record { id = q; inc = sym known_is j }; kind = k; inc = i; seq = n }; body = (is ∙ ap (λ h. body_in p.id q h k n) (sym sent_is)) j }

    one : (note : Note V D) → IsMarked (length vs) (mark_of note) → Brings patched (first ∷ vs) note → NoteForm form note → parcel_is (packet_for whole changed sent_from sent_to note) ≡ parcel_mark p q e (mark_of note)
    one (Full n ledger) m b f = placed IsFull inc n _ (whole_is own peer ledger ∙ ap (whole_body (is_agent q) (is_agent p.id)) (sym (entry_stated out first vs n ledger m b)))
    one (Delta n change) m b f =
        let before = entry_at valid out first vs (n - 1) all_valid (omega (arith, m.0)) (omega (arith, m.0, m.1)) in
        let after = entry_at valid out first vs n all_valid (omega (arith, m.0)) m.1 in
        let next : n - 1 + 1 ≡ n = omega (arith, m.0) in
        let made : patched before.ledger change ≡ Ok after.ledger = b before.ledger after.ledger before.there (ap (slice_get (first ∷ vs)) next ∙ after.there) in
        let says = change_is own peer before.ledger after.ledger change number before.valid_there after.valid_there f made in
        placed IsDelta inc n _ (says ∙ (λ i. change_body (is_agent q) (is_agent p.id) (dropped_by p.id) (sym before.stated i) (sym after.stated i)))
    one (Ack place) m b f = placed IsAck place.inc place.seq _ refl

    pub all_parcels : (notes : List (Note V D)) → AllByRecursion (IsMarked (length vs)) (map mark_of notes) → AllByRecursion (Brings patched (first ∷ vs)) notes → AllByRecursion (NoteForm form) notes
        → map parcel_is (map (packet_for whole changed sent_from sent_to) notes) ≡ map (parcel_mark p q e) (map mark_of notes)
    all_parcels [] m b f = refl
    all_parcels (x ∷ xs) m b f = let y = one x m.0 b.0 f.0 in let ys = all_parcels xs m.1 b.1 f.1 in λ i. y i ∷ ys i

  module _ (whole_formed : (v : V) → IsBodyOf (whole v) FullHere sender receiver) (change_formed : (c : D) → form c → IsBodyOf (changed c) DeltaHere sender receiver) (number : IsTrue (is_number_of sender own)) (to_number : IsTrue (is_number_of receiver peer)) (inc known : ℕ) (started : 0 < inc) where
    parties : IsTrue (are_parties (record { role = sender; number = own; inc = inc }) (record { role = receiver; number = peer; inc = known }))
    parties =
        let roles = roles_of (whole first) FullHere sender receiver refl (whole_formed first) in
        and_true _ (nat_lt 0 inc) (and_true _ (is_number_of receiver peer) (and_true _ (is_number_of sender own) roles number) to_number) (grind (arith, nat_tests, started))

    formed_one : (top : ℕ) (note : Note V D) → IsMarked top (mark_of note) → NoteForm form note → IsFormed (packet_for whole changed (record { role = sender; number = own; inc = inc }) (record { role = receiver; number = peer; inc = known }) note)
    formed_one top (Full n ledger) m f = record { parties = parties; place = and_true (nat_eq inc inc) (nat_lt 0 n) (nat_itself inc) (grind (arith, nat_tests, m)); body = whole_formed ledger }
    formed_one top (Delta n change) m f = record { parties = parties; place = and_true (nat_eq inc inc) (nat_lt 1 n) (nat_itself inc) (let two = m.0 in grind (arith, nat_tests, two)); body = change_formed change f }
    formed_one top (Ack place) m f = record { parties = parties; place = named (nat_lt 0 place.inc) refl; body = refl }
      where
        named : (b : Bool) → nat_lt 0 place.inc ≡ b → (b || nat_eq place.seq 0) ≡ true
        named true is = refl
        named false is = let none = m (grind (arith, nat_tests, is)) in grind (arith, nat_tests, none)

    no_end : (note : Note V D) → (packet_for whole changed (record { role = sender; number = own; inc = inc }) (record { role = receiver; number = peer; inc = known }) note).kind ≡ End → ⊥
    no_end (Full n ledger) = λ e. other FullHere refl e
    no_end (Delta n change) = λ e. other DeltaHere refl e
    no_end (Ack place) = λ e. other AckHere refl e

    pub all_formed : (top : ℕ) (notes : List (Note V D)) → AllByRecursion (IsMarked top) (map mark_of notes) → AllByRecursion (NoteForm form) notes → AllByRecursion IsSent (map (packet_for whole changed (record { role = sender; number = own; inc = inc }) (record { role = receiver; number = peer; inc = known })) notes)
    all_formed top [] m f = tt
    all_formed top (x ∷ xs) m f = (record { formed = formed_one top x m.0 f.0; no_end = no_end x }, all_formed top xs m.1 f.1)

-- what a turn of both ends appends
module _ {V D W : Type 0} (first : V) (patched : V → D → Result V LedgerFault) (valid : V → Type 0) (form : D → Type 0) (out : V → Ledger) (whole : V → BodyHere) (changed : D → BodyHere) (sender receiver : Role) (own peer : ℕ) (d : Endpoint V D W)
    (forms : HaveForms form d.outgoing) (none : d.incoming.place.inc ≡ 0 → d.incoming.place.seq ≡ 0) (within : d.acked ≤ d.outgoing.last) (number : IsTrue (is_number_of sender own))
    (notes : List (Note V D)) (marks : map mark_of notes ≡ turn_of d.outgoing.last d.acked d.incoming.place) (sends : AllByRecursion (IsNoteOf d.outgoing) notes) (before after : List PacketHere)
    (is : after ≡ before ++ map (packet_for whole changed (record { role = sender; number = own; inc = d.outgoing.own }) (record { role = receiver; number = peer; inc = d.incoming.place.inc })) notes) where
  marked : AllByRecursion (IsMarked d.outgoing.last) (map mark_of notes)
  marked = subst (AllByRecursion (IsMarked d.outgoing.last)) (sym marks) (turn_marked d.outgoing.last d.acked d.incoming.place within none)

  pub turn_alike : (inward : W → Ledger) → WholeIs valid form out whole changed first patched sender receiver own peer → ChangeIs valid form out whole changed first patched sender receiver own peer
      → ((history : List V) → StandsFor first patched d.outgoing history → AllByRecursion (Brings patched history) notes) → TurnsAlike first patched valid out inward d sender own receiver peer before after
  turn_alike inward whole_is change_is brings inc e s =
      let known = d.incoming.place.inc in
      let to : PartyHere = record { role = receiver; number = peer; inc = known } in
      let p : Party = record { id = id_of sender own; inc = inc } in
      let q = id_of receiver peer in
      let top : d.outgoing.last ≡ length s.ledgers = let long = s.stands.long in omega (arith, long) in
      let turn : map mark_of notes ≡ turn_of (length e.sent) e.link.acked (record { inc = e.link.known; seq = e.link.seq }) = marks ∙ (λ i. turn_of (s.last i) (s.acked i) (s.place i)) in
      let parcels = all_parcels valid form out whole changed first patched sender receiver own peer whole_is change_is number inc known e (sym (ap (λ (y : Place). y.inc) s.place)) s.ledgers s.sent s.all_valid notes
      (subst (λ n. AllByRecursion (IsMarked n) (map mark_of notes)) top marked) (brings (first ∷ s.ledgers) s.stands) (note_forms form d.outgoing forms notes sends) in
      ap (map parcel_is) is ∙ map-append parcel_is before _
      ∙ ap (λ n. map parcel_is before ++ map parcel_is (map (packet_for whole changed (record { role = sender; number = own; inc = n }) to) notes)) s.own
      ∙ ap (λ ys. map parcel_is before ++ ys) (parcels ∙ ap (map (parcel_mark p q e)) turn ∙ marks_alike p q e)

  pub turn_formed : ((v : V) → IsBodyOf (whole v) FullHere sender receiver) → ((c : D) → form c → IsBodyOf (changed c) DeltaHere sender receiver) → IsTrue (is_number_of receiver peer) → 0 < d.outgoing.own → AllByRecursion IsSent before → AllByRecursion IsSent after
  turn_formed whole_formed change_formed to_number started all = subst (AllByRecursion IsSent) (sym is) (all_append IsSent before _ all
      (all_formed valid form out whole changed first patched sender receiver own peer whole_formed change_formed number to_number d.outgoing.own d.incoming.place.inc started d.outgoing.last notes marked (note_forms form d.outgoing forms notes sends)))
