-- What a turn sends without a change, and that its packets are appended.
use Rattle.std.proofs.Common.{◌≡◌, ℕ, ◌+◌, ◌-◌, Bool, true, false, cond, min, nat_eq, nat_lt, List, [], ◌∷◌, ◌++◌, map, Result, refl, sym, ◌∙◌, ap, arith}
use Rattle.std.specs.Prelude.{◌||◌}
use Rattle.std.specs.List.{AllByRecursion}
use Rattle.std.proofs.lemmas.Bool.Decides.{nat_tests}
use Rattle.std.proofs.lemmas.List.{append_assoc}
use Rattle.fuxi_terms.specs.Limits.{kept_changes, turn_deltas}
use Rattle.fuxi_terms.specs.Lists.{numbers_from}
use Rattle.fuxi_terms.specs.declared.answers.LedgerFault.{LedgerFault}
use Rattle.delta_channel.specs.Standing.{StandsFor}
use Rattle.delta_channel.specs.declared.receiver.Place.{Place}
use Rattle.full_sync.specs.Turns.{Endpoint, MarkFull, MarkDelta, MarkAck, mark_of, turn_of, Brings, IsNoteOf}
use Rattle.full_sync.specs.declared.duplex.Note.{Note}
use Rattle.full_sync.specs.declared.duplex.Note.TheVariants.{Full, Ack}
use Rattle.schedule_unit.specs.declared.party.Party.{Party}
use Rattle.party_ledgers.specs.declared.packets.Body.{Body}
use Rattle.party_ledgers.specs.declared.packets.Packet.{Packet}
use Rattle.peer_channel.specs.Sending.{AppendsTurn, packet_for}

-- what a turn sends, by the tests that it makes
by_tests : (last acked : ℕ) (place : Place) (a b c e : Bool) → nat_eq place.inc 0 ≡ a → nat_eq last 0 ≡ b → nat_eq acked last ≡ c → nat_eq acked 0 ≡ e
    → turn_of last acked place ≡ cond ((a || b) || c) [] (cond (e || nat_lt kept_changes (last - acked)) (MarkFull last ∷ []) (map MarkDelta (numbers_from (acked + 1) (min turn_deltas (last - acked))))) ++ MarkAck place ∷ []
by_tests last acked place a b c e x y z u = λ i. cond ((x i || y i) || z i) [] (cond (u i || nat_lt kept_changes (last - acked)) (MarkFull last ∷ []) (map MarkDelta (numbers_from (acked + 1) (min turn_deltas (last - acked))))) ++ MarkAck place ∷ []

pub unknown_lacks : (last acked : ℕ) (place : Place) → place.inc ≡ 0 → turn_of last acked place ≡ MarkAck place ∷ []
unknown_lacks last acked place is = by_tests last acked place true (nat_eq last 0) (nat_eq acked last) (nat_eq acked 0) (grind (arith, nat_tests, is)) refl refl refl

pub level_lacks : (last acked : ℕ) (place : Place) → acked ≡ last → turn_of last acked place ≡ MarkAck place ∷ []
level_lacks last acked place is =
    let level : nat_eq acked last ≡ true = grind (arith, nat_tests, is) in
    by_tests last acked place (nat_eq place.inc 0) (nat_eq last 0) true (nat_eq acked 0) refl refl level refl ∙ by (nat_eq place.inc 0) (nat_eq last 0)
  where
    by : (a b : Bool) → cond ((a || b) || true) [] (cond (nat_eq acked 0 || nat_lt kept_changes (last - acked)) (MarkFull last ∷ []) (map MarkDelta (numbers_from (acked + 1) (min turn_deltas (last - acked))))) ++ MarkAck place ∷ [] ≡ MarkAck place ∷ []
    by true b = refl
    by false true = refl
    by false false = refl

pub all_lacks : (last acked : ℕ) (place : Place) → (place.inc ≡ 0 → ⊥) → (acked ≡ last → ⊥) → acked ≡ 0 → turn_of last acked place ≡ MarkFull last ∷ MarkAck place ∷ []
all_lacks last acked place known other none =
    by_tests last acked place false false false true (grind (arith, nat_tests, known)) (grind (arith, nat_tests, other, none)) (grind (arith, nat_tests, other)) (grind (arith, nat_tests, none))

module _ {V D W : Type 0} (first : V) (patched : V → D → Result V LedgerFault) (whole : V → Body) (change : D → Body) (from to : Party) (d : Endpoint V D W) (before after : List Packet) where
  -- the packets are those of notes of the same values
  pub ack_appended : (place : Place) (x : Packet) → turn_of d.outgoing.last d.acked d.incoming.place ≡ MarkAck d.incoming.place ∷ [] → place ≡ d.incoming.place
      → x ≡ packet_for whole change from to (Ack place) → after ≡ before ++ x ∷ [] → AppendsTurn first patched whole change from to d before after
  ack_appended place x marks same x_is is = record {
    notes = Ack d.incoming.place ∷ [];
    marks = sym marks;
    sends = (tt, tt);
    brings = λ history stands. (tt, tt);
    is = is ∙ ap (λ y. before ++ y ∷ []) (x_is ∙ ap (λ p. packet_for whole change from to (Ack p)) same);
  }

  pub whole_appended : (last : ℕ) (ledger : V) (place : Place) (x y : Packet) (between : List Packet) → turn_of d.outgoing.last d.acked d.incoming.place ≡ MarkFull d.outgoing.last ∷ MarkAck d.incoming.place ∷ []
      → last ≡ d.outgoing.last → ledger ≡ d.outgoing.present → place ≡ d.incoming.place
      → x ≡ packet_for whole change from to (Full last ledger) → between ≡ before ++ x ∷ [] → y ≡ packet_for whole change from to (Ack place) → after ≡ between ++ y ∷ []
      → AppendsTurn first patched whole change from to d before after
  whole_appended last ledger place x y between marks last_is ledger_is same x_is one y_is two = record {
    notes = Full d.outgoing.last d.outgoing.present ∷ Ack d.incoming.place ∷ [];
    marks = sym marks;
    sends = (refl, (tt, tt));
    brings = λ history stands. (stands.at_last, (tt, tt));
    is = two ∙ (λ i. one i ++ y ∷ []) ∙ append_assoc before (x ∷ []) (y ∷ [])
        ∙ (λ i. before ++ (x_is ∙ (λ j. packet_for whole change from to (Full (last_is j) (ledger_is j)))) i ∷ (y_is ∙ ap (λ p. packet_for whole change from to (Ack p)) same) i ∷ []);
  }

  pub notes_appended : (notes listed : List (Note V D)) (between : List Packet) → map mark_of notes ≡ turn_of d.outgoing.last d.acked d.incoming.place → AllByRecursion (IsNoteOf d.outgoing) notes
      → ((history : List V) → StandsFor first patched d.outgoing history → AllByRecursion (Brings patched history) notes) → between ≡ before → listed ≡ notes
      → after ≡ between ++ map (packet_for whole change from to) listed → AppendsTurn first patched whole change from to d before after
  notes_appended notes listed between marks sends brings start same is = record {
    notes = notes;
    marks = marks;
    sends = sends;
    brings = brings;
    is = is ∙ (λ i. start i ++ map (packet_for whole change from to) (same i));
  }
