-- What a turn sends.
use Rattle.std.proofs.Common.{◌≡◌, ℕ, zero, suc, ◌+◌, ◌-◌, false, cond, nat_eq, nat_lt, List, [], ◌∷◌, ◌++◌, length, map, Some, slice_get, refl, sym, ◌∙◌, ap, arith, min}
use Rattle.std.specs.Prelude.{◌||◌}
use Rattle.std.specs.List.{flat_map}
use Rattle.std.proofs.lemmas.Bool.Decides.{nat_tests}
use Rattle.fuxi_terms.specs.Cluster.{ClusterRecord}
use Rattle.fuxi_terms.specs.Limits.{kept_changes, turn_deltas}
use Rattle.fuxi_terms.specs.Lists.{numbers_from}
use Rattle.spec_net.specs.Net.{Net, Party, Id, Link, Packet, Ack, Delta, Full, last, move, Turns, turn}
use Rattle.spec_net.specs.Ledgers.{Ledger}
use Rattle.spec_net.specs.Channels.{app_id, party, send_all}
use Rattle.spec_roles.specs.MasterSteps.{master_party, peers}
use Rattle.spec_roles.specs.Refusals.{NotRunning, with_found}
use Rattle.spec_roles.proofs.StepEnds.{peers_talk}
use Rattle.spec_world.specs.World.{refused}
use Rattle.spec_world.specs.Events.{Event, counted_in, turned}
use Rattle.spec_world.specs.Runs.{run}
use Rattle.spec_world.specs.SentTurns.{HasChanges, GoesAsChanges, AllTurn}

-- Turns to several peers
append_append : {A : Type 0} (xs ys zs : List A) → (xs ++ ys) ++ zs ≡ xs ++ (ys ++ zs)
append_append [] ys zs = refl
append_append (x ∷ xs) ys zs = ap (λ l. x ∷ l) (append_append xs ys zs)

append_none : {A : Type 0} (xs : List A) → xs ≡ xs ++ []
append_none [] = refl
append_none (x ∷ xs) = ap (λ l. x ∷ l) (append_none xs)

sent_packets : (net : Net Ledger) (p : Party) (qs : List Id) → (send_all net p qs).packets ≡ net.packets ++ flat_map (turn net p) qs
sent_packets net p [] = append_none net.packets
sent_packets net p (q ∷ qs) = sent_packets (move net (Turns p q)) p qs ∙ append_append net.packets (turn net p q) (flat_map (turn net p) qs)

-- The changes, one for each number from one on
module _ (f : ℕ → Packet) where
  numbers_length : (a n : ℕ) → length (map f (numbers_from a n)) ≡ n
  numbers_length a zero = refl
  numbers_length a (suc n) = ap suc (numbers_length (a + 1) n)

  numbers_got : (a n i : ℕ) (x : Packet) → slice_get (map f (numbers_from a n)) i ≡ Some x → x ≡ f (a + i)
  numbers_got a zero i x e = cc
  numbers_got a (suc n) zero x e = let same : f a ≡ x = cc in let z : a ≡ a + 0 = omega arith in sym same ∙ ap f z
  numbers_got a (suc n) (suc i) x e = let z : a + 1 + i ≡ a + suc i = omega arith in numbers_got (a + 1) n i x e ∙ ap f z

goes_as_changes : (net : Net Ledger) (p : Party) (q : Id) → HasChanges (last net p q) (net.links p q) → GoesAsChanges net p q
goes_as_changes net p q h = record {
  changes = map f (numbers_from (l.acked + 1) n);
  acknowledgement = ack;
  sent = ap (λ b. cond b [] (cond (nat_eq l.acked 0 || nat_lt kept_changes (top - l.acked)) (whole ∷ []) (map f (numbers_from (l.acked + 1) n))) ++ ack ∷ []) closed ∙ ap (λ b. cond b (whole ∷ []) (map f (numbers_from (l.acked + 1) n)) ++ ack ∷ []) kept;
  kind = refl;
  count = numbers_length f (l.acked + 1) n;
  each = λ i x e. numbers_got f (l.acked + 1) n i x e;
}
  where
    l : Link
    l = net.links p q

    top : ℕ
    top = last net p q

    n : ℕ
    n = min turn_deltas (top - l.acked)

    to : Party
    to = party q l.known

    f : ℕ → Packet
    f k = record { from = p; to = to; kind = Delta; inc = p.inc; seq = k }

    whole : Packet
    whole = record { from = p; to = to; kind = Full; inc = p.inc; seq = top }

    ack : Packet
    ack = record { from = p; to = to; kind = Ack; inc = l.known; seq = l.seq }

    closed : (nat_eq l.known 0 || (nat_eq top 0 || nat_eq l.acked top)) ≡ false
    closed =
        let a = h.known in let b = h.some in
        let x : nat_eq l.known 0 ≡ false = grind (arith, nat_tests, a) in
        let y : nat_eq top 0 ≡ false = grind (arith, nat_tests, b) in
        let z : nat_eq l.acked top ≡ false = grind (arith, nat_tests, b) in
        ap (λ t. t || (nat_eq top 0 || nat_eq l.acked top)) x ∙ ap (λ t. t || nat_eq l.acked top) y ∙ z

    kept : (nat_eq l.acked 0 || nat_lt kept_changes (top - l.acked)) ≡ false
    kept =
        let a = h.acked in let b = h.few in
        let x : nat_eq l.acked 0 ≡ false = grind (arith, nat_tests, a) in
        let y : nat_lt kept_changes (top - l.acked) ≡ false = grind (arith, nat_tests, b) in
        ap (λ t. t || nat_lt kept_changes (top - l.acked)) x ∙ y

pub all_turn : (c : ClusterRecord) (events : List Event) → AllTurn (run c events)
all_turn c events = let w = run c events in record {
  ended = λ e M f a known. peers_talk w.cluster M (app_id a) ∙ known;
  sends = λ e M f. ap (λ o. (with_found o (refused (counted_in w) NotRunning) (λ M. turned (counted_in w) (master_party M) (peers w.cluster M))).world.net.packets) f ∙ sent_packets w.net (master_party M) (peers w.cluster M);
  changes = λ p q h. goes_as_changes w.net p q h;
}
