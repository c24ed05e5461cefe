-- What is acknowledged was reached, whatever is heard, sent and resynced.
use Rattle.std.proofs.Common.{◌≡◌, ℕ, ◌+◌, ◌-◌, Bool, false, cond, not, nat_eq, nat_lt, List, [], ◌∷◌, map, min, Some, refl, sym, ◌∙◌, subst, arith}
use Rattle.std.specs.Prelude.{◌&&◌, ◌||◌}
use Rattle.std.specs.List.{AllByRecursion}
use Rattle.fuxi_terms.specs.declared.answers.What.{What}
use Rattle.fuxi_terms.specs.declared.answers.What.TheVariants.{Taken, Ack as Acked, Stranger, Stale, NotMine, Old, Gap, Ledger as SaysLedger, Exceeds as SaysExceeds}
use Rattle.fuxi_terms.specs.Limits.{kept_changes, turn_deltas}
use Rattle.fuxi_terms.specs.Lists.{numbers_from}
use Rattle.fuxi_terms.proofs.Alls.{all_append}
use Rattle.fuxi_terms.proofs.Booleans.{both_true, either, not_false, number_is}
use Rattle.spec_net.specs.Net.{Net, Party, Id, Link, Packet, Kind, Heard, Ack, Delta, Full, last, met, acknowledge, unmoved, unacknowledged, hear, hear_peer, heard_of, word_of, link_after, notes, turn, Turns, Resyncs, Posts, comes, move, set_at, same_id, silent, unknown}
use Rattle.spec_net.specs.Ledgers.{Ledger, same_ledger}
use Rattle.spec_net.specs.Channels.{Offer, is_master, present, publish_one, publish, send_all, resync_all, to_master}
use Rattle.spec_net.proofs.NetLemmas.{id_is, set_at_all}
use Rattle.spec_net.proofs.BoundedLemmas.{in_numbers, met_known}
use Rattle.spec_net.proofs.SoundLemmas.{acked_is}
use Rattle.spec_world.specs.Parties.{joined}
use Rattle.spec_progress.specs.Reached.{Reaches, AckReaches, AreReached}
use Rattle.spec_progress.proofs.FurtherLemmas.{Further, further_itself, hear_further, still_reaches, reaches_none}

-- at one link
abbrev Counts : (Party → Id → Link) → Party → Id → Link → Type 0
Counts links p q l = Reaches (links (record { id = q; inc = l.known }) p.id) p.inc l.acked

record HeardCounts (links : Party → Id → Link) (p : Party) (q : Id) (r : Heard) : Type 0 where
  link : Counts links p q r.link

met_counts : (links : Party → Id → Link) (p : Party) (q : Id) (l : Link) (inc : ℕ) → Counts links p q l → Counts links p q (met l inc)
met_counts links p q l inc h = either (Counts links p q) (nat_lt l.known inc) (record { known = inc; seq = 0; acked = 0 }) l (λ _. reaches_none (links (record { id = q; inc = inc }) p.id) p.inc) (λ _. h)

-- so what is heard as acknowledged was reached
acked_reaches : (links : Party → Id → Link) (k : Kind) (own : ℕ) (l : Link) (x : Packet) → word_of k own l x ≡ Acked → AckReaches links k x → Reaches (links x.from x.to.id) x.inc x.seq
acked_reaches links k own l x e h = subst (λ k. AckReaches links k x) (acked_is k own l x e) h

counted_ack : (links : Party → Id → Link) (p : Party) (top : ℕ) (l : Link) (x : Packet) → l.known ≡ x.from.inc → x.to.id ≡ p.id → Reaches (links x.from x.to.id) x.inc x.seq → Counts links p x.from.id l → Counts links p x.from.id (acknowledge p.inc top l x)
counted_ack links p top l x known to n h = either (Counts links p x.from.id) (nat_eq x.inc p.inc && (nat_lt l.acked x.seq && not (nat_lt top x.seq))) (record { known = l.known; seq = l.seq; acked = x.seq }) l
    (λ t. let own : x.inc ≡ p.inc = number_is x.inc p.inc (both_true (nat_eq x.inc p.inc) (nat_lt l.acked x.seq && not (nat_lt top x.seq)) t).0 in
    subst (λ i. Reaches (links (record { id = x.from.id; inc = i }) p.id) p.inc x.seq) (sym known)
    (subst (λ i. Reaches (links x.from p.id) i x.seq) own (subst (λ d. Reaches (links x.from d) x.inc x.seq) to n)))
    (λ _. h)

after_counts : (links : Party → Id → Link) (p : Party) (top : ℕ) (w : What) (l : Link) (x : Packet) → l.known ≡ x.from.inc → x.to.id ≡ p.id → (w ≡ Acked → Reaches (links x.from x.to.id) x.inc x.seq) → Counts links p x.from.id l → Counts links p x.from.id (link_after w p.inc top l x)
after_counts links p top Taken l x known to a h = h
after_counts links p top Acked l x known to a h = counted_ack links p top l x known to (a refl) h
after_counts links p top Stranger l x known to a h = h
after_counts links p top Stale l x known to a h = h
after_counts links p top NotMine l x known to a h = h
after_counts links p top Old l x known to a h = h
after_counts links p top Gap l x known to a h = h
after_counts links p top (SaysLedger fault) l x known to a h = h
after_counts links p top (SaysExceeds total has) l x known to a h = h

peer_counts : (links : Party → Id → Link) (p : Party) (top : ℕ) (l : Link) (x : Packet) → x.to.id ≡ p.id → nat_lt x.from.inc l.known ≡ false → AckReaches links x.kind x → Counts links p x.from.id l → HeardCounts links p x.from.id (hear_peer p.inc top l x)
peer_counts links p top l x to t n h = let m = met l x.from.inc in record {
  link = after_counts links p top (word_of x.kind p.inc m x) m x (met_known l x.from.inc t) to (λ e. acked_reaches links x.kind p.inc m x e n) (met_counts links p x.from.id l x.from.inc h);
}

hear_counts : (links : Party → Id → Link) (p : Party) (talks : Bool) (top : ℕ) (l : Link) (x : Packet) → AckReaches links x.kind x → Counts links p x.from.id l → HeardCounts links p x.from.id (hear p talks top l x)
hear_counts links p talks top l x n h =
    let peer = hear_peer p.inc top l x in
    either (HeardCounts links p x.from.id) (not (same_id x.to.id p.id && talks)) (unmoved Stranger l) (cond (nat_lt x.from.inc l.known) (unmoved Stale l) peer)
    (λ _. record { link = h })
    (λ ours. either (HeardCounts links p x.from.id) (nat_lt x.from.inc l.known) (unmoved Stale l) peer
    (λ _. record { link = h })
    (λ t. peer_counts links p top l x (id_is x.to.id p.id (both_true (same_id x.to.id p.id) talks (not_false (same_id x.to.id p.id && talks) ours)).0) t n h))

-- links that go forward
module _ (links links' : Party → Id → Link) (forward : (p : Party) (q : Id) → Further (links p q) (links' p q)) where
  ack_stays : (k : Kind) (x : Packet) → AckReaches links k x → AckReaches links' k x
  ack_stays Ack x h = still_reaches (links x.from x.to.id) (links' x.from x.to.id) x.inc x.seq (forward x.from x.to.id) h
  ack_stays Delta x h = h
  ack_stays Full x h = h

  acks_stay : (xs : List Packet) → AllByRecursion (λ x. AckReaches links x.kind x) xs → AllByRecursion (λ x. AckReaches links' x.kind x) xs
  acks_stay [] h = tt
  acks_stay (x ∷ xs) h = (ack_stays x.kind x h.0, acks_stay xs h.1)

  counts_stay : (p : Party) (q : Id) (l : Link) → Counts links p q l → Counts links' p q l
  counts_stay p q l h = still_reaches (links (record { id = q; inc = l.known }) p.id) (links' (record { id = q; inc = l.known }) p.id) p.inc l.acked (forward (record { id = q; inc = l.known }) p.id) h

-- hearing goes forward at every link
pub comes_further : (net : Net Ledger) (p : Party) (talks : Id → Bool) (x : Packet) (p' : Party) (q' : Id) → Further (net.links p' q') ((comes net p talks (Some x)).links p' q')
comes_further net p talks x p' q' = set_at_all (λ p' q' l. Further (net.links p' q') l) net.links p x.from.id (heard_of net p talks x).link (hear_further p (talks x.from.id) (last net p x.from.id) (net.links p x.from.id) x) (λ p' q'. further_itself (net.links p' q')) p' q'

-- what is heard
pub comes_reached : (net : Net Ledger) (p : Party) (talks : Id → Bool) (x : Packet) → AckReaches net.links x.kind x → AreReached net → AreReached (comes net p talks (Some x))
comes_reached net p talks x n h =
    let links' = set_at net.links p x.from.id (heard_of net p talks x).link in
    let forward = comes_further net p talks x in
    record {
      links = λ p' q'. counts_stay net.links links' forward p' q' (links' p' q')
          (set_at_all (Counts net.links) net.links p x.from.id (heard_of net p talks x).link (hear_counts net.links p (talks x.from.id) (last net p x.from.id) (net.links p x.from.id) x n (h.links p x.from.id)).link h.links p' q');
      packets = acks_stay net.links links' forward net.packets h.packets;
    }

-- what is appended
publish_one_reached : (net : Net Ledger) (p : Party) (o : Offer) → AreReached net → AreReached (publish_one net p o)
publish_one_reached net p o h = either AreReached (o.even_if_equal || not (same_ledger (present net p o.to) o.ledger)) (move net (Posts p o.to o.ledger)) net (λ _. record { links = h.links; packets = h.packets }) (λ _. h)

pub publish_reached : (net : Net Ledger) (p : Party) (os : List Offer) → AreReached net → AreReached (publish net p os)
publish_reached net p [] h = h
publish_reached net p (o ∷ os) h = publish_reached (publish_one net p o) p os (publish_one_reached net p o h)

-- what an agent or an application makes of it
pub joined_reached : (net : Net Ledger) (p : Party) (x : Packet) (ledger : Ledger) → AckReaches net.links x.kind x → AreReached net → AreReached (joined net p x ledger)
joined_reached net p x ledger n h =
    let c = comes net p is_master (Some x) in
    let k = comes_reached net p is_master x n h in
    either AreReached (heard_of net p is_master x).fresh (publish c p (to_master ledger)) c (λ _. publish_reached c p (to_master ledger) k) (λ _. k)

-- what is sent
notes_reached : (net : Net Ledger) (p to : Party) (top : ℕ) (l : Link) → AllByRecursion (λ x. AckReaches net.links x.kind x) (notes p to top l)
notes_reached net p to top l =
    let P : List Packet → Type 0 = AllByRecursion (λ x. AckReaches net.links x.kind x) in
    let whole : Packet = record { from = p; to = to; kind = Full; inc = p.inc; seq = top } in
    let delta : ℕ → Packet = λ n. record { from = p; to = to; kind = Delta; inc = p.inc; seq = n } in
    let few = min turn_deltas (top - l.acked) in
    let deltas : P (map delta (numbers_from (l.acked + 1) few)) = in_numbers (λ x. AckReaches net.links x.kind x) delta (l.acked + 1) few (λ i le lt. tt) in
    either P (nat_eq l.known 0 || (nat_eq top 0 || nat_eq l.acked top)) [] (cond (nat_eq l.acked 0 || nat_lt kept_changes (top - l.acked)) (whole ∷ []) (map delta (numbers_from (l.acked + 1) few)))
    (λ _. tt) (λ _. either P (nat_eq l.acked 0 || nat_lt kept_changes (top - l.acked)) (whole ∷ []) (map delta (numbers_from (l.acked + 1) few)) (λ _. (tt, tt)) (λ _. deltas))

turn_reached : (net : Net Ledger) (p : Party) (q : Id) → AreReached net → AreReached (move net (Turns p q))
turn_reached net p q h =
    let l = net.links p q in
    let to : Party = record { id = q; inc = l.known } in
    record {
      links = h.links;
      packets = all_append (λ x. AckReaches net.links x.kind x) net.packets (turn net p q) h.packets
          (all_append (λ x. AckReaches net.links x.kind x) (notes p to (last net p q) l) (record { from = p; to = to; kind = Ack; inc = l.known; seq = l.seq } ∷ [])
          (notes_reached net p to (last net p q) l) (record { place = λ _. omega arith; before = λ lt. absurd (omega (arith, lt)) }, tt));
    }

pub send_all_reached : (net : Net Ledger) (p : Party) (qs : List Id) → AreReached net → AreReached (send_all net p qs)
send_all_reached net p [] h = h
send_all_reached net p (q ∷ qs) h = send_all_reached (move net (Turns p q)) p qs (turn_reached net p q h)

-- and what is no longer counted. Nobody's place changes
resync_reached : (net : Net Ledger) (p : Party) (q : Id) → AreReached net → AreReached (move net (Resyncs p q))
resync_reached net p q h =
    let l = net.links p q in
    let links' = set_at net.links p q (unacknowledged l) in
    record {
      links = λ p' q'. as_before p' q' (links' p' q') (set_at_all (Counts net.links) net.links p q (unacknowledged l) (reaches_none (net.links (record { id = q; inc = l.known }) p.id) p.inc) h.links p' q');
      packets = acks_same net.packets h.packets;
    }
  where
    same : (p' : Party) (q' : Id) → ((set_at net.links p q (unacknowledged (net.links p q)) p' q').known ≡ (net.links p' q').known) × ((set_at net.links p q (unacknowledged (net.links p q)) p' q').seq ≡ (net.links p' q').seq)
    same p' q' = set_at_all (λ p' q' (k : Link). (k.known ≡ (net.links p' q').known) × (k.seq ≡ (net.links p' q').seq)) net.links p q (unacknowledged (net.links p q)) (refl, refl) (λ p' q'. (refl, refl)) p' q'

    moved : (k l : Link) (inc n : ℕ) → (l.known ≡ k.known) × (l.seq ≡ k.seq) → Reaches k inc n → Reaches l inc n
    moved k l inc n e r = let a = e.0 in let b = e.1 in record { place = λ at. let x = r.place (sym a ∙ at) in omega (arith, b, x); before = λ lt. r.before (omega (arith, a, lt)) }

    as_before : (p' : Party) (q' : Id) (k : Link) → Counts net.links p' q' k → Counts (set_at net.links p q (unacknowledged (net.links p q))) p' q' k
    as_before p' q' k r = moved (net.links (record { id = q'; inc = k.known }) p'.id) (set_at net.links p q (unacknowledged (net.links p q)) (record { id = q'; inc = k.known }) p'.id) p'.inc k.acked (same (record { id = q'; inc = k.known }) p'.id) r

    ack_same : (k : Kind) (x : Packet) → AckReaches net.links k x → AckReaches (set_at net.links p q (unacknowledged (net.links p q))) k x
    ack_same Ack x r = moved (net.links x.from x.to.id) (set_at net.links p q (unacknowledged (net.links p q)) x.from x.to.id) x.inc x.seq (same x.from x.to.id) r
    ack_same Delta x r = r
    ack_same Full x r = r

    acks_same : (xs : List Packet) → AllByRecursion (λ x. AckReaches net.links x.kind x) xs → AllByRecursion (λ x. AckReaches (set_at net.links p q (unacknowledged (net.links p q))) x.kind x) xs
    acks_same [] r = tt
    acks_same (x ∷ xs) r = (ack_same x.kind x r.0, acks_same xs r.1)

pub resync_all_reached : (net : Net Ledger) (p : Party) (qs : List Id) → AreReached net → AreReached (resync_all net p qs)
resync_all_reached net p [] h = h
resync_all_reached net p (q ∷ qs) h = resync_all_reached (move net (Resyncs p q)) p qs (resync_reached net p q h)

-- a start of a party that knows nobody yet
pub start_reached : (net : Net Ledger) (links : Party → Id → Link) → ((p : Party) (q : Id) → links p q ≡ net.links p q) → AreReached net → AreReached (record net { links = links })
start_reached net links same h = record {
  links = λ p q. let e = same p q in subst (λ (k : Link). Reaches (links (record { id = q; inc = k.known }) p.id) p.inc k.acked) (sym e)
      (subst (λ (k : Link). Reaches k p.inc (net.links p q).acked) (sym (same (record { id = q; inc = (net.links p q).known }) p.id)) (h.links p q));
  packets = all net.packets h.packets;
}
  where
    each : (k : Kind) (x : Packet) → AckReaches net.links k x → AckReaches links k x
    each Ack x r = subst (λ (l : Link). Reaches l x.inc x.seq) (sym (same x.from x.to.id)) r
    each Delta x r = r
    each Full x r = r

    all : (xs : List Packet) → AllByRecursion (λ x. AckReaches net.links x.kind x) xs → AllByRecursion (λ x. AckReaches links x.kind x) xs
    all [] r = tt
    all (x ∷ xs) r = (each x.kind x r.0, all xs r.1)

-- the silent net
pub silent_reached : AreReached (silent {L = Ledger})
silent_reached = record { links = λ p q. reaches_none unknown p.inc; packets = tt }
