-- Each move keeps places, acknowledged indices and packets within their histories.
use Rattle.std.proofs.Common.{◌≡◌, ℕ, zero, suc, ◌+◌, ◌-◌, ◌<◌, ◌≤◌, Bool, false, cond, not, nat_eq, nat_lt, List, [], ◌∷◌, ◌++◌, length, length-append, map, Option, Some, None, slice_get, refl, sym, subst, arith, min}
use Rattle.std.specs.Prelude.{◌&&◌, ◌||◌}
use Rattle.std.specs.List.{AllByRecursion}
use Rattle.std.proofs.lemmas.Bool.Decides.{nat_tests}
use Rattle.fuxi_terms.specs.Lists.{numbers_from}
use Rattle.spec_net.specs.Net.{Net, Party, Id, Link, Packet, Kind, Ack, Delta, Full, Heard, last, set_at, unknown, silent, same_id, same_party, met, place_moved, unmoved, hear, hear_peer, heard_of, word_of, link_after, notes, turn, Move, Starts, Posts, Turns, Hears, Resyncs, comes, move}
use Rattle.fuxi_terms.specs.declared.answers.What.{What}
use Rattle.fuxi_terms.specs.declared.answers.What.TheVariants.{Stranger, NotMine, Taken, Old, Gap, Stale, Ack as Acked, Ledger, Exceeds}
use Rattle.fuxi_terms.specs.Limits.{kept_changes, turn_deltas}
use Rattle.spec_net.specs.Sound.{Bounded, IsLinkWithin, PacketWithin}
use Rattle.fuxi_terms.proofs.Alls.{all_append}
use Rattle.fuxi_terms.proofs.Booleans.{both_true, either, either_case, not_false}
use Rattle.spec_net.proofs.NetLemmas.{id_is, set_at_all}

-- after meeting the packet's sender its incarnation is the known one
pub met_known : (l : Link) (inc : ℕ) → nat_lt inc l.known ≡ false → (met l inc).known ≡ inc
met_known l inc e = either (λ (m : Link). m.known ≡ inc) (nat_lt l.known inc) (record { known = inc; seq = 0; acked = 0 }) l (λ _. refl) (λ t. grind (arith, nat_tests))

-- the n numbers from a on lie between
pub in_numbers : (P : Packet → Type 0) (f : ℕ → Packet) (a n : ℕ) → ((i : ℕ) → a ≤ i → i < a + n → P (f i)) → AllByRecursion P (map f (numbers_from a n))
in_numbers P f a zero h = tt
in_numbers P f a (suc n) h = (h a (omega arith) (omega arith), in_numbers P f (a + 1) n (λ i le lt. h i (omega arith) (omega arith)))

-- a packet of the list has what all have
pub found_within : (P : Packet → Type 0) (xs : List Packet) (i : ℕ) (x : Packet) → AllByRecursion P xs → slice_get xs i ≡ Some x → P x
found_within P [] i x h e = cc
found_within P (y ∷ ys) zero x h e = let same : y ≡ x = cc in subst P same h.0
found_within P (y ∷ ys) (suc i) x h e = found_within P ys i x h.1 e

module _ {L : Type 0} where
  -- histories only grow
  abbrev Grows : (hs hs' : Party → Id → List L) → Type 0
  Grows hs hs' = (p : Party) (q : Id) → length (hs p q) ≤ length (hs' p q)

  within_more : (hs hs' : Party → Id → List L) → Grows hs hs' → (k : Kind) (x : Packet) → PacketWithin hs k x → PacketWithin hs' k x
  within_more hs hs' grows Ack x h = omega (arith, grows (record { id = x.to.id; inc = x.inc }) x.from.id, h)
  within_more hs hs' grows Delta x h = omega (arith, grows x.from x.to.id, h)
  within_more hs hs' grows Full x h = omega (arith, grows x.from x.to.id, h)

  all_within_more : (hs hs' : Party → Id → List L) → Grows hs hs' → (xs : List Packet) → AllByRecursion (λ x. PacketWithin hs x.kind x) xs → AllByRecursion (λ x. PacketWithin hs' x.kind x) xs
  all_within_more hs hs' grows [] h = tt
  all_within_more hs hs' grows (x ∷ xs) h = (within_more hs hs' grows x.kind x h.0, all_within_more hs hs' grows xs h.1)

  record HeardWithin (hs : Party → Id → List L) (p : Party) (q : Id) (r : Heard) : Type 0 where
    link : IsLinkWithin hs p q r.link

  fresh_within : (hs : Party → Id → List L) (p : Party) (q : Id) (n : ℕ) → IsLinkWithin hs p q (record { known = n; seq = 0; acked = 0 })
  fresh_within hs p q n = record { place = omega arith; acked = omega arith }

  met_within : (hs : Party → Id → List L) (p : Party) (q : Id) (l : Link) (inc : ℕ) → IsLinkWithin hs p q l → IsLinkWithin hs p q (met l inc)
  met_within hs p q l inc h = either (IsLinkWithin hs p q) _ _ _ (λ _. fresh_within hs p q inc) (λ _. h)

  moved_within : (hs : Party → Id → List L) (p : Party) (l : Link) (x : Packet) → l.known ≡ x.from.inc → x.to.id ≡ p.id → x.seq ≤ length (hs x.from x.to.id) → IsLinkWithin hs p x.from.id l → IsLinkWithin hs p x.from.id (place_moved l x.seq)
  moved_within hs p l x known to bound h = record {
    place = subst (λ i. x.seq ≤ length (hs (record { id = x.from.id; inc = i }) p.id)) (sym known) (subst (λ d. x.seq ≤ length (hs x.from d)) to bound);
    acked = h.acked;
  }

  -- what is taken has a content
  taken_within : (hs : Party → Id → List L) (k : Kind) (own : ℕ) (l : Link) (x : Packet) → word_of k own l x ≡ Taken → PacketWithin hs k x → x.seq ≤ length (hs x.from x.to.id)
  taken_within hs Ack own l x e h = cc
  taken_within hs Delta own l x e h = h
  taken_within hs Full own l x e h = h

  after_within : (hs : Party → Id → List L) (p : Party) (w : What) (l : Link) (x : Packet) → l.known ≡ x.from.inc → x.to.id ≡ p.id → (w ≡ Taken → x.seq ≤ length (hs x.from x.to.id)) → IsLinkWithin hs p x.from.id l
      → IsLinkWithin hs p x.from.id (link_after w p.inc (length (hs p x.from.id)) l x)
  after_within hs p Taken l x known to bound h = moved_within hs p l x known to (bound refl) h
  after_within hs p Acked l x known to bound h = either (IsLinkWithin hs p x.from.id) _ _ _
      (λ e. let t = (both_true (nat_lt l.acked x.seq) (not (nat_lt (length (hs p x.from.id)) x.seq)) (both_true _ _ e).1).1 in record { place = h.place; acked = grind (arith, nat_tests, t) })
      (λ _. h)
  after_within hs p Stranger l x known to bound h = h
  after_within hs p Stale l x known to bound h = h
  after_within hs p NotMine l x known to bound h = h
  after_within hs p Old l x known to bound h = h
  after_within hs p Gap l x known to bound h = h
  after_within hs p (Ledger fault) l x known to bound h = h
  after_within hs p (Exceeds total has) l x known to bound h = h

  peer_within : (hs : Party → Id → List L) (p : Party) (l : Link) (x : Packet) → x.to.id ≡ p.id → nat_lt x.from.inc l.known ≡ false → PacketWithin hs x.kind x → IsLinkWithin hs p x.from.id l
      → HeardWithin hs p x.from.id (hear_peer p.inc (length (hs p x.from.id)) l x)
  peer_within hs p l x to t bound h = let m = met l x.from.inc in
      record { link = after_within hs p (word_of x.kind p.inc m x) m x (met_known l x.from.inc t) to (λ e. taken_within hs x.kind p.inc m x e bound) (met_within hs p x.from.id l x.from.inc h) }

  hear_within : (hs : Party → Id → List L) (p : Party) (talks : Bool) (l : Link) (x : Packet) → PacketWithin hs x.kind x → IsLinkWithin hs p x.from.id l → HeardWithin hs p x.from.id (hear p talks (length (hs p x.from.id)) l x)
  hear_within hs p talks l x bound h =
      let peer = hear_peer p.inc (length (hs p x.from.id)) l x in
      either (HeardWithin hs p x.from.id) (not (same_id x.to.id p.id && talks)) (unmoved Stranger l) (cond (nat_lt x.from.inc l.known) (unmoved Stale l) peer)
      (λ _. record { link = h })
      (λ ours. either (HeardWithin hs p x.from.id) (nat_lt x.from.inc l.known) (unmoved Stale l) peer
      (λ _. record { link = h })
      (λ t. peer_within hs p l x (id_is x.to.id p.id (both_true _ _ (not_false _ ours)).0) t bound h))

  -- what a turn sends is within
  notes_within : (hs : Party → Id → List L) (p : Party) (to : Party) (l : Link) → l.acked ≤ length (hs p to.id) → AllByRecursion (λ x. PacketWithin hs x.kind x) (notes p to (length (hs p to.id)) l)
  notes_within hs p to l acked =
      let top = length (hs p to.id) in
      let P : List Packet → Type 0 = AllByRecursion (λ x. PacketWithin hs x.kind x) in
      let full : Packet = record { from = p; to = to; kind = Full; inc = p.inc; seq = top } in
      let delta : ℕ → Packet = λ n. record { from = p; to = to; kind = Delta; inc = p.inc; seq = n } in
      let whole : P (full ∷ []) = (omega arith, tt) in
      let few = min turn_deltas (top - l.acked) in
      let deltas : P (map delta (numbers_from (l.acked + 1) few)) = in_numbers (λ x. PacketWithin hs x.kind x) delta (l.acked + 1) few (λ i le lt. omega arith) in
      either P (nat_eq l.known 0 || (nat_eq top 0 || nat_eq l.acked top)) [] (cond (nat_eq l.acked 0 || nat_lt kept_changes (top - l.acked)) (full ∷ []) (map delta (numbers_from (l.acked + 1) few)))
      (λ _. tt) (λ _. either P (nat_eq l.acked 0 || nat_lt kept_changes (top - l.acked)) (full ∷ []) (map delta (numbers_from (l.acked + 1) few)) (λ _. whole) (λ _. deltas))

  comes_bounded : (net : Net L) (p : Party) (talks : Id → Bool) (o : Option Packet) → ((x : Packet) → o ≡ Some x → PacketWithin net.histories x.kind x) → Bounded net → Bounded (comes net p talks o)
  comes_bounded net p talks None f b = b
  comes_bounded net p talks (Some x) f b = record {
    links = set_at_all (IsLinkWithin net.histories) net.links p x.from.id (heard_of net p talks x).link (hear_within net.histories p (talks x.from.id) (net.links p x.from.id) x (f x refl) (b.links p x.from.id)).link b.links;
    packets = b.packets;
  }

  -- an entry more
  posted_grows : (net : Net L) (p : Party) (q : Id) (entry : L) → Grows net.histories (set_at net.histories p q (net.histories p q ++ entry ∷ []))
  posted_grows net p q entry = set_at_all (λ p' q' h. length (net.histories p' q') ≤ length h) net.histories p q (net.histories p q ++ entry ∷ []) (simp length-append (omega arith)) (λ p' q'. omega arith)

  link_more : (hs hs' : Party → Id → List L) → Grows hs hs' → (p : Party) (q : Id) (l : Link) → IsLinkWithin hs p q l → IsLinkWithin hs' p q l
  link_more hs hs' grows p q l h = record { place = omega (arith, h.place, grows (record { id = q; inc = l.known }) p.id); acked = omega (arith, h.acked, grows p q) }

  -- each move keeps everything within its history
  pub move_bounded : (net : Net L) (m : Move L) → Bounded net → Bounded (move net m)
  move_bounded net (Starts p) b = record {
    links = λ p' q'. either_case (IsLinkWithin net.histories p' q') (same_party p p') unknown (net.links p' q') (λ _. fresh_within net.histories p' q' 0) (λ _. b.links p' q');
    packets = b.packets;
  }
  move_bounded net (Posts p q entry) b = let grows = posted_grows net p q entry in record {
    links = λ p' q'. link_more net.histories (set_at net.histories p q (net.histories p q ++ entry ∷ [])) grows p' q' (net.links p' q') (b.links p' q');
    packets = all_within_more net.histories (set_at net.histories p q (net.histories p q ++ entry ∷ [])) grows net.packets b.packets;
  }
  move_bounded net (Turns p q) b = let l = net.links p q in record {
    links = b.links;
    packets = all_append (λ x. PacketWithin net.histories x.kind x) net.packets (turn net p q) b.packets
        (all_append (λ x. PacketWithin net.histories x.kind x) (notes p (record { id = q; inc = l.known }) (last net p q) l) (record { from = p; to = record { id = q; inc = l.known }; kind = Ack; inc = l.known; seq = l.seq } ∷ [])
        (notes_within net.histories p (record { id = q; inc = l.known }) l (b.links p q).acked) ((b.links p q).place, tt));
  }
  move_bounded net (Hears p talks which) b = comes_bounded net p talks (slice_get net.packets which) (λ x e. found_within (λ x. PacketWithin net.histories x.kind x) net.packets which x b.packets e) b
  move_bounded net (Resyncs p q) b = record {
    links = set_at_all (IsLinkWithin net.histories) net.links p q (record { known = (net.links p q).known; seq = (net.links p q).seq; acked = 0 }) (record { place = (b.links p q).place; acked = omega arith }) b.links;
    packets = b.packets;
  }

  -- the silent net has nothing past its end
  pub silent_bounded : Bounded (silent {L = L})
  silent_bounded = record { links = λ p q. record { place = omega arith; acked = omega arith }; packets = tt }
