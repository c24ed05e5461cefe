-- Each allowed move keeps a net sound.
use Rattle.std.proofs.Common.{◌≡◌, ℕ, zero, suc, ◌+◌, ◌-◌, ◌<◌, ◌≤◌, Bool, true, false, cond, not, nat_eq, nat_lt, List, [], ◌∷◌, ◌++◌, length, length-append, map, Option, Some, None, slice_get, refl, sym, ◌∙◌, ap, subst, arith, min}
use Rattle.std.specs.Prelude.{◌&&◌, ◌||◌}
use Rattle.std.specs.List.{AllByRecursion}
use Rattle.std.specs.Option.{unwrap_or}
use Rattle.std.proofs.lemmas.Bool.Decides.{nat_tests}
use Rattle.fuxi_terms.specs.Lists.{numbers_from}
use Rattle.spec_net.specs.Net.{Net, Party, Id, Link, Packet, Kind, Ack, Delta, Full, Heard, last, set_at, unknown, same_id, same_party, met, acknowledge, place_moved, unmoved, hear, hear_peer, heard_of, word_of, link_after, notes, turn, Move, Starts, Posts, Turns, Hears, Resyncs, comes, with_links, move, at_index}
use Rattle.fuxi_terms.specs.declared.answers.What.{What}
use Rattle.fuxi_terms.specs.declared.answers.What.TheVariants.{Stranger, NotMine, Taken, Old, Gap, Stale, Ack as Acked, Ledger, Exceeds}
use Rattle.fuxi_terms.specs.Limits.{kept_changes, turn_deltas}
use Rattle.spec_net.specs.Sound.{Shape, Names, NamesAt, PacketNames, LinkNames, Rising, Sound, Current, Allowed}
use Rattle.fuxi_terms.proofs.Alls.{all_append, all_more}
use Rattle.fuxi_terms.proofs.Booleans.{both_true, either, either_case, number_is, not_false, both_false}
use Rattle.spec_net.proofs.NetLemmas.{id_is, party_is, set_at_all}
use Rattle.spec_net.proofs.BoundedLemmas.{met_known, in_numbers, found_within}

-- what is heard as acknowledged is an Ack
pub acked_is : (k : Kind) (own : ℕ) (l : Link) (x : Packet) → word_of k own l x ≡ Acked → k ≡ Ack
acked_is Ack own l x e = refl
acked_is Delta own l x e = absurd (no (not (nat_eq x.to.inc own)) (nat_eq x.seq (l.seq + 1) && nat_lt 1 x.seq) (nat_lt l.seq x.seq) e)
  where
    no : (a b c : Bool) → cond a NotMine (cond b Taken (cond c Gap Old)) ≡ Acked → ⊥
    no true b c e = cc
    no false true c e = cc
    no false false true e = cc
    no false false false e = cc
acked_is Full own l x e = absurd (no (not (nat_eq x.to.inc own)) (nat_lt l.seq x.seq) e)
  where
    no : (a b : Bool) → cond a NotMine (cond b Taken Old) ≡ Acked → ⊥
    no true b e = cc
    no false true e = cc
    no false false e = cc

-- a history with more entries behind it
pub record Longer {L : Type 0} (d : L) (h h' : List L) : Type 0 where
  pub long : length h ≤ length h'
  pub same : (i : ℕ) → i ≤ length h → at_index d h' i ≡ at_index d h i

-- an entry of the first part of a longer history
pub at_front : {L : Type 0} (d : L) (h ks : List L) (i : ℕ) → i ≤ length h → at_index d (h ++ ks) i ≡ at_index d h i
at_front {L = L} d h ks zero le = refl
at_front {L = L} d h ks (suc i) le = ap (λ o. unwrap_or o d) (there h i (omega arith))
  where
    there : (h : List L) (i : ℕ) → i < length h → slice_get (h ++ ks) i ≡ slice_get h i
    there [] i lt = absurd (omega arith)
    there (x ∷ xs) zero lt = refl
    there (x ∷ xs) (suc i) lt = there xs i (omega arith)

-- the entry behind it
pub at_end : {L : Type 0} (d : L) (h : List L) (x : L) (n : ℕ) → n ≡ length h + 1 → at_index d (h ++ x ∷ []) n ≡ x
at_end {L = L} d h x zero e = absurd (omega arith)
at_end {L = L} d h x (suc n) e = ap (λ k. unwrap_or (slice_get (h ++ x ∷ []) k) d) same ∙ ap (λ o. unwrap_or o d) (there h)
  where
    same : n ≡ length h
    same = omega arith

    there : (h : List L) → slice_get (h ++ x ∷ []) (length h) ≡ Some x
    there [] = refl
    there (y ∷ h) = there h

-- a history begins with itself
pub longer_itself : {L : Type 0} (d : L) (h : List L) → Longer d h h
longer_itself d h = record { long = omega arith; same = λ i le. refl }

-- and with more behind it
pub longer_append : {L : Type 0} (d : L) (h ks : List L) → Longer d h (h ++ ks)
longer_append d h ks = record { long = simp length-append (omega arith); same = at_front d h ks }

module _ {L : Type 0} (S : Shape L) where
  -- all histories begin with what they were
  pub record Grows (hs hs' : Party → Id → List L) : Type 0 where
    pub longer : (p : Party) (q : Id) → Longer S.nothing (hs p q) (hs' p q)

  -- what was named stays named
  pub names_longer : (on : Bool) (h h' : List L) (n own : ℕ) → Longer S.nothing h h' → Names S on h n own → Names S on h' n own
  names_longer on h h' n own g k = record {
    there = omega (arith, g.long, k.there);
    head = λ hd pos. ap S.head (g.same n k.there) ∙ k.head hd pos;
  }

  names_more : (hs hs' : Party → Id → List L) → Grows hs hs' → (s : Party) (r : Id) (n own : ℕ) → NamesAt S hs s r n own → NamesAt S hs' s r n own
  names_more hs hs' g s r n own h = names_longer (S.headed s.id r) (hs s r) (hs' s r) n own (g.longer s r) h

  link_more : (hs hs' : Party → Id → List L) → Grows hs hs' → (p : Party) (q : Id) (l : Link) → LinkNames S hs p q l → LinkNames S hs' p q l
  link_more hs hs' g p q l h = record { place = names_more hs hs' g _ _ _ _ h.place; acked = names_more hs hs' g _ _ _ _ h.acked }

  packet_more : (hs hs' : Party → Id → List L) → Grows hs hs' → (k : Kind) (x : Packet) → PacketNames S hs k x → PacketNames S hs' k x
  packet_more hs hs' g Ack x h = names_more hs hs' g _ _ _ _ h
  packet_more hs hs' g Delta x h = record { own = h.own; first = h.first; names = names_more hs hs' g _ _ _ _ h.names }
  packet_more hs hs' g Full x h = record { own = h.own; first = h.first; names = names_more hs hs' g _ _ _ _ h.names }

  names_none : (hs : Party → Id → List L) (s : Party) (r : Id) (own : ℕ) → NamesAt S hs s r 0 own
  names_none hs s r own = record { there = omega arith; head = λ hd pos. absurd (omega arith) }

  fresh_names : (hs : Party → Id → List L) (p : Party) (q : Id) (n : ℕ) → LinkNames S hs p q (record { known = n; seq = 0; acked = 0 })
  fresh_names hs p q n = record { place = names_none hs _ _ _; acked = names_none hs _ _ _ }

  -- meeting a new incarnation keeps what a link names
  pub met_names : (hs : Party → Id → List L) (p : Party) (q : Id) (l : Link) (inc : ℕ) → LinkNames S hs p q l → LinkNames S hs p q (met l inc)
  met_names hs p q l inc h = either (LinkNames S hs p q) _ _ _ (λ _. fresh_names hs p q inc) (λ _. h)

  -- what is heard as taken is a change for the one who hears
  pub taken_names : (hs : Party → Id → List L) (k : Kind) (own : ℕ) (l : Link) (x : Packet) → word_of k own l x ≡ Taken → PacketNames S hs k x → NamesAt S hs x.from x.to.id x.seq own
  taken_names hs Ack own l x e h = cc
  taken_names hs Delta own l x e h = either (λ (w : What). w ≡ Taken → NamesAt S hs x.from x.to.id x.seq own) (not (nat_eq x.to.inc own)) NotMine _
      (λ t e. cc)
      (λ t e. let same : x.to.inc ≡ own = grind (arith, nat_tests) in subst (NamesAt S hs x.from x.to.id x.seq) same h.names) e
  taken_names hs Full own l x e h = either (λ (w : What). w ≡ Taken → NamesAt S hs x.from x.to.id x.seq own) (not (nat_eq x.to.inc own)) NotMine _
      (λ t e. cc)
      (λ t e. let same : x.to.inc ≡ own = grind (arith, nat_tests) in subst (NamesAt S hs x.from x.to.id x.seq) same h.names) e

  acked_names : (hs : Party → Id → List L) (k : Kind) (own : ℕ) (l : Link) (x : Packet) → word_of k own l x ≡ Acked → PacketNames S hs k x → NamesAt S hs (record { id = x.to.id; inc = x.inc }) x.from.id x.seq x.from.inc
  acked_names hs k own l x e h = subst (λ k. PacketNames S hs k x) (acked_is k own l x e) h

  moved_names : (hs : Party → Id → List L) (p : Party) (l : Link) (x : Packet) → l.known ≡ x.from.inc → x.to.id ≡ p.id → NamesAt S hs x.from x.to.id x.seq p.inc → LinkNames S hs p x.from.id l → LinkNames S hs p x.from.id (place_moved l x.seq)
  moved_names hs p l x known to n h = record {
    place = subst (λ i. NamesAt S hs (record { id = x.from.id; inc = i }) p.id x.seq p.inc) (sym known) (subst (λ d. NamesAt S hs x.from d x.seq p.inc) to n);
    acked = h.acked;
  }

  acknowledged_names : (hs : Party → Id → List L) (p : Party) (l : Link) (x : Packet) → l.known ≡ x.from.inc → x.to.id ≡ p.id → NamesAt S hs (record { id = x.to.id; inc = x.inc }) x.from.id x.seq x.from.inc → LinkNames S hs p x.from.id l → LinkNames S hs p x.from.id (acknowledge p.inc (length (hs p x.from.id)) l x)
  acknowledged_names hs p l x known to n h = either (LinkNames S hs p x.from.id) _ _ _
      (λ e. let first = both_true (nat_eq x.inc p.inc) (nat_lt l.acked x.seq && not (nat_lt (length (hs p x.from.id)) x.seq)) e in let own : x.inc ≡ p.inc = number_is x.inc p.inc first.0 in record {
        place = h.place;
        acked = subst (λ k. NamesAt S hs p x.from.id x.seq k) (sym known) (subst (λ i. NamesAt S hs (record { id = p.id; inc = i }) x.from.id x.seq x.from.inc) own (subst (λ d. NamesAt S hs (record { id = d; inc = x.inc }) x.from.id x.seq x.from.inc) to n));
      })
      (λ _. h)

  after_names : (hs : Party → Id → List L) (p : Party) (w : What) (l : Link) (x : Packet) → l.known ≡ x.from.inc → x.to.id ≡ p.id
      → (w ≡ Taken → NamesAt S hs x.from x.to.id x.seq p.inc) → (w ≡ Acked → NamesAt S hs (record { id = x.to.id; inc = x.inc }) x.from.id x.seq x.from.inc)
      → LinkNames S hs p x.from.id l → LinkNames S hs p x.from.id (link_after w p.inc (length (hs p x.from.id)) l x)
  after_names hs p Taken l x known to t a h = moved_names hs p l x known to (t refl) h
  after_names hs p Acked l x known to t a h = acknowledged_names hs p l x known to (a refl) h
  after_names hs p Stranger l x known to t a h = h
  after_names hs p Stale l x known to t a h = h
  after_names hs p NotMine l x known to t a h = h
  after_names hs p Old l x known to t a h = h
  after_names hs p Gap l x known to t a h = h
  after_names hs p (Ledger fault) l x known to t a h = h
  after_names hs p (Exceeds total has) l x known to t a h = h

  -- a link after hearing names what is there
  pub record HeardNames (hs : Party → Id → List L) (p : Party) (q : Id) (r : Heard) : Type 0 where
    pub link : LinkNames S hs p q r.link

  peer_names : (hs : Party → Id → List L) (p : Party) (l : Link) (x : Packet) → x.to.id ≡ p.id → nat_lt x.from.inc l.known ≡ false → PacketNames S hs x.kind x → LinkNames S hs p x.from.id l → HeardNames hs p x.from.id (hear_peer p.inc (length (hs p x.from.id)) l x)
  peer_names hs p l x to t n h = let m = met l x.from.inc in record {
    link = after_names hs p (word_of x.kind p.inc m x) m x (met_known l x.from.inc t) to (λ e. taken_names hs x.kind p.inc m x e n) (λ e. acked_names hs x.kind p.inc m x e n) (met_names hs p x.from.id l x.from.inc h);
  }

  -- the rules of hearing name what is there
  pub hear_names : (hs : Party → Id → List L) (p : Party) (talks : Bool) (l : Link) (x : Packet) → PacketNames S hs x.kind x → LinkNames S hs p x.from.id l → HeardNames hs p x.from.id (hear p talks (length (hs p x.from.id)) l x)
  hear_names hs p talks l x n h =
      let peer = hear_peer p.inc (length (hs p x.from.id)) l x in
      either (HeardNames hs p x.from.id) (not (same_id x.to.id p.id && talks)) (unmoved Stranger l) (cond (nat_lt x.from.inc l.known) (unmoved Stale l) peer)
      (λ _. record { link = h })
      (λ ours. either (HeardNames hs p x.from.id) (nat_lt x.from.inc l.known) (unmoved Stale l) peer
      (λ _. record { link = h })
      (λ t. peer_names hs p l x (id_is x.to.id p.id (both_true _ _ (not_false _ ours)).0) t n h))

  -- between an index that has the known head and the last, which has it too, each entry has it
  pub between : (net : Net L) (p : Party) (q : Id) (a n : ℕ) → Rising S (net.histories p q) (net.links p q).known → 1 ≤ n → a ≤ n → n ≤ last net p q
      → (1 ≤ a → S.head (at_index S.nothing (net.histories p q) a) ≡ (net.links p q).known) → 1 ≤ a → S.head (at_index S.nothing (net.histories p q) n) ≡ (net.links p q).known
  between net p q a n r pos le top at_a apos = omega (arith, r.rises a n le top, at_a apos, r.under n top)

  -- what a turn sends
  notes_names : (net : Net L) (p : Party) (q : Id) → Sound S net → Current S net p q → AllByRecursion (λ x. PacketNames S net.histories x.kind x) (notes p (record { id = q; inc = (net.links p q).known }) (last net p q) (net.links p q))
  notes_names net p q s c =
      let l = net.links p q in
      let top = last net p q in
      let to : Party = record { id = q; inc = l.known } in
      let P : List Packet → Type 0 = AllByRecursion (λ x. PacketNames S net.histories x.kind x) in
      let full : Packet = record { from = p; to = to; kind = Full; inc = p.inc; seq = top } in
      let delta : ℕ → Packet = λ n. record { from = p; to = to; kind = Delta; inc = p.inc; seq = n } in
      let few = min turn_deltas (top - l.acked) in
      let within = (s.links p q).acked.there in
      either P (nat_eq l.known 0 || (nat_eq top 0 || nat_eq l.acked top)) [] (cond (nat_eq l.acked 0 || nat_lt kept_changes (top - l.acked)) (full ∷ []) (map delta (numbers_from (l.acked + 1) few)))
      (λ _. tt) (λ some. either P (nat_eq l.acked 0 || nat_lt kept_changes (top - l.acked)) (full ∷ []) (map delta (numbers_from (l.acked + 1) few))
      (λ _. let pos : 1 ≤ top = grind (arith, nat_tests, (both_false (nat_eq top 0) (nat_eq l.acked top) (both_false (nat_eq l.known 0) (nat_eq top 0 || nat_eq l.acked top) some).1).0) in
      (record { own = refl; first = pos; names = record { there = omega arith; head = λ hd pos. c.head hd pos } }, tt))
      (λ no. let apos : 1 ≤ l.acked = grind (arith, nat_tests, both_false (nat_eq l.acked 0) (nat_lt kept_changes (top - l.acked)) no) in
      in_numbers (λ x. PacketNames S net.histories x.kind x) delta (l.acked + 1) few (λ i le lt. record {
        own = refl;
        first = omega arith;
        names = record {
          there = omega (arith, within);
          head = λ hd pos. between net p q l.acked i (s.heads p q hd) pos (omega arith) (omega (arith, within)) (λ a. (s.links p q).acked.head hd a) apos;
        };
      })))

  turned_sound : (net : Net L) (p : Party) (q : Id) → Sound S net → Current S net p q → Sound S (move net (Turns p q))
  turned_sound net p q s c = record {
    links = s.links;
    packets = all_append (λ x. PacketNames S net.histories x.kind x) net.packets (turn net p q) s.packets
        (all_append (λ x. PacketNames S net.histories x.kind x) (notes p (record { id = q; inc = (net.links p q).known }) (last net p q) (net.links p q)) _ (notes_names net p q s c) ((s.links p q).place, tt));
    heads = s.heads;
  }

  -- links that change
  links_sound : (net : Net L) → Sound S net → (links : Party → Id → Link) → ((p : Party) (q : Id) → LinkNames S net.histories p q (links p q))
      → ((p : Party) (q : Id) → S.headed p.id q ≡ true → Rising S (net.histories p q) (links p q).known) → Sound S (with_links net links)
  links_sound net s links h k = record { links = h; packets = s.packets; heads = k }

  rising_more : (h : List L) (k k' : ℕ) → k ≤ k' → Rising S h k → Rising S h k'
  rising_more h k k' le r = record { rises = r.rises; under = λ i within. omega (arith, le, r.under i within) }

  -- hearing never lowers what is known
  heard_known : (p : Party) (talks : Bool) (top : ℕ) (l : Link) (x : Packet) → l.known ≤ (hear p talks top l x).link.known
  heard_known p talks top l x =
      let peer = hear_peer p.inc top l x in
      let same : l.known ≤ l.known = omega arith in
      either (λ (h : Heard). l.known ≤ h.link.known) (not (same_id x.to.id p.id && talks)) (unmoved Stranger l) (cond (nat_lt x.from.inc l.known) (unmoved Stale l) peer)
      (λ _. same)
      (λ _. either (λ (h : Heard). l.known ≤ h.link.known) (nat_lt x.from.inc l.known) (unmoved Stale l) peer (λ _. same)
      (λ _. let w = word_of x.kind p.inc (met l x.from.inc) x in let a : (met l x.from.inc).known ≤ (link_after w p.inc top (met l x.from.inc) x).known = after w (met l x.from.inc) in omega (arith, met_more l x.from.inc, a)))
    where
      met_more : (l : Link) (inc : ℕ) → l.known ≤ (met l inc).known
      met_more l inc = either (λ (m : Link). l.known ≤ m.known) (nat_lt l.known inc) (record { known = inc; seq = 0; acked = 0 }) l (λ e. grind (arith, nat_tests)) (λ e. omega arith)

      after : (w : What) (m : Link) → m.known ≤ (link_after w p.inc top m x).known
      after Taken m = omega arith
      after Acked m = either (λ (k : Link). m.known ≤ k.known) (nat_eq x.inc p.inc && (nat_lt m.acked x.seq && not (nat_lt top x.seq))) (record { known = m.known; seq = m.seq; acked = x.seq }) m (λ _. omega arith) (λ _. omega arith)
      after Stranger m = omega arith
      after Stale m = omega arith
      after NotMine m = omega arith
      after Old m = omega arith
      after Gap m = omega arith
      after (Ledger fault) m = omega arith
      after (Exceeds total has) m = omega arith

  -- hearing keeps a net sound
  pub comes_sound : (net : Net L) (p : Party) (talks : Id → Bool) (o : Option Packet) → ((x : Packet) → o ≡ Some x → PacketNames S net.histories x.kind x) → Sound S net → Sound S (comes net p talks o)
  comes_sound net p talks None f s = s
  comes_sound net p talks (Some x) f s =
      let r = heard_of net p talks x in
      links_sound net s (set_at net.links p x.from.id r.link)
      (set_at_all (LinkNames S net.histories) net.links p x.from.id r.link (hear_names net.histories p (talks x.from.id) (net.links p x.from.id) x (f x refl) (s.links p x.from.id)).link s.links)
      (set_at_all (λ p' q' l. S.headed p'.id q' ≡ true → Rising S (net.histories p' q') l.known) net.links p x.from.id r.link
      (λ hd. rising_more _ _ _ (heard_known p (talks x.from.id) (last net p x.from.id) (net.links p x.from.id) x) (s.heads p x.from.id hd)) s.heads)

  -- an entry more
  pub posted_longer : (net : Net L) (p : Party) (q : Id) (entry : L) → Grows net.histories (move net (Posts p q entry)).histories
  posted_longer net p q entry = record { longer = set_at_all (λ p' q' h. Longer S.nothing (net.histories p' q') h) net.histories p q (net.histories p q ++ entry ∷ []) (longer_append S.nothing _ _) (λ p' q'. longer_itself S.nothing _) }

  rising_posted : (h : List L) (known : ℕ) (entry : L) → S.head entry ≡ known → Rising S h known → Rising S (h ++ entry ∷ []) known
  rising_posted h known entry e r = record { rises = rises; under = under }
    where
      long : length (h ++ entry ∷ []) ≡ length h + 1
      long = simp length-append (omega arith)

      head_at : (i : ℕ) → i ≤ length h → S.head (at_index S.nothing (h ++ entry ∷ []) i) ≡ S.head (at_index S.nothing h i)
      head_at i le = ap S.head (at_front S.nothing h (entry ∷ []) i le)

      head_end : (i : ℕ) → i ≡ length h + 1 → S.head (at_index S.nothing (h ++ entry ∷ []) i) ≡ known
      head_end i same = ap S.head (at_end S.nothing h entry i same) ∙ e

      under : (i : ℕ) → i ≤ length (h ++ entry ∷ []) → S.head (at_index S.nothing (h ++ entry ∷ []) i) ≤ known
      under i le = elim (nat_lt (length h) i) as (λ b. nat_lt (length h) i ≡ b → S.head (at_index S.nothing (h ++ entry ∷ []) i) ≤ known) [
        | true ↦ λ t. let above : length h < i = grind (arith, nat_tests) in omega (arith, head_end i (omega (arith, long, le, above)))
        | false ↦ λ t. let within : i ≤ length h = grind (arith, nat_tests) in omega (arith, head_at i within, r.under i within)
      ] refl

      rises : (i j : ℕ) → i ≤ j → j ≤ length (h ++ entry ∷ []) → S.head (at_index S.nothing (h ++ entry ∷ []) i) ≤ S.head (at_index S.nothing (h ++ entry ∷ []) j)
      rises i j ij le = elim (nat_lt (length h) j) as (λ b. nat_lt (length h) j ≡ b → S.head (at_index S.nothing (h ++ entry ∷ []) i) ≤ S.head (at_index S.nothing (h ++ entry ∷ []) j)) [
        | true ↦ λ t. let above : length h < j = grind (arith, nat_tests) in omega (arith, head_end j (omega (arith, long, le, above)), under i (omega (arith, ij, le)))
        | false ↦ λ t. let within : j ≤ length h = grind (arith, nat_tests) in omega (arith, head_at j within, head_at i (omega (arith, ij, within)), r.rises i j ij within)
      ] refl

  -- posting an entry with the known head keeps a net sound
  pub posted_sound : (net : Net L) (p : Party) (q : Id) (entry : L) → (S.headed p.id q ≡ true → S.head entry ≡ (net.links p q).known) → Sound S net → Sound S (move net (Posts p q entry))
  posted_sound net p q entry ok s =
      let net' = move net (Posts p q entry) in
      let g = posted_longer net p q entry in
      record {
        links = λ p' q'. link_more net.histories net'.histories g p' q' (net.links p' q') (s.links p' q');
        packets = all_more _ _ (λ x n. packet_more net.histories net'.histories g x.kind x n) net.packets s.packets;
        heads = set_at_all (λ p' q' h. S.headed p'.id q' ≡ true → Rising S h (net.links p' q').known) net.histories p q (net.histories p q ++ entry ∷ []) (λ hd. rising_posted _ _ entry (ok hd) (s.heads p q hd)) s.heads;
      }

  -- a party that starts has sent nothing
  started_sound : (net : Net L) (p : Party) → S.head S.nothing ≡ 0 → ((q : Id) → net.histories p q ≡ []) → Sound S net → Sound S (move net (Starts p))
  started_sound net p none empty s = links_sound net s _
      (λ p' q'. either_case (LinkNames S net.histories p' q') (same_party p p') unknown (net.links p' q') (λ _. fresh_names net.histories p' q' 0) (λ _. s.links p' q'))
      (λ p' q' hd. either_case (λ (l : Link). Rising S (net.histories p' q') l.known) (same_party p p') unknown (net.links p' q')
      (λ e. subst (λ h. Rising S h 0) (sym (ap (λ r. net.histories r q') (sym (party_is p p' e)) ∙ empty q')) silent_rising) (λ _. s.heads p' q' hd))
    where
      zero_at : (i : ℕ) → S.head (at_index S.nothing [] i) ≡ 0
      zero_at zero = none
      zero_at (suc i) = none

      silent_rising : Rising S [] 0
      silent_rising = record { rises = λ i j ij le. omega (arith, zero_at i); under = λ i le. omega (arith, zero_at i) }

  -- all moves
  pub move_sound : (net : Net L) (m : Move L) → S.head S.nothing ≡ 0 → Allowed S net m → Sound S net → Sound S (move net m)
  move_sound net (Starts p) none ok s = started_sound net p none ok s
  move_sound net (Posts p q entry) none ok s = posted_sound net p q entry ok s
  move_sound net (Turns p q) none ok s = turned_sound net p q s ok
  move_sound net (Hears p talks which) none ok s = comes_sound net p talks (slice_get net.packets which) (λ x e. found_within (λ x. PacketNames S net.histories x.kind x) net.packets which x s.packets e) s
  move_sound net (Resyncs p q) none ok s = links_sound net s _
      (set_at_all (LinkNames S net.histories) net.links p q _ (record { place = (s.links p q).place; acked = names_none net.histories p q _ }) s.links)
      (set_at_all (λ p' q' l. S.headed p'.id q' ≡ true → Rising S (net.histories p' q') l.known) net.links p q _ (s.heads p q) s.heads)
