-- What one party does to the net: what it leaves, and that what it publishes is then the last entry.
use Rattle.std.proofs.Common.{◌≡◌, Bool, true, false, not, nat_eq, List, [], ◌∷◌, ◌++◌, length, length-append, Some, refl, sym, ◌∙◌, ap, subst, arith}
use Rattle.std.specs.Prelude.{◌&&◌, ◌||◌}
use Rattle.std.specs.List.{AllByRecursion}
use Rattle.fuxi_terms.specs.Keys.{key_cmp, row_cmp}
use Rattle.fuxi_terms.specs.Counts.{is_same}
use Rattle.spec_net.specs.Net.{Net, Party, Id, Link, Packet, set_at, unknown, same_id, same_party, Starts, Posts, Turns, Resyncs, comes, heard_of, move, at_index}
use Rattle.spec_net.specs.Ledgers.{Ledger, nothing, same_ledger}
use Rattle.spec_net.specs.Channels.{present, Offer, publish_one, publish, has_heads, shape, send_all, resync_all, view, party}
use Rattle.spec_net.specs.Sound.{Sound, Current}
use Rattle.fuxi_terms.proofs.Alls.{all_more}
use Rattle.fuxi_terms.proofs.Booleans.{both_true, either, number_is, both_false, not_false, nat_itself, false_and}
use Rattle.fuxi_terms.proofs.KeyOrders.{same_key, same_row_key}
use Rattle.spec_net.proofs.NetLemmas.{id_is, set_at_all}
use Rattle.spec_net.proofs.SoundLemmas.{Grows, Longer, longer_itself, at_end, posted_longer, posted_sound, move_sound}
use Rattle.fuxi_terms.proofs.SameEntries.{same_entries}

-- the tests find each the same as itself
pub same_id_itself : (q : Id) → same_id q q ≡ true
same_id_itself q = rw (nat_itself q.role, nat_itself q.number) refl

-- and each party
pub same_party_itself : (p : Party) → same_party p p ≡ true
same_party_itself p = rw (nat_itself p.id.role, nat_itself p.id.number, nat_itself p.inc) refl

-- ledgers that a test finds the same are the same
same_ledger_is : (a b : Ledger) → same_ledger a b ≡ true → a ≡ b
same_ledger_is a b t =
    let h = both_true (nat_eq a.head b.head) _ t in
    let k = both_true (is_same row_cmp a.rows b.rows) _ h.1 in
    let x = number_is a.head b.head h.0 in
    let y = same_entries row_cmp same_row_key a.rows b.rows k.0 in
    let z = same_entries key_cmp same_key a.entries b.entries k.1 in
    λ i. record { head = x i; rows = y i; entries = z i }

-- one value of a table of parties and peers
pub set_other : {A : Type 0} (f : Party → Id → A) (p : Party) (q : Id) (a : A) (p' : Party) (q' : Id) → same_party p p' ≡ false → set_at f p q a p' q' ≡ f p' q'
set_other {A = A} f p q a p' q' e = ap (λ b. elim b as (λ _. A) [ true ↦ a | false ↦ f p' q' ]) (false_and _ (same_id q q') e)

-- the changed place of a table of parties and peers
pub set_here : {A : Type 0} (f : Party → Id → A) (p : Party) (q : Id) (a : A) → set_at f p q a p q ≡ a
set_here {A = A} f p q a = ap (λ b. elim (b && same_id q q) as (λ _. A) [ true ↦ a | false ↦ f p q ]) (same_party_itself p) ∙ ap (λ b. elim b as (λ _. A) [ true ↦ a | false ↦ f p q ]) (same_id_itself q)

-- another peer of the same party
pub set_beside : {A : Type 0} (f : Party → Id → A) (p : Party) (q : Id) (a : A) (q' : Id) → same_id q q' ≡ false → set_at f p q a p q' ≡ f p q'
set_beside {A = A} f p q a q' e = ap (λ b. elim (b && same_id q q') as (λ _. A) [ true ↦ a | false ↦ f p q' ]) (same_party_itself p) ∙ ap (λ b. elim b as (λ _. A) [ true ↦ a | false ↦ f p q' ]) e

-- a party's act leaves what the others sent and what they know
pub record Leaves (p : Party) (net net' : Net Ledger) : Type 0 where
  pub histories : (p' : Party) (q : Id) → same_party p p' ≡ false → net'.histories p' q ≡ net.histories p' q
  pub links : (p' : Party) (q : Id) → same_party p p' ≡ false → net'.links p' q ≡ net.links p' q

-- nothing is changed
pub leaves_nothing : (p : Party) (net : Net Ledger) → Leaves p net net
leaves_nothing p net = record { histories = λ p' q' e. refl; links = λ p' q' e. refl }

-- one act after another
pub leaves_then : (p : Party) (a b c : Net Ledger) → Leaves p a b → Leaves p b c → Leaves p a c
leaves_then p a b c f g = record { histories = λ p' q' e. g.histories p' q' e ∙ f.histories p' q' e; links = λ p' q' e. g.links p' q' e ∙ f.links p' q' e }

-- a start
pub start_leaves : (net : Net Ledger) (p : Party) → Leaves p net (move net (Starts p))
start_leaves net p = record { histories = λ p' q' e. refl; links = λ p' q' e. ap (λ b. elim b as (λ _. Link) [ true ↦ unknown | false ↦ net.links p' q' ]) e }

post_leaves : (net : Net Ledger) (p : Party) (q : Id) (entry : Ledger) → Leaves p net (move net (Posts p q entry))
post_leaves net p q entry = record { histories = λ p' q' e. set_other net.histories p q _ p' q' e; links = λ p' q' e. refl }

-- hearing
pub comes_leaves : (net : Net Ledger) (p : Party) (talks : Id → Bool) (x : Packet) → Leaves p net (comes net p talks (Some x))
comes_leaves net p talks x = record { histories = λ p' q' e. refl; links = λ p' q' e. set_other net.links p x.from.id (heard_of net p talks x).link p' q' e }

-- Publishing leaves all links
publish_one_links : (net : Net Ledger) (p : Party) (o : Offer) → (publish_one net p o).links ≡ net.links
publish_one_links net p o = either (λ (n : Net Ledger). n.links ≡ net.links) _ _ _ (λ _. refl) (λ _. refl)

-- publishing changes no link
pub publish_links : (net : Net Ledger) (p : Party) (os : List Offer) → (publish net p os).links ≡ net.links
publish_links net p [] = refl
publish_links net p (o ∷ os) = publish_links (publish_one net p o) p os ∙ publish_one_links net p o

publish_one_leaves : (net : Net Ledger) (p : Party) (o : Offer) → Leaves p net (publish_one net p o)
publish_one_leaves net p o = either (Leaves p net) _ _ _ (λ _. post_leaves net p o.to o.ledger) (λ _. leaves_nothing p net)

-- and leaves the others
pub publish_leaves : (net : Net Ledger) (p : Party) (os : List Offer) → Leaves p net (publish net p os)
publish_leaves net p [] = leaves_nothing p net
publish_leaves net p (o ∷ os) = leaves_then p net (publish_one net p o) (publish (publish_one net p o) p os) (publish_one_leaves net p o) (publish_leaves (publish_one net p o) p os)

-- Histories only grow
pub grows_itself : (net : Net Ledger) → Grows shape net.histories net.histories
grows_itself net = record { longer = λ p q. longer_itself nothing (net.histories p q) }

longer_then : (h i j : List Ledger) → Longer nothing h i → Longer nothing i j → Longer nothing h j
longer_then h i j a b = record { long = omega (arith, a.long, b.long); same = λ n le. b.same n (omega (arith, le, a.long)) ∙ a.same n le }

-- one growth after another
pub grows_then : (a b c : Net Ledger) → Grows shape a.histories b.histories → Grows shape b.histories c.histories → Grows shape a.histories c.histories
grows_then a b c f g = record { longer = λ p q. longer_then _ _ _ (f.longer p q) (g.longer p q) }

publish_one_grows : (net : Net Ledger) (p : Party) (o : Offer) → Grows shape net.histories (publish_one net p o).histories
publish_one_grows net p o = either (λ (n : Net Ledger). Grows shape net.histories n.histories) _ _ _ (λ _. posted_longer shape net p o.to o.ledger) (λ _. grows_itself net)

-- publishing lets histories grow
pub publish_grows : (net : Net Ledger) (p : Party) (os : List Offer) → Grows shape net.histories (publish net p os).histories
publish_grows net p [] = grows_itself net
publish_grows net p (o ∷ os) = grows_then net (publish_one net p o) (publish (publish_one net p o) p os) (publish_one_grows net p o) (publish_grows (publish_one net p o) p os)

-- what was received stays, where the place does
pub view_grows : (net net' : Net Ledger) (p : Party) (q : Id) → Sound shape net → net'.links p q ≡ net.links p q → Grows shape net.histories net'.histories → view net' p q ≡ view net p q
view_grows net net' p q s same g = ap (λ (l : Link). at_index nothing (net'.histories (party q l.known) p.id) l.seq) same
    ∙ (g.longer (party q (net.links p q).known) p.id).same (net.links p q).seq (s.links p q).place.there

-- what is published has the heads that are known
pub record HeadIsKnown (net : Net Ledger) (p : Party) (o : Offer) : Type 0 where
  pub head : has_heads p.id o.to ≡ true → o.ledger.head ≡ (net.links p o.to).known

publish_one_sound : (net : Net Ledger) (p : Party) (o : Offer) → HeadIsKnown net p o → Sound shape net → Sound shape (publish_one net p o)
publish_one_sound net p o h s = either (Sound shape) _ _ _ (λ _. posted_sound shape net p o.to o.ledger h.head s) (λ _. s)

-- publishing keeps a net sound, where each ledger has the head that is known
pub publish_sound : (net : Net Ledger) (p : Party) (os : List Offer) → AllByRecursion (HeadIsKnown net p) os → Sound shape net → Sound shape (publish net p os)
publish_sound net p [] h s = s
publish_sound net p (o ∷ os) h s = publish_sound (publish_one net p o) p os
    (all_more (HeadIsKnown net p) (HeadIsKnown (publish_one net p o) p) (λ r k. record { head = λ hd. k.head hd ∙ ap (λ (l : Party → Id → Link). (l p r.to).known) (sym (publish_one_links net p o)) }) os h.1)
    (publish_one_sound net p o h.0 s)

-- what is published is the last entry
record Presents (net : Net Ledger) (p : Party) (q : Id) (l : Ledger) : Type 0 where
  last : present net p q ≡ l

posted_present : (h : List Ledger) (x : Ledger) → at_index nothing (h ++ x ∷ []) (length (h ++ x ∷ [])) ≡ x
posted_present h x = at_end nothing h x (length (h ++ x ∷ [])) (simp length-append (omega arith))

publish_one_presents : (net : Net Ledger) (p : Party) (o : Offer) → Presents (publish_one net p o) p o.to o.ledger
publish_one_presents net p o = either (λ n. Presents n p o.to o.ledger) (o.even_if_equal || not (same_ledger (present net p o.to) o.ledger)) (move net (Posts p o.to o.ledger)) net
    (λ _. record { last = ap (λ (h : List Ledger). at_index nothing h (length h)) (set_here net.histories p o.to (net.histories p o.to ++ o.ledger ∷ [])) ∙ posted_present (net.histories p o.to) o.ledger })
    (λ e. record { last = same_ledger_is _ _ (not_false _ (both_false o.even_if_equal _ e).1) })

publish_one_beside : (net : Net Ledger) (p : Party) (o : Offer) (q : Id) → same_id o.to q ≡ false → Presents (publish_one net p o) p q (present net p q)
publish_one_beside net p o q e = either (λ n. Presents n p q (present net p q)) (o.even_if_equal || not (same_ledger (present net p o.to) o.ledger)) (move net (Posts p o.to o.ledger)) net
    (λ _. record { last = ap (λ (h : List Ledger). at_index nothing h (length h)) (set_beside net.histories p o.to (net.histories p o.to ++ o.ledger ∷ []) q e) })
    (λ _. record { last = refl })

-- W is what is wanted at each peer, and each offer is what is wanted
pub record IsWanted (W : Id → Ledger) (o : Offer) : Type 0 where
  pub wanted : o.ledger ≡ W o.to

publish_one_wanted : (W : Id → Ledger) (net : Net Ledger) (p : Party) (o : Offer) (q : Id) → IsWanted W o → (same_id o.to q ≡ false → present net p q ≡ W q) → Presents (publish_one net p o) p q (W q)
publish_one_wanted W net p o q h before = elim (same_id o.to q) as (λ b. same_id o.to q ≡ b → Presents (publish_one net p o) p q (W q)) [
  | true ↦ λ e. subst (λ d. Presents (publish_one net p o) p d (W d)) (id_is o.to q e) (record { last = (publish_one_presents net p o).last ∙ h.wanted })
  | false ↦ λ e. record { last = (publish_one_beside net p o q e).last ∙ before e }
] refl

-- what is wanted stays the last entry
publish_keeps : (W : Id → Ledger) (net : Net Ledger) (p : Party) (os : List Offer) (q : Id) → AllByRecursion (IsWanted W) os → present net p q ≡ W q → present (publish net p os) p q ≡ W q
publish_keeps W net p [] q h before = before
publish_keeps W net p (o ∷ os) q h before = publish_keeps W (publish_one net p o) p os q h.1 (publish_one_wanted W net p o q h.0 (λ _. before)).last

-- after publishing, each offer's ledger is the last entry
pub publish_presents : (W : Id → Ledger) (net : Net Ledger) (p : Party) (os : List Offer) → AllByRecursion (IsWanted W) os → AllByRecursion (λ o. present (publish net p os) p o.to ≡ W o.to) os
publish_presents W net p [] h = tt
publish_presents W net p (o ∷ os) h = (
  publish_keeps W (publish_one net p o) p os o.to h.1 ((publish_one_presents net p o).last ∙ h.0.wanted),
  publish_presents W (publish_one net p o) p os h.1,
)

-- Turns and resyncs to many peers leave all histories, and what is known
pub record Acted (p : Party) (net net' : Net Ledger) : Type 0 where
  pub sound : Sound shape net'
  pub histories : net'.histories ≡ net.histories
  pub known : (q : Id) → (net'.links p q).known ≡ (net.links p q).known
  pub seq : (q : Id) → (net'.links p q).seq ≡ (net.links p q).seq
  pub leaves : Leaves p net net'

-- turns to many peers
pub send_all_acted : (net : Net Ledger) (p : Party) (qs : List Id) → AllByRecursion (λ q. Current shape net p q) qs → Sound shape net → Acted p net (send_all net p qs)
send_all_acted net p [] h s = record { sound = s; histories = refl; known = λ q. refl; seq = λ q. refl; leaves = leaves_nothing p net }
send_all_acted net p (q ∷ qs) h s =
    let next = move net (Turns p q) in
    let r = send_all_acted next p qs (same qs h.1) (move_sound shape net (Turns p q) refl h.0 s) in
    record { sound = r.sound; histories = r.histories; known = r.known; seq = r.seq; leaves = leaves_then p net next (send_all next p qs) (record { histories = λ p' q' e. refl; links = λ p' q' e. refl }) r.leaves }
  where
    same : (qs : List Id) → AllByRecursion (λ q. Current shape net p q) qs → AllByRecursion (λ r. Current shape (move net (Turns p q)) p r) qs
    same [] h = tt
    same (r ∷ rs) h = (record { head = h.0.head }, same rs h.1)

-- resyncs of many peers
pub resync_all_acted : (net : Net Ledger) (p : Party) (qs : List Id) → Sound shape net → Acted p net (resync_all net p qs)
resync_all_acted net p [] s = record { sound = s; histories = refl; known = λ q. refl; seq = λ q. refl; leaves = leaves_nothing p net }
resync_all_acted net p (q ∷ qs) s =
    let next = move net (Resyncs p q) in
    let r = resync_all_acted next p qs (move_sound shape net (Resyncs p q) refl tt s) in
    let l : Link = record { known = (net.links p q).known; seq = (net.links p q).seq; acked = 0 } in
    let same = set_at_all (λ p' q' (k : Link). (k.known ≡ (net.links p' q').known) × (k.seq ≡ (net.links p' q').seq)) net.links p q l (refl, refl) (λ p' q'. (refl, refl)) in
    record {
      sound = r.sound;
      histories = r.histories;
      known = λ q'. r.known q' ∙ (same p q').0;
      seq = λ q'. r.seq q' ∙ (same p q').1;
      leaves = leaves_then p net next (resync_all next p qs) (record { histories = λ p' q' e. refl; links = λ p' q' e. set_other net.links p q l p' q' e }) r.leaves;
    }
