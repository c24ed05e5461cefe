-- Sides after posts, turns and resyncs, and the side of a party that hears its master.
use Rattle.std.proofs.Common.{◌≡◌, ℕ, Bool, true, false, cond, not, nat_eq, [], ◌∷◌, ◌++◌, length, Option, Some, refl, sym, ◌∙◌, ap, subst}
use Rattle.std.specs.Prelude.{◌&&◌, ◌||◌}
use Rattle.fuxi_terms.specs.declared.vectors.Res.{Res}
use Rattle.fuxi_terms.specs.declared.vectors.Sum.{Sum}
use Rattle.fuxi_terms.specs.declared.answers.What.TheVariants.{Stranger}
use Rattle.spec_net.specs.Sides.{appended, resynced_side, HeardSide, heard_with, hears_side}
use Rattle.spec_net.specs.Net.{Net, Party, Id, Link, Packet, Heard, same_id, same_party, set_at, unmoved, hear, heard_of, comes, move, Posts, Turns, Resyncs, last, at_index}
use Rattle.spec_refinement.specs.SeenWorlds.{received_as, got_at, side_at, side_of, parcel_of}
use Rattle.spec_refinement.specs.PartyJoins.{Leads}
use Rattle.spec_net.specs.Ledgers.{Ledger, nothing, same_ledger}
use Rattle.spec_net.specs.Channels.{master_id, party, is_master, present, Offer, publish_one, publish, to_master, shape}
use Rattle.spec_net.specs.Sound.{Sound, PacketNames}
use Rattle.spec_world.specs.Parties.{joined}
use Rattle.fuxi_terms.proofs.Booleans.{false_and}
use Rattle.spec_net.proofs.NetLemmas.{id_is, set_at_all}
use Rattle.spec_net.proofs.SoundLemmas.{Grows}
use Rattle.spec_net.proofs.PublishLemmas.{view_grows, Leaves, set_here, set_other}
use Rattle.spec_refinement.proofs.HeardJoin.{HeardAlike, hears_alike}

-- parties of two roles are two
apart : (p : Party) (q : Id) (inc : ℕ) → nat_eq p.id.role q.role ≡ false → same_party p (party q inc) ≡ false
apart p q inc e = false_and (same_id p.id q) (nat_eq p.inc inc) (false_and (nat_eq p.id.role q.role) (nat_eq p.id.number q.number) e)

posted_side : (net : Net Ledger) (p : Party) (q : Id) (l : Ledger) → nat_eq p.id.role q.role ≡ false
    → side_of (move net (Posts p q l)) p q ≡ record { link = net.links p q; got = got_at net p q (net.links p q); sent = net.histories p q ++ l ∷ [] }
posted_side net p q l e =
    let k = net.links p q in
    let own = set_here net.histories p q (net.histories p q ++ l ∷ []) in
    let other = set_other net.histories p q (net.histories p q ++ l ∷ []) (party q k.known) p.id (apart p q k.known e) in
    λ i. record { link = k; got = received_as p.id q (at_index nothing (other i) k.seq); sent = own i }

-- what is published to a peer is appended to the side
pub published_side : (net : Net Ledger) (p : Party) (o : Offer) → nat_eq p.id.role o.to.role ≡ false → side_of (publish_one net p o) p o.to ≡ appended o.even_if_equal o.ledger (side_of net p o.to)
published_side net p o e = cases (o.even_if_equal || not (same_ledger (present net p o.to) o.ledger))
  where
    cases : (b : Bool) → side_of (cond b (move net (Posts p o.to o.ledger)) net) p o.to ≡ cond b (record { link = net.links p o.to; got = got_at net p o.to (net.links p o.to); sent = net.histories p o.to ++ o.ledger ∷ [] }) (side_of net p o.to)
    cases true = posted_side net p o.to o.ledger e
    cases false = refl

-- Resyncs and turns
pub resynced_alike : (net : Net Ledger) (p : Party) (q : Id) → side_of (move net (Resyncs p q)) p q ≡ resynced_side (side_of net p q)
resynced_alike net p q = ap (side_at net p q) (set_here net.links p q (record { known = (net.links p q).known; seq = (net.links p q).seq; acked = 0 }))

-- a turn changes no side
pub turned_alike : (net : Net Ledger) (p : Party) (q : Id) → side_of (move net (Turns p q)) p q ≡ side_of net p q
turned_alike net p q = refl

-- A party that did not act sees what it saw
pub unmoved_side : (net net' : Net Ledger) (p p' : Party) (q : Id) → Sound shape net → Leaves p net net' → Grows shape net.histories net'.histories → same_party p p' ≡ false → side_of net' p' q ≡ side_of net p' q
unmoved_side net net' p p' q s l g e =
    let k = l.links p' q e in
    let v = view_grows net net' p' q s k g in
    let h = l.histories p' q e in
    λ i. record { link = k i; got = received_as p'.id q (v i); sent = h i }

-- Of a party that hears its master, and answers a new one with a ledger
pub record JoinedAlike (net : Net Ledger) (p : Party) (x : Packet) (ledger : Ledger) (a : HeardSide) : Type 0 where
  pub side : side_of (joined net p x ledger) p master_id ≡ cond a.fresh (appended false ledger a.side) a.side
  pub fresh : a.fresh ≡ (heard_of net p is_master x).fresh
  pub what : a.what ≡ (heard_of net p is_master x).what

-- the net in which it has heard
hearing : (net : Net Ledger) (p : Party) (x : Packet) (ledger : Ledger) (n : Net Ledger) (fresh : Bool) → nat_eq p.id.role 1 ≡ false
    → side_of (cond fresh (publish n p (to_master ledger)) n) p master_id ≡ cond fresh (appended false ledger (side_of n p master_id)) (side_of n p master_id)
hearing net p x ledger n true e = published_side n p (record { to = master_id; even_if_equal = false; ledger = ledger }) e
hearing net p x ledger n false e = refl

-- a packet for which the party has no ear
pub strange : (a : Bool) (y z : Heard) → cond (not (a && false)) y z ≡ y
strange true y z = refl
strange false y z = refl

module _ (net : Net Ledger) (p : Party) (x : Packet) (ledger : Ledger) (excess : Ledger → Option (Sum × Res)) where
  pub joined_alike : nat_eq p.id.role 1 ≡ false → PacketNames shape net.histories x.kind x → (x.from.id ≡ master_id → Leads excess x.from.id x.to.id (net.histories x.from x.to.id))
      → JoinedAlike net p x ledger (hears_side p (is_master x.from.id) excess (side_of net p master_id) (parcel_of net x))
  joined_alike role names leads = elim (is_master x.from.id) as (λ b. is_master x.from.id ≡ b → JoinedAlike net p x ledger (hears_side p (is_master x.from.id) excess (side_of net p master_id) (parcel_of net x))) [
    | true ↦ λ t. known (id_is x.from.id master_id t)
    | false ↦ λ t. unknown t
  ] refl
    where
      known : x.from.id ≡ master_id → JoinedAlike net p x ledger (hears_side p (is_master x.from.id) excess (side_of net p master_id) (parcel_of net x))
      known e =
          let h = heard_of net p is_master x in
          let n = comes net p is_master (Some x) in
          let a : HeardAlike net p x master_id h (hears_side p (is_master x.from.id) excess (side_of net p master_id) (parcel_of net x)) =
          subst (λ q. HeardAlike net p x q h (hears_side p (is_master x.from.id) excess (side_of net p q) (parcel_of net x))) e (hears_alike net p x excess (is_master x.from.id) names (leads e)) in
          let link : n.links p master_id ≡ h.link = ap (λ q. set_at net.links p q h.link p master_id) e ∙ set_here net.links p master_id h.link in
          let side = a.side ∙ sym (ap (side_at net p master_id) link) in
          record {
            side = hearing net p x ledger n h.fresh role ∙ (λ i. cond (sym a.fresh i) (appended false ledger (sym side i)) (sym side i));
            fresh = a.fresh;
            what = a.what;
          }

      unknown : is_master x.from.id ≡ false → JoinedAlike net p x ledger (hears_side p (is_master x.from.id) excess (side_of net p master_id) (parcel_of net x))
      unknown t =
          let h = heard_of net p is_master x in
          let n = comes net p is_master (Some x) in
          let l = net.links p x.from.id in
          let none : h ≡ unmoved Stranger l = ap (λ b. hear p b (last net p x.from.id) l x) t ∙ strange (same_id x.to.id p.id) (unmoved Stranger l) _ in
          let e = side_of net p master_id in
          let own : hears_side p (is_master x.from.id) excess e (parcel_of net x) ≡ record { fresh = false; what = Stranger; side = e } =
          ap (λ (k : Heard). heard_with k e (parcel_of net x) excess) (ap (λ b. hear p b (length e.sent) e.link x) t ∙ strange (same_id x.to.id p.id) (unmoved Stranger e.link) _) in
          let link : n.links p master_id ≡ net.links p master_id =
          ap (λ (k : Heard). set_at net.links p x.from.id k.link p master_id) none ∙ set_at_all (λ p' q' (k : Link). k ≡ net.links p' q') net.links p x.from.id l refl (λ p' q'. refl) p master_id in
          let side = ap (side_at net p master_id) link in
          subst (JoinedAlike net p x ledger) (sym own) (record {
            side = hearing net p x ledger n h.fresh role ∙ (λ i. cond ((ap (λ (k : Heard). k.fresh) none) i) (appended false ledger (side i)) (side i));
            fresh = sym (ap (λ (k : Heard). k.fresh) none);
            what = sym (ap (λ (k : Heard). k.what) none);
          })
