-- What a side hears by itself is what its party hears in the written world.
use Rattle.std.proofs.Common.{◌≡◌, ℕ, ◌+◌, ◌-◌, ◌<◌, ◌≤◌, Bool, true, false, cond, not, nat_eq, nat_lt, length, Option, None, Result, Ok, refl, sym, ◌∙◌, ap, arith}
use Rattle.std.specs.Prelude.{◌&&◌}
use Rattle.std.proofs.lemmas.Bool.Decides.{nat_tests}
use Rattle.fuxi_terms.specs.declared.vectors.Res.{Res}
use Rattle.fuxi_terms.specs.declared.vectors.Sum.{Sum}
use Rattle.fuxi_terms.specs.declared.answers.What.{What}
use Rattle.spec_net.specs.Sides.{patched_by, Took, tested, unless_excess, HeardSide, heard_as, heard_with, hears_side, taken_as}
use Rattle.spec_refinement.specs.SeenWorlds.{received_as, got_at, side_at, side_of, parcel_of}
use Rattle.spec_refinement.specs.PartyJoins.{Leads}
use Rattle.spec_net.specs.Net.{Net, Party, Id, Link, Packet, Kind, Ack, Delta, Full, Heard, same_id, met, acknowledge, place_moved, unmoved, hear, hear_peer, word_of, link_after, at_index}
use Rattle.fuxi_terms.specs.declared.answers.What.TheVariants.{Ledger as SaysLedger, Exceeds as SaysExceeds, Stranger, NotMine, Taken, Old, Gap, Stale, Ack as Acked}
use Rattle.spec_net.specs.Ledgers.{Ledger, nothing, row_ledger, report_ledger, tally_ledger, whole_body, change_body}
use Rattle.spec_net.specs.Channels.{party, is_agent, dropped_by, content, body_of, shape}
use Rattle.spec_net.specs.Sound.{PacketNames}
use Rattle.fuxi_terms.proofs.Booleans.{both_true, either, number_is, not_false}
use Rattle.spec_net.proofs.NetLemmas.{id_is}
use Rattle.spec_net.proofs.BoundedLemmas.{met_known}

received_nothing : (to from : Id) → received_as to from nothing ≡ nothing
received_nothing to from = cases (is_agent to) (is_agent from)
  where
    cases : (a b : Bool) → cond a (row_ledger nothing.rows) (cond b (report_ledger nothing.head nothing.rows) (tally_ledger nothing.head nothing.entries)) ≡ nothing
    cases true b = refl
    cases false true = refl
    cases false false = refl

whole_taken : (from to : Id) (got l : Ledger) → patched_by from got (whole_body (is_agent to) (is_agent from) l) ≡ Ok (received_as to from l)
whole_taken from to got l = cases (is_agent to) (is_agent from)
  where
    cases : (a b : Bool) → patched_by from got (whole_body a b l) ≡ Ok (cond a (row_ledger l.rows) (cond b (report_ledger l.head l.rows) (tally_ledger l.head l.entries)))
    cases true b = refl
    cases false true = refl
    cases false false = refl

tested_taken : (excess : Ledger → Option (Sum × Res)) (r : Result Ledger _) (l : Ledger) → r ≡ Ok l → excess l ≡ None → tested excess r ≡ Took l
tested_taken excess r l e n = ap (tested excess) e ∙ ap (unless_excess l) n

delta_next : (a b c : Bool) → cond a NotMine (cond b Taken (cond c Gap Old)) ≡ Taken → b ≡ true
delta_next true b c e = cc
delta_next false true c e = refl
delta_next false false true e = cc
delta_next false false false e = cc

-- of a side that was seen, what the world hears and what the side hears
pub record HeardAlike (net : Net Ledger) (p : Party) (x : Packet) (q : Id) (h : Heard) (a : HeardSide) : Type 0 where
  pub side : a.side ≡ side_at net p q h.link
  pub fresh : a.fresh ≡ h.fresh
  pub what : a.what ≡ h.what
  -- what is taken is the entry that the packet names
  pub took : h.what ≡ Taken → a.side.got ≡ received_as x.to.id x.from.id (content net x)

module _ (net : Net Ledger) (p : Party) (x : Packet) (excess : Ledger → Option (Sum × Res)) where
  -- what is received at the link after meeting
  kept : (l : Link) → cond (nat_lt l.known x.from.inc) nothing (got_at net p x.from.id l) ≡ got_at net p x.from.id (met l x.from.inc)
  kept l = cases (nat_lt l.known x.from.inc)
    where
      cases : (b : Bool) → cond b nothing (got_at net p x.from.id l) ≡ got_at net p x.from.id (cond b (record { known = x.from.inc; seq = 0; acked = 0 }) l)
      cases true = sym (received_nothing p.id x.from.id)
      cases false = refl

  -- the same entries, at the place of the packet's sender
  entries : (m : Link) → m.known ≡ x.from.inc → x.to.id ≡ p.id → (n : ℕ)
      → received_as p.id x.from.id (at_index nothing (net.histories (party x.from.id m.known) p.id) n) ≡ received_as x.to.id x.from.id (at_index nothing (net.histories x.from x.to.id) n)
  entries m known to n = λ i. received_as (sym to i) x.from.id (at_index nothing (net.histories (party x.from.id (known i)) (sym to i)) n)

  taken_content : (k : Kind) (m : Link) (got : Ledger) → m.known ≡ x.from.inc → x.to.id ≡ p.id → got ≡ got_at net p x.from.id m → word_of k p.inc m x ≡ Taken → PacketNames shape net.histories k x
      → Leads excess x.from.id x.to.id (net.histories x.from x.to.id) → tested excess (patched_by x.from.id got (body_of net k x)) ≡ Took (got_at net p x.from.id (place_moved m x.seq))
  taken_content Ack m got known to is w names leads = cc
  taken_content Full m got known to is w names leads =
      tested_taken excess _ _ (whole_taken x.from.id x.to.id got (at_index nothing (net.histories x.from x.to.id) x.seq)) (leads.fit x.seq names.names.there)
      ∙ ap Took (sym (entries m known to x.seq))
  taken_content Delta m got known to is w names leads =
      let h = net.histories x.from x.to.id in
      let next = both_true (nat_eq x.seq (m.seq + 1)) (nat_lt 1 x.seq) (delta_next _ _ _ w) in
      let follows : x.seq ≡ m.seq + 1 = number_is _ _ next.0 in
      let later : 1 < x.seq = grind (arith, nat_tests, next.1) in
      let one : 1 ≤ m.seq = omega (arith, follows, later) in
      let before : x.seq - 1 ≡ m.seq = omega (arith, follows) in
      let at : got ≡ received_as x.to.id x.from.id (at_index nothing h m.seq) = is ∙ entries m known to m.seq in
      let here : patched_by x.from.id got (body_of net Delta x) ≡ patched_by x.from.id (received_as x.to.id x.from.id (at_index nothing h m.seq)) (change_body (is_agent x.to.id) (is_agent x.from.id) (dropped_by x.from.id) (at_index nothing h m.seq) (at_index nothing h x.seq)) =
      λ i. patched_by x.from.id (at i) (change_body (is_agent x.to.id) (is_agent x.from.id) (dropped_by x.from.id) (at_index nothing h (before i)) (at_index nothing h x.seq)) in
      tested_taken excess _ _ (here ∙ leads.next m.seq x.seq one follows names.names.there) (leads.fit x.seq names.names.there)
      ∙ ap Took (sym (entries m known to x.seq))

  alike : (w : What) (fresh : Bool) (l m k : Link) → (w ≡ Taken → ⊥) → cond fresh nothing (got_at net p x.from.id l) ≡ got_at net p x.from.id k → heard_with (record { fresh = fresh; what = w; link = k }) (side_at net p x.from.id l) (parcel_of net x) excess ≡ heard_as (record { fresh = fresh; what = w; link = k }) (side_at net p x.from.id l) k (cond fresh nothing (got_at net p x.from.id l)) w
      → HeardAlike net p x x.from.id (record { fresh = fresh; what = w; link = k }) (heard_with (record { fresh = fresh; what = w; link = k }) (side_at net p x.from.id l) (parcel_of net x) excess)
  alike w fresh l m k other same as_ = record {
    side = ap (λ (a : HeardSide). a.side) as_ ∙ ap (λ (g : Ledger). record { link = k; got = g; sent = net.histories p x.from.id }) same;
    fresh = ap (λ (a : HeardSide). a.fresh) as_;
    what = ap (λ (a : HeardSide). a.what) as_;
    took = λ e. absurd (other e);
  }

  acknowledged_got : (own top : ℕ) (m : Link) → got_at net p x.from.id m ≡ got_at net p x.from.id (acknowledge own top m x)
  acknowledged_got own top m = cases (nat_eq x.inc own && (nat_lt m.acked x.seq && not (nat_lt top x.seq)))
    where
      cases : (b : Bool) → got_at net p x.from.id m ≡ got_at net p x.from.id (cond b (record { known = m.known; seq = m.seq; acked = x.seq }) m)
      cases true = refl
      cases false = refl

  by_word : (w : What) (fresh : Bool) (top : ℕ) (l m : Link) → cond fresh nothing (got_at net p x.from.id l) ≡ got_at net p x.from.id m → m.known ≡ x.from.inc → x.to.id ≡ p.id → word_of x.kind p.inc m x ≡ w → PacketNames shape net.histories x.kind x
      → Leads excess x.from.id x.to.id (net.histories x.from x.to.id)
      → HeardAlike net p x x.from.id (record { fresh = fresh; what = w; link = link_after w p.inc top m x }) (heard_with (record { fresh = fresh; what = w; link = link_after w p.inc top m x }) (side_at net p x.from.id l) (parcel_of net x) excess)
  by_word Stranger fresh top l m same known to e names leads = alike Stranger fresh l m m (λ e. cc) same refl
  by_word Stale fresh top l m same known to e names leads = alike Stale fresh l m m (λ e. cc) same refl
  by_word NotMine fresh top l m same known to e names leads = alike NotMine fresh l m m (λ e. cc) same refl
  by_word Old fresh top l m same known to e names leads = alike Old fresh l m m (λ e. cc) same refl
  by_word Gap fresh top l m same known to e names leads = alike Gap fresh l m m (λ e. cc) same refl
  by_word (SaysLedger fault) fresh top l m same known to e names leads = alike (SaysLedger fault) fresh l m m (λ e. cc) same refl
  by_word (SaysExceeds total has) fresh top l m same known to e names leads = alike (SaysExceeds total has) fresh l m m (λ e. cc) same refl
  by_word Acked fresh top l m same known to e names leads = alike Acked fresh l m (acknowledge p.inc top m x) (λ e. cc) (same ∙ acknowledged_got p.inc top m) refl
  by_word Taken fresh top l m same known to e names leads =
      let k = place_moved m x.seq in
      let h : Heard = record { fresh = fresh; what = Taken; link = k } in
      let took = taken_content x.kind m (cond fresh nothing (got_at net p x.from.id l)) known to same e names leads in
      record {
        side = ap (λ t. (taken_as h (side_at net p x.from.id l) x t).side) took;
        fresh = ap (λ t. (taken_as h (side_at net p x.from.id l) x t).fresh) took;
        what = ap (λ t. (taken_as h (side_at net p x.from.id l) x t).what) took;
        took = λ _. ap (λ t. (taken_as h (side_at net p x.from.id l) x t).side.got) took ∙ entries m known to x.seq;
      }

  -- what a side hears of a packet from its peer
  pub hears_alike : (talks : Bool) → PacketNames shape net.histories x.kind x → Leads excess x.from.id x.to.id (net.histories x.from x.to.id)
      → HeardAlike net p x x.from.id (hear p talks (length (net.histories p x.from.id)) (net.links p x.from.id) x) (hears_side p talks excess (side_of net p x.from.id) (parcel_of net x))
  hears_alike talks names leads =
      let l = net.links p x.from.id in
      let top = length (net.histories p x.from.id) in
      either (λ (h : Heard). HeardAlike net p x x.from.id h (heard_with h (side_at net p x.from.id l) (parcel_of net x) excess)) (not (same_id x.to.id p.id && talks)) (unmoved Stranger l) _
      (λ _. record { side = refl; fresh = refl; what = refl; took = λ e. cc })
      (λ mine. either (λ (h : Heard). HeardAlike net p x x.from.id h (heard_with h (side_at net p x.from.id l) (parcel_of net x) excess)) (nat_lt x.from.inc l.known) (unmoved Stale l) (hear_peer p.inc top l x)
      (λ _. record { side = refl; fresh = refl; what = refl; took = λ e. cc })
      (λ late. by_word (word_of x.kind p.inc (met l x.from.inc) x) (nat_lt l.known x.from.inc) top l (met l x.from.inc) (kept l) (met_known l x.from.inc late)
      (id_is x.to.id p.id (both_true (same_id x.to.id p.id) talks (not_false _ mine)).0) refl names leads))
