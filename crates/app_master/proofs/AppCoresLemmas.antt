-- A core that stands for an application still does after it heard a packet of the known master, and of a new one.
use Rattle.std.proofs.Common.{◌≡◌, ℕ, ◌<◌, true, false, cond, nat_eq, List, length, Result, Ok, Err, sym, ◌∙◌, ap, subst}
use Rattle.std.specs.Prelude.{IfOk, IfSome, Option, Some, None}
use Rattle.fuxi_terms.specs.Lists.{below}
use Rattle.fuxi_terms.specs.Tallies.{empty_tally}
use Rattle.fuxi_terms.specs.TallyKeys.{greatest_demand}
use Rattle.fuxi_terms.specs.declared.OutOfMemory.{OutOfMemory}
use Rattle.ledger_law.specs.Shapes.{IsTally}
use Rattle.fuxi_terms.proofs.Booleans.{both_true, number_is}
use Rattle.fuxi_terms.specs.declared.vectors.Res.{Res}
use Rattle.fuxi_terms.specs.declared.vectors.Sum.{Sum}
use Rattle.party_ledgers.specs.Packets.{IsFormed}
use Rattle.party_ledgers.specs.PacketHeaders.{header_of}
use Rattle.party_ledgers.specs.declared.header.Header.{Header}
use Rattle.party_ledgers.specs.declared.packets.Heard.{Heard}
use Rattle.party_ledgers.specs.declared.packets.Packet.{Packet}
use Rattle.spec_net.specs.Net.{same_id}
use Rattle.spec_net.specs.Channels.{app_id, is_master}
use Rattle.spec_net.specs.Ledgers.{Ledger}
use Rattle.spec_net.specs.Sides.{HeardSide, hears_side, shown, appended}
use Rattle.spec_roles.specs.Apps.{AppRole, app_party, app_told, no_excess, joined_demand, names, usable_of, carried_in, carry_of}
use Rattle.peer_channel.specs.Bodies.{tally_of}
use Rattle.peer_channel.specs.Parcels.{packet_of, parcel_is}
use Rattle.peer_channel.specs.CoreSides.{HearsAlike as SideHears}
use Rattle.app_master.specs.Usable.{carried_at, is_named, usable_in}
use Rattle.app_master.specs.AppCores.{AppCore, StandsFor, Up, IsUp, patched_demand}
use Rattle.app_master.specs.AppPackets.{is_between, is_for, HearsAlike}
use Rattle.app_master.proofs.CarriedLemmas.{carried_then}

-- a packet that is for the application comes from a master
pub comes_to : (x : Packet) (a : AppCore) (r : AppRole) → StandsFor a r → is_for x a.job ≡ true → ((packet_of x).to.id ≡ app_id r.job) × (is_master (packet_of x).from.id ≡ true)
comes_to x a r s mine =
    let to = (packet_of x).to.id in
    let parts = both_true (same_id to (app_id a.job)) (is_master (packet_of x).from.id) mine in
    let same = both_true (nat_eq to.role 3) (nat_eq to.number a.job) parts.0 in
    let role = number_is to.role 3 same.0 in
    let number = number_is to.number a.job same.1 ∙ s.job in
    (λ i. record { role = role i; number = number i }, parts.1)

-- of the known master: nothing but the side changes
stays : (a : AppCore) (up : Up) (steps : ℕ) (r : AppRole) (epoch : ℕ) (h : HeardSide) → h.fresh ≡ false → IsUp up r.boot h.side → StandsFor a r → StandsFor (record a { up = up; steps = steps }) (app_told r epoch h).role
stays a up steps r epoch h known side s = record {
  job = s.job;
  units = s.units;
  machines = s.machines;
  racks = s.racks;
  carried = λ u m lu lm. s.carried u m lu lm ∙ ap (λ b. carried_in (cond b (carry_of r.up.link r.up.got (shown r.up) r.boot r.units (below (length r.cluster.machines)) r.carried) r.carried) u m) (sym known);
  up = subst (λ b. IsUp up r.boot (cond b (appended false (joined_demand epoch (shown r.up)) h.side) h.side)) (sym known) side;
}

-- a packet of the known master is heard as the application by itself does
pub known_hears : (a : AppCore) (x : Packet) (up : Up) (steps : ℕ) → is_for x a.job ≡ true → (heard : Heard) → SideHears empty_tally patched_demand (IsTally greatest_demand) tally_of tally_of no_excess x a.up up heard → heard.fresh ≡ false → HearsAlike a x (record a { up = up; steps = steps }, heard)
known_hears a x up steps is heard hears known r s =
    let mine = comes_to x a r s is in
    let h = hears (app_party r) r.up s.up mine.0 in
    let side = hears_side (app_party r) true no_excess r.up (parcel_is x) in
    let role = stays a up steps r (parcel_is x).packet.from.inc side (sym h.fresh ∙ known) h.side s in
    record {
      role = subst (λ b. StandsFor (record a { up = up; steps = steps }) (app_told r (parcel_is x).packet.from.inc (hears_side (app_party r) b no_excess r.up (parcel_is x))).role) (sym mine.1) role;
      fresh = h.fresh ∙ ap (λ b. (hears_side (app_party r) b no_excess r.up (parcel_is x)).fresh) (sym mine.1);
      says = h.says ∙ ap (λ b. (hears_side (app_party r) b no_excess r.up (parcel_is x)).what) (sym mine.1);
    }

-- the same where it was heard
pub known_heard : (a : AppCore) (x : Packet) (up : Up) (steps : ℕ) → is_for x a.job ≡ true → (heard : Result Heard OutOfMemory) → IfOk heard (SideHears empty_tally patched_demand (IsTally greatest_demand) tally_of tally_of no_excess x a.up up) → IfOk heard (λ h. h.fresh ≡ false)
    → IfOk heard (λ h. HearsAlike a x (record a { up = up; steps = steps }, h))
known_heard a x up steps is (Ok heard) hears known = known_hears a x up steps is heard hears known
known_heard a x up steps is (Err fault) hears known = tt

-- a packet of which the header tells enough, where there is such an answer
pub left_as : (a : AppCore) (up : Up) (h : Header) → up ≡ a.up → is_between h.from h.to a.job ≡ true → (heard : Option Heard) → IfSome heard (λ t. t.fresh ≡ false)
    → IfSome heard (λ t. (x : Packet) → IsFormed x → header_of x ≡ h → (excess : Ledger → Option (Sum × Res)) → SideHears empty_tally patched_demand (IsTally greatest_demand) tally_of tally_of excess x up up t)
    → IfSome heard (λ t. (x : Packet) → IsFormed x → header_of x ≡ h → HearsAlike a x (a, t))
left_as a up h same mine (Some heard) known hears = λ x formed is.
    known_hears a x a.up a.steps (ap (λ (i : Header). is_between i.from i.to a.job) is ∙ mine) heard
    (subst (λ u. SideHears empty_tally patched_demand (IsTally greatest_demand) tally_of tally_of no_excess x u u heard) same (hears x formed is no_excess)) known
left_as a up h same mine None known hears = tt

-- of a new one: what was held is carried, and the demand is appended
pub joins : (a : AppCore) (up : Up) (counts : List (List ℕ)) (steps : ℕ) (r : AppRole) (epoch : ℕ) (h : HeardSide) → h.fresh ≡ true → IsUp up r.boot (appended false (joined_demand epoch (shown r.up)) h.side)
    → ((u m : ℕ) → u < a.units → m < a.machines → carried_at counts u m ≡ cond (is_named a.up.incoming.received m) (usable_in a.up.incoming.received a.up.outgoing.present a.up.outgoing.own u m) (carried_at a.carried u m))
    → StandsFor a r → StandsFor (record a { up = up; carried = counts; steps = steps }) (app_told r epoch h).role
joins a up counts steps r epoch h fresh side joined s = record {
  job = s.job;
  units = s.units;
  machines = s.machines;
  racks = s.racks;
  carried = λ u m lu lm.
      let got : tally_of a.up.incoming.received ≡ r.up.got = sym s.up.got in
      let own : tally_of a.up.outgoing.present ≡ shown r.up = sym s.up.shown in
      let here : cond (is_named a.up.incoming.received m) (usable_in a.up.incoming.received a.up.outgoing.present a.up.outgoing.own u m) (carried_at a.carried u m) ≡ cond (names r.up.got m) (usable_of r.up.got (shown r.up) r.boot u m) (carried_in r.carried u m)
      = λ i. cond (names (got i) m) (usable_of (got i) (own i) (s.up.own i) u m) (s.carried u m lu lm i) in
      joined u m lu lm ∙ here
      ∙ sym (carried_then r.up.link r.up.got (shown r.up) r.boot r.units (length r.cluster.machines) u m r.carried (subst (λ n. u < n) s.units lu) (subst (λ n. m < n) s.machines lm))
      ∙ ap (λ b. carried_in (cond b (carry_of r.up.link r.up.got (shown r.up) r.boot r.units (below (length r.cluster.machines)) r.carried) r.carried) u m) (sym fresh);
  up = subst (λ b. IsUp up r.boot (cond b (appended false (joined_demand epoch (shown r.up)) h.side) h.side)) (sym fresh) side;
}
