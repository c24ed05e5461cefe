-- The steps of an agent in the written world are those of the agent by itself, and all other parties see what they saw.
use Rattle.std.proofs.Common.{◌≡◌, ℕ, Bool, true, false, cond, nat_eq, List, [], ◌∷◌, ◌++◌, map, Some, slice_get, refl, sym, ◌∙◌, ap}
use Rattle.std.proofs.lemmas.List.{map-append, append-nil}
use Rattle.fuxi_terms.specs.Padded.{padded}
use Rattle.fuxi_terms.specs.Cluster.{machine_of}
use Rattle.spec_net.specs.Sides.{Side, new_side, Parcel, turn_parcels}
use Rattle.spec_net.specs.Net.{Net, Party, Id, Link, unknown, Packet, heard_of, comes, move, Resyncs, turn}
use Rattle.spec_roles.specs.Agents.{row_excess, agent_turn, agent_resynced}
use Rattle.spec_refinement.specs.SeenWorlds.{side_at, side_of, parcel_of, has_of, agent_seen}
use Rattle.spec_refinement.specs.PartyJoins.{OneActs, AgentActs, Leads, AgentHearsAlike, AgentStarts}
use Rattle.spec_net.specs.Ledgers.{Ledger, row_ledger, report_ledger}
use Rattle.spec_net.specs.Channels.{master_id, agent_id, party, is_master, publish, to_master, resync_all, shape, HasJoined}
use Rattle.spec_world.specs.World.{World, Agent}
use Rattle.spec_world.specs.Parties.{joined, agent_table}
use Rattle.spec_world.specs.Events.{turn_to_master, resynced, turned, agent_started}
use Rattle.spec_net.specs.Sound.{Sound, PacketNames}
use Rattle.fuxi_terms.proofs.Booleans.{either}
use Rattle.spec_net.proofs.BoundedLemmas.{found_within}
use Rattle.spec_net.proofs.SoundLemmas.{Grows}
use Rattle.spec_net.proofs.PublishLemmas.{Leaves, grows_itself, leaves_nothing, start_leaves, same_party_itself, resync_all_acted}
use Rattle.spec_world.proofs.PartiesKept.{joins}
use Rattle.spec_refinement.proofs.SidesLemmas.{joined_alike, unmoved_side, resynced_alike}
use Rattle.spec_refinement.proofs.ParcelsLemmas.{parcels_stay, turn_parcels_alike}

-- hearing and answering send nothing
pub joined_packets : (net : Net Ledger) (p : Party) (x : Packet) (l : Ledger) → (joined net p x l).packets ≡ net.packets
joined_packets net p x l = either (λ (n : Net Ledger). n.packets ≡ net.packets) (heard_of net p is_master x).fresh (publish (comes net p is_master (Some x)) p (to_master l)) (comes net p is_master (Some x))
    (λ _. either (λ (n : Net Ledger). n.packets ≡ net.packets) _ _ _ (λ _. refl) (λ _. refl)) (λ _. refl)

-- an act that sends nothing
pub quiet_acts : (net net' : Net Ledger) (p : Party) → Sound shape net → Leaves p net net' → Grows shape net.histories net'.histories → net'.packets ≡ net.packets → OneActs net net' p []
quiet_acts net net' p s l g same = record {
  others = λ p' q e. unmoved_side net net' p p' q s l g e;
  packets = ap (map (parcel_of net')) same ∙ parcels_stay net net' g net.packets s.packets ∙ sym (append-nil (map (parcel_of net) net.packets));
}

-- hearing
pub agent_hears_alike : (w : World) (m : ℕ) (g : Agent) (which : ℕ) (x : Packet) → slice_get w.net.packets which ≡ Some x → Sound shape w.net → HasJoined w.net (party (agent_id m) g.boot)
    → (x.from.id ≡ master_id → Leads (row_excess (has_of w m)) x.from.id x.to.id (w.net.histories x.from x.to.id)) → AgentHearsAlike w m g x
agent_hears_alike w m g which x there s h leads =
    let p = party (agent_id m) g.boot in
    let ledger = report_ledger x.from.inc (agent_table w.net p) in
    let names = found_within (λ y. PacketNames shape w.net.histories y.kind y) w.net.packets which x s.packets there in
    let a = joined_alike w.net p x ledger (row_excess (has_of w m)) refl names leads in
    let j = joins w.net p which x ledger there refl s h in
    record {
      acts = record {
        acts = quiet_acts w.net (joined w.net p x ledger) p s j.leaves j.grows (joined_packets w.net p x ledger);
        role = ap (λ (e : Side). record { machine = m; has = has_of w m; boot = g.boot; up = e }) a.side;
        rest = refl;
      };
      fresh = a.fresh;
      what = a.what;
    }

-- Resync and turn, of any party that talks to its master
pub resync_acts : (net : Net Ledger) (p : Party) → Sound shape net → OneActs net (resync_all net p (master_id ∷ [])) p []
resync_acts net p s = let r = resync_all_acted net p (master_id ∷ []) s in quiet_acts net (move net (Resyncs p master_id)) p s r.leaves (record { longer = (grows_itself net).longer }) refl

-- what a turn to the master does
pub record TurnActs (w w' : World) (p : Party) (sent : List Parcel) : Type 0 where
  pub acts : OneActs w.net w'.net p sent
  pub side : side_of w'.net p master_id ≡ side_of w.net p master_id
  pub rest : w' ≡ record w { net = w'.net }

-- a turn of any party that talks to its master
pub turn_acts : (w : World) (p : Party) → Sound shape w.net → TurnActs w (turn_to_master w p).world p (cond (nat_eq (w.net.links p master_id).known 0) [] (turn_parcels p master_id (side_of w.net p master_id)))
turn_acts w p s = by (nat_eq (w.net.links p master_id).known 0)
  where
    by : (b : Bool) → TurnActs w (cond b (record { world = w; lines = [] }) (turned w p (master_id ∷ []))).world p (cond b [] (turn_parcels p master_id (side_of w.net p master_id)))
    by true = record { acts = quiet_acts w.net w.net p s (leaves_nothing p w.net) (grows_itself w.net) refl; side = refl; rest = refl }
    by false = record {
      acts = record {
        others = λ p' q e. refl;
        packets = map-append (parcel_of w.net) w.net.packets (turn w.net p master_id) ∙ ap (λ l. map (parcel_of w.net) w.net.packets ++ l) (turn_parcels_alike w.net p master_id);
      };
      side = refl;
      rest = refl;
    }

-- resync
pub agent_resync_alike : (w : World) (m : ℕ) (g : Agent) → Sound shape w.net → AgentActs w (resynced w (party (agent_id m) g.boot) (master_id ∷ [])).world m g (agent_resynced (agent_seen w m g)) []
agent_resync_alike w m g s =
    let p = party (agent_id m) g.boot in
    record {
      acts = resync_acts w.net p s;
      role = ap (λ (e : Side). record { machine = m; has = has_of w m; boot = g.boot; up = e }) (resynced_alike w.net p master_id);
      rest = refl;
    }

-- turn
pub agent_turn_alike : (w : World) (m : ℕ) (g : Agent) → Sound shape w.net → AgentActs w (turn_to_master w (party (agent_id m) g.boot)).world m g (agent_seen w m g) (agent_turn (agent_seen w m g))
agent_turn_alike w m g s =
    let t = turn_acts w (party (agent_id m) g.boot) s in
    record {
      acts = t.acts;
      role = λ i. record { machine = m; has = padded (machine_of (same t i) m).has; boot = g.boot; up = t.side i };
      rest = t.rest;
    }
  where
    same : TurnActs w (turn_to_master w (party (agent_id m) g.boot)).world (party (agent_id m) g.boot) (agent_turn (agent_seen w m g)) → (turn_to_master w (party (agent_id m) g.boot)).world.cluster ≡ w.cluster
    same t = ap (λ (v : World). v.cluster) t.rest

-- A start: the histories of the new boot are empty
pub agent_start_alike : (w : World) (m b : ℕ) → Sound shape w.net → ((q : Id) → w.net.histories (party (agent_id m) b) q ≡ []) → AgentStarts w m b
agent_start_alike w m b s none =
    let p = party (agent_id m) b in
    let link : (agent_started w m b).net.links p master_id ≡ unknown = ap (λ c. elim c as (λ _. Link) [ true ↦ unknown | false ↦ w.net.links p master_id ]) (same_party_itself p) in
    let up : side_of (agent_started w m b).net p master_id ≡ new_side = ap (side_at (agent_started w m b).net p master_id) link ∙ ap (λ (h : List Ledger). record { link = unknown; got = row_ledger []; sent = h }) (none master_id) in
    record {
      now = record { boot = b };
      stands = refl;
      acts = quiet_acts w.net (agent_started w m b).net p s (start_leaves w.net p) (record { longer = (grows_itself w.net).longer }) refl;
      role = ap (λ (e : Side). record { machine = m; has = has_of w m; boot = b; up = e }) up;
    }
