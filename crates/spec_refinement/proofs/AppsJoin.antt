-- The steps of an application in the written world are those of the application by itself.
use Rattle.std.proofs.Common.{◌≡◌, ℕ, Bool, true, false, cond, List, [], ◌∷◌, length, Option, Some, None, Result, Ok, Err, slice_get, refl, sym, ◌∙◌, ap, subst}
use Rattle.std.specs.Ordering.{nat_cmp}
use Rattle.std.specs.FinMap.Entries.{find}
use Rattle.fuxi_terms.specs.declared.Key.{Key}
use Rattle.spec_net.specs.Net.{Net, Id, Link, Packet, heard_of, unknown}
use Rattle.spec_net.specs.Ledgers.{Ledger, nothing}
use Rattle.spec_net.specs.Channels.{master_id, app_id, party, is_master, publish, Offer, present, shape, HasJoined}
use Rattle.fuxi_terms.specs.Lists.{below}
use Rattle.spec_roles.specs.Refusals.{Refusal, NotRunning, first_refusal, with_found, unless_fault}
use Rattle.spec_world.specs.World.{World, App, Step, unless_refused, refused}
use Rattle.spec_roles.specs.Apps.{joined_demand, changed_demand, AppCommand, command_tests, command_key, command_number, AppRole, with_app_up, no_excess, app_hears_alone, demands_alone, commands_alone, app_turn, app_resynced, held_by}
use Rattle.spec_world.specs.Parties.{joined, carry, app_held}
use Rattle.spec_world.specs.Events.{at_app, demanded, asks, usable_now, given_back, turn_to_master, resynced, app_started}
use Rattle.spec_net.specs.Sound.{Sound, PacketNames}
use Rattle.fuxi_terms.proofs.Booleans.{either}
use Rattle.spec_net.proofs.BoundedLemmas.{found_within}
use Rattle.spec_net.proofs.PublishLemmas.{publish_leaves, publish_grows, grows_itself, same_party_itself, start_leaves}
use Rattle.spec_world.proofs.PartiesKept.{joins}
use Rattle.spec_net.specs.Sides.{Side, new_side}
use Rattle.spec_refinement.specs.SeenWorlds.{side_of, parcel_of, app_seen, side_at}
use Rattle.spec_refinement.specs.PartyJoins.{AppActs, Leads, AppHearsAlike, AppCommanded, AppStarts}
use Rattle.spec_refinement.proofs.SidesLemmas.{joined_alike, published_side, resynced_alike}
use Rattle.spec_refinement.proofs.AgentsJoin.{quiet_acts, joined_packets, resync_acts, turn_acts}
use Rattle.fuxi_terms.specs.Jobs.{unit_count}

-- what an application holds is what the one by itself holds
pub held_alike : (w : World) (a : ℕ) (g : App) (u m : ℕ) → app_held w.net (party (app_id a) g.boot) g u m ≡ held_by (app_seen w a g) u m
held_alike w a g u m = refl

-- hearing
pub app_hears_alike : (w : World) (a : ℕ) (g : App) (which : ℕ) (x : Packet) → slice_get w.net.packets which ≡ Some x → Sound shape w.net → HasJoined w.net (party (app_id a) g.boot)
    → (x.from.id ≡ master_id → Leads no_excess x.from.id x.to.id (w.net.histories x.from x.to.id)) → AppHearsAlike w a g x
app_hears_alike w a g which x there s h leads =
    let p = party (app_id a) g.boot in
    let ledger = joined_demand x.from.inc (present w.net p master_id) in
    let names = found_within (λ y. PacketNames shape w.net.histories y.kind y) w.net.packets which x s.packets there in
    let k = joined_alike w.net p x ledger no_excess refl names leads in
    let j = joins w.net p which x ledger there refl s h in
    let carried : cond (heard_of w.net p is_master x).fresh (carry w.net p g.units (below (length w.cluster.machines)) g.carried) g.carried ≡ (app_hears_alone (app_seen w a g) (parcel_of w.net x)).role.carried =
    λ i. cond (sym k.fresh i) (carry w.net p g.units (below (length w.cluster.machines)) g.carried) g.carried in
    record {
      now = record g { carried = cond (heard_of w.net p is_master x).fresh (carry w.net p g.units (below (length w.cluster.machines)) g.carried) g.carried };
      is = refl;
      acts = record {
        acts = quiet_acts w.net (joined w.net p x ledger) p s j.leaves j.grows (joined_packets w.net p x ledger);
        role = λ i. record { job = a; units = g.units; cluster = w.cluster; boot = g.boot; carried = carried i; up = k.side i };
        rest = refl;
      };
      fresh = k.fresh;
      what = k.what;
    }

-- A command that changes the demand
pub demanded_alike : (w : World) (a : ℕ) (g : App) (k : Key) (n : ℕ) → Sound shape w.net → AppActs w (demanded w a g k n).world a g g (demands_alone (app_seen w a g) k n) []
demanded_alike w a g k n s =
    let p = party (app_id a) g.boot in
    let o : Offer = record { to = master_id; even_if_equal = false; ledger = changed_demand (present w.net p master_id) k n } in
    record {
      acts = quiet_acts w.net (publish w.net p (o ∷ [])) p s (publish_leaves w.net p (o ∷ [])) (publish_grows w.net p (o ∷ [])) (either (λ (m : Net Ledger). m.packets ≡ w.net.packets) _ _ _ (λ _. refl) (λ _. refl));
      role = ap (λ (e : Side). with_app_up (app_seen w a g) e) (published_side w.net p o refl);
      rest = refl;
    }

-- A command. What it gives in the world is what it gives by itself
commanded : (w : World) (a : ℕ) (g : App) (k : Key) (n : ℕ) (tests : List (Bool × Refusal)) → Sound shape w.net → AppCommanded w a g (unless_refused w tests (λ w. demanded w a g k n)) (unless_fault tests (Ok (demands_alone (app_seen w a g) k n)))
commanded w a g k n tests s = by (first_refusal tests)
  where
    by : (o : Option Refusal) → AppCommanded w a g (elim o as (λ _. Step) [ None ↦ demanded w a g k n | Some r ↦ refused w r ]) (elim o as (λ _. Result AppRole Refusal) [ None ↦ Ok (demands_alone (app_seen w a g) k n) | Some f ↦ Err f ])
    by None = record { done = λ role e. let same : demands_alone (app_seen w a g) k n ≡ role = cc in subst (λ r. AppActs w (demanded w a g k n).world a g g r []) same (demanded_alike w a g k n s); not_done = λ f e. cc }
    by (Some r) = record { done = λ role e. absurd (cc); not_done = λ f e. let same : r ≡ f = cc in ap (refused w) same }

along : (w : World) (a : ℕ) (g : App) (f : App → Step) (r : Result AppRole Refusal) → find nat_cmp a w.apps ≡ Some g → AppCommanded w a g (f g) r → AppCommanded w a g (at_app w a f) r
along w a g f r found h = subst (λ o. AppCommanded w a g (with_found o (refused w NotRunning) f) r) (sym found) h

-- each command
pub asks_alike : (w : World) (a : ℕ) (g : App) (x : AppCommand) → Sound shape w.net → find nat_cmp a w.apps ≡ Some g → AppCommanded w a g (asks w a x) (commands_alone (app_seen w a g) x)
asks_alike w a g x s found = along w a g _ (commands_alone (app_seen w a g) x) found
    (commanded w a g (command_key x) (command_number (given_back w a g) x) (command_tests w.cluster g.units (usable_now w a g) (given_back w a g) x) s)

-- Resync and turn
pub app_resync_alike : (w : World) (a : ℕ) (g : App) → Sound shape w.net → AppActs w (resynced w (party (app_id a) g.boot) (master_id ∷ [])).world a g g (app_resynced (app_seen w a g)) []
app_resync_alike w a g s =
    let p = party (app_id a) g.boot in
    record { acts = resync_acts w.net p s; role = ap (with_app_up (app_seen w a g)) (resynced_alike w.net p master_id); rest = refl }

-- turn
pub app_turn_alike : (w : World) (a : ℕ) (g : App) → Sound shape w.net → AppActs w (turn_to_master w (party (app_id a) g.boot)).world a g g (app_seen w a g) (app_turn (app_seen w a g))
app_turn_alike w a g s =
    let t = turn_acts w (party (app_id a) g.boot) s in
    let c = ap (λ (v : World). v.cluster) t.rest in
    let apps = ap (λ (v : World). v.apps) t.rest in
    record {
      acts = t.acts;
      role = λ i. record { job = a; units = g.units; cluster = c i; boot = g.boot; carried = g.carried; up = t.side i };
      rest = t.rest ∙ (λ i. record w { apps = (sym apps) i; net = (turn_to_master w (party (app_id a) g.boot)).world.net });
    }

-- A start: the histories of the new boot are empty
pub app_start_alike : (w : World) (a b : ℕ) → Sound shape w.net → ((q : Id) → w.net.histories (party (app_id a) b) q ≡ []) → AppStarts w a b
app_start_alike w a b s none =
    let p = party (app_id a) b in
    let link : (app_started w a b).net.links p master_id ≡ unknown = ap (λ c. elim c as (λ _. Link) [ true ↦ unknown | false ↦ w.net.links p master_id ]) (same_party_itself p) in
    let up : side_of (app_started w a b).net p master_id ≡ new_side = ap (side_at (app_started w a b).net p master_id) link ∙ ap (λ (h : List Ledger). record { link = unknown; got = nothing; sent = h }) (none master_id) in
    record {
      now = record { boot = b; units = unit_count w.hard.jobs a; carried = [] };
      stands = refl;
      acts = quiet_acts w.net (app_started w a b).net p s (start_leaves w.net p) (record { longer = (grows_itself w.net).longer }) refl;
      role = ap (λ (e : Side). record { job = a; units = unit_count w.hard.jobs a; cluster = w.cluster; boot = b; carried = []; up = e }) up;
    }
