-- A core of which the ends of the channels have changed stands for the master with the sides that these stand for.
use Rattle.std.proofs.Common.{◌≡◌, ℕ, false, List, Option, Some, slice_get}
use Rattle.fuxi_terms.specs.Jobs.{is_known}
use Rattle.spec_net.specs.Channels.{agent_id, app_id}
use Rattle.spec_net.specs.Net.{Id}
use Rattle.spec_net.specs.Sides.{Side, new_side}
use Rattle.spec_roles.specs.Masters.{credited_of}
use Rattle.spec_roles.specs.MasterRoles.{MasterRole}
use Rattle.ledger_updates.specs.AllShown.{Down, App}
use Rattle.fuxi_master.specs.Cores.{CoreRecord, IsDown, IsApp, StandsFor, shown_credited}

pub stands_at_ends : (x : CoreRecord) (r : MasterRole) → StandsFor x r → (agents : List Down) (apps : List (Option App)) (sides : Id → Side) → ((m : ℕ) (d : Down) → slice_get agents m ≡ Some d → IsDown d x.epoch (sides (agent_id m)))
    → ((a : ℕ) (d : App) → slice_get apps a ≡ Some (Some d) → IsApp d x.epoch (sides (app_id a))) → ((a : ℕ) (d : App) → slice_get apps a ≡ Some (Some d) → credited_of r.state a ≡ shown_credited a d) → ((a : ℕ) → is_known x.known.jobs a ≡ false → sides (app_id a) ≡ new_side)
    → StandsFor (record x { agents = agents; apps = apps }) (record { cluster = r.cluster; state = r.state; sides = sides })
stands_at_ends x r h agents apps sides downs ups credited unheard = record {
  stands = record {
    cluster = h.stands.cluster;
    epoch = h.stands.epoch;
    jobs = h.stands.jobs;
    bans = h.stands.bans;
    serving = h.stands.serving;
    reported = h.stands.reported;
    allots = h.stands.allots;
    tidy = h.stands.tidy;
    agents = downs;
    apps = ups;
    credited = credited;
    unheard = unheard;
    uncredited = h.stands.uncredited;
  };
  ready = h.ready;
}
