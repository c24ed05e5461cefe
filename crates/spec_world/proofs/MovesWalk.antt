-- What each move of the net keeps, each event of the world keeps.
use Rattle.std.proofs.Common.{◌≡◌, ℕ, ◌-◌, Bool, true, not, List, [], ◌∷◌, ◌++◌, map, Some, slice_get, subst}
use Rattle.std.specs.Prelude.{⊤, ◌||◌}
use Rattle.fuxi_terms.specs.declared.Key.{Key}
use Rattle.fuxi_terms.specs.Cluster.{ClusterRecord}
use Rattle.spec_net.specs.Net.{Net, Party, Id, Packet, Move, Posts, Turns, Starts, Hears, Resyncs, move, comes, silent, heard_of}
use Rattle.spec_net.specs.Ledgers.{Ledger, same_ledger, report_ledger}
use Rattle.spec_net.specs.Channels.{master_id, agent_id, app_id, party, is_master, present, Offer, to_master, publish_one, publish, send_all, resync_all}
use Rattle.spec_roles.specs.Masters.{Master}
use Rattle.fuxi_terms.specs.Jobs.{job_numbers, eight_places}
use Rattle.fuxi_terms.specs.Numbers.{without_number}
use Rattle.spec_roles.specs.HardState.{raised, submitted, finished, banned, unbanned, with_job}
use Rattle.spec_roles.specs.Preemption.{preempted}
use Rattle.spec_world.specs.World.{World, Agent, App, empty_world}
use Rattle.spec_roles.specs.MasterSteps.{master_party, talks, peers, ready, ended_in, banned_in, new_master}
use Rattle.spec_world.specs.Parties.{offers, end_step, told, received, adopted_now, joined, agent_table, agent_hears, app_hears}
use Rattle.spec_roles.specs.Apps.{joined_demand, changed_demand, command_key, command_number}
use Rattle.spec_world.specs.Events.{Event, demanded, turned, resynced, given_back}
use Rattle.spec_world.specs.Runs.{run_from, run}
use Rattle.fuxi_terms.proofs.Booleans.{either}
use Rattle.spec_world.proofs.EventsWalk.{WorldKept, run_keeps_world, unasked}

module _ (I : Net Ledger → Type 0) (keeps : (net : Net Ledger) (m : Move Ledger) → I net → I (move net m)) where
  record Keeps (w : World) : Type 0 where
    net : I w.net

  publish_one_keeps : (net : Net Ledger) (p : Party) (o : Offer) → I net → I (publish_one net p o)
  publish_one_keeps net p o b = either I (o.even_if_equal || not (same_ledger (present net p o.to) o.ledger)) (move net (Posts p o.to o.ledger)) net (λ _. keeps net (Posts p o.to o.ledger) b) (λ _. b)

  publish_keeps : (net : Net Ledger) (p : Party) (os : List Offer) → I net → I (publish net p os)
  publish_keeps net p [] b = b
  publish_keeps net p (o ∷ os) b = publish_keeps (publish_one net p o) p os (publish_one_keeps net p o b)

  end_keeps : (w : World) (net : Net Ledger) (M : Master) (even_if_equal : List Id) → I net → Keeps (end_step w net M even_if_equal)
  end_keeps w net M even_if_equal b = record { net = publish_keeps net (master_party (ready w.cluster M)) (offers w.cluster net (ready w.cluster M) even_if_equal) b }

  send_all_keeps : (net : Net Ledger) (p : Party) (qs : List Id) → I net → I (send_all net p qs)
  send_all_keeps net p [] b = b
  send_all_keeps net p (q ∷ qs) b = send_all_keeps (move net (Turns p q)) p qs (keeps net (Turns p q) b)

  resync_all_keeps : (net : Net Ledger) (p : Party) (qs : List Id) → I net → I (resync_all net p qs)
  resync_all_keeps net p [] b = b
  resync_all_keeps net p (q ∷ qs) b = resync_all_keeps (move net (Resyncs p q)) p qs (keeps net (Resyncs p q) b)

  -- a packet that was sent is heard
  record IsSent (net : Net Ledger) (x : Packet) : Type 0 where
    place : ℕ
    there : slice_get net.packets place ≡ Some x

  come : (net : Net Ledger) (p : Party) (talks : Id → Bool) (x : Packet) → IsSent net x → I net → I (comes net p talks (Some x))
  come net p talks x sent b = subst (λ o. I (comes net p talks o)) sent.there (keeps net (Hears p talks sent.place) b)

  joined_keeps : (net : Net Ledger) (p : Party) (x : Packet) (ledger : Ledger) → IsSent net x → I net → I (joined net p x ledger)
  joined_keeps net p x ledger sent b =
      let n = comes net p is_master (Some x) in
      let os = to_master ledger in
      either I (heard_of net p is_master x).fresh (publish n p os) n (λ _. publish_keeps n p os (come net p is_master x sent b)) (λ _. come net p is_master x sent b)

  agent_hears_keeps : (w : World) (m : ℕ) (g : Agent) (x : Packet) → IsSent w.net x → I w.net → Keeps (agent_hears w m g x)
  agent_hears_keeps w m g x sent b = let p = party (agent_id m) g.boot in record { net = joined_keeps w.net p x (report_ledger x.from.inc (agent_table w.net p)) sent b }

  app_hears_keeps : (w : World) (a : ℕ) (g : App) (x : Packet) → IsSent w.net x → I w.net → Keeps (app_hears w a g x)
  app_hears_keeps w a g x sent b = let p = party (app_id a) g.boot in record { net = joined_keeps w.net p x (joined_demand x.from.inc (present w.net p master_id)) sent b }

  turned_keeps : (w : World) (p : Party) (qs : List Id) → I w.net → Keeps (turned w p qs).world
  turned_keeps w p qs b = record { net = send_all_keeps w.net p qs b }

  resynced_keeps : (w : World) (p : Party) (qs : List Id) → I w.net → Keeps (resynced w p qs).world
  resynced_keeps w p qs b = record { net = resync_all_keeps w.net p qs b }

  demanded_keeps : (w : World) (a : ℕ) (g : App) (k : Key) (n : ℕ) → I w.net → Keeps (demanded w a g k n).world
  demanded_keeps w a g k n b = record { net = publish_keeps w.net (party (app_id a) g.boot) (to_master (changed_demand (present w.net (party (app_id a) g.boot) master_id) k n)) b }

  -- of all that changes a world
  net_kept : (w : World) → Keeps w → WorldKept Keeps (λ _. ⊤) w
  net_kept w h = let b = h.net in record {
    counted = record { net = b };
    starts = λ e _ _. end_keeps (record w { hard = raised w.hard e; ran = w.ran ++ party master_id e ∷ [] }) (move w.net (Starts (party master_id e))) (new_master (raised w.hard e) e) (map app_id (job_numbers w.hard.jobs)) (keeps w.net (Starts (party master_id e)) b);
    stops = λ e l. record { net = b };
    starts_agent = λ m n _. record { net = keeps w.net (Starts (party (agent_id m) n)) b };
    starts_app = λ a n _. record { net = keeps w.net (Starts (party (app_id a) n)) b };
    submits = λ e M j _ _ _ _. end_keeps (record w { hard = submitted w.hard (eight_places j) }) w.net (record M { jobs = with_job (eight_places j) M.jobs }) (app_id j.number ∷ []) b;
    finishes = λ e M a _ _. end_keeps (record w { hard = finished w.hard a }) w.net (ended_in M a) [] b;
    bans = λ e M m _ _. end_keeps (record w { hard = banned w.hard m }) w.net (banned_in M m) [] b;
    unbans = λ e M m _ _. end_keeps (record w { hard = unbanned w.hard m }) w.net (record M { bans = without_number m M.bans }) [] b;
    begins = λ e M _. end_keeps w w.net (record M { serving = true }) [] b;
    preempts = λ e M p _ _ _. end_keeps w w.net (preempted M p) [] b;
    asks = λ a g x _ _. demanded_keeps w a g (command_key x) (command_number (given_back w a g) x) b;
    master_turns = λ e M _. turned_keeps w (master_party M) (peers w.cluster M) b;
    agent_turns = λ m g _. turned_keeps w (party (agent_id m) g.boot) (master_id ∷ []) b;
    app_turns = λ a g _. turned_keeps w (party (app_id a) g.boot) (master_id ∷ []) b;
    master_resyncs = λ e M _. resynced_keeps w (master_party M) (peers w.cluster M) b;
    agent_resyncs = λ m g _. resynced_keeps w (party (agent_id m) g.boot) (master_id ∷ []) b;
    app_resyncs = λ a g _. resynced_keeps w (party (app_id a) g.boot) (master_id ∷ []) b;
    hears = λ e M k x _ sent _ _.
        let k' = heard_of w.net (master_party M) (talks w.cluster M) x in
        let l = received w.cluster M w.net x in
        end_keeps w (comes w.net (master_party M) (talks w.cluster M) (Some x)) (told M k' x.from.id l) (adopted_now M k' x.from.id l) (come w.net (master_party M) (talks w.cluster M) x (record { place = k - 1; there = sent }) b);
    agent_hears = λ m g k x _ sent. agent_hears_keeps w m g x (record { place = k - 1; there = sent }) b;
    app_hears = λ a g k x _ sent. app_hears_keeps w a g x (record { place = k - 1; there = sent }) b;
  }

  -- every list of events
  pub run_from_keeps : (es : List Event) (w : World) → I w.net → I (run_from es w).world.net
  run_from_keeps es w b = (run_keeps_world Keeps (λ _. ⊤) net_kept es w (unasked es) (record { net = b })).it.net

  -- from the empty world on
  pub run_keeps : (c : ClusterRecord) (es : List Event) → I silent → I (run c es).net
  run_keeps c es b = run_from_keeps es (empty_world c) b
