-- What befalls the world in the steps of a storm leaves the master of the fence and all agents running.
use Rattle.std.proofs.Common.{◌≡◌, ◌⊎◌, inl, inr, ℕ, ◌<◌, ◌≤◌, ◌^◌, Bool, true, false, cond, not, nat_eq, List, [], ◌∷◌, length, Option, Some, None, is_some, refl, sym, ◌∙◌, ap, subst, arith}
use Rattle.std.specs.Prelude.{⊤}
use Rattle.std.specs.Ordering.{nat_cmp, eq_by_cmp}
use Rattle.std.specs.Cmp.{nat_cmp_total}
use Rattle.std.specs.FinMap.Entries.{find, put, find-put}
use Rattle.std.proofs.lemmas.Bool.Decides.{nat_tests}
use Rattle.fuxi_terms.specs.Jobs.{eight_places}
use Rattle.fuxi_terms.specs.Lists.{below}
use Rattle.fuxi_terms.specs.Numbers.{has_number, without_number}
use Rattle.spec_net.specs.Net.{Net, Id, Packet, comes, heard_of}
use Rattle.spec_net.specs.Ledgers.{Ledger}
use Rattle.spec_net.specs.Channels.{agent_id, app_id, is_master, master_id, party, present, publish, resync_all, send_all, to_master}
use Rattle.spec_roles.specs.HardState.{HardState, banned, finished, raised, submitted, unbanned, with_job}
use Rattle.spec_roles.specs.Apps.{changed_demand, command_key, command_number}
use Rattle.spec_roles.specs.Masters.{Master}
use Rattle.spec_roles.specs.MasterSteps.{banned_in, ended_in, master_party, new_master, peers, ready, talks}
use Rattle.spec_roles.specs.Preemption.{preempted}
use Rattle.spec_world.specs.World.{World, App}
use Rattle.spec_world.specs.Parties.{adopted_now, agent_hears, carry, end_step, received, told}
use Rattle.spec_world.specs.Events.{Event, DeliverRange, Halt, Judge, StartApp, StartMaster, StopMaster, act, given_back}
use Rattle.spec_world.proofs.EventsWalk.{EventSteps, act_steps}
use Rattle.spec_world.proofs.Invariant.{put_found, ready_epoch}
use Rattle.spec_world.proofs.LeftLemmas.{left_out}
use Rattle.spec_progress.specs.CalmRounds.{AreNamed, IsManned}

-- the master of the fence and all agents run, the applications are those of the three jobs, and the fence is a number of 64 bits
pub record Facts (w : World) : Type 0 where
  pub manned : IsManned w
  pub named : AreNamed (below 3) w
  pub first : 1 ≤ w.hard.fence
  pub few : w.hard.fence < 2 ^ 64

-- events of a step: it stops an older master alone, and starts no application
abbrev pub Harmless : ℕ → Event → Type 0
Harmless fence (StopMaster e) = e < fence
Harmless fence (StartMaster e) = (1 ≤ e) × (e < 2 ^ 64)
Harmless fence (StartApp a b) = ⊥
Harmless fence (Halt calls all x) = ⊥
Harmless fence (DeliverRange k l) = ⊥
Harmless fence (Judge e least percent) = ⊥
Harmless fence x = Unit {0}

record After (fence : ℕ) (v : Event) (w : World) : Type 0 where
  it : Harmless fence v → Facts w

-- who is there after one more was put
still_some : {A : Type 0} (e k : ℕ) (x : A) (es : List (ℕ × A)) → is_some (find nat_cmp e es) ≡ true → is_some (find nat_cmp e (put nat_cmp k x es)) ≡ true
still_some {A} e k x es h = subst (λ (o : Option A). is_some o ≡ true) (sym (find-put nat_cmp nat_cmp_total e k x es)) (by (eq_by_cmp nat_cmp e k))
  where
    by : (b : Bool) → is_some (cond b (Some x) (find nat_cmp e es)) ≡ true
    by true = refl
    by false = h

now_some : {A : Type 0} (e k : ℕ) (x : A) (es : List (ℕ × A)) → k ≡ e → is_some (find nat_cmp e (put nat_cmp k x es)) ≡ true
now_some {A} e k x es same = subst (λ (o : Option A). is_some o ≡ true) (sym (find-put nat_cmp nat_cmp_total e k x es)) (ap (λ b. is_some (cond b (Some x) (find nat_cmp e es))) (let t : eq_by_cmp nat_cmp e k ≡ true = grind (arith, nat_tests, same) in t))

-- a net that changes
netted : (w : World) (net : Net Ledger) → Facts w → Facts (record w { net = net })
netted w net f = record { manned = record { master = f.manned.master; agents = f.manned.agents }; named = record { named = f.named.named }; first = f.first; few = f.few }

-- a step of a master
ended : (w : World) (hard : HardState) (net : Net Ledger) (N : Master) (even_if_equal : List Id) → hard.fence ≡ w.hard.fence → Facts w → Facts (end_step (record w { hard = hard }) net N even_if_equal)
ended w hard net N even_if_equal same f = record {
  manned = record {
    master = subst (λ n. is_some (find nat_cmp n (put nat_cmp (ready w.cluster N).epoch (ready w.cluster N) w.masters)) ≡ true) (sym same) (still_some w.hard.fence (ready w.cluster N).epoch (ready w.cluster N) w.masters f.manned.master);
    agents = f.manned.agents;
  };
  named = record { named = f.named.named };
  first = subst (λ n. 1 ≤ n) (sym same) f.first;
  few = subst (λ n. n < 2 ^ 64) (sym same) f.few;
}

-- an application behind what it heard
abbrev heard_app : World → ℕ → App → Packet → App
heard_app w a g x = let p = party (app_id a) g.boot in record g { carried = cond (heard_of w.net p is_master x).fresh (carry w.net p g.units (below (length w.cluster.machines)) g.carried) g.carried }

module _ (w : World) (f : Facts w) where
  abbrev P : Event → World → Type 0
  P = After w.hard.fence

  steps : EventSteps P (λ _. ⊤) w
  steps = record {
    same = λ v. record { it = λ _. f };
    starts = λ e n t. record {
      it = λ of_line. record {
        manned = record { master = let R = ready w.cluster (new_master (raised w.hard e) e) in now_some e R.epoch R w.masters (ready_epoch w.cluster (new_master (raised w.hard e) e)); agents = f.manned.agents };
        named = record { named = f.named.named };
        first = of_line.0;
        few = of_line.1;
      };
    };
    stops = λ e. record {
      it = λ less. record {
        manned = record {
          master = ap is_some (left_out e w.hard.fence w.masters) ∙ (let t : not (nat_eq w.hard.fence e) ≡ true = grind (arith, nat_tests, less) in ap (λ b. is_some (cond b (find nat_cmp w.hard.fence w.masters) None)) t) ∙ f.manned.master;
          agents = f.manned.agents;
        };
        named = record { named = f.named.named };
        first = f.first;
        few = f.few;
      };
    };
    halts = λ calls all x l. record { it = λ never. absurd never };
    starts_agent = λ m n t. record { it = λ _. record { manned = record { master = f.manned.master; agents = λ k there. still_some k m (record { boot = n }) w.agents (f.manned.agents k there) }; named = record { named = f.named.named }; first = f.first; few = f.few } };
    starts_app = λ a n t. record { it = λ never. absurd never };
    submits = λ e M j found line own t. record { it = λ _. ended w (submitted w.hard (eight_places j)) w.net (record M { jobs = with_job (eight_places j) M.jobs }) (app_id j.number ∷ []) refl f };
    finishes = λ e M a found t. record { it = λ _. ended w (finished w.hard a) w.net (ended_in M a) [] refl f };
    bans = λ e M m found t. record { it = λ _. ended w (banned w.hard m) w.net (banned_in M m) [] refl f };
    unbans = λ e M m found t. record { it = λ _. ended w (unbanned w.hard m) w.net (record M { bans = without_number m M.bans }) [] refl f };
    begins = λ e M found. record { it = λ _. ended w w.hard w.net (record M { serving = true }) [] refl f };
    preempts = λ e M p found serves t. record { it = λ _. ended w w.hard w.net (preempted M p) [] refl f };
    asks = λ a g x found t. record { it = λ _. netted w (publish w.net (party (app_id a) g.boot) (to_master (changed_demand (present w.net (party (app_id a) g.boot) master_id) (command_key x) (command_number (given_back w a g) x)))) f };
    master_turns = λ e M found. record { it = λ _. netted w (send_all w.net (master_party M) (peers w.cluster M)) f };
    agent_turns = λ m g found. record { it = λ _. netted w (send_all w.net (party (agent_id m) g.boot) (master_id ∷ [])) f };
    app_turns = λ a g found. record { it = λ _. netted w (send_all w.net (party (app_id a) g.boot) (master_id ∷ [])) f };
    master_resyncs = λ e M found. record { it = λ _. netted w (resync_all w.net (master_party M) (peers w.cluster M)) f };
    agent_resyncs = λ m g found. record { it = λ _. netted w (resync_all w.net (party (agent_id m) g.boot) (master_id ∷ [])) f };
    app_resyncs = λ a g found. record { it = λ _. netted w (resync_all w.net (party (app_id a) g.boot) (master_id ∷ [])) f };
    hears = λ M k x found sent to t. record { it = λ _. let hd = heard_of w.net (master_party M) (talks w.cluster M) x in let l = received w.cluster M w.net x in ended w w.hard (comes w.net (master_party M) (talks w.cluster M) (Some x)) (told M hd x.from.id l) (adopted_now M hd x.from.id l) refl f };
    agent_hears = λ g k x found sent to. record { it = λ _. netted w (agent_hears w x.to.id.number g x).net f };
    app_hears = λ g k x found sent. record { it = λ _. record { manned = record { master = f.manned.master; agents = f.manned.agents }; named = record { named = λ a y at. by x.to.id.number g found a y (heard_app w x.to.id.number g x) (put_found a x.to.id.number (heard_app w x.to.id.number g x) y w.apps at) }; first = f.first; few = f.few } };
  }
    where
      by : (k : ℕ) (g : App) → find nat_cmp k w.apps ≡ Some g → (a : ℕ) (y g' : App) → ((nat_eq k a ≡ false) × (find nat_cmp a w.apps ≡ Some y)) ⊎ ((a ≡ k) × (g' ≡ y)) → has_number a (below 3) ≡ true
      by k g found a y g' (inl o) = f.named.named a y o.1
      by k g found a y g' (inr o) = subst (λ n. has_number n (below 3) ≡ true) (sym o.0) (f.named.named k g found)

  pub befalls : (v : Event) → Harmless w.hard.fence v → Facts (act w v).world
  befalls v harmless = (act_steps P (λ _. ⊤) w steps (λ n k l. record { it = λ never. absurd never }) (λ e least percent votes ms. record { it = λ never. absurd never }) v tt).it.it harmless
