-- What one delivery leaves, whoever it is for.
use Rattle.std.proofs.Common.{◌≡◌, ℕ, Bool, true, false, cond, nat_eq, T, List, [], ◌∷◌, Option, Some, None, is_some, refl, sym, ◌∙◌, ap, subst, arith}
use Rattle.std.specs.Prelude.{◌&&◌}
use Rattle.std.specs.Option.{option_map}
use Rattle.std.specs.Ordering.{nat_cmp, eq_by_cmp}
use Rattle.std.specs.Cmp.{nat_cmp_total}
use Rattle.std.specs.FinMap.Entries.{find, put, find-put, is_sorted, is_sorted-put}
use Rattle.std.proofs.lemmas.Bool.Decides.{nat_tests}
use Rattle.fuxi_terms.proofs.Booleans.{either, number_is}
use Rattle.spec_net.specs.Net.{Net, Party, Id, Link, Packet, hear, heard_of, comes, last, same_id, same_party}
use Rattle.spec_net.specs.Ledgers.{Ledger}
use Rattle.spec_net.specs.Channels.{master_id, agent_id, app_id, party, is_master, is_agent, is_app, present, Offer, publish, publish_one, to_master, shape}
use Rattle.spec_net.proofs.SoundLemmas.{Grows}
use Rattle.spec_net.proofs.PublishLemmas.{Leaves, leaves_then, comes_leaves, publish_leaves, publish_links, publish_grows, grows_itself, set_here}
use Rattle.spec_roles.specs.Agents.{joined_report}
use Rattle.spec_roles.specs.Apps.{joined_demand}
use Rattle.spec_roles.specs.Masters.{Master}
use Rattle.spec_roles.specs.MasterSteps.{master_party, talks, ready}
use Rattle.spec_roles.specs.Refusals.{with_found}
use Rattle.spec_world.specs.World.{World, Agent, App}
use Rattle.spec_world.specs.Parties.{offers, end_step, told, received, adopted_now, joined, agent_table, master_hears, agent_hears, app_hears}
use Rattle.spec_world.specs.Events.{addressed}
use Rattle.spec_world.proofs.CommandLemmas.{found_has}
use Rattle.spec_world.proofs.EventsWalk.{Holds}
use Rattle.spec_world.proofs.Invariant.{ready_epoch}
use Rattle.spec_world.proofs.InvariantKept.{told_same}
use Rattle.spec_progress.proofs.FurtherLemmas.{Further, further_itself}
use Rattle.spec_progress.proofs.ReachedLemmas.{comes_further}
use Rattle.spec_progress.proofs.ProgressKept.{heard_app, joined_leaves}

-- the boot of the agent or the application of this role and number that runs
abbrev pub boot_of : World → Id → Option ℕ
boot_of w q = cond (is_agent q) (option_map (λ (g : Agent). g.boot) (find nat_cmp q.number w.agents)) (cond (is_app q) (option_map (λ (g : App). g.boot) (find nat_cmp q.number w.apps)) None)

-- Publishing and hearing send nothing
publish_one_packets : (net : Net Ledger) (p : Party) (o : Offer) → (publish_one net p o).packets ≡ net.packets
publish_one_packets net p o = either (λ (n : Net Ledger). n.packets ≡ net.packets) _ _ _ (λ _. refl) (λ _. refl)

publish_packets : (net : Net Ledger) (p : Party) (os : List Offer) → (publish net p os).packets ≡ net.packets
publish_packets net p [] = refl
publish_packets net p (o ∷ os) = publish_packets (publish_one net p o) p os ∙ publish_one_packets net p o

-- what a delivery leaves
pub record Arrived (w w' : World) : Type 0 where
  pub cluster : w'.cluster ≡ w.cluster
  pub hard : w'.hard ≡ w.hard
  pub boots : w'.boots ≡ w.boots
  pub agents : w'.agents ≡ w.agents
  pub runs : (q : Id) → boot_of w' q ≡ boot_of w q
  pub sorted : T (is_sorted nat_cmp w.apps) → T (is_sorted nat_cmp w'.apps)
  pub masters : (e : ℕ) → is_some (find nat_cmp e w.masters) ≡ true → is_some (find nat_cmp e w'.masters) ≡ true
  pub packets : w'.net.packets ≡ w.net.packets
  pub links : (p : Party) (q : Id) → Further (w.net.links p q) (w'.net.links p q)
  pub grows : Grows shape w.net.histories w'.net.histories

-- nothing
pub arrived_itself : (w : World) → Arrived w w
arrived_itself w = record { cluster = refl; hard = refl; boots = refl; agents = refl; runs = λ q. refl; sorted = λ h. h; masters = λ e h. h; packets = refl; links = λ p q. further_itself (w.net.links p q); grows = grows_itself w.net }

-- a net that changes
netted : (w : World) (net : Net Ledger) → net.packets ≡ w.net.packets → ((p : Party) (q : Id) → Further (w.net.links p q) (net.links p q)) → Grows shape w.net.histories net.histories → Arrived w (record w { net = net })
netted w net packets links grows = record { cluster = refl; hard = refl; boots = refl; agents = refl; runs = λ q. refl; sorted = λ h. h; masters = λ e h. h; packets = packets; links = links; grows = grows }

-- The cases of a delivery
pub record EachArrival (w : World) (x : Packet) (R : World → Type 0) : Type 0 where
  pub lost : R w
  pub master : (M : Master) → find nat_cmp x.to.inc w.masters ≡ Some M → is_master x.to.id ≡ true → talks w.cluster M x.from.id ≡ true
      → R (let h = heard_of w.net (master_party M) (talks w.cluster M) x in let l = received w.cluster M w.net x in end_step w (comes w.net (master_party M) (talks w.cluster M) (Some x)) (told M h x.from.id l) (adopted_now M h x.from.id l))
  pub agent : (g : Agent) → find nat_cmp x.to.id.number w.agents ≡ Some g → is_agent x.to.id ≡ true → R (agent_hears w x.to.id.number g x)
  pub app : (g : App) → find nat_cmp x.to.id.number w.apps ≡ Some g → is_app x.to.id ≡ true → R (app_hears w x.to.id.number g x)

pub each_arrival : (w : World) (x : Packet) (R : World → Type 0) → EachArrival w x R → Holds R (addressed w x)
each_arrival w x R k =
    let same : Holds R w = record { it = k.lost } in
    let to_master = with_found (find nat_cmp x.to.inc w.masters) w (λ M. master_hears w M x) in
    let to_agent = with_found (find nat_cmp x.to.id.number w.agents) w (λ g. agent_hears w x.to.id.number g x) in
    let to_app = with_found (find nat_cmp x.to.id.number w.apps) w (λ g. app_hears w x.to.id.number g x) in
    let master : is_master x.to.id ≡ true → Holds R to_master = λ to. found_has (Holds R) (find nat_cmp x.to.inc w.masters) w (λ M. master_hears w M x) same (λ M e. hears M e to) in
    let agent : is_agent x.to.id ≡ true → Holds R to_agent = λ to. found_has (Holds R) (find nat_cmp x.to.id.number w.agents) w (λ g. agent_hears w x.to.id.number g x) same (λ g e. record { it = k.agent g e to }) in
    let app : is_app x.to.id ≡ true → Holds R to_app = λ to. found_has (Holds R) (find nat_cmp x.to.id.number w.apps) w (λ g. app_hears w x.to.id.number g x) same (λ g e. record { it = k.app g e to }) in
    either (Holds R) (is_master x.to.id) to_master (cond (is_agent x.to.id) to_agent (cond (is_app x.to.id) to_app w)) master
    (λ _. either (Holds R) (is_agent x.to.id) to_agent (cond (is_app x.to.id) to_app w) agent
    (λ _. either (Holds R) (is_app x.to.id) to_app w app (λ _. same)))
  where
    hears : (M : Master) → find nat_cmp x.to.inc w.masters ≡ Some M → is_master x.to.id ≡ true → Holds R (master_hears w M x)
    hears M e to =
        let h = heard_of w.net (master_party M) (talks w.cluster M) x in
        let l = received w.cluster M w.net x in
        either (Holds R) (talks w.cluster M x.from.id) (end_step w (comes w.net (master_party M) (talks w.cluster M) (Some x)) (told M h x.from.id l) (adopted_now M h x.from.id l)) w
        (λ t. record { it = k.master M e to t }) (λ _. record { it = k.lost })

-- an agent or an application that hears
joined_packets : (net : Net Ledger) (p : Party) (x : Packet) (ledger : Ledger) → (joined net p x ledger).packets ≡ net.packets
joined_packets net p x ledger = either (λ (n : Net Ledger). n.packets ≡ net.packets) (heard_of net p is_master x).fresh (publish (comes net p is_master (Some x)) p (to_master ledger)) (comes net p is_master (Some x)) (λ _. publish_packets (comes net p is_master (Some x)) p (to_master ledger)) (λ _. refl)

pub joined_links : (net : Net Ledger) (p : Party) (x : Packet) (ledger : Ledger) → (joined net p x ledger).links ≡ (comes net p is_master (Some x)).links
joined_links net p x ledger = either (λ (n : Net Ledger). n.links ≡ (comes net p is_master (Some x)).links) (heard_of net p is_master x).fresh (publish (comes net p is_master (Some x)) p (to_master ledger)) (comes net p is_master (Some x)) (λ _. publish_links (comes net p is_master (Some x)) p (to_master ledger)) (λ _. refl)

joined_grows : (net : Net Ledger) (p : Party) (x : Packet) (ledger : Ledger) → Grows shape net.histories (joined net p x ledger).histories
joined_grows net p x ledger = either (λ (n : Net Ledger). Grows shape net.histories n.histories) (heard_of net p is_master x).fresh (publish (comes net p is_master (Some x)) p (to_master ledger)) (comes net p is_master (Some x)) (λ _. publish_grows (comes net p is_master (Some x)) p (to_master ledger)) (λ _. grows_itself net)

joined_arrives : (w : World) (p : Party) (x : Packet) (ledger : Ledger) → Arrived w (record w { net = joined w.net p x ledger })
joined_arrives w p x ledger = netted w (joined w.net p x ledger) (joined_packets w.net p x ledger)
    (λ p' q'. subst (λ (ls : Party → Id → Link). Further (w.net.links p' q') (ls p' q')) (sym (joined_links w.net p x ledger)) (comes_further w.net p is_master x p' q')) (joined_grows w.net p x ledger)

-- an application stays, with its boot
app_runs : (w : World) (a : ℕ) (g : App) (x : Packet) → find nat_cmp a w.apps ≡ Some g → (q : Id) → boot_of (app_hears w a g x) q ≡ boot_of w q
app_runs w a g x f q = ap (λ o. cond (is_agent q) (option_map (λ (g : Agent). g.boot) (find nat_cmp q.number w.agents)) (cond (is_app q) o None))
    (ap (option_map (λ (g : App). g.boot)) (find-put nat_cmp nat_cmp_total q.number a (heard_app w a g x) w.apps) ∙ same (eq_by_cmp nat_cmp q.number a) refl)
  where
    same : (b : Bool) → eq_by_cmp nat_cmp q.number a ≡ b → option_map (λ (g : App). g.boot) (cond b (Some (heard_app w a g x)) (find nat_cmp q.number w.apps)) ≡ option_map (λ (g : App). g.boot) (find nat_cmp q.number w.apps)
    same true e = let number : q.number ≡ a = grind (arith, nat_tests, e) in sym (ap (λ n. option_map (λ (g : App). g.boot) (find nat_cmp n w.apps)) number ∙ ap (option_map (λ (g : App). g.boot)) f)
    same false e = refl

app_arrives : (w : World) (a : ℕ) (g : App) (x : Packet) → find nat_cmp a w.apps ≡ Some g → Arrived w (app_hears w a g x)
app_arrives w a g x f =
    let j = joined_arrives w (party (app_id a) g.boot) x (joined_demand x.from.inc (present w.net (party (app_id a) g.boot) master_id)) in
    record {
      cluster = refl;
      hard = refl;
      boots = refl;
      agents = refl;
      runs = app_runs w a g x f;
      sorted = λ h. is_sorted-put nat_cmp nat_cmp_total a (heard_app w a g x) w.apps h;
      masters = λ e h. h;
      packets = j.packets;
      links = j.links;
      grows = j.grows;
    }

-- a master that hears
still_there : (e k : ℕ) (M : Master) (es : List (ℕ × Master)) → is_some (find nat_cmp e es) ≡ true → is_some (find nat_cmp e (put nat_cmp k M es)) ≡ true
still_there e k M es h = subst (λ (o : Option Master). is_some o ≡ true) (sym (find-put nat_cmp nat_cmp_total e k M es)) (by (eq_by_cmp nat_cmp e k))
  where
    by : (b : Bool) → is_some (cond b (Some M) (find nat_cmp e es)) ≡ true
    by true = refl
    by false = h

master_arrives : (w : World) (net : Net Ledger) (N : Master) (even_if_equal : List Id) → net.packets ≡ w.net.packets → ((p : Party) (q : Id) → Further (w.net.links p q) (net.links p q)) → net.histories ≡ w.net.histories → Arrived w (end_step w net N even_if_equal)
master_arrives w net N even_if_equal packets links histories =
    let R = ready w.cluster N in
    let os = offers w.cluster net R even_if_equal in
    record {
      cluster = refl;
      hard = refl;
      boots = refl;
      agents = refl;
      runs = λ q. refl;
      sorted = λ h. h;
      masters = λ e h. still_there e R.epoch R w.masters h;
      packets = publish_packets net (master_party R) os ∙ packets;
      links = λ p q. subst (λ (ls : Party → Id → Link). Further (w.net.links p q) (ls p q)) (sym (publish_links net (master_party R) os)) (links p q);
      grows = subst (λ hs. Grows shape hs (publish net (master_party R) os).histories) histories (publish_grows net (master_party R) os);
    }

-- one delivery
pub arrives : (w : World) (x : Packet) → Arrived w (addressed w x)
arrives w x = (each_arrival w x (Arrived w) (record {
  lost = arrived_itself w;
  master = λ M f to t. master_arrives w (comes w.net (master_party M) (talks w.cluster M) (Some x)) (told M (heard_of w.net (master_party M) (talks w.cluster M) x) x.from.id (received w.cluster M w.net x)) (adopted_now M (heard_of w.net (master_party M) (talks w.cluster M) x) x.from.id (received w.cluster M w.net x)) refl (comes_further w.net (master_party M) (talks w.cluster M) x) refl;
  agent = λ g f to. joined_arrives w (party (agent_id x.to.id.number) g.boot) x (joined_report x.from.inc (agent_table w.net (party (agent_id x.to.id.number) g.boot)));
  app = λ g f to. app_arrives w x.to.id.number g x f;
})).it

-- A packet that is for no master: no master changes, and of all but the one whom it is for the links and the histories stay
pub record Spares (w : World) (q : Id) (w' : World) : Type 0 where
  pub masters : w'.masters ≡ w.masters
  pub leaves : (p : Party) (r : Id) → same_id q p.id ≡ false → (w'.net.links p r ≡ w.net.links p r) × (w'.net.histories p r ≡ w.net.histories p r)

spared : (w : World) (q : Id) (p : Party) (net : Net Ledger) (apps : List (ℕ × App)) → q ≡ p.id → Leaves p w.net net → Spares w q (record w { net = net; apps = apps })
spared w q p net apps same l = record {
  masters = refl;
  leaves = λ p' r e. let apart : same_party p p' ≡ false = ap (λ d. same_id d p'.id && nat_eq p.inc p'.inc) (sym same) ∙ ap (λ b. b && nat_eq p.inc p'.inc) e in (l.links p' r apart, l.histories p' r apart);
}

pub spares : (w : World) (x : Packet) → is_master x.to.id ≡ false → Spares w x.to.id (addressed w x)
spares w x other = (each_arrival w x (Spares w x.to.id) (record {
  lost = record { masters = refl; leaves = λ p r e. (refl, refl) };
  master = λ M f to t. absurd (let z : ⊥ = cc in z);
  agent = λ g f to. spared w x.to.id (party (agent_id x.to.id.number) g.boot) (agent_hears w x.to.id.number g x).net w.apps (let r = number_is x.to.id.role 2 to in λ i. record { role = r i; number = x.to.id.number }) (joined_leaves w.net (party (agent_id x.to.id.number) g.boot) x (joined_report x.from.inc (agent_table w.net (party (agent_id x.to.id.number) g.boot))));
  app = λ g f to. spared w x.to.id (party (app_id x.to.id.number) g.boot) (app_hears w x.to.id.number g x).net (app_hears w x.to.id.number g x).apps (let r = number_is x.to.id.role 3 to in λ i. record { role = r i; number = x.to.id.number }) (joined_leaves w.net (party (app_id x.to.id.number) g.boot) x (joined_demand x.from.inc (present w.net (party (app_id x.to.id.number) g.boot) master_id)));
})).it

-- Who runs
pub record IsAgentOf (w : World) (q : Id) (b : ℕ) : Type 0 where
  pub machine : ℕ
  pub agent : Agent
  pub is : q ≡ agent_id machine
  pub runs : find nat_cmp machine w.agents ≡ Some agent
  pub boot : agent.boot ≡ b

pub record IsAppOf (w : World) (q : Id) (b : ℕ) : Type 0 where
  pub job : ℕ
  pub app : App
  pub is : q ≡ app_id job
  pub runs : find nat_cmp job w.apps ≡ Some app
  pub boot : app.boot ≡ b

-- what holds of agents and of applications that run, holds of both
pub running_has : (w : World) (q : Id) (b : ℕ) (C : Type 0) → boot_of w q ≡ Some b → (IsAgentOf w q b → C) → (IsAppOf w q b → C) → C
running_has w q b C e f g = by (is_agent q) (is_app q) refl refl e
  where
    agent : (o : Option Agent) → is_agent q ≡ true → find nat_cmp q.number w.agents ≡ o → option_map (λ (g : Agent). g.boot) o ≡ Some b → C
    agent None t s e = absurd (let z : ⊥ = cc in z)
    agent (Some y) t s e = f (record { machine = q.number; agent = y; is = (let r = number_is q.role 2 t in λ i. record { role = r i; number = q.number }); runs = s; boot = cc })

    app : (o : Option App) → is_app q ≡ true → find nat_cmp q.number w.apps ≡ o → option_map (λ (g : App). g.boot) o ≡ Some b → C
    app None t s e = absurd (let z : ⊥ = cc in z)
    app (Some y) t s e = g (record { job = q.number; app = y; is = (let r = number_is q.role 3 t in λ i. record { role = r i; number = q.number }); runs = s; boot = cc })

    by : (x y : Bool) → is_agent q ≡ x → is_app q ≡ y → cond x (option_map (λ (g : Agent). g.boot) (find nat_cmp q.number w.agents)) (cond y (option_map (λ (g : App). g.boot) (find nat_cmp q.number w.apps)) None) ≡ Some b → C
    by true y s t e = agent (find nat_cmp q.number w.agents) s refl e
    by false true s t e = app (find nat_cmp q.number w.apps) t refl e
    by false false s t e = absurd (let z : ⊥ = cc in z)

-- A packet that is for one who runs: it hears it, and answers where it meets a new master
pub record IsHeardBy (w : World) (x : Packet) (p : Party) : Type 0 where
  pub ledger : Ledger
  pub net : (addressed w x).net ≡ joined w.net p x ledger

pub heard_by_peer : (w : World) (x : Packet) (q : Id) (b : ℕ) → boot_of w q ≡ Some b → x.to.id ≡ q → IsHeardBy w x (party q b)
heard_by_peer w x q b runs to = running_has w q b (IsHeardBy w x (party q b)) runs
    (λ a. record {
      ledger = joined_report x.from.inc (agent_table w.net (party (agent_id a.machine) a.agent.boot));
      net = ap (λ (v : World). v.net) (at_agent (to ∙ a.is) a.runs) ∙ (λ i. joined w.net (party (sym a.is i) (a.boot i)) x (joined_report x.from.inc (agent_table w.net (party (agent_id a.machine) a.agent.boot))));
    })
    (λ a. record {
      ledger = joined_demand x.from.inc (present w.net (party (app_id a.job) a.app.boot) master_id);
      net = ap (λ (v : World). v.net) (at_app (to ∙ a.is) a.runs) ∙ (λ i. joined w.net (party (sym a.is i) (a.boot i)) x (joined_demand x.from.inc (present w.net (party (app_id a.job) a.app.boot) master_id)));
    })
  where
    at_agent : {m : ℕ} {g : Agent} → x.to.id ≡ agent_id m → find nat_cmp m w.agents ≡ Some g → addressed w x ≡ agent_hears w m g x
    at_agent {m} {g} to f = ap (λ (d : Id). cond (is_master d) (with_found (find nat_cmp x.to.inc w.masters) w (λ M. master_hears w M x))
        (cond (is_agent d) (with_found (find nat_cmp d.number w.agents) w (λ g. agent_hears w d.number g x))
        (cond (is_app d) (with_found (find nat_cmp d.number w.apps) w (λ g. app_hears w d.number g x)) w))) to ∙ ap (λ o. with_found o w (λ g. agent_hears w m g x)) f

    at_app : {a : ℕ} {g : App} → x.to.id ≡ app_id a → find nat_cmp a w.apps ≡ Some g → addressed w x ≡ app_hears w a g x
    at_app {a} {g} to f = ap (λ (d : Id). cond (is_master d) (with_found (find nat_cmp x.to.inc w.masters) w (λ M. master_hears w M x))
        (cond (is_agent d) (with_found (find nat_cmp d.number w.agents) w (λ g. agent_hears w d.number g x))
        (cond (is_app d) (with_found (find nat_cmp d.number w.apps) w (λ g. app_hears w d.number g x)) w))) to ∙ ap (λ o. with_found o w (λ g. app_hears w a g x)) f

-- the link to the sender is then that of hearing
pub peer_link : (w : World) (x : Packet) (q : Id) (b : ℕ) → boot_of w q ≡ Some b → x.to.id ≡ q → x.from.id ≡ master_id
    → (addressed w x).net.links (party q b) master_id ≡ (hear (party q b) true (last w.net (party q b) master_id) (w.net.links (party q b) master_id) x).link
peer_link w x q b runs to from =
    let p = party q b in
    let h = heard_by_peer w x q b runs to in
    ap (λ (n : Net Ledger). n.links p master_id) h.net ∙ ap (λ (ls : Party → Id → Link). ls p master_id) (joined_links w.net p x h.ledger)
    ∙ ap (λ d. (comes w.net p is_master (Some x)).links p d) (sym from) ∙ set_here w.net.links p x.from.id (heard_of w.net p is_master x).link
    ∙ ap (λ d. (hear p (is_master d) (last w.net p d) (w.net.links p d) x).link) from

-- and where it knows the sender nothing is appended
pub peer_appends_nothing : (w : World) (x : Packet) (q : Id) (b : ℕ) → boot_of w q ≡ Some b → x.to.id ≡ q → (heard_of w.net (party q b) is_master x).fresh ≡ false → (addressed w x).net.histories ≡ w.net.histories
peer_appends_nothing w x q b runs to old =
    let p = party q b in
    let h = heard_by_peer w x q b runs to in
    ap (λ (n : Net Ledger). n.histories) h.net ∙ ap (λ t. (cond t (publish (comes w.net p is_master (Some x)) p (to_master h.ledger)) (comes w.net p is_master (Some x))).histories) old

-- A packet that is for a master that runs and talks to its sender
pub master_is_told : (w : World) (x : Packet) (M : Master) → find nat_cmp x.to.inc w.masters ≡ Some M → x.to.id ≡ master_id → talks w.cluster M x.from.id ≡ true
    → addressed w x ≡ end_step w (comes w.net (master_party M) (talks w.cluster M) (Some x)) (told M (heard_of w.net (master_party M) (talks w.cluster M) x) x.from.id (received w.cluster M w.net x)) (adopted_now M (heard_of w.net (master_party M) (talks w.cluster M) x) x.from.id (received w.cluster M w.net x))
master_is_told w x M f to t =
    ap (λ (d : Id). cond (is_master d) (with_found (find nat_cmp x.to.inc w.masters) w (λ M. master_hears w M x))
    (cond (is_agent d) (with_found (find nat_cmp d.number w.agents) w (λ g. agent_hears w d.number g x))
    (cond (is_app d) (with_found (find nat_cmp d.number w.apps) w (λ g. app_hears w d.number g x)) w))) to
    ∙ ap (λ o. with_found o w (λ M. master_hears w M x)) f
    ∙ ap (λ b. cond b (end_step w (comes w.net (master_party M) (talks w.cluster M) (Some x)) (told M (heard_of w.net (master_party M) (talks w.cluster M) x) x.from.id (received w.cluster M w.net x)) (adopted_now M (heard_of w.net (master_party M) (talks w.cluster M) x) x.from.id (received w.cluster M w.net x))) w) t

-- its links are those of hearing, and nobody else's change
pub master_links : (w : World) (x : Packet) (M : Master) → find nat_cmp x.to.inc w.masters ≡ Some M → x.to.id ≡ master_id → talks w.cluster M x.from.id ≡ true
    → (addressed w x).net.links ≡ (comes w.net (master_party M) (talks w.cluster M) (Some x)).links
master_links w x M f to t =
    let n = comes w.net (master_party M) (talks w.cluster M) (Some x) in
    let h = heard_of w.net (master_party M) (talks w.cluster M) x in
    let R = ready w.cluster (told M h x.from.id (received w.cluster M w.net x)) in
    ap (λ (v : World). v.net.links) (master_is_told w x M f to t) ∙ publish_links n (master_party R) (offers w.cluster n R (adopted_now M h x.from.id (received w.cluster M w.net x)))

pub master_link : (w : World) (x : Packet) (M : Master) → find nat_cmp x.to.inc w.masters ≡ Some M → x.to.id ≡ master_id → talks w.cluster M x.from.id ≡ true
    → (addressed w x).net.links (master_party M) x.from.id ≡ (hear (master_party M) true (last w.net (master_party M) x.from.id) (w.net.links (master_party M) x.from.id) x).link
master_link w x M f to t =
    let h = heard_of w.net (master_party M) (talks w.cluster M) x in
    ap (λ (ls : Party → Id → Link). ls (master_party M) x.from.id) (master_links w x M f to t) ∙ set_here w.net.links (master_party M) x.from.id h.link
    ∙ ap (λ b. (hear (master_party M) b (last w.net (master_party M) x.from.id) (w.net.links (master_party M) x.from.id) x).link) t

pub master_leaves : (w : World) (x : Packet) (M : Master) → find nat_cmp x.to.inc w.masters ≡ Some M → x.to.id ≡ master_id → talks w.cluster M x.from.id ≡ true → Leaves (master_party M) w.net (addressed w x).net
master_leaves w x M f to t =
    let n = comes w.net (master_party M) (talks w.cluster M) (Some x) in
    let h = heard_of w.net (master_party M) (talks w.cluster M) x in
    let l = received w.cluster M w.net x in
    let N = told M h x.from.id l in
    let R = ready w.cluster N in
    let os = offers w.cluster n R (adopted_now M h x.from.id l) in
    let epoch : R.epoch ≡ M.epoch = ready_epoch w.cluster N ∙ (told_same M h x.from.id l).epoch in
    subst (λ (v : World). Leaves (master_party M) w.net v.net) (sym (master_is_told w x M f to t))
    (leaves_then (master_party M) w.net n (publish n (master_party R) os) (comes_leaves w.net (master_party M) (talks w.cluster M) x) (subst (λ k. Leaves (party master_id k) n (publish n (master_party R) os)) epoch (publish_leaves n (master_party R) os)))
