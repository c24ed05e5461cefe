-- The parties stand in order after every event, and only machines of a line are banned.
use Rattle.std.proofs.Common.{◌≡◌, ℕ, zero, suc, ◌+◌, ◌-◌, ◌<◌, ◌≤◌, Bool, true, false, cond, not, nat_eq, nat_lt, T, List, [], ◌∷◌, ◌++◌, length, map, Option, Some, None, refl, sym, ap, subst, arith}
use Rattle.std.specs.List.{AllByRecursion, filter}
use Rattle.std.specs.Ordering.{nat_cmp}
use Rattle.std.specs.Cmp.{nat_cmp_total}
use Rattle.std.specs.FinMap.Entries.{find, where_key, is_sorted, is_sorted-put, is_sorted-where_key}
use Rattle.std.proofs.lemmas.Bool.Decides.{nat_tests}
use Rattle.fuxi_terms.specs.Cluster.{ClusterRecord, has_machine, is_between, is_valid_cluster}
use Rattle.fuxi_terms.specs.Limits.{most_machines, most_resources}
use Rattle.fuxi_terms.specs.Jobs.{job_numbers, eight_places}
use Rattle.fuxi_terms.specs.Numbers.{has_number, without_number}
use Rattle.fuxi_terms.proofs.Alls.{all_more}
use Rattle.fuxi_terms.proofs.Booleans.{both_true, either}
use Rattle.spec_net.specs.Net.{Net, Party, Packet, Starts, move, comes, heard_of}
use Rattle.spec_net.specs.Ledgers.{Ledger}
use Rattle.spec_net.specs.Channels.{is_agent, is_app, is_master, master_id, agent_id, app_id, party}
use Rattle.spec_roles.specs.Masters.{Master}
use Rattle.spec_roles.specs.HardState.{HardState, raised, submitted, finished, banned, unbanned, with_job, Raise}
use Rattle.spec_roles.specs.MasterSteps.{BansMachine, master_party, talks, ended_in, banned_in, new_master}
use Rattle.spec_roles.specs.Preemption.{preempted}
use Rattle.spec_roles.specs.Refusals.{Refusal, with_found}
use Rattle.spec_roles.specs.Votes.{VotesRecord, judged, votes_in}
use Rattle.spec_roles.proofs.MasterVotes.{judged_free}
use Rattle.spec_roles.specs.Apps.{AppCommand, Wants, WantsNear, WantsInRack, Avoids, GivesBack}
use Rattle.spec_world.specs.Outputs.{Line}
use Rattle.spec_world.specs.World.{World, Agent, App, Step, prints_nothing, refused}
use Rattle.spec_world.specs.Parties.{end_step, told, received, adopted_now, master_hears, agent_hears, app_hears}
use Rattle.spec_world.specs.Events.{Event, StartMaster, StopMaster, StartAgent, StartApp, Submit, Finish, Ban, Unban, Begin, Preempt, Judge, Want, Near, Rack, Avoid, GiveBack, TurnMaster, TurnAgent, TurnApp, ResyncMaster, ResyncAgent, ResyncApp, Deliver, DeliverRange, Dump, ShowState, Halt, halted, is_writing, is_written, writer_of, at_master, at_agent, at_app, turned, turn_to_master, addressed, packet_of, deliver_one, deliver_all, commanded, ban_each, agent_started, app_started, act, counted_in, world_step, asks}
use Rattle.spec_world.specs.EventRanges.{is_from_line, is_counted}
use Rattle.spec_world.proofs.CommandLemmas.{found_has, hard_has, submits_has, finishes_has, bans_has, unbans_has, begins_has, makes_room_has}
use Rattle.spec_world.specs.Orders.{Rise, IsInOrder}
use Rattle.fuxi_terms.proofs.NumbersLemmas.{with_all, with_rises}

-- Numbers that are left
left : (p : ℕ → Bool) (ns : List ℕ) → map {B = ℕ × ℕ} (λ n. (n, 0)) (filter p ns) ≡ where_key nat_cmp p (map {B = ℕ × ℕ} (λ n. (n, 0)) ns)
left p [] = refl
left p (n ∷ ns) = by (p n) (left p ns)
  where
    by : (b : Bool) → map {B = ℕ × ℕ} (λ n. (n, 0)) (filter p ns) ≡ where_key nat_cmp p (map {B = ℕ × ℕ} (λ n. (n, 0)) ns)
        → map {B = ℕ × ℕ} (λ n. (n, 0)) (cond b (n ∷ filter p ns) (filter p ns)) ≡ cond b ((n, 0) ∷ where_key nat_cmp p (map {B = ℕ × ℕ} (λ n. (n, 0)) ns)) (where_key nat_cmp p (map {B = ℕ × ℕ} (λ n. (n, 0)) ns))
    by true rest = ap (λ l. (n, 0) ∷ l) rest
    by false rest = rest

left_rise : (p : ℕ → Bool) (ns : List ℕ) → Rise ns → Rise (filter p ns)
left_rise p ns h = subst (λ es. T (is_sorted nat_cmp es)) (sym (left p ns)) (is_sorted-where_key nat_cmp p (map {B = ℕ × ℕ} (λ n. (n, 0)) ns) h)

left_all : (P : ℕ → Type 0) (p : ℕ → Bool) (ns : List ℕ) → AllByRecursion P ns → AllByRecursion P (filter p ns)
left_all P p [] h = tt
left_all P p (n ∷ ns) h = either (AllByRecursion P) (p n) (n ∷ filter p ns) (filter p ns) (λ _. (h.0, left_all P p ns h.1)) (λ _. left_all P p ns h.1)

-- Steps
record StepInOrder (s : Step) : Type 0 where
  it : IsInOrder s.world

record StillInOrder (w : World) : Type 0 where
  it : IsInOrder w

-- a net that changes
netted : (w : World) (net : Net Ledger) → IsInOrder w → IsInOrder (record w { net = net })
netted w net o = record { masters = o.masters; agents = o.agents; apps = o.apps; bans = o.bans; banned = o.banned }

-- a master's step that ends
ends : (w : World) (hard : HardState) (ran : List Party) (net : Net Ledger) (N : Master) (even_if_equal : List _) → IsInOrder w → Rise hard.bans → AllByRecursion (λ m. m < most_machines) hard.bans
    → IsInOrder (end_step (record w { hard = hard; ran = ran }) net N even_if_equal)
ends w hard ran net N even_if_equal o rise below = record { masters = is_sorted-put nat_cmp nat_cmp_total _ _ w.masters o.masters; agents = o.agents; apps = o.apps; bans = rise; banned = below }

acts : (w : World) (hard : HardState) (N : Master) (even_if_equal : List _) → IsInOrder w → Rise hard.bans → AllByRecursion (λ m. m < most_machines) hard.bans → IsInOrder (end_step (record w { hard = hard }) w.net N even_if_equal)
acts w hard N even_if_equal o rise below = ends w hard w.ran w.net N even_if_equal o rise below

checked : (w : World) (r : Option Refusal) (s : Step) → IsInOrder w → StepInOrder s → StepInOrder (elim r as (λ _. Step) [ None ↦ s | Some r ↦ refused w r ])
checked w None s o k = k
checked w (Some r) s o k = record { it = o }

stays : (w : World) → IsInOrder w → (r : Refusal) → StepInOrder (refused w r)
stays w o r = record { it = o }

master_runs : (w : World) (e : ℕ) (f : Master → Step) → IsInOrder w → ((M : Master) → StepInOrder (f M)) → StepInOrder (at_master w e f)
master_runs w e f o k = found_has StepInOrder (find nat_cmp e w.masters) _ f (record { it = o }) (λ M _. k M)

agent_runs : (w : World) (m : ℕ) (f : Agent → Step) → IsInOrder w → ((g : Agent) → StepInOrder (f g)) → StepInOrder (at_agent w m f)
agent_runs w m f o k = found_has StepInOrder (find nat_cmp m w.agents) _ f (record { it = o }) (λ g _. k g)

app_runs : (w : World) (a : ℕ) (f : App → Step) → IsInOrder w → ((g : App) → StepInOrder (f g)) → StepInOrder (at_app w a f)
app_runs w a f o k = found_has StepInOrder (find nat_cmp a w.apps) _ f (record { it = o }) (λ g _. k g)

-- Packets
hears : (w : World) (M : Master) (x : Packet) → IsInOrder w → StillInOrder (master_hears w M x)
hears w M x o =
    let h = heard_of w.net (master_party M) (talks w.cluster M) x in
    let l = received w.cluster M w.net x in
    let net = comes w.net (master_party M) (talks w.cluster M) (Some x) in
    either StillInOrder (talks w.cluster M x.from.id) (end_step w net (told M h x.from.id l) (adopted_now M h x.from.id l)) w
    (λ _. record { it = ends w w.hard w.ran net (told M h x.from.id l) (adopted_now M h x.from.id l) o o.bans o.banned }) (λ _. record { it = o })

app_heard : (w : World) (a : ℕ) (g : App) (x : Packet) → IsInOrder w → StillInOrder (app_hears w a g x)
app_heard w a g x o = record { it = record { masters = o.masters; agents = o.agents; apps = is_sorted-put nat_cmp nat_cmp_total a _ w.apps o.apps; bans = o.bans; banned = o.banned } }

arrives : (w : World) (x : Packet) → IsInOrder w → StillInOrder (addressed w x)
arrives w x o =
    let same : StillInOrder w = record { it = o } in
    let to_master = with_found (find nat_cmp x.to.inc w.masters) w (λ M. master_hears w M x) in
    let to_agent = with_found (find nat_cmp x.to.id.number w.agents) w (λ g. agent_hears w x.to.id.number g x) in
    let to_app = with_found (find nat_cmp x.to.id.number w.apps) w (λ g. app_hears w x.to.id.number g x) in
    let master : StillInOrder to_master = found_has StillInOrder (find nat_cmp x.to.inc w.masters) w (λ M. master_hears w M x) same (λ M _. hears w M x o) in
    let agent : StillInOrder to_agent = found_has StillInOrder (find nat_cmp x.to.id.number w.agents) w (λ g. agent_hears w x.to.id.number g x) same (λ g _. record { it = netted w _ o }) in
    let app : StillInOrder to_app = found_has StillInOrder (find nat_cmp x.to.id.number w.apps) w (λ g. app_hears w x.to.id.number g x) same (λ g _. app_heard w x.to.id.number g x o) in
    either StillInOrder (is_master x.to.id) to_master (cond (is_agent x.to.id) to_agent (cond (is_app x.to.id) to_app w)) (λ _. master)
    (λ _. either StillInOrder (is_agent x.to.id) to_agent (cond (is_app x.to.id) to_app w) (λ _. agent)
    (λ _. either StillInOrder (is_app x.to.id) to_app w (λ _. app) (λ _. same)))

delivers : (k : ℕ) (w : World) → IsInOrder w → StepInOrder (deliver_one k w)
delivers k w o = found_has StepInOrder (packet_of w k) _ _ (record { it = o }) (λ x _. record { it = (arrives w x o).it })

delivers_all : (n k : ℕ) (w : World) → IsInOrder w → StepInOrder (deliver_all n k w)
delivers_all zero k w o = record { it = o }
delivers_all (suc n) k w o = record { it = (delivers_all n (k + 1) (deliver_one k w).world (delivers k w o).it).it }

-- What agents and applications do
turns : (w : World) (p : Party) → IsInOrder w → StepInOrder (turn_to_master w p)
turns w p o = either StepInOrder (nat_eq (w.net.links p master_id).known 0) (prints_nothing w) (turned w p (master_id ∷ [])) (λ _. record { it = o }) (λ _. record { it = netted w _ o })

asked : (w : World) (a : ℕ) (x : AppCommand) → IsInOrder w → StepInOrder (asks w a x)
asked w a x o = app_runs w a _ o (λ g. checked w _ _ o (record { it = netted w _ o }))

agent_starts : (w : World) (m b : ℕ) → IsInOrder w → IsInOrder (agent_started w m b)
agent_starts w m b o = record { masters = o.masters; agents = is_sorted-put nat_cmp nat_cmp_total m _ w.agents o.agents; apps = o.apps; bans = o.bans; banned = o.banned }

app_starts : (w : World) (a b : ℕ) → IsInOrder w → IsInOrder (app_started w a b)
app_starts w a b o = record { masters = o.masters; agents = o.agents; apps = is_sorted-put nat_cmp nat_cmp_total a _ w.apps o.apps; bans = o.bans; banned = o.banned }

-- Bans
one_ban : (w : World) (e m : ℕ) → m < most_machines → IsInOrder w → StepInOrder (commanded w e (BansMachine m))
one_ban w e m below o = master_runs w e _ o (λ M. bans_has StepInOrder w (stays w o) M _ m (λ _. record { it = acts w (banned w.hard m) (banned_in M m) [] o (with_rises m w.hard.bans o.bans) (with_all (λ m. m < most_machines) m w.hard.bans below o.banned) }))

bans_each : (e : ℕ) (votes : VotesRecord) (ms : List ℕ) (w : World) → AllByRecursion (λ m. m < most_machines) ms → IsInOrder w → StepInOrder (ban_each e votes ms w)
bans_each e votes [] w below o = record { it = o }
bans_each e votes (m ∷ ms) w below o = record { it = (bans_each e votes ms (commanded w e (BansMachine m)).world below.1 (one_ban w e m below.0 o).it).it }

judged_below : (c : ClusterRecord) (M : Master) (least percent : ℕ) → length c.machines ≤ most_machines → AllByRecursion (λ m. m < most_machines) (judged (votes_in c M) least percent)
judged_below c M least percent few =
    all_more (λ m. (has_machine c m ≡ true) × (has_number m M.bans ≡ false)) (λ m. m < most_machines) (λ m h. let there = h.0 in let low : m < length c.machines = grind (arith, nat_tests, there) in omega (arith, low, few))
    (judged (votes_in c M) least percent) (judged_free c M least percent)

few_machines : (c : ClusterRecord) → is_valid_cluster c ≡ true → length c.machines ≤ most_machines
few_machines c e =
    let a = both_true (is_between 1 most_resources c.resources) _ e in
    let b = both_true (is_between 1 most_machines (length c.machines)) _ a.1 in
    let t = (both_true (not (nat_lt (length c.machines) 1)) (not (nat_lt most_machines (length c.machines))) b.0).1 in
    grind (arith, nat_tests, t)

-- A stop within a writing
halts : (w : World) (e : ℕ) (written : Bool) (v : World) (ls : List Line) → IsInOrder w → IsInOrder v → StepInOrder (halted w e written v ls)
halts w e true v [] o k = record { it = record { masters = is_sorted-where_key nat_cmp (λ k. not (nat_eq k e)) w.masters o.masters; agents = o.agents; apps = o.apps; bans = k.bans; banned = k.banned } }
halts w e false v [] o k = record { it = record { masters = is_sorted-where_key nat_cmp (λ k. not (nat_eq k e)) w.masters o.masters; agents = o.agents; apps = o.apps; bans = o.bans; banned = o.banned } }
halts w e written v (l ∷ ls) o k = record { it = o }

-- Every event
acts_in_order : (w : World) (e : Event) → length w.cluster.machines ≤ most_machines → is_from_line e ≡ true → IsInOrder w → StepInOrder (act w e)
acts_in_order w (StartMaster e) few t o = checked w _ _ o (hard_has StepInOrder w (stays w o) w.hard e Raise _ (λ _. record { it = ends w (raised w.hard e) (w.ran ++ party master_id e ∷ []) (move w.net (Starts (party master_id e))) (new_master (raised w.hard e) e) (map app_id (job_numbers w.hard.jobs)) o o.bans o.banned }))
acts_in_order w (StopMaster e) few t o = master_runs w e _ o (λ M. record { it = record { masters = is_sorted-where_key nat_cmp (λ k. not (nat_eq k e)) w.masters o.masters; agents = o.agents; apps = o.apps; bans = o.bans; banned = o.banned } })
acts_in_order w (StartAgent m b) few t o = checked w _ (prints_nothing (agent_started w m b)) o (record { it = agent_starts w m b o })
acts_in_order w (StartApp a b) few t o = checked w _ (prints_nothing (app_started w a b)) o (record { it = app_starts w a b o })
acts_in_order w (Submit e j) few t o = master_runs w e _ o (λ M. submits_has StepInOrder w (stays w o) M _ j (λ _ _. record { it = acts w (submitted w.hard (eight_places j)) (record M { jobs = with_job (eight_places j) M.jobs }) (app_id j.number ∷ []) o o.bans o.banned }))
acts_in_order w (Finish e a) few t o = master_runs w e _ o (λ M. finishes_has StepInOrder w (stays w o) M _ a (λ _. record { it = acts w (finished w.hard a) (ended_in M a) [] o o.bans o.banned }))
acts_in_order w (Ban e m) few t o = let b = (both_true (is_counted e) (nat_lt m most_machines) t).1 in one_ban w e m (grind (arith, nat_tests, b)) o
acts_in_order w (Unban e m) few t o = master_runs w e _ o (λ M. unbans_has StepInOrder w (stays w o) M _ m (λ _. record {
  it = acts w (unbanned w.hard m) (record M { bans = without_number m M.bans }) [] o
      (left_rise (λ k. not (nat_eq k m)) w.hard.bans o.bans) (left_all (λ m. m < most_machines) (λ k. not (nat_eq k m)) w.hard.bans o.banned);
}))
acts_in_order w (Begin e) few t o = master_runs w e _ o (λ M. begins_has StepInOrder w (stays w o) M _ (record { it = acts w w.hard (record M { serving = true }) [] o o.bans o.banned }))
acts_in_order w (Preempt e) few t o = master_runs w e _ o (λ M. makes_room_has StepInOrder w (stays w o) M _ (λ p _. record { it = acts w w.hard (preempted M p) [] o o.bans o.banned }))
acts_in_order w (Judge e least percent) few t o = master_runs w e _ o (λ M. checked w _ _ o (bans_each e (votes_in w.cluster M) (judged (votes_in w.cluster M) least percent) w (judged_below w.cluster M least percent few) o))
acts_in_order w (Want a u n) few t o = asked w a (Wants u n) o
acts_in_order w (Near a u m n) few t o = asked w a (WantsNear u m n) o
acts_in_order w (Rack a u r n) few t o = asked w a (WantsInRack u r n) o
acts_in_order w (Avoid a u m on) few t o = asked w a (Avoids u m on) o
acts_in_order w (GiveBack a u m n) few t o = asked w a (GivesBack u m n) o
acts_in_order w (TurnMaster e) few t o = master_runs w e _ o (λ M. record { it = netted w _ o })
acts_in_order w (TurnAgent m) few t o = agent_runs w m _ o (λ g. turns w (party (agent_id m) g.boot) o)
acts_in_order w (TurnApp a) few t o = app_runs w a _ o (λ g. turns w (party (app_id a) g.boot) o)
acts_in_order w (ResyncMaster e) few t o = master_runs w e _ o (λ M. record { it = netted w _ o })
acts_in_order w (ResyncAgent m) few t o = agent_runs w m _ o (λ g. record { it = netted w _ o })
acts_in_order w (ResyncApp a) few t o = app_runs w a _ o (λ g. record { it = netted w _ o })
acts_in_order w (Deliver k) few t o = checked w _ _ o (delivers k w o)
acts_in_order w (DeliverRange k l) few t o = checked w _ _ o (delivers_all (l + 1 - k) k w o)
acts_in_order w (Dump k) few t o = checked w _ _ o (found_has StepInOrder (packet_of w k) _ _ (record { it = o }) (λ x _. record { it = o }))
acts_in_order w ShowState few t o = record { it = o }
acts_in_order w (Halt calls all x) few t o = halts w (writer_of x) (is_written calls all) (act w x).world (act w x).lines o (acts_in_order w x few (both_true (is_writing x) _ (both_true (is_between 1 4 calls) _ t).1).1 o).it

pub kept_in_order : (w : World) (e : Event) → is_valid_cluster w.cluster ≡ true → is_from_line e ≡ true → IsInOrder w → IsInOrder (world_step w e).world
kept_in_order w e valid t o = (acts_in_order (counted_in w) e (few_machines w.cluster valid) t (record { masters = o.masters; agents = o.agents; apps = o.apps; bans = o.bans; banned = o.banned })).it
