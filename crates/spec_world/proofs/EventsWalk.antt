-- What each thing that changes a world keeps, every event keeps. Of the cluster, the hard state and the running masters, which few things change,
-- only these few are to be shown.
use Rattle.std.proofs.Common.{◌≡◌, ℕ, zero, suc, ◌+◌, ◌-◌, Bool, true, false, cond, not, nat_eq, nat_lt, List, [], ◌∷◌, length, Option, Some, None, refl, sym, subst, ◌++◌, map}
use Rattle.std.specs.Prelude.{⊤}
use Rattle.std.specs.List.{AllByRecursion}
use Rattle.std.specs.Ordering.{nat_cmp}
use Rattle.std.specs.FinMap.Entries.{find, put, where_key}
use Rattle.fuxi_terms.specs.Cluster.{ClusterRecord, JobRecord, has_group, has_machine}
use Rattle.fuxi_terms.specs.Limits.{most_masters}
use Rattle.fuxi_terms.specs.Jobs.{eight_places, is_known, has_ended, job_numbers}
use Rattle.fuxi_terms.specs.Numbers.{without_number}
use Rattle.spec_net.specs.Net.{Net, Party, Packet, comes, heard_of, Starts, move}
use Rattle.spec_net.specs.Ledgers.{Ledger}
use Rattle.spec_net.specs.Channels.{is_agent, is_app, is_master, master_id, agent_id, app_id, party}
use Rattle.spec_roles.specs.Masters.{Master}
use Rattle.spec_roles.specs.HardState.{HardState, raised, submitted, finished, banned, unbanned, with_job, Raise, is_not_rising, hard_tests, submit_tests, finish_tests, ban_tests, unban_tests}
use Rattle.spec_roles.specs.MasterSteps.{BansMachine, talks, ready, ended_in, banned_in, new_master, master_party, peers}
use Rattle.spec_roles.specs.Preemption.{Plan, plan_of, preempted}
use Rattle.spec_roles.specs.Refusals.{Refusal, TooManyMasters, NoGroup, first_refusal, job_tests, with_found, NotRising, NoMachine, NoJob, Ended}
use Rattle.spec_roles.specs.Votes.{VotesRecord, judged, votes_in}
use Rattle.spec_world.specs.Outputs.{Line}
use Rattle.spec_world.specs.World.{World, Agent, App, Step, prints_nothing, refused}
use Rattle.spec_world.specs.Parties.{end_step, told, received, adopted_now, master_hears, agent_hears, app_hears}
use Rattle.spec_world.specs.Events.{Event, StartMaster, StopMaster, StartAgent, StartApp, Submit, Finish, Ban, Unban, Begin, Preempt, Judge, Want, Near, Rack, Avoid, GiveBack, TurnMaster, TurnAgent, TurnApp, ResyncMaster, ResyncAgent, ResyncApp, Deliver, DeliverRange, Dump, ShowState, Halt, at_master, at_agent, at_app, demanded, turned, turn_to_master, addressed, packet_of, deliver_one, deliver_all, commanded, ban_each, given_back, agent_started, app_started, act, counted_in, world_step, halted, is_written, without_master, writer_of, asks, usable_now, resynced}
use Rattle.spec_world.specs.Runs.{run_from}
use Rattle.fuxi_terms.proofs.Booleans.{either}
use Rattle.spec_world.proofs.CommandLemmas.{found_has, hard_has, submits_has, finishes_has, bans_has, unbans_has, begins_has, serving_makes_room_has}
use Rattle.spec_world.proofs.LeftLemmas.{HasLeft, Left, Unwritten, left_by, left_hard}
use Rattle.spec_roles.specs.Apps.{AppCommand, command_tests, command_key, command_number, Wants, WantsNear, WantsInRack, Avoids, GivesBack}

-- events of which no more need be known
pub unasked : (es : List Event) → AllByRecursion (λ (_ : Event). ⊤) es
unasked [] = tt
unasked (e ∷ es) = (tt, unasked es)

-- P of a world
pub record Holds (P : World → Type 0) (w : World) : Type 0 where
  pub it : P w

-- and after a step
pub record StepHolds (P : World → Type 0) (s : Step) : Type 0 where
  pub it : P s.world

-- P after all that changes a world, where the event's tests passed; of a master that stops, also within a writing. Of a submit it may be known that it is of a line
pub record WorldKept (P : World → Type 0) (Allowed : Event → Type 0) (w : World) : Type 0 where
  pub counted : P (counted_in w)
  pub starts : (e : ℕ) → first_refusal (is_not_rising w.hard e ∷ (not (nat_lt (length w.masters) most_masters), TooManyMasters most_masters) ∷ []) ≡ None → first_refusal (hard_tests w.hard e Raise) ≡ None
      → P (end_step (record w { hard = raised w.hard e; ran = w.ran ++ party master_id e ∷ [] }) (move w.net (Starts (party master_id e))) (new_master (raised w.hard e) e) (map app_id (job_numbers w.hard.jobs)))
  pub stops : (e : ℕ) (l : Left Allowed w.cluster w.hard w.masters e) → P (without_master w e (left_hard w.hard l))
  pub starts_agent : (m n : ℕ) → first_refusal ((not (has_machine w.cluster m), NoMachine) ∷ (not (nat_lt (w.boots (agent_id m)) n), NotRising (w.boots (agent_id m))) ∷ []) ≡ None → P (agent_started w m n)
  pub starts_app : (a n : ℕ) → first_refusal ((not (is_known w.hard.jobs a), NoJob) ∷ (has_ended w.hard.jobs a, Ended) ∷ (not (nat_lt (w.boots (app_id a)) n), NotRising (w.boots (app_id a))) ∷ []) ≡ None → P (app_started w a n)
  pub submits : (e : ℕ) (M : Master) (j : JobRecord) → find nat_cmp e w.masters ≡ Some M → Allowed (Submit e j) → first_refusal ((not (has_group w.cluster j.group), NoGroup) ∷ job_tests w.cluster.resources j) ≡ None → first_refusal (submit_tests w.hard M.epoch (eight_places j)) ≡ None
      → P (end_step (record w { hard = submitted w.hard (eight_places j) }) w.net (record M { jobs = with_job (eight_places j) M.jobs }) (app_id j.number ∷ []))
  pub finishes : (e : ℕ) (M : Master) (a : ℕ) → find nat_cmp e w.masters ≡ Some M → first_refusal (finish_tests w.hard M.epoch a) ≡ None → P (end_step (record w { hard = finished w.hard a }) w.net (ended_in M a) [])
  pub bans : (e : ℕ) (M : Master) (m : ℕ) → find nat_cmp e w.masters ≡ Some M → first_refusal (ban_tests w.hard M.epoch m) ≡ None → P (end_step (record w { hard = banned w.hard m }) w.net (banned_in M m) [])
  pub unbans : (e : ℕ) (M : Master) (m : ℕ) → find nat_cmp e w.masters ≡ Some M → first_refusal (unban_tests w.hard M.epoch m) ≡ None → P (end_step (record w { hard = unbanned w.hard m }) w.net (record M { bans = without_number m M.bans }) [])
  pub begins : (e : ℕ) (M : Master) → find nat_cmp e w.masters ≡ Some M → P (end_step w w.net (record M { serving = true }) [])
  pub preempts : (e : ℕ) (M : Master) (p : Plan) → find nat_cmp e w.masters ≡ Some M → M.serving ≡ true → plan_of w.cluster M ≡ Some p → P (end_step w w.net (preempted M p) [])
  pub asks : (a : ℕ) (g : App) (x : AppCommand) → find nat_cmp a w.apps ≡ Some g → first_refusal (command_tests w.cluster g.units (usable_now w a g) (given_back w a g) x) ≡ None → P (demanded w a g (command_key x) (command_number (given_back w a g) x)).world
  pub master_turns : (e : ℕ) (M : Master) → find nat_cmp e w.masters ≡ Some M → P (turned w (master_party M) (peers w.cluster M)).world
  pub agent_turns : (m : ℕ) (g : Agent) → find nat_cmp m w.agents ≡ Some g → P (turned w (party (agent_id m) g.boot) (master_id ∷ [])).world
  pub app_turns : (a : ℕ) (g : App) → find nat_cmp a w.apps ≡ Some g → P (turned w (party (app_id a) g.boot) (master_id ∷ [])).world
  pub master_resyncs : (e : ℕ) (M : Master) → find nat_cmp e w.masters ≡ Some M → P (resynced w (master_party M) (peers w.cluster M)).world
  pub agent_resyncs : (m : ℕ) (g : Agent) → find nat_cmp m w.agents ≡ Some g → P (resynced w (party (agent_id m) g.boot) (master_id ∷ [])).world
  pub app_resyncs : (a : ℕ) (g : App) → find nat_cmp a w.apps ≡ Some g → P (resynced w (party (app_id a) g.boot) (master_id ∷ [])).world
  pub hears : (e : ℕ) (M : Master) (k : ℕ) (x : Packet) → find nat_cmp e w.masters ≡ Some M → packet_of w k ≡ Some x → is_master x.to.id ≡ true → talks w.cluster M x.from.id ≡ true
      → P (let h = heard_of w.net (master_party M) (talks w.cluster M) x in let l = received w.cluster M w.net x in end_step w (comes w.net (master_party M) (talks w.cluster M) (Some x)) (told M h x.from.id l) (adopted_now M h x.from.id l))
  pub agent_hears : (m : ℕ) (g : Agent) (k : ℕ) (x : Packet) → find nat_cmp m w.agents ≡ Some g → packet_of w k ≡ Some x → P (agent_hears w m g x)
  pub app_hears : (a : ℕ) (g : App) (k : ℕ) (x : Packet) → find nat_cmp a w.apps ≡ Some g → packet_of w k ≡ Some x → P (app_hears w a g x)

-- the event by which an application asks
abbrev pub asking : ℕ → AppCommand → Event
asking a (Wants u n) = Want a u n
asking a (WantsNear u m n) = Near a u m n
asking a (WantsInRack u r n) = Rack a u r n
asking a (Avoids u m on) = Avoid a u m on
asking a (GivesBack u m n) = GiveBack a u m n

-- P of each event and of what it makes of one world, where its tests passed
pub record EventSteps (P : Event → World → Type 0) (Allowed : Event → Type 0) (w : World) : Type 0 where
  pub same : (v : Event) → P v w
  pub starts : (e : ℕ) → first_refusal (is_not_rising w.hard e ∷ (not (nat_lt (length w.masters) most_masters), TooManyMasters most_masters) ∷ []) ≡ None → first_refusal (hard_tests w.hard e Raise) ≡ None
      → P (StartMaster e) (end_step (record w { hard = raised w.hard e; ran = w.ran ++ party master_id e ∷ [] }) (move w.net (Starts (party master_id e))) (new_master (raised w.hard e) e) (map app_id (job_numbers w.hard.jobs)))
  pub stops : (e : ℕ) → P (StopMaster e) (without_master w e w.hard)
  pub halts : (calls : ℕ) (all : Bool) (x : Event) (l : Left Allowed w.cluster w.hard w.masters (writer_of x)) → P (Halt calls all x) (without_master w (writer_of x) (left_hard w.hard l))
  pub starts_agent : (m n : ℕ) → first_refusal ((not (has_machine w.cluster m), NoMachine) ∷ (not (nat_lt (w.boots (agent_id m)) n), NotRising (w.boots (agent_id m))) ∷ []) ≡ None → P (StartAgent m n) (agent_started w m n)
  pub starts_app : (a n : ℕ) → first_refusal ((not (is_known w.hard.jobs a), NoJob) ∷ (has_ended w.hard.jobs a, Ended) ∷ (not (nat_lt (w.boots (app_id a)) n), NotRising (w.boots (app_id a))) ∷ []) ≡ None → P (StartApp a n) (app_started w a n)
  pub submits : (e : ℕ) (M : Master) (j : JobRecord) → find nat_cmp e w.masters ≡ Some M → Allowed (Submit e j) → first_refusal ((not (has_group w.cluster j.group), NoGroup) ∷ job_tests w.cluster.resources j) ≡ None → first_refusal (submit_tests w.hard M.epoch (eight_places j)) ≡ None
      → P (Submit e j) (end_step (record w { hard = submitted w.hard (eight_places j) }) w.net (record M { jobs = with_job (eight_places j) M.jobs }) (app_id j.number ∷ []))
  pub finishes : (e : ℕ) (M : Master) (a : ℕ) → find nat_cmp e w.masters ≡ Some M → first_refusal (finish_tests w.hard M.epoch a) ≡ None → P (Finish e a) (end_step (record w { hard = finished w.hard a }) w.net (ended_in M a) [])
  pub bans : (e : ℕ) (M : Master) (m : ℕ) → find nat_cmp e w.masters ≡ Some M → first_refusal (ban_tests w.hard M.epoch m) ≡ None → P (Ban e m) (end_step (record w { hard = banned w.hard m }) w.net (banned_in M m) [])
  pub unbans : (e : ℕ) (M : Master) (m : ℕ) → find nat_cmp e w.masters ≡ Some M → first_refusal (unban_tests w.hard M.epoch m) ≡ None → P (Unban e m) (end_step (record w { hard = unbanned w.hard m }) w.net (record M { bans = without_number m M.bans }) [])
  pub begins : (e : ℕ) (M : Master) → find nat_cmp e w.masters ≡ Some M → P (Begin e) (end_step w w.net (record M { serving = true }) [])
  pub preempts : (e : ℕ) (M : Master) (p : Plan) → find nat_cmp e w.masters ≡ Some M → M.serving ≡ true → plan_of w.cluster M ≡ Some p → P (Preempt e) (end_step w w.net (preempted M p) [])
  pub asks : (a : ℕ) (g : App) (x : AppCommand) → find nat_cmp a w.apps ≡ Some g → first_refusal (command_tests w.cluster g.units (usable_now w a g) (given_back w a g) x) ≡ None → P (asking a x) (demanded w a g (command_key x) (command_number (given_back w a g) x)).world
  pub master_turns : (e : ℕ) (M : Master) → find nat_cmp e w.masters ≡ Some M → P (TurnMaster e) (turned w (master_party M) (peers w.cluster M)).world
  pub agent_turns : (m : ℕ) (g : Agent) → find nat_cmp m w.agents ≡ Some g → P (TurnAgent m) (turned w (party (agent_id m) g.boot) (master_id ∷ [])).world
  pub app_turns : (a : ℕ) (g : App) → find nat_cmp a w.apps ≡ Some g → P (TurnApp a) (turned w (party (app_id a) g.boot) (master_id ∷ [])).world
  pub master_resyncs : (e : ℕ) (M : Master) → find nat_cmp e w.masters ≡ Some M → P (ResyncMaster e) (resynced w (master_party M) (peers w.cluster M)).world
  pub agent_resyncs : (m : ℕ) (g : Agent) → find nat_cmp m w.agents ≡ Some g → P (ResyncAgent m) (resynced w (party (agent_id m) g.boot) (master_id ∷ [])).world
  pub app_resyncs : (a : ℕ) (g : App) → find nat_cmp a w.apps ≡ Some g → P (ResyncApp a) (resynced w (party (app_id a) g.boot) (master_id ∷ [])).world
  pub hears : (M : Master) (k : ℕ) (x : Packet) → find nat_cmp x.to.inc w.masters ≡ Some M → packet_of w k ≡ Some x → is_master x.to.id ≡ true → talks w.cluster M x.from.id ≡ true
      → P (Deliver k) (let h = heard_of w.net (master_party M) (talks w.cluster M) x in let l = received w.cluster M w.net x in end_step w (comes w.net (master_party M) (talks w.cluster M) (Some x)) (told M h x.from.id l) (adopted_now M h x.from.id l))
  pub agent_hears : (g : Agent) (k : ℕ) (x : Packet) → find nat_cmp x.to.id.number w.agents ≡ Some g → packet_of w k ≡ Some x → is_agent x.to.id ≡ true → P (Deliver k) (agent_hears w x.to.id.number g x)
  pub app_hears : (g : App) (k : ℕ) (x : Packet) → find nat_cmp x.to.id.number w.apps ≡ Some g → packet_of w k ≡ Some x → P (Deliver k) (app_hears w x.to.id.number g x)

module _ (P : Event → World → Type 0) (Allowed : Event → Type 0) (w : World) (k : EventSteps P Allowed w) where
  checked : (v : Event) (o : Option Refusal) (s : Step) → (o ≡ None → StepHolds (P v) s) → StepHolds (P v) (elim o as (λ _. Step) [ None ↦ s | Some r ↦ refused w r ])
  checked v None s h = h refl
  checked v (Some r) s h = record { it = k.same v }

  master_runs : (v : Event) (e : ℕ) (f : Master → Step) → ((M : Master) → find nat_cmp e w.masters ≡ Some M → StepHolds (P v) (f M)) → StepHolds (P v) (at_master w e f)
  master_runs v e f h = found_has (StepHolds (P v)) (find nat_cmp e w.masters) _ f (record { it = k.same v }) h

  agent_runs : (v : Event) (m : ℕ) (f : Agent → Step) → ((g : Agent) → find nat_cmp m w.agents ≡ Some g → StepHolds (P v) (f g)) → StepHolds (P v) (at_agent w m f)
  agent_runs v m f h = found_has (StepHolds (P v)) (find nat_cmp m w.agents) _ f (record { it = k.same v }) h

  app_runs : (v : Event) (a : ℕ) (f : App → Step) → ((g : App) → find nat_cmp a w.apps ≡ Some g → StepHolds (P v) (f g)) → StepHolds (P v) (at_app w a f)
  app_runs v a f h = found_has (StepHolds (P v)) (find nat_cmp a w.apps) _ f (record { it = k.same v }) h

  -- a packet
  hears_steps : (M : Master) (n : ℕ) (x : Packet) → find nat_cmp x.to.inc w.masters ≡ Some M → packet_of w n ≡ Some x → is_master x.to.id ≡ true → Holds (P (Deliver n)) (master_hears w M x)
  hears_steps M n x found sent to =
      let h = heard_of w.net (master_party M) (talks w.cluster M) x in
      let l = received w.cluster M w.net x in
      let net = comes w.net (master_party M) (talks w.cluster M) (Some x) in
      either (Holds (P (Deliver n))) (talks w.cluster M x.from.id) (end_step w net (told M h x.from.id l) (adopted_now M h x.from.id l)) w
      (λ t. record { it = k.hears M n x found sent to t }) (λ _. record { it = k.same (Deliver n) })

  addressed_steps : (n : ℕ) (x : Packet) → packet_of w n ≡ Some x → Holds (P (Deliver n)) (addressed w x)
  addressed_steps n x sent =
      let Q = Holds (P (Deliver n)) in
      let same : Q w = record { it = k.same (Deliver n) } in
      let to_master = with_found (find nat_cmp x.to.inc w.masters) w (λ M. master_hears w M x) in
      let to_agent = with_found (find nat_cmp x.to.id.number w.agents) w (λ g. agent_hears w x.to.id.number g x) in
      let to_app = with_found (find nat_cmp x.to.id.number w.apps) w (λ g. app_hears w x.to.id.number g x) in
      let master : is_master x.to.id ≡ true → Q to_master = λ to. found_has Q (find nat_cmp x.to.inc w.masters) w (λ M. master_hears w M x) same (λ M e. hears_steps M n x e sent to) in
      let agent : is_agent x.to.id ≡ true → Q to_agent = λ to. found_has Q (find nat_cmp x.to.id.number w.agents) w (λ g. agent_hears w x.to.id.number g x) same (λ g e. record { it = k.agent_hears g n x e sent to }) in
      let app : Q to_app = found_has Q (find nat_cmp x.to.id.number w.apps) w (λ g. app_hears w x.to.id.number g x) same (λ g e. record { it = k.app_hears g n x e sent }) in
      either Q (is_master x.to.id) to_master (cond (is_agent x.to.id) to_agent (cond (is_app x.to.id) to_app w)) master
      (λ _. either Q (is_agent x.to.id) to_agent (cond (is_app x.to.id) to_app w) agent
      (λ _. either Q (is_app x.to.id) to_app w (λ _. app) (λ _. same)))

  pub deliver_steps : (n : ℕ) → StepHolds (P (Deliver n)) (deliver_one n w)
  deliver_steps n = found_has (StepHolds (P (Deliver n))) (packet_of w n) _ _ (record { it = k.same (Deliver n) }) (λ x e. record { it = (addressed_steps n x e).it })

  to_master_steps : (v : Event) (p : Party) → P v (turned w p (master_id ∷ [])).world → StepHolds (P v) (turn_to_master w p)
  to_master_steps v p h = either (StepHolds (P v)) (nat_eq (w.net.links p master_id).known 0) (prints_nothing w) (turned w p (master_id ∷ [])) (λ _. record { it = k.same v }) (λ _. record { it = h })

  asks_steps : (a : ℕ) (x : AppCommand) → StepHolds (P (asking a x)) (asks w a x)
  asks_steps a x = app_runs (asking a x) a _ (λ g f. checked (asking a x) _ _ (λ t. record { it = k.asks a g x f t }))

  -- a ban
  pub ban_steps : (e m : ℕ) → StepHolds (P (Ban e m)) (commanded w e (BansMachine m))
  ban_steps e m = master_runs (Ban e m) e _ (λ M f. bans_has (StepHolds (P (Ban e m))) w (λ r. record { it = k.same (Ban e m) }) M _ m (λ s. record { it = k.bans e M m f s }))

  -- a stop within a writing
  halts_steps : (calls : ℕ) (all : Bool) (x : Event) (written : Bool) (v : World) (ls : List Line) → (ls ≡ [] → HasLeft Allowed w (writer_of x) v.hard) → StepHolds (P (Halt calls all x)) (halted w (writer_of x) written v ls)
  halts_steps calls all x true v [] h = let l = h refl in record { it = subst (λ hard. P (Halt calls all x) (without_master w (writer_of x) hard)) (sym l.is) (k.halts calls all x l.which) }
  halts_steps calls all x false v [] h = record { it = k.halts calls all x Unwritten }
  halts_steps calls all x written v (l ∷ ls) h = record { it = k.same (Halt calls all x) }

  -- every event, with what it is of a range of deliveries and of a judgement
  pub act_steps : ((n k l : ℕ) → P (DeliverRange k l) (deliver_all n k w).world) → ((e least percent : ℕ) (votes : VotesRecord) (ms : List ℕ) → P (Judge e least percent) (ban_each e votes ms w).world)
      → (v : Event) → Allowed v → StepHolds (P v) (act w v)
  act_steps r b (StartMaster e) t = checked (StartMaster e) _ _ (λ n. hard_has (StepHolds (P (StartMaster e))) w (λ r. record { it = k.same (StartMaster e) }) w.hard e Raise _ (λ s. record { it = k.starts e n s }))
  act_steps r b (StopMaster e) t = master_runs (StopMaster e) e _ (λ M f. record { it = k.stops e })
  act_steps r b (StartAgent m n) t = checked (StartAgent m n) _ (prints_nothing (agent_started w m n)) (λ s. record { it = k.starts_agent m n s })
  act_steps r b (StartApp a n) t = checked (StartApp a n) _ (prints_nothing (app_started w a n)) (λ s. record { it = k.starts_app a n s })
  act_steps r b (Submit e j) t = master_runs (Submit e j) e _ (λ M f. submits_has (StepHolds (P (Submit e j))) w (λ r. record { it = k.same (Submit e j) }) M _ j (λ own s. record { it = k.submits e M j f t own s }))
  act_steps r b (Finish e a) t = master_runs (Finish e a) e _ (λ M f. finishes_has (StepHolds (P (Finish e a))) w (λ r. record { it = k.same (Finish e a) }) M _ a (λ s. record { it = k.finishes e M a f s }))
  act_steps r b (Ban e m) t = ban_steps e m
  act_steps r b (Unban e m) t = master_runs (Unban e m) e _ (λ M f. unbans_has (StepHolds (P (Unban e m))) w (λ r. record { it = k.same (Unban e m) }) M _ m (λ s. record { it = k.unbans e M m f s }))
  act_steps r b (Begin e) t = master_runs (Begin e) e _ (λ M f. begins_has (StepHolds (P (Begin e))) w (λ r. record { it = k.same (Begin e) }) M _ (record { it = k.begins e M f }))
  act_steps r b (Preempt e) t = master_runs (Preempt e) e _ (λ M f. serving_makes_room_has (StepHolds (P (Preempt e))) w (λ r. record { it = k.same (Preempt e) }) M _ (λ p serves s. record { it = k.preempts e M p f serves s }))
  act_steps r b (Judge e least percent) t = master_runs (Judge e least percent) e _ (λ M f. checked (Judge e least percent) _ _ (λ _. record { it = b e least percent (votes_in w.cluster M) (judged (votes_in w.cluster M) least percent) }))
  act_steps r b (Want a u n) t = asks_steps a (Wants u n)
  act_steps r b (Near a u m n) t = asks_steps a (WantsNear u m n)
  act_steps r b (Rack a u k n) t = asks_steps a (WantsInRack u k n)
  act_steps r b (Avoid a u m on) t = asks_steps a (Avoids u m on)
  act_steps r b (GiveBack a u m n) t = asks_steps a (GivesBack u m n)
  act_steps r b (TurnMaster e) t = master_runs (TurnMaster e) e _ (λ M f. record { it = k.master_turns e M f })
  act_steps r b (TurnAgent m) t = agent_runs (TurnAgent m) m _ (λ g f. to_master_steps (TurnAgent m) (party (agent_id m) g.boot) (k.agent_turns m g f))
  act_steps r b (TurnApp a) t = app_runs (TurnApp a) a _ (λ g f. to_master_steps (TurnApp a) (party (app_id a) g.boot) (k.app_turns a g f))
  act_steps r b (ResyncMaster e) t = master_runs (ResyncMaster e) e _ (λ M f. record { it = k.master_resyncs e M f })
  act_steps r b (ResyncAgent m) t = agent_runs (ResyncAgent m) m _ (λ g f. record { it = k.agent_resyncs m g f })
  act_steps r b (ResyncApp a) t = app_runs (ResyncApp a) a _ (λ g f. record { it = k.app_resyncs a g f })
  act_steps r b (Deliver n) t = checked (Deliver n) _ _ (λ _. deliver_steps n)
  act_steps r b (DeliverRange n l) t = checked (DeliverRange n l) _ _ (λ _. record { it = r (l + 1 - n) n l })
  act_steps r b (Dump n) t = checked (Dump n) _ _ (λ _. found_has (StepHolds (P (Dump n))) (packet_of w n) _ _ (record { it = k.same (Dump n) }) (λ x _. record { it = k.same (Dump n) }))
  act_steps r b ShowState t = record { it = k.same ShowState }
  act_steps r b (Halt calls all x) t = halts_steps calls all x (is_written calls all) (act w x).world (act w x).lines (left_by Allowed w calls all x t).it

module _ (P : World → Type 0) (Allowed : Event → Type 0) (kept : (w : World) → P w → WorldKept P Allowed w) where
  abbrev of_any : Event → World → Type 0
  of_any v w = P w

  steps_of : (w : World) → P w → EventSteps of_any Allowed w
  steps_of w b = let h = kept w b in record {
    same = λ _. b;
    starts = h.starts;
    stops = λ e. h.stops e Unwritten;
    halts = λ calls all x l. h.stops (writer_of x) l;
    starts_agent = h.starts_agent;
    starts_app = h.starts_app;
    submits = h.submits;
    finishes = h.finishes;
    bans = h.bans;
    unbans = h.unbans;
    begins = h.begins;
    preempts = h.preempts;
    asks = h.asks;
    master_turns = h.master_turns;
    agent_turns = h.agent_turns;
    app_turns = h.app_turns;
    master_resyncs = h.master_resyncs;
    agent_resyncs = h.agent_resyncs;
    app_resyncs = h.app_resyncs;
    hears = λ M n x f s to t. h.hears x.to.inc M n x f s to t;
    agent_hears = λ g n x f s _. h.agent_hears x.to.id.number g n x f s;
    app_hears = λ g n x f s. h.app_hears x.to.id.number g n x f s;
  }

  deliver_all_kept : (n k : ℕ) (w : World) → P w → StepHolds P (deliver_all n k w)
  deliver_all_kept zero k w b = record { it = b }
  deliver_all_kept (suc n) k w b = record { it = (deliver_all_kept n (k + 1) (deliver_one k w).world (deliver_steps of_any Allowed w (steps_of w b) k).it).it }

  ban_each_kept : (e : ℕ) (votes : VotesRecord) (ms : List ℕ) (w : World) → P w → StepHolds P (ban_each e votes ms w)
  ban_each_kept e votes [] w b = record { it = b }
  ban_each_kept e votes (m ∷ ms) w b = record { it = (ban_each_kept e votes ms (commanded w e (BansMachine m)).world (ban_steps of_any Allowed w (steps_of w b) e m).it).it }

  -- every event keeps P
  pub act_keeps_world : (w : World) (v : Event) → Allowed v → P w → StepHolds P (act w v)
  act_keeps_world w v t b = record { it = (act_steps of_any Allowed w (steps_of w b) (λ n k l. (deliver_all_kept n k w b).it) (λ e least percent votes ms. (ban_each_kept e votes ms w b).it) v t).it }

  -- and every run
  pub run_keeps_world : (es : List Event) (w : World) → AllByRecursion Allowed es → P w → Holds P (run_from es w).world
  run_keeps_world [] w t b = record { it = b }
  run_keeps_world (e ∷ es) w t b = record { it = (run_keeps_world es (world_step w e).world t.1 (act_keeps_world (counted_in w) e t.0 (kept w b).counted).it).it }

-- the running masters after a step that leaves one of them so
abbrev pub with_ready : ClusterRecord → Master → List (ℕ × Master) → List (ℕ × Master)
with_ready c N masters = let R = ready c N in put nat_cmp R.epoch R masters

-- P after each event that changes any of the three, where its tests passed. Of a submit it may be known that it is of a line
pub record KeptBy (P : ClusterRecord → HardState → List (ℕ × Master) → Type 0) (Allowed : Event → Type 0) (c : ClusterRecord) (h : HardState) (masters : List (ℕ × Master)) : Type 0 where
  pub starts : (e : ℕ) → first_refusal (is_not_rising h e ∷ (not (nat_lt (length masters) most_masters), TooManyMasters most_masters) ∷ []) ≡ None → first_refusal (hard_tests h e Raise) ≡ None
      → P c (raised h e) (with_ready c (new_master (raised h e) e) masters)
  pub stops : (e : ℕ) (l : Left Allowed c h masters e) → P c (left_hard h l) (where_key nat_cmp (λ k. not (nat_eq k e)) masters)
  pub submits : (e : ℕ) (M : Master) (j : JobRecord) → find nat_cmp e masters ≡ Some M → Allowed (Submit e j) → first_refusal ((not (has_group c j.group), NoGroup) ∷ job_tests c.resources j) ≡ None → first_refusal (submit_tests h M.epoch (eight_places j)) ≡ None
      → P c (submitted h (eight_places j)) (with_ready c (record M { jobs = with_job (eight_places j) M.jobs }) masters)
  pub finishes : (e : ℕ) (M : Master) (a : ℕ) → find nat_cmp e masters ≡ Some M → first_refusal (finish_tests h M.epoch a) ≡ None → P c (finished h a) (with_ready c (ended_in M a) masters)
  pub bans : (e : ℕ) (M : Master) (m : ℕ) → find nat_cmp e masters ≡ Some M → first_refusal (ban_tests h M.epoch m) ≡ None → P c (banned h m) (with_ready c (banned_in M m) masters)
  pub unbans : (e : ℕ) (M : Master) (m : ℕ) → find nat_cmp e masters ≡ Some M → first_refusal (unban_tests h M.epoch m) ≡ None → P c (unbanned h m) (with_ready c (record M { bans = without_number m M.bans }) masters)
  pub begins : (e : ℕ) (M : Master) → find nat_cmp e masters ≡ Some M → P c h (with_ready c (record M { serving = true }) masters)
  pub preempts : (e : ℕ) (M : Master) (p : Plan) → find nat_cmp e masters ≡ Some M → M.serving ≡ true → plan_of c M ≡ Some p → P c h (with_ready c (preempted M p) masters)
  pub hears : (e : ℕ) (M : Master) (net : Net Ledger) (x : Packet) → find nat_cmp e masters ≡ Some M → talks c M x.from.id ≡ true
      → P c h (with_ready c (told M (heard_of net (master_party M) (talks c M) x) x.from.id (received c M net x)) masters)

-- P of a world's three parts
abbrev pub of_parts : (ClusterRecord → HardState → List (ℕ × Master) → Type 0) → World → Type 0
of_parts P = λ w. P w.cluster w.hard w.masters

module _ (P : ClusterRecord → HardState → List (ℕ × Master) → Type 0) (Allowed : Event → Type 0) (kept : (c : ClusterRecord) (h : HardState) (masters : List (ℕ × Master)) → P c h masters → KeptBy P Allowed c h masters) where
  world_kept : (w : World) → P w.cluster w.hard w.masters → WorldKept (of_parts P) Allowed w
  world_kept w b = let k = kept w.cluster w.hard w.masters b in record {
    counted = b;
    starts = k.starts;
    stops = k.stops;
    starts_agent = λ _ _ _. b;
    starts_app = λ _ _ _. b;
    submits = k.submits;
    finishes = k.finishes;
    bans = k.bans;
    unbans = k.unbans;
    begins = k.begins;
    preempts = k.preempts;
    asks = λ _ _ _ _ _. b;
    master_turns = λ _ _ _. b;
    agent_turns = λ _ _ _. b;
    app_turns = λ _ _ _. b;
    master_resyncs = λ _ _ _. b;
    agent_resyncs = λ _ _ _. b;
    app_resyncs = λ _ _ _. b;
    hears = λ e M _ x f _ _ t. k.hears e M w.net x f t;
    agent_hears = λ _ _ _ _ _ _. b;
    app_hears = λ _ _ _ _ _ _. b;
  }

  -- every event keeps it
  pub act_keeps : (w : World) (e : Event) → Allowed e → P w.cluster w.hard w.masters → StepHolds (of_parts P) (act w e)
  act_keeps w e t b = act_keeps_world (of_parts P) Allowed world_kept w e t b

  -- and every run
  pub run_keeps : (es : List Event) (w : World) → AllByRecursion Allowed es → P w.cluster w.hard w.masters → Holds (of_parts P) (run_from es w).world
  run_keeps es w t b = run_keeps_world (of_parts P) Allowed world_kept es w t b
