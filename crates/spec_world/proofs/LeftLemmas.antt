-- The hard state that a stop within a writing leaves.
use Rattle.std.proofs.Common.{◌≡◌, ℕ, zero, suc, ◌+◌, ◌-◌, Bool, true, false, cond, not, nat_eq, nat_lt, List, [], ◌∷◌, length, Option, Some, None, refl, sym, ◌∙◌, ap}
use Rattle.std.specs.Ordering.{nat_cmp}
use Rattle.std.specs.FinMap.Entries.{find, where_key, find-where_key}
use Rattle.std.proofs.lemmas.Map.Lookups.{exact_unsigned}
use Rattle.fuxi_terms.specs.Cluster.{ClusterRecord, JobRecord, has_group}
use Rattle.fuxi_terms.specs.Jobs.{eight_places}
use Rattle.fuxi_terms.specs.Limits.{most_masters}
use Rattle.fuxi_terms.proofs.Booleans.{either}
use Rattle.spec_net.specs.Channels.{master_id}
use Rattle.spec_net.specs.Net.{Packet, Party}
use Rattle.spec_roles.specs.Apps.{AppCommand, Avoids, command_key, command_number, command_tests, GivesBack, Wants, WantsInRack, WantsNear}
use Rattle.spec_roles.specs.HardState.{HardState, Raise, ban_tests, banned, finish_tests, finished, hard_tests, is_not_rising, raised, submit_tests, submitted, unban_tests, unbanned}
use Rattle.spec_roles.specs.Masters.{Master}
use Rattle.spec_roles.specs.Refusals.{NoGroup, NotRunning, Refusal, TooManyMasters, first_refusal, job_tests, with_found}
use Rattle.spec_roles.specs.Votes.{VotesRecord, judged, votes_in}
use Rattle.spec_world.specs.Outputs.{Line}
use Rattle.spec_world.specs.World.{Agent, App, Step, World, prints_nothing, refused, then_step}
use Rattle.spec_world.specs.Events.{Ban, Begin, Avoid, Deliver, DeliverRange, Dump, Event, Finish, GiveBack, Halt, Judge, Near, Preempt, Rack, ResyncAgent, ResyncApp, ResyncMaster, ShowState, StartAgent, StartApp, StartMaster, StopMaster, Submit, TurnAgent, TurnApp, TurnMaster, Unban, Want, act, addressed, agent_started, app_started, asks, at_agent, at_app, at_master, ban_each, deliver_all, deliver_one, demanded, given_back, halted, heard_by, heard_line, packet_of, turn_to_master, turned, usable_now, writer_of}
use Rattle.spec_world.proofs.CommandLemmas.{bans_has, begins_has, finishes_has, found_has, hard_has, makes_room_has, submits_has, unbans_has}

-- that before, or the one behind a writing of this master whose tests passed. Of a submit it may be known that it is of a line
pub data Left (Allowed : Event → Type 0) (c : ClusterRecord) (h : HardState) (masters : List (ℕ × Master)) (e : ℕ) : Type 0 where
  Unwritten : Left Allowed c h masters e
  StartWritten : first_refusal (is_not_rising h e ∷ (not (nat_lt (length masters) most_masters), TooManyMasters most_masters) ∷ []) ≡ None → first_refusal (hard_tests h e Raise) ≡ None → Left Allowed c h masters e
  SubmitWritten : (M : Master) → (j : JobRecord) → (calls : ℕ) → (all : Bool) → find nat_cmp e masters ≡ Some M → Allowed (Halt calls all (Submit e j)) → first_refusal ((not (has_group c j.group), NoGroup) ∷ job_tests c.resources j) ≡ None → first_refusal (submit_tests h M.epoch (eight_places j)) ≡ None → Left Allowed c h masters e
  FinishWritten : (M : Master) → (a : ℕ) → find nat_cmp e masters ≡ Some M → first_refusal (finish_tests h M.epoch a) ≡ None → Left Allowed c h masters e
  BanWritten : (M : Master) → (m : ℕ) → find nat_cmp e masters ≡ Some M → first_refusal (ban_tests h M.epoch m) ≡ None → Left Allowed c h masters e
  UnbanWritten : (M : Master) → (m : ℕ) → find nat_cmp e masters ≡ Some M → first_refusal (unban_tests h M.epoch m) ≡ None → Left Allowed c h masters e

abbrev pub left_hard : {Allowed : Event → Type 0} {c : ClusterRecord} (h : HardState) {masters : List (ℕ × Master)} {e : ℕ} → Left Allowed c h masters e → HardState
left_hard h Unwritten = h
left_hard h {e = e} (StartWritten n t) = raised h e
left_hard h (SubmitWritten M j calls all f line own t) = submitted h (eight_places j)
left_hard h (FinishWritten M a f t) = finished h a
left_hard h (BanWritten M m f t) = banned h m
left_hard h (UnbanWritten M m f t) = unbanned h m

-- The masters that a stop leaves
kept : (b : Bool) (o : Option Master) (M : Master) → cond (not b) o None ≡ Some M → (b ≡ false) × (o ≡ Some M)
kept true o M f = cc
kept false o M f = (refl, f)

pub left_out : (e q : ℕ) (masters : List (ℕ × Master)) → find nat_cmp q (where_key nat_cmp (λ k. not (nat_eq k e)) masters) ≡ cond (not (nat_eq q e)) (find nat_cmp q masters) None
left_out e q masters = find-where_key nat_cmp (λ k. not (nat_eq k e)) q (λ x t. ap (λ k. not (nat_eq k e)) (sym (exact_unsigned q x t))) masters

pub still_runs : (e q : ℕ) (M : Master) (masters : List (ℕ × Master)) → find nat_cmp q (where_key nat_cmp (λ k. not (nat_eq k e)) masters) ≡ Some M → (nat_eq q e ≡ false) × (find nat_cmp q masters ≡ Some M)
still_runs e q M masters f = kept (nat_eq q e) (find nat_cmp q masters) M (sym (left_out e q masters) ∙ f)

-- Where an event prints nothing, the hard state behind it is one that a stop within it may leave
module _ (Allowed : Event → Type 0) (w : World) where
  pub record HasLeft (e : ℕ) (hard : HardState) : Type 0 where
    pub which : Left Allowed w.cluster w.hard w.masters e
    pub is : hard ≡ left_hard w.hard which

  pub record Leaves (e : ℕ) (s : Step) : Type 0 where
    pub it : s.lines ≡ [] → HasLeft e s.world.hard

  stays : (e : ℕ) (s : Step) → s.world.hard ≡ w.hard → Leaves e s
  stays e s same = record { it = λ _. record { which = Unwritten; is = same } }

  prints : (e : ℕ) (s : Step) (l : Line) (ls : List Line) → s.lines ≡ l ∷ ls → Leaves e s
  prints e s l ls is = record { it = λ none. absurd (let f : ⊥ = cc in f) }

  refuses : (e : ℕ) (r : Refusal) → Leaves e (refused w r)
  refuses e r = record { it = λ none. cc }

  tested : (e : ℕ) (o : Option Refusal) (s : Step) → (o ≡ None → Leaves e s) → Leaves e (elim o as (λ _. Step) [ None ↦ s | Some r ↦ refused w r ])
  tested e None s h = h refl
  tested e (Some r) s h = refuses e r

  master_runs : (n e : ℕ) (f : Master → Step) → ((M : Master) → find nat_cmp e w.masters ≡ Some M → Leaves n (f M)) → Leaves n (at_master w e f)
  master_runs n e f h = found_has (Leaves n) (find nat_cmp e w.masters) (refused w NotRunning) f (refuses n NotRunning) h

  agent_runs : (m : ℕ) (f : Agent → Step) → ((g : Agent) → Leaves 0 (f g)) → Leaves 0 (at_agent w m f)
  agent_runs m f h = found_has (Leaves 0) (find nat_cmp m w.agents) (refused w NotRunning) f (refuses 0 NotRunning) (λ g _. h g)

  app_runs : (a : ℕ) (f : App → Step) → ((g : App) → Leaves 0 (f g)) → Leaves 0 (at_app w a f)
  app_runs a f h = found_has (Leaves 0) (find nat_cmp a w.apps) (refused w NotRunning) f (refuses 0 NotRunning) (λ g _. h g)

  asked : (a : ℕ) (x : AppCommand) → Leaves 0 (asks w a x)
  asked a x = app_runs a _ (λ g. tested 0 (first_refusal (command_tests w.cluster g.units (usable_now w a g) (given_back w a g) x)) (demanded w a g (command_key x) (command_number (given_back w a g) x)) (λ _. stays 0 _ refl))

  banned_each : (e : ℕ) (votes : VotesRecord) (ms : List ℕ) → Leaves 0 (ban_each e votes ms w)
  banned_each e votes [] = stays 0 _ refl
  banned_each e votes (m ∷ ms) = prints 0 _ _ _ refl

  one_delivered : (k : ℕ) → Leaves 0 (deliver_one k w)
  one_delivered k = found_has (Leaves 0) (packet_of w k) _ _ (stays 0 _ refl) (λ x _. prints 0 _ _ _ refl)

  and_more : (n k : ℕ) (o : Option Packet) → Leaves 0 (deliver_all n (k + 1) w) → Leaves 0 (then_step (with_found o (prints_nothing w) (λ x. record { world = addressed w x; lines = heard_line k (heard_by w x) ∷ [] })) (λ w. deliver_all n (k + 1) w))
  and_more n k None h = h
  and_more n k (Some x) h = prints 0 _ _ _ refl

  all_delivered : (n k : ℕ) → Leaves 0 (deliver_all n k w)
  all_delivered zero k = stays 0 _ refl
  all_delivered (suc n) k = and_more n k (packet_of w k) (all_delivered n (k + 1))

  halts : (n : ℕ) (written : Bool) (v : World) (ls : List Line) → Leaves 0 (halted w n written v ls)
  halts n written v [] = prints 0 _ _ _ refl
  halts n written v (l ∷ ls) = prints 0 _ _ _ refl

  turns : (p : Party) → Leaves 0 (turn_to_master w p)
  turns p = either (Leaves 0) (nat_eq (w.net.links p master_id).known 0) (prints_nothing w) (turned w p (master_id ∷ [])) (λ _. stays 0 _ refl) (λ _. stays 0 _ refl)

  pub left_by : (calls : ℕ) (all : Bool) (x : Event) → Allowed (Halt calls all x) → Leaves (writer_of x) (act w x)
  left_by calls all (StartMaster e) t = tested e _ _ (λ n. hard_has (Leaves e) w (refuses e) w.hard e Raise _ (λ s. record { it = λ _. record { which = StartWritten n s; is = refl } }))
  left_by calls all (Submit e j) t = master_runs e e _ (λ M f. submits_has (Leaves e) w (refuses e) M _ j (λ own s. record { it = λ _. record { which = SubmitWritten M j calls all f t own s; is = refl } }))
  left_by calls all (Finish e a) t = master_runs e e _ (λ M f. finishes_has (Leaves e) w (refuses e) M _ a (λ s. record { it = λ _. record { which = FinishWritten M a f s; is = refl } }))
  left_by calls all (Ban e m) t = master_runs e e _ (λ M f. bans_has (Leaves e) w (refuses e) M _ m (λ s. record { it = λ _. record { which = BanWritten M m f s; is = refl } }))
  left_by calls all (Unban e m) t = master_runs e e _ (λ M f. unbans_has (Leaves e) w (refuses e) M _ m (λ s. record { it = λ _. record { which = UnbanWritten M m f s; is = refl } }))
  left_by calls all (StopMaster e) t = master_runs 0 e _ (λ M _. stays 0 _ refl)
  left_by calls all (StartAgent m n) t = tested 0 _ (prints_nothing (agent_started w m n)) (λ _. stays 0 _ refl)
  left_by calls all (StartApp a n) t = tested 0 _ (prints_nothing (app_started w a n)) (λ _. stays 0 _ refl)
  left_by calls all (Begin e) t = master_runs 0 e _ (λ M _. begins_has (Leaves 0) w (refuses 0) M _ (stays 0 _ refl))
  left_by calls all (Preempt e) t = master_runs 0 e _ (λ M _. makes_room_has (Leaves 0) w (refuses 0) M _ (λ p _. stays 0 _ refl))
  left_by calls all (Judge e least percent) t = master_runs 0 e _ (λ M _. let votes = votes_in w.cluster M in let machines = judged votes least percent in tested 0 _ (ban_each e votes machines w) (λ _. banned_each e votes machines))
  left_by calls all (Want a u n) t = asked a (Wants u n)
  left_by calls all (Near a u m n) t = asked a (WantsNear u m n)
  left_by calls all (Rack a u r n) t = asked a (WantsInRack u r n)
  left_by calls all (Avoid a u m on) t = asked a (Avoids u m on)
  left_by calls all (GiveBack a u m n) t = asked a (GivesBack u m n)
  left_by calls all (TurnMaster e) t = master_runs 0 e _ (λ M _. stays 0 _ refl)
  left_by calls all (TurnAgent m) t = agent_runs m _ (λ g. turns _)
  left_by calls all (TurnApp a) t = app_runs a _ (λ g. turns _)
  left_by calls all (ResyncMaster e) t = master_runs 0 e _ (λ M _. stays 0 _ refl)
  left_by calls all (ResyncAgent m) t = agent_runs m _ (λ g. stays 0 _ refl)
  left_by calls all (ResyncApp a) t = app_runs a _ (λ g. stays 0 _ refl)
  left_by calls all (Deliver k) t = tested 0 _ _ (λ _. one_delivered k)
  left_by calls all (DeliverRange k l) t = tested 0 _ (deliver_all (l + 1 - k) k w) (λ _. all_delivered (l + 1 - k) k)
  left_by calls all (Dump k) t = tested 0 _ _ (λ _. found_has (Leaves 0) (packet_of w k) _ _ (stays 0 _ refl) (λ x _. prints 0 _ _ _ refl))
  left_by calls all ShowState t = stays 0 _ refl
  left_by calls all (Halt again every x) t = halts (writer_of x) _ (act w x).world (act w x).lines
