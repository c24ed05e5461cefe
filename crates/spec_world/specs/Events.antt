-- The events, and one function for each.
use Rattle.std.specs.Prelude.{ℕ, zero, suc, ◌+◌, ◌-◌, Bool, true, false, cond, not, nat_eq, nat_lt, ◌&&◌, ◌||◌, List, [], ◌∷◌, ◌++◌, length, map, drop, Option, Some, None, slice_get}
use Rattle.std.specs.Ordering.{nat_cmp}
use Rattle.std.specs.FinMap.Entries.{put, where_key, find}
use Rattle.fuxi_terms.specs.declared.Key.{Key}
use Rattle.fuxi_terms.specs.Cluster.{JobRecord, has_machine}
use Rattle.fuxi_terms.specs.Limits.{most_masters, most_records}
use Rattle.spec_net.specs.Net.{Party, Id, Packet, Heard, move, Starts, heard_of}
use Rattle.spec_net.specs.Channels.{master_id, agent_id, app_id, party, is_master, is_agent, is_app, view, present, to_master, publish, body_of, send_all, resync_all}
use Rattle.fuxi_terms.specs.Jobs.{is_known, has_ended, unit_count, job_numbers}
use Rattle.spec_roles.specs.Masters.{Master}
use Rattle.spec_roles.specs.Refusals.{Refusal, NotRunning, NotRising, TooManyMasters, HardFull, NoMachine, NoJob, Ended, NoPacket, with_found}
use Rattle.spec_roles.specs.HardState.{HardState, is_fenced, is_not_rising, hard_step, Raise}
use Rattle.spec_roles.specs.Votes.{VotesRecord, judged, votes_in, votes_of}
use Rattle.spec_world.specs.World.{World, Agent, App, set_boot, Step, prints_nothing, refused, then_step, unless_refused, on_result}
use Rattle.spec_roles.specs.MasterSteps.{master_party, talks, peers, MasterCommand, Submits, command_of, Finishes, BansMachine, new_master, UnbansMachine, StartsServing, MakesRoom}
use Rattle.spec_world.specs.Parties.{end_step, master_hears, agent_hears, app_hears}
use Rattle.spec_roles.specs.Apps.{changed_demand, usable_at, given_at, AppCommand, command_tests, command_key, command_number, Wants, WantsNear, WantsInRack, Avoids, GivesBack}
use Rattle.spec_world.specs.Outputs.{Line, Judged, Came, Lost, Halted, Frame, sent_lines}
use Rattle.spec_world.specs.Show.{show}

-- one constructor for each event line, with its numbers in the line's order
pub data Event : Type 0 where
  StartMaster : (epoch : ℕ) → Event
  StopMaster : (epoch : ℕ) → Event
  StartAgent : (machine boot : ℕ) → Event
  StartApp : (job boot : ℕ) → Event
  Submit : (epoch : ℕ) → (job : JobRecord) → Event
  Finish : (epoch job : ℕ) → Event
  Ban : (epoch machine : ℕ) → Event
  Unban : (epoch machine : ℕ) → Event
  Begin : (epoch : ℕ) → Event
  Preempt : (epoch : ℕ) → Event
  Judge : (epoch least percent : ℕ) → Event
  Want : (job unit number : ℕ) → Event
  Near : (job unit machine number : ℕ) → Event
  Rack : (job unit rack number : ℕ) → Event
  Avoid : (job unit machine on : ℕ) → Event
  GiveBack : (job unit machine number : ℕ) → Event
  TurnMaster : (epoch : ℕ) → Event
  TurnAgent : (machine : ℕ) → Event
  TurnApp : (job : ℕ) → Event
  ResyncMaster : (epoch : ℕ) → Event
  ResyncAgent : (machine : ℕ) → Event
  ResyncApp : (job : ℕ) → Event
  Deliver : (number : ℕ) → Event
  DeliverRange : (first last : ℕ) → Event
  Dump : (number : ℕ) → Event
  ShowState : Event
  -- the master that the line names stops within the writing of that line, behind so many of the four calls on the disk; and whether what was written since the last sync stands there
  Halt : (calls : ℕ) → (all : Bool) → (line : Event) → Event

-- Where the party runs; else the event is refused
abbrev pub at_master : World → ℕ → (Master → Step) → Step
at_master w e f = with_found (find nat_cmp e w.masters) (refused w NotRunning) f

abbrev pub at_agent : World → ℕ → (Agent → Step) → Step
at_agent w m f = with_found (find nat_cmp m w.agents) (refused w NotRunning) f

abbrev pub at_app : World → ℕ → (App → Step) → Step
at_app w a f = with_found (find nat_cmp a w.apps) (refused w NotRunning) f

abbrev pub start_master : World → ℕ → Step
start_master w e = unless_refused w (is_not_rising w.hard e ∷ (not (nat_lt (length w.masters) most_masters), TooManyMasters most_masters) ∷ []) (λ w. on_result w (hard_step w.hard e Raise)
    (λ h. prints_nothing (end_step (record w { hard = h; ran = w.ran ++ party master_id e ∷ [] }) (move w.net (Starts (party master_id e))) (new_master h e) (map app_id (job_numbers h.jobs)))))

-- a stopped master's histories stay
abbrev pub stop_master : World → ℕ → Step
stop_master w e = at_master w e (λ M. prints_nothing (record w { masters = where_key nat_cmp (λ k. not (nat_eq k e)) w.masters }))

-- a start replaces the agent or application that runs
abbrev pub started : World → Id → ℕ → World
started w d b = record w { boots = set_boot w.boots d b; ran = w.ran ++ party d b ∷ []; net = move w.net (Starts (party d b)) }

abbrev pub agent_started : World → ℕ → ℕ → World
agent_started w m b = record (started w (agent_id m) b) { agents = put nat_cmp m (record { boot = b }) w.agents }

abbrev pub start_agent : World → ℕ → ℕ → Step
start_agent w m b = unless_refused w ((not (has_machine w.cluster m), NoMachine) ∷ (not (nat_lt (w.boots (agent_id m)) b), NotRising (w.boots (agent_id m))) ∷ [])
    (λ w. prints_nothing (agent_started w m b))

abbrev pub app_started : World → ℕ → ℕ → World
app_started w a b = record (started w (app_id a) b) { apps = put nat_cmp a (record { boot = b; units = unit_count w.hard.jobs a; carried = [] }) w.apps }

abbrev pub start_app : World → ℕ → ℕ → Step
start_app w a b = unless_refused w ((not (is_known w.hard.jobs a), NoJob) ∷ (has_ended w.hard.jobs a, Ended) ∷ (not (nat_lt (w.boots (app_id a)) b), NotRising (w.boots (app_id a))) ∷ [])
    (λ w. prints_nothing (app_started w a b))

-- Commands of a master: what is written to the hard state is written first
abbrev pub commanded : World → ℕ → MasterCommand → Step
commanded w e x = at_master w e (λ M. on_result w (command_of w.cluster w.hard M x) (λ k. prints_nothing (end_step (record w { hard = k.hard }) w.net k.change.state k.change.even_if_equal)))

-- A judgement: each of these machines is banned, and printed with the votes that were counted before the first ban
abbrev pub ban_each : ℕ → VotesRecord → List ℕ → World → Step
ban_each e votes [] w = prints_nothing w
ban_each e votes (m ∷ ms) w = then_step (record { world = (commanded w e (BansMachine m)).world; lines = Judged m (votes_of votes m) ∷ [] }) (λ w. ban_each e votes ms w)

-- so many records more may be written
abbrev pub is_too_full : HardState → ℕ → Bool × Refusal
is_too_full h more = (nat_lt most_records (h.records + more), HardFull most_records)

-- the machines that enough jobs mark are banned, as one event
abbrev pub judge : World → ℕ → ℕ → ℕ → Step
judge w e least percent = at_master w e (λ M. let votes = votes_in w.cluster M in let machines = judged votes least percent in
    unless_refused w (is_fenced w.hard M.epoch ∷ is_too_full w.hard (length machines) ∷ []) (λ w. ban_each e votes machines w))

-- What an application asks for. A demand that does not change is not appended
abbrev pub demanded : World → ℕ → App → Key → ℕ → Step
demanded w a g k n = let p = party (app_id a) g.boot in
    prints_nothing (record w { net = publish w.net p (to_master (changed_demand (present w.net p master_id) k n)) })

abbrev pub usable_now : World → ℕ → App → ℕ → ℕ → ℕ
usable_now w a g u m = let p = party (app_id a) g.boot in usable_at (view w.net p master_id) (present w.net p master_id) g.boot u m

abbrev pub given_back : World → ℕ → App → ℕ → ℕ → ℕ
given_back w a g u m = given_at (present w.net (party (app_id a) g.boot) master_id) u m

abbrev pub asks : World → ℕ → AppCommand → Step
asks w a x = at_app w a (λ g. unless_refused w (command_tests w.cluster g.units (usable_now w a g) (given_back w a g) x) (λ w. demanded w a g (command_key x) (command_number (given_back w a g) x)))

-- Turns and resyncs
abbrev pub turned : World → Party → List Id → Step
turned w p qs = let net = send_all w.net p qs in
    record { world = record w { net = net }; lines = sent_lines net (length w.net.packets + 1) (drop (length w.net.packets) net.packets) }

abbrev pub turn_master : World → ℕ → Step
turn_master w e = at_master w e (λ M. turned w (master_party M) (peers w.cluster M))

-- an agent or an application that knows no master sends nothing
abbrev pub turn_to_master : World → Party → Step
turn_to_master w p = cond (nat_eq (w.net.links p master_id).known 0) (prints_nothing w) (turned w p (master_id ∷ []))

abbrev pub turn_agent : World → ℕ → Step
turn_agent w m = at_agent w m (λ g. turn_to_master w (party (agent_id m) g.boot))

abbrev pub turn_app : World → ℕ → Step
turn_app w a = at_app w a (λ g. turn_to_master w (party (app_id a) g.boot))

abbrev pub resynced : World → Party → List Id → Step
resynced w p qs = prints_nothing (record w { net = resync_all w.net p qs })

abbrev pub resync_master : World → ℕ → Step
resync_master w e = at_master w e (λ M. resynced w (master_party M) (peers w.cluster M))

abbrev pub resync_agent : World → ℕ → Step
resync_agent w m = at_agent w m (λ g. resynced w (party (agent_id m) g.boot) (master_id ∷ []))

abbrev pub resync_app : World → ℕ → Step
resync_app w a = at_app w a (λ g. resynced w (party (app_id a) g.boot) (master_id ∷ []))

-- Deliveries. A packet goes to the running party of that role and number, of masters to that epoch; with no such party it is lost
abbrev pub addressed : World → Packet → World
addressed w x =
    cond (is_master x.to.id) (with_found (find nat_cmp x.to.inc w.masters) w (λ M. master_hears w M x))
    (cond (is_agent x.to.id) (with_found (find nat_cmp x.to.id.number w.agents) w (λ g. agent_hears w x.to.id.number g x))
    (cond (is_app x.to.id) (with_found (find nat_cmp x.to.id.number w.apps) w (λ g. app_hears w x.to.id.number g x)) w))

-- how the addressed party hears it
abbrev pub heard_by : World → Packet → Option Heard
heard_by w x =
    cond (is_master x.to.id) (with_found (find nat_cmp x.to.inc w.masters) None (λ M. Some (heard_of w.net (master_party M) (talks w.cluster M) x)))
    (cond (is_agent x.to.id) (with_found (find nat_cmp x.to.id.number w.agents) None (λ g. Some (heard_of w.net (party x.to.id g.boot) is_master x)))
    (cond (is_app x.to.id) (with_found (find nat_cmp x.to.id.number w.apps) None (λ g. Some (heard_of w.net (party x.to.id g.boot) is_master x))) None))

abbrev pub heard_line : ℕ → Option Heard → Line
heard_line k None = Lost k
heard_line k (Some h) = Came k h.fresh h.what

-- packet k of those sent, counted from 1
abbrev pub packet_of : World → ℕ → Option Packet
packet_of w k = slice_get w.net.packets (k - 1)

abbrev pub no_packet : World → ℕ → Bool × Refusal
no_packet w k = (nat_lt (length w.net.packets) k, NoPacket (length w.net.packets))

abbrev pub deliver_one : ℕ → World → Step
deliver_one k w = with_found (packet_of w k) (prints_nothing w) (λ x. record { world = addressed w x; lines = heard_line k (heard_by w x) ∷ [] })

-- so many, from the first on
abbrev pub deliver_all : ℕ → ℕ → World → Step
deliver_all zero k w = prints_nothing w
deliver_all (suc n) k w = then_step (deliver_one k w) (λ w. deliver_all n (k + 1) w)

abbrev pub deliver : World → ℕ → Step
deliver w k = unless_refused w (no_packet w k ∷ []) (λ w. deliver_one k w)

abbrev pub deliver_range : World → ℕ → ℕ → Step
deliver_range w k l = unless_refused w (no_packet w k ∷ no_packet w l ∷ []) (λ w. deliver_all (l + 1 - k) k w)

-- a packet and what it holds
abbrev pub dump : World → ℕ → Step
dump w k = unless_refused w (no_packet w k ∷ [])
    (λ w. with_found (packet_of w k) (prints_nothing w) (λ x. record { world = w; lines = Frame k x (body_of w.net x.kind x) ∷ [] }))

abbrev pub show_state : World → Step
show_state w = record { world = w; lines = show w }

-- A stop within a writing. The lines that write, and the master that each names
abbrev pub is_writing : Event → Bool
is_writing (StartMaster e) = true
is_writing (Submit e j) = true
is_writing (Finish e a) = true
is_writing (Ban e m) = true
is_writing (Unban e m) = true
is_writing x = false

abbrev pub writer_of : Event → ℕ
writer_of (StartMaster e) = e
writer_of (Submit e j) = e
writer_of (Finish e a) = e
writer_of (Ban e m) = e
writer_of (Unban e m) = e
writer_of x = 0

-- the third call opens the record's gate, and the fourth syncs that
abbrev pub is_written : ℕ → Bool → Bool
is_written calls all = nat_lt 3 calls || (nat_eq calls 3 && all)

-- without that master, over a hard state
abbrev pub without_master : World → ℕ → HardState → World
without_master w e h = record w { hard = h; masters = where_key nat_cmp (λ k. not (nat_eq k e)) w.masters }

-- a line leads to a world and prints these lines: where it is refused nothing changes; else its master does not run, the hard state is that behind the line or
-- that before it, and nothing else changes
abbrev pub halted : World → ℕ → Bool → World → List Line → Step
halted w e written behind [] = record { world = without_master w e (cond written behind.hard w.hard); lines = Halted e written ∷ [] }
halted w e written behind (l ∷ ls) = record { world = w; lines = l ∷ ls }

-- what an event does but for the count of events
abbrev pub act : World → Event → Step
act w (StartMaster e) = start_master w e
act w (StopMaster e) = stop_master w e
act w (StartAgent m b) = start_agent w m b
act w (StartApp a b) = start_app w a b
act w (Submit e j) = commanded w e (Submits j)
act w (Finish e a) = commanded w e (Finishes a)
act w (Ban e m) = commanded w e (BansMachine m)
act w (Unban e m) = commanded w e (UnbansMachine m)
act w (Begin e) = commanded w e StartsServing
act w (Preempt e) = commanded w e MakesRoom
act w (Judge e least percent) = judge w e least percent
act w (Want a u n) = asks w a (Wants u n)
act w (Near a u m n) = asks w a (WantsNear u m n)
act w (Rack a u r n) = asks w a (WantsInRack u r n)
act w (Avoid a u m on) = asks w a (Avoids u m on)
act w (GiveBack a u m n) = asks w a (GivesBack u m n)
act w (TurnMaster e) = turn_master w e
act w (TurnAgent m) = turn_agent w m
act w (TurnApp a) = turn_app w a
act w (ResyncMaster e) = resync_master w e
act w (ResyncAgent m) = resync_agent w m
act w (ResyncApp a) = resync_app w a
act w (Deliver k) = deliver w k
act w (DeliverRange k l) = deliver_range w k l
act w (Dump k) = dump w k
act w ShowState = show_state w
act w (Halt calls all x) = let s = act w x in halted w (writer_of x) (is_written calls all) s.world s.lines

-- each event counts, a refused one too
abbrev pub counted_in : World → World
counted_in w = record w { events = w.events + 1 }

abbrev pub world_step : World → Event → Step
world_step w e = act (counted_in w) e
