-- What each event does, and what it prints.
use Rattle.std.specs.Prelude.{ℕ, zero, suc, ◌+◌, ◌-◌, Bool, true, false, cond, nat_eq, nat_lt, List, [], ◌∷◌, ◌++◌, map, length, Option, Some, None, slice_get}
use Rattle.std.specs.List.{flat_map}
use Rattle.fuxi_terms.specs.declared.Key.{Key}
use Rattle.fuxi_terms.specs.declared.answers.What.TheVariants.{Stale}
use Rattle.fuxi_terms.specs.Counts.{set_count}
use Rattle.fuxi_terms.specs.Keys.{key_cmp}
use Rattle.fuxi_terms.specs.Tallies.{TallyRecord, empty_tally}
use Rattle.spec_net.specs.Net.{Id, Party, Link, Packet, Heard, Net, Starts, move, last, unmoved, hear_peer, set_at, turn, with_links}
use Rattle.work_plan.specs.PlanKeys.{worker_key}
use Rattle.work_plan.specs.declared.event.WorkEvent.{WorkEvent}
use Rattle.work_plan.specs.declared.event.WorkEvent.TheVariants as event
use Rattle.work_plan.specs.AgentWithApps.{World, agent_id, app_id, agent_party, app_party, agent_link, app_link, seen_running, present, all_apps, all_units}
use Rattle.work_plan.specs.WorkLines.{Line, Sent, Came, Lost, Refused, State, AgentIs, PlanAt, Works, AppIs, Seen, Packets, Why, NotRunning, NotRising, NoPacket}
use Rattle.work_plan.specs.WorkSettling.{settled, published}

pub record Step : Type 0 where
  pub world : World
  pub lines : List Line

-- what an event did, and then the agent settles; or it is refused, and changes nothing
abbrev pub done : World → List Line → Step
done w lines = record { world = settled w; lines = lines }

abbrev pub refused : World → Why → Step
refused w why = record { world = w; lines = Refused why ∷ [] }

abbrev pub with_net : World → Net TallyRecord → World
with_net w net = record { events = w.events; agent = w.agent; apps = w.apps; counts = w.counts; plans = w.plans; work = w.work; net = net }

abbrev pub counted : World → World
counted w = record { events = w.events + 1; agent = w.agent; apps = w.apps; counts = w.counts; plans = w.plans; work = w.work; net = w.net }

-- a function with one value changed
abbrev pub set_to : {A : Type 0} → (ℕ → A) → ℕ → A → ℕ → A
set_to f k v n = elim (nat_eq n k) [ true ↦ v | false ↦ f n ]

-- A start, in a boot above the last one. Nothing runs at a new agent and all its counts are 0; an application has an empty plan
abbrev pub agent_starts : ℕ → World → World
agent_starts b w = record { events = w.events; agent = b; apps = w.apps; counts = λ a u. 0; plans = λ a. empty_tally; work = λ a u. []; net = move w.net (Starts (record { id = agent_id; inc = b })) }

abbrev pub app_starts : ℕ → ℕ → World → World
app_starts a b w = record { events = w.events; agent = w.agent; apps = set_to w.apps a b; counts = w.counts; plans = w.plans; work = w.work; net = move w.net (Starts (record { id = app_id a; inc = b })) }

-- how many may run
abbrev pub row_set : ℕ → ℕ → ℕ → World → World
row_set a u n w = record { events = w.events; agent = w.agent; apps = w.apps; counts = set_to w.counts a (set_to (w.counts a) u n); plans = w.plans; work = w.work; net = w.net }

-- a worker is wanted, or not; the plan is appended where it differs
abbrev pub plan_with : TallyRecord → ℕ → ℕ → Bool → TallyRecord
plan_with plan u n wanted = record { head = plan.head; entries = set_count key_cmp plan.entries (worker_key u n) (cond wanted 1 0) }

abbrev pub plan_set : ℕ → ℕ → ℕ → Bool → World → World
plan_set a u n wanted w = let p = app_party w a in let h = w.net.histories p agent_id in
    with_net w (record { links = w.net.links; histories = set_at w.net.histories p agent_id (published h (plan_with (present h) u n wanted)); packets = w.net.packets })

-- Turns. The agent turns to each application that ever started; an application turns to the agent, where it knows one
abbrev pub agent_packets : World → List Packet
agent_packets w = flat_map (λ a. elim (nat_eq (w.apps a) 0) [ true ↦ [] | false ↦ turn w.net (agent_party w) (app_id a) ]) all_apps

abbrev pub app_packets : World → ℕ → List Packet
app_packets w a = elim (nat_eq (app_link w a).known 0) [ true ↦ [] | false ↦ turn w.net (app_party w a) agent_id ]

abbrev pub numbered : ℕ → List Packet → List Line
numbered k [] = []
numbered k (x ∷ xs) = Sent k x ∷ numbered (k + 1) xs

abbrev pub sends : World → List Packet → Step
sends w xs = done (with_net w (record { links = w.net.links; histories = w.net.histories; packets = w.net.packets ++ xs })) (numbered (length w.net.packets + 1) xs)

-- A delivery, to the party that the packet is addressed to in the boot that runs, by the rules of hearing from that on an earlier sender on
abbrev pub boot_of : World → Id → ℕ
boot_of w q = elim (nat_eq q.role 2) [ true ↦ w.agent | false ↦ w.apps q.number ]

abbrev pub hear_running : ℕ → ℕ → Link → Packet → Heard
hear_running own top l x = elim (nat_lt x.from.inc l.known) [ true ↦ unmoved Stale l | false ↦ hear_peer own top l x ]

abbrev pub heard_at : World → Party → Packet → Heard
heard_at w p x = hear_running p.inc (last w.net p x.from.id) (w.net.links p x.from.id) x

abbrev pub hears : World → ℕ → Party → Packet → Step
hears w k p x = let h = heard_at w p x in done (with_net w (with_links w.net (set_at w.net.links p x.from.id h.link))) (Came k h.fresh h.what ∷ [])

abbrev pub deliver : World → ℕ → Option Packet → Step
deliver w k None = record { world = w; lines = [] }
deliver w k (Some x) = let p : Party = record { id = x.to.id; inc = boot_of w x.to.id } in elim (nat_eq p.inc 0) [ true ↦ done w (Lost k ∷ []) | false ↦ hears w k p x ]

-- so many deliveries from a number on, one after another
abbrev pub deliveries : World → ℕ → ℕ → Step
deliveries w k zero = record { world = w; lines = [] }
deliveries w k (suc n) = let s = deliver w k (slice_get w.net.packets (k - 1)) in let t = deliveries s.world (k + 1) n in record { world = t.world; lines = s.lines ++ t.lines }

-- The state
abbrev pub agent_app_lines : World → ℕ → List Line
agent_app_lines w a = elim (nat_eq (w.apps a) 0) [
  | true ↦ []
  | false ↦ PlanAt a (agent_link w a).known (agent_link w a).seq ∷ flat_map (λ u. map (λ n. Works a u n) (w.work a u)) all_units
]

abbrev pub agent_lines : World → List Line
agent_lines w = elim (nat_eq w.agent 0) [ true ↦ [] | false ↦ AgentIs w.agent ∷ flat_map (agent_app_lines w) all_apps ]

abbrev pub app_lines : World → ℕ → List Line
app_lines w a = elim (nat_eq (w.apps a) 0) [
  | true ↦ []
  | false ↦ AppIs a (w.apps a) (app_link w a).known (app_link w a).seq ∷ map (λ (e : Key × ℕ). Seen a e.0.unit e.0.number) (seen_running w a).entries
]

abbrev pub show : World → List Line
show w = State w.events ∷ (agent_lines w ++ (flat_map (app_lines w) all_apps ++ Packets (length w.net.packets) ∷ []))

-- where the agent, an application, or both ends of a range of packets are there
abbrev pub where_runs : World → ℕ → Step → Step
where_runs w boot step = elim (nat_eq boot 0) [ true ↦ refused w NotRunning | false ↦ step ]

abbrev pub where_sent : World → ℕ → Step → Step
where_sent w k step = elim (nat_lt (length w.net.packets) k) [ true ↦ refused w (NoPacket (length w.net.packets)) | false ↦ step ]

abbrev pub act : World → WorkEvent → Step
act w (event.Agent b) = elim (nat_lt w.agent b) [ true ↦ done (agent_starts b w) [] | false ↦ refused w (NotRising w.agent) ]
act w (event.App a b) = elim (nat_lt (w.apps a.0) b) [ true ↦ done (app_starts a.0 b w) [] | false ↦ refused w (NotRising (w.apps a.0)) ]
act w (event.Row a u n) = where_runs w w.agent (done (row_set a.0 u.0 n w) [])
act w (event.Plan a u n wanted) = where_runs w (w.apps a.0) (done (plan_set a.0 u.0 n wanted w) [])
act w event.TurnAgent = where_runs w w.agent (sends w (agent_packets w))
act w (event.TurnApp a) = where_runs w (w.apps a.0) (sends w (app_packets w a.0))
act w (event.Deliver k) = where_sent w k (deliver w k (slice_get w.net.packets (k - 1)))
act w (event.DeliverRange k l) = where_sent w l (deliveries w k (l - k + 1))
act w event.Show = record { world = w; lines = show w }

-- an event counts, refused or not
abbrev pub work_step : World → WorkEvent → Step
work_step w e = act (counted w) e
