-- Runs, and worked runs with the text that they print.
use Rattle.std.specs.Prelude.{ℕ, nat_lt, cond, true, false, List, [], ◌∷◌, ◌++◌, length, Option, Some, None}
use Rattle.schedule_unit.specs.declared.party.AppNo.{AppNo}
use Rattle.schedule_unit.specs.declared.party.UnitNo.{UnitNo}
use Rattle.work_plan.specs.declared.event.WorkEvent.{WorkEvent}
use Rattle.work_plan.specs.declared.event.WorkEvent.TheVariants.{Agent, App, Row, Plan, TurnAgent, TurnApp, Deliver, DeliverRange}
use Rattle.fuxi_terms.specs.declared.answers.What.TheVariants.{Ack as Acked, Taken}
use Rattle.spec_net.specs.Net.{Party, Kind, Ack as AckKind, Full as FullKind}
use Rattle.work_plan.specs.AgentWithApps.{World, empty_world, agent_id, app_id}
use Rattle.work_plan.specs.WorkLines.{Line, Sent, Came, State, AgentIs, PlanAt, Works, AppIs, Packets, lines_text}
use Rattle.work_plan.specs.WorkEvents.{Step, work_step, show}

-- so many packets there are at most
abbrev pub most_work_packets : ℕ
most_work_packets = 10000

-- the number of packets so far, where a step would pass the limit
abbrev pub past : World → Step → Option ℕ
past w s = cond (nat_lt most_work_packets (length s.world.net.packets)) (Some (length w.net.packets)) None

-- events one after another, with all that they print
abbrev pub run : World → List WorkEvent → Step
run w [] = record { world = w; lines = [] }
run w (e ∷ es) = let s = work_step w e in let t = run s.world es in record { world = t.world; lines = s.lines ++ t.lines }

-- what events print from the start on, and then the state
abbrev pub all_lines : List WorkEvent → List Line
all_lines es = let r = run empty_world es in r.lines ++ show r.world

abbrev pub text : List WorkEvent → List ℕ
text es = lines_text (all_lines es)

-- Worked runs
abbrev pub app : ℕ → AppNo
app a = record { 0 = a }

abbrev pub unit : ℕ → UnitNo
unit u = record { 0 = u }

abbrev pub the_agent : ℕ → Party
the_agent b = record { id = agent_id; inc = b }

abbrev pub the_app : ℕ → Party
the_app b = record { id = app_id 0; inc = b }

abbrev pub sent : ℕ → Party → Party → Kind → ℕ → ℕ → Line
sent k from to kind inc seq = Sent k (record { from = from; to = to; kind = kind; inc = inc; seq = seq })

-- two of three that are wanted run, the newest stops as the count falls, and starts again
abbrev pub the_newest_stops_events : List WorkEvent
the_newest_stops_events = Agent 1 ∷ App (app 0) 1 ∷ Row (app 0) (unit 0) 2 ∷ Plan (app 0) (unit 0) 5 true ∷ Plan (app 0) (unit 0) 3 true ∷ Plan (app 0) (unit 0) 9 true
    ∷ TurnAgent ∷ Deliver 1 ∷ TurnApp (app 0) ∷ DeliverRange 2 3 ∷ Row (app 0) (unit 0) 1 ∷ Row (app 0) (unit 0) 2 ∷ []

abbrev pub first_lines : List Line
first_lines = sent 1 (the_agent 1) (the_app 0) AckKind 0 0 ∷ Came 1 true Acked ∷ sent 2 (the_app 1) (the_agent 1) FullKind 1 3 ∷ sent 3 (the_app 1) (the_agent 1) AckKind 1 0 ∷ Came 2 true Taken ∷ Came 3 false Acked ∷ []

abbrev pub the_newest_stops_lines : List Line
the_newest_stops_lines = first_lines ++ State 12 ∷ AgentIs 1 ∷ PlanAt 0 1 3 ∷ Works 0 0 3 ∷ Works 0 0 5 ∷ AppIs 0 1 1 0 ∷ Packets 3 ∷ []

-- the same, and then the application starts again: its workers run on
abbrev pub workers_outlive_events : List WorkEvent
workers_outlive_events = the_newest_stops_events ++ TurnAgent ∷ DeliverRange 4 5 ∷ App (app 0) 2 ∷ Deliver 5 ∷ TurnApp (app 0) ∷ Deliver 6 ∷ []

abbrev pub workers_outlive_lines : List Line
workers_outlive_lines =
    first_lines ++ sent 4 (the_agent 1) (the_app 1) FullKind 1 3 ∷ sent 5 (the_agent 1) (the_app 1) AckKind 1 3 ∷ Came 4 false Taken ∷ Came 5 false Acked ∷ Came 5 true Acked
    ∷ sent 6 (the_app 2) (the_agent 1) AckKind 1 0 ∷ Came 6 true Acked ∷ State 18 ∷ AgentIs 1 ∷ PlanAt 0 2 0 ∷ Works 0 0 3 ∷ Works 0 0 5 ∷ AppIs 0 2 1 0 ∷ Packets 6 ∷ []
