-- The events of one step, as a function of the written world and the generator. Numbers are drawn from left to right.
use Rattle.std.specs.Prelude.{ℕ, ◌+◌, ◌-◌, ◌^◌, cond, nat_eq, nat_lt, ◌&&◌, List, [], ◌∷◌, ◌++◌, length, slice_get}
use Rattle.std.specs.Option.{unwrap_or}
use Rattle.std.specs.Ordering.{nat_cmp}
use Rattle.std.specs.FinMap.Entries.{find}
use Rattle.spec_net.specs.Channels.{agent_id}
use Rattle.spec_roles.specs.Refusals.{with_found}
use Rattle.spec_world.specs.World.{World}
use Rattle.spec_world.specs.Events.{Event, StartMaster, StopMaster, StartAgent, Begin, Preempt, Want, Near, GiveBack, TurnMaster, TurnAgent, TurnApp, ResyncMaster, Deliver}
use Rattle.storm_run.specs.declared.choices.Move.{Move}
use Rattle.storm_run.specs.declared.choices.Move.TheVariants as act
use Rattle.storm_run.specs.declared.orders.Order.{Order}
use Rattle.storm_run.specs.declared.orders.Order.TheVariants as order
use Rattle.storm_run.specs.Generators.{next, drawn}

-- the events of a step, and the generator behind its draws
pub record Chosen : Type 0 where
  pub events : List Event
  pub generator : ℕ

abbrev pub choice : List Event → ℕ → Chosen
choice es x = record { events = es; generator = x }

-- an event of an epoch or a boot, where that is one: 1 to 2^64 - 1
abbrev pub counted : ℕ → (ℕ → Event) → List Event
counted n f = cond (nat_lt 0 n && nat_lt n (2 ^ 64)) (f n ∷ []) []

-- what is ordered of the master of an epoch
abbrev pub ordered : Order → ℕ → Event
ordered order.Start = StartMaster
ordered order.Stop = StopMaster
ordered order.Turn = TurnMaster
ordered order.Begin = Begin
ordered order.Preempt = Preempt
ordered order.Resync = ResyncMaster

-- one of the packets that were sent, counted from 1; nothing is drawn where there is none
abbrev pub delivery : World → ℕ → Chosen
delivery w x = cond (nat_eq (length w.net.packets) 0) (choice [] x) (choice (Deliver (1 + drawn (length w.net.packets) x) ∷ []) (next x))

-- the agent that runs on a machine starts again, with one more than its last boot
abbrev pub restart : World → ℕ → List Event
restart w m = with_found (find nat_cmp m w.agents) [] (λ g. counted (w.boots (agent_id m) + 1) (StartAgent m))

-- the master before the newest stops, and the next one starts
abbrev pub failover : ℕ → List Event
failover fence = counted (fence - 1) StopMaster ++ counted (fence + 1) StartMaster

-- what befalls the newest master, by a number below 10
abbrev pub trouble : ℕ → ℕ → List Event
trouble n fence =
    cond (nat_eq n 0) (failover fence)
    (cond (nat_eq n 1) (counted fence Preempt)
    (cond (nat_eq n 2) (counted fence Begin)
    (cond (nat_eq n 3) (counted fence ResyncMaster) [])))

-- the kind of a step, by a number below 12
abbrev pub moves : List Move
moves = act.Deliver ∷ act.Deliver ∷ act.Deliver ∷ act.Deliver ∷ act.TurnMaster ∷ act.TurnAgent ∷ act.TurnApp ∷ act.Want ∷ act.Near ∷ act.GiveBack ∷ act.Restart ∷ act.Trouble ∷ []

abbrev pub move_at : ℕ → Move
move_at n = unwrap_or (slice_get moves n) act.Deliver

abbrev pub chosen_by : Move → World → ℕ → Chosen
chosen_by act.Deliver w x = delivery w x
chosen_by act.TurnMaster w x = choice (counted w.hard.fence TurnMaster) x
chosen_by act.TurnAgent w x = choice (TurnAgent (drawn 8 x) ∷ []) (next x)
chosen_by act.TurnApp w x = choice (TurnApp (drawn 3 x) ∷ []) (next x)
chosen_by act.Want w x = choice (Want (drawn 3 x) 0 (drawn 41 (next x)) ∷ []) (next (next x))
chosen_by act.Near w x = choice (Near (drawn 3 x) 0 (drawn 8 (next x)) (drawn 5 (next (next x))) ∷ []) (next (next (next x)))
chosen_by act.GiveBack w x = choice (GiveBack (drawn 3 x) 0 (drawn 8 (next x)) 1 ∷ []) (next (next x))
chosen_by act.Restart w x = choice (cond (nat_eq (drawn 10 (next x)) 0) (restart w (drawn 8 x)) []) (next (next x))
chosen_by act.Trouble w x = choice (trouble (drawn 10 x) w.hard.fence) (next x)

-- a step draws its kind first
abbrev pub chosen : World → ℕ → Chosen
chosen w x = chosen_by (move_at (drawn 12 x)) w (next x)
