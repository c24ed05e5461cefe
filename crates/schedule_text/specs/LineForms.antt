-- The table of event lines: of each its first words, and what stands behind them.
use Rattle.std.specs.Prelude.{ℕ, ◌<◌, ◌≤◌, Bool, true, false, not, nat_eq, nat_lt, List, [], ◌∷◌, map, codes}
use Rattle.fuxi_terms.specs.Cluster.{is_between, is_at_most}
use Rattle.fuxi_terms.specs.Limits.{most_jobs, most_units, most_machines, most_racks, most_groups}
use Rattle.spec_roles.specs.Votes.{most_votes}
use Rattle.schedule_text.specs.declared.form.Form.{Form}
use Rattle.schedule_text.specs.declared.form.Head.{Head}
use Rattle.schedule_text.specs.declared.form.Head.TheVariants.{Master, Stop, Agent, App, Submit, Finish, Ban, Unban, Begin, Preempt, Judge, Want, Near, Rack, Avoid, Back, TurnMaster, TurnAgent, TurnApp, ResyncMaster, ResyncAgent, ResyncApp, Deliver, DeliverRange, Dump, Show}
use Rattle.schedule_text.specs.declared.form.Place.{Place}
use Rattle.schedule_text.specs.declared.form.Place.TheVariants.{Incarnation, Job, Unit as UnitPlace, Machine, Rack as RackPlace, Group, Switch, Packet, LastPacket, Votes, Percent, Calls, Count}

-- the first words of a line, the numbers behind them, and whether units stand behind these
pub record Shape : Type 0 where
  pub words : List (List ℕ)
  pub places : List Place
  pub units : Bool

abbrev pub line : List (List ℕ) → List Place → Shape
line words places = record { words = words; places = places; units = false }

abbrev pub shape_of : Head → Shape
shape_of Master = line (codes "master" ∷ []) (Incarnation ∷ [])
shape_of Stop = line (codes "stop" ∷ []) (Incarnation ∷ [])
shape_of Agent = line (codes "agent" ∷ []) (Machine ∷ Incarnation ∷ [])
shape_of App = line (codes "app" ∷ []) (Job ∷ Incarnation ∷ [])
shape_of Submit = record { words = codes "submit" ∷ []; places = Incarnation ∷ Job ∷ Group ∷ []; units = true }
shape_of Finish = line (codes "finish" ∷ []) (Incarnation ∷ Job ∷ [])
shape_of Ban = line (codes "ban" ∷ []) (Incarnation ∷ Machine ∷ [])
shape_of Unban = line (codes "unban" ∷ []) (Incarnation ∷ Machine ∷ [])
shape_of Begin = line (codes "begin" ∷ []) (Incarnation ∷ [])
shape_of Preempt = line (codes "preempt" ∷ []) (Incarnation ∷ [])
shape_of Judge = line (codes "judge" ∷ []) (Incarnation ∷ Votes ∷ Percent ∷ [])
shape_of Want = line (codes "want" ∷ []) (Job ∷ UnitPlace ∷ Count ∷ [])
shape_of Near = line (codes "near" ∷ []) (Job ∷ UnitPlace ∷ Machine ∷ Count ∷ [])
shape_of Rack = line (codes "rack" ∷ []) (Job ∷ UnitPlace ∷ RackPlace ∷ Count ∷ [])
shape_of Avoid = line (codes "avoid" ∷ []) (Job ∷ UnitPlace ∷ Machine ∷ Switch ∷ [])
shape_of Back = line (codes "back" ∷ []) (Job ∷ UnitPlace ∷ Machine ∷ Count ∷ [])
shape_of TurnMaster = line (codes "turn" ∷ codes "master" ∷ []) (Incarnation ∷ [])
shape_of TurnAgent = line (codes "turn" ∷ codes "agent" ∷ []) (Machine ∷ [])
shape_of TurnApp = line (codes "turn" ∷ codes "app" ∷ []) (Job ∷ [])
shape_of ResyncMaster = line (codes "resync" ∷ codes "master" ∷ []) (Incarnation ∷ [])
shape_of ResyncAgent = line (codes "resync" ∷ codes "agent" ∷ []) (Machine ∷ [])
shape_of ResyncApp = line (codes "resync" ∷ codes "app" ∷ []) (Job ∷ [])
shape_of Deliver = line (codes "deliver" ∷ []) (Packet ∷ [])
shape_of DeliverRange = line (codes "deliver" ∷ []) (Packet ∷ LastPacket ∷ [])
shape_of Dump = line (codes "dump" ∷ []) (Packet ∷ [])
shape_of Show = line (codes "show" ∷ []) []

-- all lines
abbrev pub heads : List Head
heads = Master ∷ Stop ∷ Agent ∷ App ∷ Submit ∷ Finish ∷ Ban ∷ Unban ∷ Begin ∷ Preempt ∷ Judge ∷ Want ∷ Near ∷ Rack ∷ Avoid ∷ Back ∷ TurnMaster ∷ TurnAgent ∷ TurnApp
    ∷ ResyncMaster ∷ ResyncAgent ∷ ResyncApp ∷ Deliver ∷ DeliverRange ∷ Dump ∷ Show ∷ []

-- A stop within a writing: its own word and numbers, and behind them a line that writes
abbrev pub halt_shape : Shape
halt_shape = line (codes "halt" ∷ []) (Calls ∷ Switch ∷ [])

abbrev pub writing_heads : List Head
writing_heads = Master ∷ Submit ∷ Finish ∷ Ban ∷ Unban ∷ []

-- the table of the code, as this one
abbrev pub as_shape : Form → Shape
as_shape f = record { words = map (λ w. w.now) f.words.now; places = f.places.now; units = f.units }

-- The range of each place, with the number that stands before it: epochs and boots, and packets, are counted from 1, and the
-- last packet is not before the first; a judgement asks for a vote at least, and a writing is four calls
abbrev pub is_within : Place → ℕ → ℕ → Bool
is_within Incarnation before n = not (nat_eq n 0)
is_within Job before n = nat_lt n most_jobs
is_within UnitPlace before n = nat_lt n most_units
is_within Machine before n = nat_lt n most_machines
is_within RackPlace before n = nat_lt n most_racks
is_within Group before n = nat_lt n most_groups
is_within Switch before n = nat_lt n 2
is_within Packet before n = not (nat_eq n 0)
is_within LastPacket before n = not (nat_lt n before)
is_within Votes before n = is_between 1 most_votes n
is_within Percent before n = is_at_most 100 n
is_within Calls before n = is_between 1 4 n
is_within Count before n = true

-- a number in range is as narrow as this; epochs, boots, packets and counts are as wide as they come
abbrev pub IsNarrow : Place → ℕ → Type 0
IsNarrow Incarnation n = Unit {0}
IsNarrow Job n = n < most_jobs
IsNarrow UnitPlace n = n < most_units
IsNarrow Machine n = n < most_machines
IsNarrow RackPlace n = n < most_racks
IsNarrow Group n = n < most_groups
IsNarrow Switch n = n < 2
IsNarrow Packet n = Unit {0}
IsNarrow LastPacket n = Unit {0}
IsNarrow Votes n = n ≤ most_votes
IsNarrow Percent n = n ≤ 100
IsNarrow Calls n = n ≤ 4
IsNarrow Count n = Unit {0}
