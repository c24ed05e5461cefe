-- The table of event lines: of each its first words, and the numbers behind them.
use Rattle.std.specs.Prelude.{ℕ, ◌<◌, ◌≤◌, Bool, not, nat_eq, nat_lt, List, [], ◌∷◌, map, codes}
use Rattle.fuxi_terms.specs.Limits.{most_jobs, most_units, greatest_count}
use Rattle.work_plan.specs.PlanKeys.{most_workers}
use Rattle.work_plan.specs.declared.form.Form.{Form}
use Rattle.work_plan.specs.declared.form.Head.{Head}
use Rattle.work_plan.specs.declared.form.Head.TheVariants.{Agent, App, Row, Plan, TurnAgent, TurnApp, Deliver, DeliverRange, Show}
use Rattle.work_plan.specs.declared.form.Place.{Place}
use Rattle.work_plan.specs.declared.form.Place.TheVariants.{Boot, App as AppPlace, Unit as UnitPlace, Count, Worker, Switch, Packet, LastPacket}

-- the first words of a line, and the numbers behind them
pub record Shape : Type 0 where
  pub words : List (List ℕ)
  pub places : List Place

abbrev pub shape : List (List ℕ) → List Place → Shape
shape words places = record { words = words; places = places }

abbrev pub shape_of : Head → Shape
shape_of Agent = shape (codes "agent" ∷ []) (Boot ∷ [])
shape_of App = shape (codes "app" ∷ []) (AppPlace ∷ Boot ∷ [])
shape_of Row = shape (codes "row" ∷ []) (AppPlace ∷ UnitPlace ∷ Count ∷ [])
shape_of Plan = shape (codes "plan" ∷ []) (AppPlace ∷ UnitPlace ∷ Worker ∷ Switch ∷ [])
shape_of TurnAgent = shape (codes "turn" ∷ codes "agent" ∷ []) []
shape_of TurnApp = shape (codes "turn" ∷ codes "app" ∷ []) (AppPlace ∷ [])
shape_of Deliver = shape (codes "deliver" ∷ []) (Packet ∷ [])
shape_of DeliverRange = shape (codes "deliver" ∷ []) (Packet ∷ LastPacket ∷ [])
shape_of Show = shape (codes "show" ∷ []) []

abbrev pub heads : List Head
heads = Agent ∷ App ∷ Row ∷ Plan ∷ TurnAgent ∷ TurnApp ∷ Deliver ∷ DeliverRange ∷ Show ∷ []

-- the table of the code, as this one
abbrev pub as_shape : Form → Shape
as_shape f = record { words = map (λ w. w.now) f.words.now; places = f.places.now }

-- the range of each place, with the number that stands before it: boots and packets are counted from 1, and the last packet is not before the first
abbrev pub is_within : Place → ℕ → ℕ → Bool
is_within Boot before n = not (nat_eq n 0)
is_within AppPlace before n = nat_lt n most_jobs
is_within UnitPlace before n = nat_lt n most_units
is_within Count before n = not (nat_lt greatest_count n)
is_within Worker before n = nat_lt n most_workers
is_within Switch before n = nat_lt n 2
is_within Packet before n = not (nat_eq n 0)
is_within LastPacket before n = not (nat_lt n before)

-- a number in range is as narrow as this; boots and packets are as wide as they come
abbrev pub IsNarrow : Place → ℕ → Type 0
IsNarrow Boot n = Unit {0}
IsNarrow AppPlace n = n < most_jobs
IsNarrow UnitPlace n = n < most_units
IsNarrow Count n = n ≤ greatest_count
IsNarrow Worker n = n < most_workers
IsNarrow Switch n = n < 2
IsNarrow Packet n = Unit {0}
IsNarrow LastPacket n = Unit {0}
