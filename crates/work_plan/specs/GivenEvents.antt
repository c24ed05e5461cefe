-- The events that a line can give.
use Rattle.std.specs.Prelude.{◌<◌, ◌≤◌}
use Rattle.fuxi_terms.specs.Limits.{most_jobs, most_units, greatest_count}
use Rattle.work_plan.specs.PlanKeys.{most_workers}
use Rattle.work_plan.specs.declared.event.WorkEvent.{WorkEvent}
use Rattle.work_plan.specs.declared.event.WorkEvent.TheVariants as event

-- each number is in the range of its place
abbrev pub IsGiven : WorkEvent → Type 0
IsGiven (event.Agent b) = 1 ≤ b
IsGiven (event.App a b) = (a.0 < most_jobs) × (1 ≤ b)
IsGiven (event.Row a u n) = (a.0 < most_jobs) × (u.0 < most_units) × (n ≤ greatest_count)
IsGiven (event.Plan a u w wanted) = (a.0 < most_jobs) × (u.0 < most_units) × (w < most_workers)
IsGiven event.TurnAgent = Unit {0}
IsGiven (event.TurnApp a) = a.0 < most_jobs
IsGiven (event.Deliver k) = 1 ≤ k
IsGiven (event.DeliverRange k l) = (1 ≤ k) × (k ≤ l)
IsGiven event.Show = Unit {0}
