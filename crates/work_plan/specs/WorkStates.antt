-- What holds in every state.
use Rattle.std.specs.Prelude.{◌≡◌, ℕ, true, min, length}
use Rattle.std.specs.List.{AllByRecursion}
use Rattle.fuxi_terms.specs.Numbers.{has_number}
use Rattle.spec_net.specs.Net.{last}
use Rattle.work_plan.specs.Crews.{Distinct}
use Rattle.work_plan.specs.PlanKeys.{named}
use Rattle.work_plan.specs.declared.event.WorkEvent.{WorkEvent}
use Rattle.work_plan.specs.AgentWithApps.{World, empty_world, app_id, agent_party, app_link, seen_running}
use Rattle.work_plan.specs.WorkSettling.{running_of}
use Rattle.work_plan.specs.WorkEvents.{work_step}
use Rattle.work_plan.specs.GivenEvents.{IsGiven}

-- the workers of a unit run in one slot each; the plan in force wants each of them; and there are as many as the count and the plan allow
pub record RunsAsPlanned (w : World) (a u : ℕ) : Type 0 where
  pub distinct : Distinct (w.work a u)
  pub wanted : AllByRecursion (λ n. has_number n (named u (w.plans a).entries) ≡ true) (w.work a u)
  pub many : length (w.work a u) ≡ min (w.counts a u) (length (named u (w.plans a).entries))

-- an application that has come to the end of the agent's history has heard of just those that run
abbrev pub IsCaughtUp : World → ℕ → Type 0
IsCaughtUp w a = (app_link w a).known ≡ w.agent × (app_link w a).seq ≡ last w.net (agent_party w) (app_id a)

pub record AllRun (w : World) : Type 0 where
  pub runs : (a u : ℕ) → RunsAsPlanned w a u
  pub told : (a : ℕ) → IsCaughtUp w a → (seen_running w a).entries ≡ (running_of (w.work a)).entries

-- the worlds to which events lead that lines can give
pub data IsReached : World → Type 0 where
  AtStart : IsReached empty_world
  After : (w : World) → (e : WorkEvent) → IsReached w → IsGiven e → IsReached (work_step w e).world
