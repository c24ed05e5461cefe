use Rattle.std.proofs.Common.{◌≡◌, ℕ, true, false, [], nat_lt, refl, ◌∙◌, ap}
use Rattle.fuxi_terms.specs.Tallies.{TallyRecord, empty_tally}
use Rattle.spec_net.specs.Net.{at_index}
use Rattle.work_plan.specs.Crews.{Distinct}
use Rattle.work_plan.specs.PlanKeys.{named}
use Rattle.work_plan.specs.RunAfter.{run_after}
use Rattle.work_plan.specs.AgentWithApps.{World, agent_id, app_id}
use Rattle.work_plan.specs.WorkEvents.{Step, done, refused, app_starts, counted}
use Rattle.work_plan.specs.WorkLines.{NotRising}
use Rattle.work_plan.specs.WorkSettling.{settled_all}
use Rattle.work_plan.proofs.WorkStatesLemmas.{IsNames, reached_state}
use Rattle.work_plan.proofs.RunAfterLemmas.{runs_on}
use Rattle.work_plan.proofs.law.every_world_runs_as_planned.Goals as goal

pub returns-clause-run : goal.returns-clause-run
returns-clause-run c w r t =
    let once : (t : TallyRecord) (u : ℕ) → IsNames t → Distinct (named u t.entries) = λ t u h. (c.plans_name_once.ensures t.entries u h.counts).distinct in
    let s = (reached_state once w r).running t in
    record {
      runs = s.runs;
      told = λ a caught.
          let history = ap (λ k. w.net.histories (record { id = agent_id; inc = k }) (app_id a)) caught.0 in
          (λ i. (at_index empty_tally (history i) (caught.1 i)).entries) ∙ s.told a;
    }

pub returns-clause-outlive : goal.returns-clause-outlive
returns-clause-outlive c w r t a b d u =
    let once : (t : TallyRecord) (u : ℕ) → IsNames t → Distinct (named u t.entries) = λ t u h. (c.plans_name_once.ensures t.entries u h.counts).distinct in
    let s = (reached_state once w r).running t in
    let k = s.runs d u in
    let on = runs_on (w.work d u) (named u (w.plans d).entries) (w.counts d u) k.distinct (once (w.plans d) u (s.plans d)) k.wanted k.many in
    elim (nat_lt (w.apps a.0) b) as (λ x. (elim x as (λ _. Step) [ true ↦ done (app_starts a.0 b (counted w)) [] | false ↦ refused (counted w) (NotRising (w.apps a.0)) ]).world.work d u ≡ w.work d u) [
      | true ↦ ap (λ x. (elim x as (λ _. World) [ true ↦ app_starts a.0 b (counted w) | false ↦ settled_all (app_starts a.0 b (counted w)) ]).work d u) t ∙ ap (λ (plan : TallyRecord). run_after (w.work d u) (named u plan.entries) (w.counts d u)) (s.force d) ∙ on
      | false ↦ refl
    ]
