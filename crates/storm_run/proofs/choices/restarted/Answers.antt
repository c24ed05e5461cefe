use Rattle.std.proofs.Common.{◌≡◌, ◌+◌, ◌∙◌, ap}
use Rattle.storm_run.proofs.CountsLemmas.{agent_here}
use Rattle.storm_run.proofs.ChoicesLemmas.{restart_there}
use Rattle.storm_run.proofs.choices.restarted.Goals as goal

pub returns-in-Some-checked_add-clause-events : goal.returns-in-Some-checked_add-clause-events
returns-in-Some-checked_add-clause-events c = λ w good stands.
    let m = c.args.machine.0 in
    let r = agent_here c.parties_run.ensures.agents w c.args.running.now.agents m c.in-Some.agent.now stands.agents c.in-Some.ensures.core in
    let next = c.in-Some-checked_add.ensures in
    let boot : c.boot.result ≡ r.agent.boot = c.boot.ensures ∙ r.stands.up.own in
    let is : c.in-Some-checked_add.boot ≡ r.agent.boot + 1 = next.1 ∙ ap (λ n. n + 1) boot in
    restart_there w m c.in-Some-checked_add.boot r.agent r.runs (good.good.recorded.agents m r.agent r.runs).last is (rw next.1 next.0)
