use Rattle.std.proofs.Common.{Err}
use Rattle.fuxi_terms.specs.Counts.{then_do}
use Rattle.spec_world.specs.Events.{StartMaster, StartAgent, StartApp}
use Rattle.storm_run.specs.Storms.{each, taken, submitted, opened}
use Rattle.storm_run.specs.StormRuns.{outcome}
use Rattle.storm_run.proofs.StormsLemmas.{Part, then_ran, then_stopped}
use Rattle.storm_run.proofs.opening.open.Goals as goal

abbrev first : Part
first w = taken w (StartMaster 1)

abbrev agents : Part
agents = each 8 (λ m w. taken w (StartAgent m 1))

abbrev apps : Part
apps = each 3 (λ a w. taken w (StartApp a 1))

abbrev behind_agents : Part
behind_agents w = then_do (submitted w) apps

abbrev behind_first : Part
behind_first w = then_do (agents w) behind_agents

pub returns-in-Err-clause-runs : goal.returns-in-Err-clause-runs
unfolding opened
returns-in-Err-clause-runs c = then_stopped first (λ w. behind_first) c.args.run.now c.in-Err.stop c.in-Err.ensures.runs

pub returns-in-Err-tell_each-clause-runs : goal.returns-in-Err-tell_each-clause-runs
unfolding opened
returns-in-Err-tell_each-clause-runs c =
    then_ran first (λ w. behind_first) c.args.run.now c.take.new.self (Err c.in-Err-tell_each.stop) c.in-Ok.ensures.runs
    (λ w good stands. then_stopped agents (λ w. behind_agents) c.take.new.self c.in-Err-tell_each.stop c.in-Err-tell_each.ensures.runs)

pub returns-in-Err-submit_all-clause-runs : goal.returns-in-Err-submit_all-clause-runs
unfolding opened
returns-in-Err-submit_all-clause-runs c =
    then_ran first (λ w. behind_first) c.args.run.now c.take.new.self (Err c.in-Err-submit_all.stop) c.in-Ok.ensures.runs
    (λ w good stands. then_ran agents (λ w. behind_agents) c.take.new.self c.tell_each.new.self (Err c.in-Err-submit_all.stop) c.in-Ok-tell_each.ensures.runs
    (λ w good stands. then_stopped submitted (λ w. apps) c.tell_each.new.self c.in-Err-submit_all.stop c.in-Err-submit_all.ensures.runs))

pub returns-clause-runs : goal.returns-clause-runs
unfolding opened
returns-clause-runs c =
    then_ran first (λ w. behind_first) c.args.run.now c.take.new.self (outcome c.tell_each-2.new.self c.tell_each-2.result) c.in-Ok.ensures.runs
    (λ w good stands. then_ran agents (λ w. behind_agents) c.take.new.self c.tell_each.new.self (outcome c.tell_each-2.new.self c.tell_each-2.result) c.in-Ok-tell_each.ensures.runs
    (λ w good stands. then_ran submitted (λ w. apps) c.tell_each.new.self c.submit_all.new.run (outcome c.tell_each-2.new.self c.tell_each-2.result) c.in-Ok-submit_all.ensures.runs (λ w good stands. c.tell_each-2.ensures.runs)))
