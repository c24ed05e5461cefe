use Rattle.std.proofs.Common.{subst, sym}
use Rattle.storm_run.specs.Choices.{chosen_by}
use Rattle.storm_run.specs.StormRuns.{Chooses}
use Rattle.storm_run.proofs.choices.choose_by.Goals as goal

pub returns-in-TurnAgent-clause-chooses : goal.returns-in-TurnAgent-clause-chooses
returns-in-TurnAgent-clause-chooses c = λ w good stands. subst (λ k. Chooses (chosen_by k w c.args.generator.now) c.turn_agent.result c.turn_agent.new.generator) (sym c.in-TurnAgent.is) (c.turn_agent.ensures.chooses w)

pub returns-in-TurnApp-clause-chooses : goal.returns-in-TurnApp-clause-chooses
returns-in-TurnApp-clause-chooses c = λ w good stands. subst (λ k. Chooses (chosen_by k w c.args.generator.now) c.turn_app.result c.turn_app.new.generator) (sym c.in-TurnApp.is) (c.turn_app.ensures.chooses w)

pub returns-in-Want-clause-chooses : goal.returns-in-Want-clause-chooses
returns-in-Want-clause-chooses c = λ w good stands. subst (λ k. Chooses (chosen_by k w c.args.generator.now) c.want.result c.want.new.generator) (sym c.in-Want.is) (c.want.ensures.chooses w)

pub returns-in-Near-clause-chooses : goal.returns-in-Near-clause-chooses
returns-in-Near-clause-chooses c = λ w good stands. subst (λ k. Chooses (chosen_by k w c.args.generator.now) c.near.result c.near.new.generator) (sym c.in-Near.is) (c.near.ensures.chooses w)

pub returns-in-GiveBack-clause-chooses : goal.returns-in-GiveBack-clause-chooses
returns-in-GiveBack-clause-chooses c = λ w good stands. subst (λ k. Chooses (chosen_by k w c.args.generator.now) c.give_back.result c.give_back.new.generator) (sym c.in-GiveBack.is) (c.give_back.ensures.chooses w)
