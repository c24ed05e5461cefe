use Rattle.running_parties.specs.Peers.{app_steps}
use Rattle.party_commands.specs.CommandedParties.{app_command}
use Rattle.running_parties.proofs.SlotsLemmas.{may_do, put_back, still_at, within_step, within_still}
use Rattle.running_parties.proofs.PeersLemmas.{asked_here, asked_none, one_more}
use Rattle.running_parties.proofs.apps.ask.Goals as goal

pub ask-answer-requires : goal.ask-answer-requires
ask-answer-requires c = may_do app_steps _ c.in-Some.core c.requires c.in-Some.ensures.0

pub returns-in_default-clause-world : goal.returns-in_default-clause-world
returns-in_default-clause-world c = asked_none c.parties_join.ensures.asks c.args.app.0 (app_command c.args.asked) c.args.apps.now c.take.new.self c.in_default.ensures

pub returns-in_default-clause-within : goal.returns-in_default-clause-within
returns-in_default-clause-within c = λ most. within_still app_steps c.args.app.0 most c.args.apps.now c.take.new.self c.in_default.ensures

pub returns-in-Ok-clause-world : goal.returns-in-Ok-clause-world
returns-in-Ok-clause-world c =
    let n = c.args.app.0 in
    let p = c.in-Some.core in
    let q = c.ask-answer.new.app in
    asked_here c.parties_join.ensures.asks n (app_command c.args.asked) c.in-Ok.refusal p q c.args.apps.now c.put.new.self c.in-Some.ensures.0 (put_back n q c.args.apps.now c.take.new.self c.put.new.self c.in-Some.ensures.1 c.put.ensures) c.in-Ok.ensures.asks

pub returns-in-Ok-clause-within : goal.returns-in-Ok-clause-within
returns-in-Ok-clause-within c = λ most.
    let n = c.args.app.0 in
    let p = c.in-Some.core in
    let q = c.ask-answer.new.app in
    within_step app_steps n most p q c.args.apps.now c.put.new.self c.in-Some.ensures.0 (one_more p q c.ask-answer.result c.ask-answer.ensures.steps c.ask-answer.ensures.err) (put_back n q c.args.apps.now c.take.new.self c.put.new.self c.in-Some.ensures.1 c.put.ensures)

pub returns-in-Err-clause-within : goal.returns-in-Err-clause-within
returns-in-Err-clause-within c = λ most.
    let n = c.args.app.0 in
    let p = c.in-Some.core in
    let q = c.ask-answer.new.app in
    within_step app_steps n most p q c.args.apps.now c.put.new.self c.in-Some.ensures.0 (one_more p q c.ask-answer.result c.ask-answer.ensures.steps c.ask-answer.ensures.err) (put_back n q c.args.apps.now c.take.new.self c.put.new.self c.in-Some.ensures.1 c.put.ensures)

pub returns-in-Err-clause-err : goal.returns-in-Err-clause-err
returns-in-Err-clause-err c =
    let n = c.args.app.0 in
    let p = c.in-Some.core in
    let q = c.ask-answer.new.app in
    still_at n p q c.args.apps.now c.put.new.self c.in-Some.ensures.0 c.in-Err.ensures.err (put_back n q c.args.apps.now c.take.new.self c.put.new.self c.in-Some.ensures.1 c.put.ensures)
