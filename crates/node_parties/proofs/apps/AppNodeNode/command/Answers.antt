use Rattle.std.proofs.Common.{rules, arith, ◌≡◌, true, nat_eq, sym, ◌∙◌, subst}
use Rattle.std.specs.Prelude.{Some, None}
use Rattle.std.proofs.lemmas.Bool.Decides.{nat_tests}
use Rattle.spec_roles.specs.Apps.{commands_alone}
use Rattle.app_master.specs.AppCores.{StandsFor}
use Rattle.node_core.specs.Roles.{OfAgent, OfApp, OfMaster}
use Rattle.party_commands.specs.PartyCommands.{Asks, command_of}
use Rattle.party_commands.specs.CommandedParties.{AskedAs, app_command}
use Rattle.node_parties.proofs.AppPartiesLemmas.{asked_does, refused_on}
use Rattle.node_parties.proofs.apps.AppNodeNode.command.Goals as goal

pub invariant_of-self-in-Ok-Some : goal.invariant_of-self-in-Ok-Some
invariant_of-self-in-Ok-Some g c =
    let app = c.self-in-Some-App.inside.app in
    let v = c.self-in-Some-App.invariant in
    let answer = commands_alone v.role (app_command c.in-Some-App.command) in
    refused_on c.self-in-Some-App.inside.job.0 v.role app c.ask.new.app c.in-Ok-Some.refusal answer (v.number ∙ v.stands.job) v.stands
    (subst (λ o. AskedAs app c.ask.new.app o answer) c.in-Ok-Some.field-0-is (c.in-Ok-Some.ensures.asks v.role v.stands))

pub returns-in-Ok-None-clause-does : goal.returns-in-Ok-None-clause-does
returns-in-Ok-None-clause-does g c (OfAgent r) s = elim s [ ]
returns-in-Ok-None-clause-does g c (OfApp r) s =
    let app = c.self-in-Some-App.inside.app in
    let job = c.in-Some-App.job.0 in
    let x = app_command c.in-Some-App.command in
    let mine = subst (λ a. StandsFor a r) (sym c.self-in-Some-App.view_is) s in
    let own = c.self-in-Some-App.invariant.number ∙ mine.job in
    let named : command_of c.args.event.now ≡ Some (Asks job x) = search rules in
    let here : nat_eq job r.job ≡ true = let f = c.if-job-self-2.false in grind (arith, nat_tests, f, own) in
    asked_does r job x app c.ask.new.app None c.args.event.now named here mine (subst (λ o. AskedAs app c.ask.new.app o (commands_alone r x)) c.in-Ok-None.field-0-is (c.in-Ok-None.ensures.asks r mine))
returns-in-Ok-None-clause-does g c (OfMaster h r) s = elim s [ ]

pub returns-in-Ok-Some-clause-does : goal.returns-in-Ok-Some-clause-does
returns-in-Ok-Some-clause-does g c (OfAgent r) s = elim s [ ]
returns-in-Ok-Some-clause-does g c (OfApp r) s =
    let app = c.self-in-Some-App.inside.app in
    let job = c.in-Some-App.job.0 in
    let x = app_command c.in-Some-App.command in
    let mine = subst (λ a. StandsFor a r) (sym c.self-in-Some-App.view_is) s in
    let own = c.self-in-Some-App.invariant.number ∙ mine.job in
    let named : command_of c.args.event.now ≡ Some (Asks job x) = search rules in
    let here : nat_eq job r.job ≡ true = let f = c.if-job-self-2.false in grind (arith, nat_tests, f, own) in
    asked_does r job x app c.ask.new.app (Some c.in-Ok-Some.refusal) c.args.event.now named here mine (subst (λ o. AskedAs app c.ask.new.app o (commands_alone r x)) c.in-Ok-Some.field-0-is (c.in-Ok-Some.ensures.asks r mine))
returns-in-Ok-Some-clause-does g c (OfMaster h r) s = elim s [ ]
