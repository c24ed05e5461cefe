use Rattle.std.proofs.Common.{sym, subst}
use Rattle.party_commands.specs.PartyCommands.{step_of}
use Rattle.party_commands.specs.CommandedParties.{HasNamed, command_as}
use Rattle.schedule_replay.specs.Moves.{Acts}
use Rattle.schedule_replay.proofs.orders.carry_out.Goals as goal

pub returns-in-Turn : goal.returns-in-Turn
returns-in-Turn c = subst (λ o. Acts (λ w. step_of w (command_as o)) c.args.running.now c.tell.new.running c.args.out.now.items c.tell.new.out.items c.tell.result) (sym c.in-Turn.is) c.tell.ensures

pub returns-in-Resync : goal.returns-in-Resync
returns-in-Resync c = subst (λ o. Acts (λ w. step_of w (command_as o)) c.args.running.now c.tell-in-Resync.new.running c.args.out.now.items c.tell-in-Resync.new.out.items c.tell-in-Resync.result) (sym c.in-Resync.is) c.tell-in-Resync.ensures

pub returns-in-App : goal.returns-in-App
returns-in-App c = subst (λ o. Acts (λ w. step_of w (command_as o)) c.args.running.now c.ask_app.new.running c.args.out.now.items c.ask_app.new.out.items c.ask_app.result) (sym c.in-App.is) c.ask_app.ensures

pub returns-in-Master : goal.returns-in-Master
returns-in-Master c = subst (λ o. Acts (λ w. step_of w (command_as o)) c.args.running.now c.give_command.new.running c.args.out.now.items c.give_command.new.out.items c.give_command.result) (sym c.in-Master.is) c.give_command.ensures

pub give_command-requires-clause-named : goal.give_command-requires-clause-named
give_command-requires-clause-named c = subst HasNamed c.in-Master.is c.requires.named
