use Rattle.std.proofs.Common.{sym, subst}
use Rattle.spec_world.specs.Events.{Halt, act}
use Rattle.schedule_text.specs.Halting.{halting}
use Rattle.schedule_text.specs.Writing.{IsLineEvent}
use Rattle.schedule_replay.specs.LineEvents.{event_as}
use Rattle.schedule_replay.specs.Moves.{Acts}
use Rattle.party_commands.specs.PartyCommands.{step_of}
use Rattle.party_commands.specs.CommandedParties.{command_as}
use Rattle.schedule_replay.proofs.ActsByOneStep.{acts_as}
use Rattle.schedule_replay.proofs.OrdersAreEvents.{ordered}
use Rattle.schedule_replay.proofs.acts.act.Goals as goal

pub returns-in-Some : goal.returns-in-Some
returns-in-Some c =
    let order = c.in-Some.order in
    acts_as (λ w. act w (event_as c.args.event.now)) (λ w. step_of w (command_as order)) c.args.running.now c.carry_out.new.running c.args.out.now.items c.carry_out.new.out.items c.carry_out.result
    (λ w is s. ordered w c.args.event.now (command_as order) (sym c.in-Some.ensures.order)) c.carry_out.ensures

pub returns-in-Master : goal.returns-in-Master
returns-in-Master c = subst (λ e. Acts (λ w. act w (event_as e)) c.args.running.now c.start_master.new.running c.args.out.now.items c.start_master.new.out.items c.start_master.result) (sym c.in-Master.is) c.start_master.ensures

pub returns-in-Stop : goal.returns-in-Stop
returns-in-Stop c = subst (λ e. Acts (λ w. act w (event_as e)) c.args.running.now c.stop_master.new.running c.args.out.now.items c.stop_master.new.out.items c.stop_master.result) (sym c.in-Stop.is) c.stop_master.ensures

pub returns-in-Agent : goal.returns-in-Agent
returns-in-Agent c = subst (λ e. Acts (λ w. act w (event_as e)) c.args.running.now c.start_agent.new.running c.args.out.now.items c.start_agent.new.out.items c.start_agent.result) (sym c.in-Agent.is) c.start_agent.ensures

pub returns-in-App : goal.returns-in-App
returns-in-App c = subst (λ e. Acts (λ w. act w (event_as e)) c.args.running.now c.start_app.new.running c.args.out.now.items c.start_app.new.out.items c.start_app.result) (sym c.in-App.is) c.start_app.ensures

pub returns-in-Judge : goal.returns-in-Judge
returns-in-Judge c = subst (λ e. Acts (λ w. act w (event_as e)) c.args.running.now c.judge.new.running c.args.out.now.items c.judge.new.out.items c.judge.result) (sym c.in-Judge.is) c.judge.ensures

pub returns-in-Deliver : goal.returns-in-Deliver
returns-in-Deliver c = subst (λ e. Acts (λ w. act w (event_as e)) c.args.running.now c.deliver.new.running c.args.out.now.items c.deliver.new.out.items c.deliver.result) (sym c.in-Deliver.is) c.deliver.ensures

pub returns-in-DeliverRange : goal.returns-in-DeliverRange
returns-in-DeliverRange c = subst (λ e. Acts (λ w. act w (event_as e)) c.args.running.now c.deliver_range.new.running c.args.out.now.items c.deliver_range.new.out.items c.deliver_range.result) (sym c.in-DeliverRange.is) c.deliver_range.ensures

pub returns-in-Dump : goal.returns-in-Dump
returns-in-Dump c = subst (λ e. Acts (λ w. act w (event_as e)) c.args.running.now c.args.running.now c.args.out.now.items c.dump.new.out.items c.dump.result) (sym c.in-Dump.is) c.dump.ensures

pub returns-in-Show : goal.returns-in-Show
returns-in-Show c = subst (λ e. Acts (λ w. act w (event_as e)) c.args.running.now c.args.running.now c.args.out.now.items c.show.new.out.items c.show.result) (sym c.in-Show.is) c.show.ensures

pub returns-in-Halt : goal.returns-in-Halt
returns-in-Halt c =
    subst (λ e. Acts (λ w. act w (event_as e)) c.args.running.now c.halt.new.running c.args.out.now.items c.halt.new.out.items c.halt.result) (sym c.in-Halt.is)
    (subst (λ x. Acts (λ w. act w (Halt c.in-Halt.calls c.in-Halt.all (event_as x))) c.args.running.now c.halt.new.running c.args.out.now.items c.halt.new.out.items c.halt.result) c.deref.ensures c.halt.ensures)

pub halt-requires-clause-line : goal.halt-requires-clause-line
halt-requires-clause-line c =
    let h = subst IsLineEvent c.in-Halt.is c.requires.line in
    subst (λ x. IsLineEvent (halting c.in-Halt.calls c.in-Halt.all x)) (sym c.deref.ensures) (record { numbers = h.numbers; asks = h.asks; stop = h.stop })
