use Rattle.std.proofs.Common.{inl, inr, refl, sym, ap, subst}
use Rattle.schedule_text.specs.Halting.{anywhere}
use Rattle.schedule_text.specs.ReadEvents.{event_of}
use Rattle.schedule_replay.specs.WorldSteps.{IsTaken, Stops, limit_of}
use Rattle.spec_world.specs.World.{World}
use Rattle.spec_world.specs.Events.{Event, world_step}
use Rattle.input_lines.proofs.LineProgressLemmas.{bad_line}
use Rattle.schedule_replay.specs.ScheduleProgress.{Stands}
use Rattle.schedule_replay.specs.ScheduleRuns.{said_of, world_runner}
use Rattle.schedule_replay.proofs.ScheduleProgressLemmas.{stopped_at, took_line, breaks_line}
use Rattle.schedule_replay.proofs.run.take_line.Goals as goal

pub returns-then-is_skipped-clause-takes : goal.returns-then-is_skipped-clause-takes
returns-then-is_skipped-clause-takes g c = (λ w s. inl (sym c.if-is_skipped.ensures, s, refl), λ after part. inl (refl, part))

pub returns-in-Ok-flush-clause-takes : goal.returns-in-Ok-flush-clause-takes
returns-in-Ok-flush-clause-takes g c =
    inr (
      g.O.Sink.took c.flush.new.out,
      c.in-Ok-flush.ensures.ok,
      λ w s.
          rw c.event_status.ensures (bad_line (Unit {0}) world_runner.says (Stands c.args.running.now) c.args.line.now c.args.number w (event_of c.args.line.now) c.in-Err.fault (g.O.Sink.took c.flush.new.out) (sym c.if-is_skipped.ensures) c.in-Err.ensures.fault (λ why is. ap (said_of w) is)),
    )

pub returns-in-Err-flush-clause-takes : goal.returns-in-Err-flush-clause-takes
returns-in-Err-flush-clause-takes g c = inl (refl, c.in-Err-flush.ensures.err)

pub returns-in-Ok-flush-2-clause-takes : goal.returns-in-Ok-flush-2-clause-takes
returns-in-Ok-flush-2-clause-takes g c =
    let e = c.in-Ok.event in
    inr (
      g.O.Sink.took c.flush-in-Err-step.new.out,
      c.in-Ok-flush-2.ensures.ok,
      λ w s.
          let past = subst (λ (x : Event). Stops (limit_of w (world_step w x).world) c.in-Err-step.stop) (sym (c.events_stand_anywhere.ensures e)) (c.in-Err-step.ensures.stops w s.is s.stands) in
          rw c.world_status.ensures (stopped_at c.args.line.now c.args.number w (anywhere e) c.step.new.self (sym c.if-is_skipped.ensures) c.in-Ok.ensures.ok (g.O.Sink.took c.flush-in-Err-step.new.out) c.in-Err-step.stop past),
    )

pub returns-in-Err-flush-2-clause-takes : goal.returns-in-Err-flush-2-clause-takes
returns-in-Err-flush-2-clause-takes g c = inl (refl, c.in-Err-flush-2.ensures.err)

pub returns-in-Ok-put-clause-takes : goal.returns-in-Ok-put-clause-takes
returns-in-Ok-put-clause-takes g c =
    let e = c.in-Ok.event in
    let taken = λ (w : World) (s : Stands c.args.running.now w). subst (λ (x : Event). IsTaken w x c.step.new.self c.step.new.out.items) (sym (c.events_stand_anywhere.ensures e)) (c.in-Ok-step.ensures.takes w s.is s.stands) in (
      λ w s. took_line c.args.line.now c.args.number w (anywhere e) c.step.new.self (sym c.if-is_skipped.ensures) c.in-Ok.ensures.ok c.step.new.out.items c.deref.result.now _ _ (taken w s) c.deref.ensures.value c.in-Ok-put.ensures.ok,
      λ after part. breaks_line c.args.line.now c.args.number (anywhere e) c.args.running.now c.step.new.self (sym c.if-is_skipped.ensures) c.in-Ok.ensures.ok c.step.new.out.items c.deref.result.now (g.O.Sink.took c.args.out.now) after c.args.waiting.now taken c.deref.ensures.value (c.in-Ok-put.ensures.rest after part),
    )

pub returns-clause-takes : goal.returns-clause-takes
returns-clause-takes g c =
    let e = c.in-Ok.event in
    let taken = λ (w : World) (s : Stands c.args.running.now w). subst (λ (x : Event). IsTaken w x c.step.new.self c.step.new.out.items) (sym (c.events_stand_anywhere.ensures e)) (c.in-Ok-step.ensures.takes w s.is s.stands) in
    breaks_line c.args.line.now c.args.number (anywhere e) c.args.running.now c.step.new.self (sym c.if-is_skipped.ensures) c.in-Ok.ensures.ok c.step.new.out.items c.deref.result.now (g.O.Sink.took c.args.out.now) (g.O.Sink.took c.put.new.out) c.args.waiting.now taken c.deref.ensures.value c.in-Err-put.ensures.err
