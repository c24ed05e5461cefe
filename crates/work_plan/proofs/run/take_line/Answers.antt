use Rattle.std.proofs.Common.{refl, sym, ap, subst}
use Rattle.input_lines.proofs.LineProgressLemmas.{bad_line}
use Rattle.input_lines.proofs.RunEndsLemmas.{event_ends}
use Rattle.work_plan.specs.ReadWorkEvents.{work_of}
use Rattle.work_plan.specs.WorkSteps.{Takes}
use Rattle.work_plan.specs.WorkWorlds.{Stands}
use Rattle.work_plan.specs.WorkLineRuns.{said_of, work_runner}
use Rattle.work_plan.proofs.WorkProgressLemmas.{stopped_at, took_line, took_part, world_ends}
use Rattle.work_plan.proofs.run.take_line.Goals as goal

pub returns-in-Err-clause-takes : goal.returns-in-Err-clause-takes
returns-in-Err-clause-takes g c w s =
    rw c.event_status.ensures (bad_line (Unit {0}) work_runner.says (Stands c.args.working.now) c.args.line.now c.args.number w (work_of c.args.line.now) c.in-Err.fault (g.O.Sink.took c.args.out.now) (sym c.if-is_skipped.ensures) c.in-Err.ensures.fault (λ why is. ap (said_of w) is))

pub returns-in-Err-step-clause-takes : goal.returns-in-Err-step-clause-takes
returns-in-Err-step-clause-takes g c w s =
    rw c.from.ensures (stopped_at c.args.line.now c.args.number w c.in-Ok.event c.step.new.self (sym c.if-is_skipped.ensures) c.in-Ok.ensures.ok c.args.working.now (g.O.Sink.took c.args.out.now) c.in-Err-step.stop s c.in-Err-step.ensures.stops)

pub returns-in-Ok-write_all_of-clause-takes : goal.returns-in-Ok-write_all_of-clause-takes
returns-in-Ok-write_all_of-clause-takes g c w s =
    let t = subst (λ xs. Takes c.in-Ok.event c.step.new.self xs c.step.new.out.items w) c.new-text.ensures.items (c.in-Ok-step.ensures.takes w s) in
    took_line c.args.line.now c.args.number w c.in-Ok.event c.step.new.self (sym c.if-is_skipped.ensures) c.in-Ok.ensures.ok c.step.new.out.items c.deref.result.now (g.O.Sink.took c.args.out.now) (g.O.Sink.took c.write_all_of.new.out) t c.deref.ensures.value c.in-Ok-write_all_of.ensures.ok

pub returns-clause-takes : goal.returns-clause-takes
returns-clause-takes g c w s =
    let t = subst (λ xs. Takes c.in-Ok.event c.step.new.self xs c.step.new.out.items w) c.new-text.ensures.items (c.in-Ok-step.ensures.takes w s) in
    took_part c.args.line.now c.args.number w c.in-Ok.event c.step.new.self (sym c.if-is_skipped.ensures) c.in-Ok.ensures.ok c.step.new.out.items c.deref.result.now (g.O.Sink.took c.args.out.now) (g.O.Sink.took c.write_all_of.new.out) t c.deref.ensures.value c.in-Err-write_all_of.ensures.err

pub returns-in-Err-clause-status : goal.returns-in-Err-clause-status
returns-in-Err-clause-status g c = rw c.event_status.ensures (event_ends _ _ c.in-Err.fault c.args.number (λ why. tt) tt (refl, refl, refl))

pub returns-in-Err-step-clause-status : goal.returns-in-Err-step-clause-status
returns-in-Err-step-clause-status g c = rw c.from.ensures (world_ends _ c.in-Err-step.stop (refl, refl, refl))
