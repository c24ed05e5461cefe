use Rattle.std.proofs.Common.{sym, Err, ap, subst}
use Rattle.std.specs.Io.KnownBytes.{Appends}
use Rattle.fuxi_io.specs.Causes.{TakesPart}
use Rattle.input_lines.specs.InputStatuses.{event_status}
use Rattle.input_lines.proofs.LineProgressLemmas.{bad_line}
use Rattle.fuxi_desk.specs.DeskLines.{desk_event}
use Rattle.fuxi_desk.specs.Preparing.{IsStepped, PreparedRecord}
use Rattle.fuxi_desk.specs.DeskProgress.{StandsIn}
use Rattle.fuxi_desk.specs.DeskRuns.{desk_runner, said_of}
use Rattle.fuxi_desk.specs.Saying.{said_of as event_said}
use Rattle.fuxi_desk.proofs.DeskProgressLemmas.{took_line, took_part}
use Rattle.fuxi_desk.proofs.run.take_line.Goals as goal

pub returns-in-Err-clause-takes : goal.returns-in-Err-clause-takes
returns-in-Err-clause-takes g c w s =
    rw c.event_status.ensures (bad_line PreparedRecord desk_runner.says (StandsIn (Err (event_status c.in-Err.fault c.args.number))) c.args.line.now c.args.number w (desk_event c.args.line.now) c.in-Err.fault (g.O.Sink.took c.args.out.now) (sym c.if-is_skipped.ensures) c.in-Err.ensures.fault (λ why is. ap (said_of w) is))

pub returns-in-Ok-write_all_of-clause-takes : goal.returns-in-Ok-write_all_of-clause-takes
returns-in-Ok-write_all_of-clause-takes g c w s =
    let e = event_said c.in-Ok.said in
    let t = subst (λ xs. IsStepped e w c.in-Ok-step.after xs c.step.new.text.items) c.new-text.ensures.items (c.in-Ok-step.ensures.takes w s) in
    took_line c.args.line.now c.args.number w e (sym c.if-is_skipped.ensures) c.in-Ok.ensures.ok c.in-Ok-step.after c.step.new.text.items (g.O.Sink.took c.args.out.now) (g.O.Sink.took c.write_all_of.new.out) (sym (c.if-is_past.ensures.past w s)) t
    (subst (λ xs. Appends (g.O.Sink.took c.args.out.now) (g.O.Sink.took c.write_all_of.new.out) xs) c.deref.ensures.value c.in-Ok-write_all_of.ensures.ok)

pub returns-clause-takes : goal.returns-clause-takes
returns-clause-takes g c w s =
    let e = event_said c.in-Ok.said in
    let t = subst (λ xs. IsStepped e w c.in-Ok-step.after xs c.step.new.text.items) c.new-text.ensures.items (c.in-Ok-step.ensures.takes w s) in
    took_part c.args.line.now c.args.number w e (sym c.if-is_skipped.ensures) c.in-Ok.ensures.ok c.in-Ok-step.after c.step.new.text.items (g.O.Sink.took c.args.out.now) (g.O.Sink.took c.write_all_of.new.out) (sym (c.if-is_past.ensures.past w s)) t
    (subst (λ xs. TakesPart (g.O.Sink.took c.args.out.now) (g.O.Sink.took c.write_all_of.new.out) xs) c.deref.ensures.value c.in-Err-write_all_of.ensures.err)
