use Rattle.std.proofs.Common.{◌≡◌, inr, ◌+◌, ◌<◌, true, false, Ok, Err, refl, sym, ◌∙◌, ap, subst, arith}
use Rattle.fuxi_io.specs.Causes.{Rose}
use Rattle.fuxi_io.specs.Reading.{Reading, line_of, rest_of}
use Rattle.fuxi_io.specs.declared.lines.LineStop.TheVariants.{ReadFault as ReadStop}
use Rattle.fuxi_terms.specs.Limits.{most_lines}
use Rattle.input_lines.specs.Contents.{content}
use Rattle.input_lines.proofs.Known.{line_said, running_alone}
use Rattle.input_lines.proofs.LineProgressLemmas.{start_fresh, step_along, end_along, last_along, stop_along, line_along}
use Rattle.input_lines.proofs.RunEndsLemmas.{carries_behind, carries_same, carries_unused, ends_as, stop_ends}
use Rattle.work_plan.specs.AgentWithApps.{empty_world}
use Rattle.work_plan.specs.WorkWorlds.{Stands}
use Rattle.work_plan.specs.WorkLineRuns.{work_causes, work_plan, work_runner}
use Rattle.work_plan.specs.WorkProgress.{line_causes, state_causes}
use Rattle.work_plan.proofs.WorkProgressLemmas.{ends_with_state, line_within, state_within}
use Rattle.work_plan.proofs.run.run_lines.Goals as goal

pub loop-turn-init : goal.loop-turn-init
loop-turn-init g c = record {
  along = start_fresh work_runner c.lines_are_taken.ensures c.args.lines.now c.requires.fresh (g.S.Source.left c.args.source.now) (g.O.Sink.took c.args.out.now) empty_world (Stands c.args.working.now) c.requires.stands;
  reached = c.requires.reached;
  events = omega (arith, c.requires.events);
  number = omega arith;
  small = λ h. absurd (omega (arith, h));
  running = ap (λ (r : Reading). r.stop) c.requires.fresh;
  read = refl;
  wrote = refl;
}

pub returns-in-Ok-End-clause-ended : goal.returns-in-Ok-End-clause-ended
returns-in-Ok-End-clause-ended g c =
    end_along work_runner c.lines_are_taken.ensures empty_world (g.S.Source.left c.args.source.now) 0 c.loop-turn.lines.number true (Stands c.loop-turn.working) (rest_of c.loop-turn.lines (g.S.Source.left c.loop-turn.source)) (g.O.Sink.took c.args.out.now) (g.O.Sink.took c.loop-turn.out) c.loop-turn.invariant.along work_plan (ends_with_state c.lines_are_taken.ensures)
    c.next.new.self.pending (g.S.Source.left c.next.new.source) _ _ c.write_state.result (rw c.in-Ok-End.field-0-is at c.in-Ok-End.ensures.gives) c.write_state.ensures.writes

pub returns-in-Err-clause-ended : goal.returns-in-Err-clause-ended
returns-in-Err-clause-ended g c =
    let r = c.loop-turn.invariant.running in
    rw (c.stop_status.ensures, c.number.ensures.value, c.in-Err.ensures.number)
    (stop_along work_runner c.lines_are_taken.ensures empty_world (g.S.Source.left c.args.source.now) 0 c.loop-turn.lines.number true (Stands c.loop-turn.working) (rest_of c.loop-turn.lines (g.S.Source.left c.loop-turn.source)) (g.O.Sink.took c.args.out.now) (g.O.Sink.took c.loop-turn.out) c.loop-turn.invariant.along work_plan (ends_with_state c.lines_are_taken.ensures)
    (g.S.Source.left c.next.new.source) c.in-Err.stop refl
    (λ e. running_alone r (c.in-Err.ensures.broke (ap (λ s. Err s) e))) (λ e. running_alone r (c.in-Err.ensures.long (ap (λ s. Err s) e))) (λ e. running_alone r (c.in-Err.ensures.many (ap (λ s. Err s) e))))

pub returns-in-Err-take_line-clause-ended : goal.returns-in-Err-take_line-clause-ended
returns-in-Err-take_line-clause-ended g c =
    let counted : c.next.new.self.number ≡ c.loop-turn.lines.number + 1 = rw c.in-Ok-Line.field-0-is at c.in-Ok-Line.ensures.number in
    let says : c.content-line.result.now ≡ content (line_of c.next.new.self) = line_said c.content-line.result.now c.line.result.now c.ended.result c.next.new.self c.content-line.ensures c.line.ensures c.ended.ensures in
    line_along work_runner c.lines_are_taken.ensures empty_world (g.S.Source.left c.args.source.now) 0 c.loop-turn.lines.number true (Stands c.loop-turn.working) (rest_of c.loop-turn.lines (g.S.Source.left c.loop-turn.source)) (g.O.Sink.took c.args.out.now) (g.O.Sink.took c.loop-turn.out) c.loop-turn.invariant.along work_plan (ends_with_state c.lines_are_taken.ensures)
    c.next.new.self.pending (g.S.Source.left c.next.new.source) (g.O.Sink.took c.take_line.new.out) (line_of c.next.new.self) c.content-line.result.now c.number-number.result c.in-Err-take_line.status (Stands c.take_line.new.working) says (c.number-number.ensures.value ∙ counted)
    (c.in-Ok-Line.ensures.within (ap (λ l. Ok l) c.in-Ok-Line.field-0-is)) c.in-Ok-Line.ensures.ahead (rw c.in-Ok-Line.field-0-is at c.in-Ok-Line.ensures.gives) c.in-Err-take_line.ensures.takes

pub returns-then-not-ended-clause-ended : goal.returns-then-not-ended-clause-ended
returns-then-not-ended-clause-ended g c =
    let counted : c.next.new.self.number ≡ c.loop-turn.lines.number + 1 = rw c.in-Ok-Line.field-0-is at c.in-Ok-Line.ensures.number in
    let says : c.content-line.result.now ≡ content (line_of c.next.new.self) = line_said c.content-line.result.now c.line.result.now c.ended.result c.next.new.self c.content-line.ensures c.line.ensures c.ended.ensures in
    let along = step_along work_runner c.lines_are_taken.ensures empty_world (g.S.Source.left c.args.source.now) 0 c.loop-turn.lines.number true (Stands c.loop-turn.working) (rest_of c.loop-turn.lines (g.S.Source.left c.loop-turn.source)) (g.O.Sink.took c.args.out.now) (g.O.Sink.took c.loop-turn.out) c.loop-turn.invariant.along
    (Stands c.take_line.new.working) (rest_of c.next.new.self (g.S.Source.left c.next.new.source)) (g.O.Sink.took c.take_line.new.out) (line_of c.next.new.self) c.content-line.result.now c.number-number.result c.next.new.self.number false says c.number-number.ensures.value counted (sym c.if-not-ended.ensures) refl
    (c.in-Ok-Line.ensures.within (ap (λ l. Ok l) c.in-Ok-Line.field-0-is)) (rw c.in-Ok-Line.field-0-is at c.in-Ok-Line.ensures.gives) c.in-Ok.ensures.takes in
    last_along work_runner c.lines_are_taken.ensures empty_world (g.S.Source.left c.args.source.now) 0 c.next.new.self.number false (Stands c.take_line.new.working) (rest_of c.next.new.self (g.S.Source.left c.next.new.source)) (g.O.Sink.took c.args.out.now) (g.O.Sink.took c.take_line.new.out) along work_plan (ends_with_state c.lines_are_taken.ensures)
    c.next.new.self.pending (g.S.Source.left c.next.new.source) (g.O.Sink.took c.write_state-then-not-ended.new.out) c.write_state-then-not-ended.result refl refl c.write_state-then-not-ended.ensures.writes

pub loop-turn-preserved : goal.loop-turn-preserved
loop-turn-preserved g c =
    let i = c.loop-turn.invariant in
    let counted : c.next.new.self.number ≡ c.loop-turn.lines.number + 1 = rw c.in-Ok-Line.field-0-is at c.in-Ok-Line.ensures.number in
    let says : c.content-line.result.now ≡ content (line_of c.next.new.self) = line_said c.content-line.result.now c.line.result.now c.ended.result c.next.new.self c.content-line.ensures c.line.ensures c.ended.ensures in
    let more : c.loop-turn.lines.number < most_lines = c.in-Ok-Line.ensures.within (ap (λ l. Ok l) c.in-Ok-Line.field-0-is) in
    record {
      along = step_along work_runner c.lines_are_taken.ensures empty_world (g.S.Source.left c.args.source.now) 0 c.loop-turn.lines.number true (Stands c.loop-turn.working) (rest_of c.loop-turn.lines (g.S.Source.left c.loop-turn.source)) (g.O.Sink.took c.args.out.now) (g.O.Sink.took c.loop-turn.out) c.loop-turn.invariant.along
          (Stands c.take_line.new.working) (rest_of c.next.new.self (g.S.Source.left c.next.new.source)) (g.O.Sink.took c.take_line.new.out) (line_of c.next.new.self) c.content-line.result.now c.number-number.result c.next.new.self.number true says c.number-number.ensures.value counted (sym c.if-not-ended.ensures) refl
          more (rw c.in-Ok-Line.field-0-is at c.in-Ok-Line.ensures.gives) c.in-Ok.ensures.takes;
      reached = c.in-Ok.ensures.reached;
      events = omega (arith, c.in-Ok.ensures.events, i.events);
      number = omega (arith, counted, i.number);
      small = λ h. omega (arith, counted, more);
      running = c.in-Ok-Line.ensures.stop;
      read = c.in-Ok-Line.ensures.served (λ e. cc) ∙ i.read;
      wrote = c.in-Ok.ensures.status.1 ∙ i.wrote;
    }

pub returns-in-Ok-End-clause-status : goal.returns-in-Ok-End-clause-status
returns-in-Ok-End-clause-status g c =
    let i = c.loop-turn.invariant in
    ends_as state_causes work_causes _ _ state_within
    (carries_unused (g.S.Source.faults c.args.source.now) (g.S.Source.faults c.next.new.source) (c.in-Ok-End.ensures.served (λ e. cc) ∙ i.read))
    (carries_behind (g.O.Sink.faults c.args.out.now) (g.O.Sink.faults c.loop-turn.out) (g.O.Sink.faults c.write_state.new.out) i.wrote)
    (carries_same (0, 0)) c.write_state.result c.write_state.ensures.status

pub returns-in-Err-clause-status : goal.returns-in-Err-clause-status
returns-in-Err-clause-status g c =
    let i = c.loop-turn.invariant in
    rw (c.stop_status.ensures, c.number.ensures.value, c.in-Err.ensures.number)
    (stop_ends work_causes _ c.in-Err.stop c.loop-turn.lines.number tt
    (λ e. inr (refl, (running_alone i.running (c.in-Err.ensures.many (ap (λ s. Err s) e))).0))
    (λ e. subst (λ n. Rose n (g.S.Source.faults c.next.new.source)) i.read (running_alone i.running (c.in-Err.ensures.fault (ap (λ s. Err s) e))))
    (λ other. c.in-Err.ensures.served (λ is. other (let stop : c.in-Err.stop ≡ ReadStop = cc in stop)) ∙ i.read) i.wrote refl)

pub returns-in-Err-take_line-clause-status : goal.returns-in-Err-take_line-clause-status
returns-in-Err-take_line-clause-status g c =
    let i = c.loop-turn.invariant in
    ends_as line_causes work_causes _ _ line_within
    (carries_unused (g.S.Source.faults c.args.source.now) (g.S.Source.faults c.next.new.source) (c.in-Ok-Line.ensures.served (λ e. cc) ∙ i.read))
    (carries_behind (g.O.Sink.faults c.args.out.now) (g.O.Sink.faults c.loop-turn.out) (g.O.Sink.faults c.take_line.new.out) i.wrote)
    (carries_same (0, 0)) c.in-Err-take_line.status c.in-Err-take_line.ensures.status

pub returns-then-not-ended-clause-status : goal.returns-then-not-ended-clause-status
returns-then-not-ended-clause-status g c =
    let i = c.loop-turn.invariant in
    ends_as state_causes work_causes _ _ state_within
    (carries_unused (g.S.Source.faults c.args.source.now) (g.S.Source.faults c.next.new.source) (c.in-Ok-Line.ensures.served (λ e. cc) ∙ i.read))
    (carries_behind (g.O.Sink.faults c.args.out.now) (g.O.Sink.faults c.take_line.new.out) (g.O.Sink.faults c.write_state-then-not-ended.new.out) (c.in-Ok.ensures.status.1 ∙ i.wrote))
    (carries_same (0, 0)) c.write_state-then-not-ended.result c.write_state-then-not-ended.ensures.status
