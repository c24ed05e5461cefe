use Rattle.std.proofs.Common.{◌≡◌, ◌+◌, ◌<◌, Ok, Err, sym, ◌∙◌, ap, arith, refl}
use Rattle.std.proofs.lemmas.Bool.{false≢true}
use Rattle.fuxi_io.specs.Reading.{line_of}
use Rattle.fuxi_terms.specs.Limits.{most_lines}
use Rattle.input_lines.specs.Contents.{content}
use Rattle.input_lines.proofs.Known.{line_said, running_alone}
use Rattle.input_lines.proofs.LineProgressLemmas.{start, nothing_taken, step_along, end_along, last_along, stop_along, line_along}
use Rattle.fuxi_desk.specs.Preparing.{Stands, prepared_for}
use Rattle.fuxi_desk.specs.DeskProgress.{StandsIn}
use Rattle.fuxi_desk.specs.DeskRuns.{run_from, desk_ends, desk_runner}
use Rattle.fuxi_desk.proofs.DeskRunsLemmas.{ends_with_its_text}
use Rattle.fuxi_desk.proofs.run.run_lines.Goals as goal

pub returns-in_default-clause-ended : goal.returns-in_default-clause-ended
returns-in_default-clause-ended g c ready = nothing_taken desk_ends (run_from c.args.lines.now.number (prepared_for c.args.cluster.now)) c.args.lines.now.pending (g.S.Source.left c.args.source.now) (g.O.Sink.took c.args.out.now) refl c.requires.ahead

pub loop-turn-init : goal.loop-turn-init
loop-turn-init g c = record {
  along = λ ready. start desk_runner c.lines_are_taken.ensures _ _ (prepared_for c.args.cluster.now) c.args.lines.now.number c.args.lines.now.ended (Stands c.in-Ok.start) c.in-Ok.ensures.stands ready.last;
  steps = omega (arith, c.in-Ok.ensures.steps);
  number = omega arith;
  small = λ h. absurd (omega (arith, h));
  ahead = c.requires.ahead;
  last = λ e. e;
  running = λ e. e;
  unstopped = c.requires.stop;
  read = omega arith;
  wrote = omega arith;
}

pub returns-then-not-ended-clause-ended : goal.returns-then-not-ended-clause-ended
returns-then-not-ended-clause-ended g c ready =
    last_along desk_runner c.lines_are_taken.ensures (prepared_for c.args.cluster.now) _ _ c.loop-turn.lines.number c.loop-turn.lines.ended (Stands c.loop-turn.prepared) _ _ _ (c.loop-turn.invariant.along ready) desk_ends (ends_with_its_text c.lines_are_taken.ensures)
    c.loop-turn.lines.pending (g.S.Source.left c.loop-turn.source) _ c.run_sessions.result refl (sym c.if-not-ended.ensures) c.run_sessions.ensures.writes

pub returns-in-Ok-End-clause-ended : goal.returns-in-Ok-End-clause-ended
returns-in-Ok-End-clause-ended g c ready =
    end_along desk_runner c.lines_are_taken.ensures (prepared_for c.args.cluster.now) _ _ c.loop-turn.lines.number c.loop-turn.lines.ended (Stands c.loop-turn.prepared) _ _ _ (c.loop-turn.invariant.along ready) desk_ends (ends_with_its_text c.lines_are_taken.ensures)
    c.next.new.self.pending (g.S.Source.left c.next.new.source) _ _ c.run_sessions-in-Ok-End.result (rw c.in-Ok-End.field-0-is at c.in-Ok-End.ensures.gives) c.run_sessions-in-Ok-End.ensures.writes

pub returns-in-Err-clause-ended : goal.returns-in-Err-clause-ended
returns-in-Err-clause-ended g c ready =
    let r = c.loop-turn.invariant.running ready.running in
    rw (c.stop_status.ensures, c.number.ensures.value, c.in-Err.ensures.number)
    (stop_along desk_runner c.lines_are_taken.ensures (prepared_for c.args.cluster.now) _ _ c.loop-turn.lines.number c.loop-turn.lines.ended (Stands c.loop-turn.prepared) _ _ _ (c.loop-turn.invariant.along ready) desk_ends (ends_with_its_text c.lines_are_taken.ensures)
    (g.S.Source.left c.next.new.source) c.in-Err.stop (sym c.if-not-ended.ensures)
    (λ e. running_alone r (c.in-Err.ensures.broke (ap (λ s. Err s) e))) (λ e. running_alone r (c.in-Err.ensures.long (ap (λ s. Err s) e))) (λ e. running_alone r (c.in-Err.ensures.many (ap (λ s. Err s) e))))

pub returns-in-Err-take_line-clause-ended : goal.returns-in-Err-take_line-clause-ended
returns-in-Err-take_line-clause-ended g c ready =
    let counted : c.next.new.self.number ≡ c.loop-turn.lines.number + 1 = rw c.in-Ok-Line.field-0-is at c.in-Ok-Line.ensures.number in
    let says : c.content-line.result.now ≡ content (line_of c.next.new.self) = line_said _ _ _ c.next.new.self c.content-line.ensures c.line.ensures c.ended-in-loop-turn.ensures in
    line_along desk_runner c.lines_are_taken.ensures (prepared_for c.args.cluster.now) _ _ c.loop-turn.lines.number c.loop-turn.lines.ended (Stands c.loop-turn.prepared) _ _ _ (c.loop-turn.invariant.along ready) desk_ends (ends_with_its_text c.lines_are_taken.ensures)
    c.next.new.self.pending (g.S.Source.left c.next.new.source) _ (line_of c.next.new.self) c.content-line.result.now c.number-number.result c.in-Err-take_line.status (StandsIn (Err c.in-Err-take_line.status)) says (c.number-number.ensures.value ∙ counted) (c.in-Ok-Line.ensures.within (ap (λ l. Ok l) c.in-Ok-Line.field-0-is)) c.in-Ok-Line.ensures.ahead
    (rw c.in-Ok-Line.field-0-is at c.in-Ok-Line.ensures.gives) c.in-Err-take_line.ensures.takes

pub loop-turn-preserved : goal.loop-turn-preserved
loop-turn-preserved g c =
    let counted : c.next.new.self.number ≡ c.loop-turn.lines.number + 1 = rw c.in-Ok-Line.field-0-is at c.in-Ok-Line.ensures.number in
    let says : c.content-line.result.now ≡ content (line_of c.next.new.self) = line_said _ _ _ c.next.new.self c.content-line.ensures c.line.ensures c.ended-in-loop-turn.ensures in
    let more : c.loop-turn.lines.number < most_lines = c.in-Ok-Line.ensures.within (ap (λ l. Ok l) c.in-Ok-Line.field-0-is) in
    record {
      along = λ ready. step_along desk_runner c.lines_are_taken.ensures (prepared_for c.args.cluster.now) _ _ c.loop-turn.lines.number c.loop-turn.lines.ended (Stands c.loop-turn.prepared) _ _ _ (c.loop-turn.invariant.along ready)
          (Stands c.in-Ok-take_line.after) _ _ (line_of c.next.new.self) c.content-line.result.now c.number-number.result c.next.new.self.number c.next.new.self.ended says c.number-number.ensures.value counted refl (sym c.if-not-ended.ensures) more (rw c.in-Ok-Line.field-0-is at c.in-Ok-Line.ensures.gives) c.in-Ok-take_line.ensures.takes;
      steps = omega (arith, c.in-Ok-take_line.ensures.steps, c.loop-turn.invariant.steps);
      number = omega (arith, counted, c.loop-turn.invariant.number);
      small = λ h. omega (arith, counted, more);
      ahead = c.in-Ok-Line.ensures.ahead;
      last = λ e. absurd (false≢true (sym (c.loop-turn.invariant.last e) ∙ sym c.if-not-ended.ensures));
      running = λ none. c.in-Ok-Line.ensures.stop;
      unstopped = λ e. let f = sym c.in-Ok-Line.ensures.stop ∙ e in cc;
      read = omega (arith, c.loop-turn.invariant.read, c.in-Ok-Line.ensures.later);
      wrote = omega (arith, c.loop-turn.invariant.wrote, c.in-Ok-take_line.ensures.later);
    }
