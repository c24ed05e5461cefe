use Rattle.std.proofs.Common.{inl, inr, ◌≡◌, ◌+◌, ◌<◌, List, [], ℕ, length, IfSome, Ok, Err, sym, ◌∙◌, ap, subst, arith, refl}
use Rattle.std.proofs.lemmas.Bool.{false≢true}
use Rattle.fuxi_io.specs.Reading.{line_of, rest_of}
use Rattle.fuxi_io.specs.WriteBuffers.{with_waiting}
use Rattle.fuxi_io.specs.declared.lines.LineStop.TheVariants.{ReadFault}
use Rattle.fuxi_io.specs.declared.status.LimitOf.TheVariants.{Lines, Records}
use Rattle.fuxi_io.specs.declared.status.Status.TheVariants.{WriteFault}
use Rattle.fuxi_terms.specs.Limits.{most_lines}
use Rattle.spec_world.specs.World.{empty_world}
use Rattle.input_lines.specs.Contents.{content}
use Rattle.input_lines.specs.InputStatuses.{stop_status}
use Rattle.input_lines.specs.LineProgress.{Along, MayBreak}
use Rattle.input_lines.proofs.Known.{line_said, running_alone}
use Rattle.input_lines.proofs.LineProgressLemmas.{start, nothing_taken, step_along, end_along, last_along, stop_along, line_along, appends_flushed, appends_alone, along_with, ends_flushed, none_waits, breaks_still, breaks_by}
use Rattle.schedule_replay.specs.ScheduleProgress.{Stands}
use Rattle.schedule_replay.specs.ScheduleRuns.{run_from, world_ends, world_runner}
use Rattle.schedule_replay.proofs.ScheduleRunsLemmas.{ends_with_state}
use Rattle.schedule_replay.proofs.run.run_lines.Goals as goal

pub returns-in_default-clause-ended : goal.returns-in_default-clause-ended
returns-in_default-clause-ended g c ready = nothing_taken world_ends (run_from c.args.lines.now.number (empty_world c.args.cluster)) c.args.lines.now.pending (g.S.Source.left c.args.source.now) (g.O.Sink.took c.args.out.now) refl c.requires.ahead

pub returns-in_default-new-clause-ended : goal.returns-in_default-new-clause-ended
returns-in_default-new-clause-ended g c ready = nothing_taken world_ends (run_from c.args.lines.now.number (empty_world c.args.cluster)) c.args.lines.now.pending (g.S.Source.left c.args.source.now) (g.O.Sink.took c.args.out.now) refl c.requires.ahead

pub loop-turn-init : goal.loop-turn-init
loop-turn-init g c =
    let took = g.O.Sink.took c.args.out.now in
    let source = g.S.Source.left c.args.source.now in
    let input = rest_of c.args.lines.now source in
    let number = c.args.lines.now.number in
    let begun = empty_world c.args.cluster in
    let none : [] ≡ c.in-Ok-new.waiting = sym c.in-Ok-new.ensures in
    record {
      along = λ ready. subst (λ (xs : List ℕ). IfSome input (λ bytes. Along world_runner begun bytes number number c.args.lines.now.ended (Stands c.in-Ok.running) input took (with_waiting took xs))) none
          (along_with world_runner begun input number number c.args.lines.now.ended (Stands c.in-Ok.running) input took took (with_waiting took [])
          (start world_runner c.lines_are_taken.ensures input took begun number c.args.lines.now.ended (Stands c.in-Ok.running) (record { is = c.start.ensures.world; stands = c.in-Ok.ensures.stands }) ready.last) (λ before text h. appends_alone before took text h));
      cut = λ ready. subst (λ (xs : List ℕ). IfSome input (λ bytes. MayBreak world_ends (run_from number begun) bytes source took took xs)) none (none_waits world_ends (run_from number begun) input source took took);
      reached = c.in-Ok.ensures.reached;
      events = omega (arith, c.in-Ok.ensures.events);
      number = omega arith;
      small = λ h. absurd (omega (arith, h));
      ahead = c.requires.ahead;
      last = λ e. e;
      running = λ e. e;
      unstopped = c.requires.stop;
      read = refl;
      wrote = refl;
    }

pub returns-then-not-ended-clause-ended : goal.returns-then-not-ended-clause-ended
returns-then-not-ended-clause-ended g c ready =
    let l = c.loop-turn in
    let status = c.write_state.result in
    let now = g.O.Sink.took c.write_state.new.out in
    ends_flushed world_ends (run_from c.args.lines.now.number (empty_world c.args.cluster)) _ (g.S.Source.left l.source) _ (g.O.Sink.took l.out) now l.waiting status _ (l.invariant.cut ready) c.write_state.ensures.writes (λ mid flushed writes.
    last_along world_runner c.lines_are_taken.ensures (empty_world c.args.cluster) _ _ l.lines.number l.lines.ended (Stands l.running) _ _ mid
    (along_with world_runner (empty_world c.args.cluster) _ _ l.lines.number l.lines.ended (Stands l.running) _ _ _ mid (l.invariant.along ready) (λ before text h. appends_flushed before (g.O.Sink.took l.out) mid l.waiting text flushed h))
    world_ends (ends_with_state c.lines_are_taken.ensures) l.lines.pending (g.S.Source.left l.source) now status refl (sym c.if-not-ended.ensures) writes)

pub returns-in-Err-clause-ended : goal.returns-in-Err-clause-ended
returns-in-Err-clause-ended g c ready =
    let l = c.loop-turn in
    ends_flushed world_ends (run_from c.args.lines.now.number (empty_world c.args.cluster)) _ (g.S.Source.left l.source) _ (g.O.Sink.took l.out) _ l.waiting WriteFault (λ _. ⊥) (l.invariant.cut ready) (inl (refl, c.in-Err.ensures.err)) (λ mid flushed none. absurd none)

pub returns-in-Ok-End-clause-ended : goal.returns-in-Ok-End-clause-ended
returns-in-Ok-End-clause-ended g c ready =
    let l = c.loop-turn in
    let run = run_from c.args.lines.now.number (empty_world c.args.cluster) in
    let took = g.O.Sink.took c.write_before_reading.new.out in
    let waiting = c.write_before_reading.new.waiting in
    let status = c.write_state-in-Ok-End.result in
    let now = g.O.Sink.took c.write_state-in-Ok-End.new.out in
    let source = g.S.Source.left c.next.new.source in
    let along = along_with world_runner (empty_world c.args.cluster) _ _ l.lines.number l.lines.ended (Stands l.running) _ _ _ (with_waiting took waiting) (l.invariant.along ready) c.in-Ok-write_before_reading.ensures.same in
    let cut = breaks_still world_ends run _ _ source _ (g.O.Sink.took l.out) took l.waiting waiting (l.invariant.cut ready) c.in-Ok-write_before_reading.ensures.none (λ h. ap (λ s. g.S.Source.left s) (c.in-Ok-End.ensures.unread h).0) in
    ends_flushed world_ends run _ source _ took now waiting status _ cut c.write_state-in-Ok-End.ensures.writes (λ mid flushed writes.
    end_along world_runner c.lines_are_taken.ensures (empty_world c.args.cluster) _ _ l.lines.number l.lines.ended (Stands l.running) _ _ mid
    (along_with world_runner (empty_world c.args.cluster) _ _ l.lines.number l.lines.ended (Stands l.running) _ _ _ mid along (λ before text h. appends_flushed before took mid waiting text flushed h))
    world_ends (ends_with_state c.lines_are_taken.ensures) c.next.new.self.pending source now _ status (rw c.in-Ok-End.field-0-is at c.in-Ok-End.ensures.gives) writes)

pub returns-in-Ok-End-clause-limit : goal.returns-in-Ok-End-clause-limit
returns-in-Ok-End-clause-limit g c none kept is = absurd (c.write_state-in-Ok-End.ensures.limit Lines kept is)

pub returns-in-Ok-End-clause-records : goal.returns-in-Ok-End-clause-records
returns-in-Ok-End-clause-records g c none kept = c.write_state-in-Ok-End.ensures.limit Records kept

pub returns-in-Ok-flush-clause-ended : goal.returns-in-Ok-flush-clause-ended
returns-in-Ok-flush-clause-ended g c ready =
    let l = c.loop-turn in
    let r = l.invariant.running ready.running in
    let took = g.O.Sink.took c.write_before_reading.new.out in
    let waiting = c.write_before_reading.new.waiting in
    let now = g.O.Sink.took c.flush.new.out in
    let along = along_with world_runner (empty_world c.args.cluster) _ _ l.lines.number l.lines.ended (Stands l.running) _ _ _ (with_waiting took waiting) (l.invariant.along ready) c.in-Ok-write_before_reading.ensures.same in
    rw (c.stop_status.ensures, c.number.ensures.value, c.in-Err-next.ensures.number)
    (stop_along world_runner c.lines_are_taken.ensures (empty_world c.args.cluster) _ _ l.lines.number l.lines.ended (Stands l.running) _ _ now
    (along_with world_runner (empty_world c.args.cluster) _ _ l.lines.number l.lines.ended (Stands l.running) _ _ _ now along (λ before text h. appends_flushed before took now waiting text c.in-Ok-flush.ensures.ok h))
    world_ends (ends_with_state c.lines_are_taken.ensures) (g.S.Source.left c.next.new.source) c.in-Err-next.stop (sym c.if-not-ended.ensures)
    (λ e. running_alone r (c.in-Err-next.ensures.broke (ap (λ s. Err s) e))) (λ e. running_alone r (c.in-Err-next.ensures.long (ap (λ s. Err s) e))) (λ e. running_alone r (c.in-Err-next.ensures.many (ap (λ s. Err s) e))))

pub returns-in-Err-flush-clause-ended : goal.returns-in-Err-flush-clause-ended
returns-in-Err-flush-clause-ended g c ready =
    let l = c.loop-turn in
    let run = run_from c.args.lines.now.number (empty_world c.args.cluster) in
    let took = g.O.Sink.took c.write_before_reading.new.out in
    let waiting = c.write_before_reading.new.waiting in
    let source = g.S.Source.left c.next.new.source in
    let cut = breaks_still world_ends run _ _ source _ (g.O.Sink.took l.out) took l.waiting waiting (l.invariant.cut ready) c.in-Ok-write_before_reading.ensures.none (λ h. ap (λ s. g.S.Source.left s) (c.in-Err-next.ensures.unread h).0) in
    ends_flushed world_ends run _ source _ took _ waiting WriteFault (λ _. ⊥) cut (inl (refl, c.in-Err-flush.ensures.err)) (λ mid flushed none. absurd none)

-- a fault of the source comes only where nothing waits
pub returns-in-Err-flush-clause-reads_served : goal.returns-in-Err-flush-clause-reads_served
returns-in-Err-flush-clause-reads_served g c other =
    c.in-Err-next.ensures.served (λ e. elim c.in-Ok-write_before_reading.ensures.none [
      | inl none ↦ absurd (omega (arith, subst (λ (xs : List ℕ). c.in-Err-flush.ensures.err.0 < length xs) none c.in-Err-flush.ensures.err.1))
      | inr h ↦ c.loop-turn.invariant.unstopped ((c.in-Err-next.ensures.unread h.2).1 e)
    ]) ∙ c.loop-turn.invariant.read

pub returns-in-Ok-flush-clause-reads_served : goal.returns-in-Ok-flush-clause-reads_served
returns-in-Ok-flush-clause-reads_served g c other =
    c.in-Err-next.ensures.served (λ e. let stopped : c.in-Err-next.stop ≡ ReadFault = cc in other (c.stop_status.ensures ∙ ap (λ s. stop_status s c.number.result) stopped)) ∙ c.loop-turn.invariant.read

pub returns-in-Err-take_line-clause-writes_served : goal.returns-in-Err-take_line-clause-writes_served
returns-in-Err-take_line-clause-writes_served g c other =
    c.in-Err-take_line.ensures.served (λ is. let status : c.in-Err-take_line.status ≡ WriteFault = cc in other status) ∙ (c.in-Ok-write_before_reading.ensures.served ∙ c.loop-turn.invariant.wrote)

pub returns-in-Err-take_line-clause-ended : goal.returns-in-Err-take_line-clause-ended
returns-in-Err-take_line-clause-ended g c ready =
    let l = c.loop-turn in
    let run = run_from c.args.lines.now.number (empty_world c.args.cluster) in
    let took = g.O.Sink.took c.write_before_reading.new.out in
    let waiting = c.write_before_reading.new.waiting in
    let now = g.O.Sink.took c.take_line.new.out in
    let source = g.S.Source.left c.next.new.source in
    let counted : c.next.new.self.number ≡ l.lines.number + 1 = rw c.in-Ok-Line.field-0-is at c.in-Ok-Line.ensures.number in
    let says : c.content-line.result.now ≡ content (line_of c.next.new.self) = line_said _ _ _ c.next.new.self c.content-line.ensures c.line.ensures c.ended-in-loop-turn.ensures in
    let along = along_with world_runner (empty_world c.args.cluster) _ _ l.lines.number l.lines.ended (Stands l.running) _ _ _ (with_waiting took waiting) (l.invariant.along ready) c.in-Ok-write_before_reading.ensures.same in
    let cut = breaks_still world_ends run _ _ source _ (g.O.Sink.took l.out) took l.waiting waiting (l.invariant.cut ready) c.in-Ok-write_before_reading.ensures.none (λ h. ap (λ s. g.S.Source.left s) (c.in-Ok-Line.ensures.unread h).0) in
    ends_flushed world_ends run _ source _ took now waiting c.in-Err-take_line.status _ cut c.in-Err-take_line.ensures.takes (λ mid flushed takes.
    line_along world_runner c.lines_are_taken.ensures (empty_world c.args.cluster) _ _ l.lines.number l.lines.ended (Stands l.running) _ _ mid
    (along_with world_runner (empty_world c.args.cluster) _ _ l.lines.number l.lines.ended (Stands l.running) _ _ _ mid along (λ before text h. appends_flushed before took mid waiting text flushed h))
    world_ends (ends_with_state c.lines_are_taken.ensures)
    c.next.new.self.pending source now (line_of c.next.new.self) c.content-line.result.now c.number-number.result c.in-Err-take_line.status (Stands c.take_line.new.running) says (c.number-number.ensures.value ∙ counted) (c.in-Ok-Line.ensures.within (ap (λ l. Ok l) c.in-Ok-Line.field-0-is)) c.in-Ok-Line.ensures.ahead
    (rw c.in-Ok-Line.field-0-is at c.in-Ok-Line.ensures.gives) takes)

pub loop-turn-preserved : goal.loop-turn-preserved
loop-turn-preserved g c =
    let l = c.loop-turn in
    let run = run_from c.args.lines.now.number (empty_world c.args.cluster) in
    let took = g.O.Sink.took c.write_before_reading.new.out in
    let waiting = c.write_before_reading.new.waiting in
    let now = g.O.Sink.took c.take_line.new.out in
    let left = c.take_line.new.waiting in
    let source = g.S.Source.left c.next.new.source in
    let counted : c.next.new.self.number ≡ l.lines.number + 1 = rw c.in-Ok-Line.field-0-is at c.in-Ok-Line.ensures.number in
    let says : c.content-line.result.now ≡ content (line_of c.next.new.self) = line_said _ _ _ c.next.new.self c.content-line.ensures c.line.ensures c.ended-in-loop-turn.ensures in
    let more : l.lines.number < most_lines = c.in-Ok-Line.ensures.within (ap (λ l. Ok l) c.in-Ok-Line.field-0-is) in
    record {
      along = λ ready. step_along world_runner c.lines_are_taken.ensures (empty_world c.args.cluster) _ _ l.lines.number l.lines.ended (Stands l.running) _ _ (with_waiting took waiting)
          (along_with world_runner (empty_world c.args.cluster) _ _ l.lines.number l.lines.ended (Stands l.running) _ _ _ (with_waiting took waiting) (l.invariant.along ready) c.in-Ok-write_before_reading.ensures.same)
          (Stands c.take_line.new.running) _ (with_waiting now left) (line_of c.next.new.self) c.content-line.result.now c.number-number.result c.next.new.self.number c.next.new.self.ended says c.number-number.ensures.value counted refl (sym c.if-not-ended.ensures) more (rw c.in-Ok-Line.field-0-is at c.in-Ok-Line.ensures.gives) c.in-Ok-take_line.ensures.takes.0;
      cut = λ ready.
          let along = along_with world_runner (empty_world c.args.cluster) _ _ l.lines.number l.lines.ended (Stands l.running) _ _ _ (with_waiting took waiting) (l.invariant.along ready) c.in-Ok-write_before_reading.ensures.same in
          let cut = breaks_still world_ends run _ _ source _ (g.O.Sink.took l.out) took l.waiting waiting (l.invariant.cut ready) c.in-Ok-write_before_reading.ensures.none (λ h. ap (λ s. g.S.Source.left s) (c.in-Ok-Line.ensures.unread h).0) in
          breaks_by world_ends run _ source _ now left (λ after part.
          ends_flushed world_ends run _ source _ took after waiting WriteFault _ cut (c.in-Ok-take_line.ensures.takes.1 after part) (λ mid flushed takes.
          line_along world_runner c.lines_are_taken.ensures (empty_world c.args.cluster) _ _ l.lines.number l.lines.ended (Stands l.running) _ _ mid
          (along_with world_runner (empty_world c.args.cluster) _ _ l.lines.number l.lines.ended (Stands l.running) _ _ _ mid along (λ before text h. appends_flushed before took mid waiting text flushed h))
          world_ends (ends_with_state c.lines_are_taken.ensures)
          c.next.new.self.pending source after (line_of c.next.new.self) c.content-line.result.now c.number-number.result WriteFault (Stands c.take_line.new.running) says (c.number-number.ensures.value ∙ counted) more c.in-Ok-Line.ensures.ahead
          (rw c.in-Ok-Line.field-0-is at c.in-Ok-Line.ensures.gives) takes));
      reached = c.in-Ok-take_line.ensures.reached;
      events = omega (arith, c.in-Ok-take_line.ensures.events, l.invariant.events);
      number = omega (arith, counted, l.invariant.number);
      small = λ h. omega (arith, counted, more);
      ahead = c.in-Ok-Line.ensures.ahead;
      last = λ e. absurd (false≢true (sym (l.invariant.last e) ∙ sym c.if-not-ended.ensures));
      running = λ none. c.in-Ok-Line.ensures.stop;
      unstopped = λ e. let f = sym c.in-Ok-Line.ensures.stop ∙ e in cc;
      read = c.in-Ok-Line.ensures.served (λ e. cc) ∙ l.invariant.read;
      wrote = c.in-Ok-take_line.ensures.served (λ e. cc) ∙ (c.in-Ok-write_before_reading.ensures.served ∙ l.invariant.wrote);
    }
