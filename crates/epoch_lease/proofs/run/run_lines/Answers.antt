use Rattle.std.proofs.Common.{◌≡◌, ◌+◌, ◌<◌, true, false, Ok, Err, refl, sym, ◌∙◌, ap, subst, arith}
use Rattle.fuxi_io.specs.Causes.{Rose}
use Rattle.fuxi_io.specs.Reading.{Reading, line_of, rest_of}
use Rattle.fuxi_io.specs.declared.lines.LineStop.TheVariants.{ReadFault as ReadStop}
use Rattle.fuxi_io.specs.declared.status.Status.TheVariants.{OutOfMemory}
use Rattle.fuxi_terms.specs.Limits.{most_lines}
use Rattle.input_lines.specs.Contents.{content}
use Rattle.input_lines.specs.RunEnds.{no_causes}
use Rattle.input_lines.proofs.Known.{line_said, running_alone}
use Rattle.input_lines.proofs.LineProgressLemmas.{start_fresh, step_along}
use Rattle.input_lines.proofs.RunEndsLemmas.{carries_behind, carries_unused, ends_as, ends_so, stop_ends, within_any, within_same}
use Rattle.epoch_lease.specs.Files.{lease_of}
use Rattle.epoch_lease.specs.LeaseEnds.{lease_causes}
use Rattle.epoch_lease.specs.Leases.{LeaseState}
use Rattle.epoch_lease.specs.LeaseProgress.{TakesLine}
use Rattle.epoch_lease.specs.LeaseRuns.{lease_runner}
use Rattle.epoch_lease.proofs.LeaseProgressLemmas.{file_behind, goes_on, has_file}
use Rattle.epoch_lease.proofs.LeaseEndsLemmas.{end_along, last_along, stop_along, line_along}
use Rattle.epoch_lease.proofs.run.run_lines.Goals as goal

pub loop-turn-init : goal.loop-turn-init
loop-turn-init g c =
    let s = lease_of c.args.lease.now in
    record {
      along = start_fresh lease_runner c.lines_are_taken.ensures c.args.lines.now c.requires.fresh (g.S.Source.left c.args.source.now) (g.O.Sink.took c.args.out.now) s (λ x. s ≡ x) refl;
      rests = λ before rests. rests;
      number = omega arith;
      small = λ h. absurd (omega (arith, h));
      running = ap (λ (r : Reading). r.stop) c.requires.fresh;
      sound = c.requires.sound;
      long = c.requires.long;
      reads_served = refl;
      writes_served = refl;
      disk_served = refl;
    }

pub returns-in-Ok-End-clause-ended : goal.returns-in-Ok-End-clause-ended
returns-in-Ok-End-clause-ended g c before rests =
    let i = c.loop-turn.invariant in
    end_along c.lines_are_taken.ensures (g.S.Source.left c.args.source.now) (lease_of c.args.lease.now) c.loop-turn.lines.number true (lease_of c.loop-turn.lease) (rest_of c.loop-turn.lines (g.S.Source.left c.loop-turn.source)) (g.O.Sink.took c.args.out.now) (g.O.Sink.took c.loop-turn.out) i.along
    before (g.D.Disk.told c.loop-turn.disk) c.next.new.self.pending (g.S.Source.left c.next.new.source) (g.O.Sink.took c.write_last.new.out) (line_of c.next.new.self) c.write_last.result (rw c.in-Ok-End.field-0-is at c.in-Ok-End.ensures.gives)
    (has_file c.loop-turn.lease before (g.D.Disk.told c.loop-turn.disk) (i.rests before rests)) (λ is. (ends_so no_causes _ c.write_last.result OutOfMemory is c.write_last.ensures.status).0) c.write_last.ensures.writes

pub returns-in-Err-clause-ended : goal.returns-in-Err-clause-ended
returns-in-Err-clause-ended g c before rests =
    let i = c.loop-turn.invariant in
    rw (c.stop_status.ensures, c.number.ensures.value, c.in-Err.ensures.number)
    (stop_along c.lines_are_taken.ensures (g.S.Source.left c.args.source.now) (lease_of c.args.lease.now) c.loop-turn.lines.number true (lease_of c.loop-turn.lease) (rest_of c.loop-turn.lines (g.S.Source.left c.loop-turn.source)) (g.O.Sink.took c.args.out.now) (g.O.Sink.took c.loop-turn.out) i.along
    before (g.D.Disk.told c.loop-turn.disk) (g.S.Source.left c.next.new.source) c.in-Err.stop refl
    (λ e. running_alone i.running (c.in-Err.ensures.broke (ap (λ s. Err s) e))) (λ e. running_alone i.running (c.in-Err.ensures.long (ap (λ s. Err s) e))) (λ e. running_alone i.running (c.in-Err.ensures.many (ap (λ s. Err s) e)))
    (has_file c.loop-turn.lease before (g.D.Disk.told c.loop-turn.disk) (i.rests before rests)))

pub returns-in-Err-take_line-clause-ended : goal.returns-in-Err-take_line-clause-ended
returns-in-Err-take_line-clause-ended g c before rests =
    let i = c.loop-turn.invariant in
    let counted : c.next.new.self.number ≡ c.loop-turn.lines.number + 1 = rw c.in-Ok-Line.field-0-is at c.in-Ok-Line.ensures.number in
    let says : c.content-line.result.now ≡ content (line_of c.next.new.self) = line_said c.content-line.result.now c.line.result.now c.ended.result c.next.new.self c.content-line.ensures c.line.ensures c.ended.ensures in
    let old = lease_of c.loop-turn.lease in
    let new = lease_of c.take_line.new.lease in
    line_along c.lines_are_taken.ensures (g.S.Source.left c.args.source.now) (lease_of c.args.lease.now) c.loop-turn.lines.number true old (rest_of c.loop-turn.lines (g.S.Source.left c.loop-turn.source)) (g.O.Sink.took c.args.out.now) (g.O.Sink.took c.loop-turn.out) i.along
    before (g.D.Disk.told c.take_line.new.disk) c.next.new.self.pending (g.S.Source.left c.next.new.source) (g.O.Sink.took c.take_line.new.out) (line_of c.next.new.self) c.content-line.result.now c.number-number.result c.in-Err-take_line.status new says (c.number-number.ensures.value ∙ counted)
    (c.in-Ok-Line.ensures.within (ap (λ l. Ok l) c.in-Ok-Line.field-0-is)) c.in-Ok-Line.ensures.ahead (rw c.in-Ok-Line.field-0-is at c.in-Ok-Line.ensures.gives)
    (file_behind c.in-Err-take_line.status c.content-line.result.now c.loop-turn.lease c.take_line.new.lease before (g.D.Disk.told c.loop-turn.disk) (g.D.Disk.told c.take_line.new.disk) (i.rests before rests) c.in-Err-take_line.ensures.leaves) c.in-Err-take_line.ensures.takes

pub returns-then-not-ended-clause-ended : goal.returns-then-not-ended-clause-ended
returns-then-not-ended-clause-ended g c before rests =
    let i = c.loop-turn.invariant in
    let counted : c.next.new.self.number ≡ c.loop-turn.lines.number + 1 = rw c.in-Ok-Line.field-0-is at c.in-Ok-Line.ensures.number in
    let says : c.content-line.result.now ≡ content (line_of c.next.new.self) = line_said c.content-line.result.now c.line.result.now c.ended.result c.next.new.self c.content-line.ensures c.line.ensures c.ended.ensures in
    let old = lease_of c.loop-turn.lease in
    let new = lease_of c.take_line.new.lease in
    let along = step_along lease_runner c.lines_are_taken.ensures (lease_of c.args.lease.now) (g.S.Source.left c.args.source.now) 0 c.loop-turn.lines.number true (λ x. old ≡ x) (rest_of c.loop-turn.lines (g.S.Source.left c.loop-turn.source)) (g.O.Sink.took c.args.out.now) (g.O.Sink.took c.loop-turn.out) i.along
    (λ x. new ≡ x) (rest_of c.next.new.self (g.S.Source.left c.next.new.source)) (g.O.Sink.took c.take_line.new.out) (line_of c.next.new.self) c.content-line.result.now c.number-number.result c.next.new.self.number false says c.number-number.ensures.value counted (sym c.if-not-ended.ensures) refl
    (c.in-Ok-Line.ensures.within (ap (λ l. Ok l) c.in-Ok-Line.field-0-is)) (rw c.in-Ok-Line.field-0-is at c.in-Ok-Line.ensures.gives) (λ v is. subst (λ (s : LeaseState). TakesLine c.content-line.result.now c.number-number.result s new (Ok tt) (g.O.Sink.took c.loop-turn.out) (g.O.Sink.took c.take_line.new.out)) is c.in-Ok.ensures.takes) in
    let now = goes_on c.loop-turn.lease c.take_line.new.lease before (g.D.Disk.told c.loop-turn.disk) (g.D.Disk.told c.take_line.new.disk) (i.rests before rests) c.in-Ok.ensures.leaves in
    last_along c.lines_are_taken.ensures (g.S.Source.left c.args.source.now) (lease_of c.args.lease.now) c.next.new.self.number false new (rest_of c.next.new.self (g.S.Source.left c.next.new.source)) (g.O.Sink.took c.args.out.now) (g.O.Sink.took c.take_line.new.out) along
    before (g.D.Disk.told c.take_line.new.disk) c.next.new.self.pending (g.S.Source.left c.next.new.source) (g.O.Sink.took c.write_last-then-not-ended.new.out) c.write_last-then-not-ended.result refl refl
    (has_file c.take_line.new.lease before (g.D.Disk.told c.take_line.new.disk) now) (λ is. (ends_so no_causes _ c.write_last-then-not-ended.result OutOfMemory is c.write_last-then-not-ended.ensures.status).0) c.write_last-then-not-ended.ensures.writes

pub loop-turn-preserved : goal.loop-turn-preserved
loop-turn-preserved g c =
    let i = c.loop-turn.invariant in
    let counted : c.next.new.self.number ≡ c.loop-turn.lines.number + 1 = rw c.in-Ok-Line.field-0-is at c.in-Ok-Line.ensures.number in
    let says : c.content-line.result.now ≡ content (line_of c.next.new.self) = line_said c.content-line.result.now c.line.result.now c.ended.result c.next.new.self c.content-line.ensures c.line.ensures c.ended.ensures in
    let old = lease_of c.loop-turn.lease in
    let new = lease_of c.take_line.new.lease in
    let more : c.loop-turn.lines.number < most_lines = c.in-Ok-Line.ensures.within (ap (λ l. Ok l) c.in-Ok-Line.field-0-is) in
    record {
      along = step_along lease_runner c.lines_are_taken.ensures (lease_of c.args.lease.now) (g.S.Source.left c.args.source.now) 0 c.loop-turn.lines.number true (λ x. old ≡ x) (rest_of c.loop-turn.lines (g.S.Source.left c.loop-turn.source)) (g.O.Sink.took c.args.out.now) (g.O.Sink.took c.loop-turn.out) i.along
          (λ x. new ≡ x) (rest_of c.next.new.self (g.S.Source.left c.next.new.source)) (g.O.Sink.took c.take_line.new.out) (line_of c.next.new.self) c.content-line.result.now c.number-number.result c.next.new.self.number true says c.number-number.ensures.value counted (sym c.if-not-ended.ensures) refl
          more (rw c.in-Ok-Line.field-0-is at c.in-Ok-Line.ensures.gives) (λ v is. subst (λ (s : LeaseState). TakesLine c.content-line.result.now c.number-number.result s new (Ok tt) (g.O.Sink.took c.loop-turn.out) (g.O.Sink.took c.take_line.new.out)) is c.in-Ok.ensures.takes);
      rests = λ before rests. goes_on c.loop-turn.lease c.take_line.new.lease before (g.D.Disk.told c.loop-turn.disk) (g.D.Disk.told c.take_line.new.disk) (i.rests before rests) c.in-Ok.ensures.leaves;
      number = omega (arith, counted, i.number);
      small = λ h. omega (arith, counted, more);
      running = c.in-Ok-Line.ensures.stop;
      sound = c.in-Ok.ensures.sound;
      long = c.in-Ok.ensures.long;
      reads_served = c.in-Ok-Line.ensures.served (λ other. let no : ⊥ = cc in no) ∙ i.reads_served;
      writes_served = c.in-Ok.ensures.status.1 ∙ i.writes_served;
      disk_served = c.in-Ok.ensures.status.2 ∙ i.disk_served;
    }

pub returns-in-Ok-End-clause-status : goal.returns-in-Ok-End-clause-status
returns-in-Ok-End-clause-status g c =
    let i = c.loop-turn.invariant in
    ends_as no_causes (lease_causes (λ offset. ⊥)) _ _ (within_any (lease_causes (λ offset. ⊥)))
    (carries_unused (g.S.Source.faults c.args.source.now) (g.S.Source.faults c.next.new.source) (c.in-Ok-End.ensures.served (λ other. let no : ⊥ = cc in no) ∙ i.reads_served))
    (carries_behind (g.O.Sink.faults c.args.out.now) (g.O.Sink.faults c.loop-turn.out) (g.O.Sink.faults c.write_last.new.out) i.writes_served)
    (carries_unused (g.D.Disk.faults c.args.disk.now) (g.D.Disk.faults c.loop-turn.disk) i.disk_served) c.write_last.result c.write_last.ensures.status

pub returns-in-Err-clause-status : goal.returns-in-Err-clause-status
returns-in-Err-clause-status g c =
    let i = c.loop-turn.invariant in
    rw (c.stop_status.ensures, c.number.ensures.value, c.in-Err.ensures.number)
    (stop_ends (lease_causes (λ offset. ⊥)) _ c.in-Err.stop c.loop-turn.lines.number tt
    (λ e. (refl, (running_alone i.running (c.in-Err.ensures.many (ap (λ s. Err s) e))).0))
    (λ e. subst (λ n. Rose n (g.S.Source.faults c.next.new.source)) i.reads_served (running_alone i.running (c.in-Err.ensures.fault (ap (λ s. Err s) e))))
    (λ other. c.in-Err.ensures.served (λ is. other (let stop : c.in-Err.stop ≡ ReadStop = cc in stop)) ∙ i.reads_served) i.writes_served i.disk_served)

pub returns-in-Err-take_line-clause-status : goal.returns-in-Err-take_line-clause-status
returns-in-Err-take_line-clause-status g c =
    let i = c.loop-turn.invariant in
    ends_as (lease_causes (λ offset. ⊥)) (lease_causes (λ offset. ⊥)) _ _ (within_same (lease_causes (λ offset. ⊥)))
    (carries_unused (g.S.Source.faults c.args.source.now) (g.S.Source.faults c.next.new.source) (c.in-Ok-Line.ensures.served (λ other. let no : ⊥ = cc in no) ∙ i.reads_served))
    (carries_behind (g.O.Sink.faults c.args.out.now) (g.O.Sink.faults c.loop-turn.out) (g.O.Sink.faults c.take_line.new.out) i.writes_served)
    (carries_behind (g.D.Disk.faults c.args.disk.now) (g.D.Disk.faults c.loop-turn.disk) (g.D.Disk.faults c.take_line.new.disk) i.disk_served) c.in-Err-take_line.status c.in-Err-take_line.ensures.status

pub returns-then-not-ended-clause-status : goal.returns-then-not-ended-clause-status
returns-then-not-ended-clause-status g c =
    let i = c.loop-turn.invariant in
    ends_as no_causes (lease_causes (λ offset. ⊥)) _ _ (within_any (lease_causes (λ offset. ⊥)))
    (carries_unused (g.S.Source.faults c.args.source.now) (g.S.Source.faults c.next.new.source) (c.in-Ok-Line.ensures.served (λ other. let no : ⊥ = cc in no) ∙ i.reads_served))
    (carries_behind (g.O.Sink.faults c.args.out.now) (g.O.Sink.faults c.take_line.new.out) (g.O.Sink.faults c.write_last-then-not-ended.new.out) (c.in-Ok.ensures.status.1 ∙ i.writes_served))
    (carries_unused (g.D.Disk.faults c.args.disk.now) (g.D.Disk.faults c.take_line.new.disk) (c.in-Ok.ensures.status.2 ∙ i.disk_served)) c.write_last-then-not-ended.result c.write_last-then-not-ended.ensures.status
