use Rattle.std.proofs.Common.{Some, ◌≡◌, ◌+◌, ◌<◌, Ok, Err, sym, ◌∙◌, ap, subst, arith, refl, false}
use Rattle.std.proofs.lemmas.Bool.{false≢true}
use Rattle.fuxi_io.specs.Reading.{line_of}
use Rattle.fuxi_io.specs.declared.lines.LineStop.TheVariants.{ReadFault as ReadStop}
use Rattle.fuxi_terms.specs.Limits.{most_frames, most_lines}
use Rattle.input_lines.specs.InputStatuses.{stop_status}
use Rattle.input_lines.specs.Contents.{content, is_skipped}
use Rattle.fuxi_io.specs.Doors.{WhereTold}
use Rattle.node_core.specs.NodeHalts.{FitsEither}
use Rattle.node_core.specs.NodeLines.{node_line}
use Rattle.fuxi_node.specs.declared.taking.Stop.TheVariants.{Ends, Disk}
use Rattle.fuxi_node.specs.NodeEnds.{FitsNow, FitsOneNow, start_of}
use Rattle.fuxi_node.specs.NodeProgress.{Taken, TakesCounted}
use Rattle.std.specs.Io.KnownBytes.{Appends}
use Rattle.fuxi_node.proofs.KnownRuns.{start_along, end_along, last_along, stop_along, line_along, disk_along, on_along, ok_is, running_alone}
use Rattle.fuxi_node.proofs.NodeEndsLemmas.{start_reaches, on_reaches, end_placed, last_placed, stop_placed, line_placed, disk_placed}
use Rattle.fuxi_node.proofs.DiskKept.{fits_first, keeps_same, known_more, known_on}
use Rattle.fuxi_node.proofs.run.run_node.Goals as goal

pub loop-turn-init : goal.loop-turn-init
loop-turn-init g c = record {
  along = λ ready r s. start_along c.lines_are_taken.ensures most_frames c.args.lines.now.number c.args.addr.now r _ _ c.args.lines.now.ended (g.C.Core.stands c.args.core) (g.N.Door.faults c.args.door.now) (g.N.Door.told c.args.door.now) s ready.last;
  reaches = λ ready. start_reaches c.args.lines.now.number _ c.args.lines.now.ended ready.last;
  rests = c.requires.rests;
  told = keeps_same g.C.Core.rests c.args.core (g.D.Disk.size c.args.disk.now) (g.D.Disk.told c.args.disk.now);
  events = omega arith;
  steps = omega arith;
  number = omega arith;
  small = λ h. absurd (omega (arith, h));
  last = λ e. e;
  running = λ e. e;
  unstopped = c.requires.stop;
  read = omega arith;
  disk = omega arith;
  reads_served = refl;
  writes_served = refl;
  disk_served = refl;
  wrote = omega arith;
}

pub returns-then-not-ended-clause-ended : goal.returns-then-not-ended-clause-ended
returns-then-not-ended-clause-ended g c ready r s =
    let i = c.loop-turn.invariant.along ready r s in
    last_along c.lines_are_taken.ensures (start_of most_frames c.args.addr.now c.args.lines.now.number r) _ c.loop-turn.lines.number c.loop-turn.lines.ended c.loop-turn.events (g.C.Core.stands c.loop-turn.core) _ _ _ _ _ _ _ i
    (FitsNow g.C.Core.rests g.C.Node.fits c.args.core (g.D.Disk.size c.args.disk.now) (g.D.Disk.told c.args.disk.now) (g.D.Disk.told c.loop-turn.disk)) (FitsOneNow g.C.Core.rests g.C.Node.fits g.C.Node.halts c.args.core (g.D.Disk.size c.args.disk.now) (g.D.Disk.told c.args.disk.now) (g.D.Disk.told c.loop-turn.disk)) c.loop-turn.lines.pending (g.S.Source.left c.loop-turn.source) _ c.end_node.result refl (sym c.if-not-ended.ensures) c.end_node.ensures.writes (λ q t. known_more g.C.Core.rests c.args.core (g.D.Disk.size c.args.disk.now) (λ m. g.C.Core.rests c.loop-turn.core (g.D.Disk.size c.loop-turn.disk) (Some m)) (g.C.Node.fits q) (g.D.Disk.told c.args.disk.now) (g.D.Disk.told c.loop-turn.disk)
    (λ m rests. g.met.C.Node.fitting c.loop-turn.core q (g.D.Disk.size c.loop-turn.disk) m t rests) c.loop-turn.invariant.told)
    (fits_first g.C.Core.rests c.args.core g.C.Node.fits g.C.Node.halts (g.D.Disk.size c.args.disk.now) (g.D.Disk.told c.args.disk.now) (g.D.Disk.told c.loop-turn.disk))

pub returns-in-Ok-End-clause-ended : goal.returns-in-Ok-End-clause-ended
returns-in-Ok-End-clause-ended g c ready r s =
    let i = c.loop-turn.invariant.along ready r s in
    end_along c.lines_are_taken.ensures (start_of most_frames c.args.addr.now c.args.lines.now.number r) _ c.loop-turn.lines.number c.loop-turn.lines.ended c.loop-turn.events (g.C.Core.stands c.loop-turn.core) _ _ _ _ _ _ _ i
    (FitsNow g.C.Core.rests g.C.Node.fits c.args.core (g.D.Disk.size c.args.disk.now) (g.D.Disk.told c.args.disk.now) (g.D.Disk.told c.loop-turn.disk)) (FitsOneNow g.C.Core.rests g.C.Node.fits g.C.Node.halts c.args.core (g.D.Disk.size c.args.disk.now) (g.D.Disk.told c.args.disk.now) (g.D.Disk.told c.loop-turn.disk)) c.next.new.self.pending (g.S.Source.left c.next.new.source) _ _ c.end_node-in-Ok-End.result (rw c.in-Ok-End.field-0-is at c.in-Ok-End.ensures.gives) c.end_node-in-Ok-End.ensures.writes (λ q t. known_more g.C.Core.rests c.args.core (g.D.Disk.size c.args.disk.now) (λ m. g.C.Core.rests c.loop-turn.core (g.D.Disk.size c.loop-turn.disk) (Some m)) (g.C.Node.fits q) (g.D.Disk.told c.args.disk.now) (g.D.Disk.told c.loop-turn.disk)
    (λ m rests. g.met.C.Node.fitting c.loop-turn.core q (g.D.Disk.size c.loop-turn.disk) m t rests) c.loop-turn.invariant.told)
    (fits_first g.C.Core.rests c.args.core g.C.Node.fits g.C.Node.halts (g.D.Disk.size c.args.disk.now) (g.D.Disk.told c.args.disk.now) (g.D.Disk.told c.loop-turn.disk))

pub returns-in-Err-clause-ended : goal.returns-in-Err-clause-ended
returns-in-Err-clause-ended g c ready r s =
    let i = c.loop-turn.invariant.along ready r s in
    let u = c.loop-turn.invariant.running ready.running in
    rw (c.stop_status.ensures, c.number.ensures.value, c.in-Err.ensures.number)
    (stop_along c.lines_are_taken.ensures (start_of most_frames c.args.addr.now c.args.lines.now.number r) _ c.loop-turn.lines.number c.loop-turn.lines.ended c.loop-turn.events (g.C.Core.stands c.loop-turn.core) _ _ _ _ _ _ _ i
    (FitsNow g.C.Core.rests g.C.Node.fits c.args.core (g.D.Disk.size c.args.disk.now) (g.D.Disk.told c.args.disk.now) (g.D.Disk.told c.loop-turn.disk)) (FitsOneNow g.C.Core.rests g.C.Node.fits g.C.Node.halts c.args.core (g.D.Disk.size c.args.disk.now) (g.D.Disk.told c.args.disk.now) (g.D.Disk.told c.loop-turn.disk)) (g.S.Source.left c.next.new.source) c.in-Err.stop (sym c.if-not-ended.ensures)
    (λ e. running_alone u (c.in-Err.ensures.broke (ap (λ s. Err s) e))) (λ e. running_alone u (c.in-Err.ensures.long (ap (λ s. Err s) e))) (λ e. running_alone u (c.in-Err.ensures.many (ap (λ s. Err s) e)))
    (λ q t. known_more g.C.Core.rests c.args.core (g.D.Disk.size c.args.disk.now) (λ m. g.C.Core.rests c.loop-turn.core (g.D.Disk.size c.loop-turn.disk) (Some m)) (g.C.Node.fits q) (g.D.Disk.told c.args.disk.now) (g.D.Disk.told c.loop-turn.disk)
    (λ m rests. g.met.C.Node.fitting c.loop-turn.core q (g.D.Disk.size c.loop-turn.disk) m t rests) c.loop-turn.invariant.told))

pub returns-in-Err-Ends-clause-ended : goal.returns-in-Err-Ends-clause-ended
returns-in-Err-Ends-clause-ended g c ready r s =
    let i = c.loop-turn.invariant.along ready r s in
    let start = start_of most_frames c.args.addr.now c.args.lines.now.number r in
    let next : c.number-number.result ≡ c.loop-turn.lines.number + 1 = c.number-number.ensures.value ∙ (rw c.in-Ok-Line.field-0-is at c.in-Ok-Line.ensures.number) in
    let line : c.content-line.result.now ≡ content (line_of c.next.new.self) = c.content-line.ensures ∙ ap (λ b. content (record { bytes = b; ended = c.ended-in-loop-turn.result })) c.line.ensures ∙ ap (λ b. content (record { bytes = c.next.new.self.line; ended = b })) c.ended-in-loop-turn.ensures in
    let unskipped : is_skipped c.content-line.result.now ≡ false = c.in-Err-Ends.ensures.unskipped in
    rw c.in-Err-Ends.status-is (line_along c.lines_are_taken.ensures start _ c.loop-turn.lines.number c.loop-turn.lines.ended c.loop-turn.events (g.C.Core.stands c.loop-turn.core) _ _ _ _ (g.N.Door.faults c.loop-turn.door) _ (g.N.Door.told c.loop-turn.door) i
    (FitsNow g.C.Core.rests g.C.Node.fits c.args.core (g.D.Disk.size c.args.disk.now) (g.D.Disk.told c.args.disk.now) (g.D.Disk.told c.take_any.new.disk)) (FitsOneNow g.C.Core.rests g.C.Node.fits g.C.Node.halts c.args.core (g.D.Disk.size c.args.disk.now) (g.D.Disk.told c.args.disk.now) (g.D.Disk.told c.take_any.new.disk))
    (FitsNow g.C.Core.rests g.C.Node.fits c.loop-turn.core (g.D.Disk.size c.loop-turn.disk) (g.D.Disk.told c.loop-turn.disk) (g.D.Disk.told c.take_any.new.disk)) (FitsOneNow g.C.Core.rests g.C.Node.fits g.C.Node.halts c.loop-turn.core (g.D.Disk.size c.loop-turn.disk) (g.D.Disk.told c.loop-turn.disk) (g.D.Disk.told c.take_any.new.disk))
    (λ q. known_on g.C.Core.rests c.args.core c.loop-turn.core (g.D.Disk.size c.args.disk.now) (g.D.Disk.size c.loop-turn.disk) (g.C.Node.fits q) (g.D.Disk.told c.args.disk.now) (g.D.Disk.told c.loop-turn.disk) (g.D.Disk.told c.take_any.new.disk) c.loop-turn.invariant.told)
    (λ q p. known_on g.C.Core.rests c.args.core c.loop-turn.core (g.D.Disk.size c.args.disk.now) (g.D.Disk.size c.loop-turn.disk) (FitsEither g.C.Node.fits g.C.Node.halts q p) (g.D.Disk.told c.args.disk.now) (g.D.Disk.told c.loop-turn.disk) (g.D.Disk.told c.take_any.new.disk) c.loop-turn.invariant.told)
    g.C.Core.stands c.next.new.self.pending (g.S.Source.left c.next.new.source) _ (line_of c.next.new.self) c.in-Err-Ends.status (g.N.Door.faults c.take_any.new.door) (g.N.Door.told c.take_any.new.door)
    (c.in-Ok-Line.ensures.within (ap (λ l. Ok l) c.in-Ok-Line.field-0-is)) c.in-Ok-Line.ensures.ahead (rw c.in-Ok-Line.field-0-is at c.in-Ok-Line.ensures.gives) (ap is_skipped (sym line) ∙ unskipped)
    (λ n st is. subst (λ k. WhereTold (TakesCounted g.C.Core.stands (FitsNow g.C.Core.rests g.C.Node.fits c.loop-turn.core (g.D.Disk.size c.loop-turn.disk) (g.D.Disk.told c.loop-turn.disk) (g.D.Disk.told c.take_any.new.disk)) (FitsOneNow g.C.Core.rests g.C.Node.fits g.C.Node.halts c.loop-turn.core (g.D.Disk.size c.loop-turn.disk) (g.D.Disk.told c.loop-turn.disk) (g.D.Disk.told c.take_any.new.disk)) most_frames c.args.addr.now n (node_line (content (line_of c.next.new.self))) k (Err (Ends c.in-Err-Ends.status)) (g.O.Sink.took c.loop-turn.out) (g.O.Sink.took c.take_any.new.out) (g.N.Door.faults c.loop-turn.door) (g.N.Door.faults c.take_any.new.door)) (g.N.Door.told c.loop-turn.door) (g.N.Door.told c.take_any.new.door)) next
    (subst (λ l. WhereTold (TakesCounted g.C.Core.stands (FitsNow g.C.Core.rests g.C.Node.fits c.loop-turn.core (g.D.Disk.size c.loop-turn.disk) (g.D.Disk.told c.loop-turn.disk) (g.D.Disk.told c.take_any.new.disk)) (FitsOneNow g.C.Core.rests g.C.Node.fits g.C.Node.halts c.loop-turn.core (g.D.Disk.size c.loop-turn.disk) (g.D.Disk.told c.loop-turn.disk) (g.D.Disk.told c.take_any.new.disk)) most_frames c.args.addr.now n (node_line l) c.number-number.result (Err (Ends c.in-Err-Ends.status)) (g.O.Sink.took c.loop-turn.out) (g.O.Sink.took c.take_any.new.out) (g.N.Door.faults c.loop-turn.door) (g.N.Door.faults c.take_any.new.door)) (g.N.Door.told c.loop-turn.door) (g.N.Door.told c.take_any.new.door)) line
    (rw c.in-Err-Ends.field-0-is at (c.in-Err-Ends.ensures.takes unskipped n st is)))))

pub returns-in-Err-Disk-clause-ended : goal.returns-in-Err-Disk-clause-ended
returns-in-Err-Disk-clause-ended g c ready r s =
    let i = c.loop-turn.invariant.along ready r s in
    let start = start_of most_frames c.args.addr.now c.args.lines.now.number r in
    let next : c.number-number.result ≡ c.loop-turn.lines.number + 1 = c.number-number.ensures.value ∙ (rw c.in-Ok-Line.field-0-is at c.in-Ok-Line.ensures.number) in
    let line : c.content-line.result.now ≡ content (line_of c.next.new.self) = c.content-line.ensures ∙ ap (λ b. content (record { bytes = b; ended = c.ended-in-loop-turn.result })) c.line.ensures ∙ ap (λ b. content (record { bytes = c.next.new.self.line; ended = b })) c.ended-in-loop-turn.ensures in
    let unskipped : is_skipped c.content-line.result.now ≡ false = c.in-Err-Disk.ensures.unskipped in
    disk_along c.lines_are_taken.ensures start _ c.loop-turn.lines.number c.loop-turn.lines.ended c.loop-turn.events (g.C.Core.stands c.loop-turn.core) _ _ _ _ (g.N.Door.faults c.loop-turn.door) _ (g.N.Door.told c.loop-turn.door) i
    (FitsNow g.C.Core.rests g.C.Node.fits c.args.core (g.D.Disk.size c.args.disk.now) (g.D.Disk.told c.args.disk.now) (g.D.Disk.told c.take_any.new.disk)) (FitsOneNow g.C.Core.rests g.C.Node.fits g.C.Node.halts c.args.core (g.D.Disk.size c.args.disk.now) (g.D.Disk.told c.args.disk.now) (g.D.Disk.told c.take_any.new.disk))
    (FitsNow g.C.Core.rests g.C.Node.fits c.loop-turn.core (g.D.Disk.size c.loop-turn.disk) (g.D.Disk.told c.loop-turn.disk) (g.D.Disk.told c.take_any.new.disk)) (FitsOneNow g.C.Core.rests g.C.Node.fits g.C.Node.halts c.loop-turn.core (g.D.Disk.size c.loop-turn.disk) (g.D.Disk.told c.loop-turn.disk) (g.D.Disk.told c.take_any.new.disk))
    (λ q. known_on g.C.Core.rests c.args.core c.loop-turn.core (g.D.Disk.size c.args.disk.now) (g.D.Disk.size c.loop-turn.disk) (g.C.Node.fits q) (g.D.Disk.told c.args.disk.now) (g.D.Disk.told c.loop-turn.disk) (g.D.Disk.told c.take_any.new.disk) c.loop-turn.invariant.told)
    (λ q p. known_on g.C.Core.rests c.args.core c.loop-turn.core (g.D.Disk.size c.args.disk.now) (g.D.Disk.size c.loop-turn.disk) (FitsEither g.C.Node.fits g.C.Node.halts q p) (g.D.Disk.told c.args.disk.now) (g.D.Disk.told c.loop-turn.disk) (g.D.Disk.told c.take_any.new.disk) c.loop-turn.invariant.told)
    (record {}) g.C.Core.stands c.next.new.self.pending (g.S.Source.left c.next.new.source) _ (line_of c.next.new.self) (g.N.Door.faults c.take_any.new.door) (g.N.Door.told c.take_any.new.door)
    (c.in-Ok-Line.ensures.within (ap (λ l. Ok l) c.in-Ok-Line.field-0-is)) c.in-Ok-Line.ensures.ahead (rw c.in-Ok-Line.field-0-is at c.in-Ok-Line.ensures.gives) (ap is_skipped (sym line) ∙ unskipped)
    (λ n st is. subst (λ k. WhereTold (TakesCounted g.C.Core.stands (FitsNow g.C.Core.rests g.C.Node.fits c.loop-turn.core (g.D.Disk.size c.loop-turn.disk) (g.D.Disk.told c.loop-turn.disk) (g.D.Disk.told c.take_any.new.disk)) (FitsOneNow g.C.Core.rests g.C.Node.fits g.C.Node.halts c.loop-turn.core (g.D.Disk.size c.loop-turn.disk) (g.D.Disk.told c.loop-turn.disk) (g.D.Disk.told c.take_any.new.disk)) most_frames c.args.addr.now n (node_line (content (line_of c.next.new.self))) k (Err Disk) (g.O.Sink.took c.loop-turn.out) (g.O.Sink.took c.take_any.new.out) (g.N.Door.faults c.loop-turn.door) (g.N.Door.faults c.take_any.new.door)) (g.N.Door.told c.loop-turn.door) (g.N.Door.told c.take_any.new.door)) next
    (subst (λ l. WhereTold (TakesCounted g.C.Core.stands (FitsNow g.C.Core.rests g.C.Node.fits c.loop-turn.core (g.D.Disk.size c.loop-turn.disk) (g.D.Disk.told c.loop-turn.disk) (g.D.Disk.told c.take_any.new.disk)) (FitsOneNow g.C.Core.rests g.C.Node.fits g.C.Node.halts c.loop-turn.core (g.D.Disk.size c.loop-turn.disk) (g.D.Disk.told c.loop-turn.disk) (g.D.Disk.told c.take_any.new.disk)) most_frames c.args.addr.now n (node_line l) c.number-number.result (Err Disk) (g.O.Sink.took c.loop-turn.out) (g.O.Sink.took c.take_any.new.out) (g.N.Door.faults c.loop-turn.door) (g.N.Door.faults c.take_any.new.door)) (g.N.Door.told c.loop-turn.door) (g.N.Door.told c.take_any.new.door)) line
    (rw c.in-Err-Disk.field-0-is at (c.in-Err-Disk.ensures.takes unskipped n st is))))

pub loop-turn-preserved : goal.loop-turn-preserved
loop-turn-preserved g c =
    let next : c.number-number.result ≡ c.loop-turn.lines.number + 1 = c.number-number.ensures.value ∙ (rw c.in-Ok-Line.field-0-is at c.in-Ok-Line.ensures.number) in
    let more : c.loop-turn.lines.number < most_lines = c.in-Ok-Line.ensures.within (ap (λ l. Ok l) c.in-Ok-Line.field-0-is) in
    let line : c.content-line.result.now ≡ content (line_of c.next.new.self) = c.content-line.ensures ∙ ap (λ b. content (record { bytes = b; ended = c.ended-in-loop-turn.result })) c.line.ensures ∙ ap (λ b. content (record { bytes = c.next.new.self.line; ended = b })) c.ended-in-loop-turn.ensures in
    record {
      along = λ ready r s. (on_along c.lines_are_taken.ensures g.C.Core.stands (start_of most_frames c.args.addr.now c.args.lines.now.number r) _ c.loop-turn.lines.number c.loop-turn.lines.ended c.loop-turn.events c.loop-turn.core _ _ _ _ _ _ _ (c.loop-turn.invariant.along ready r s)
          _ _ (line_of c.next.new.self) c.content-line.result.now c.in-Ok.both c.next.new.self.number _ _ (sym c.if-not-ended.ensures) (sym c.number-number.ensures.value ∙ next) more (rw c.in-Ok-Line.field-0-is at c.in-Ok-Line.ensures.gives) line
          (λ e. let h = c.in-Ok.ensures.skips e in (ok_is _ _ h.0, ap g.O.Sink.took h.1, ap g.N.Door.faults h.2, ap g.N.Door.told h.2))
          c.in-Ok.ensures.counts (λ e n st is. subst (λ k. WhereTold (Taken most_frames c.args.addr.now n k (node_line c.content-line.result.now) (g.C.Core.stands c.in-Ok.both.0) (Appends (g.O.Sink.took c.loop-turn.out) (g.O.Sink.took c.take_any.new.out)) (g.N.Door.faults c.loop-turn.door) (g.N.Door.faults c.take_any.new.door)) (g.N.Door.told c.loop-turn.door) (g.N.Door.told c.take_any.new.door)) c.number-number.ensures.value (c.in-Ok.ensures.takes e n st is)));
      reaches = λ ready. on_reaches c.lines_are_taken.ensures c.args.lines.now.number _ c.loop-turn.lines.number c.loop-turn.lines.ended _ (c.loop-turn.invariant.reaches ready)
          _ (line_of c.next.new.self) c.content-line.result.now c.next.new.self.number (sym c.number-number.ensures.value ∙ next) more (rw c.in-Ok-Line.field-0-is at c.in-Ok-Line.ensures.gives) line c.in-Ok.ensures.good;
      rests = c.in-Ok.ensures.rests;
      told = known_on g.C.Core.rests c.args.core c.loop-turn.core (g.D.Disk.size c.args.disk.now) (g.D.Disk.size c.loop-turn.disk) (λ t. g.C.Core.rests c.in-Ok.both.0 (g.D.Disk.size c.take_any.new.disk) (Some t)) (g.D.Disk.told c.args.disk.now) (g.D.Disk.told c.loop-turn.disk) (g.D.Disk.told c.take_any.new.disk) c.loop-turn.invariant.told c.in-Ok.ensures.told;
      events = omega (arith, c.in-Ok.ensures.few, c.loop-turn.invariant.events);
      steps = omega (arith, c.in-Ok.ensures.steps, c.loop-turn.invariant.steps);
      number = omega (arith, next, c.number-number.ensures.value, c.loop-turn.invariant.number);
      small = λ h. omega (arith, next, c.number-number.ensures.value, more);
      last = λ e. absurd (false≢true (sym (c.loop-turn.invariant.last e) ∙ sym c.if-not-ended.ensures));
      running = λ none. c.in-Ok-Line.ensures.stop;
      unstopped = λ e. let f = sym c.in-Ok-Line.ensures.stop ∙ e in cc;
      read = omega (arith, c.loop-turn.invariant.read, c.in-Ok-Line.ensures.later);
      disk = omega (arith, c.loop-turn.invariant.disk, c.in-Ok.ensures.disk);
      reads_served = c.in-Ok-Line.ensures.served (λ other. let no : ⊥ = cc in no) ∙ c.loop-turn.invariant.reads_served;
      writes_served = c.in-Ok.ensures.writes_served (λ other. let no : ⊥ = cc in no) ∙ c.loop-turn.invariant.writes_served;
      disk_served = c.in-Ok.ensures.disk_served (λ other. let no : ⊥ = cc in no) ∙ c.loop-turn.invariant.disk_served;
      wrote = omega (arith, c.loop-turn.invariant.wrote, c.in-Ok.ensures.later);
    }

pub returns-then-not-ended-clause-places : goal.returns-then-not-ended-clause-places
returns-then-not-ended-clause-places g c ready =
    last_placed c.lines_are_taken.ensures c.args.lines.now.number _ c.loop-turn.lines.number c.loop-turn.lines.ended _ (c.loop-turn.invariant.reaches ready) c.loop-turn.lines.pending (g.S.Source.left c.loop-turn.source) c.end_node.result refl (sym c.if-not-ended.ensures) c.end_node.ensures.last

pub returns-in-Ok-End-clause-places : goal.returns-in-Ok-End-clause-places
returns-in-Ok-End-clause-places g c ready =
    end_placed c.lines_are_taken.ensures c.args.lines.now.number _ c.loop-turn.lines.number c.loop-turn.lines.ended _ (c.loop-turn.invariant.reaches ready) c.next.new.self.pending (g.S.Source.left c.next.new.source) _ c.end_node-in-Ok-End.result (rw c.in-Ok-End.field-0-is at c.in-Ok-End.ensures.gives) c.end_node-in-Ok-End.ensures.last

pub returns-in-Err-clause-places : goal.returns-in-Err-clause-places
returns-in-Err-clause-places g c ready =
    let u = c.loop-turn.invariant.running ready.running in
    rw (c.stop_status.ensures, c.number.ensures.value, c.in-Err.ensures.number)
    (stop_placed c.lines_are_taken.ensures c.args.lines.now.number _ c.loop-turn.lines.number c.loop-turn.lines.ended _ (c.loop-turn.invariant.reaches ready) (g.S.Source.left c.next.new.source) c.in-Err.stop
    (λ e. running_alone u (c.in-Err.ensures.long (ap (λ s. Err s) e))) (λ e. running_alone u (c.in-Err.ensures.many (ap (λ s. Err s) e))))

pub returns-in-Err-Ends-clause-places : goal.returns-in-Err-Ends-clause-places
returns-in-Err-Ends-clause-places g c ready =
    let next : c.number-number.result ≡ c.loop-turn.lines.number + 1 = c.number-number.ensures.value ∙ (rw c.in-Ok-Line.field-0-is at c.in-Ok-Line.ensures.number) in
    let line : c.content-line.result.now ≡ content (line_of c.next.new.self) = c.content-line.ensures ∙ ap (λ b. content (record { bytes = b; ended = c.ended-in-loop-turn.result })) c.line.ensures ∙ ap (λ b. content (record { bytes = c.next.new.self.line; ended = b })) c.ended-in-loop-turn.ensures in
    rw c.in-Err-Ends.status-is
    (line_placed c.lines_are_taken.ensures c.args.lines.now.number _ c.loop-turn.lines.number c.loop-turn.lines.ended _ (c.loop-turn.invariant.reaches ready) c.next.new.self.pending (g.S.Source.left c.next.new.source) (line_of c.next.new.self) c.content-line.result.now c.number-number.result c.in-Err-Ends.status next
    (c.in-Ok-Line.ensures.within (ap (λ l. Ok l) c.in-Ok-Line.field-0-is)) (rw c.in-Ok-Line.field-0-is at c.in-Ok-Line.ensures.gives) line c.in-Err-Ends.ensures.unskipped
    (rw c.in-Err-Ends.field-0-is at c.in-Err-Ends.ensures.ends) (λ at fault is. c.in-Err-Ends.ensures.bad at fault (ap (λ s. Err s) c.in-Err-Ends.field-0-is ∙ ap (λ s. Err (Ends s)) is)))

pub returns-in-Err-Disk-clause-places : goal.returns-in-Err-Disk-clause-places
returns-in-Err-Disk-clause-places g c ready = disk_placed _

pub returns-in-Err-clause-reads_served : goal.returns-in-Err-clause-reads_served
returns-in-Err-clause-reads_served g c other =
    c.in-Err.ensures.served (λ is. let stop : c.in-Err.stop ≡ ReadStop = cc in other (ap (λ s. Ok s) (c.stop_status.ensures ∙ ap (λ s. stop_status s c.number.result) stop))) ∙ c.loop-turn.invariant.reads_served
