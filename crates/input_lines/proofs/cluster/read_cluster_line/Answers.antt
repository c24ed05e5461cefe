use Rattle.std.proofs.Common.{◌≡◌, ◌+◌, Ok, Err, refl, sym, ◌∙◌, ap, subst, arith}
use Rattle.fuxi_io.specs.Reading.{line_of}
use Rattle.cluster_desc.specs.ClusterLine.{cluster_of}
use Rattle.cluster_desc.specs.Faults.{IsFault}
use Rattle.input_lines.specs.Contents.{content, is_skipped}
use Rattle.input_lines.proofs.Known.{line_said, running_alone}
use Rattle.input_lines.proofs.OpeningsLemmas.{seek_start, seek_more, seek_cluster, seek_fault, seek_last, seek_stop}
use Rattle.input_lines.proofs.cluster.read_cluster_line.Goals as goal

pub loop-turn-init : goal.loop-turn-init
loop-turn-init g c = record {
  seeking = λ none. seek_start c.lines_are_taken.ensures _ c.args.lines.now.number;
  number = omega arith;
  ahead = λ h. absurd (omega (arith, h));
  small = λ h. absurd (omega (arith, h));
  running = λ e. e;
  unstopped = c.requires;
  same = refl;
}

pub returns-in-Ok-clause-opened : goal.returns-in-Ok-clause-opened
returns-in-Ok-clause-opened g c none =
    let i = c.loop-turn.invariant.seeking none in
    let next : c.number-number.result ≡ c.loop-turn.lines.number + 1 = omega (arith, c.number-number.ensures.value, (rw c.in-Ok-Line.field-0-is at c.in-Ok-Line.ensures.number)) in
    let line : c.content-line.result.now ≡ content (line_of c.next.new.self) = line_said _ _ _ c.next.new.self c.content-line.ensures c.line.ensures c.ended.ensures in
    seek_cluster c.lines_are_taken.ensures _ _ c.loop-turn.lines.number _ i c.next.new.self (g.S.Source.left c.next.new.source) _ (sym c.number-number.ensures.value ∙ next) (c.in-Ok-Line.ensures.within (ap (λ l. Ok l) c.in-Ok-Line.field-0-is)) (rw c.in-Ok-Line.field-0-is at c.in-Ok-Line.ensures.gives)
    (ap is_skipped (sym line) ∙ sym c.if-not-is_skipped.ensures) (ap cluster_of (sym line) ∙ c.in-Ok.ensures.ok)

pub returns-in-Err-clause-opened : goal.returns-in-Err-clause-opened
returns-in-Err-clause-opened g c none =
    let i = c.loop-turn.invariant.seeking none in
    let r = c.loop-turn.invariant.running none in
    rw (c.stop_status.ensures, c.number-in-Err.ensures.value, c.in-Err.ensures.number)
    (seek_stop c.lines_are_taken.ensures _ _ c.loop-turn.lines.number _ i c.next.new.self (g.S.Source.left c.next.new.source) c.in-Err.stop (λ e. running_alone r (c.in-Err.ensures.broke (ap (λ s. Err s) e))) (λ e. running_alone r (c.in-Err.ensures.long (ap (λ s. Err s) e))) (λ e. running_alone r (c.in-Err.ensures.many (ap (λ s. Err s) e))))

pub returns-in-Err-read_cluster-clause-opened : goal.returns-in-Err-read_cluster-clause-opened
returns-in-Err-read_cluster-clause-opened g c none =
    let i = c.loop-turn.invariant.seeking none in
    let next : c.number-number.result ≡ c.loop-turn.lines.number + 1 = omega (arith, c.number-number.ensures.value, (rw c.in-Ok-Line.field-0-is at c.in-Ok-Line.ensures.number)) in
    let line : c.content-line.result.now ≡ content (line_of c.next.new.self) = line_said _ _ _ c.next.new.self c.content-line.ensures c.line.ensures c.ended.ensures in
    rw (c.cluster_status.ensures, next)
    (seek_fault c.lines_are_taken.ensures _ _ c.loop-turn.lines.number _ i c.next.new.self (g.S.Source.left c.next.new.source) c.in-Err-read_cluster.fault (c.in-Ok-Line.ensures.within (ap (λ l. Ok l) c.in-Ok-Line.field-0-is)) c.in-Ok-Line.ensures.ahead (rw c.in-Ok-Line.field-0-is at c.in-Ok-Line.ensures.gives)
    (ap is_skipped (sym line) ∙ sym c.if-not-is_skipped.ensures) (subst (λ l. IsFault (cluster_of l) c.in-Err-read_cluster.fault) line c.in-Err-read_cluster.ensures.fault))

pub returns-then-not-ended-clause-opened : goal.returns-then-not-ended-clause-opened
returns-then-not-ended-clause-opened g c none =
    let i = c.loop-turn.invariant.seeking none in
    let next : c.number-number.result ≡ c.loop-turn.lines.number + 1 = omega (arith, c.number-number.ensures.value, (rw c.in-Ok-Line.field-0-is at c.in-Ok-Line.ensures.number)) in
    let line : c.content-line.result.now ≡ content (line_of c.next.new.self) = line_said _ _ _ c.next.new.self c.content-line.ensures c.line.ensures c.ended.ensures in
    rw (c.no_cluster-then-not-ended.ensures, next)
    (seek_last c.lines_are_taken.ensures _ _ c.loop-turn.lines.number _ i c.next.new.self (g.S.Source.left c.next.new.source) _ (line_of c.next.new.self) (sym c.if-not-ended.ensures) (c.in-Ok-Line.ensures.within (ap (λ l. Ok l) c.in-Ok-Line.field-0-is)) (rw c.in-Ok-Line.field-0-is at c.in-Ok-Line.ensures.gives)
    (ap is_skipped (sym line) ∙ sym c.if-not-is_skipped.ensures))

pub loop-turn-preserved : goal.loop-turn-preserved
loop-turn-preserved g c =
    let next : c.number-number.result ≡ c.loop-turn.lines.number + 1 = omega (arith, c.number-number.ensures.value, (rw c.in-Ok-Line.field-0-is at c.in-Ok-Line.ensures.number)) in
    let more = c.in-Ok-Line.ensures.within (ap (λ l. Ok l) c.in-Ok-Line.field-0-is) in
    let line : c.content-line.result.now ≡ content (line_of c.next.new.self) = line_said _ _ _ c.next.new.self c.content-line.ensures c.line.ensures c.ended.ensures in
    record {
      seeking = λ none. seek_more c.lines_are_taken.ensures _ _ c.loop-turn.lines.number _ (c.loop-turn.invariant.seeking none) _ (line_of c.next.new.self) _ (sym c.number-number.ensures.value ∙ next) (sym c.if-not-ended.ensures) more (rw c.in-Ok-Line.field-0-is at c.in-Ok-Line.ensures.gives)
          (ap is_skipped (sym line) ∙ sym c.if-not-is_skipped.ensures);
      number = omega (arith, next, c.number-number.ensures.value, c.loop-turn.invariant.number);
      ahead = λ h. c.in-Ok-Line.ensures.ahead;
      small = λ h. omega (arith, next, c.number-number.ensures.value, more);
      running = λ none. c.in-Ok-Line.ensures.stop;
      unstopped = λ e. let f = sym c.in-Ok-Line.ensures.stop ∙ e in cc;
      same = c.in-Ok-Line.ensures.served (λ e. cc) ∙ c.loop-turn.invariant.same;
    }
