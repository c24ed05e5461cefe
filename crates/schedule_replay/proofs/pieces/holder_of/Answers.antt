use Rattle.std.proofs.Common.{◌<◌, ◌+◌, ◌-◌, ◌/◌, length, ap, arith}
use Rattle.schedule_replay.specs.FullPieces.{first_at}
use Rattle.schedule_replay.specs.declared.pieces.Piece.{Piece}
use Rattle.schedule_replay.proofs.FullPiecesLemmas.{first_is, later, starts}
use Rattle.schedule_replay.proofs.pieces.holder_of.Goals as goal

pub returns-then-pieces-last-clause-first : goal.returns-then-pieces-last-clause-first
returns-then-pieces-last-clause-first c =
    let yes = c.if-pieces-last.true in
    let here = first_is c.args.pieces.now (length c.args.pieces.now - 1) c.index-pieces-last.result (omega (arith, c.requires.some)) c.index-pieces-last.is in
    omega (arith, here, yes, ap (λ (s : Piece). s.first) c.index-pieces-last.is)

pub loop-high-init : goal.loop-high-init
loop-high-init c =
    let no = c.if-pieces-last.false in
    let here = first_is c.args.pieces.now (length c.args.pieces.now - 1) c.index-pieces-last.result (omega (arith, c.requires.some)) c.index-pieces-last.is in
    let before : c.args.at < first_at c.args.pieces.now (length c.args.pieces.now - 1) = omega (arith, here, no, ap (λ (s : Piece). s.first) c.index-pieces-last.is) in
    record {
      some = later c.args.pieces.now c.args.at (length c.args.pieces.now - 1) c.requires.each c.requires.some before;
      inside = omega (arith, c.requires.some);
      first = omega (arith, starts c.args.pieces.now c.requires.each c.requires.some);
      next = λ l. before;
    }

pub loop-high-preserved-then-pieces-middle : goal.loop-high-preserved-then-pieces-middle
loop-high-preserved-then-pieces-middle c =
    let was = c.loop-high.invariant in
    let test = c.loop-high-test.true in
    let yes = c.if-pieces-middle.true in
    let here = first_is c.args.pieces.now (c.loop-high.low + (c.loop-high.high - c.loop-high.low) / 2) c.index-pieces-middle.result (omega (arith, test, was.inside)) c.index-pieces-middle.is in
    record { some = omega (arith, test); inside = was.inside; first = omega (arith, here, yes, ap (λ (s : Piece). s.first) c.index-pieces-middle.is); next = was.next }

pub loop-high-preserved : goal.loop-high-preserved
loop-high-preserved c =
    let was = c.loop-high.invariant in
    let test = c.loop-high-test.true in
    let no = c.if-pieces-middle.false in
    let here = first_is c.args.pieces.now (c.loop-high.low + (c.loop-high.high - c.loop-high.low) / 2) c.index-pieces-middle.result (omega (arith, test, was.inside)) c.index-pieces-middle.is in
    record { some = omega (arith, test); inside = omega (arith, test, was.inside); first = was.first; next = λ l. omega (arith, here, no, ap (λ (s : Piece). s.first) c.index-pieces-middle.is) }
