use Rattle.std.proofs.Common.{ℕ, ◌∙◌, List, Bor}
use Rattle.fuxi_io.proofs.WrittenLemmas.{more_written, part_written}
use Rattle.fuxi_io.proofs.pieces.write_pieces.Goals as goal

pub loop-piece-preserved : goal.loop-piece-preserved
loop-piece-preserved g c = record {
  written = more_written (λ (piece : Bor (List ℕ)). piece.now) _ c.args.pieces.now c.loop-piece.piece-index _ _ _ _ c.loop-piece-test.true c.loop-piece.invariant.written c.in-Ok.ensures.ok;
  faults = c.in-Ok.ensures.served ∙ c.loop-piece.invariant.faults;
}

pub returns-in-Err-clause-err : goal.returns-in-Err-clause-err
returns-in-Err-clause-err g c = part_written (λ (piece : Bor (List ℕ)). piece.now) _ c.args.pieces.now c.loop-piece.piece-index _ _ _ _ c.loop-piece-test.true c.loop-piece.invariant.written c.in-Err.ensures.err
