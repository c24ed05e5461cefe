use Rattle.std.proofs.Common.{◌≡◌, drop, map}
use Rattle.std.specs.List.{concat}
use Rattle.fuxi_io.specs.Written.{Written}
use Rattle.fuxi_io.proofs.pieces.write_pieces.Given as goal

abbrev pub invariant-loop-piece : goal.invariant-loop-piece
invariant-loop-piece g l = record {
  written : Written (concat (map (λ piece. piece.now) l.pieces)) (concat (map (λ piece. piece.now) (drop l.piece-index l.pieces))) (g.O.Sink.took l.fn.out) (g.O.Sink.took l.out);
  faults : g.O.Sink.faults l.out ≡ g.O.Sink.faults l.fn.out;
}
