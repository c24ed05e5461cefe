use Rattle.std.proofs.Common.{◌<◌, sym, subst, arith}
use Rattle.fuxi_io.specs.Pieces.{NoNewline}
use Rattle.fuxi_io.proofs.LinesLemmas.{has_newline}
use Rattle.fuxi_io.proofs.piece.Piece.has_newline.Goals as goal

pub returns : goal.returns
returns c waits none =
    let p = c.self.inside in
    let is = c.self.invariant in
    let more : p.end < p.to = grind (arith, is, waits) in
    has_newline p.bytes.items p.from p.end p.to is.0 more is.2 (is.4.1 more) (subst NoNewline (sym c.self.view_is) none)
