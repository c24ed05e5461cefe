use Rattle.std.proofs.Common.{sym, arith}
use Rattle.fuxi_terms.proofs.ByPlace.{fits_not, fits_from}
use Rattle.res_vector.proofs.fits.Goals as goal

pub returns-then-size-i : goal.returns-then-size-i
returns-then-size-i c = sym (fits_not c.args.size.now.q c.args.free.now.q c.loop-i.i (omega arith))

pub returns : goal.returns
returns c = sym (fits_from c.args.size.now.q c.args.free.now.q (λ k h. c.loop-i.invariant k (omega arith)))
