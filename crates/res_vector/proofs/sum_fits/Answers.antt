use Rattle.std.proofs.Common.{sym, arith}
use Rattle.fuxi_terms.proofs.ByPlace.{fits_not, fits_from}
use Rattle.res_vector.proofs.sum_fits.Goals as goal

pub returns-then-total-i : goal.returns-then-total-i
returns-then-total-i c = sym (fits_not c.args.total.now.q c.args.has.now.q c.loop-i.i (omega arith))

pub returns : goal.returns
returns c = sym (fits_from c.args.total.now.q c.args.has.now.q (λ k h. c.loop-i.invariant k (omega arith)))
