use Rattle.std.proofs.Common.{sym, arith}
use Rattle.fuxi_terms.specs.Vectors.{plus}
use Rattle.fuxi_terms.proofs.ByPlace.{fits_not, fits_from, get_or-plus, length-plus}
use Rattle.quota_group.proofs.sum_within.Goals as goal

pub returns-then-used-i : goal.returns-then-used-i
returns-then-used-i c =
    let p = get_or-plus c.args.used.now.q c.args.size.now.q c.loop-i.i in
    sym (fits_not (plus c.args.used.now.q c.args.size.now.q) c.args.most.now.q c.loop-i.i (omega (arith, p)))

pub returns : goal.returns
returns c = sym (fits_from (plus c.args.used.now.q c.args.size.now.q) c.args.most.now.q (λ k h.
    let n = length-plus c.args.used.now.q c.args.size.now.q (omega arith) in
    let i = c.loop-i.invariant k (omega (arith, h, n)) in
    let p = get_or-plus c.args.used.now.q c.args.size.now.q k in
    omega (arith, i, p)))
